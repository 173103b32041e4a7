use Rattle.std.proofs.Common.{get_or}
use Rattle.window.specs.Bits.{mask_moved}
use Rattle.window.proofs.Theory.Table.{Swept}
use Rattle.window.proofs.move_bits.Given as goal

abbrev pub invariant-loop-mask : goal.invariant-loop-mask
invariant-loop-mask l = Swept (λ k. mask_moved (get_or l.fn.t k 0) l.from l.to) 0 l.fn.t l.mask-index l.t
