use Rattle.std.proofs.Common.{ap, ◌∙◌, ◌*◌, ◌^◌, ◌<◌, bit_and, eqb, arith}
use mathlib.Core.Bool.{not}
use lib.Pow.{shl_exact}
use Rattle.window.specs.Layout.{registers, word_bits}
use Rattle.window.specs.Performing.{apart_of}
use Rattle.window.proofs.Theory.Rows.{apart_word}
use Rattle.window.proofs.apart.Goals as goal

pub returns : goal.returns
unfolding apart_of
returns c =
    let a = c.args in
    let small : c.from.result < 2 ^ registers = omega arith in
    ap (λ m. not (eqb (bit_and c.joined_rows.result m) 0)) (shl_exact registers (registers * a.a) word_bits small (omega arith))
    ∙ rw (c.joined_rows.ensures.value, c.from.ensures)
    (apart_word registers a.unequal.now registers a.a a.others c.joined_rows.ensures.small c.requires (omega arith))
