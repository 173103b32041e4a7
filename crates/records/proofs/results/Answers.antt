use Rattle.std.proofs.Common.{arith, ◌+◌, ◌*◌}
use Rattle.window.proofs.Theory.Table.{swept_none}
use Rattle.records.specs.Records.{results_meant}
use Rattle.records.proofs.Turns.{results_past, results_turn, swept_moved, swept_zeros}
use Rattle.records.proofs.results.Goals as goal

pub loop-j-init : goal.loop-j-init
loop-j-init c = swept_none _ _ _

pub loop-j-preserved-then-half_in-eq0 : goal.loop-j-preserved-then-half_in-eq0
loop-j-preserved-then-half_in-eq0 c =
    results_past c.args.part.now c.requires.0 c.args.meanings.now c.loop-j.results c.loop-j.j _ (omega arith) c.requires.1 c.half_in.ensures
    c.if-half_in-eq0.true c.loop-j.invariant

pub loop-k-init : goal.loop-k-init
loop-k-init c = swept_moved _ _ (8 * c.loop-j.j) (8 * c.loop-j.j + 2 * 0) _ (omega arith) c.loop-j.invariant

pub loop-k-preserved : goal.loop-k-preserved
loop-k-preserved c =
    results_turn c.args.part.now c.requires.0 c.args.meanings.now c.loop-k.results c.loop-j.j c.loop-k.k _ (omega arith) (omega arith) c.from-both.ensures
    (omega (arith, c.type_inv.part (32 + 4 * c.loop-j.j + c.loop-k.k)))
    c.loop-k.invariant

pub loop-j-preserved : goal.loop-j-preserved
loop-j-preserved c = swept_moved _ _ (8 * c.loop-j.j + 2 * c.loop-k.k) (8 * (c.loop-j.j + 1)) _ (omega arith) c.loop-k.invariant

pub returns : goal.returns
unfolding results_meant
returns c = swept_zeros _ 256 (8 * c.loop-j.j) c.loop-j.results c.loop-j.invariant (omega arith)
