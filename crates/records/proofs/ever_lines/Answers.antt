use Rattle.std.proofs.Common.{arith}
use Rattle.window.proofs.Theory.Table.{swept_more}
use Rattle.records.specs.Formats.{ever_in_format}
use Rattle.records.proofs.Turns.{ever_past, swept_zeros}
use Rattle.records.proofs.ever_lines.Goals as goal

pub loop-j-preserved-then-half_in-eq0 : goal.loop-j-preserved-then-half_in-eq0
loop-j-preserved-then-half_in-eq0 c =
    ever_past c.args.part.now c.requires c.loop-j.ever c.loop-j.j _ (omega arith) c.half_in.ensures c.if-half_in-eq0.true c.loop-j.invariant

pub loop-j-preserved : goal.loop-j-preserved
loop-j-preserved c = swept_more _ 0 _ c.loop-j.j c.loop-j.ever _ c.loop-j.invariant (omega arith) c.ever_line.ensures

pub returns : goal.returns
unfolding ever_in_format
returns c = swept_zeros _ 32 c.loop-j.j c.loop-j.ever c.loop-j.invariant (omega arith)
