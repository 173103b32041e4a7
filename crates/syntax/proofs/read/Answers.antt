use Rattle.syntax.proofs.Theory.Reads.{reads, numbered_macro, numbered_refusal, by_grammar}
use Rattle.syntax.proofs.read.Goals as goal

pub returns-in-Ok : goal.returns-in-Ok
returns-in-Ok c = reads _ _ (numbered_macro _ (by_grammar _ c.compiled.ensures.0) c.in-Ok.is)

pub returns-in-Err : goal.returns-in-Err
returns-in-Err c = reads _ _ (numbered_refusal _ (by_grammar _ c.compiled.ensures.0) c.in-Err.is _ c.into.ensures _ c.no_macro.ensures)
