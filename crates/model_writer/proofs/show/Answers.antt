use Rattle.std.proofs.Common.{[], arith}
use Rattle.std.proofs.lemmas.Result.{err_from_is_err_and}
use Rattle.model_writer.proofs.Theory.AnswerLaws.{showed_refused, bytes_enough, showed_long, begun}
use Rattle.model_writer.proofs.show.Goals as goal

pub returns-in_err-header : goal.returns-in_err-header
returns-in_err-header c = let p = err_from_is_err_and c.from_residual.result c.from_residual.ensures.1 in
    rw (p.1, p.2) (showed_refused _ _ c.read_beginning.ensures _ c.in_err-header.was)

pub overflow_sub-letters : goal.overflow_sub-letters
overflow_sub-letters c = let h = bytes_enough _ _ c.read_beginning.ensures [] c.in_ok-header.was in omega arith

pub returns-then-letters-gt-MOST_LETTERS : goal.returns-then-letters-gt-MOST_LETTERS
returns-then-letters-gt-MOST_LETTERS c = rw c.at.ensures
    (showed_long _ _ c.read_beginning.ensures _ c.in_ok-header.was c.if-letters-gt-MOST_LETTERS.true)

pub show_trace-requires : goal.show_trace-requires
show_trace-requires c = begun _ _ c.read_beginning.ensures [] c.in_ok-header.was c.if-letters-gt-MOST_LETTERS.false
