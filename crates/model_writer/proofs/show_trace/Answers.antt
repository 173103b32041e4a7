use Rattle.std.proofs.Common.{[], Ok, ap, ◌∙◌, replicate, rules}
use Rattle.std.proofs.lemmas.Result.{err_from_is_err_and}
use Rattle.engine.specs.Run.{Blank}
use Rattle.closure.specs.Limits.{most_terms}
use Rattle.closure.proofs.Theory.Clashing.{zeros}
use Rattle.model_writer.proofs.Theory.AnswerLaws.{showed_malformed, showed_stopped, showed_model, known}
use Rattle.model_writer.proofs.show_trace.Goals as goal

blank : Blank (replicate most_terms 0)
blank = record { long = search rules; zero = zeros most_terms }

pub run-requires : goal.run-requires
run-requires c = (c.requires, (blank, blank, blank, blank))

pub returns-in_err-k : goal.returns-in_err-k
returns-in_err-k c = let p = err_from_is_err_and c.from_residual.result c.from_residual.ensures.1 in
    rw (p.1, p.2) (showed_malformed _ _ _ c.requires _ _ c.run.ensures.ran c.in_err-k.was)

pub returns-in-Some : goal.returns-in-Some
returns-in-Some c = showed_stopped _ _ _ c.requires _ _ c.run.ensures.ran (c.in_ok-k.was ∙ ap Ok c.in-Some.is) _ c.name_infeasible.ensures

pub show_model-requires : goal.show_model-requires
show_model-requires c = (known _ _ _ c.requires [] c.run.ensures.ran (c.in_ok-k.was ∙ ap Ok c.in-None.is), c.run.ensures.registers)

pub returns-in-None : goal.returns-in-None
returns-in-None c = showed_model _ _ _ c.requires _ c.run.ensures.ran (c.in_ok-k.was ∙ ap Ok c.in-None.is) _ _ c.show_model.ensures
