use Rattle.std.proofs.Common.{ap, sym, ◌∙◌, Err}
use Rattle.phrases.proofs.Theory.Answers.{used_some, used_none}
use Rattle.phrases.proofs.use_of.Goals as goal

pub returns-in-Some : goal.returns-in-Some
returns-in-Some c = used_some c.args.list.now c.args.t (sym c.if-not-is_name.ensures) c.find.ensures c.in-Some.is

pub returns-in-None : goal.returns-in-None
returns-in-None c = ap Err c.at.ensures ∙ used_none c.args.list.now c.args.t (sym c.if-not-is_name.ensures) c.find.ensures c.in-None.is
