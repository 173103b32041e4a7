use Rattle.std.proofs.Common.{sym, ◌∙◌}
use Rattle.window.specs.Layout.{registers, functions}
use Rattle.window.proofs.Theory.Performing.{equal_within, equal_moved}
use Rattle.window.proofs.Window.test_equal.Goals as goal

pub returns-then-holds : goal.returns-then-holds
returns-then-holds c = equal_within registers functions _ _ _ (sym c.holds.ensures ∙ c.if-holds.true)

pub returns : goal.returns
returns c = equal_moved registers functions c.args.self.now _ _ _ _ _ _ (sym c.holds.ensures ∙ c.if-holds.false) c.merge.ensures c.close.ensures
    c.clash-bad.ensures c.settle.ensures
