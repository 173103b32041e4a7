use Rattle.std.proofs.Common.{sym, ◌∙◌}
use Rattle.window.specs.Layout.{registers, functions}
use Rattle.window.proofs.Theory.Performing.{copied_within}
use Rattle.window.specs.Performing.{copied_tables, copied_of}
use Rattle.window.proofs.Window.copy.Goals as goal

pub returns-then-holds : goal.returns-then-holds
returns-then-holds c = copied_within registers functions _ _ _ (sym c.holds.ensures ∙ c.if-holds.true)

pub returns : goal.returns
unfolding copied_of copied_tables
returns c = rw (
  sym c.holds.ensures ∙ c.if-holds.false,
  c.copy_masks.ensures,
  c.copy_masks-2.ensures,
  c.copy_results.ensures,
  c.copy_masks-3.ensures,
  c.add_marks.ensures,
  c.fallen.ensures,
  c.count_left-self.ensures,
)
