use Rattle.window.specs.Performing.{applied_of}
use Rattle.window.proofs.Window.compute.Goals as goal

pub returns : goal.returns
unfolding applied_of
returns c = rw (
  c.forget_masks.ensures,
  c.single.ensures,
  c.forget_masks-2.ensures,
  c.renew_results.ensures,
  c.forget_masks-3.ensures,
  c.add_line.ensures,
  c.add_marks.ensures,
  c.fallen.ensures,
  c.arguments.ensures,
  c.count_made-self.ensures,
)
