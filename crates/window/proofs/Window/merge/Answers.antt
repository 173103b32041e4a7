use Rattle.window.specs.Performing.{merged_of}
use Rattle.window.specs.Counting.{one_fewer}
use Rattle.window.proofs.Window.merge.Goals as goal

pub returns : goal.returns
unfolding merged_of one_fewer
returns c = rw (
  c.merge_masks.ensures,
  c.merge_masks-2.ensures,
  c.merge_results.ensures,
  c.merge_masks-3.ensures,
  c.saturating_sub-self.ensures,
  c.both-to.ensures.value,
)
