use mathlib.Core.Path.{ap, ◌∙◌}
use native.Mathlib.Omega.{arith}
use Rattle.base.specs.LeastAndSize.{size_of}
use Rattle.window.specs.Layout.{registers}
use Rattle.window.specs.Counting.{counted_classes}
use Rattle.window.proofs.Theory.Sizes.{size_most}
use Rattle.window.proofs.counted_classes.Goals as goal

pub overflow_cast-result : goal.overflow_cast-result
unfolding counted_classes
overflow_cast-result c = record { fits = omega (arith, c.size.ensures, size_most registers c.names.result) }

pub returns : goal.returns
unfolding counted_classes
returns c = c.size.ensures ∙ ap (size_of registers) c.names.ensures
