use mathlib.Core.Path.{sym}
use Prim.Native.Nat.{ℕ}
use lib.ListN.{length-replicate}
use Rattle.display_lines.specs.Prints.{most_display_line_bytes}
use Rattle.display_lines.proofs.line_space.Goals as goal

pub returns : goal.returns
returns c = sym (length-replicate {A = ℕ} most_display_line_bytes 0)
