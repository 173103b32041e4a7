-- What follows from the definitions of specs/Prints.antt.
use mathlib.Core.List.{List}
use Prim.Native.Nat.{ℕ}
use Rattle.model_lines.specs.Prints.{PrintsModelLine}

-- The line is that of what was read.
pub record PrintsRead (entry : List ℕ) (size : ℕ) (exit : List ℕ) : Type 0 where
  pub read : List ℕ
  pub prints : PrintsModelLine read entry size exit
