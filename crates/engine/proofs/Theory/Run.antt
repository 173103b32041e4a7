-- What follows from the definitions of specs/Run.antt.
use mathlib.Core.Path.{◌≡◌}
use mathlib.Core.List.{List}
use Prim.Native.Nat.{ℕ}
use Rattle.letters.specs.declared.Header.{Header}
use Rattle.letters.specs.declared.Letter.{Letter}
use Rattle.engine.specs.Run.{reading_from, behind}

-- The letters between the numbers k and i are well formed.
pub record Following (s : List ℕ) (h : Header) (count k i : ℕ) : Type 0 where
  pub letters : List Letter
  pub rest : reading_from s h count k ≡ behind letters (reading_from s h count i)
