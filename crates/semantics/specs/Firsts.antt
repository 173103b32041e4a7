-- The first of each kind in a list, in order, and the place of an element: how values and rows of the shown model are given out (SPEC 7.2, 7.3).
use Rattle.std.specs.Prelude.{Bool, List, [], ◌∷◌, ◌++◌, ℕ, suc}
use Rattle.base.specs.Choice.{pick}
use Rattle.semantics.specs.Lists.{any}

module _ {A : Type 0} where
  -- The elements kept so far, and after them those of the list that are the same as none kept before them.
  unfoldable pub firsts_after : (A → A → Bool) → List A → List A → List A
  firsts_after same kept [] = kept
  firsts_after same kept (x ∷ xs) = pick (any (same x) kept) (λ _. firsts_after same kept xs) λ _. firsts_after same (kept ++ x ∷ []) xs

  -- The place, counted from k, of the first element that passes; 0 if none does.
  unfoldable pub first_place : (A → Bool) → ℕ → List A → ℕ
  first_place p k [] = 0
  first_place p k (x ∷ xs) = pick (p x) (λ _. k) λ _. first_place p (suc k) xs
