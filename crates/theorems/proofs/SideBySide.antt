-- Three lists of numbers side by side, each place of which is read as one thing: what a change at a place, and what one in a range, is of the list that is
-- read. The laws hold for lists of any length, so that a lent array needs no length in a contract for them.
use mathlib.Core.Path.{◌≡◌, refl, ap}
use Prim.Native.Nat.{ℕ, zero, suc}
use mathlib.Core.List.{List, [], ◌∷◌}
use lib.ListN.{set}
use Rattle.base.specs.Each.{each, each_from}

module _ {A : Type 0} (read : ℕ → ℕ → ℕ → A) where
  unfoldable pub points_of : List ℕ → List ℕ → List ℕ → List A
  points_of [] xs ys = []
  points_of (c ∷ cs) [] ys = []
  points_of (c ∷ cs) (x ∷ xs) [] = []
  points_of (c ∷ cs) (x ∷ xs) (y ∷ ys) = read c x y ∷ points_of cs xs ys

  pub points_set : (cs xs ys : List ℕ) (n c x y : ℕ) → points_of (set cs n c) (set xs n x) (set ys n y) ≡ set (points_of cs xs ys) n (read c x y)
  unfolding points_of
  points_set [] xs ys n c x y = refl
  points_set (e ∷ cs) [] ys zero c x y = refl
  points_set (e ∷ cs) [] ys (suc n) c x y = refl
  points_set (e ∷ cs) (a ∷ xs) [] zero c x y = refl
  points_set (e ∷ cs) (a ∷ xs) [] (suc n) c x y = refl
  points_set (e ∷ cs) (a ∷ xs) (b ∷ ys) zero c x y = refl
  points_set (e ∷ cs) (a ∷ xs) (b ∷ ys) (suc n) c x y = ap (λ l. read e a b ∷ l) (points_set cs xs ys n c x y)

  -- `number` changes the two lists behind the first, `thing` what is read: at each place they are the same change
  module _ (number : ℕ → ℕ → ℕ) (thing : ℕ → A → A) (one : (i c x y : ℕ) → read c (number i x) (number i y) ≡ thing i (read c x y)) where
    range_from : (i : ℕ) (cs xs ys : List ℕ) → points_of cs (each_from number i xs) (each_from number i ys) ≡ each_from thing i (points_of cs xs ys)
    unfolding each_from points_of
    range_from i [] xs ys = refl
    range_from i (c ∷ cs) [] ys = refl
    range_from i (c ∷ cs) (x ∷ xs) [] = refl
    range_from i (c ∷ cs) (x ∷ xs) (y ∷ ys) = λ j. one i c x y j ∷ range_from (suc i) cs xs ys j

    pub points_range : (cs xs ys : List ℕ) → points_of cs (each number xs) (each number ys) ≡ each thing (points_of cs xs ys)
    unfolding each
    points_range cs xs ys = range_from 0 cs xs ys
