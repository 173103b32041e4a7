-- What it means that a record's pair is a given one.
use mathlib.Core.Path.{◌≡◌, refl, ap, ◌∙◌}
use Prim.Native.Nat.{ℕ}
use native.Mathlib.Omega.{arith}
use mathlib.Core.Bool.{true}
use mathlib.Core.List.{List, [], ◌∷◌, ◌++◌}
use lib.Dec.{eqb}
use lib.ListN.{length, drop}
use borrow.Author.Tests.{eq-eqb, eqb-true}
use Rattle.base.proofs.Theory.Choice.{by_test}
use Rattle.records.specs.Formats.{pair_place, same_front, same_pair}

pub front_is : (p l : List ℕ) → same_front p l ≡ true → l ≡ p ++ drop (length p) l
unfolding same_front
front_is [] l = λ e. refl
front_is (x ∷ p) [] = λ e. absurd (let z : ◌≡◌ {A = ℕ} 0 1 = cc in omega arith)
front_is (x ∷ p) (y ∷ l) =
    by_test (eqb y x) (λ u. rw u λ e. let z = eqb-true y x u in rw z (ap (λ (m : List ℕ). x ∷ m) (front_is p l e)))
    λ u. rw u λ e. absurd (let z : ◌≡◌ {A = ℕ} 0 1 = cc in omega arith)

is_front : (p l : List ℕ) → same_front p (p ++ l) ≡ true
unfolding same_front
is_front [] l = refl
is_front (x ∷ p) l = rw (eq-eqb x x refl) (is_front p l)

-- where the record's pair is this one, its bytes stand there
pub pair_is : (pair bytes : List ℕ) → same_pair pair bytes ≡ true → drop pair_place bytes ≡ pair ++ drop (length pair) (drop pair_place bytes)
unfolding same_pair
pair_is pair bytes e = front_is pair (drop pair_place bytes) e

-- and conversely
pub is_pair : (pair bytes rest : List ℕ) → drop pair_place bytes ≡ pair ++ rest → same_pair pair bytes ≡ true
unfolding same_pair
is_pair pair bytes rest e = ap (same_front pair) e ∙ is_front pair rest
