-- Small laws of lists, of tests and of answers.
use mathlib.Core.Path.{◌≡◌, refl, sym, ◌∙◌}
use mathlib.Core.Logic.{◌⊎◌, inl, inr}
use Prim.Native.Nat.{ℕ}
use native.Mathlib.Omega.{arith}
use mathlib.Core.Bool.{Bool, true, false, not, ◌&&◌, ◌||◌}
use mathlib.Core.List.{List, [], ◌∷◌}
use Rattle.grammar.specs.Reading.{Got, got, exhausted, and_then}

-- ---- lists

pub head_same : {k j : ℕ} {ws us : List ℕ} → k ∷ ws ≡ j ∷ us → k ≡ j
head_same h = cc

pub tail_same : {k j : ℕ} {ws us : List ℕ} → k ∷ ws ≡ j ∷ us → ws ≡ us
tail_same h = cc

pub not_nil : {k : ℕ} {ws : List ℕ} → k ∷ ws ≡ [] → ⊥
not_nil h = let z : ◌≡◌ {A = ℕ} 0 1 = cc in omega arith

-- ---- tests

pub clash : {b : Bool} → b ≡ true → b ≡ false → ⊥
clash h g = let z : true ≡ false = sym h ∙ g in let y : ◌≡◌ {A = ℕ} 0 1 = cc in omega arith

pub or_case : (a b : Bool) → a || b ≡ true → (a ≡ true) ⊎ (b ≡ true)
or_case true b h = inl refl
or_case false b h = inr h

pub and_false : (a : Bool) → a && false ≡ false
and_false true = refl
and_false false = refl

pub not-true : (a : Bool) → not a ≡ true → a ≡ false
not-true true h = sym h
not-true false h = refl

pub nor : (a b : Bool) → not (a || b) ≡ true → (a ≡ false) × (not b ≡ true)
nor true b h = absurd (clash h refl)
nor false b h = (refl, h)

-- ---- answers

pub not_got : {A : Type 0} {a : A} {e n p : ℕ} → got a e ≡ Got.refused n p → ⊥
not_got h = let z : ◌≡◌ {A = ℕ} 0 1 = cc in omega arith

pub not_exhausted : {A : Type 0} {n p : ℕ} → ◌≡◌ {A = Got A} exhausted (Got.refused n p) → ⊥
not_exhausted h = let z : ◌≡◌ {A = ℕ} 0 1 = cc in omega arith

pub refused_number : {A : Type 0} {m q n p : ℕ} → ◌≡◌ {A = Got A} (Got.refused m q) (Got.refused n p) → m ≡ n
refused_number h = cc

pub refused_place : {A : Type 0} {m q n p : ℕ} → ◌≡◌ {A = Got A} (Got.refused m q) (Got.refused n p) → q ≡ p
refused_place h = cc

pub onward_case : {A B C : Type 0} (g : Got A) (f : A → ℕ → Got B) (n p : ℕ) → and_then g f ≡ Got.refused n p → (g ≡ Got.refused n p → C)
    → ((a : A) (m : ℕ) → g ≡ got a m → f a m ≡ Got.refused n p → C) → C
onward_case (got a m) f n p h k l = l a m refl h
onward_case (Got.refused m q) f n p h k l = k (λ i. Got.refused (refused_number h i) (refused_place h i))
onward_case exhausted f n p h k l = absurd (not_exhausted h)
