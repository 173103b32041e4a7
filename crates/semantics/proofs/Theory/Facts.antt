-- What follows from the definitions of specs/Facts.antt.
use mathlib.Core.Path.{◌≡◌, refl, ap}
use mathlib.Core.Logic.{◌⊎◌, inl, inr, ◌≢◌}
use mathlib.Core.Bool.{Bool, true, false, cond}
use mathlib.Core.List.Memᴰ
use mathlib.Core.List.{List, ◌∷◌}
use Prim.Native.Nat.{ℕ, zero, suc, ◌<◌}
use native.Mathlib.Omega.{arith}
use lib.Dec.{eqb}
use borrow.Author.Tests.{eqb-true, eqb-false}
use Rattle.letters.specs.declared.Header.{Header}
use Rattle.letters.specs.declared.Letter.{Letter}
use Rattle.letters.specs.declared.Letter.TheVariants.{Copy, Apply, Equal, Unequal}
use Rattle.letters.specs.Letters.{Fits}
use Rattle.semantics.specs.Terms.{◌∈◌, Term, con, app, Trace, begin, ◌▸◌, State, start, after, state, constants}
use Rattle.semantics.specs.Facts.{WellFormed}
use Rattle.semantics.specs.Closure.{reflexive, Closure, symmetric, transitive, congruence, Equivalent}
use Rattle.semantics.specs.Facts.{Valid}

pub eq_or : (m n : ℕ) → (m ≡ n) ⊎ (m ≢ n)
eq_or m n = go (eqb m n) refl
  where
    go : (b : Bool) → eqb m n ≡ b → (m ≡ n) ⊎ (m ≢ n)
    go true e = inl (eqb-true m n e)
    go false e = inr (eqb-false m n e)

pub constants_i : (n r : ℕ) → r < n → con r ∈ constants n
constants_i zero r h = absurd (omega arith)
constants_i (suc n) r h = elim (eq_or r n) [ inl e ↦ Memᴰ.head (ap con e) | inr d ↦ Memᴰ.tail (constants_i n r (omega arith)) ]

constants_below : (n r : ℕ) → con r ∈ constants n → r < n
constants_below zero r m = absurd (Memᴰ.not-nil m)
constants_below (suc n) r m = elim (Memᴰ.cases_cons m) [
  | inl e ↦ let q : r ≡ n = cc in omega arith
  | inr k ↦ omega (arith, constants_below n r k)
]

pub constants_app : (n : ℕ) {f : ℕ} {a b : Term} → app f a b ∈ constants n → ⊥
constants_app zero m = Memᴰ.not-nil m
constants_app (suc n) m = elim (Memᴰ.cases_cons m) [ inl e ↦ let z : ◌≡◌ {A = ℕ} 0 1 = cc in omega arith | inr k ↦ constants_app n k ]

pub con_app : {r f : ℕ} {s t : Term} → con r ≡ app f s t → ⊥
con_app e = let z : ◌≡◌ {A = ℕ} 0 1 = cc in omega arith

start_valid : (h : Header) → Valid (start h)
start_valid h = record {
  values = constants_i h.registers;
  arguments = λ f a b m. absurd (constants_app h.registers m);
  equal_sides = λ s t m. absurd (Memᴰ.not-nil m);
  unequal_sides = λ s t m. absurd (Memᴰ.not-nil m);
  constants = constants_below h.registers;
}

one_more : {U : List Term} (D : List (Term × Term)) {u v : Term} → u ∈ U → v ∈ U
    → ((s t : Term) → (s, t) ∈ D → (s ∈ U) × (t ∈ U)) → (s t : Term) → (s, t) ∈ (u, v) ∷ D → (s ∈ U) × (t ∈ U)
one_more D p q h s t m = elim (Memᴰ.cases_cons m) [
  | inl e ↦ (Memᴰ.cast (ap (λ (k : Term × Term). k.0) e) p, Memᴰ.cast (ap (λ (k : Term × Term). k.1) e) q)
  | inr k ↦ h s t k
]

pub after_valid : (σ : State) (a : Letter) → Valid σ → Fits σ.header a → Valid (after σ a)
after_valid σ (Copy x y) v w = record {
  values = λ r b. v.values (cond (eqb r x) y r) (elim (eqb r x) as (λ t. cond t y r < σ.header.registers) [ true ↦ w.1 | false ↦ b ]);
  arguments = v.arguments;
  equal_sides = v.equal_sides;
  unequal_sides = v.unequal_sides;
  constants = v.constants;
}
after_valid σ (Apply x g y z) v w = record {
  values =
      λ r b. elim (eqb r x) as (λ t. (elim t [ true ↦ app g (σ.value y) (σ.value z) | false ↦ σ.value r ]) ∈ app g (σ.value y)
      (σ.value z) ∷ σ.terms)
      [ true ↦ Memᴰ.head refl | false ↦ Memᴰ.tail (v.values r b) ];
  arguments = λ f a b m. elim (Memᴰ.cases_cons m) [
    | inl e ↦ (Memᴰ.tail (Memᴰ.cast (cc) (v.values y w.2)), Memᴰ.tail (Memᴰ.cast (cc) (v.values z w.3)))
    | inr k ↦ (Memᴰ.tail (v.arguments f a b k).0, Memᴰ.tail (v.arguments f a b k).1)
  ];
  equal_sides = λ s t m. (Memᴰ.tail (v.equal_sides s t m).0, Memᴰ.tail (v.equal_sides s t m).1);
  unequal_sides = λ s t m. (Memᴰ.tail (v.unequal_sides s t m).0, Memᴰ.tail (v.unequal_sides s t m).1);
  constants = λ r m. elim (Memᴰ.cases_cons m) [ inl e ↦ absurd (con_app e) | inr k ↦ v.constants r k ];
}
after_valid σ (Equal x y) v w = record {
  values = v.values;
  arguments = v.arguments;
  equal_sides = one_more σ.equals (v.values x w.0) (v.values y w.1) v.equal_sides;
  unequal_sides = v.unequal_sides;
  constants = v.constants;
}
after_valid σ (Unequal x y) v w = record {
  values = v.values;
  arguments = v.arguments;
  equal_sides = v.equal_sides;
  unequal_sides = one_more σ.unequals (v.values x w.0) (v.values y w.1) v.unequal_sides;
  constants = v.constants;
}

pub state_valid : (ρ : Trace) → WellFormed ρ → Valid (state ρ)
state_valid (begin h) w = start_valid h
state_valid (ρ ▸ a) w = after_valid (state ρ) a (state_valid ρ w.0) w.1

-- The closure relates computed terms only.
pub closure_in : (σ : State) → Valid σ → {s t : Term} → Equivalent σ s t → (s ∈ σ.terms) × (t ∈ σ.terms)
closure_in σ v (reflexive m) = (m, m)
closure_in σ v (Closure.test m) = v.equal_sides _ _ m
closure_in σ v (symmetric c) = let (i, j) = closure_in σ v c in (j, i)
closure_in σ v (transitive c d) = ((closure_in σ v c).0, (closure_in σ v d).1)
closure_in σ v (congruence i j p q) = (i, j)
