-- The window's facts after an unequal test. All but these two stay as they are, by computation.
use mathlib.Core.Path.{◌≡◌, refl, subst}
use mathlib.Core.Logic.{◌⊎◌, inl, inr, ◌↔◌}
use mathlib.Core.List.Memᴰ
use Prim.Native.Nat.{ℕ, ◌<◌}
use Rattle.letters.specs.declared.Letter.TheVariants.{Unequal}
use Rattle.semantics.specs.Terms.{Term, State, after}
use Rattle.semantics.specs.Closure.{Equivalent}
use Rattle.semantics.specs.Window.{Same, Apart}
use Rattle.semantics.proofs.Theory.Shown.{Clash}
use Rattle.semantics.specs.Facts.{Valid}

module _ (σ : State) (v : Valid σ) (x y : ℕ) (xb : x < σ.header.registers) (yb : y < σ.header.registers) where
  abbrev σ' : State
  σ' = after σ (Unequal x y)

  pub apart_after : (r s : ℕ) → Apart σ' r s ↔ (Apart σ r s ⊎ ((Same σ x r × Same σ y s) ⊎ (Same σ y r × Same σ x s)))
  apart_after r s = (fwd, bwd)
    where
      one : {p q : Term} → Equivalent σ p (σ.value r) → Equivalent σ q (σ.value s) → ◌≡◌ {A = Term × Term} (p, q) (σ.value x, σ.value y)
          → Same σ x r × Same σ y s
      one c d e =
          (subst (λ (k : Term × Term). Equivalent σ k.0 (σ.value r)) e c, subst (λ (k : Term × Term). Equivalent σ k.1 (σ.value s)) e d)

      other : {p q : Term} → Equivalent σ p (σ.value r) → Equivalent σ q (σ.value s) → ◌≡◌ {A = Term × Term} (q, p) (σ.value x, σ.value y)
          → Same σ y r × Same σ x s
      other c d e =
          (subst (λ (k : Term × Term). Equivalent σ k.1 (σ.value r)) e c, subst (λ (k : Term × Term). Equivalent σ k.0 (σ.value s)) e d)

      fwd : Apart σ' r s → Apart σ r s ⊎ ((Same σ x r × Same σ y s) ⊎ (Same σ y r × Same σ x s))
      fwd m = elim m.tested [
        | inl k ↦ elim (Memᴰ.cases_cons k) [
          | inl e ↦ inr (inl (one m.at_left m.at_right e))
          | inr l ↦ inl (record { left = m.left; right = m.right; tested = inl l; at_left = m.at_left; at_right = m.at_right })
        ]
        | inr k ↦ elim (Memᴰ.cases_cons k) [
          | inl e ↦ inr (inr (other m.at_left m.at_right e))
          | inr l ↦ inl (record { left = m.left; right = m.right; tested = inr l; at_left = m.at_left; at_right = m.at_right })
        ]
      ]

      bwd : Apart σ r s ⊎ ((Same σ x r × Same σ y s) ⊎ (Same σ y r × Same σ x s)) → Apart σ' r s
      bwd (inl m) = record {
        left = m.left;
        right = m.right;
        tested = elim m.tested [ inl k ↦ inl (Memᴰ.tail k) | inr k ↦ inr (Memᴰ.tail k) ];
        at_left = m.at_left;
        at_right = m.at_right;
      }
      bwd (inr (inl (c, d))) = record { left = σ.value x; right = σ.value y; tested = inl (Memᴰ.head refl); at_left = c; at_right = d }
      bwd (inr (inr (c, d))) = record { left = σ.value y; right = σ.value x; tested = inr (Memᴰ.head refl); at_left = c; at_right = d }

  pub clash_after : Clash σ' ↔ (Clash σ ⊎ Same σ x y)
  clash_after = (fwd, bwd)
    where
      fwd : Clash σ' → Clash σ ⊎ Same σ x y
      fwd (s, t, m, c) = elim (Memᴰ.cases_cons m) [
        | inl e ↦ inr (subst (λ (k : Term × Term). Equivalent σ k.0 k.1) e c)
        | inr l ↦ inl (s, t, l, c)
      ]

      bwd : Clash σ ⊎ Same σ x y → Clash σ'
      bwd (inl (s, t, m, c)) = (s, t, Memᴰ.tail m, c)
      bwd (inr c) = (σ.value x, σ.value y, Memᴰ.head refl, c)
