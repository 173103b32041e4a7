-- What follows from the definitions of specs/ClassNames.antt.
use mathlib.Core.Path.{◌≡◌, sym, subst}
use mathlib.Core.Logic.{◌⊎◌, inl, inr, ◌↔◌}
use Prim.Native.Nat.{ℕ, zero, suc, ◌≤◌, ◌<◌}
use native.Mathlib.Omega.{arith}
use Rattle.semantics.proofs.Theory.Booleans.{or_not}
use Rattle.semantics.specs.Terms.{State}
use Rattle.semantics.specs.Closure.{reflexive, symmetric, transitive}
use Rattle.semantics.specs.Facts.{Valid}
use Rattle.semantics.proofs.Theory.Facts.{eq_or}
use Rattle.semantics.specs.Window.{Same}
use Rattle.semantics.proofs.Theory.Of.{view_of, tracks_of}
use Rattle.semantics.specs.ClassNames.{NamedBy}

module _ (σ : State) (v : Valid σ) where
  same_or_not : (r s : ℕ) → r < σ.header.registers → s < σ.header.registers → Same σ r s ⊎ ¬ Same σ r s
  same_or_not r s rb sb = elim (or_not ((view_of σ).same r s)) [
    | inl y ↦ inl (((tracks_of σ v).same r s rb sb).0 y)
    | inr n ↦ inr (λ c. n (((tracks_of σ v).same r s rb sb).1 c))
  ]

  -- the lowest register of the class of r, searched below k, or none
  search : (r k : ℕ) → r < σ.header.registers → k ≤ σ.header.registers → ((n : ℕ) × (n < k) × NamedBy σ r n) ⊎ ((s : ℕ) → s < k → ¬ Same σ r s)
  search r zero rb kb = inr (λ s b c. omega arith)
  search r (suc k) rb kb = elim (search r k rb (omega arith)) [
    | inl (n, b, h) ↦ inl (n, omega arith, h)
    | inr h ↦ elim (same_or_not r k rb (omega arith)) [
      | inl c ↦ inl (k, omega arith, record { member = c; lowest = h })
      | inr d ↦ inr (λ s b c. elim (eq_or s k) [ inl e ↦ d (subst (Same σ r) e c) | inr e ↦ h s (omega arith) c ])
    ]
  ]

  -- Every class has a name, at most that of each of its registers.
  pub class_name : (r : ℕ) → r < σ.header.registers → (k : ℕ) × (k ≤ r) × NamedBy σ r k
  class_name r rb = elim (search r (suc r) rb rb) [
    | inl (n, b, h) ↦ (n, omega arith, h)
    | inr h ↦ absurd (h r (omega arith) (reflexive (v.values r rb)))
  ]

  -- Registers are in one class exactly if their classes have one name.
  pub same_name : (r s j k : ℕ) → NamedBy σ r j → NamedBy σ s k → Same σ r s ↔ (j ≡ k)
  same_name r s j k p q = (
    λ c. below j k p q c,
    λ e. transitive p.member (symmetric (subst (Same σ s) (sym e) q.member)),
  )
    where
      below : (j k : ℕ) → NamedBy σ r j → NamedBy σ s k → Same σ r s → j ≡ k
      below j k p q c =
          let a : ¬ (j < k) = λ h. q.lowest j h (transitive (symmetric c) p.member) in
          let b : ¬ (k < j) = λ h. p.lowest k h (transitive c q.member) in
          omega arith
