-- One more application: what the closure over the terms and app f y z says, in the closure over the terms.
use mathlib.Core.Path.{◌≡◌, refl, sym, ap, subst}
use mathlib.Core.Logic.{◌⊎◌, inl, inr, ◌↔◌}
use mathlib.Core.List.Memᴰ
use mathlib.Core.List.{◌∷◌}
use Prim.Native.Nat.{ℕ}
use Rattle.semantics.specs.Terms.{◌∈◌, Term, app, State}
use Rattle.semantics.specs.Closure.{Closure, reflexive, symmetric, transitive, congruence, Equivalent}
use Rattle.semantics.specs.Window.{Match}
use Rattle.semantics.specs.Facts.{Valid}
use Rattle.semantics.proofs.Theory.Facts.{closure_in}
use Rattle.semantics.proofs.Theory.ClosureLaws.{weaken}

module _ (σ : State) (v : Valid σ) (f : ℕ) {y z : Term} (i : y ∈ σ.terms) (j : z ∈ σ.terms) where
  abbrev Is : Term → Type 0
  Is s = (s ≡ app f y z) ⊎ Match σ.terms σ.equals f y z s

  match_self : {s : Term} → app f y z ∈ σ.terms → Equivalent σ (app f y z) s → Match σ.terms σ.equals f y z s
  match_self m c = record { first = y; second = z; listed = m; at_first = reflexive i; at_second = reflexive j; gives = c }

  match_equal : {s t : Term} → Match σ.terms σ.equals f y z s → Equivalent σ s t → Match σ.terms σ.equals f y z t
  match_equal m c = record {
    first = m.first;
    second = m.second;
    listed = m.listed;
    at_first = m.at_first;
    at_second = m.at_second;
    gives = transitive m.gives c;
  }

  match_match : {s t : Term} → Match σ.terms σ.equals f y z s → Match σ.terms σ.equals f y z t → Equivalent σ s t
  match_match m n =
      transitive (symmetric m.gives)
      (transitive (congruence m.listed n.listed (transitive m.at_first (symmetric n.at_first))
      (transitive m.at_second (symmetric n.at_second))) n.gives)

  is_match : {s : Term} → s ∈ σ.terms → Is s → Match σ.terms σ.equals f y z s
  is_match {s} m (inl e) = match_self (Memᴰ.cast (sym e) m) (subst (λ u. Equivalent σ u s) e (reflexive m))
  is_match {s} m (inr n) = n

  is_equal : {s t : Term} → Is s → Equivalent σ s t → Is t
  is_equal k c = inr (match_equal (is_match (closure_in σ v c).0 k) c)

  -- terms computed before are equal as before
  old : {s t : Term} → s ∈ σ.terms → t ∈ σ.terms → Equivalent σ s t ⊎ (Is s × Is t) → Equivalent σ s t
  old p q (inl c) = c
  old p q (inr k) = match_match (is_match p k.0) (is_match q k.1)

  flip : {s t : Term} → Equivalent σ s t ⊎ (Is s × Is t) → Equivalent σ t s ⊎ (Is t × Is s)
  flip (inl c) = inl (symmetric c)
  flip (inr k) = inr (k.1, k.0)

  -- a computed application whose arguments are those of the new one matches it
  matched : {g : ℕ} {a b c d : Term} → app g a b ≡ app f y z → app g c d ∈ σ.terms → Equivalent σ a c ⊎ (Is a × Is c)
      → Equivalent σ b d ⊎ (Is b × Is d) → Match σ.terms σ.equals f y z (app g c d)
  matched {g} {a} {b} {c} {d} e m p q =
      let ef : g ≡ f = cc in
      let ea : a ≡ y = cc in
      let eb : b ≡ z = cc in
      let (k, l) = v.arguments g c d m in
      record {
        first = c;
        second = d;
        listed = Memᴰ.cast (ap (λ h. app h c d) (sym ef)) m;
        at_first = symmetric (subst (λ u. Equivalent σ u c) ea (old (Memᴰ.cast ea i) k p));
        at_second = symmetric (subst (λ u. Equivalent σ u d) eb (old (Memᴰ.cast eb j) l q));
        gives = subst (λ h. Equivalent σ (app h c d) (app g c d)) ef (reflexive m);
      }

  extend_e : {s t : Term} → Closure (app f y z ∷ σ.terms) σ.equals s t → Equivalent σ s t ⊎ (Is s × Is t)
  extend_e (reflexive m) = elim (Memᴰ.cases_cons m) [ inl e ↦ inr (inl e, inl e) | inr k ↦ inl (reflexive k) ]
  extend_e (Closure.test m) = inl (Closure.test m)
  extend_e (symmetric c) = elim (extend_e c) [ inl d ↦ inl (symmetric d) | inr k ↦ inr (k.1, k.0) ]
  extend_e (transitive c d) = elim (extend_e c) [
    | inl p ↦ elim (extend_e d) [ inl q ↦ inl (transitive p q) | inr k ↦ inr (is_equal k.0 (symmetric p), k.1) ]
    | inr k ↦ elim (extend_e d) [ inl q ↦ inr (k.0, is_equal k.1 q) | inr l ↦ inr (k.0, l.1) ]
  ]
  extend_e (congruence {f = g} {a} {b} {c} {d} m n p q) = go (extend_e p) (extend_e q) (Memᴰ.cases_cons m) (Memᴰ.cases_cons n)
    where
      go : Equivalent σ a c ⊎ (Is a × Is c) → Equivalent σ b d ⊎ (Is b × Is d) → (app g a b ≡ app f y z) ⊎ (app g a b ∈ σ.terms)
          → (app g c d ≡ app f y z) ⊎ (app g c d ∈ σ.terms)
          → Equivalent σ (app g a b) (app g c d) ⊎ (Is (app g a b) × Is (app g c d))
      go p q (inl e) (inl k) = inr (inl e, inl k)
      go p q (inl e) (inr n) = inr (inl e, inr (matched e n p q))
      go p q (inr m) (inl e) = inr (inr (matched e m (flip p) (flip q)), inl e)
      go p q (inr m) (inr n) =
          let (k, l) = v.arguments g a b m in
          let (h, o) = v.arguments g c d n in
          inl (congruence m n (old k h p) (old l o q))

  is_new : {s : Term} → Is s → Closure (app f y z ∷ σ.terms) σ.equals (app f y z) s
  is_new {s} (inl e) = subst (Closure (app f y z ∷ σ.terms) σ.equals (app f y z)) (sym e) (reflexive (Memᴰ.head refl))
  is_new {s} (inr m) =
      transitive
      (congruence (Memᴰ.head refl) (Memᴰ.tail m.listed) (weaken (λ t k. Memᴰ.tail k) (symmetric m.at_first))
      (weaken (λ t k. Memᴰ.tail k) (symmetric m.at_second)))
      (weaken (λ t k. Memᴰ.tail k) m.gives)

  -- ── what the larger closure says ──
  pub extend_old : {s t : Term} → s ∈ σ.terms → t ∈ σ.terms → Closure (app f y z ∷ σ.terms) σ.equals s t ↔ Equivalent σ s t
  extend_old p q = (λ c. old p q (extend_e c), weaken (λ t k. Memᴰ.tail k))

  pub extend_new : {s : Term} → s ∈ σ.terms → Closure (app f y z ∷ σ.terms) σ.equals (app f y z) s ↔ Match σ.terms σ.equals f y z s
  extend_new m = (λ c. elim (extend_e c) [ inl d ↦ is_match m (is_equal (inl refl) d) | inr k ↦ is_match m k.1 ], λ k. is_new (inr k))
