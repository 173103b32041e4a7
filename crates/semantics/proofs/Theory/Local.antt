-- An equal test: what the closure with one more test says, in the closure before it and in the local closure over registers.
use mathlib.Core.Path.{◌≡◌, refl, sym, ap, subst}
use mathlib.Core.Logic.{◌⊎◌, inl, inr, ◌↔◌}
use mathlib.Core.List.Memᴰ
use Prim.Native.Nat.{ℕ, ◌<◌}
use Rattle.letters.specs.declared.Letter.TheVariants.{Equal}
use Rattle.semantics.specs.Terms.{◌∈◌, Term, app, State, after}
use Rattle.semantics.specs.Closure.{reflexive, Closure, symmetric, transitive, congruence, Equivalent, Held}
use Rattle.semantics.specs.Coherence.{Early}
use Rattle.semantics.proofs.Theory.Climb.{Reaches, from, up, reaches_equal, climbs_above}
use Rattle.semantics.specs.Window.{Same, Result}
use Rattle.semantics.specs.Facts.{Valid}
use Rattle.semantics.proofs.Theory.ClosureLaws.{more_tests, held_equal}

-- The least equivalence over registers that holds the classes and the test, and equates held results at equivalent arguments.
pub data Local (σ : State) (x y : ℕ) : ℕ → ℕ → Type 0 where
  class : {r s : ℕ} → r < σ.header.registers → s < σ.header.registers → Same σ r s → Local σ x y r s
  tested : Local σ x y x y
  turned : {r s : ℕ} → Local σ x y r s → Local σ x y s r
  joined : {r s q : ℕ} → Local σ x y r s → Local σ x y s q → Local σ x y r q
  lifted : {f a b c d r s : ℕ} → r < σ.header.registers → s < σ.header.registers
      → Result σ f a b r → Result σ f c d s → Local σ x y a c → Local σ x y b d → Local σ x y r s

module _ (σ : State) (v : Valid σ) (x y : ℕ) (xb : x < σ.header.registers) (yb : y < σ.header.registers) where
  -- the local closure is part of the closure with the test
  pub local_sound : {r s : ℕ} → Local σ x y r s → Same (after σ (Equal x y)) r s
  local_sound (class p q c) = more_tests _ c
  local_sound tested = Closure.test (Memᴰ.head refl)
  local_sound (turned l) = symmetric (local_sound l)
  local_sound (joined l k) = transitive (local_sound l) (local_sound k)
  local_sound (lifted p q m n l k) =
      transitive (symmetric (more_tests _ m.gives))
      (transitive (congruence m.listed n.listed
      (transitive (more_tests _ m.at_first) (transitive (local_sound l) (symmetric (more_tests _ n.at_first))))
      (transitive (more_tests _ m.at_second) (transitive (local_sound k) (symmetric (more_tests _ n.at_second)))))
      (more_tests _ n.gives))

  -- s equals the value of x or of y, or is a superterm of one
  abbrev pub Up : Term → Type 0
  Up s = Reaches σ (σ.value x) s ⊎ Reaches σ (σ.value y) s

  pub up_equal : {s t : Term} → Up s → Equivalent σ s t → Up t
  up_equal (inl r) c = inl (reaches_equal r c)
  up_equal (inr r) c = inr (reaches_equal r c)

  pub up_app : {f : ℕ} {a b : Term} → app f a b ∈ σ.terms → Up a ⊎ Up b → Up (app f a b)
  up_app {f} {a} {b} m k =
      let (i, j) = v.arguments f a b m in
      elim k [
        | inl p ↦ elim p [ inl r ↦ inl (up r m (inl (reflexive i)) (reflexive m)) | inr r ↦ inr (up r m (inl (reflexive i)) (reflexive m)) ]
        | inr p ↦ elim p [ inl r ↦ inl (up r m (inr (reflexive j)) (reflexive m)) | inr r ↦ inr (up r m (inr (reflexive j)) (reflexive m)) ]
      ]

  -- s and t are equal by the test: registers hold them, and the local closure joins those
  pub record Via (s t : Term) : Type 0 where
    pub up_left : Up s
    pub up_right : Up t
    pub held_left : Held σ s
    pub held_right : Held σ t
    pub by : Local σ x y held_left.0 held_right.0

  via_test : {s t : Term} → s ≡ σ.value x → t ≡ σ.value y → Via s t
  via_test {s} {t} p q =
      let c : Equivalent σ s (σ.value x) = subst (λ u. Equivalent σ u (σ.value x)) (sym p) (reflexive (v.values x xb)) in
      let d : Equivalent σ t (σ.value y) = subst (λ u. Equivalent σ u (σ.value y)) (sym q) (reflexive (v.values y yb)) in
      record { up_left = inl (from (symmetric c)); up_right = inr (from (symmetric d)); held_left = (x, xb, c); held_right = (y, yb, d); by = tested }

  via_turn : {s t : Term} → Via s t → Via t s
  via_turn w = record { up_left = w.up_right; up_right = w.up_left; held_left = w.held_right; held_right = w.held_left; by = turned w.by }

  via_left : {s t u : Term} → Equivalent σ s t → Via t u → Via s u
  via_left c w = record {
    up_left = up_equal w.up_left (symmetric c);
    up_right = w.up_right;
    held_left = held_equal σ w.held_left (symmetric c);
    held_right = w.held_right;
    by = w.by;
  }

  via_via : {s t u : Term} → Via s t → Via t u → Via s u
  via_via w z = record {
    up_left = w.up_left;
    up_right = z.up_right;
    held_left = w.held_left;
    held_right = z.held_right;
    by = joined w.by (joined (class w.held_right.1 z.held_left.1 (transitive (symmetric w.held_right.2) z.held_left.2)) z.by);
  }

  -- registers that hold equal terms are joined locally
  pub locally : {s t : Term} → Equivalent σ s t ⊎ Via s t → (h : Held σ s) (k : Held σ t) → Local σ x y h.0 k.0
  locally (inl c) h k = class h.1 k.1 (transitive (symmetric h.2) (transitive c k.2))
  locally (inr w) h k =
      joined (class h.1 w.held_left.1 (transitive (symmetric h.2) w.held_left.2))
      (joined w.by (class w.held_right.1 k.1 (transitive (symmetric w.held_right.2) k.2)))

  module _ (early : Early σ x y) where
    pub kept : {f : ℕ} {a b : Term} → app f a b ∈ σ.terms → Up a ⊎ Up b → Held σ (app f a b) × Held σ a × Held σ b
    kept m (inl (inl r)) = early.0 _ _ _ m (climbs_above (inl r))
    kept m (inl (inr r)) = early.1 _ _ _ m (climbs_above (inl r))
    kept m (inr (inl r)) = early.0 _ _ _ m (climbs_above (inr r))
    kept m (inr (inr r)) = early.1 _ _ _ m (climbs_above (inr r))

    via_lift : {f : ℕ} {a b c d : Term} → app f a b ∈ σ.terms → app f c d ∈ σ.terms → Up a ⊎ Up b → Up c ⊎ Up d
        → Equivalent σ a c ⊎ Via a c → Equivalent σ b d ⊎ Via b d → Via (app f a b) (app f c d)
    via_lift {f} {a} {b} {c} {d} m n k l p q =
        let (h, ha, hb) = kept m k in
        let (g, gc, gd) = kept n l in
        record {
          up_left = up_app m k;
          up_right = up_app n l;
          held_left = h;
          held_right = g;
          by = lifted h.1 g.1
              (record { first = a; second = b; listed = m; at_first = ha.2; at_second = hb.2; gives = h.2 })
              (record { first = c; second = d; listed = n; at_first = gc.2; at_second = gd.2; gives = g.2 })
              (locally p ha gc) (locally q hb gd);
        }

    equate_e : {s t : Term} → Equivalent (after σ (Equal x y)) s t → Equivalent σ s t ⊎ Via s t
    equate_e (reflexive m) = inl (reflexive m)
    equate_e (Closure.test {s} {t} m) = elim (Memᴰ.cases_cons m) [
      | inl e ↦ inr (via_test (ap (λ (k : Term × Term). k.0) e) (ap (λ (k : Term × Term). k.1) e))
      | inr k ↦ inl (Closure.test k)
    ]
    equate_e (symmetric c) = elim (equate_e c) [ inl d ↦ inl (symmetric d) | inr w ↦ inr (via_turn w) ]
    equate_e (transitive c d) = elim (equate_e c) [
      | inl p ↦ elim (equate_e d) [ inl q ↦ inl (transitive p q) | inr w ↦ inr (via_left p w) ]
      | inr w ↦ elim (equate_e d) [ inl q ↦ inr (via_turn (via_left (symmetric q) (via_turn w))) | inr z ↦ inr (via_via w z) ]
    ]
    equate_e (congruence {f} {a} {b} {c} {d} m n p q) = go (equate_e p) (equate_e q)
      where
        go : Equivalent σ a c ⊎ Via a c → Equivalent σ b d ⊎ Via b d → Equivalent σ (app f a b) (app f c d) ⊎ Via (app f a b) (app f c d)
        go (inl c) (inl d) = inl (congruence m n c d)
        go (inl c) (inr w) = inr (via_lift m n (inr w.up_left) (inr w.up_right) (inl c) (inr w))
        go (inr w) k = inr (via_lift m n (inl w.up_left) (inl w.up_right) (inr w) k)

    -- ── what the closure with the test says ──
    pub equate : {s t : Term} → Equivalent (after σ (Equal x y)) s t ↔ (Equivalent σ s t ⊎ Via s t)
    equate = (
      equate_e,
      λ k. elim k [
        | inl c ↦ more_tests _ c
        | inr w ↦ transitive (more_tests _ w.held_left.2) (transitive (local_sound w.by) (symmetric (more_tests _ w.held_right.2)))
      ],
    )

    -- of registers: exactly the local closure
    pub equate_registers : (r s : ℕ) → r < σ.header.registers → s < σ.header.registers → Same (after σ (Equal x y)) r s ↔ Local σ x y r s
    equate_registers r s p q = (λ c. locally (equate_e c) (r, p, reflexive (v.values r p)) (s, q, reflexive (v.values s q)), local_sound)
