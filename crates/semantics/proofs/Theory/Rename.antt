-- Marks after registers were renamed: register r now holds what register (src r) held. Some terms may be held no more.
use mathlib.Core.Logic.{◌⊎◌, inl, inr, ◌↔◌}
use Prim.Native.Nat.{ℕ, ◌<◌}
use Rattle.semantics.specs.Terms.{Term, app, State}
use Rattle.semantics.specs.Closure.{reflexive, symmetric, transitive, Equivalent, Held}
use Rattle.semantics.specs.Coherence.{Kept}
use Rattle.semantics.proofs.Theory.Climb.{Reaches, from, up, reaches_equal, above_climbs, climbs_above}
use Rattle.semantics.specs.Window.{Exposed, Same, Result, Marked}
use Rattle.semantics.specs.Facts.{Valid}
use Rattle.semantics.proofs.Theory.Judge.{exposed_or_kept}

-- Register s is r, or lies above it through held results.
pub data Over (σ : State) (r : ℕ) : ℕ → Type 0 where
  at : {s : ℕ} → s < σ.header.registers → Same σ r s → Over σ r s
  above : {f a b c u s : ℕ} → a < σ.header.registers → b < σ.header.registers → c < σ.header.registers → s < σ.header.registers
      → Over σ r u → Same σ u a ⊎ Same σ u b → Result σ f a b c → Same σ c s → Over σ r s

module _ (σ : State) (v : Valid σ) (n : ℕ) (src : ℕ → ℕ) (sb : (r : ℕ) → r < n → src r < σ.header.registers) where
  abbrev Below : ℕ → Type 0
  Below r = r < σ.header.registers

  -- a register still holds t
  abbrev pub Still : Term → Type 0
  Still t = (r : ℕ) × (r < n) × Equivalent σ t (σ.value (src r))

  still_equal : {s t : Term} → Still s → Equivalent σ s t → Still t
  still_equal h c = (h.0, h.1, transitive (symmetric c) h.2)

  still_held : {t : Term} → Still t → Held σ t
  still_held h = (src h.0, sb h.0 h.1, h.2)

  -- a held result above r whose result or arguments are lost
  pub record Bared (r : ℕ) : Type 0 where
    pub function : ℕ
    pub first : ℕ
    pub second : ℕ
    pub to : ℕ
    pub first_below : Below first
    pub second_below : Below second
    pub to_below : Below to
    pub holds : Result σ function first second to
    pub over : Over σ r first ⊎ Over σ r second
    pub lost : ¬ (Still (σ.value to) × Still (σ.value first) × Still (σ.value second))

  over_climb : {r s : ℕ} → Over σ r s → Reaches σ (σ.value r) (σ.value s)
  over_climb (at p c) = from c
  over_climb (above ab bb cb sb o e m c) =
      up (over_climb o) m.listed (elim e [
        | inl d ↦ inl (transitive d (symmetric m.at_first))
        | inr d ↦ inr (transitive d (symmetric m.at_second))
      ]) (transitive m.gives c)

  -- where all above r is held, what is above r is seen through registers
  climb_over : {r : ℕ} → Kept σ (σ.value r) → {t : Term} → Reaches σ (σ.value r) t → (h : Held σ t) → Over σ r h.0
  climb_over k (from c) h = at h.1 (transitive c h.2)
  climb_over {r} k (up {u} {s} {a} {b} {f} w m e c) h = go (λ g. climb_over k w g) e
    where
      result : (g : Held σ (app f a b)) (i : Held σ a) (j : Held σ b) → Result σ f i.0 j.0 g.0
      result g i j = record { first = a; second = b; listed = m; at_first = i.2; at_second = j.2; gives = g.2 }

      go : ((g : Held σ u) → Over σ r g.0) → Equivalent σ u a ⊎ Equivalent σ u b → Over σ r h.0
      go ih (inl d) =
          let (g, i, j) = k f a b m (climbs_above (inl (reaches_equal w d))) in
          above i.1 j.1 g.1 h.1 (ih (i.0, i.1, transitive d i.2)) (inl (reflexive (v.values i.0 i.1))) (result g i j)
          (transitive (symmetric g.2) (transitive c h.2))
      go ih (inr d) =
          let (g, i, j) = k f a b m (climbs_above (inr (reaches_equal w d))) in
          above i.1 j.1 g.1 h.1 (ih (j.0, j.1, transitive d j.2)) (inr (reflexive (v.values j.0 j.1))) (result g i j)
          (transitive (symmetric g.2) (transitive c h.2))

  -- a mark: as before, or by a result that is lost
  pub exposed_after : (r : ℕ) → Below r → Exposed σ.terms σ.equals Still (σ.value r) ↔ (Marked σ r ⊎ Bared r)
  exposed_after r b = (λ e. fwd e (exposed_or_kept σ v (σ.value r) (v.values r b)), bwd)
    where
      fwd : Exposed σ.terms σ.equals Still (σ.value r) → Marked σ r ⊎ Kept σ (σ.value r) → Marked σ r ⊎ Bared r
      fwd e (inl m) = inl m
      fwd e (inr k) =
          let (g, i, j) = k e.function e.first e.second e.listed e.above in
          inr (record {
            function = e.function;
            first = i.0;
            second = j.0;
            to = g.0;
            first_below = i.1;
            second_below = j.1;
            to_below = g.1;
            holds = record { first = e.first; second = e.second; listed = e.listed; at_first = i.2; at_second = j.2; gives = g.2 };
            over = elim (above_climbs e.above) [ inl w ↦ inl (climb_over k w i) | inr w ↦ inr (climb_over k w j) ];
            lost = λ (p, q, o). e.unheld (still_equal p (symmetric g.2), still_equal q (symmetric i.2), still_equal o (symmetric j.2));
          })

      bwd : Marked σ r ⊎ Bared r → Exposed σ.terms σ.equals Still (σ.value r)
      bwd (inl e) = record {
        function = e.function;
        first = e.first;
        second = e.second;
        listed = e.listed;
        above = e.above;
        unheld = λ (p, q, o). e.unheld (still_held p, still_held q, still_held o);
      }
      bwd (inr e) = record {
        function = e.function;
        first = e.holds.first;
        second = e.holds.second;
        listed = e.holds.listed;
        above = climbs_above (elim e.over [
          | inl o ↦ inl (reaches_equal (over_climb o) (symmetric e.holds.at_first))
          | inr o ↦ inr (reaches_equal (over_climb o) (symmetric e.holds.at_second))
        ]);
        unheld = λ (p, q, o). e.lost (still_equal p e.holds.gives, still_equal q e.holds.at_first, still_equal o e.holds.at_second);
      }
