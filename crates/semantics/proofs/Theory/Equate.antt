-- The window's facts after an early equal test, from those before it.
use mathlib.Core.Logic.{◌⊎◌, inl, inr, ◌↔◌}
use Prim.Native.Nat.{ℕ, ◌<◌}
use Rattle.letters.specs.declared.Letter.TheVariants.{Equal}
use Rattle.semantics.specs.Terms.{◌∈◌, Term, app, State, after}
use Rattle.semantics.specs.Closure.{reflexive, symmetric, transitive, Equivalent, Held}
use Rattle.semantics.specs.Coherence.{Early}
use Rattle.semantics.proofs.Theory.Climb.{Reaches, from, up, reaches_equal, above_climbs, climbs_above}
use Rattle.semantics.specs.Window.{Apart, Result, EverComputed, Marked}
use Rattle.semantics.proofs.Theory.Shown.{Clash}
use Rattle.semantics.specs.Facts.{Valid}
use Rattle.semantics.proofs.Theory.ClosureLaws.{more_tests}
use Rattle.semantics.proofs.Theory.Local.{Local, Up, Via, up_equal, up_app, local_sound, locally, equate, kept}

module _ (σ : State) (v : Valid σ) (x y : ℕ) (xb : x < σ.header.registers) (yb : y < σ.header.registers) (early : Early σ x y) where
  abbrev σ' : State
  σ' = after σ (Equal x y)

  abbrev L : ℕ → ℕ → Type 0
  L = Local σ x y

  -- a term that now equals the value of a register was held before, by a register that is joined with it
  place : {s : Term} (a : ℕ) → a < σ.header.registers → Equivalent σ' s (σ.value a) → (h : Held σ s) × L h.0 a
  place a b c = go ((equate σ v x y xb yb early).0 c)
    where
      go : {s : Term} → Equivalent σ s (σ.value a) ⊎ Via σ v x y xb yb s (σ.value a) → (h : Held σ s) × L h.0 a
      go (inl c) = ((a, b, c), locally σ v x y xb yb (inl c) (a, b, c) (a, b, reflexive (v.values a b)))
      go (inr w) = (w.held_left, locally σ v x y xb yb (inr w) w.held_left (a, b, reflexive (v.values a b)))

  abbrev Below : ℕ → Type 0
  Below r = r < σ.header.registers

  carry : {s : Term} {p a : ℕ} → Equivalent σ s (σ.value p) → L p a → Equivalent σ' s (σ.value a)
  carry c l = transitive (more_tests _ c) (local_sound σ v x y xb yb l)

  pub result_after : (f a b r : ℕ) → Below a → Below b → Below r
      → Result σ' f a b r ↔ ((p : ℕ) × (q : ℕ) × (s : ℕ) × Below p × Below q × Below s × Result σ f p q s × L p a × L q b × L s r)
  result_after f a b r ab bb rb = (
    λ m.
        let (h, k) = place a ab m.at_first in
        let (i, l) = place b bb m.at_second in
        let (j, o) = place r rb m.gives in (
          h.0,
          i.0,
          j.0,
          h.1,
          i.1,
          j.1,
          record {
            first = m.first;
            second = m.second;
            listed = m.listed;
            at_first = h.2;
            at_second = i.2;
            gives = j.2;
          },
          k,
          l,
          o,
        ),
    λ (p, q, s, pb, qb, sb, m, k, l, o).
        record {
          first = m.first;
          second = m.second;
          listed = m.listed;
          at_first = carry m.at_first k;
          at_second = carry m.at_second l;
          gives = carry m.gives o;
        },
  )

  pub ever_after : (f a b : ℕ) → Below a → Below b → EverComputed σ' f a b ↔ ((p : ℕ) × (q : ℕ) × Below p × Below q × EverComputed σ f p q × L p a × L q b)
  ever_after f a b ab bb = (
    λ (t, m).
        let (h, k) = place a ab m.at_first in
        let (i, l) = place b bb m.at_second in (
          h.0,
          i.0,
          h.1,
          i.1,
          (
            app f m.first m.second,
            record {
              first = m.first;
              second = m.second;
              listed = m.listed;
              at_first = h.2;
              at_second = i.2;
              gives = reflexive m.listed;
            },
          ),
          k,
          l,
        ),
    λ (p, q, pb, qb, (t, m), k, l). (
      t,
      record {
        first = m.first;
        second = m.second;
        listed = m.listed;
        at_first = carry m.at_first k;
        at_second = carry m.at_second l;
        gives = more_tests _ m.gives;
      },
    ),
  )

  pub apart_after : (r s : ℕ) → Below r → Below s → Apart σ' r s ↔ ((p : ℕ) × (q : ℕ) × Below p × Below q × Apart σ p q × L p r × L q s)
  apart_after r s rb sb = (
    λ m.
        let (h, k) = place r rb m.at_left in
        let (i, l) = place s sb m.at_right in
        (h.0, i.0, h.1, i.1, record { left = m.left; right = m.right; tested = m.tested; at_left = h.2; at_right = i.2 }, k, l),
    λ (p, q, pb, qb, m, k, l). record {
      left = m.left;
      right = m.right;
      tested = m.tested;
      at_left = carry m.at_left k;
      at_right = carry m.at_right l;
    },
  )

  pub clash_after : Clash σ' ↔ (Clash σ ⊎ ((p : ℕ) × (q : ℕ) × Below p × Below q × Apart σ p q × L p q))
  clash_after = ((λ (s, t, m, c). fwd s t m ((equate σ v x y xb yb early).0 c)), bwd)
    where
      fwd : (s t : Term) → (s, t) ∈ σ.unequals → Equivalent σ s t ⊎ Via σ v x y xb yb s t
          → Clash σ ⊎ ((p : ℕ) × (q : ℕ) × Below p × Below q × Apart σ p q × L p q)
      fwd s t m (inl c) = inl (s, t, m, c)
      fwd s t m (inr w) =
          inr (
            w.held_left.0,
            w.held_right.0,
            w.held_left.1,
            w.held_right.1,
            record {
              left = s;
              right = t;
              tested = inl m;
              at_left = w.held_left.2;
              at_right = w.held_right.2;
            },
            w.by,
          )

      bwd : Clash σ ⊎ ((p : ℕ) × (q : ℕ) × Below p × Below q × Apart σ p q × L p q) → Clash σ'
      bwd (inl (s, t, m, c)) = (s, t, m, more_tests _ c)
      bwd (inr (p, q, pb, qb, m, l)) =
          let c = transitive (carry m.at_left l) (symmetric (more_tests (σ.value x, σ.value y) m.at_right)) in
          elim m.tested [ inl k ↦ (m.left, m.right, k, c) | inr k ↦ (m.right, m.left, k, symmetric c) ]

  -- ── marks stay ──
  held_after : {s : Term} → Held σ' s ↔ Held σ s
  held_after = (λ h. (place h.0 h.1 h.2).0, λ h. (h.0, h.1, more_tests _ h.2))

  abbrev U : Term → Type 0
  U = Up σ v x y xb yb

  up_after : {s t : Term} → U s → Equivalent σ' s t → U t
  up_after u c = elim ((equate σ v x y xb yb early).0 c) [ inl d ↦ up_equal σ v x y xb yb u d | inr w ↦ w.up_right ]

  reaches_after : {t s : Term} → Reaches σ' t s → Reaches σ t s ⊎ U s
  reaches_after (from c) = elim ((equate σ v x y xb yb early).0 c) [ inl d ↦ inl (from d) | inr w ↦ inr w.up_right ]
  reaches_after {t} (up {u} {s} {a} {b} {f} r m e c) = top (arg (reaches_after r) e) ((equate σ v x y xb yb early).0 c)
    where
      -- one argument is reached as before, or lies above the test
      arg : Reaches σ t u ⊎ U u → Equivalent σ' u a ⊎ Equivalent σ' u b → (Reaches σ t a ⊎ Reaches σ t b) ⊎ (U a ⊎ U b)
      arg (inr k) (inl d) = inr (inl (up_after k d))
      arg (inr k) (inr d) = inr (inr (up_after k d))
      arg (inl k) (inl d) = elim ((equate σ v x y xb yb early).0 d) [ inl g ↦ inl (inl (reaches_equal k g)) | inr w ↦ inr (inl w.up_right) ]
      arg (inl k) (inr d) = elim ((equate σ v x y xb yb early).0 d) [ inl g ↦ inl (inr (reaches_equal k g)) | inr w ↦ inr (inr w.up_right) ]

      top : (Reaches σ t a ⊎ Reaches σ t b) ⊎ (U a ⊎ U b) → Equivalent σ (app f a b) s ⊎ Via σ v x y xb yb (app f a b) s → Reaches σ t s ⊎ U s
      top k (inr w) = inr w.up_right
      top (inr k) (inl d) = inr (up_equal σ v x y xb yb (up_app σ v x y xb yb m k) d)
      top (inl (inl k)) (inl d) = inl (up k m (inl (reflexive (v.arguments f a b m).0)) d)
      top (inl (inr k)) (inl d) = inl (up k m (inr (reflexive (v.arguments f a b m).1)) d)

  reaches_more : {t s : Term} → Reaches σ t s → Reaches σ' t s
  reaches_more (from c) = from (more_tests _ c)
  reaches_more (up r m e c) = up (reaches_more r) m (elim e [ inl d ↦ inl (more_tests _ d) | inr d ↦ inr (more_tests _ d) ]) (more_tests _ c)

  pub marked_after : (r : ℕ) → Marked σ' r ↔ Marked σ r
  marked_after r = (fwd, bwd)
    where
      -- what lies above the test is held, so an application with something unheld lies above r as before
      old : (f : ℕ) (a b : Term) → app f a b ∈ σ.terms → ¬ (Held σ (app f a b) × Held σ a × Held σ b)
          → Reaches σ' (σ.value r) a ⊎ Reaches σ' (σ.value r) b
          → Reaches σ (σ.value r) a ⊎ Reaches σ (σ.value r) b
      old f a b m n (inl k) = elim (reaches_after k) [ inl g ↦ inl g | inr u ↦ absurd (n (kept σ v x y xb yb early m (inl u))) ]
      old f a b m n (inr k) = elim (reaches_after k) [ inl g ↦ inr g | inr u ↦ absurd (n (kept σ v x y xb yb early m (inr u))) ]

      fwd : Marked σ' r → Marked σ r
      fwd e =
          let n : ¬ (Held σ (app e.function e.first e.second) × Held σ e.first × Held σ e.second) = λ h. e.unheld
          (held_after.1 h.0, held_after.1 h.1, held_after.1 h.2) in
          record {
            function = e.function;
            first = e.first;
            second = e.second;
            listed = e.listed;
            above = climbs_above (old e.function e.first e.second e.listed n (above_climbs e.above));
            unheld = n;
          }

      bwd : Marked σ r → Marked σ' r
      bwd e = record {
        function = e.function;
        first = e.first;
        second = e.second;
        listed = e.listed;
        above = climbs_above (elim (above_climbs e.above) [ inl k ↦ inl (reaches_more k) | inr k ↦ inr (reaches_more k) ]);
        unheld = λ h. e.unheld (held_after.0 h.0, held_after.0 h.1, held_after.0 h.2);
      }
