-- Of the code that names slots and compares windows: a turn of a loop and its end, and what `==` finds.
use mathlib.Core.Path.{◌≡◌, refl, sym, ap, subst, ◌∙◌}
use mathlib.Core.Bool.{Bool, true, false, beq, ◌&&◌}
use mathlib.Core.List.{List}
use Prim.Native.Nat.{ℕ, zero, suc, ◌+◌, ◌*◌, ◌≤◌, ◌<◌}
use native.Mathlib.Omega.{arith}
use lib.Dec.{eqb}
use lib.ListN.{length, get_or, set, length-set}
use lib.Seq.{get_or-set_same, get_or-set_other, ext_get_or}
use borrow.Author.Tests.{eq-eqb, eqb-true, eqb-false, le-ltb}
use Rattle.std.specs.Bool.{Decides}
use Rattle.letters.proofs.Theory.WordLaws.{and_true}
use Rattle.base.proofs.Theory.Choice.{by_test}
use Rattle.window.specs.declared.Window.{Window}
use Rattle.slots.specs.Slots.{Slots, slot_of, Low}
use Rattle.slots.specs.Performing.{window_of}
use Rattle.slots.specs.Performing.{regular_of, same_masks, alike_of, same_marks, same_window, represents_of}

-- a fold up to i, where i is the end
pub at_end {ℓ} : {A : Type ℓ} (F : ℕ → A) (n i : ℕ) (b : A) → i ≤ n → n ≤ i → b ≡ F i → b ≡ F n
at_end F n i b h g e = e ∙ ap F (omega arith)

-- ---- slots for a window

module _ (ρ : ℕ) where
  -- the first i registers have one of ρ slots
  pub record Lowered (i : ℕ) (slot : List ℕ) : Type 0 where
    pub long : length slot ≡ ρ
    pub below : (r : ℕ) → r < i → slot_of slot r < ρ

  pub lowered_none : (slot : List ℕ) → length slot ≡ ρ → Lowered 0 slot
  lowered_none slot h = record { long = h; below = λ r b. absurd (omega arith) }

  pub lowered_more : (i : ℕ) (slot : List ℕ) (v : ℕ) → Lowered i slot → i < ρ → v < ρ → Lowered (i + 1) (set slot i v)
  lowered_more i slot v w h g = record {
    long = simp length-set w.long;
    below = λ r b. by_test (eqb r i)
        (λ t. rw (eqb-true r i t) (rw (get_or-set_same slot i v 0 (omega (arith, w.long))) g))
        (λ t. let n : r ≡ i → ⊥ = eqb-false r i t in rw (get_or-set_other slot i r v 0 n) (w.below r (omega arith)));
  }

  pub lowered_all : (i : ℕ) (slot : List ℕ) → Lowered i slot → ρ ≤ i → Low ρ slot
  lowered_all i slot w h = record { long = w.long; below = λ r b. w.below r (omega arith) }

-- the slots of classes, written register by register
pub ruleset lowered = (lowered_none, lowered_more, lowered_all)

-- ---- windows that are the same

two_tests : (a b : Bool) → (a ≡ true → b ≡ true) → (b ≡ true → a ≡ true) → a ≡ b
two_tests true b f g = sym (f refl)
two_tests false true f g = g refl
two_tests false false f g = refl

module _ (ρ : ℕ) where
  same_at : (l m : List ℕ) (k : ℕ) → same_masks ρ l m k ≡ true → (i : ℕ) → i < k → get_or l i 0 ≡ get_or m i 0
  unfolding same_masks
  same_at l m zero e i h = absurd (omega arith)
  same_at l m (suc k) e i h = let (a, b) = and_true (same_masks ρ l m k) (eqb (get_or l k 0) (get_or m k 0)) e in by_test (eqb i k)
      (λ t. rw (eqb-true i k t) (eqb-true (get_or l k 0) (get_or m k 0) b))
      (λ t. let n : i ≡ k → ⊥ = eqb-false i k t in same_at l m k a i (omega arith))

  masks_same : (l m : List ℕ) (k : ℕ) → length l ≡ k → length m ≡ k → same_masks ρ l m k ≡ true → l ≡ m
  masks_same l m k f g e = ext_get_or 0 l m (f ∙ sym g) (λ i h. same_at l m k e i (omega arith))

  masks_self : (l : List ℕ) (k : ℕ) → same_masks ρ l l k ≡ true
  unfolding same_masks
  masks_self l zero = refl
  masks_self l (suc k) = rw (masks_self l k, eq-eqb (get_or l k 0) (get_or l k 0) refl)

  -- a test that decides whether two lists are one
  pub masks_decided : (l m : List ℕ) (k : ℕ) (r : Bool) → length l ≡ k → length m ≡ k → Decides r (l ≡ m) → r ≡ same_masks ρ l m k
  masks_decided l m k r f g d =
      two_tests r (same_masks ρ l m k) (λ t. subst (λ o. same_masks ρ l o k ≡ true) (d.0 t) (masks_self l k)) (λ t. d.1 (masks_same l m k f g t))

  alike_self : (a : Bool) → alike_of ρ a a ≡ true
  unfolding alike_of
  alike_self true = refl
  alike_self false = refl

  alike_same : (a b : Bool) → alike_of ρ a b ≡ true → a ≡ b
  unfolding alike_of
  alike_same true b e = sym e
  alike_same false true e = e
  alike_same false false e = refl

  marks_at : (l m : List Bool) (k : ℕ) → same_marks ρ l m k ≡ true → (i : ℕ) → i < k → get_or l i false ≡ get_or m i false
  unfolding same_marks
  marks_at l m zero e i h = absurd (omega arith)
  marks_at l m (suc k) e i h = let (a, b) = and_true (same_marks ρ l m k) (alike_of ρ (get_or l k false) (get_or m k false)) e in by_test (eqb i k)
      (λ t. rw (eqb-true i k t) (alike_same (get_or l k false) (get_or m k false) b))
      (λ t. let n : i ≡ k → ⊥ = eqb-false i k t in marks_at l m k a i (omega arith))

  marks_same : (l m : List Bool) (k : ℕ) → length l ≡ k → length m ≡ k → same_marks ρ l m k ≡ true → l ≡ m
  marks_same l m k f g e = ext_get_or false l m (f ∙ sym g) (λ i h. marks_at l m k e i (omega arith))

  marks_self : (l : List Bool) (k : ℕ) → same_marks ρ l l k ≡ true
  unfolding same_marks
  marks_self l zero = refl
  marks_self l (suc k) = rw (marks_self l k, alike_self (get_or l k false))

  pub marks_decided : (l m : List Bool) (k : ℕ) (r : Bool) → length l ≡ k → length m ≡ k → Decides r (l ≡ m) → r ≡ same_marks ρ l m k
  marks_decided l m k r f g d =
      two_tests r (same_marks ρ l m k) (λ t. subst (λ o. same_marks ρ l o k ≡ true) (d.0 t) (marks_self l k)) (λ t. d.1 (marks_same l m k f g t))

  pub alike_decided : (a b : Bool) → beq a b ≡ alike_of ρ a b
  unfolding alike_of
  alike_decided true true = refl
  alike_decided true false = refl
  alike_decided false true = refl
  alike_decided false false = refl

module _ (ρ φ : ℕ) where
  -- the tables have the lengths of their types
  pub record Long (w : Window) : Type 0 where
    pub class : length w.class ≡ ρ
    pub unequal : length w.unequal ≡ ρ
    pub result : length w.result ≡ φ * ρ * ρ
    pub ever : length w.ever ≡ φ * ρ
    pub mark : length w.mark ≡ ρ

  pub same-window : (v w : Window) → Long v → Long w → same_window ρ φ v w ≡ true → v ≡ w
  unfolding same_window
  same-window v w f g e =
      let (all, n) = and_true _ (eqb v.classes w.classes) e in
      let (rest, i) = and_true _ (alike_of ρ v.infeasible w.infeasible) all in
      let (tables, m) = and_true _ (same_marks ρ v.mark w.mark ρ) rest in
      let (three, t) = and_true _ (same_masks ρ v.ever w.ever (φ * ρ)) tables in
      let (two, r) = and_true _ (same_masks ρ v.result w.result (φ * ρ * ρ)) three in
      let (c, u) = and_true (same_masks ρ v.class w.class ρ) (same_masks ρ v.unequal w.unequal ρ) two in
      let ce = masks_same ρ v.class w.class ρ f.class g.class c in
      let ue = masks_same ρ v.unequal w.unequal ρ f.unequal g.unequal u in
      let re = masks_same ρ v.result w.result (φ * ρ * ρ) f.result g.result r in
      let ee = masks_same ρ v.ever w.ever (φ * ρ) f.ever g.ever t in
      let me = marks_same ρ v.mark w.mark ρ f.mark g.mark m in
      let ie = alike_same ρ v.infeasible w.infeasible i in
      let ne = eqb-true v.classes w.classes n in
      λ k. record { class = ce k; unequal = ue k; result = re k; ever = ee k; mark = me k; infeasible = ie k; classes = ne k }

  -- what `==` finds of each table
  pub window_compared : (v w : Window) (c u r e m : Bool) → Long v → Long w → Decides c (v.class ≡ w.class) → Decides u (v.unequal ≡ w.unequal)
      → Decides r (v.result ≡ w.result) → Decides e (v.ever ≡ w.ever) → Decides m (v.mark ≡ w.mark)
      → ((((((c && u) && r) && e) && m) && beq v.infeasible w.infeasible) && eqb v.classes w.classes) ≡ same_window ρ φ v w
  unfolding same_window
  window_compared v w c u r e m f g ce ue re ee me =
      let cf = masks_decided ρ v.class w.class ρ c f.class g.class ce in
      let uf = masks_decided ρ v.unequal w.unequal ρ u f.unequal g.unequal ue in
      let rf = masks_decided ρ v.result w.result (φ * ρ * ρ) r f.result g.result re in
      let ef = masks_decided ρ v.ever w.ever (φ * ρ) e f.ever g.ever ee in
      let mf = marks_decided ρ v.mark w.mark ρ m f.mark g.mark me in
      rw (cf, uf, rf, ef, mf, alike_decided ρ v.infeasible w.infeasible)

  pub compared : (v u : Window) (w : Slots) (n : ℕ) (b : Bool) → n ≤ ρ → regular_of ρ φ w n ≡ true → u ≡ window_of ρ φ w → b ≡ same_window ρ φ v u
      → b ≡ represents_of ρ φ v w n
  unfolding represents_of
  compared v u w n b h e f d = rw (le-ltb ρ n h, e) (d ∙ ap (same_window ρ φ v) f)
