-- The class of a register is what its slot has, and what gets a mark as a register loses its value is what is below its slot.
use mathlib.Core.Path.{◌≡◌, refl, sym, ap, ◌∙◌, subst}
use mathlib.Core.Logic.Iff
use mathlib.Core.Logic.{◌⊎◌, inl, inr, ◌↔◌, ◌≢◌, ⊎_elim}
use Prim.Native.Nat.{ℕ, ◌*◌, ◌^◌, ◌<◌}
use native.Mathlib.Omega.{arith}
use lib.Dec.{eqb, ltb, T, ltb→lt}
use lib.Bits.{bit_or}
use lib.ListN.{get_or}
use borrow.Author.Tests.{eqb-true, eq-eqb, lt-ltb}
use Rattle.base.specs.Masks.{has}
use Rattle.base.specs.LeastAndSize.{size_of}
use Rattle.base.proofs.Theory.MaskLaws.{bits_same}
use Rattle.semantics.proofs.Theory.Booleans.{is_true, and_l, and_r}
use Rattle.semantics.proofs.Theory.Of.{same_test}
use Rattle.window.specs.Places.{place, place_function, place_first, place_second}
use Rattle.window.proofs.Theory.Places.{place_is, first_place, second_place, place_below, function_below, first_below, second_below}
use Rattle.window.proofs.Theory.Bits.{truth, or_is, single_is, pow_small, eq_or}
use Rattle.window.proofs.Theory.Size.{alone, other}
use Rattle.window.specs.Marks.{lost_of}
use Rattle.window.proofs.Theory.Marks.{Beneath, extra, direct, beneath, lost_beneath}
use Rattle.window.proofs.Theory.Copying.{cell_result, result_cell}
use Rattle.window.proofs.Theory.Uniqueness.{bit_same}
use Rattle.window.specs.declared.Window.{Window}
use Rattle.slots.specs.Slots.{Slots, slot_of}
use Rattle.slots.specs.Represents.{slot_view, Mirrors}
use Rattle.slots.proofs.Theory.Pulling.{move3}

-- a slot that is added says nothing of the others
pub one_more : (m s t : ℕ) → t ≢ s → T (has m t) ↔ T (has (bit_or m (2 ^ s)) t)
one_more m s t d = ((λ k. (or_is m (2 ^ s) t).1 (inl k)), (λ k. ⊎_elim (λ u. u) (λ u. absurd (d ((single_is s t).0 u))) ((or_is m (2 ^ s) t).0 k)))

module _ (ρ φ n : ℕ) (s : Slots) (w : Window) (m : Mirrors ρ φ n s w) where
  abbrev g : ℕ → ℕ
  g = slot_of s.slot

  pub up : (r : ℕ) → r < n → r < ρ
  up r b = omega (arith, m.inside.fits)

  pub low : (r : ℕ) → r < n → slot_of s.slot r < ρ
  low r b = m.laid.low.below r (up r b)

  -- registers are of one class exactly if they have one slot
  pub one_slot : (x y : ℕ) → x < n → y < n → has (get_or w.class x 0) y ≡ eqb (slot_of s.slot x) (slot_of s.slot y)
  one_slot x y xb yb = same_test (has (get_or w.class x 0) y) (eqb (g x) (g y)) (
    (λ t. truth (eqb (g x) (g y)) (eq-eqb (g x) (g y) ((m.pulled.same x y xb yb).0 t))),
    (λ t. (m.pulled.same x y xb yb).1 (eqb-true (g x) (g y) (is_true (eqb (g x) (g y)) t))),
  )

  pub class_is : (x : ℕ) → x < n → get_or w.class x 0 ≡ get_or s.regs (slot_of s.slot x) 0
  class_is x xb = bits_same ρ A B (m.shaped.class_bytes x) (m.grouped.bytes (g x)) (λ i ib. bit_same A B i (same_test (has A i) (has B i) (
    (λ t. let ib' = (m.inside.same x i (up x xb) ib t).1 in (m.grouped.members (g x) i (low x xb)).1 (ib', sym ((m.pulled.same x i xb ib').0 t))),
    (λ t. let (ib', e) = (m.grouped.members (g x) i (low x xb)).0 t in (m.pulled.same x i xb ib').1 (sym e)),
  )))
    where
      A : ℕ
      A = get_or w.class x 0

      B : ℕ
      B = get_or s.regs (slot_of s.slot x) 0

  -- x is alone in its slot
  pub only : (x : ℕ) → x < n → get_or s.regs (slot_of s.slot x) 0 ≡ 2 ^ x → (r : ℕ) → r < n → slot_of s.slot r ≡ slot_of s.slot x → r ≡ x
  only x xb e r rb h = (single_is x r).0 (subst (λ z. T (has z r)) e ((m.grouped.members (g x) r (low x xb)).1 (rb, h)))

  pub alone_is : (x : ℕ) → x < n → (size_of ρ (get_or w.class x 0) ≡ 1) ↔ (get_or s.regs (slot_of s.slot x) 0 ≡ 2 ^ x)
  alone_is x xb = (
    (λ e. bits_same ρ B (2 ^ x) (m.grouped.bytes (g x)) (pow_small ρ x (up x xb)) (λ i ib. bit_same B (2 ^ x) i (same_test (has B i) (has (2 ^ x) i) (
      (λ t. (single_is x i).1 (alone ρ A x (up x xb) self e i ib (subst (λ z. T (has z i)) (sym (class_is x xb)) t))),
      (λ t. subst (λ z. T (has B z)) (sym ((single_is x i).0 t)) (subst (λ z. T (has z x)) (class_is x xb) self)),
    )))),
    (λ e. ⊎_elim (λ p. p) (λ p. let (j, jb, d, t) = other ρ A x (up x xb) self p in
        absurd (d ((single_is x j).0 (subst (λ z. T (has z j)) (class_is x xb ∙ e) t)))) (eq_or (size_of ρ A) 1)),
  )
    where
      A : ℕ
      A = get_or w.class x 0

      B : ℕ
      B = get_or s.regs (slot_of s.slot x) 0

      self : T (has (get_or w.class x 0) x)
      self = (m.pulled.same x x xb xb).1 refl

  -- ---- an entry of the table of results

  pub slot_cell : (f a b c : ℕ) → a < ρ → b < ρ → T ((slot_view ρ φ s.unequal s.result s.ever).result f a b c)
      → (place ρ f a b < φ * ρ * ρ) × T (has (get_or s.result (place ρ f a b) 0) c)
  slot_cell f a b c ab bb t =
      let l = ltb→lt f φ (and_l (ltb f φ) (has (get_or s.result (place ρ f a b) 0) c) t) in
      (place_below ρ f a b ab bb φ l, and_r (ltb f φ) (has (get_or s.result (place ρ f a b) 0) c) t)

  pub cell_slot : (k c : ℕ) → k < φ * ρ * ρ → T (has (get_or s.result k 0) c)
      → T ((slot_view ρ φ s.unequal s.result s.ever).result (place_function ρ k) (place_first ρ k) (place_second ρ k) c)
  cell_slot k c b t = rw (lt-ltb (place_function ρ k) φ (function_below ρ φ k b), place_is ρ k) t

  -- ---- what lies beneath a register that is alone in its slot, and what lies beneath the slot

  module _ (x more more' : ℕ) (xb : x < n) (lone : (r : ℕ) → r < n → slot_of s.slot r ≡ slot_of s.slot x → r ≡ x)
      (mo : (r : ℕ) → r < n → T (has more r) ↔ T (has more' (slot_of s.slot r))) where
    -- the entry of a window at the slots of its registers
    record Entry (k c : ℕ) : Type 0 where
      first_in : place_first ρ k < n
      second_in : place_second ρ k < n
      to_in : c < n
      below : place ρ (place_function ρ k) (slot_of s.slot (place_first ρ k)) (slot_of s.slot (place_second ρ k)) < φ * ρ * ρ
      holds : T (has (get_or s.result (place ρ (place_function ρ k) (slot_of s.slot (place_first ρ k)) (slot_of s.slot (place_second ρ k))) 0)
          (slot_of s.slot c))

    entry : (k c : ℕ) → k < φ * ρ * ρ → c < ρ → T (has (get_or w.result k 0) c) → Entry k c
    entry k c kb cb t =
        let u = cell_result ρ φ w k c kb t in
        let (ab, bb, cc) = m.inside.result (place_function ρ k) (place_first ρ k) (place_second ρ k) c (first_below ρ φ k kb) (second_below ρ φ k kb) cb u in
        let (l, v) = slot_cell (place_function ρ k) (g (place_first ρ k)) (g (place_second ρ k)) (g c) (low (place_first ρ k) ab) (low (place_second ρ k) bb)
        ((m.pulled.result (place_function ρ k) (place_first ρ k) (place_second ρ k) c ab bb cc).0 u) in
        record { first_in = ab; second_in = bb; to_in = cc; below = l; holds = v }

    first_of : (k c : ℕ) → Entry k c
        → place_first ρ (place ρ (place_function ρ k) (slot_of s.slot (place_first ρ k)) (slot_of s.slot (place_second ρ k))) ≡ slot_of s.slot
        (place_first ρ k)
    first_of k c e = first_place ρ (place_function ρ k) (g (place_first ρ k)) (g (place_second ρ k)) (low (place_first ρ k) e.first_in)
        (low (place_second ρ k) e.second_in)

    second_of : (k c : ℕ) → Entry k c
        → place_second ρ (place ρ (place_function ρ k) (slot_of s.slot (place_first ρ k)) (slot_of s.slot (place_second ρ k))) ≡ slot_of s.slot
        (place_second ρ k)
    second_of k c e = second_place ρ (place_function ρ k) (g (place_first ρ k)) (g (place_second ρ k)) (low (place_first ρ k) e.first_in)
        (low (place_second ρ k) e.second_in)

    into : {h : ℕ} → h < n → Beneath ρ φ w.result x more h → Beneath ρ φ s.result (slot_of s.slot x) more' (slot_of s.slot h)
    into {h} hb (extra t) = extra ((mo h hb).0 t)
    into {h} hb (direct k {c} kb cb t d e) =
        let v = entry k c kb cb t in
        direct (place ρ (place_function ρ k) (g (place_first ρ k)) (g (place_second ρ k))) v.below (low c v.to_in) v.holds
        (⊎_elim (λ i. inl (first_of k c v ∙ ap g i)) (⊎_elim (λ i. inr (inl (second_of k c v ∙ ap g i))) (λ i. inr (inr (ap g i)))) d)
        (⊎_elim (λ i. inl (ap g i ∙ sym (first_of k c v))) (λ i. inr (ap g i ∙ sym (second_of k c v))) e)
    into {h} hb (beneath k {c} kb cb t o e) =
        let v = entry k c kb cb t in
        beneath (place ρ (place_function ρ k) (g (place_first ρ k)) (g (place_second ρ k))) v.below (low c v.to_in) v.holds (into v.to_in o)
        (⊎_elim (λ i. inl (ap g i ∙ sym (first_of k c v))) (λ i. inr (ap g i ∙ sym (second_of k c v))) e)

    -- an entry at slots, at registers of those slots
    at_registers : (k c p q r : ℕ) → k < φ * ρ * ρ → T (has (get_or s.result k 0) c) → p < n → q < n → r < n → slot_of s.slot p ≡ place_first ρ k
        → slot_of s.slot q ≡ place_second ρ k → slot_of s.slot r ≡ c
        → (place ρ (place_function ρ k) p q < φ * ρ * ρ) × T (has (get_or w.result (place ρ (place_function ρ k) p q) 0) r)
    at_registers k c p q r kb t pb qb rb i j l =
        result_cell ρ φ w (place_function ρ k) p q r (up p pb) (up q qb) ((m.pulled.result (place_function ρ k) p q r pb qb rb).1
        (move3 (λ a b d. T ((slot_view ρ φ s.unequal s.result s.ever).result (place_function ρ k) a b d)) (sym i) (sym j) (sym l) (cell_slot k c kb t)))

    -- registers of the slots of an entry, with h for the one that it stands beneath
    chosen : (k c h : ℕ) {t : ℕ} → k < φ * ρ * ρ → c < ρ → T (has (get_or s.result k 0) c) → h < n → slot_of s.slot h ≡ t
        → (t ≡ place_first ρ k) ⊎ (t ≡ place_second ρ k)
        → (p : ℕ) × (q : ℕ) × (r : ℕ) × (p < n) × (q < n) × (r < n) × (slot_of s.slot p ≡ place_first ρ k) × (slot_of s.slot q ≡ place_second ρ k)
        × (slot_of s.slot r ≡ c) × ((h ≡ p) ⊎ (h ≡ q))
    chosen k c h kb cb t hb i e =
        let ((p, pb, pe), (q, qb, qe), (r, rb, re)) =
        m.clean.result (place_function ρ k) (place_first ρ k) (place_second ρ k) c (first_below ρ φ k kb) (second_below ρ φ k kb) cb (cell_slot k c kb t) in
        ⊎_elim (λ j. (h, q, r, hb, qb, rb, i ∙ j, qe, re, inl refl)) (λ j. (p, h, r, pb, hb, rb, pe, i ∙ j, re, inr refl)) e

    back : {t : ℕ} → Beneath ρ φ s.result (slot_of s.slot x) more' t → (h : ℕ) → h < n → slot_of s.slot h ≡ t → Beneath ρ φ w.result x more h
    back (extra t) h hb e = extra ((mo h hb).1 (subst (λ z. T (has more' z)) (sym e) t))
    back (direct k {c} kb cb t d e) h hb i =
        let (p, q, r, pb, qb, rb, pe, qe, re, o) = chosen k c h kb cb t hb i e in
        let (l, u) = at_registers k c p q r kb t pb qb rb pe qe re in
        let f1 = first_place ρ (place_function ρ k) p q (up p pb) (up q qb) in
        let f2 = second_place ρ (place_function ρ k) p q (up p pb) (up q qb) in
        direct (place ρ (place_function ρ k) p q) l (up r rb) u
        (⊎_elim (λ j. inl (f1 ∙ lone p pb (pe ∙ j))) (⊎_elim (λ j. inr (inl (f2 ∙ lone q qb (qe ∙ j)))) (λ j. inr (inr (lone r rb (re ∙ j))))) d)
        (⊎_elim (λ j. inl (j ∙ sym f1)) (λ j. inr (j ∙ sym f2)) o)
    back (beneath k {c} kb cb t b e) h hb i =
        let (p, q, r, pb, qb, rb, pe, qe, re, o) = chosen k c h kb cb t hb i e in
        let (l, u) = at_registers k c p q r kb t pb qb rb pe qe re in
        let f1 = first_place ρ (place_function ρ k) p q (up p pb) (up q qb) in
        let f2 = second_place ρ (place_function ρ k) p q (up p pb) (up q qb) in
        beneath (place ρ (place_function ρ k) p q) l (up r rb) u (back b r rb re)
        (⊎_elim (λ j. inl (j ∙ sym f1)) (λ j. inr (j ∙ sym f2)) o)

    -- a register gets a mark exactly if its slot is below the lost one
    pub lost_is : more' < 2 ^ ρ → (h : ℕ) → h < n
        → Beneath ρ φ w.result x more h ↔ T (has (lost_of ρ φ s.result (slot_of s.slot x) more') (slot_of s.slot h))
    lost_is mb h hb = Iff.trans ((λ b. into hb b), (λ b. back b h hb refl)) (Iff.symm (lost_beneath ρ φ s.result (g x) more' (low x xb) mb (g h)))
