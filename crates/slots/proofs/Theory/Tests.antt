-- Tests on slots are tests on the window, and a letter is coherent for the one exactly if it is for the other.
use mathlib.Core.Path.{◌≡◌, refl, sym, ap, ap₂, ◌∙◌, subst}
use mathlib.Core.Logic.Iff
use mathlib.Core.Logic.{◌⊎◌, inl, inr, ◌↔◌, ⊎_elim}
use mathlib.Core.Bool.{Bool, true, false, ◌||◌}
use mathlib.Core.List.{List}
use Prim.Native.Nat.{ℕ, zero, suc, ◌+◌, ◌*◌, ◌^◌, ◌<◌}
use native.Mathlib.Omega.{arith}
use lib.Dec.{eqb, ltb, T, lt→ltb}
use lib.Bits.{bit_or}
use lib.ListN.{get_or, set, length-set, replicate, length-replicate}
use borrow.Author.Tests.{eqb-false}
use Rattle.base.specs.Choice.{pick}
use Rattle.base.proofs.Theory.Choice.{by_test}
use Rattle.base.specs.Masks.{has}
use Rattle.semantics.proofs.Theory.Booleans.{or_e, or_l, or_r, and_r, and_i}
use Rattle.semantics.proofs.Theory.Of.{same_test}
use Rattle.window.proofs.Theory.Bits.{none_in, none_small, nonempty_is, or_is, or_small, same_iff, eq_or, less_or}
use Rattle.window.specs.Bits.{nonempty}
use Rattle.window.specs.Places.{place}
use Rattle.window.proofs.Theory.Table.{table_at, table_out, table_length}
use Rattle.window.specs.Adding.{part_of}
use Rattle.window.specs.Performing as windows
use Rattle.window.specs.Viewing.{view, Inside, Shaped}
use Rattle.window.proofs.Theory.Judging.{clash_is, steady}
use Rattle.window.specs.declared.Window.{Window}
use Rattle.slots.specs.Slots.{Slots, slot_of}
use Rattle.slots.specs.Performing.{slots_with_unequal, clash_slots, apart_slots, early_slots, memoizing_slots, merged_slots, closed_slots, settled_slots}
use Rattle.slots.specs.Performing.{equal_slots, unequal_slots}
use Rattle.slots.proofs.Theory.Laying.{apart_length}
use Rattle.slots.specs.Represents.{slot_view, Mirrors, RepresentsWindow}
use Rattle.slots.proofs.Theory.Pulling.{laws_pulled, move2}
use Rattle.slots.proofs.Theory.Tables.{added}
use Rattle.slots.proofs.Theory.Marking.{up, low, one_slot}
use Rattle.slots.proofs.Theory.Merges.{merged_mirrors}
use Rattle.slots.proofs.Theory.Entries.{part_is}
use Rattle.slots.proofs.Theory.Closings.{closed_mirrors, single_stable}
use Rattle.slots.proofs.Theory.Applications.{entry_is}

-- ---- no unequal pairs

zero_at : (n k : ℕ) → get_or {A = ℕ} (replicate n 0) k 0 ≡ 0
zero_at zero k = refl
zero_at (suc n) zero = refl
zero_at (suc n) (suc k) = zero_at n k

zero_in : (n k c : ℕ) → ¬ T (has (get_or (replicate n 0) k 0) c)
zero_in n k c t = none_in c (subst (λ z. T (has z c)) (zero_at n k) t)

module _ (ρ φ n : ℕ) (s : Slots) (w : Window) (h : RepresentsWindow ρ φ n s w) where
  abbrev m : Mirrors ρ φ n s w
  m = h.mirrors

  cleared : RepresentsWindow ρ φ n (slots_with_unequal s (replicate ρ 0) true) (windows.with_unequal w (replicate ρ 0) true)
  cleared = record {
    mirrors = record {
      shaped = record {
        class = m.shaped.class;
        unequal = length-replicate ρ 0;
        result = m.shaped.result;
        ever = m.shaped.ever;
        mark = m.shaped.mark;
        class_bytes = m.shaped.class_bytes;
        unequal_bytes = λ k. subst (λ z. z < 2 ^ ρ) (sym (zero_at ρ k)) (none_small ρ);
        result_bytes = m.shaped.result_bytes;
        ever_bytes = m.shaped.ever_bytes;
      };
      inside = record {
        fits = m.inside.fits;
        same = m.inside.same;
        apart = λ r q rb qb t. absurd (zero_in ρ r q t);
        result = m.inside.result;
        ever = m.inside.ever;
        marked = m.inside.marked;
      };
      laid = record {
        low = m.laid.low;
        regs_long = m.laid.regs_long;
        tables = record { unequal_long = length-replicate ρ 0; result_long = m.laid.tables.result_long; ever_long = m.laid.tables.ever_long };
        mark_long = m.laid.mark_long;
      };
      grouped = m.grouped;
      clean = record { apart = λ p q pb qb t. absurd (zero_in ρ p q t); result = m.clean.result; ever = m.clean.ever };
      pulled = record {
        same = m.pulled.same;
        apart = λ r q rb qb. ((λ t. absurd (zero_in ρ r q t)), (λ t. absurd (zero_in ρ (slot_of s.slot r) (slot_of s.slot q) t)));
        result = m.pulled.result;
        ever = m.pulled.ever;
      };
      marked = m.marked;
      infeasible = refl;
      counted = m.counted;
    };
    single = record { one = h.single.one };
  }

  pub settled_represents : (bad bad' : Bool) → bad' ≡ bad → RepresentsWindow ρ φ n (settled_slots ρ φ s bad) (windows.settled_of ρ φ w bad')
  unfolding settled_slots windows.settled_of
  settled_represents bad bad' e = let i = ap₂ ◌||◌ m.infeasible e in by_test (s.infeasible || bad) (λ t. rw (i, t) cleared) (λ t. rw (i, t) h)

-- ---- an equal test

clash-slots : (l : List ℕ) (k : ℕ) → T (clash_slots l k) ↔ ((u : ℕ) × (u < k) × T (has (get_or l u 0) u))
unfolding clash_slots
clash-slots l zero = ((λ t. absurd t), (λ (u, b, _). absurd (omega arith)))
clash-slots l (suc k) = (
  (λ t. ⊎_elim (λ q. let (u, b, p) = (clash-slots l k).0 q in (u, omega arith, p)) (λ q. (k, omega arith, q))
      (or_e (clash_slots l k) (has (get_or l k 0) k) t)),
  (λ (u, b, t). ⊎_elim
      (λ e. or_r (clash_slots l k) (has (get_or l k 0) k) (subst (λ z. T (has (get_or l z 0) z)) e t))
      (λ e. or_l (clash_slots l k) (has (get_or l k 0) k) ((clash-slots l k).1 (u, omega arith, t)))
      (eq_or u k)),
)

clash_same : (ρ φ n : ℕ) (s : Slots) (w : Window) → Mirrors ρ φ n s w → windows.clash_of ρ φ w.class w.unequal ρ ≡ clash_slots s.unequal ρ
clash_same ρ φ n s w m = same_test (windows.clash_of ρ φ w.class w.unequal ρ) (clash_slots s.unequal ρ) (
  (λ t. let (r, q, rb, qb, i, j) = (clash_is ρ φ w.class w.unequal ρ).0 t in
      let (rn, qn) = m.inside.same r q rb qb i in
      (clash-slots s.unequal ρ).1 (
        slot_of s.slot r,
        low ρ φ n s w m r rn,
        subst (λ z. T (has (get_or s.unequal (slot_of s.slot r) 0) z))
            (sym ((m.pulled.same r q rn qn).0 i)) ((m.pulled.apart r q rn qn).0 j),
      )),
  (λ t. let (u, ub, p) = (clash-slots s.unequal ρ).0 t in
      let ((r, rn, e), _) = m.clean.apart u u ub ub p in
      let rb = up ρ φ n s w m r rn in
      (clash_is ρ φ w.class w.unequal ρ).1 (
        r,
        r,
        rb,
        rb,
        (m.pulled.same r r rn rn).1 refl,
        (m.pulled.apart r r rn rn).1
            (move2 (λ a b. T (has (get_or s.unequal a 0) b)) (sym e) (sym e) p),
      )),
)

pub equal_represents : (ρ φ n : ℕ) (s : Slots) (w : Window) → RepresentsWindow ρ φ n s w → (x y : ℕ) → x < n → y < n
    → RepresentsWindow ρ φ n (equal_slots ρ φ s x y) (windows.equal_of ρ φ w x y)
unfolding equal_slots windows.equal_of
equal_represents ρ φ n s w h x y xb yb = by_test (eqb (slot_of s.slot x) (slot_of s.slot y))
    (λ t. rw (t, one_slot ρ φ n s w h.mirrors x y xb yb ∙ t) h)
    (λ t. let d = eqb-false (slot_of s.slot x) (slot_of s.slot y) t in
    let k = closed_mirrors ρ φ n (ρ * ρ + 1) (merged_slots ρ φ s (slot_of s.slot x) (slot_of s.slot y)) (windows.merged_of ρ φ w x y)
    (merged_mirrors ρ φ n s w h.mirrors x y xb yb d) in
    let laws = laws_pulled n (slot_of s.slot) (view ρ φ w) (slot_view ρ φ s.unequal s.result s.ever) h.mirrors.pulled in
    let st = steady ρ φ w h.mirrors.shaped n laws h.mirrors.inside x y xb yb in
    let s₁ = closed_slots ρ φ (ρ * ρ + 1) (merged_slots ρ φ s (slot_of s.slot x) (slot_of s.slot y)) in
    let w₁ = windows.closed_of ρ φ (ρ * ρ + 1) (windows.merged_of ρ φ w x y) in
    rw (t, one_slot ρ φ n s w h.mirrors x y xb yb ∙ t)
    (settled_represents ρ φ n s₁ w₁ (record { mirrors = k; single = single_stable ρ φ n s₁ w₁ k st }) (clash_slots s₁.unequal ρ)
    (windows.clash_of ρ φ w₁.class w₁.unequal ρ) (clash_same ρ φ n s₁ w₁ k)))

-- ---- an unequal test

module _ (ρ φ n : ℕ) (s : Slots) (w : Window) (h : RepresentsWindow ρ φ n s w) (x y : ℕ) (xb : x < n) (yb : y < n) where
  abbrev a : ℕ
  a = slot_of s.slot x

  abbrev b : ℕ
  b = slot_of s.slot y

  abbrev C : ℕ
  C = get_or w.class x 0

  abbrev D : ℕ
  D = get_or w.class y 0

  parted_is : (r q : ℕ) → r < ρ → T (has (get_or (windows.parted_of ρ φ w.unequal C D) r 0) q)
      ↔ (T ((view ρ φ w).apart r q) ⊎ ((T ((view ρ φ w).same x r) × T ((view ρ φ w).same y q)) ⊎ (T ((view ρ φ w).same y r) × T ((view ρ φ w).same x q))))
  unfolding windows.parted_of
  parted_is r q rb = Iff.trans (same_iff (ap (λ z. has z q) (table_at (λ r. bit_or (bit_or (get_or w.unequal r 0) (part_of C D r)) (part_of D C r)) ρ r 0 rb)))
      (Iff.trans (or_is (bit_or (get_or w.unequal r 0) (part_of C D r)) (part_of D C r) q) (
        (λ t. ⊎_elim (λ k. ⊎_elim inl (λ l. inr (inl ((part_is C D r q).0 l))) ((or_is (get_or w.unequal r 0) (part_of C D r) q).0 k))
            (λ k. inr (inr ((part_is D C r q).0 k))) t),
        (λ t. ⊎_elim (λ k. inl ((or_is (get_or w.unequal r 0) (part_of C D r) q).1 (inl k)))
            (⊎_elim (λ k. inl ((or_is (get_or w.unequal r 0) (part_of C D r) q).1 (inr ((part_is C D r q).1 k)))) (λ k. inr ((part_is D C r q).1 k))) t),
      ))

  apart_is : (p q : ℕ) → T (has (get_or (apart_slots s.unequal a b) p 0) q) ↔ (T (has (get_or s.unequal p 0) q) ⊎ (((p ≡ a) × (q ≡ b)) ⊎ ((p ≡ b) × (q ≡ a))))
  unfolding apart_slots
  apart_is p q =
      let l = s.unequal in
      let next = set l a (bit_or (get_or l a 0) (2 ^ b)) in
      let al = subst (λ z. a < z) (sym h.mirrors.laid.tables.unequal_long) (low ρ φ n s w h.mirrors x xb) in
      let bl = subst (λ z. b < z) (sym (length-set l a (bit_or (get_or l a 0) (2 ^ b)) ∙ h.mirrors.laid.tables.unequal_long))
      (low ρ φ n s w h.mirrors y yb) in
      Iff.trans (added next b p a q bl) (
        (λ t. ⊎_elim (λ k. ⊎_elim inl (λ z. inr (inl z)) ((added l a p b q al).0 k)) (λ k. inr (inr k)) t),
        (λ t. ⊎_elim (λ k. inl ((added l a p b q al).1 (inl k))) (⊎_elim (λ k. inl ((added l a p b q al).1 (inr k))) (λ k. inr k)) t),
      )

  abbrev s' : Slots
  s' = slots_with_unequal s (apart_slots s.unequal a b) s.infeasible

  abbrev w' : Window
  w' = windows.with_unequal w (windows.parted_of ρ φ w.unequal C D) w.infeasible

  part_small : (one two r : ℕ) → two < 2 ^ ρ → part_of one two r < 2 ^ ρ
  unfolding part_of
  part_small one two r q = by_test (has one r) (λ t. rw t q) (λ t. rw t (none_small ρ))

  shaped : Shaped ρ φ w'
  unfolding windows.parted_of
  shaped = record {
    class = h.mirrors.shaped.class;
    unequal = table_length _ ρ;
    result = h.mirrors.shaped.result;
    ever = h.mirrors.shaped.ever;
    mark = h.mirrors.shaped.mark;
    class_bytes = h.mirrors.shaped.class_bytes;
    unequal_bytes = λ k. ⊎_elim
        (λ kb. subst (λ z. z < 2 ^ ρ) (sym (table_at (λ r. bit_or (bit_or (get_or w.unequal r 0) (part_of C D r)) (part_of D C r)) ρ k 0 kb))
        (or_small ρ (bit_or (get_or w.unequal k 0) (part_of C D k)) (part_of D C k)
        (or_small ρ (get_or w.unequal k 0) (part_of C D k) (h.mirrors.shaped.unequal_bytes k) (part_small C D k (h.mirrors.shaped.class_bytes y)))
        (part_small D C k (h.mirrors.shaped.class_bytes x))))
        (λ kb. subst (λ z. z < 2 ^ ρ) (sym (table_out (λ r. bit_or (bit_or (get_or w.unequal r 0) (part_of C D r)) (part_of D C r)) ρ k 0 kb)) (none_small ρ))
        (less_or k ρ);
    result_bytes = h.mirrors.shaped.result_bytes;
    ever_bytes = h.mirrors.shaped.ever_bytes;
  }

  inside : Inside ρ n (view ρ φ w')
  inside = let i = h.mirrors.inside in let xu = up ρ φ n s w h.mirrors x xb in let yu = up ρ φ n s w h.mirrors y yb in record {
    fits = i.fits;
    same = i.same;
    apart = λ r q rb qb t. ⊎_elim (λ k. i.apart r q rb qb k)
        (⊎_elim (λ (k, l). ((i.same x r xu rb k).1, (i.same y q yu qb l).1)) (λ (k, l). ((i.same y r yu rb k).1, (i.same x q xu qb l).1)))
        ((parted_is r q rb).0 t);
    result = i.result;
    ever = i.ever;
    marked = i.marked;
  }

  separated : RepresentsWindow ρ φ n s' w'
  separated = let m = h.mirrors in record {
    mirrors = record {
      shaped = shaped;
      inside = inside;
      laid = record {
        low = m.laid.low;
        regs_long = m.laid.regs_long;
        tables = record {
          unequal_long = apart_length s.unequal a b ∙ m.laid.tables.unequal_long;
          result_long = m.laid.tables.result_long;
          ever_long =
              m.laid.tables.ever_long;
        };
        mark_long = m.laid.mark_long;
      };
      grouped = m.grouped;
      clean = record {
        apart = λ p q pb qb t. ⊎_elim (λ k. m.clean.apart p q pb qb k)
            (⊎_elim (λ (i, j). ((x, xb, sym i), (y, yb, sym j))) (λ (i, j). ((y, yb, sym i), (x, xb, sym j)))) ((apart_is p q).0 t);
        result = m.clean.result;
        ever = m.clean.ever;
      };
      pulled = record {
        same = m.pulled.same;
        apart = λ r q rn qn. Iff.trans (parted_is r q (up ρ φ n s w m r rn)) (Iff.trans (
          (λ t. ⊎_elim (λ k. inl ((m.pulled.apart r q rn qn).0 k)) (λ k. inr (⊎_elim
              (λ (i, j). inl (sym ((m.pulled.same x r xb rn).0 i), sym ((m.pulled.same y q yb qn).0 j)))
              (λ (i, j). inr (sym ((m.pulled.same y r yb rn).0 i), sym ((m.pulled.same x q xb qn).0 j))) k)) t),
          (λ t. ⊎_elim (λ k. inl ((m.pulled.apart r q rn qn).1 k)) (λ k. inr (⊎_elim
              (λ (i, j). inl ((m.pulled.same x r xb rn).1 (sym i), (m.pulled.same y q yb qn).1 (sym j)))
              (λ (i, j). inr ((m.pulled.same y r yb rn).1 (sym i), (m.pulled.same x q xb qn).1 (sym j))) k)) t),
        ) ((λ t. (apart_is (slot_of s.slot r) (slot_of s.slot q)).1 t), (λ t. (apart_is (slot_of s.slot r) (slot_of s.slot q)).0 t)));
        result = m.pulled.result;
        ever = m.pulled.ever;
      };
      marked = m.marked;
      infeasible = m.infeasible;
      counted = m.counted;
    };
    single = record { one = h.single.one };
  }

  pub unequal_represents : RepresentsWindow ρ φ n (unequal_slots ρ φ s x y) (windows.unequal_of ρ φ w x y)
  unfolding unequal_slots windows.unequal_of
  unequal_represents = settled_represents ρ φ n s' w' separated (eqb a b) (has (get_or w.class x 0) y)
      (one_slot ρ φ n s w h.mirrors x y xb yb)

-- ---- whether a letter is coherent

module _ (ρ φ n : ℕ) (s : Slots) (w : Window) (h : RepresentsWindow ρ φ n s w) where
  pub memoizing_same : (f y z : ℕ) → f < φ → y < n → z < n → memoizing_slots ρ s.slot s.result s.ever f y z ≡ windows.memoizing_of ρ φ w f y z
  unfolding memoizing_slots windows.memoizing_of
  memoizing_same f y z fb yb zb =
      let E = get_or s.result (place ρ f (slot_of s.slot y) (slot_of s.slot z)) 0 in
      let R = get_or w.result (place ρ f y z) 0 in
      by_test (has (get_or w.ever (ρ * f + y) 0) z)
      (λ t. rw (ever_same ∙ t, t) (same_test (nonempty ρ E) (nonempty ρ R) (
        (λ k. let (c, cb, u) = (nonempty_is ρ E).0 k in
            let (_, _, (r, rn, e)) = h.mirrors.clean.result f (slot_of s.slot y) (slot_of s.slot z) c (low ρ φ n s w h.mirrors y yb)
            (low ρ φ n s w h.mirrors z zb) cb (and_i (ltb f φ) (has E c) (lt→ltb f φ fb) u) in
            let ru = up ρ φ n s w h.mirrors r rn in
            (nonempty_is ρ R).1 (r, ru, (entry_is ρ φ n s w h 0 f y z (less yb) fb yb zb r ru).1 (rn, subst (λ j. T (has E j)) (sym e) u))),
        (λ k. let (c, cb, u) = (nonempty_is ρ R).0 k in
            let (cn, v) = (entry_is ρ φ n s w h 0 f y z (less yb) fb yb zb c cb).0 u in
            (nonempty_is ρ E).1 (slot_of s.slot c, low ρ φ n s w h.mirrors c cn, v)),
      )))
      (λ t. rw (ever_same ∙ t, t))
    where
      less : {y : ℕ} → y < n → 0 < n
      less b = omega arith

      ever_same : has (get_or s.ever (ρ * f + slot_of s.slot y) 0) (slot_of s.slot z) ≡ has (get_or w.ever (ρ * f + y) 0) z
      ever_same = let A = has (get_or s.ever (ρ * f + slot_of s.slot y) 0) (slot_of s.slot z) in let B = has (get_or w.ever (ρ * f + y) 0) z in
          same_test A B (
            (λ t. and_r (ltb f φ) B ((h.mirrors.pulled.ever f y z yb zb).1 (and_i (ltb f φ) A (lt→ltb f φ fb) t))),
            (λ t. and_r (ltb f φ) A ((h.mirrors.pulled.ever f y z yb zb).0 (and_i (ltb f φ) B (lt→ltb f φ fb) t))),
          )

  pub early_same : (x y : ℕ) → x < n → y < n → early_slots s.slot s.mark x y ≡ windows.early_of w x y
  unfolding early_slots windows.early_of
  early_same x y xb yb = ap₂ (λ marked equal. pick marked (λ _. equal) λ _. true) (ap₂ ◌||◌ (mark_same x xb) (mark_same y yb))
      (sym (one_slot ρ φ n s w h.mirrors x y xb yb))
    where
      mark_same : (r : ℕ) → r < n → get_or s.mark r false ≡ get_or w.mark r false
      mark_same r rb = same_test (get_or s.mark r false) (get_or w.mark r false) ((λ t. (h.mirrors.marked r rb).1 t), (λ t. (h.mirrors.marked r rb).0 t))
