-- The closing of slots is that of the window, merge by merge.
use mathlib.Core.Path.{◌≡◌, refl, sym, ap, ◌∙◌, subst}
use mathlib.Core.Logic.{◌↔◌, ◌≢◌, ⊎_elim}
use mathlib.Core.Bool.{true, false, ◌||◌}
use mathlib.Core.List.{List}
use Prim.Native.Nat.{ℕ, zero, suc, ◌+◌, ◌*◌, ◌≤◌, ◌<◌}
use native.Mathlib.Omega.{arith}
use lib.Dec.{ltb, T, eqb→eq, lt→ltb}
use lib.ListN.{get_or}
use borrow.Author.Tests.{eqb-true, eqb-false, ltb-true, lt-ltb, le-ltb}
use Rattle.base.proofs.Theory.Choice.{by_test}
use Rattle.base.specs.Masks.{bit, has}
use Rattle.base.specs.LeastAndSize.{least_in, size_from, size_of}
use Rattle.semantics.proofs.Theory.Booleans.{or_not, or_l, or_r, is_true, is_false}
use Rattle.semantics.proofs.Theory.Of.{same_test}
use Rattle.window.proofs.Theory.Bits.{truth, no_truth, none_in, nonempty_is, minus_is, eq_or, less_or}
use Rattle.window.specs.Bits.{nonempty, minus}
use Rattle.window.specs.Places.{place, place_function, place_first, place_second}
use Rattle.window.proofs.Theory.Places.{place_below, function_below, first_below, second_below}
use Rattle.window.specs.Performing as windows
use Rattle.window.proofs.Theory.Performing as windows_laws
use Rattle.window.specs.Performing.{rest_of}
use Rattle.window.proofs.Theory.Performing.{rest_some}
use Rattle.window.proofs.Theory.Closing.{Stable, name_in, rest_is, rest_none}
use Rattle.window.specs.declared.Window.{Window}
use Rattle.slots.specs.Slots.{Slots, slot_of}
use Rattle.slots.specs.Performing.{many_of, doubled_of, entry_of, find_slots, merged_slots, closed_slots}
use Rattle.slots.specs.Represents.{Used, Single, slot_view, Mirrors}
use Rattle.slots.proofs.Theory.Pulling.{move3}
use Rattle.slots.proofs.Theory.Marking.{up, low, class_is}
use Rattle.slots.proofs.Theory.Merges.{merged_mirrors}
use Rattle.slots.proofs.Theory.Entries.{entry_has, pulled_in, result_is, result_pulled}

-- ---- a mask with two slots

some_from : (m i k : ℕ) → 1 ≤ size_from i k m → (c : ℕ) × (i ≤ c) × (c < i + k) × T (has m c)
unfolding size_from
some_from m i zero h = absurd (omega arith)
some_from m i (suc k) h = by_test (has m i)
    (λ t. (i, omega arith, omega arith, truth (has m i) t))
    (λ t. let d = eqb-false (bit m i) 1 t in let (c, a, b, u) = some_from m (suc i) k (omega arith) in (c, omega arith, omega arith, u))

two_from : (m i k : ℕ) → 2 ≤ size_from i k m → (c : ℕ) × (d : ℕ) × (i ≤ c) × (c < i + k) × (i ≤ d) × (d < i + k) × (c ≢ d) × T (has m c) × T (has m d)
unfolding size_from
two_from m i zero h = absurd (omega arith)
two_from m i (suc k) h = by_test (has m i)
    (λ t. let e = eqb-true (bit m i) 1 t in let (d, a, b, u) = some_from m (suc i) k (omega arith) in
    (i, d, omega arith, omega arith, omega arith, omega arith, (λ z. absurd (omega arith)), truth (has m i) t, u))
    (λ t. let e = eqb-false (bit m i) 1 t in let (c, d, p, q, r, s, n, u, v) = two_from m (suc i) k (omega arith) in
    (c, d, omega arith, omega arith, omega arith, omega arith, n, u, v))

has_some : (m i k c : ℕ) → i ≤ c → c < i + k → T (has m c) → 1 ≤ size_from i k m
unfolding size_from
has_some m i zero c a b t = absurd (omega arith)
has_some m i (suc k) c a b t = ⊎_elim
    (λ e. let u : bit m i ≡ 1 = eqb→eq (bit m i) 1 (subst (λ z. T (has m z)) e t) in omega arith)
    (λ e. let r = has_some m (suc i) k c (omega arith) (omega arith) t in omega arith)
    (eq_or c i)

has_two : (m i k c d : ℕ) → i ≤ c → c < d → d < i + k → T (has m c) → T (has m d) → 2 ≤ size_from i k m
unfolding size_from
has_two m i zero c d a b e t u = absurd (omega arith)
has_two m i (suc k) c d a b e t u = ⊎_elim
    (λ z. let v : bit m i ≡ 1 = eqb→eq (bit m i) 1 (subst (λ z. T (has m z)) z t) in let r = has_some m (suc i) k d (omega arith) (omega arith) u in
    omega arith)
    (λ z. let r = has_two m (suc i) k c d (omega arith) b (omega arith) t u in omega arith)
    (eq_or c i)

module _ (ρ m : ℕ) where
  pub many_is : T (many_of ρ m) ↔ ((c : ℕ) × (d : ℕ) × (c < ρ) × (d < ρ) × (c ≢ d) × T (has m c) × T (has m d))
  unfolding many_of size_of
  many_is = (
    (λ t. let l = ltb-true 1 (size_from 0 ρ m) (is_true (ltb 1 (size_from 0 ρ m)) t) in let (c, d, _, q, _, s, n, u, v) = two_from m 0 ρ (omega arith) in
        (c, d, omega arith, omega arith, n, u, v)),
    (λ (c, d, cb, db, n, u, v). let l : 2 ≤ size_from 0 ρ m =
        ⊎_elim (λ l. has_two m 0 ρ c d (omega arith) l (omega arith) u v) (λ l. has_two m 0 ρ d c (omega arith) (omega arith) (omega arith) v u)
        (less_or c d) in lt→ltb 1 (size_from 0 ρ m) (omega arith)),
  )

  pub doubled_none : (l : List ℕ) (k : ℕ) → doubled_of ρ l k ≡ false → (j : ℕ) → j < k → ¬ T (many_of ρ (get_or l j 0))
  unfolding doubled_of
  doubled_none l zero e j b t = absurd (omega arith)
  doubled_none l (suc k) e j b t = ⊎_elim
      (λ i. no_truth (doubled_of ρ l k || many_of ρ (get_or l k 0)) e
      (or_r (doubled_of ρ l k) (many_of ρ (get_or l k 0)) (subst (λ z. T (many_of ρ (get_or l z 0))) i t)))
      (λ i. doubled_none l k (is_false (doubled_of ρ l k)
      (λ u. no_truth (doubled_of ρ l k || many_of ρ (get_or l k 0)) e (or_l (doubled_of ρ l k) (many_of ρ (get_or l k 0)) u))) j (omega arith) t)
      (eq_or j k)

module _ (ρ φ n : ℕ) (s : Slots) (w : Window) (m : Mirrors ρ φ n s w) where
  abbrev g : ℕ → ℕ
  g = slot_of s.slot

  abbrev E : ℕ → ℕ
  E j = entry_of ρ s.slot s.regs s.result j

  -- a slot in an entry is used
  entry_used : (j c : ℕ) → j < φ * ρ * ρ → c < ρ → T (has (entry_of ρ s.slot s.regs s.result j) c) → Used n (slot_of s.slot) c
  entry_used j c jb cb t =
      let (an, bn, u) = (entry_has ρ n s.slot s.regs m.laid.low m.grouped s.result j c (first_below ρ φ j jb) (second_below ρ φ j jb)).0 t in
      let (_, _, r) = m.clean.result (place_function ρ j) (g (place_first ρ j)) (g (place_second ρ j)) c (low ρ φ n s w m (place_first ρ j) an)
      (low ρ φ n s w m (place_second ρ j) bn) cb (rw (lt-ltb (place_function ρ j) φ (function_below ρ φ j jb)) u) in
      r

  -- a result is in two classes exactly if it is in two slots
  many_same : (j : ℕ) → j < φ * ρ * ρ → nonempty ρ (rest_of ρ φ w.class (get_or w.result j 0)) ≡ many_of ρ (entry_of ρ s.slot s.regs s.result j)
  many_same j jb = same_test (nonempty ρ rest) (many_of ρ (E j)) (
    (λ t. let (c, cb, u) = (nonempty_is ρ rest).0 t in
        let (ob, p, q) = rest_is ρ φ w.class W c u in
        let (cn, p') = (result_is ρ φ n s w m j jb c cb).0 p in
        let (on, o') = (result_is ρ φ n s w m j jb (least_in ρ W) ob).0 (name_in ρ φ W ob) in
        (many_is ρ (E j)).1 (
          g (least_in ρ W),
          g c,
          low ρ φ n s w m (least_in ρ W) on,
          low ρ φ n s w m c cn,
          (λ e. q ((m.pulled.same (least_in ρ W) c on cn).1 e)),
          o',
          p',
        )),
    (λ t. let (c, d, cb, db, i, u, v) = (many_is ρ (E j)).0 t in
        let (p, pn, pe) = entry_used j c jb cb u in
        let (q, qn, qe) = entry_used j d jb db v in
        let pw = (result_is ρ φ n s w m j jb p (up ρ φ n s w m p pn)).1 (pn, subst (λ z. T (has (E j) z)) (sym pe) u) in
        let qw = (result_is ρ φ n s w m j jb q (up ρ φ n s w m q qn)).1 (qn, subst (λ z. T (has (E j) z)) (sym qe) v) in
        ⊎_elim (λ k. k) (λ k.
        let (ob, x) = rest_none ρ φ w.class W k p (up ρ φ n s w m p pn) pw in
        let (_, y) = rest_none ρ φ w.class W k q (up ρ φ n s w m q qn) qw in
        let on = (m.inside.same (least_in ρ W) p ob (up ρ φ n s w m p pn) x).0 in
        absurd (i (sym pe ∙ sym ((m.pulled.same (least_in ρ W) p on pn).0 x) ∙ (m.pulled.same (least_in ρ W) q on qn).0 y ∙ qe))) (or_not (nonempty ρ rest))),
  )
    where
      W : ℕ
      W = get_or w.result j 0

      rest : ℕ
      rest = rest_of ρ φ w.class (get_or w.result j 0)

  find_same : (k i : ℕ) → i + k ≤ φ * ρ * ρ → windows.find_of ρ φ w.class w.result i k ≡ find_slots ρ s.slot s.regs s.result i k
  unfolding windows.find_of find_slots
  find_same zero i h = refl
  find_same (suc k) i h = by_test (many_of ρ (E i))
      (λ t. rw (many_same i (omega arith), t) (result_pulled ρ φ n s w m i (omega arith)))
      (λ t. rw (many_same i (omega arith), t) (find_same k (suc i) (omega arith)))

  -- only registers of the window are found
  find_in : (k i : ℕ) (r : ℕ) → r < ρ → T (has (find_slots ρ s.slot s.regs s.result i k) r) → r < n
  unfolding find_slots
  find_in zero i r rb = λ t. absurd (none_in r t)
  find_in (suc k) i r rb = by_test (many_of ρ (E i)) (λ u. rw u (λ t. ((pulled_in ρ n s.slot s.regs m.laid.low m.grouped (E i) r rb).0 t).0))
      (λ u. rw u (find_in k (suc i) r rb))

  find_none : doubled_of ρ s.result (φ * ρ * ρ) ≡ false → (k i : ℕ) → i + k ≤ φ * ρ * ρ → find_slots ρ s.slot s.regs s.result i k ≡ 0
  unfolding find_slots
  find_none e zero i h = refl
  find_none e (suc k) i h = rw (is_false (many_of ρ (E i)) (single i (omega arith))) (find_none e k (suc i) (omega arith))
    where
      single : (j : ℕ) → j < φ * ρ * ρ → ¬ T (many_of ρ (entry_of ρ s.slot s.regs s.result j))
      single j jb t =
          let (c, d, cb, db, i, u, v) = (many_is ρ (E j)).0 t in
          let H = entry_has ρ n s.slot s.regs m.laid.low m.grouped s.result j in
          let (an, bn, u') = (H c (first_below ρ φ j jb) (second_below ρ φ j jb)).0 u in
          let (_, _, v') = (H d (first_below ρ φ j jb) (second_below ρ φ j jb)).0 v in
          let k = place ρ (place_function ρ j) (g (place_first ρ j)) (g (place_second ρ j)) in
          doubled_none ρ 0 s.result (φ * ρ * ρ) e k
          (place_below ρ (place_function ρ j) (g (place_first ρ j)) (g (place_second ρ j)) (low ρ φ n s w m (place_first ρ j) an)
          (low ρ φ n s w m (place_second ρ j) bn) φ (function_below ρ φ j jb)) ((many_is ρ (get_or s.result k 0)).1 (c, d, cb, db, i, u', v'))

  abbrev entry : ℕ
  entry = find_slots ρ s.slot s.regs s.result 0 (φ * ρ * ρ)

  abbrev one : ℕ
  one = least_in ρ (find_slots ρ s.slot s.regs s.result 0 (φ * ρ * ρ))

  abbrev others : ℕ
  others = minus (find_slots ρ s.slot s.regs s.result 0 (φ * ρ * ρ)) (get_or s.regs (slot_of s.slot one) 0)

  one_in : one < ρ → one < n
  one_in l = find_in (φ * ρ * ρ) 0 one l (name_in ρ φ entry l)

  rest_same : one < ρ → rest_of ρ φ w.class entry ≡ others
  rest_same l = sym (rest_some ρ φ w.class entry one refl l) ∙ ap (minus entry) (class_is ρ φ n s w m one (one_in l))

  two_in : least_in ρ others < ρ → (least_in ρ others < n) × (slot_of s.slot one ≡ slot_of s.slot (least_in ρ others) → one < ρ → ⊥)
  two_in l =
      let (p, q) = (minus_is entry (get_or s.regs (g one) 0) (least_in ρ others)).0 (name_in ρ φ others l) in
      let b = find_in (φ * ρ * ρ) 0 (least_in ρ others) l p in
      (b, λ e o. q ((m.grouped.members (g one) (least_in ρ others) (low ρ φ n s w m one (one_in o))).1 (b, sym e)))

-- ---- the closing

closed_zero : (ρ φ : ℕ) (s : Slots) → closed_slots ρ φ 0 s ≡ s
unfolding closed_slots
closed_zero ρ φ s = refl

module _ (ρ φ k : ℕ) (s : Slots) where
  abbrev found : ℕ
  found = find_slots ρ s.slot s.regs s.result 0 (φ * ρ * ρ)

  abbrev first : ℕ
  first = least_in ρ found

  abbrev second : ℕ
  second = least_in ρ (minus found (get_or s.regs (slot_of s.slot first) 0))

  closed_first : ltb first ρ ≡ false → closed_slots ρ φ (suc k) s ≡ s
  unfolding closed_slots
  closed_first t = by_test (doubled_of ρ s.result (φ * ρ * ρ)) (λ d. rw (d, t)) (λ d. rw d)

  closed_second : ltb second ρ ≡ false → closed_slots ρ φ (suc k) s ≡ s
  unfolding closed_slots
  closed_second t = by_test (doubled_of ρ s.result (φ * ρ * ρ)) (λ d. rw d (by_test (ltb first ρ) (λ u. rw (u, t)) (λ u. rw u))) (λ d. rw d)

  closed_merged : doubled_of ρ s.result (φ * ρ * ρ) ≡ true → ltb first ρ ≡ true → ltb second ρ ≡ true
      → closed_slots ρ φ (suc k) s ≡ closed_slots ρ φ k (merged_slots ρ φ s (slot_of s.slot first) (slot_of s.slot second))
  unfolding closed_slots
  closed_merged d t u = rw (d, t, u)

least_none : (ρ : ℕ) → ρ ≤ least_in ρ 0
least_none ρ = ⊎_elim (λ l. absurd (none_in (least_in ρ 0) (name_in ρ ρ 0 l))) (λ l. l) (less_or (least_in ρ 0) ρ)

along : (ρ φ n : ℕ) {s s' : Slots} {w w' : Window} → s ≡ s' → w ≡ w' → Mirrors ρ φ n s' w' → Mirrors ρ φ n s w
along ρ φ n {s} {s'} {w} {w'} e h m = subst (λ a. Mirrors ρ φ n a w) (sym e) (subst (λ b. Mirrors ρ φ n s' b) (sym h) m)

module _ (ρ φ n k : ℕ) (s : Slots) (w : Window) (m : Mirrors ρ φ n s w)
    (next : (s' : Slots) (w' : Window) → Mirrors ρ φ n s' w' → Mirrors ρ φ n (closed_slots ρ φ k s') (windows.closed_of ρ φ k w')) where
  abbrev F : ℕ
  F = find_slots ρ s.slot s.regs s.result 0 (φ * ρ * ρ)

  abbrev o : ℕ
  o = least_in ρ (find_slots ρ s.slot s.regs s.result 0 (φ * ρ * ρ))

  abbrev t : ℕ
  t = least_in ρ (minus (find_slots ρ s.slot s.regs s.result 0 (φ * ρ * ρ)) (get_or s.regs (slot_of s.slot o) 0))

  same : find_slots ρ s.slot s.regs s.result 0 (φ * ρ * ρ) ≡ windows.find_of ρ φ w.class w.result 0 (φ * ρ * ρ)
  same = sym (find_same ρ φ n s w m (φ * ρ * ρ) 0 (omega arith))

  -- nothing is found
  stays : ρ ≤ o → Mirrors ρ φ n (closed_slots ρ φ (suc k) s) (windows.closed_of ρ φ (suc k) w)
  stays l = along ρ φ n (closed_first ρ φ k s (le-ltb o ρ l))
      (windows_laws.closed_none ρ φ (suc k) o (least_in ρ (rest_of ρ φ w.class F)) F (rest_of ρ φ w.class F) w same refl refl refl (omega arith) l) m

  merges : doubled_of ρ s.result (φ * ρ * ρ) ≡ true → o < ρ → t < ρ → Mirrors ρ φ n (closed_slots ρ φ (suc k) s) (windows.closed_of ρ φ (suc k) w)
  merges d ob tb =
      let (tn, apart) = two_in ρ φ n s w m tb in
      along ρ φ n (closed_merged ρ φ k s d (lt-ltb o ρ ob) (lt-ltb t ρ tb))
      (windows_laws.closed_more ρ φ (suc k) o t F (minus F (get_or s.regs (slot_of s.slot o) 0)) w same refl (sym (rest_same ρ φ n s w m ob)) refl
      (omega arith) (windows.merged_of ρ φ w o t) ob tb refl ∙ ap (λ j. windows.closed_of ρ φ j (windows.merged_of ρ φ w o t)) (omega arith))
      (next (merged_slots ρ φ s (slot_of s.slot o) (slot_of s.slot t)) (windows.merged_of ρ φ w o t)
      (merged_mirrors ρ φ n s w m o t (one_in ρ φ n s w m ob) tn (λ e. apart e ob)))

  ends : o < ρ → ρ ≤ t → Mirrors ρ φ n (closed_slots ρ φ (suc k) s) (windows.closed_of ρ φ (suc k) w)
  ends ob l = along ρ φ n (closed_second ρ φ k s (le-ltb t ρ l))
      (windows_laws.closed_one ρ φ (suc k) o t F (minus F (get_or s.regs (slot_of s.slot o) 0)) w same refl (sym (rest_same ρ φ n s w m ob)) refl
      (omega arith) ob l) m

  turn : Mirrors ρ φ n (closed_slots ρ φ (suc k) s) (windows.closed_of ρ φ (suc k) w)
  turn = by_test (doubled_of ρ s.result (φ * ρ * ρ))
      (λ d. ⊎_elim (λ ob. ⊎_elim (λ tb. merges d ob tb) (λ l. ends ob l) (less_or t ρ)) (λ l. stays l) (less_or o ρ))
      (λ d. stays (subst (λ z. ρ ≤ least_in ρ z) (sym (find_none ρ φ n s w m d (φ * ρ * ρ) 0 (omega arith))) (least_none ρ)))

pub closed_mirrors : (ρ φ n k : ℕ) (s : Slots) (w : Window) → Mirrors ρ φ n s w → Mirrors ρ φ n (closed_slots ρ φ k s) (windows.closed_of ρ φ k w)
closed_mirrors ρ φ n zero s w m = along ρ φ n (closed_zero ρ φ s) (windows_laws.closed_end ρ φ 0 w (omega arith)) m
closed_mirrors ρ φ n (suc k) s w m = turn ρ φ n k s w m (λ s' w' m'. closed_mirrors ρ φ n k s' w' m')

-- a window that is closed has its results in one slot each
pub single_stable : (ρ φ n : ℕ) (s : Slots) (w : Window) → Mirrors ρ φ n s w → Stable ρ φ n w → Single ρ (slot_view ρ φ s.unequal s.result s.ever)
single_stable ρ φ n s w m st = record {
  one = λ f a b c d ab bb cb db t u.
      let K = slot_view ρ φ s.unequal s.result s.ever in
      let ((p, pn, pe), (q, qn, qe), (r, rn, re)) = m.clean.result f a b c ab bb cb t in
      let (_, _, (o, on, oe)) = m.clean.result f a b d ab bb db u in
      let x = (m.pulled.result f p q r pn qn rn).1 (move3 (λ i j k. T (K.result f i j k)) (sym pe) (sym qe) (sym re) t) in
      let y = (m.pulled.result f p q o pn qn on).1 (move3 (λ i j k. T (K.result f i j k)) (sym pe) (sym qe) (sym oe) u) in
      sym re ∙ (m.pulled.same r o rn on).0 (st f p q r o pn qn rn on x y) ∙ oe;
}
