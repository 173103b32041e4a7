-- What is read of the table after a record was put, and what a search for a pair says.
use mathlib.Core.Path.{◌≡◌, sym, ap, ◌∙◌, subst}
use mathlib.Core.Logic.{◌≢◌}
use Prim.Native.Nat.{ℕ, zero, suc, ◌+◌, ◌-◌, ◌*◌, ◌≤◌, ◌<◌, min}
use native.Mathlib.Omega.{arith}
use mathlib.Core.Bool.{Bool, true, false}
use mathlib.Core.List.{List, ◌++◌}
use lib.Dec.{eqb, ltb}
use lib.ListN.{length, take, drop, replicate, get_or, length-append, length-take, length-drop, take-append-drop, get_or-append}
use lib.Seq.{drop_at, take_at, length-take-le, get_or-take, get_or-drop, get_or-append-add, ext_get_or}
use borrow.Author.Tests.{eqb-true, eqb-false, ltb-true, ltb-false}
use Rattle.base.proofs.Theory.Choice.{by_test}
use Rattle.window.specs.declared.Window.{Window}
use Rattle.records.specs.Formats.{pair_place}
use Rattle.records.specs.Records.{first_format, record_bytes, encoded_bytes, encoded, record_of, parent_in, branch_in, same_pair}
use Rattle.records.proofs.Theory.FormatLaws as laws
use Rattle.records.proofs.Theory.Storable.{first_sound, Storable, point_back, window_back, encoded_length}
use Rattle.records.proofs.Theory.Agree.{SameFirstBytes, point_agree, parent_agree, branch_agree, window_agree, pair_agree}
use Rattle.records.proofs.Theory.Pairs as pairs
use Rattle.table.specs.Table.{onward, point_at, parent_at, branch_at, window_at, put_at, pair_at, is_at, is_listed}

-- The bytes of record k's pair are those of the pair that is read of it.
pub PairStored : List ℕ → ℕ → Type 0
PairStored t k = pair_at t k ≡ encoded (point_at t k) (window_at t k)

-- ---- a record that was put

module _ (t : List ℕ) (k : ℕ) (r : List ℕ) (fits : record_bytes * k + record_bytes ≤ length t) (long : length r ≡ record_bytes) where
  front_length : length (take (record_bytes * k) t) ≡ record_bytes * k
  front_length = length-take-le (record_bytes * k) t (omega arith)

  pub put_length : length (put_at t k r) ≡ length t
  unfolding put_at
  put_length = simp (length-append, length-drop) (omega (arith, front_length))

  pub put_onward : onward (put_at t k r) k ≡ r ++ drop record_bytes (onward t k)
  unfolding put_at
  put_onward = drop_at (take (record_bytes * k) t) (r ++ drop record_bytes (onward t k)) (record_bytes * k) front_length

  before : (m : ℕ) → m < record_bytes * k → get_or (put_at t k r) m 0 ≡ get_or t m 0
  unfolding put_at
  before m h = get_or-append (take (record_bytes * k) t) _ 0 m (omega (arith, front_length)) ∙ get_or-take (record_bytes * k) t m 0 h

  behind : (n : ℕ) → get_or (put_at t k r) (record_bytes * k + (record_bytes + n)) 0 ≡ get_or t (record_bytes * k + (record_bytes + n)) 0
  unfolding put_at
  behind n =
      subst (λ (x : ℕ). get_or (take (record_bytes * k) t ++ (r ++ drop record_bytes (onward t k))) (x + (record_bytes + n)) 0 ≡ get_or
      (r ++ drop record_bytes (onward t k)) (record_bytes + n) 0) front_length
      (get_or-append-add (take (record_bytes * k) t) (r ++ drop record_bytes (onward t k)) (record_bytes + n) 0)
      ∙ subst (λ (x : ℕ). get_or (r ++ drop record_bytes (onward t k)) (x + n) 0 ≡ get_or (drop record_bytes (onward t k)) n 0) long
      (get_or-append-add r (drop record_bytes (onward t k)) n 0)
      ∙ get_or-drop record_bytes (onward t k) n 0 ∙ get_or-drop (record_bytes * k) t (record_bytes + n) 0

  entry_other : (j i : ℕ) → j ≢ k → i < record_bytes → get_or (onward (put_at t k r) j) i 0 ≡ get_or (onward t j) i 0
  entry_other j i e h = get_or-drop (record_bytes * j) (put_at t k r) i 0 ∙ outside ∙ sym (get_or-drop (record_bytes * j) t i 0)
    where
      outside : get_or (put_at t k r) (record_bytes * j + i) 0 ≡ get_or t (record_bytes * j + i) 0
      outside = by_test (ltb j k) (λ u. before (record_bytes * j + i) (omega (arith, ltb-true j k u)))
          λ u. let l = ltb-false j k u in
          let z : record_bytes * k + (record_bytes + (record_bytes * j + i - record_bytes * k - record_bytes)) ≡ record_bytes * j + i = omega (arith, e) in
          subst (λ (x : ℕ). get_or (put_at t k r) x 0 ≡ get_or t x 0) z (behind (record_bytes * j + i - record_bytes * k - record_bytes))

  pub put_agree : (j : ℕ) → j ≢ k → SameFirstBytes record_bytes (onward (put_at t k r) j) (onward t j)
  put_agree j e =
      let n : length (onward (put_at t k r) j) ≡ length (onward t j) = length-drop (record_bytes * j) (put_at t k r)
      ∙ ap (λ (x : ℕ). x - record_bytes * j) put_length ∙ sym (length-drop (record_bytes * j) t) in
      let p = length-take record_bytes (onward (put_at t k r) j) in
      let m : length (take record_bytes (onward (put_at t k r) j)) ≡ length (take record_bytes (onward t j)) = p ∙ ap (min record_bytes) n
      ∙ sym (length-take record_bytes (onward t j)) in
      ext_get_or 0 _ _ m (λ i l.
      let h : i < record_bytes = omega (arith, p) in
      get_or-take record_bytes (onward (put_at t k r) j) i 0 h ∙ entry_other j i e h ∙ sym (get_or-take record_bytes (onward t j) i 0 h))

  -- the other records stay
  module _ (j : ℕ) (e : j ≢ k) where
    pub point_other : point_at (put_at t k r) j ≡ point_at t j
    unfolding point_at
    point_other = point_agree first_format first_sound (onward (put_at t k r) j) (onward t j) (put_agree j e)

    pub parent_other : parent_at (put_at t k r) j ≡ parent_at t j
    unfolding parent_at
    parent_other = parent_agree first_format first_sound (onward (put_at t k r) j) (onward t j) (put_agree j e)

    pub branch_other : branch_at (put_at t k r) j ≡ branch_at t j
    unfolding branch_at
    branch_other = branch_agree first_format first_sound (onward (put_at t k r) j) (onward t j) (put_agree j e)

    pub window_other : window_at (put_at t k r) j ≡ window_at t j
    unfolding window_at
    window_other = window_agree first_format first_sound (onward (put_at t k r) j) (onward t j) (put_agree j e)

    pub pair_other : pair_at (put_at t k r) j ≡ pair_at t j
    unfolding pair_at
    pair_other = pair_agree first_format first_sound (onward (put_at t k r) j) (onward t j) (put_agree j e)

    pub kept_other : PairStored t j → PairStored (put_at t k r) j
    unfolding PairStored
    kept_other g = rw (point_other, window_other) (pair_other ∙ g)

-- the record of bytes that are as many as those of a pair
module _ (t : List ℕ) (k parent branch : ℕ) (pair : List ℕ) (fits : record_bytes * k + record_bytes ≤ length t) (whole : length pair ≡ encoded_bytes) where
  abbrev rest : List ℕ
  rest = drop record_bytes (onward t k)

  pub record_long : length (record_of pair parent branch) ≡ record_bytes
  record_long = laws.record_length first_format pair parent branch first_sound whole

  begins_with : onward (put_at t k (record_of pair parent branch)) k ≡ record_of pair parent branch ++ rest
  begins_with = put_onward t k (record_of pair parent branch) fits record_long

  -- where the pair stands
  stands : drop pair_place (onward (put_at t k (record_of pair parent branch)) k) ≡ pair ++ (replicate (record_bytes - (pair_place + encoded_bytes)) 0 ++ rest)
  stands = ap (drop pair_place) begins_with ∙ laws.record_pair first_format pair parent branch rest

  pub pair_same : pair_at (put_at t k (record_of pair parent branch)) k ≡ pair
  unfolding pair_at
  pair_same = ap (take encoded_bytes) stands ∙ take_at pair _ encoded_bytes whole

-- the record of a pair
module _ (t : List ℕ) (k point parent branch : ℕ) (w : Window) (fits : record_bytes * k + record_bytes ≤ length t) (s : Storable w) where
  abbrev put : List ℕ
  put = put_at t k (record_of (encoded point w) parent branch)

  pub record_length : length (record_of (encoded point w) parent branch) ≡ record_bytes
  record_length = record_long t k parent branch (encoded point w) fits (encoded_length point w s)

  begun : onward put k ≡ record_of (encoded point w) parent branch ++ drop record_bytes (onward t k)
  begun = begins_with t k parent branch (encoded point w) fits (encoded_length point w s)

  placed : drop pair_place (onward put k) ≡ encoded point w ++ (replicate (record_bytes - (pair_place + encoded_bytes)) 0 ++ drop record_bytes (onward t k))
  placed = stands t k parent branch (encoded point w) fits (encoded_length point w s)

  pub point_same : point < 65536 → point_at put k ≡ point
  unfolding point_at
  point_same h = point_back point w s (onward put k) _ placed h

  pub window_same : window_at put k ≡ w
  unfolding window_at
  window_same = window_back point w s (onward put k) _ placed

  pub parent_same : parent < 65536 → parent_at put k ≡ parent
  unfolding parent_at
  parent_same h = ap parent_in begun ∙ laws.parent_back first_format (encoded point w) parent branch (drop record_bytes (onward t k)) h

  pub branch_same : branch < 256 → branch_at put k ≡ branch
  unfolding branch_at
  branch_same h = ap branch_in begun ∙ laws.branch_back first_format (encoded point w) parent branch (drop record_bytes (onward t k)) h

  pub kept_same : point < 65536 → PairStored put k
  unfolding PairStored
  kept_same h = rw (point_same h, window_same) (pair_same t k parent branch (encoded point w) fits (encoded_length point w s))

-- ---- a pair that is looked for

-- pair k is this one: its bytes are
pub is_pair : (t : List ℕ) (k : ℕ) (p : List ℕ) → length p ≡ encoded_bytes → is_at t k p ≡ true → pair_at t k ≡ p
unfolding is_at pair_at
is_pair t k p l e = rw (pairs.pair_is p (onward t k) e) (take_at p _ encoded_bytes l)

-- one of the pairs is this one
pub listed_at : (t p : List ℕ) (count : ℕ) → is_listed t count p ≡ true → (j : ℕ) × (j < count) × (is_at t j p ≡ true)
unfolding is_listed
listed_at t p zero = λ e. absurd (let z : ◌≡◌ {A = ℕ} 0 1 = cc in omega arith)
listed_at t p (suc k) = by_test (is_at t k p) (λ u _. (k, omega arith, u)) λ u. rw u λ e. let (j, l, y) = listed_at t p k e in (j, omega arith, y)

pub at_listed : (t p : List ℕ) (count j : ℕ) → j < count → is_at t j p ≡ true → is_listed t count p ≡ true
unfolding is_listed
at_listed t p zero j l e = absurd (omega arith)
at_listed t p (suc k) j l e =
    by_test (is_at t k p) (λ u. rw u) λ u. rw u
    (at_listed t p k j (by_test (eqb j k) (λ v. absurd (let y = eqb-true j k v in let z : ◌≡◌ {A = ℕ} 0 1 = cc in omega arith)) λ v. omega
    (arith, eqb-false j k v)) e)

-- none of the pairs is
pub nowhere_listed : (t p : List ℕ) (count : ℕ) → is_listed t count p ≡ false → (j : ℕ) → j < count → is_at t j p ≡ false
nowhere_listed t p count e j l = by_test (is_at t j p) (λ u. absurd (let y = at_listed t p count j l u in let z : ◌≡◌ {A = ℕ} 0 1 = cc in omega arith)) λ u. u

module _ (t : List ℕ) (count point : ℕ) (w : Window) where
  -- what is listed is the pair
  pub found : point < 65536 → Storable w → is_listed t count (encoded point w) ≡ true → (j : ℕ) × (j < count) × (point_at t j ≡ point) × (window_at t j ≡ w)
  unfolding is_at point_at window_at
  found h s e =
      let (j, l, y) = listed_at t (encoded point w) count e in
      let z = pairs.pair_is (encoded point w) (onward t j) y in
      (j, l, point_back point w s (onward t j) _ z h, window_back point w s (onward t j) _ z)

  -- what is not listed is none of the pairs below count
  pub nowhere : is_listed t count (encoded point w) ≡ false → (j : ℕ) → j < count → PairStored t j → ¬ ((point_at t j ≡ point) × (window_at t j ≡ w))
  unfolding is_at PairStored pair_at
  nowhere e j h g (p, v) =
      let b : List ℕ = drop pair_place (onward t j) in
      let f : take encoded_bytes b ≡ encoded point w = g ∙ ap (λ (x : ℕ). encoded x (window_at t j)) p ∙ ap (encoded point) v in
      let z : b ≡ encoded point w ++ drop encoded_bytes b = sym (take-append-drop encoded_bytes b) ∙ ap (λ (l : List ℕ). l ++ drop encoded_bytes b) f in
      let y : same_pair (encoded point w) (onward t j) ≡ true = pairs.is_pair (encoded point w) (onward t j) (drop encoded_bytes b) z in
      let x = nowhere_listed t (encoded point w) count e j h in
      absurd (let u : ◌≡◌ {A = Bool} true false = sym y ∙ x in let z : ◌≡◌ {A = ℕ} 0 1 = cc in omega arith)
