-- Congruences propagated: application by application, and back to the first whose signature changed.
use mathlib.Core.Path.{◌≡◌, refl, sym, ◌∙◌, ap, subst}
use mathlib.Core.Logic.{◌⊎◌, inl, inr, ◌≢◌}
use mathlib.Core.Bool.{Bool, true, false}
use mathlib.Core.List.{List}
use Prim.Native.Nat.{ℕ, zero, suc, ◌+◌, ◌-◌, ◌*◌, ◌%◌, ◌≤◌, ◌<◌, min, max}
use native.Mathlib.Omega.{arith}
use native.Mathlib.Numerals.{add-one}
use lib.Dec.{eqb, ltb}
use lib.ListN.{length, get_or}
use borrow.Author.Tests.{eqb-true, eqb-false, ltb-true, ltb-false}
use Rattle.base.proofs.Theory.Choice.{by_test}
use Rattle.base.specs.Choice.{pick}
use Rattle.base.specs.Each.{each_up_to}
use Rattle.base.proofs.Theory.Each.{each_length}
use Rattle.closure.specs.Limits.{most_terms, signature_chains}
use Rattle.closure.proofs.Theory.Written.{done_below, done_beyond, done_same}
use Rattle.closure.specs.Numbering.{Closed}
use Rattle.closure.specs.Merging.{Entailed, relabel_of}
use Rattle.closure.proofs.Theory.Merging.{propagating_start, propagating_union, Relabeled, moved, stays, relabeled}
use Rattle.closure.specs.Index.{ChainHas, CutTo, Chains, CompleteIndex, Entered}
use Rattle.closure.proofs.Theory.Index.{holds_least, holds_most, chains_widen, signature_same}
use Rattle.closure.specs.Arrays.{entry_at, Below, Formed, Readable, Named, fall_of, sum_below, classes_united, relabelled, signature_at}
use Rattle.closure.specs.Arrays.{IndexedTerms, CongruentUnions, Underway, Propagated, Resumed, Merged}
use Rattle.closure.proofs.Theory.Entering.{readable}

-- ---- the lower and the higher of two
pub sides : (a b : ℕ) → ((max a b ≡ a) × (min a b ≡ b)) ⊎ ((max a b ≡ b) × (min a b ≡ a))
sides a b = by_test (ltb a b) (λ t. let h = ltb-true a b t in inr (omega arith, omega arith)) (λ t. let h = ltb-false a b t in inl (omega arith, omega arith))

pub low_less : (a b : ℕ) → a ≢ b → min a b < max a b
low_less a b d = let n : ¬ (a ≡ b) = d in omega arith

low_le : (a b : ℕ) → min a b ≤ max a b
low_le a b = omega arith

pub low_below : (a b m : ℕ) → a < m → b < m → min a b < m
low_below a b m p q = omega arith

high_most : (a b : ℕ) → (a ≤ max a b) × (b ≤ max a b)
high_most a b = (omega arith, omega arith)

-- ---- where `resume` goes on
module _ (representative function first second : List ℕ) (registers i d v next : ℕ) (head link : List ℕ)
    (readable : Readable representative function first second registers i)
    (w : Chains i head link) (most : d ≤ i) (ev : v ≡ d) (e : next ≡ max v registers) where
  next_most : next ≤ i
  next_most = let more = readable.more in
      elim (sides v registers) [ inl (a, b) ↦ let c : next ≡ v = e ∙ a in omega arith | inr (a, b) ↦ let c : next ≡ registers = e ∙ a in omega arith ]

  next_least : registers ≤ next
  next_least = let (a, b) = high_most v registers in omega arith

  next_before : (k : ℕ) → registers ≤ k → k < next → k < d
  next_before k p h = elim (sides v registers)
      [ inl (a, b) ↦ let c : next ≡ v = e ∙ a in omega arith | inr (a, b) ↦ let c : next ≡ registers = e ∙ a in absurd (omega arith) ]

  pub cut_ready : Chains most_terms head link × (1 ≤ next) × (next ≤ most_terms)
  cut_ready = let a = next_least in let b = next_most in let c = readable.within in let d = readable.some in
      (chains_widen i head link w c, omega arith, omega arith)

  pub undo_ready : (registers ≤ next) × (next ≤ i)
  undo_ready = (next_least, next_most)

  pub resumed_all : next ≡ i → Resumed registers i d head link next head
  resumed_all q = record {
    least = next_least;
    most = next_most;
    before = next_before;
    chains = subst (λ k. Chains k head link) (sym q) w;
    keeps =
        λ b o h l. h;
    back = λ b o h. h;
  }

  pub resumed_cut : (head' : List ℕ) → CutTo head link next head' → Resumed registers i d head link next head'
  resumed_cut head' c = record {
    least = next_least;
    most = next_most;
    before = next_before;
    chains = c.chains;
    keeps = c.keeps registers;
    back =
        λ b o h. c.back registers b o next_least h;
  }

-- ---- the measure: the sum of the representatives
total_le : (k : ℕ) (l m : List ℕ) → ((i : ℕ) → i < k → get_or l i 0 ≤ get_or m i 0) → sum_below k l ≤ sum_below k m
unfolding sum_below
total_le zero l m h = omega arith
total_le (suc k) l m h = let a = h k (omega arith) in let b = total_le k l m (λ i p. h i (omega arith)) in omega arith

total_lt : (k : ℕ) (l m : List ℕ) (p : ℕ) → p < k → ((i : ℕ) → i < k → get_or l i 0 ≤ get_or m i 0) → get_or l p 0 < get_or m p 0
    → sum_below k l < sum_below k m
unfolding sum_below
total_lt zero l m p b h x = absurd (omega arith)
total_lt (suc k) l m p b h x = by_test (eqb p k)
    (λ t. let a = subst (λ v. get_or l v 0 < get_or m v 0) (eqb-true p k t) x in let c = total_le k l m (λ i q. h i (omega arith)) in omega arith)
    (λ t. let y : ¬ (p ≡ k) = eqb-false p k t in let a = h k (omega arith) in let c = total_lt k l m p (omega arith) (λ i q. h i (omega arith)) x in
    omega arith)

relabel_le : (from to v : ℕ) → to ≤ from → relabel_of from to v ≤ v
relabel_le from to v h = go (relabeled from to v)
  where
    go : {w : ℕ} → Relabeled from to v w → w ≤ v
    go (moved e) = omega arith
    go (stays e) = omega arith

relabel_hit : (from to : ℕ) → relabel_of from to from ≡ to
relabel_hit from to = go (relabeled from to from)
  where
    go : {w : ℕ} → Relabeled from to from w → w ≡ to
    go (moved e) = refl
    go (stays e) = absurd (e refl)

relabel_to : (from to : ℕ) → relabel_of from to to ≡ to
relabel_to from to = go (relabeled from to to)
  where
    go : {w : ℕ} → Relabeled from to to w → w ≡ to
    go (moved e) = refl
    go (stays e) = refl

pub relabel_other : (from to v : ℕ) → v ≢ from → relabel_of from to v ≡ v
relabel_other from to v x = go (relabeled from to v)
  where
    go : {w : ℕ} → Relabeled from to v w → w ≡ v
    go (moved e) = absurd (x e)
    go (stays e) = refl

-- two representatives that are made one
one_name : (a b : ℕ) → relabel_of (max a b) (min a b) a ≡ relabel_of (max a b) (min a b) b
one_name a b = elim (sides a b) [
  | inl (e, g) ↦ ap (relabel_of (max a b) (min a b)) (sym e) ∙ relabel_hit (max a b) (min a b) ∙ sym (relabel_to (max a b) (min a b))
      ∙ ap (relabel_of (max a b) (min a b)) g
  | inr (e, g) ↦ sym (ap (relabel_of (max a b) (min a b)) (sym e) ∙ relabel_hit (max a b) (min a b) ∙ sym (relabel_to (max a b) (min a b))
      ∙ ap (relabel_of (max a b) (min a b)) g)
]

-- ---- the loop of `relabel`
pub named : {representative function first second : List ℕ} {registers n : ℕ} → Formed representative function first second registers n → Named representative n
named f = record { lowest = f.lowest }

fall_cases : (v from by : ℕ) → ((v ≡ from) × (fall_of v from by ≡ by)) ⊎ ((v ≢ from) × (fall_of v from by ≡ 0))
unfolding fall_of
fall_cases v from by = go (eqb v from) refl
  where
    go : (t : Bool) → eqb v from ≡ t → ((v ≡ from) × (◌≡◌ {A = ℕ} (pick t (λ _. by) (λ _. 0)) by)) ⊎ ((v ≢ from) × (◌≡◌ {A = ℕ} (pick t (λ _. by) (λ _. 0)) 0))
    go true e = inl (eqb-true v from e, refl)
    go false e = inr (eqb-false v from e, refl)

module _ (from to by v less : ℕ) (h : to ≤ from) (eb : by ≡ from - to) (el : less ≡ fall_of v from by) where
  pub fall_most : less ≤ v
  fall_most = elim (fall_cases v from by) [ inl (e, g) ↦ let x : less ≡ by = el ∙ g in omega arith | inr (d, g) ↦ let x : less ≡ 0 = el ∙ g in omega arith ]

  pub fall_is : v - less ≡ relabel_of from to v
  fall_is = elim (fall_cases v from by) [
    | inl (e, g) ↦ let x : less ≡ by = el ∙ g in let y : v - less ≡ to = omega arith in y ∙ sym (ap (relabel_of from to) e ∙ relabel_hit from to)
    | inr (d, g) ↦ let x : less ≡ 0 = el ∙ g in let y : v - less ≡ v = omega arith in y ∙ sym (relabel_other from to v d)
  ]

-- the terms before `from` keep their names
pub relabel_starts : (from to n i : ℕ) (l : List ℕ) → Named l n → from ≤ n → i ≡ from → l ≡ each_up_to (λ _ v. relabel_of from to v) i l
relabel_starts from to n i l w h e =
    done_same (λ _ v. relabel_of from to v) i l 0 (λ k b. relabel_other from to (get_or l k 0) (λ z. let x = w.lowest k (omega arith) in omega arith))

-- the names of two terms, and that of the lower
module _ (n i j low high : ℕ) (l : List ℕ) (w : Named l n) (p : i < n) (q : j < n) (el : low ≡ min (get_or l i 0) (get_or l j 0))
    (eh : high ≡ max (get_or l i 0) (get_or l j 0)) where
  pub names_ready : (high ≤ n) × (low ≤ high)
  names_ready = let a = w.lowest i p in let b = w.lowest j q in let c = low_le (get_or l i 0) (get_or l j 0) in (
    elim (sides (get_or l i 0) (get_or l j 0))
        [ inl (x, y) ↦ let z : high ≡ get_or l i 0 = eh ∙ x in omega arith | inr (x, y) ↦ let z : high ≡ get_or l j 0 = eh ∙ x in omega arith ],
    omega arith,
  )

-- ---- what a union does at each entry
pub record United (n i j : ℕ) (l r : List ℕ) : Type 0 where
  pub long : length r ≡ length l
  pub at_each : (k : ℕ) → k < n → get_or r k 0 ≡ relabel_of (max (get_or l i 0) (get_or l j 0)) (min (get_or l i 0) (get_or l j 0)) (get_or l k 0)
  pub beyond : (k : ℕ) → n ≤ k → get_or r k 0 ≡ get_or l k 0

pub united_is : (n i j : ℕ) (l r : List ℕ) → n ≤ length l → r ≡ classes_united n i j l → United n i j l r
unfolding classes_united relabelled
united_is n i j l r h e = record {
  long = ap length e ∙ each_length _ n l;
  at_each = λ k b. ap (λ (r : List ℕ). get_or r k 0) e ∙ done_below _ n l 0 k b (omega arith);
  beyond = λ k b. ap (λ (r : List ℕ). get_or r k 0) e ∙ done_beyond _ n l 0 k b;
}

union_less : (n : ℕ) (next r : List ℕ) (i j : ℕ) → i < n → j < n → get_or next i 0 ≢ get_or next j 0 → United n i j next r → sum_below n r < sum_below n next
union_less n next r i j bi bj x m =
    let a = get_or next i 0 in
    let b = get_or next j 0 in
    let lt = low_less a b x in
    let le : (k : ℕ) → k < n → get_or r k 0 ≤ get_or next k 0 =
    λ k p. subst (λ v. v ≤ get_or next k 0) (sym (m.at_each k p)) (relabel_le (max a b) (min a b) (get_or next k 0) (omega arith)) in
    let st : (p : ℕ) → p < n → get_or next p 0 ≡ max a b → get_or r p 0 < get_or next p 0 = λ p q e.
    let g : get_or r p 0 ≡ min a b = m.at_each p q ∙ ap (relabel_of (max a b) (min a b)) e ∙ relabel_hit (max a b) (min a b) in omega arith in
    elim (sides a b) [
      | inl (e, g) ↦ total_lt n r next i bi le (st i bi (sym e))
      | inr (e, g) ↦ total_lt n r next j bj le (st j bj (sym e))
    ]

module _ (function first second : List ℕ) (registers n : ℕ) where
  pub united_formed : (next r : List ℕ) (i j : ℕ) → Formed next function first second registers n → i < n → j < n → United n i j next r
      → Formed r function first second registers n
  unfolding Below
  united_formed next r i j f p q m = record {
    some = f.some;
    more = f.more;
    within = f.within;
    long = m.long ∙ f.long;
    classes = λ k h. subst (λ v. v < n) (sym (m.at_each k h)) (in_range k h (relabeled high low (get_or next k 0)));
    lowest = λ k h. subst (λ v. v ≤ k) (sym (m.at_each k h)) (at_most k h (relabeled high low (get_or next k 0)));
    own = λ k h. let e = m.at_each k h in ap (λ v. get_or r v 0) e ∙ fixed k h (relabeled high low (get_or next k 0)) ∙ sym e;
    functions = f.functions;
    firsts = f.firsts;
    seconds = f.seconds;
    first_before = f.first_before;
    second_before = f.second_before;
  }
    where
      high : ℕ
      high = max (get_or next i 0) (get_or next j 0)

      low : ℕ
      low = min (get_or next i 0) (get_or next j 0)

      in_range : (k : ℕ) → k < n → {w : ℕ} → Relabeled high low (get_or next k 0) w → w < n
      in_range k h (moved e) = low_below _ _ n (f.classes i p) (f.classes j q)
      in_range k h (stays e) = f.classes k h

      at_most : (k : ℕ) → k < n → {w : ℕ} → Relabeled high low (get_or next k 0) w → w ≤ k
      at_most k h (moved e) = let a = low_le (get_or next i 0) (get_or next j 0) in let b = f.lowest k h in omega arith
      at_most k h (stays e) = f.lowest k h

      -- low is a representative before, and so afterwards
      low_own : get_or next low 0 ≡ low
      low_own = elim (sides (get_or next i 0) (get_or next j 0)) [
        | inl (e, g) ↦ ap (λ v. get_or next v 0) g ∙ f.own j q ∙ sym g
        | inr (e, g) ↦ ap (λ v. get_or next v 0) g ∙ f.own i p ∙ sym g
      ]

      fixed : (k : ℕ) → k < n → {w : ℕ} → Relabeled high low (get_or next k 0) w → get_or r w 0 ≡ w
      fixed k h (moved e) = m.at_each low (low_below _ _ n (f.classes i p) (f.classes j q)) ∙ ap (relabel_of high low) low_own ∙ relabel_to high low
      fixed k h (stays e) = m.at_each (get_or next k 0) (f.classes k h) ∙ ap (relabel_of high low) (f.own k h) ∙ relabel_other high low (get_or next k 0) e

  united_keeps : (next r : List ℕ) (i j : ℕ) → n ≤ most_terms → United n i j next r → (a b : ℕ) → a < n → b < n → get_or next a 0 ≡ get_or next b 0
      → get_or r a 0 ≡ get_or r b 0
  united_keeps next r i j l m a b p q e = m.at_each a (omega arith) ∙ ap (relabel_of _ _) e ∙ sym (m.at_each b (omega arith))

  -- ---- signatures
  abbrev signature : List ℕ → ℕ → ℕ
  signature next = signature_at next function first second

  pub same_signature : (next : List ℕ) (i j : ℕ) → Formed next function first second registers n → i < n → j < n → signature next i ≡ signature next j
      → (get_or function i 0 ≡ get_or function j 0) × (get_or next (get_or first i 0) 0 ≡ get_or next (get_or first j 0) 0)
      × (get_or next (get_or second i 0) 0 ≡ get_or next (get_or second j 0) 0)
  unfolding signature_at Below
  same_signature next i j f p q e = signature_same (f.functions i p) (f.functions j q)
      (let w = f.within in let u = f.classes (get_or second i 0) (f.seconds i p) in omega arith)
      (let w = f.within in let u = f.classes (get_or second j 0) (f.seconds j q) in omega arith) e

  joined_none : (start : List ℕ) → Formed start function first second registers n → CongruentUnions start function first second registers n start
  joined_none start f = record { formed = f; keeps = λ i j p q e. e; beyond = λ k h. refl; propagates = λ old x y w. w; shrinks = omega arith }

  joined_more : {start next r : List ℕ} → CongruentUnions start function first second registers n next
      → CongruentUnions next function first second registers n r → CongruentUnions start function first second registers n r
  joined_more a b = record {
    formed = b.formed;
    keeps = λ i j p q e. b.keeps i j p q (a.keeps i j p q e);
    beyond = λ k h. b.beyond k h ∙ a.beyond k h;
    propagates = λ old x y w. b.propagates old x y (a.propagates old x y w);
    shrinks = let u = a.shrinks in let v = b.shrinks in omega arith;
  }

  -- one union of congruent applications
  joined_union : (next r : List ℕ) (i j : ℕ) → Formed next function first second registers n → registers ≤ i → i < n → registers ≤ j → j < n
      → signature next i ≡ signature next j → get_or next i 0 ≢ get_or next j 0 → United n i j next r
      → CongruentUnions next function first second registers n r
  unfolding Below
  joined_union next r i j f li bi lj bj e x m = record {
    formed = united_formed next r i j f bi bj m;
    keeps = λ a b p q e. united_keeps next r i j f.within m a b p q e;
    beyond = m.beyond;
    propagates = λ old x y w.
        let (g, u, v) = same_signature next i j f bi bj e in
        propagating_union (entry_at function) (entry_at first) (entry_at second) registers n old x y (entry_at next) (entry_at r) i j
        (max (get_or next i 0) (get_or next j 0)) (min (get_or next i 0) (get_or next j 0)) w
        (Entailed.congruent li bi lj bj g (w.sound (entry_at first i) (entry_at first j) (f.firsts i bi) (f.firsts j bj) u)
        (w.sound (entry_at second i) (entry_at second j) (f.seconds i bi) (f.seconds j bj) v))
        bi bj (sides (get_or next i 0) (get_or next j 0)) m.at_each;
    shrinks = let l = union_less n next r i j bi bj x m in omega arith;
  }

  -- the name that goes is not after the terms
  name_most : (next : List ℕ) (a b i d : ℕ) → Formed next function first second registers n → a < n → b < n → a ≤ i → b ≤ i
      → d ≡ max (get_or next a 0) (get_or next b 0) → d ≤ i
  name_most next a b i d f la lb p q e = let u = f.lowest a la in let v = f.lowest b lb in
      elim (sides (get_or next a 0) (get_or next b 0))
      [ inl (x, y) ↦ let c : d ≡ get_or next a 0 = e ∙ x in omega arith | inr (x, y) ↦ let c : d ≡ get_or next b 0 = e ∙ x in omega arith ]

  pub start_ready : (representative head link : List ℕ) (x y d : ℕ) → Formed representative function first second registers n → x < n → y < n
      → IndexedTerms representative function first second registers n head link
      → d ≡ max (get_or representative x 0) (get_or representative y 0)
      → Readable representative function first second registers n × Chains n head link × CompleteIndex (signature representative) registers n head link
      × (d ≤ n)
  start_ready representative head link x y d f p q w e =
      (readable n f f.more (omega arith), w.chains, w.complete, name_most representative x y n d f p q (omega arith) (omega arith) e)

  -- ---- a union, and what is still known of the applications before the name that went
  module _ (next r : List ℕ) (a b i d : ℕ) (f : Formed next function first second registers n) (h : i ≤ n) (m : United n a b next r)
      (ed : d ≡ max (get_or next a 0) (get_or next b 0))
      (st : Closed (entry_at function) (entry_at first) (entry_at second) registers i (entry_at next)) (head link : List ℕ)
      (all : CompleteIndex (signature next) registers i head link) (q : ℕ) (head' : List ℕ) (w : Resumed registers i d head link q head') where
    unmoved : (v k : ℕ) → registers ≤ k → k < q → v ≤ k → v < n → get_or r v 0 ≡ get_or next v 0
    unmoved v k p l le ln = m.at_each v ln ∙ relabel_other (max (get_or next a 0) (get_or next b 0)) (min (get_or next a 0) (get_or next b 0)) (get_or next v 0)
        (λ z. let x = w.before k p l in let y = f.lowest v ln in omega arith)

    first_same : (k : ℕ) → registers ≤ k → k < q → get_or r (get_or first k 0) 0 ≡ get_or next (get_or first k 0) 0
    unfolding Below
    first_same k p l = let y = w.most in unmoved (get_or first k 0) k p l (f.first_before k (omega arith)) (f.firsts k (omega arith))

    second_same : (k : ℕ) → registers ≤ k → k < q → get_or r (get_or second k 0) 0 ≡ get_or next (get_or second k 0) 0
    unfolding Below
    second_same k p l = let y = w.most in unmoved (get_or second k 0) k p l (f.second_before k (omega arith)) (f.seconds k (omega arith))

    same : (k : ℕ) → registers ≤ k → k < q → signature r k ≡ signature next k
    unfolding signature_at
    same k p l = rw (first_same k p l, second_same k p l)

    pub resumed_closed : Closed (entry_at function) (entry_at first) (entry_at second) registers q (entry_at r)
    unfolding Closed
    resumed_closed u v pu lu pv lv e x y = let z = w.most in
        m.at_each u (omega arith) ∙ ap (relabel_of (max (get_or next a 0) (get_or next b 0)) (min (get_or next a 0) (get_or next b 0)))
        (st u v pu (omega arith) pv (omega arith) e (sym (first_same u pu lu) ∙ x ∙ first_same v pv lv) (sym (second_same u pu lu) ∙ y ∙ second_same v pv lv))
        ∙ sym (m.at_each v (omega arith))

    pub resumed_complete : CompleteIndex (signature r) registers q head' link
    resumed_complete = record {
      has = λ k p l. let z = w.most in let (o, u, x, y) = all.has k p (omega arith) in (
        o,
        u,
        w.keeps (signature r k % signature_chains) o (subst (λ s. ChainHas registers link (get_or head (s % signature_chains) 0) o) (sym (same k p l)) x)
            (omega arith),
        same o (holds_least registers link _ o x) (omega arith) ∙ y ∙ sym (same k p l),
      );
      only = λ b o x. let y = holds_most registers link (get_or head' b 0) o w.chains.links f.some x in let z = w.chains.heads b in
          ap (λ s. s % signature_chains) (same o (holds_least registers link _ o x) (omega arith)) ∙ all.only b o (w.back b o x);
    }

  -- ---- the loop of `propagate`
  module _ (start next head link : List ℕ) (i : ℕ) (g : Underway start function first second registers n next head link i) (h : i < n) (c o : ℕ)
      (ec : c ≡ signature next i) (head' link' : List ℕ) (w : Entered (signature next) registers i c head link o head' link') where
    pub found_below : o < n
    found_below = let m = w.most in omega arith

    same_as_found : signature next o ≡ signature next i
    same_as_found = by_test (eqb o i) (λ t. ap (signature next) (eqb-true o i t))
        (λ t. let d : o ≢ i = eqb-false o i t in let m = w.most in w.hit (omega arith) ∙ ec)

    chains_next : Chains (i + 1) head' link'
    chains_next = subst (λ k. Chains k head' link') (sym (add-one i)) w.chains

    -- an application below i that is congruent to i is in its class
    with_others : get_or next o 0 ≡ get_or next i 0
        → (k : ℕ) → registers ≤ k → k < i → get_or function k 0 ≡ get_or function i 0 → get_or next (get_or first k 0) 0 ≡ get_or next (get_or first i 0) 0
        → get_or next (get_or second k 0) 0 ≡ get_or next (get_or second i 0) 0 → get_or next k 0 ≡ get_or next i 0
    unfolding Closed signature_at
    with_others e k p l a b d = by_test (eqb o i)
        (λ t. absurd (w.fresh (eqb-true o i t) g.complete k p l (rw (a, b, d) (sym ec))))
        (λ t. let x : o ≢ i = eqb-false o i t in let m = w.most in
        let (a', b', d') = same_signature next o i g.joined.formed found_below h same_as_found in
        g.closed k o p l w.least (omega arith) (a ∙ sym a') (b ∙ sym b') (d ∙ sym d') ∙ e)

    pub underway_same : get_or next o 0 ≡ get_or next i 0 → Underway start function first second registers n next head' link' (i + 1)
    unfolding Closed
    underway_same e = record {
      least = let a = g.least in omega arith;
      most = omega arith;
      joined = g.joined;
      chains = chains_next;
      closed = λ a b p q r s u v t. by_test (eqb a i)
          (λ y. let ea = eqb-true a i y in by_test (eqb b i)
          (λ y. ap (λ k. get_or next k 0) (ea ∙ sym (eqb-true b i y)))
          (λ y. let d : b ≢ i = eqb-false b i y in
          sym (with_others e b r (omega arith) (sym u ∙ ap (λ k. get_or function k 0) ea) (sym v ∙ ap (λ k. get_or next (get_or first k 0) 0) ea)
          (sym t ∙ ap (λ k. get_or next (get_or second k 0) 0) ea) ∙ ap (λ k. get_or next k 0) (sym ea))))
          (λ y. let d : a ≢ i = eqb-false a i y in by_test (eqb b i)
          (λ y. let eb = eqb-true b i y in
          with_others e a p (omega arith) (u ∙ ap (λ k. get_or function k 0) eb) (v ∙ ap (λ k. get_or next (get_or first k 0) 0) eb)
          (t ∙ ap (λ k. get_or next (get_or second k 0) 0) eb) ∙ ap (λ k. get_or next k 0) (sym eb))
          (λ y. let c : b ≢ i = eqb-false b i y in g.closed a b p (omega arith) r (omega arith) u v t));
      complete = subst (λ k. CompleteIndex (signature next) registers k head' link') (sym (add-one i))
          (w.completes (signature next) (λ k l. refl) (sym ec) g.complete);
    }

    module _ (x : get_or next o 0 ≢ get_or next i 0) where
      -- the application that was found is before i, and the index is as it was
      found_before : o < i
      found_before = let d : o ≢ i = λ e. x (ap (λ k. get_or next k 0) e) in let m = w.most in omega arith

      pub resume_ready : (d : ℕ) → d ≡ max (get_or next o 0) (get_or next i 0)
          → Readable next function first second registers i × Chains i head' link' × CompleteIndex (signature next) registers i head' link' × (d ≤ i)
      resume_ready d e = let (p, q) = w.kept found_before in (
        readable i g.joined.formed g.least g.most,
        rw (p, q) g.chains,
        rw (p, q) g.complete,
        let a = found_before in
            name_most next o i i d g.joined.formed found_below h (omega arith) (omega arith) e,
      )

      into : (r : List ℕ) → r ≡ classes_united n o i next → United n o i next r
      into r e = united_is n o i next r (let l = g.joined.formed.long in let v = g.joined.formed.within in omega arith) e

      union_shrinks : (r : List ℕ) → r ≡ classes_united n o i next → sum_below n r < sum_below n next
      union_shrinks r e = union_less n next r o i found_below h x (into r e)

      pub underway_union : (r head'' : List ℕ) (d q : ℕ) → r ≡ classes_united n o i next → d ≡ max (get_or next o 0) (get_or next i 0)
          → Resumed registers i d head' link' q head'' → Underway start function first second registers n r head'' link' q
      underway_union r head'' d q e ed z = let (eh, el) = w.kept found_before in record {
        least = z.least;
        most = let m = z.most in omega arith;
        joined = joined_more g.joined (joined_union next r o i g.joined.formed w.least found_below g.least h same_as_found x (into r e));
        chains = z.chains;
        closed = resumed_closed next r o i i d g.joined.formed (omega arith) (into r e) ed g.closed head' link' (rw (eh, el) g.complete) q head'' z;
        complete = resumed_complete next r o i i d g.joined.formed (omega arith) (into r e) ed g.closed head' link'
            (rw (eh, el) g.complete) q head'' z;
      }

    pub less_union : (x : get_or next o 0 ≢ get_or next i 0) (r : List ℕ) (q : ℕ) → r ≡ classes_united n o i next
        → 2000 * sum_below n r + (n - q) < 2000 * sum_below n next + (n - i)
    less_union x r q e = let l = union_shrinks x r e in let v = g.joined.formed.within in omega arith

  pub underway_end : (start next head link : List ℕ) (i : ℕ) → Underway start function first second registers n next head link i → n ≤ i
      → Propagated start function first second registers n next head link
  underway_end start next head link i g h = let m = g.most in let e : i ≡ n = omega arith in record {
    joined = g.joined;
    closed = subst (λ k. Closed (entry_at function) (entry_at first) (entry_at second) registers k (entry_at next)) e g.closed;
    indexed = record {
      chains = subst (λ k. Chains k head link) e g.chains;
      complete =
          subst (λ k. CompleteIndex (signature next) registers k head link) e g.complete;
    };
  }

  -- how it starts: after the union of x and y
  pub underway_start : (representative next head link head' : List ℕ) (x y d q : ℕ) → Formed representative function first second registers n → x < n → y < n
      → Closed (entry_at function) (entry_at first) (entry_at second) registers n (entry_at representative)
      → IndexedTerms representative function first second registers n head link → next ≡ classes_united n x y representative
      → d ≡ max (get_or representative x 0) (get_or representative y 0) → Resumed registers n d head link q head'
      → Underway next function first second registers n next head' link q
  underway_start representative next head link head' x y d q f p l st w e ed z = let m =
      united_is n x y representative next (let a = f.long in let b = f.within in omega arith) e in record {
        least = z.least;
        most = z.most;
        joined = joined_none next (united_formed representative next x y f p l m);
        chains = z.chains;
        closed = resumed_closed representative next x y n d f (omega arith) m ed st head link w.complete q head' z;
        complete = resumed_complete representative next x y n d f (omega arith) m ed st head link w.complete q head' z;
      }

  pub merged_is : (representative next r head link : List ℕ) (x y : ℕ) → Formed representative function first second registers n → x < n → y < n
      → United n x y representative next → Propagated next function first second registers n r head link
      → Merged representative function first second registers n x y r head link
  merged_is representative next r head link x y f p q m c =
      let w = propagating_union (entry_at function) (entry_at first) (entry_at second) registers n (entry_at representative) x y (entry_at representative)
      (entry_at next) x y (max (get_or representative x 0) (get_or representative y 0)) (min (get_or representative x 0) (get_or representative y 0))
      (propagating_start (entry_at function) (entry_at first) (entry_at second) registers n (entry_at representative) x y) Entailed.tested p q
      (sides (get_or representative x 0) (get_or representative y 0)) m.at_each in
      let v = c.joined.propagates (entry_at representative) x y w in
      record {
        formed = c.joined.formed;
        sound = v.sound;
        keeps = v.keeps;
        joins = c.joined.keeps x y p q (m.at_each x p ∙ one_name (get_or representative x 0) (get_or representative y 0) ∙ sym (m.at_each y q));
        closed = c.closed;
        beyond = λ k h. c.joined.beyond k h ∙ m.beyond k h;
        indexed = c.indexed;
      }

  -- one union, where the classes are closed after it
  pub united_merged : (representative next head link : List ℕ) (x y : ℕ) → Formed representative function first second registers n → x < n → y < n
      → United n x y representative next
      → Closed (entry_at function) (entry_at first) (entry_at second) registers n (entry_at next)
      → IndexedTerms next function first second registers n head link
      → Merged representative function first second registers n x y next head link
  united_merged representative next head link x y f p q m st w = let g = united_formed representative next x y f p q m in
      merged_is representative next next head link x y f p q m (record { joined = joined_none next g; closed = st; indexed = w })

  -- classes that are one already
  pub merged_same : (representative head link : List ℕ) (x y : ℕ) → Formed representative function first second registers n
      → Closed (entry_at function) (entry_at first) (entry_at second) registers n (entry_at representative)
      → IndexedTerms representative function first second registers n head link → get_or representative x 0 ≡ get_or representative y 0
      → Merged representative function first second registers n x y representative head link
  merged_same representative head link x y f st w e = record {
    formed = f;
    sound = λ i j h k e. Entailed.already h k e;
    keeps = λ i j h k e. e;
    joins = e;
    closed = st;
    beyond = λ k h. refl;
    indexed = w;
  }
