-- Laws of the index: an index of record 0, a record more, and a walk along a chain.
use mathlib.Core.Path.{◌≡◌, refl, sym, ap, ◌∙◌, subst}
use mathlib.Core.Logic.{◌≢◌}
use Prim.Native.Nat.{ℕ, zero, suc, ◌+◌, ◌≤◌, ◌<◌}
use native.Mathlib.Omega.{arith}
use native.Mathlib.Nat.{mod-lt}
use mathlib.Core.Bool.{true, false}
use mathlib.Core.List.{List}
use lib.Dec.{eqb}
use lib.ListN.{length, get_or, set, replicate, length-set, length-replicate}
use lib.Seq.{get_or-set_same, get_or-set_other}
use borrow.Author.Tests.{eqb-true, eqb-false}
use Rattle.letters.specs.Capacity.{most_pairs}
use Rattle.base.proofs.Theory.Choice.{by_test}
use Rattle.records.specs.Records.{encoded_bytes}
use Rattle.table.specs.Table.{pair_at, is_at, is_listed}
use Rattle.table.proofs.Theory.TableLaws.{is_pair, at_listed, listed_at}
use Rattle.index.specs.Index.{chain_of, ChainHasRecord, IndexedPairs, pair_chains}

-- ---- record 0 alone
zero_at : (n i : ℕ) → get_or (replicate {A = ℕ} n 0) i 0 ≡ 0
zero_at zero i = refl
zero_at (suc n) zero = refl
zero_at (suc n) (suc i) = zero_at n i

pub index_begins : (t : List ℕ) → IndexedPairs t (replicate pair_chains 0) (replicate most_pairs 0) 1
index_begins t = record {
  head_long = length-replicate {A = ℕ} pair_chains 0;
  link_long = length-replicate {A = ℕ} most_pairs 0;
  heads = λ b. let e = zero_at pair_chains b in omega arith;
  links = λ i p. let e = zero_at most_pairs i in omega arith;
  chained = λ k p q. absurd (omega arith);
}

pub chain_small : (pair : List ℕ) → chain_of pair < pair_chains
unfolding chain_of
chain_small pair = mod-lt _ (omega arith)

-- ---- a record more
module _ (t head link : List ℕ) (count : ℕ) (x : IndexedPairs t head link count) (within : count < most_pairs) (pair : List ℕ) where
  abbrev b : ℕ
  b = chain_of pair

  abbrev head' : List ℕ
  head' = set head (chain_of pair) count

  abbrev link' : List ℕ
  link' = set link count (get_or head (chain_of pair) 0)

  linked : get_or link' count 0 ≡ get_or head b 0
  linked = get_or-set_same link count (get_or head b 0) 0 (let l = x.link_long in omega arith)

  headed : get_or head' b 0 ≡ count
  headed = get_or-set_same head b count 0 (let l = x.head_long in let s = chain_small pair in omega arith)

  held : (i k : ℕ) → i < count → ChainHasRecord link i k → ChainHasRecord link' i k
  held i k h (ChainHasRecord.here l) = ChainHasRecord.here l
  held i k h (ChainHasRecord.there l r) =
      let g = x.links i l in
      let d : i ≢ count = λ e. omega arith in
      ChainHasRecord.there l (subst (λ j. ChainHasRecord link' j k) (sym (get_or-set_other link count i (get_or head b 0) 0 d))
      (held (get_or link i 0) k (omega arith) r))

  -- what a chain had it still has
  chain : (q k : ℕ) → ChainHasRecord link (get_or head q 0) k → ChainHasRecord link' (get_or head' q 0) k
  chain q k r = by_test (eqb q b)
      (λ e. let z = eqb-true q b e in subst (λ j. ChainHasRecord link' j k) (sym (ap (λ q. get_or head' q 0) z ∙ headed))
      (ChainHasRecord.there (let h = x.heads q in omega arith)
      (subst (λ j. ChainHasRecord link' j k) (ap (λ q. get_or head q 0) z ∙ sym linked) (held (get_or head q 0) k (x.heads q) r))))
      λ e. subst (λ j. ChainHasRecord link' j k) (sym (get_or-set_other head b q count 0 (eqb-false q b e))) (held (get_or head q 0) k (x.heads q) r)

  pub index_more : (u : List ℕ) → ((j : ℕ) → j < count → pair_at u j ≡ pair_at t j) → pair_at u count ≡ pair → IndexedPairs u head' link' (count + 1)
  index_more u same new = record {
    head_long = simp length-set x.head_long;
    link_long = simp length-set x.link_long;
    heads = λ q. by_test (eqb q b)
        (λ e. let z : get_or head' q 0 ≡ count = ap (λ q. get_or head' q 0) (eqb-true q b e) ∙ headed in omega arith)
        λ e. let z = get_or-set_other head b q count 0 (eqb-false q b e) in let h = x.heads q in omega arith;
    links = λ i p. by_test (eqb i count)
        (λ e. let s = eqb-true i count e in
        let z : get_or link' i 0 ≡ get_or head b 0 = ap (λ i. get_or link' i 0) s ∙ linked in let h = x.heads b in omega arith)
        λ e. let z = get_or-set_other link count i (get_or head b 0) 0 (eqb-false i count e) in let h = x.links i p in omega arith;
    chained = λ k p l. by_test (eqb k count)
        (λ e. let s = eqb-true k count e in
        let z : get_or head' (chain_of (pair_at u k)) 0 ≡ k =
        ap (λ j. get_or head' (chain_of (pair_at u j)) 0) s ∙ ap (λ y. get_or head' (chain_of y) 0) new ∙ headed ∙ sym s in
        subst (λ j. ChainHasRecord link' j k) (sym z) (ChainHasRecord.here p))
        λ e. let d = eqb-false k count e in
        let h : k < count = omega arith in
        subst (λ y. ChainHasRecord link' (get_or head' (chain_of y) 0) k) (sym (same k h)) (chain (chain_of (pair_at t k)) k (x.chained k p h));
  }

-- ---- the walk along a chain
module _ (t link : List ℕ) (count : ℕ) (pair : List ℕ) where
  -- At i: where the pair stands behind record 0, the chain from i on has it.
  pub record Looking (i : ℕ) : Type 0 where
    pub below : i < count
    pub on : (k : ℕ) → 1 ≤ k → k < count → is_at t k pair ≡ true → ChainHasRecord link i k

  pub looking_start : (head : List ℕ) (i : ℕ) → IndexedPairs t head link count → length pair ≡ encoded_bytes → i ≡ get_or head (chain_of pair) 0 → Looking i
  looking_start head i x l e = rw e (record {
    below = x.heads (chain_of pair);
    on = λ k p h y. subst (λ z. ChainHasRecord link (get_or head (chain_of z) 0) k) (is_pair t k pair l y) (x.chained k p h);
  })

  past : (i k : ℕ) → is_at t i pair ≡ false → is_at t k pair ≡ true → ChainHasRecord link i k → ChainHasRecord link (get_or link i 0) k
  past i k n y (ChainHasRecord.here l) = absurd (let z : ◌≡◌ {A = ℕ} 0 1 = cc in omega arith)
  past i k n y (ChainHasRecord.there l r) = r

  pub looking_turn : (head : List ℕ) (i j : ℕ) → IndexedPairs t head link count → Looking i → 1 ≤ i → is_at t i pair ≡ false → j ≡ get_or link i 0 → Looking j
  looking_turn head i j x f d n e = rw e (record {
    below = let h = x.links i d in let g = f.below in omega arith;
    on = λ k p h y. past i k n y (f.on k p h y);
  })

  ended : (i k : ℕ) → i ≡ 0 → ChainHasRecord link i k → ⊥
  ended i k e (ChainHasRecord.here l) = omega arith
  ended i k e (ChainHasRecord.there l r) = omega arith

  pub looking_hit : (i : ℕ) → Looking i → is_at t i pair ≡ true → true ≡ is_listed t count pair
  looking_hit i f y = sym (at_listed t pair count i f.below y)

  pub looking_end : (i : ℕ) → Looking i → i ≡ 0 → is_at t 0 pair ≡ is_listed t count pair
  looking_end i f e = by_test (is_listed t count pair)
      (λ y. let (j, l, z) = listed_at t pair count y in rw y (by_test (eqb j 0)
      (λ s. subst (λ j. is_at t j pair ≡ true) (eqb-true j 0 s) z)
      λ s. absurd (ended i j e (f.on j (let d = eqb-false j 0 s in omega arith) l z))))
      λ y. by_test (is_at t 0 pair) (λ z. absurd
      (let q = at_listed t pair count 0 (let h = f.below in omega arith) z in let o : ◌≡◌ {A = ℕ} 0 1 = cc in omega arith)) λ z. z ∙ sym y
