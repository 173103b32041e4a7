-- What follows from the definitions of specs/Index.antt.
use mathlib.Core.Path.{◌≡◌, refl, sym, ◌∙◌, ap, subst}
use mathlib.Core.Logic.{◌⊎◌, inl, inr, ◌≢◌}
use mathlib.Core.Bool.{Bool, true, false}
use mathlib.Core.List.{List, [], ◌∷◌}
use Prim.Native.Nat.{ℕ, zero, suc, ◌+◌, ◌-◌, ◌≤◌, ◌<◌, ◌%◌}
use native.Mathlib.Omega.{arith}
use lib.Dec.{eqb, ltb}
use lib.ListN.{length, get_or, set, length-set}
use lib.Seq.{get_or-set_same, get_or-set_other}
use borrow.Author.Tests.{eqb-true, eqb-false, ltb-true, ltb-false}
use Rattle.letters.specs.Editions.{most_functions}
use Rattle.base.proofs.Theory.Choice.{by_test}
use Rattle.base.specs.Choice.{pick}
use Rattle.closure.specs.Limits.{signature_chains, most_terms}
use Rattle.closure.specs.Index.{signature_of, ChainHas, here, there, Down, Chains, CompleteIndex, Found, Entered, Cut, CutTo, without_last}

pub signature_same : {f p q g r s : ℕ} → f < most_functions → g < most_functions → q < most_terms → s < most_terms
    → signature_of f p q ≡ signature_of g r s → (f ≡ g) × (p ≡ r) × (q ≡ s)
unfolding signature_of
signature_same hf hg hq hs e = (omega arith, omega arith, omega arith)

pub holds_least : (registers : ℕ) (link : List ℕ) (i o : ℕ) → ChainHas registers link i o → registers ≤ o
holds_least registers link i o (here l) = l
holds_least registers link i o (there l h) = holds_least registers link (get_or link i 0) o h

pub link_less : (registers : ℕ) (link : List ℕ) (i j : ℕ) → Down link → 1 ≤ registers → registers ≤ i → j ≡ get_or link i 0 → j < i
link_less registers link i j w s l e = let h = w.lower i (omega arith) in omega arith

pub holds_most : (registers : ℕ) (link : List ℕ) (i o : ℕ) → Down link → 1 ≤ registers → ChainHas registers link i o → o ≤ i
holds_most registers link i o w s (here l) = omega arith
holds_most registers link i o w s (there l h) = let a = w.lower i (omega arith) in let b = holds_most registers link (get_or link i 0) o w s h in omega arith

pub chain_below : (n : ℕ) (head link : List ℕ) (b v : ℕ) → Chains n head link → v ≡ get_or head b 0 → v < n
chain_below n head link b v w e = let h = w.heads b in omega arith

-- ---- the loop of `below`
module _ (link : List ℕ) (start bound : ℕ) where
  pub record Cutting (i : ℕ) : Type 0 where
    pub keeps : (registers o : ℕ) → ChainHas registers link start o → o < bound → ChainHas registers link i o
    pub back : (registers o : ℕ) → registers ≤ bound → ChainHas registers link i o → ChainHas registers link start o

  pub cutting_start : Cutting start
  cutting_start = record { keeps = λ registers o h l. h; back = λ registers o s h. h }

  pub cutting_turn : (i j : ℕ) → Cutting i → bound ≤ i → j ≡ get_or link i 0 → Cutting j
  cutting_turn i j c l e = rw e (record {
    keeps = λ registers o h b. beyond registers o b (c.keeps registers o h b);
    back = λ registers o s h. c.back registers o s (there (omega arith) h);
  })
    where
      beyond : (registers o : ℕ) → o < bound → ChainHas registers link i o → ChainHas registers link (get_or link i 0) o
      beyond registers o b (here k) = absurd (omega arith)
      beyond registers o b (there k h) = h

  pub cutting_end : (i : ℕ) → Cutting i → i < bound → Cut link start bound i
  cutting_end i c h = record { below = h; keeps = c.keeps; back = c.back }

-- ---- the loop of `cut`
pub record CuttingAll (head₀ link : List ℕ) (bound : ℕ) (head : List ℕ) (i : ℕ) : Type 0 where
  pub most : i ≤ signature_chains
  pub long : length head ≡ signature_chains
  pub past : (b : ℕ) → b < i → Cut link (get_or head₀ b 0) bound (get_or head b 0)
  pub rest : (b : ℕ) → i ≤ b → get_or head b 0 ≡ get_or head₀ b 0

module _ (head₀ link : List ℕ) (bound : ℕ) (w : Chains most_terms head₀ link) (some : 1 ≤ bound) where
  pub cutting_all_start : CuttingAll head₀ link bound head₀ 0
  cutting_all_start = record { most = omega arith; long = w.head_long; past = λ b h. absurd (omega arith); rest = λ b h. refl }

  pub cutting_below : (head : List ℕ) (i start : ℕ) → CuttingAll head₀ link bound head i → start ≡ get_or head i 0 → start < most_terms
  cutting_below head i start c e = let r = c.rest i (omega arith) in let h = w.heads i in omega arith

  pub cutting_all_turn : (head : List ℕ) (i start v : ℕ) → CuttingAll head₀ link bound head i → i < signature_chains → start ≡ get_or head i 0
      → Cut link start bound v → CuttingAll head₀ link bound (set head i v) (i + 1)
  cutting_all_turn head i start v c h e k = record {
    most = omega arith;
    long = simp length-set c.long;
    past = λ b l. by_test (eqb b i)
        (λ t. let q = eqb-true b i t in
        subst (Cut link (get_or head₀ b 0) bound) (sym (ap (λ b. get_or (set head i v) b 0) q ∙ get_or-set_same head i v 0 (let m = c.long in omega arith)))
        (subst (λ s. Cut link s bound v) (e ∙ c.rest i (omega arith) ∙ ap (λ b. get_or head₀ b 0) (sym q)) k))
        (λ t. let d : b ≢ i = eqb-false b i t in subst (Cut link (get_or head₀ b 0) bound) (sym (get_or-set_other head i b v 0 d)) (c.past b (omega arith)));
    rest = λ b l. let d : b ≢ i = λ z. omega arith in get_or-set_other head i b v 0 d ∙ c.rest b (omega arith);
  }

  past_end : (l : List ℕ) (b : ℕ) → length l ≤ b → get_or l b 0 ≡ 0
  past_end [] b h = refl
  past_end (x ∷ l) zero h = absurd (omega arith)
  past_end (x ∷ l) (suc b) h = past_end l b (omega arith)

  pub cutting_all_end : (head : List ℕ) (i : ℕ) → CuttingAll head₀ link bound head i → signature_chains ≤ i → CutTo head₀ link bound head
  cutting_all_end head i c h = record {
    chains = record {
      head_long = c.long;
      link_long = w.link_long;
      heads = λ b. by_test (ltb b signature_chains)
          (λ t. (c.past b (let l = ltb-true b signature_chains t in omega arith)).below)
          (λ t. let z = past_end head b (let l = ltb-false b signature_chains t in let m = c.long in omega arith) in omega arith);
      links = w.links;
    };
    keeps = λ registers b o k l. by_test (ltb b signature_chains)
        (λ t. (c.past b (let l = ltb-true b signature_chains t in omega arith)).keeps registers o k l)
        (λ t. let l = ltb-false b signature_chains t in let m = c.most in subst (λ j. ChainHas registers link j o) (sym (c.rest b (omega arith))) k);
    back = λ registers b o s k. by_test (ltb b signature_chains)
        (λ t. (c.past b (let l = ltb-true b signature_chains t in omega arith)).back registers o s k)
        (λ t. let l = ltb-false b signature_chains t in let m = c.most in subst (λ j. ChainHas registers link j o) (c.rest b (omega arith)) k);
  }

without-last : (last before k : ℕ) → ((last ≡ k) × (without_last last before k ≡ before)) ⊎ ((last ≢ k) × (without_last last before k ≡ last))
unfolding without_last
without-last last before k = go (eqb last k) refl
  where
    go : (b : Bool) → eqb last k ≡ b → ((last ≡ k) × (pick b (λ _. before) (λ _. last) ≡ before)) ⊎ ((last ≢ k) × (pick b (λ _. before) (λ _. last) ≡ last))
    go true e = inl (eqb-true last k e, refl)
    go false e = inr (eqb-false last k e, refl)

-- the applications from k on were taken out
pub record Undoing (head₀ link : List ℕ) (bound : ℕ) (head : List ℕ) (k : ℕ) : Type 0 where
  pub least : bound ≤ k
  pub chains : Chains k head link
  pub keeps : (registers b o : ℕ) → ChainHas registers link (get_or head₀ b 0) o → o < bound → ChainHas registers link (get_or head b 0) o
  pub back : (registers b o : ℕ) → registers ≤ bound → ChainHas registers link (get_or head b 0) o → ChainHas registers link (get_or head₀ b 0) o

module _ (head₀ link : List ℕ) (bound : ℕ) where
  pub undoing_start : (i : ℕ) → Chains i head₀ link → bound ≤ i → Undoing head₀ link bound head₀ i
  undoing_start i w h = record { least = h; chains = w; keeps = λ registers b o k l. k; back = λ registers b o s k. k }

  pub undoing_end : (head : List ℕ) (k : ℕ) → Undoing head₀ link bound head k → k ≤ bound → CutTo head₀ link bound head
  undoing_end head k u h = let l = u.least in let e : k ≡ bound = omega arith in
      record { chains = subst (λ k. Chains k head link) e u.chains; keeps = u.keeps; back = u.back }

  -- application j, the last that is left, is taken out of the chain of its signature
  module _ (signature : ℕ → ℕ) (registers n : ℕ) (all : CompleteIndex signature registers n head₀ link) (some : 1 ≤ registers) (first : registers ≤ bound)
      (head : List ℕ) (k j chain v : ℕ) (u : Undoing head₀ link bound head k) (h : bound < k) (ej : j ≡ k - 1) (ec : chain ≡ signature j % signature_chains)
      (small : chain < signature_chains) (ev : v ≡ without_last (get_or head chain 0) (get_or link j 0) j) where
    stored : get_or (set head chain v) chain 0 ≡ v
    stored = get_or-set_same head chain v 0 (let l = u.chains.head_long in omega arith)

    other : (b : ℕ) → b ≢ chain → get_or (set head chain v) b 0 ≡ get_or head b 0
    other b d = get_or-set_other head chain b v 0 d

    beyond : (r i o : ℕ) → i ≡ j → o < bound → ChainHas r link i o → ChainHas r link (get_or link j 0) o
    beyond r i o e b (here l) = absurd (omega arith)
    beyond r i o e b (there l z) = subst (λ i. ChainHas r link (get_or link i 0) o) e z

    -- what the stored entry has
    kept : (r o : ℕ) → o < bound → ChainHas r link (get_or head chain 0) o → ChainHas r link v o
    kept r o b z = elim (without-last (get_or head chain 0) (get_or link j 0) j) [
      | inl (e, q) ↦ subst (λ i. ChainHas r link i o) (sym (ev ∙ q)) (beyond r (get_or head chain 0) o e b z)
      | inr (d, q) ↦ subst (λ i. ChainHas r link i o) (sym (ev ∙ q)) z
    ]

    came : (r o : ℕ) → r ≤ bound → ChainHas r link v o → ChainHas r link (get_or head chain 0) o
    came r o b z = elim (without-last (get_or head chain 0) (get_or link j 0) j) [
      | inl (e, q) ↦ subst (λ i. ChainHas r link i o) (sym e) (there (omega arith) (subst (λ i. ChainHas r link i o) (ev ∙ q) z))
      | inr (d, q) ↦ subst (λ i. ChainHas r link i o) (ev ∙ q) z
    ]

    stored_less : v < j
    stored_less = elim (without-last (get_or head chain 0) (get_or link j 0) j) [
      | inl (e, q) ↦ let l = u.chains.links.lower j (omega arith) in let x : v ≡ get_or link j 0 = ev ∙ q in omega arith
      | inr (d, q) ↦ let l = u.chains.heads chain in let x : v ≡ get_or head chain 0 = ev ∙ q in let y : get_or head chain 0 ≢ j = d in omega arith
    ]

    -- no other chain has j, since its signature leads to this one
    other_less : (b : ℕ) → b ≢ chain → get_or head b 0 < j
    other_less b d = by_test (eqb (get_or head b 0) j)
        (λ t. let e = eqb-true (get_or head b 0) j t in
        absurd (d (sym (all.only b j (u.back registers b j first (subst (λ i. ChainHas registers link i j) (sym e) (here (omega arith))))) ∙ sym ec)))
        (λ t. let y : get_or head b 0 ≢ j = eqb-false (get_or head b 0) j t in let l = u.chains.heads b in omega arith)

    pub undoing_turn : Undoing head₀ link bound (set head chain v) j
    undoing_turn = record {
      least = omega arith;
      chains = record {
        head_long = simp length-set u.chains.head_long;
        link_long = u.chains.link_long;
        heads = λ b. by_test (eqb b chain)
            (λ t. let e : get_or (set head chain v) b 0 ≡ v = ap (λ b. get_or (set head chain v) b 0) (eqb-true b chain t) ∙ stored in let l = stored_less in
            omega arith)
            (λ t. let e = other b (eqb-false b chain t) in let l = other_less b (eqb-false b chain t) in omega arith);
        links = u.chains.links;
      };
      keeps = λ r b o z l. by_test (eqb b chain)
          (λ t. let e = eqb-true b chain t in
          subst (λ i. ChainHas r link i o) (sym (ap (λ b. get_or (set head chain v) b 0) e ∙ stored))
          (kept r o l (subst (λ b. ChainHas r link (get_or head b 0) o) e (u.keeps r b o z l))))
          (λ t. subst (λ i. ChainHas r link i o) (sym (other b (eqb-false b chain t))) (u.keeps r b o z l));
      back = λ r b o s z. u.back r b o s (by_test (eqb b chain)
          (λ t. let e = eqb-true b chain t in
          subst (λ b. ChainHas r link (get_or head b 0) o) (sym e)
          (came r o s (subst (λ i. ChainHas r link i o) (ap (λ b. get_or (set head chain v) b 0) e ∙ stored) z)))
          (λ t. subst (λ i. ChainHas r link i o) (other b (eqb-false b chain t)) z));
    }

-- ---- the loop of `find`
module _ (signature : ℕ → ℕ) (registers : ℕ) (link : List ℕ) (start c : ℕ) where
  -- At i, all that is left of the chain is the chain from i on, and nothing with the signature c was passed.
  pub record Finding (i : ℕ) : Type 0 where
    pub back : (o : ℕ) → ChainHas registers link i o → ChainHas registers link start o
    pub on : (o : ℕ) → ChainHas registers link start o → signature o ≡ c → ChainHas registers link i o

  pub finding_start : Finding start
  finding_start = record { back = λ o h. h; on = λ o h e. h }

  past : (i o : ℕ) → signature i ≢ c → signature o ≡ c → ChainHas registers link i o → ChainHas registers link (get_or link i 0) o
  past i o d e (here l) = absurd (d e)
  past i o d e (there l h) = h

  pub finding_turn : (i s j : ℕ) → Finding i → registers ≤ i → s ≡ signature i → s ≢ c → j ≡ get_or link i 0 → Finding j
  finding_turn i s j f l p d e = rw e (record {
    back = λ o h. f.back o (there l h);
    on = λ o h q. past i o (λ z. d (p ∙ z)) q (f.on o h q);
  })

  pub finding_hit : (n i s : ℕ) → Finding i → i < n → registers ≤ i → s ≡ signature i → s ≡ c → Found signature registers n link start c i
  finding_hit n i s f h l p e = record { below = h; hit = λ _. (sym p ∙ e, f.back i (here l)); miss = λ z. absurd (omega arith) }

  ended : (i o : ℕ) → i < registers → ChainHas registers link i o → ⊥
  ended i o h (here l) = omega arith
  ended i o h (there l k) = omega arith

  pub finding_end : (n i : ℕ) → Finding i → i < n → i < registers → Found signature registers n link start c i
  finding_end n i f h l = record { below = h; hit = λ z. absurd (omega arith); miss = λ z o k e. ended i o l (f.on o k e) }

-- ---- where `resume` goes on
pub chains_widen : (n : ℕ) (head link : List ℕ) → Chains n head link → n ≤ most_terms → Chains most_terms head link
chains_widen n head link w h = record { head_long = w.head_long; link_long = w.link_long; heads = λ b. let l = w.heads b in omega arith; links = w.links }

-- ---- an entry
module _ (signature : ℕ → ℕ) (registers n c : ℕ) (head link : List ℕ) (w : Chains n head link) (some : 1 ≤ registers) (more : registers ≤ n)
    (within : n < most_terms) where
  more_chains : Chains (suc n) head link
  more_chains = record { head_long = w.head_long; link_long = w.link_long; heads = λ b. let h = w.heads b in omega arith; links = w.links }

  -- what a number below n says of all up to n
  up_to : (P : ℕ → Type 0) → ((k : ℕ) → k < n → P k) → P n → (k : ℕ) → k < suc n → P k
  up_to P f p k h = by_test (eqb k n) (λ t. subst P (sym (eqb-true k n t)) p) (λ t. let d : k ≢ n = eqb-false k n t in f k (omega arith))

  -- the applications of a bucket are below n, and so have the signatures that they had
  still_only : (signature' : ℕ → ℕ) → ((k : ℕ) → k < n → signature' k ≡ signature k) → CompleteIndex signature registers n head link → (q o : ℕ)
      → ChainHas registers link (get_or head q 0) o → signature' o % signature_chains ≡ q
  still_only signature' same all q o k =
      let a = holds_most registers link (get_or head q 0) o w.links some k in
      let b = w.heads q in
      ap (λ s. s % signature_chains) (same o (omega arith)) ∙ all.only q o k

  known : (r : ℕ) → Found signature registers n link (get_or head (c % signature_chains) 0) c r → registers ≤ r
      → Entered signature registers n c head link r head link
  known r f l = record {
    least = l;
    most = let h = f.below in omega arith;
    hit = λ _. (f.hit l).0;
    fresh = λ z. absurd (let h = f.below in omega arith);
    kept = λ _. (refl, refl);
    chains = more_chains;
    completes = λ signature' same e all. record {
      only = still_only signature' same all;
      has = λ k p h. up_to
          (λ k. registers ≤ k → (o : ℕ) × (o ≤ k) × ChainHas registers link (get_or head (signature' k % signature_chains) 0) o × (signature' o ≡ signature' k))
          (λ k h p. let (o, b, u, v) = all.has k p h in
          (o, b, subst (λ s. ChainHas registers link (get_or head (s % signature_chains) 0) o) (sym (same k h)) u, same o (omega arith) ∙ v ∙ sym (same k h)))
          (λ p. let b = f.below in (
            r,
            omega arith,
            subst (λ s. ChainHas registers link (get_or head (s % signature_chains) 0) r) (sym e) (f.hit l).1,
            same r b
                ∙ (f.hit l).0 ∙ sym e,
          ))
          k h p;
    };
  }

  pub entered_known : (start r : ℕ) → start ≡ get_or head (c % signature_chains) 0 → Found signature registers n link start c r → registers ≤ r
      → Entered signature registers n c head link r head link
  entered_known start r e f l = known r (subst (λ s. Found signature registers n link s c r) e f) l

  module _ (b : ℕ) (eb : b ≡ c % signature_chains) (small : b < signature_chains) where
    linked : get_or (set link n (get_or head b 0)) n 0 ≡ get_or head b 0
    linked = get_or-set_same link n (get_or head b 0) 0 (let l = w.link_long in omega arith)

    headed : get_or (set head b n) b 0 ≡ n
    headed = get_or-set_same head b n 0 (let l = w.head_long in omega arith)

    held : (i o : ℕ) → i < n → ChainHas registers link i o → ChainHas registers (set link n (get_or head b 0)) i o
    held i o h (here l) = here l
    held i o h (there l k) =
        let d : i ≢ n = λ e. omega arith in
        let g = w.links.lower i (omega arith) in
        there l (subst (λ j. ChainHas registers (set link n (get_or head b 0)) j o) (sym (get_or-set_other link n i (get_or head b 0) 0 d))
        (held (get_or link i 0) o (omega arith) k))

    -- what a bucket had it still has
    bucket : (q o : ℕ) → ChainHas registers link (get_or head q 0) o → ChainHas registers (set link n (get_or head b 0)) (get_or (set head b n) q 0) o
    bucket q o k = by_test (eqb q b)
        (λ t. let e = eqb-true q b t in subst (λ j. ChainHas registers (set link n (get_or head b 0)) j o) (sym (ap (λ q. get_or (set head b n) q 0) e
        ∙ headed))
        (there more (subst (λ j. ChainHas registers (set link n (get_or head b 0)) j o) (ap (λ q. get_or head q 0) e ∙ sym linked)
        (held (get_or head q 0) o (w.heads q) k))))
        (λ t. subst (λ j. ChainHas registers (set link n (get_or head b 0)) j o) (sym (get_or-set_other head b q n 0 (eqb-false q b t)))
        (held (get_or head q 0) o (w.heads q) k))

    -- below n chains are as they were
    unheld : (i o : ℕ) → i < n → ChainHas registers (set link n (get_or head b 0)) i o → ChainHas registers link i o
    unheld i o h (here l) = here l
    unheld i o h (there l k) =
        let d : i ≢ n = λ e. omega arith in
        let g = w.links.lower i (omega arith) in
        let e = get_or-set_other link n i (get_or head b 0) 0 d in
        there l (subst (λ j. ChainHas registers link j o) e (unheld (get_or (set link n (get_or head b 0)) i 0) o (omega arith) k))

    from_new : (i o : ℕ) → i ≡ n → ChainHas registers (set link n (get_or head b 0)) i o → (o ≡ n) ⊎ ChainHas registers link (get_or head b 0) o
    from_new i o e (here l) = inl e
    from_new i o e (there l k) = inr
        (unheld (get_or head b 0) o (w.heads b)
        (subst (λ j. ChainHas registers (set link n (get_or head b 0)) j o) (ap (λ i. get_or (set link n (get_or head b 0)) i 0) e ∙ linked) k))

    new_only : (signature' : ℕ → ℕ) → ((k : ℕ) → k < n → signature' k ≡ signature k) → signature' n ≡ c → CompleteIndex signature registers n head link
        → (q o : ℕ) → ChainHas registers (set link n (get_or head b 0)) (get_or (set head b n) q 0) o → signature' o % signature_chains ≡ q
    new_only signature' same e all q o k = by_test (eqb q b)
        (λ t. let z = eqb-true q b t in elim (from_new (get_or (set head b n) q 0) o (ap (λ q. get_or (set head b n) q 0) z ∙ headed) k) [
          | inl y ↦ ap (λ o. signature' o % signature_chains) y ∙ ap (λ s. s % signature_chains) e ∙ sym eb ∙ sym z
          | inr y ↦ still_only signature' same all b o y ∙ sym z
        ])
        (λ t. still_only signature' same all q o
        (unheld (get_or head q 0) o (w.heads q)
        (subst (λ j. ChainHas registers (set link n (get_or head b 0)) j o) (get_or-set_other head b q n 0 (eqb-false q b t)) k)))

    new : (r : ℕ) → Found signature registers n link (get_or head (c % signature_chains) 0) c r → r < registers
        → Entered signature registers n c head link n (set head b n) (set link n (get_or head b 0))
    new r f l = record {
      least = more;
      most = omega arith;
      hit = λ z. absurd (omega arith);
      fresh = λ _ all k p h e. let (o, s, u, v) = all.has k p h in
          f.miss l o (subst (λ s. ChainHas registers link (get_or head (s % signature_chains) 0) o) e u) (v ∙ e);
      kept = λ z. absurd (omega arith);
      chains = record {
        head_long = simp length-set w.head_long;
        link_long = simp length-set w.link_long;
        heads = λ q. by_test (eqb q b)
            (λ t. let e : get_or (set head b n) q 0 ≡ n = ap (λ q. get_or (set head b n) q 0) (eqb-true q b t) ∙ headed in omega arith)
            (λ t. let e = get_or-set_other head b q n 0 (eqb-false q b t) in let h = w.heads q in omega arith);
        links = record {
          lower = λ i p. by_test (eqb i n)
              (λ t. let s = eqb-true i n t in
              let e : get_or (set link n (get_or head b 0)) i 0 ≡ get_or head b 0 = ap (λ i. get_or (set link n (get_or head b 0)) i 0) s ∙ linked in
              let h = w.heads b in omega arith)
              (λ t. let e = get_or-set_other link n i (get_or head b 0) 0 (eqb-false i n t) in let h = w.links.lower i p in omega arith);
        };
      };
      completes = λ signature' same e all. record {
        only = new_only signature' same e all;
        has = λ k p h. up_to (λ k. registers ≤ k
            → (o : ℕ) × (o ≤ k) × ChainHas registers (set link n (get_or head b 0)) (get_or (set head b n) (signature' k % signature_chains) 0) o
            × (signature' o ≡ signature' k))
            (λ k h p. let (o, s, u, v) = all.has k p h in (
              o,
              s,
              bucket (signature' k % signature_chains) o (subst (λ s. ChainHas registers link (get_or head (s % signature_chains) 0) o) (sym (same k h)) u),
              same o
                  (omega arith) ∙ v ∙ sym (same k h),
            ))
            (λ p. (
              n,
              omega arith,
              subst (λ j. ChainHas registers (set link n (get_or head b 0)) j n)
                  (sym (ap (λ s. get_or (set head b n) (s % signature_chains) 0) e ∙ ap (λ q. get_or (set head b n) q 0) (sym eb) ∙ headed)) (here more),
              refl,
            ))
            k h p;
      };
    }

    pub entered_new : (start r : ℕ) → start ≡ get_or head (c % signature_chains) 0 → Found signature registers n link start c r → r < registers
        → Entered signature registers n c head link n (set head b n) (set link n (get_or head b 0))
    entered_new start r e f l = new r (subst (λ s. Found signature registers n link s c r) e f) l
