-- What follows from the definitions of specs/Listing.antt.
use mathlib.Core.Path.{◌≡◌, sym, ◌∙◌, ap, subst}
use mathlib.Core.Logic.{◌≢◌}
use mathlib.Core.List.{List}
use Prim.Native.Nat.{ℕ, ◌+◌, ◌≤◌, ◌<◌}
use native.Mathlib.Omega.{arith}
use native.Mathlib.Numerals.{add-one}
use lib.Dec.{eqb}
use lib.ListN.{length, get_or, set, length-set}
use lib.Seq.{get_or-set_same, get_or-set_other}
use borrow.Author.Tests.{eqb-true, eqb-false}
use Rattle.base.proofs.Theory.Choice.{by_test}
use Rattle.closure.specs.Limits.{signature_chains, most_terms}
use Rattle.semantics.specs.Terms.{State}
use Rattle.closure.specs.Arrays.{Below, Formed, IndexedTerms, signature_at}
use Rattle.closure.proofs.Theory.Entering.{chains_none, complete_none}
use Rattle.engine.specs.Engine.{Computed}
use Rattle.engine.specs.Run.{Blank}
use Rattle.model_writer.specs.Rows.{NewRow}
use Rattle.model_writer.proofs.Theory.Rows.{new_le}
use Rattle.model_writer.proofs.Theory.Meaning.{Listed, listed_none, listed_more, listed_all}
use Rattle.model_writer.specs.Listing.{Listable, ListedAll}

-- the same of the first i terms
pub formed_part : {representative function first second : List ℕ} {registers n : ℕ} (i : ℕ) → Formed representative function first second registers n
    → registers ≤ i → i ≤ n → Formed representative function first second registers i
unfolding Below
formed_part i f p h = record {
  some = f.some;
  more = p;
  within = let w = f.within in omega arith;
  long = f.long;
  classes = λ k l. let b = f.lowest k (omega arith) in omega arith;
  lowest = λ k l. f.lowest k (omega arith);
  own = λ k l. f.own k (omega arith);
  functions = λ k l. f.functions k (omega arith);
  firsts = λ k l. let b = f.first_before k (omega arith) in omega arith;
  seconds = λ k l. let b = f.second_before k (omega arith) in omega arith;
  first_before = λ k l. f.first_before k (omega arith);
  second_before = λ k l. f.second_before k (omega arith);
}

-- After the first i terms, r of them have rows: the first r entries of `rows`. The index has the i terms.
pub record ListedBelow (representative function first second : List ℕ) (registers n i : ℕ) (head link rows : List ℕ) (r : ℕ) : Type 0 where
  pub least : registers ≤ i
  pub most : i ≤ n
  pub few : r + registers ≤ i
  pub indexed : IndexedTerms representative function first second registers i head link
  pub room : length rows ≡ most_terms
  pub entries : (k : ℕ) → k < r → (registers ≤ get_or rows k 0) × (get_or rows k 0 < i)
  pub listed : (σ : State) (w : Computed σ function first second representative registers n)
      → Listed σ function first second representative registers n w rows r i

module _ {representative function first second : List ℕ} {registers n : ℕ} where
  pub listed_start : (head link rows : List ℕ) → Listable representative function first second registers n rows → length head ≡ signature_chains
      → ((b : ℕ) → get_or head b 0 ≡ 0) → Blank link
      → ListedBelow representative function first second registers n registers head link rows 0
  listed_start head link rows l h z b = record {
    least = omega arith;
    most = l.formed.more;
    few = omega arith;
    indexed = record {
      chains = chains_none head link registers h b.long z b.zero l.formed.some;
      complete =
          complete_none (signature_at representative function first second) registers head link z l.formed.some;
    };
    room = l.room;
    entries = λ k h. absurd (omega arith);
    listed = λ σ w. listed_none σ function first second representative registers n w rows;
  }

  pub listed_turn : (i r b : ℕ) (head link rows head' link' : List ℕ) → ListedBelow representative function first second registers n i head link rows r → i < n
      → n ≤ most_terms → NewRow representative function first second registers i head' link' b → (r' : ℕ) → r' ≡ r + b
      → ListedBelow representative function first second registers n (i + 1) head' link' (set rows r i) r'
  listed_turn i r b head link rows head' link' l h u new r' er = rw er (record {
    least = let a = l.least in omega arith;
    most = omega arith;
    few = let a = l.few in let c = new_le representative function first second registers i b new.is in omega arith;
    indexed = subst (λ k. IndexedTerms representative function first second registers k head' link') (sym (add-one i)) new.indexed;
    room = simp length-set l.room;
    entries = λ k q. by_test (eqb k r)
        (λ t. let e = eqb-true k r t in let a = l.least in
        let s : get_or (set rows r i) k 0 ≡ i = ap (λ k. get_or (set rows r i) k 0) e ∙ get_or-set_same rows r i 0 inside in (omega arith, omega arith))
        (λ t. let d : k ≢ r = eqb-false k r t in let c = new_le representative function first second registers i b new.is in
        let s = get_or-set_other rows r k i 0 d in let (a, o) = l.entries k (omega arith) in (omega arith, omega arith));
    listed = λ σ w. listed_more σ function first second representative registers n w i l.least h rows r b inside (l.listed σ w) new.is;
  })
    where
      inside : r < length rows
      inside = let a = l.few in let c = l.room in omega arith

  pub listed_end : (i r : ℕ) (head link rows : List ℕ) → ListedBelow representative function first second registers n i head link rows r → n ≤ i
      → ListedAll representative function first second registers n rows r
  listed_end i r head link rows l h = record {
    few = let a = l.few in let b = l.most in omega arith;
    room = l.room;
    entries = λ k q. let (a, b) = l.entries k q in let c = l.most in (a, omega arith);
    are = λ σ w. listed_all σ function first second representative registers n w rows r i l.most h (l.listed σ w);
  }
