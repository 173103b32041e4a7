-- What follows from the definitions of specs/Rows.antt.
use mathlib.Core.Path.{◌≡◌, refl, sym, ◌∙◌}
use mathlib.Core.Logic.{◌≢◌}
use mathlib.Core.Bool.{cond}
use mathlib.Core.List.{List}
use lib.Dec.{eqb}
use borrow.Author.Tests.{eqb-true, eqb-false}
use Rattle.base.proofs.Theory.Choice.{by_test}
use Prim.Native.Nat.{ℕ, suc, ◌≤◌, ◌<◌}
use native.Mathlib.Omega.{arith}
use Rattle.letters.specs.Editions.{most_functions}
use Rattle.closure.specs.Limits.{most_terms}
use Rattle.closure.specs.Index.{Entered}
use Rattle.closure.specs.Arrays.{entry_at, Formed, IndexedTerms, Argument, signature_at}
use Rattle.closure.proofs.Theory.Entering.{readable, readable_at}
use Rattle.closure.proofs.Theory.Propagation.{same_signature}
use Rattle.model_writer.specs.Rows.{Alike, New, new, old, NewRow}

pub new_le : (representative function first second : List ℕ) (registers i b : ℕ) → New representative function first second registers i b → b ≤ 1
new_le representative function first second registers i b (new none) = omega arith
new_le representative function first second registers i b (old m p h a) = omega arith

-- as `new_row` finds it
module _ (representative function first second : List ℕ) (registers i : ℕ) (fm : Formed representative function first second registers (suc i))
    (least : registers ≤ i) (head link : List ℕ) (index : IndexedTerms representative function first second registers i head link) where
  pub row_readable : (i < most_terms) × (entry_at function i < most_functions) × Argument representative (entry_at first i)
      × Argument representative (entry_at second i)
  row_readable = readable_at i (readable (suc i) fm fm.more (omega arith)) (omega arith)

  module _ (c r : ℕ) (e : c ≡ signature_at representative function first second i) (head' link' : List ℕ)
      (w : Entered (signature_at representative function first second) registers i c head link r head' link') where
    indexed_next : IndexedTerms representative function first second registers (suc i) head' link'
    indexed_next = record {
      chains = w.chains;
      complete =
          w.completes (signature_at representative function first second) (λ k l. refl) (sym e) index.complete;
    }

    as_signature : (m : ℕ) → Alike representative function first second m i → signature_at representative function first second m ≡ c
    unfolding signature_at
    as_signature m a = rw (a.functions, a.firsts, a.seconds) (sym e)

    new_hit : r ≡ i → NewRow representative function first second registers i head' link' 1
    new_hit q = record { is = new (λ m p h a. w.fresh q index.complete m p h (as_signature m a)); indexed = indexed_next }

    new_miss : r ≢ i → NewRow representative function first second registers i head' link' 0
    new_miss d = let m = w.most in let h : r < i = omega arith in
        let (u, v, z) = same_signature function first second registers (suc i) representative r i fm (omega arith) (omega arith) (w.hit h ∙ e) in
        record { is = old r w.least h (record { functions = u; firsts = v; seconds = z }); indexed = indexed_next }

    pub new_row_is : NewRow representative function first second registers i head' link' (cond (eqb r i) 1 0)
    new_row_is = by_test (eqb r i) (λ t. rw t (new_hit (eqb-true r i t))) (λ t. rw t (new_miss (eqb-false r i t)))
