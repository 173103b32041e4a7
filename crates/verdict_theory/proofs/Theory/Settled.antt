-- Demand 3 settles the answer and each lent byte: there is one way at most to meet it, and one way if a verdict exists.
use mathlib.Core.Path.{◌≡◌, refl, sym, ◌∙◌, subst}
use mathlib.Core.List.{List}
use Prim.Native.Nat.{ℕ}
use lib.ListN.{length, replicate}
use Rattle.letters.specs.Editions.{first_edition}
use Rattle.semantics.specs.Terms.{State, begin}
use Rattle.grammar.specs.Grammar.{Macro, header_of, expanded}
use Rattle.grammar.proofs.Theory.Expanded.{expanded_fits}
use Rattle.refusals.specs.Accepted.{Accepted}
use Rattle.refusals.proofs.Theory.Accepted.{Acceptance, Becomes, an_acceptance, accepted_once, refused_once, never_both}
use Rattle.refusals.proofs.Theory.Accepted as acceptance
use Rattle.verdict_theory.specs.Verdict.{VerdictAnswer, refused, IsVerdict}
use Rattle.verdict_theory.specs.Demand3.{pairs_in, Demand3}
use Rattle.verdict_theory.proofs.Theory.AnswerPacking.{failing_formed}
use Rattle.verdict_theory.proofs.Theory.Unique.{one_answer}
use Rattle.verdict_theory.proofs.Theory.RefusedWay as ways

-- Whatever is taken to be possible: `Feasible` and `FeasibleInSomeModel` alike.
module _ {ℓ} (Possible : State → Type ℓ) (text table output : List ℕ) where
  -- There is one answer at most, with one table and one output.
  pub one_way : (a b : VerdictAnswer) (table' table'' output' output'' : List ℕ) → Demand3 Possible text table output a table' output'
      → Demand3 Possible text table output b table'' output''
      → (a ≡ b) × (table' ≡ table'') × (output' ≡ output'')
  one_way a b t u o p x y = let (r, k) = an_acceptance text in go r k
    where
      go : (r : Acceptance) → Becomes text r → (a ≡ b) × (t ≡ u) × (o ≡ p)
      go (acceptance.refused n q) r =
          let (i, j, k) = x.unread n q r in
          let (i', j', k') = y.unread n q r in
          (i ∙ sym i', j ∙ sym j', k ∙ sym k')
      go (Acceptance.accepted m) r =
          let (i, k) = one_answer Possible (begin (header_of m)) (expanded m) first_edition
          (failing_formed (header_of m) (begin (header_of m)) (expanded m) (tt, refl) (expanded_fits m r.in_order)) (pairs_in first_edition table) output a b o p
          (x.verdict m r) (y.verdict m r) in
          (i, x.zeroed m r ∙ sym (y.zeroed m r), k)

  -- A text that is accepted as a macro, with a verdict on it.
  pub read_way : (m : Macro) → Accepted text m → (a : VerdictAnswer) (o : List ℕ)
      → IsVerdict Possible (begin (header_of m)) (expanded m) first_edition (pairs_in first_edition table) output a o
      → Demand3 Possible text table output a (replicate (length table) 0) o
  read_way m r a o w = record {
    unread = λ k l s. absurd (never_both text r s);
    verdict = λ k s.
        subst (λ z. IsVerdict Possible (begin (header_of z)) (expanded z) first_edition (pairs_in first_edition table) output a o) (accepted_once text r s) w;
    zeroed = λ k s. refl;
  }

  -- There is one, if there is a verdict on the macro where one is accepted.
  pub a_way : ((m : Macro) → Accepted text m
      → (a : VerdictAnswer) × (o : List ℕ) × IsVerdict Possible (begin (header_of m)) (expanded m) first_edition (pairs_in first_edition table) output a o)
      → (a : VerdictAnswer) × (table' : List ℕ) × (output' : List ℕ) × Demand3 Possible text table output a table' output'
  a_way v = let (r, k) = an_acceptance text in go r k
    where
      go : (r : Acceptance) → Becomes text r
          → (a : VerdictAnswer) × (table' : List ℕ) × (output' : List ℕ) × Demand3 Possible text table output a table' output'
      go (acceptance.refused n q) r = (refused n q, table, output, ways.refused_way Possible text table output n q r)
      go (Acceptance.accepted m) r = let (a, o, w) = v m r in (a, replicate (length table) 0, o, read_way m r a o w)
