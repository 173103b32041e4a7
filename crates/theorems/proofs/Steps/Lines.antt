-- There are lines for every text.
use mathlib.Core.Path.{◌≡◌, refl, ap, subst}
use mathlib.Core.Logic.{inl, inr, ◌≢◌}
use mathlib.Core.List.{List, [], ◌∷◌}
use Prim.Native.Nat.{ℕ, ◌≤◌}
use native.Mathlib.Omega.{arith}
use lib.ListN.{length, replicate, length-replicate}
use Rattle.letters.specs.declared.Letter.{Letter}
use Rattle.letters.specs.Editions.{first_edition}
use Rattle.letters.specs.Capacity.{capacity_of}
use Rattle.letters.specs.MacroRefusalNumbers.{table_too_small}
use Rattle.semantics.specs.Terms.{Trace, begin, state, extend}
use Rattle.semantics.specs.Models.{Feasible}
use Rattle.semantics.specs.ShownTables.{tables_of}
use Rattle.grammar.specs.Grammar.{Macro, header_of, expanded}
use Rattle.refusals.proofs.Theory.Accepted.{Acceptance, Becomes, an_acceptance, accepted_once, refused_once, never_both}
use Rattle.verdict_theory.specs.Verdict.{VerdictAnswer, pass, fail, incoherent, refused, IsPass, full, Kind, breaking, failing}
use Rattle.verdict_theory.specs.Verdict.{Shows, IsVerdict}
use Rattle.verdict_theory.specs.Demand3.{pairs_in}
use Rattle.search.proofs.Theory.Answerable.{answerable}
use Rattle.text.specs.Numerals.{numeral}
use Rattle.report.specs.Lines.{Printed, line, refused_word, at_word, report}
use Rattle.verdict_lines.specs.Prints.{table_bytes, table_pairs, answer_bytes, declared_names, Told, Says}
use Rattle.verdict_lines.proofs.Theory.Answers.{event_model, count_few, event_shown}
use Rattle.grammar.specs.Spelled.{InOrder}
use Rattle.grammar.specs.Limits.{most_points}
use Rattle.macros.specs.Points.{size_block}
use Rattle.theorems.proofs.Steps.Events.{refused_or}

-- an answer as it is printed, where the table holds 341 pairs
module _ (m : Macro) (a : InOrder m) (points : size_block (expanded m) ≤ most_points) (output : List ℕ) (room : length output ≡ answer_bytes) where
  abbrev start : Trace
  start = begin (header_of m)

  abbrev Right : VerdictAnswer → List ℕ → Type 0
  Right answer output' = IsVerdict Feasible start (expanded m) first_edition table_pairs output answer output'

  told_kind : (kind : Kind) (k : ℕ) (ls : List Letter) → Shows Feasible start (expanded m) kind k ls → k ≤ table_pairs → (told : Printed) × Told m told
  unfolding Told
  told_kind breaking k ls s l = (Printed.incoherent k ls, (s, l))
  told_kind failing k ls s l = (Printed.fail k ls (tables_of (state (extend start ls))), (s, l, event_model m a k ls s))

  told_event : (answer : VerdictAnswer) (output' : List ℕ) → Right answer output' → answer ≢ full → ¬ IsPass answer → (told : Printed) × Told m told
  told_event answer output' v u w =
      let e = event_shown m a points output room answer output' v u w in
      told_kind e.kind e.pairs e.letters e.shows e.pairs_few

  told : (answer : VerdictAnswer) (output' : List ℕ) → Right answer output' → (told : Printed) × Told m told
  unfolding Told
  told (pass k) o v =
      let u : pass k ≢ full = λ e. let z : ◌≡◌ {A = ℕ} 0 1 = cc in omega arith in
      let (c, e) = v.pass_count k refl in
      let (p, q) = (v.pass_exactly u).0 tt in
      (Printed.pass k, (c, count_few m a table_pairs k c (λ f. u (v.full_exactly.1 f)), p, q))
  told (fail k l) o v = told_event (fail k l) o v (λ e. let z : ◌≡◌ {A = ℕ} 0 1 = cc in omega arith) (λ w. w)
  told (incoherent k l) o v = told_event (incoherent k l) o v (λ e. let z : ◌≡◌ {A = ℕ} 0 1 = cc in omega arith) (λ w. w)
  told (refused n p) o v = elim (refused_or n p) [
    | inl e ↦ (Printed.refused table_too_small 0, (refl, refl, v.full_exactly.0 e))
    | inr u ↦ told_event (refused n p) o v u (λ w. w)
  ]

lines_with : (text table output : List ℕ) → length table ≡ table_bytes → length output ≡ answer_bytes → (lines : List ℕ) × Says text lines
unfolding capacity_of
lines_with text table output size room = let (r, k) = an_acceptance text in go r k
  where
    go : (r : Acceptance) → Becomes text r → (lines : List ℕ) × Says text lines
    go (Acceptance.refused n p) r = (
      line (refused_word ∷ numeral n ∷ at_word ∷ numeral p ∷ []),
      record {
        unread = λ k q s. let (i, j) = refused_once text r s in λ h. line (refused_word ∷ numeral (i h) ∷ at_word ∷ numeral (j h) ∷ []);
        verdict = λ m s. absurd (never_both text s r);
      },
    )
    go (Acceptance.accepted m) r =
        let (answer, table', output', d) = answerable text table output in
        let pairs : pairs_in first_edition table ≡ table_pairs = ap (capacity_of first_edition) size in
        let v = subst (λ n. IsVerdict Feasible (begin (header_of m)) (expanded m) first_edition n output answer output') pairs (d.verdict m r) in
        let (t, x) = told m r.in_order r.few output room answer output' v in (
          report (declared_names text m) (header_of m) t,
          record {
            unread = λ k q s. absurd (never_both text r s);
            verdict = λ k s.
                subst (λ z. (told : Printed) × Told z told × (report (declared_names text m) (header_of m) t ≡ report (declared_names text z) (header_of z) told))
                (accepted_once text r s) (t, x, refl);
          },
        )

pub some_lines : (text : List ℕ) → (lines : List ℕ) × Says text lines
some_lines text = lines_with text (replicate table_bytes 0) (replicate answer_bytes 0) (length-replicate {A = ℕ} table_bytes 0)
    (length-replicate {A = ℕ} answer_bytes 0)
