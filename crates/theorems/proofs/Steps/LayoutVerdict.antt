-- Two texts that are accepted as macros with the same header and the same points: the claim of the one is that of the other, and so are the lines.
use mathlib.Core.Path.{◌≡◌, sym, subst, ◌∙◌}
use mathlib.Core.Logic.{◌↔◌}
use mathlib.Core.List.{List}
use Prim.Native.Nat.{ℕ}
use Rattle.letters.specs.Editions.{first_edition}
use Rattle.semantics.specs.Terms.{Trace, begin}
use Rattle.semantics.specs.Models.{Feasible}
use Rattle.macros.specs.Points.{size_block, points}
use Rattle.grammar.specs.Grammar.{Macro, header_of, expanded}
use Rattle.refusals.specs.Accepted.{Accepted}
use Rattle.refusals.proofs.Theory.Accepted.{accepted_once, never_both}
use Rattle.verdict_theory.specs.Verdict.{VerdictAnswer, breaking, failing, IsVerdict}
use Rattle.verdict_theory.specs.Demand3.{edition_of, pairs_in, Demand3}
use Rattle.report.specs.Lines.{Printed, report}
use Rattle.verdict_lines.specs.Prints.{table_pairs, declared_names, Told, Says}
use Rattle.theorems.proofs.Steps.SamePoints.{failing_same, partial_same, count_same, passing_same, shows_same, verdict_same}

-- ---- two texts

module _ (text text' : List ℕ) (m m' : Macro) (a : Accepted text m) (a' : Accepted text' m') (same_header : header_of m' ≡ header_of m)
    (same_points : points (expanded m') ≡ points (expanded m)) (same_size : size_block (expanded m') ≡ size_block (expanded m)) where
  abbrev start : Trace
  start = begin (header_of m)

  verdict_of : (table output : List ℕ) (answer : VerdictAnswer) (table' output' : List ℕ) → Demand3 Feasible text table output answer table' output'
      → IsVerdict Feasible (begin (header_of m')) (expanded m') first_edition (pairs_in first_edition table) output answer output'
  verdict_of table output answer table' output' d =
      subst (λ h. IsVerdict Feasible (begin h) (expanded m') first_edition (pairs_in first_edition table) output answer output') (sym same_header)
      (verdict_same (begin (header_of m)) (expanded m) (expanded m') same_points same_size Feasible first_edition (pairs_in first_edition table)
      output answer output' (d.verdict m a))

  -- the second text is not refused, and its macro is m' and no other
  demand_same : (table output : List ℕ) (answer : VerdictAnswer) (table' output' : List ℕ)
      → Demand3 Feasible text table output answer table' output' → Demand3 Feasible text' table output answer table' output'
  demand_same table output answer table' output' d = record {
    unread = λ n p r. absurd (never_both text' a' r);
    verdict = λ k c.
        subst (λ z. IsVerdict Feasible (begin (header_of z)) (expanded z) (edition_of z) (pairs_in (edition_of z) table) output answer output')
        (accepted_once text' a' c) (verdict_of table output answer table' output' d);
    zeroed = λ k c. d.zeroed m a;
  }

  told_same : (t : Printed) → Told m t → Told m' t
  unfolding Told
  told_same (Printed.pass k) (c, few, coherent, infeasible) = rw same_header (
    count_same start (expanded m) (expanded m') same_points same_size Feasible k c,
    few,
    λ ρ y. coherent ρ (partial_same start (expanded m') (expanded m) (sym same_points) (sym same_size) ρ y),
    λ ρ y. infeasible ρ (failing_same start (expanded m') (expanded m) (sym same_points) (sym same_size) ρ y),
  )
  told_same (Printed.incoherent k ls) (x, few) =
      rw same_header (shows_same start (expanded m) (expanded m') same_points same_size Feasible breaking k ls x, few)
  told_same (Printed.fail k ls t) (x, few, shown) =
      rw same_header (shows_same start (expanded m) (expanded m') same_points same_size Feasible failing k ls x, few, shown)
  told_same (Printed.refused n p) (u, v, x) = (u, v, rw same_header (passing_same start (expanded m) (expanded m') same_points same_size Feasible table_pairs x))

  -- if the names are printed alike too
  said_same : declared_names text' m' ≡ declared_names text m → (lines : List ℕ) → Says text lines → Says text' lines
  said_same same_names lines x = record {
    unread = λ n p r. absurd (never_both text' a' r);
    verdict = λ k c.
        let (t, y, e) = x.verdict m a in
        subst (λ z. (told : Printed) × Told z told × (lines ≡ report (declared_names text' z) (header_of z) told)) (accepted_once text' a' c)
        (t, told_same t y, e ∙ sym (λ i. report (same_names i) (same_header i) t));
  }

-- ---- both ways

module _ (text text' : List ℕ) (m m' : Macro) (a : Accepted text m) (a' : Accepted text' m') (same_header : header_of m' ≡ header_of m)
    (same_points : points (expanded m') ≡ points (expanded m)) (same_size : size_block (expanded m') ≡ size_block (expanded m)) where
  pub demand_both : (table output : List ℕ) (answer : VerdictAnswer) (table' output' : List ℕ)
      → Demand3 Feasible text table output answer table' output' ↔ Demand3 Feasible text' table output answer table' output'
  demand_both table output answer table' output' = (
    demand_same text text' m m' a a' same_header same_points same_size table output answer table' output',
    demand_same text' text m' m a' a (sym same_header) (sym same_points) (sym same_size) table output answer table' output',
  )

  pub said_both : declared_names text' m' ≡ declared_names text m → (lines : List ℕ) → Says text lines ↔ Says text' lines
  said_both e lines = (
    said_same text text' m m' a a' same_header same_points same_size e lines,
    said_same text' text m' m a' a (sym same_header) (sym same_points) (sym same_size) (sym e) lines,
  )
