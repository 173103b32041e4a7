-- What follows from the definitions of specs/Demand2.antt.
use mathlib.Core.Path.{◌≡◌, refl, sym, ◌∙◌, ap₂}
use Prim.Native.Nat.{ℕ}
use mathlib.Core.List.{List}
use Rattle.letters.specs.Answers.{Answer, value}
use Rattle.letters.specs.Editions.{first_edition}
use Rattle.traces.specs.Reading.{TraceReading, trace, reading}
use Rattle.semantics.specs.Terms.{trace_of}
use Rattle.semantics.proofs.Theory.JudgementLaws.{judgement_unique}
use Rattle.streaming.specs.Demand2.{Demand2}

-- One answer at most meets it.
pub demand_unique : (bytes : List ℕ) (a b : Answer (ℕ × ℕ)) → Demand2 bytes a → Demand2 bytes b → a ≡ b
demand_unique bytes a b p q = by (reading first_edition bytes) refl
  where
    by : (r : TraceReading) → reading first_edition bytes ≡ r → a ≡ b
    by (TraceReading.refused number place) e = p.refuses number place e ∙ sym (q.refuses number place e)
    by (trace h letters) e =
        let (i, j, s, f) = p.judges h letters e in
        let (k, l, t, g) = q.judges h letters e in
        let (u, v) = judgement_unique (trace_of h letters) i j k l s t in
        f ∙ ap₂ (λ (m n : ℕ). value (m, n)) u v ∙ sym g
