-- The answer for an event, as the code gives it (SPEC 10.7, 11.3; document 01, question 6: "Answer fits the output?").
use Rattle.std.specs.Prelude.{◌≡◌, List, ℕ, ◌≤◌, length, drop, Result, Ok, Err}
use Rattle.letters.specs.declared.Header.{Header}
use Rattle.letters.specs.declared.Letter.{Letter}
use Rattle.letters.specs.Editions.{first_edition, most_letters}
use Rattle.letters.specs.Letters.{HeaderFits}
use Rattle.letters.specs.Reasons.{number_of}
use Rattle.letters.specs.declared.reasons.Refused.{Refused}
use Rattle.traces.specs.Traces.{AllFit, packing}
use Rattle.semantics.specs.Terms.{begin, trace_of, state}
use Rattle.semantics.specs.Facts.{WellFormed}
use Rattle.semantics.specs.Models.{Feasible}
use Rattle.verdict_theory.specs.Verdict.{VerdictAnswer, pass, fail, incoherent, refused, Kind, failing, showing, Delivered}
use Rattle.verdict_theory.specs.AnswerPacking.{packed}
use Rattle.search.specs.Tracing.{trace_bytes}
use Rattle.search.specs.declared.Packed.{Packed}
use Rattle.search.specs.declared.Verdict.{Verdict}
use Rattle.search.specs.declared.Verdict.TheVariants.{Pass, Fail, Incoherent}

-- What the Result says.
abbrev pub answer_of : Result Verdict Refused → VerdictAnswer
answer_of (Ok (Pass k)) = pass k
answer_of (Ok (Fail k l)) = fail k l
answer_of (Ok (Incoherent k l)) = incoherent k l
answer_of (Err r) = refused (number_of r.reason) r.place

-- The bytes from `start` on are the packed trace of the letters ls under the header h.
pub record Packs (p : Packed) (h : Header) (ls : List Letter) : Type 0 where
  pub bytes : drop p.start p.bytes ≡ packing first_edition h ls
  pub long : length p.bytes ≡ trace_bytes
  pub header : HeaderFits first_edition h
  pub fit : AllFit h ls
  pub few : length ls ≤ most_letters
  pub formed : WellFormed (trace_of h ls)

-- Whatever execution is packed, one that is feasible if it fails: the answer shows it as an event of this kind with so many pairs, or refuses it by 6.
abbrev pub Delivers : Kind → Packed → ℕ → List ℕ → Result Verdict Refused → List ℕ → Type 0
Delivers kind p count output r output' =
    (h : Header) (ls : List Letter) → Packs p h ls → (kind ≡ failing → Feasible (state (trace_of h ls)))
    → Delivered (packed first_edition (begin h) kind ls) (showing kind count (length ls)) output (answer_of r) output'
