-- Demand 1, sentence by sentence. Demand2.antt and Demand3.antt are read next. A comment has a sentence of the demand, and the theorem under it says it.
-- What document 01 is: docs/TRUST.md.
--
-- "No input, trace or macro, makes the checker index outside a buffer, lose bits or run on without end."
-- There is no theorem for this sentence: it is what `rt` accepts a function for. Of each function of each crate it is proved, before its contract
-- is, that it indexes inside its buffers, that no arithmetic loses bits, and that every loop and recursion ends, for all values that it may be given.
--
-- "Nothing malformed is judged: it is refused under document 01's number and place, and the output buffer stays as lent."
-- Below it is said of the verdict on a text, of the run over a trace and of the shown model. Of the macro reader alone `Reads` says it
-- (syntax/specs/Reads.antt), of the trace writer and reader `Writes` and `ReadsTrace` (exports/specs/TraceCalls.antt), of a monitor's start and letter
-- `StartsMonitor` and `StepsMonitor` (exports/specs/MonitorCalls.antt).
use mathlib.Core.Path.{◌≡◌, refl, ap, ◌∙◌, subst}
use mathlib.Core.Logic.{◌⊎◌, inl, inr}
use mathlib.Core.List.{List}
use Prim.Native.Nat.{ℕ, ◌≤◌}
use lib.ListN.{length}
use Rattle.letters.specs.declared.Header.{Header}
use Rattle.letters.specs.declared.Letter.{Letter}
use Rattle.letters.specs.Answers.{Answer, refusal}
use Rattle.letters.specs.Editions.{first_edition, most_letters}
use Rattle.letters.specs.Letters.{HeaderFits}
use Rattle.letters.proofs.Theory.WordLaws.{first_roomy}
use Rattle.traces.specs.Reading.{TraceReading, trace, reading}
use Rattle.traces.specs.ReadingParts.{reading_within}
use Rattle.traces.specs.Traces.{AllFit, packing}
use Rattle.traces.proofs.Theory.TraceLaws.{reading_fits, refused_packing}
use Rattle.semantics.specs.Models.{Feasible}
use Rattle.streaming.specs.Demand2.{Demand2}
use Rattle.model_writer.specs.Answer.{ShowResult, ModelAnswer, shown_answer, answer_to, output_after, Means, Showed}
use Rattle.grammar.specs.Grammar.{Macro}
use Rattle.refusals.specs.Order.{Refusal}
use Rattle.refusals.specs.Accepted.{Accepted}
use Rattle.refusals.proofs.Theory.Order.{refusal_number}
use Rattle.refusals.proofs.Theory.Accepted.{Acceptance, Becomes, an_acceptance}
use Rattle.refusals.proofs.Theory.Accepted as acceptance
use Rattle.verdict_theory.specs.Verdict.{VerdictAnswer, refused}
use Rattle.verdict_theory.specs.Demand3.{Demand3}
use Rattle.theorems.proofs.Steps.Events.{refused_output}

-- ── macros ──
-- `Accepted text m`: the text is that of the macro m, by document 01's grammar and limits. `Refusal text number place`: its questions, asked in their
-- order, refuse the text so. Neither mentions the reader. Every text is accepted or refused;
pub accepted_or_refused : (text : List ℕ) → ((m : Macro) × Accepted text m) ⊎ ((number : ℕ) × (place : ℕ) × Refusal text number place)
accepted_or_refused text = let (o, x) = an_acceptance text in go o x
  where
    go : (o : Acceptance) → Becomes text o → ((m : Macro) × Accepted text m) ⊎ ((number : ℕ) × (place : ℕ) × Refusal text number place)
    go (Acceptance.accepted m) x = inl (m, x)
    go (Acceptance.refused number place) x = inr (number, place, x)

-- never both;
pub never_accepted_and_refused : (text : List ℕ) (m : Macro) (number place : ℕ) → Accepted text m → ¬ Refusal text number place
never_accepted_and_refused text m number place x y = acceptance.never_both text x y

-- as one macro,
pub accepted_as_one_macro : (text : List ℕ) (m k : Macro) → Accepted text m → Accepted text k → m ≡ k
accepted_as_one_macro text m k x y = acceptance.accepted_once text x y

-- or by one number at one place,
pub refused_once : (text : List ℕ) (n p k q : ℕ) → Refusal text n p → Refusal text k q → (n ≡ k) × (p ≡ q)
refused_once text n p k q x y = acceptance.refused_once text x y

-- and the number is one of document 01's for texts, or document 02's 16.
pub refused_by_7_to_13_or_16 : (text : List ℕ) (number place : ℕ) → Refusal text number place → (7 ≤ number) × ((number ≤ 13) ⊎ (number ≡ 16))
refused_by_7_to_13_or_16 text number place x = refusal_number number place x

-- `search::judge_macro` ensures `Demand3`. A text that is refused is answered by that refusal, and table and output stay as lent.
pub refused_text_is_not_judged : (text table output : List ℕ) (answer : VerdictAnswer) (table' output' : List ℕ)
    → Demand3 Feasible text table output answer table' output' → (number place : ℕ) → Refusal text number place
    → (answer ≡ refused number place) × (table' ≡ table) × (output' ≡ output)
refused_text_is_not_judged text table output answer table' output' met = met.unread

-- So does the output on every other refusal, a full table (14) or an output that is too small (6).
pub refusal_leaves_output : (text table output : List ℕ) (number place : ℕ) (table' output' : List ℕ)
    → Demand3 Feasible text table output (refused number place) table' output' → output' ≡ output
refusal_leaves_output = refused_output

-- ── traces ──
-- `reading` asks document 01's questions of the bytes of a trace, in their order: they are read as a trace, or refused, and as a function's value never both.
pub trace_is_read_or_refused : (bytes : List ℕ) → ((h : Header) × (letters : List Letter) × (reading first_edition bytes ≡ trace h letters))
    ⊎ ((number : ℕ) × (place : ℕ) × (reading first_edition bytes ≡ TraceReading.refused number place))
trace_is_read_or_refused bytes = go (reading first_edition bytes) refl
  where
    go : (r : TraceReading) → reading first_edition bytes ≡ r → ((h : Header) × (letters : List Letter) × (reading first_edition bytes ≡ trace h letters))
        ⊎ ((number : ℕ) × (place : ℕ) × (reading first_edition bytes ≡ TraceReading.refused number place))
    go (trace h letters) e = inl (h, letters, e)
    go (TraceReading.refused number place) e = inr (number, place, e)

-- What is read is well formed,
pub trace_that_is_read_is_well_formed : (bytes : List ℕ) (h : Header) (letters : List Letter) → reading first_edition bytes ≡ trace h letters
    → HeaderFits first_edition h × AllFit h letters
trace_that_is_read_is_well_formed = reading_fits first_edition first_roomy

-- and what is refused is the packing of no well-formed trace.
pub trace_that_is_refused_is_malformed : (bytes : List ℕ) (number place : ℕ) → reading first_edition bytes ≡ TraceReading.refused number place
    → (h : Header) (letters : List Letter) → HeaderFits first_edition h → AllFit h letters → ¬ (packing first_edition h letters ≡ bytes)
trace_that_is_refused_is_malformed = refused_packing first_edition first_roomy

-- `streaming::byte_stream::judge_trace` ensures `Demand2`. A trace that is refused is answered by that refusal. (The monitor writes no output.)
pub refused_trace_is_not_judged : (bytes : List ℕ) (answer : Answer (ℕ × ℕ)) → Demand2 bytes answer
    → (number place : ℕ) → reading first_edition bytes ≡ TraceReading.refused number place → answer ≡ refusal number place
refused_trace_is_not_judged bytes answer met = met.refuses

-- `model_writer::show` ensures `Showed`. A trace that is refused, also for having more than 1,024 letters, is answered so, and the output stays.
pub refused_trace_has_no_model : (bytes output : List ℕ) (answer : ShowResult) (output' : List ℕ) → Showed bytes output answer output'
    → (number place : ℕ) → reading_within most_letters first_edition bytes ≡ TraceReading.refused number place
    → (shown_answer answer ≡ ModelAnswer.refusal number place) × (output' ≡ output)
unfolding answer_to output_after
refused_trace_has_no_model bytes output answer output' met number place e =
    (met.answer ∙ ap (λ r. answer_to r (length output)) e, met.output ∙ ap (λ r. output_after r output) e)

-- So does it on every refusal of `show`, also that by 6.
pub refused_model_leaves_output : (bytes output : List ℕ) (answer : ShowResult) (output' : List ℕ) → Showed bytes output answer output'
    → (number place : ℕ) → shown_answer answer ≡ ModelAnswer.refusal number place → output' ≡ output
refused_model_leaves_output bytes output answer output' met number place e = (subst (λ a. Means bytes output a output') e met.means).1
