-- Demand 2, sentence by sentence, after Demand1.antt.
use mathlib.Core.Path.{◌≡◌, refl, sym, ap, ◌∙◌}
use mathlib.Core.Logic.{◌↔◌}
use mathlib.Core.List.{List, ◌++◌}
use Prim.Native.Nat.{ℕ, suc, ◌≤◌}
use Rattle.letters.specs.declared.Header.{Header}
use Rattle.letters.specs.declared.Letter.{Letter}
use Rattle.letters.specs.declared.Letter.TheVariants.{Equal}
use Rattle.letters.specs.Answers.{Answer, value}
use Rattle.letters.specs.Editions.{first_edition}
use Rattle.letters.specs.Letters.{HeaderFits, arity}
use Rattle.letters.proofs.Theory.WordLaws.{first_roomy}
use Rattle.traces.specs.Reading.{trace, reading, letter_count}
use Rattle.traces.specs.Traces.{AllFit, packing, Bytes}
use Rattle.traces.proofs.Theory.TraceLaws.{reading_packing, packing_reading}
use Rattle.semantics.specs.Terms.{◌∈◌, Term, Trace, ◌▸◌, state, trace_of}
use Rattle.semantics.specs.Facts.{WellFormed}
use Rattle.semantics.specs.Closure.{Equivalent}
use Rattle.semantics.specs.Models.{Feasible}
use Rattle.semantics.specs.AnyModel.{FeasibleInSomeModel}
use Rattle.semantics.specs.Coherence.{Coherent}
use Rattle.semantics.specs.Strict.{StrictlyCoherent}
use Rattle.semantics.specs.Prefixes.{Begins}
use Rattle.semantics.specs.Judgement.{size, Judgement}
use Rattle.semantics.specs.FirstLetters.{incoherent_letter, infeasible_letter}
use Rattle.semantics.specs.Paper.{Congruent, CoherentModulo}
use Rattle.semantics.proofs.Theory.Facts.{state_valid}
use Rattle.semantics.proofs.Theory.JudgementLaws.{coherent_closed, judgement_is, judgement_unique}
use Rattle.semantics.proofs.Theory.PaperLaws.{feasible_anywhere, congruent_is, corollary_2_is, coherent_stricter, strict_one}
use Rattle.semantics.proofs.Theory.Examples.{repeated}
use Rattle.semantics.proofs.Theory.Witnesses.{early_slip, slip_stricter, repeated_coherent, repeated_by_definition_5}
use Rattle.streaming.specs.Demand2.{Demand2}
use Rattle.streaming.specs.Run.{last, capped_answer, run_answer}
use Rattle.streaming.specs.Stream.{empty_stream, finished_of, pushed_all, judged_bytes}
use Rattle.streaming.proofs.Theory.Demand2.{demand_unique}
use Rattle.streaming.proofs.Theory.StreamRight.{exact_of, demand_exact, answer_capped, demand_met, pushed_append, stream_answers}
use Rattle.grammar.proofs.Theory.Reading.{read_macro}
use Rattle.syntax.specs.declared.MacroRead.{MacroRead}
use Rattle.syntax.specs.Answer.{held_reading}
use Rattle.syntax.specs.Reads.{Reads}
use Rattle.syntax.proofs.Theory.Reads.{reads, reads_once}
use Rattle.search.specs.MacroExecutions.{Demand2Macros}
use Rattle.search.proofs.Theory.MacroExecutions.{macros_have_executions}
use Rattle.theorems.specs.Definition3.{Definition3}
use Rattle.theorems.specs.Stricter.{Stricter}
use Rattle.theorems.specs.Milder.{Definition5Changed}
use Rattle.theorems.proofs.Steps.Traces.{definition_3, first_exactly, infeasible_exactly, feasible_throughout, infeasible_before}
use Rattle.theorems.proofs.Steps.Traces.{strict_exactly, coherent_changed}

-- "For every trace the monitor names the first letter at which it stops being coherent, and before then the first at which it becomes infeasible,"
-- `Demand2 bytes answer` says this of the bytes of a trace: an answer that meets it has the two letters of the trace that is read, from 1, and 0 for none.
pub trace_is_judged : (bytes : List ℕ) (answer : Answer (ℕ × ℕ)) → Demand2 bytes answer → (h : Header) (letters : List Letter)
    → reading first_edition bytes ≡ trace h letters
    → (incoherent infeasible : ℕ) × Judgement (trace_of h letters) incoherent infeasible × (answer ≡ value (incoherent, infeasible))
trace_is_judged bytes answer met = met.judges

-- `Judgement ρ incoherent infeasible` says which letters of the trace ρ these are.
-- A beginning of ρ is coherent exactly if it ends before the incoherent letter;
pub incoherent_letter_is_the_first : (ρ : Trace) (k infeasible : ℕ) → Judgement ρ (suc k) infeasible → (π : Trace) → Begins π ρ → Coherent π ↔ (size π ≤ k)
incoherent_letter_is_the_first ρ k infeasible j = first_exactly Coherent coherent_closed ρ k j.coherence

-- where none is named, the whole trace is coherent;
pub coherent_if_none_is_named : (ρ : Trace) (infeasible : ℕ) → Judgement ρ 0 infeasible → Coherent ρ
coherent_if_none_is_named ρ infeasible j = j.coherence

-- a coherent beginning is feasible exactly if it ends before the infeasible letter;
pub infeasible_letter_is_the_first : (ρ : Trace) (incoherent k : ℕ) → Judgement ρ incoherent (suc k)
    → (π : Trace) → Begins π ρ → Coherent π → Feasible (state π) ↔ (size π ≤ k)
infeasible_letter_is_the_first = infeasible_exactly

-- where none is named, every coherent beginning is feasible;
pub feasible_if_none_is_named : (ρ : Trace) (incoherent : ℕ) → Judgement ρ incoherent 0 → (π : Trace) → Begins π ρ → Coherent π → Feasible (state π)
feasible_if_none_is_named = feasible_throughout

-- and the infeasible letter, if there is one, comes before the incoherent one.
pub infeasible_comes_before_incoherent : (ρ : Trace) → WellFormed ρ → (incoherent infeasible : ℕ) → Judgement ρ (suc incoherent) infeasible
    → infeasible ≤ incoherent
infeasible_comes_before_incoherent = infeasible_before

-- Each trace has both letters, and one of each.
pub both_letters_exist : (ρ : Trace) → WellFormed ρ → (incoherent : ℕ) × (infeasible : ℕ) × Judgement ρ incoherent infeasible
both_letters_exist ρ w = (incoherent_letter ρ, infeasible_letter ρ, judgement_is ρ w)

pub both_letters_are_unique : (ρ : Trace) (i j k l : ℕ) → Judgement ρ i j → Judgement ρ k l → (i ≡ k) × (j ≡ l)
both_letters_are_unique = judgement_unique

-- `streaming::byte_stream::judge_trace` answers `judged_bytes` and ensures `Demand2`. The numbers of letters have 64 bits, and a slice has never more.
pub monitor_meets_the_demand : (bytes : List ℕ) → letter_count first_edition bytes ≤ last → Demand2 bytes (run_answer (judged_bytes bytes))
monitor_meets_the_demand = demand_met

-- A stream may be longer. Then the last number of 64 bits stands for itself and for all greater ones.
pub monitor_beyond_64_bits : (bytes : List ℕ) (exact : Answer (ℕ × ℕ)) → Demand2 bytes exact → run_answer (judged_bytes bytes) ≡ capped_answer exact
monitor_beyond_64_bits bytes exact met =
    answer_capped bytes ∙ ap capped_answer (demand_unique bytes (exact_of (reading first_edition bytes)) exact (demand_exact bytes) met)

-- The bytes may come in parts of any lengths (`streaming::byte_stream::push_all`): what is answered at the end is the same.
pub monitor_in_parts : (first second : List ℕ) → finished_of (pushed_all (pushed_all empty_stream first) second) ≡ judged_bytes (first ++ second)
monitor_in_parts first second = ap finished_of (sym (pushed_append empty_stream first second)) ∙ stream_answers (first ++ second)

-- Every byte string has an answer, and one only.
pub some_answer_meets_it : (bytes : List ℕ) → (answer : Answer (ℕ × ℕ)) × Demand2 bytes answer
some_answer_meets_it bytes = (exact_of (reading first_edition bytes), demand_exact bytes)

pub one_answer_meets_it : (bytes : List ℕ) (a b : Answer (ℕ × ℕ)) → Demand2 bytes a → Demand2 bytes b → a ≡ b
one_answer_meets_it = demand_unique

-- "by Definitions 3 and 5 and Corollary 2 of the paper,"
-- Definition 3: the terms that are the values of the registers (specs/Definition3.antt).
pub values_are_those_of_definition_3 : Definition3 (λ ρ. (state ρ).value)
values_are_those_of_definition_3 = definition_3

-- A trace is feasible if some data model satisfies its tests. Document 01's models are finite; models of any values change nothing.
pub finite_and_any_models_alike {ℓ} : (ρ : Trace) → WellFormed ρ → Feasible (state ρ) ↔ FeasibleInSomeModel {ℓ} (state ρ)
finite_and_any_models_alike ρ w = feasible_anywhere (state ρ) (state_valid ρ w)

-- Corollary 2: it is feasible exactly if no unequal test joins two terms that the congruence of its equal tests joins.
pub corollary_2 : (ρ : Trace) → WellFormed ρ
    → Feasible (state ρ) ↔ (¬ ((s : Term) × (t : Term) × ((s, t) ∈ (state ρ).unequals) × Congruent (state ρ).equals s t))
corollary_2 ρ w = corollary_2_is (state ρ) (state_valid ρ w)

-- The paper's congruence goes over all terms. Between computed terms it is document 01's closure.
pub closure_is_the_congruence : (ρ : Trace) → WellFormed ρ → (s t : Term) → s ∈ (state ρ).terms → t ∈ (state ρ).terms
    → Congruent (state ρ).equals s t ↔ Equivalent (state ρ) s t
closure_is_the_congruence ρ w s t i j = congruent_is (state ρ) (state_valid ρ w) i j

-- "with document 01's stricter condition on equal tests." `CoherentModulo` is Definition 5; `Stricter` (specs/Stricter.antt) is the condition.
-- Together they are document 01's own rule, before request 3.
pub strict_coherence_is_definition_5_and_stricter : (ρ : Trace) → WellFormed ρ → StrictlyCoherent ρ ↔ (CoherentModulo ρ × Stricter ρ)
strict_coherence_is_definition_5_and_stricter = strict_exactly

-- With request 3 both are asked, letter by letter, unless the letter is an equal test of sides that are equal already (specs/Milder.antt).
pub coherence_is_definition_5_changed : (ρ : Trace) → WellFormed ρ → Coherent ρ ↔ Definition5Changed ρ
coherence_is_definition_5_changed = coherent_changed

-- Neither rule is within the other. Stricter: u:=f(x,w), v:=f(y,w), w:=x, x=y is coherent by Definition 5 and not here. Registers u v w x y are 0 to 4.
pub stricter_than_definition_5 : CoherentModulo (early_slip ▸ Equal 3 4) × ¬ Coherent (early_slip ▸ Equal 3 4)
stricter_than_definition_5 = slip_stricter

-- Milder: z:=f(x), z:=x, x=x is coherent here and not by Definition 5. Registers x y z are 0 1 2.
pub milder_than_definition_5 : Coherent (repeated ▸ Equal 0 0) × ¬ CoherentModulo (repeated ▸ Equal 0 0)
milder_than_definition_5 = (repeated_coherent, repeated_by_definition_5)

-- Where all functions take one argument, Definition 5 is document 01's own rule, so that request 3 alone makes a difference.
pub one_argument_is_definition_5 : (ρ : Trace) → WellFormed ρ → ((f : ℕ) → arity (state ρ).header f ≡ 1) → StrictlyCoherent ρ ↔ CoherentModulo ρ
one_argument_is_definition_5 ρ w one = (coherent_stricter ρ w, strict_one ρ w one)

-- "Macros are read by document 01's grammar and have exactly the executions of Definition 2."
-- `syntax::read` ensures `Reads`. What it answers is read by the grammar, and has as complete, failing and partial executions Definition 2's words.
pub macros_have_the_executions_of_definition_2 : (text : List ℕ) (answer : MacroRead) → Reads text answer → Demand2Macros text answer
macros_have_the_executions_of_definition_2 = macros_have_executions

-- Every text has such an answer, a macro or a refusal, and one only.
pub some_reading_meets_it : (text : List ℕ) → (answer : MacroRead) × Reads text answer
some_reading_meets_it text = (held_reading (read_macro text), reads text (held_reading (read_macro text)) refl)

pub one_reading_meets_it : (text : List ℕ) (a b : MacroRead) → Reads text a → Reads text b → a ≡ b
one_reading_meets_it = reads_once

-- "Packing a trace and reading it are inverse." (`traces::writer::write_trace` packs, `traces::read_trace` and `traces::letter_at` read.)
pub reading_a_packed_trace : (h : Header) (letters : List Letter) → HeaderFits first_edition h → AllFit h letters
    → reading first_edition (packing first_edition h letters) ≡ trace h letters
reading_a_packed_trace = reading_packing first_edition first_roomy

pub packing_a_read_trace : (bytes : List ℕ) (h : Header) (letters : List Letter) → Bytes bytes → reading first_edition bytes ≡ trace h letters
    → packing first_edition h letters ≡ bytes
packing_a_read_trace = packing_reading first_edition first_roomy
