-- Demand 3, sentence by sentence, after Demand1.antt and Demand2.antt.
use mathlib.Core.Path.{◌≡◌}
use mathlib.Core.Logic.{◌↔◌, ◌≢◌}
use mathlib.Core.List.{List, ◌++◌}
use Prim.Native.Nat.{ℕ, ◌≤◌, ◌<◌}
use lib.ListN.{length, drop, replicate}
use Rattle.letters.specs.declared.Letter.{Letter}
use Rattle.letters.specs.Editions.{first_edition}
use Rattle.semantics.specs.Terms.{Trace, begin, extend, state}
use Rattle.semantics.specs.Models.{Feasible}
use Rattle.semantics.specs.AnyModel.{AnyModel, SatisfiesIn, FeasibleInSomeModel}
use Rattle.semantics.specs.Coherence.{Coherent}
use Rattle.semantics.specs.Judgement.{size}
use Rattle.semantics.specs.Numbering.{ShownModel}
use Rattle.semantics.specs.ShownTables.{tables_of}
use Rattle.macros.specs.Executions.{Partial, Failing}
use Rattle.macros.specs.Order.{Path, Before}
use Rattle.macros.proofs.Theory.Order.{before_not}
use Rattle.grammar.specs.Grammar.{Macro, header_of, expanded}
use Rattle.grammar.proofs.Theory.Expanded.{expanded_fits}
use Rattle.refusals.specs.Accepted.{Accepted}
use Rattle.verdict_theory.specs.Count.{Counted}
use Rattle.verdict_theory.specs.Verdict.{VerdictAnswer, pass, full, unfit, IsPass, Kind, failing, showing, AnswerBytes, Delivered, Leaves, SamePair}
use Rattle.verdict_theory.specs.Verdict.{Event, FirstEvent, EventAt, PairCount, PairsPass, Shows}
use Rattle.verdict_theory.specs.Demand3.{pairs_in, Demand3}
use Rattle.verdict_theory.proofs.Theory.Counting.{one_count, more_is}
use Rattle.verdict_theory.specs.AnyPairs.{LeavesAny}
use Rattle.verdict_theory.proofs.Theory.CountedPairs.{counted_any}
use Rattle.verdict_theory.proofs.Theory.Readings.{anywhere, passes_anywhere}
use Rattle.verdict_theory.proofs.Theory.Settled.{one_way}
use Rattle.verdict_theory.proofs.Theory.Shortest.{first_shortest}
use Rattle.search.proofs.Theory.Answerable.{answerable}
use Rattle.verdict_lines.specs.Prints.{most_verdict_line_bytes, Says, PrintsVerdictLines}
use Rattle.verdict_lines.proofs.Theory.Answers.{event_model}
use Rattle.verdict_lines.proofs.Theory.PrintsLaws.{one_said, prints_all}
use Rattle.verdict_lines.specs.ReadsBack.{ReadsBack}
use Rattle.verdict_lines.proofs.Theory.ReadBack.{read_back}
use Rattle.theorems.proofs.Steps.Events.{one_shown, event_delivered, shown_counted, unfit_exactly}
use Rattle.theorems.proofs.Steps.Lines.{some_lines}

-- "One claim." `Demand3 Feasible text table output answer table' output'` is what `search::judge_macro` ensures: of any text, and any table and output
-- that are lent, with what they hold afterwards. It can always be met,
pub some_answer_meets_it : (text table output : List ℕ)
    → (answer : VerdictAnswer) × (table' : List ℕ) × (output' : List ℕ) × Demand3 Feasible text table output answer table' output'
some_answer_meets_it = answerable

-- and in one way: it settles the answer and every byte that is lent.
pub one_answer_meets_it : (text table output : List ℕ) (a b : VerdictAnswer) (table' table'' output' output'' : List ℕ)
    → Demand3 Feasible text table output a table' output' → Demand3 Feasible text table output b table'' output''
    → (a ≡ b) × (table' ≡ table'') × (output' ≡ output'')
one_answer_meets_it = one_way Feasible

-- Document 01's data models are finite. With models of any values, of any universe, it is the same claim.
pub finite_and_any_models_alike {ℓ} : (text table output : List ℕ) (answer : VerdictAnswer) (table' output' : List ℕ)
    → Demand3 Feasible text table output answer table' output' ↔ Demand3 (FeasibleInSomeModel {ℓ}) text table output answer table' output'
finite_and_any_models_alike = anywhere

-- "For every macro and whatever table and output are lent:" the macro m, of an accepted text. (Of a text that is refused: Demand1.)
module _ (text : List ℕ) (m : Macro) (accepted : Accepted text m) where
  -- The trace before its first letter.
  abbrev pub start : Trace
  start = begin (header_of m)

  module _ (table output : List ℕ) (answer : VerdictAnswer) (table' output' : List ℕ) (met : Demand3 Feasible text table output answer table' output') where
    -- "full exactly when the count of pairs passes the table;" `pairs_in first_edition table` is document 01's N.
    pub full_exactly : (answer ≡ full) ↔ PairsPass Feasible start (expanded m) (pairs_in first_edition table)
    full_exactly = (met.verdict m accepted).full_exactly

    -- "else pass exactly when every execution, broken off anywhere, after any number of turns, is coherent and no data model reaches a false assertion;"
    pub else_pass_exactly : answer ≢ full
        → IsPass answer ↔ (((ρ : Trace) → Partial start (expanded m) ρ → Coherent ρ) × ((ρ : Trace) → Failing start (expanded m) ρ → ¬ Feasible (state ρ)))
    else_pass_exactly = (met.verdict m accepted).pass_exactly

    -- "else the first event, with its execution and model, or 6 exactly where that does not fit;" There is a first event, it is answered, and its
    -- bytes stand in front of the output (`Delivered`);
    pub else_first_event : answer ≢ full → ¬ IsPass answer
        → (kind : Kind) × (k : ℕ) × (ls : List Letter) × (bytes : List ℕ) × Shows Feasible start (expanded m) kind k ls
        × AnswerBytes first_edition start kind ls bytes × Delivered bytes (showing kind k (length ls)) output answer output'
    else_first_event = (met.verdict m accepted).otherwise

    -- conversely, where there is a first event and the count of pairs does not pass the table, it is what is answered,
    pub first_event_is_answered : ¬ PairsPass Feasible start (expanded m) (pairs_in first_edition table) → (kind : Kind) (k : ℕ) (ls : List Letter)
        (bytes : List ℕ) → Shows Feasible start (expanded m) kind k ls → AnswerBytes first_edition start kind ls bytes
        → Delivered bytes (showing kind k (length ls)) output answer output'
    first_event_is_answered = event_delivered text m accepted table output answer table' output' met

    -- and 6 is answered exactly where its bytes do not fit.
    pub six_exactly : ¬ PairsPass Feasible start (expanded m) (pairs_in first_edition table) → (kind : Kind) (k : ℕ) (ls : List Letter) (bytes : List ℕ)
        → Shows Feasible start (expanded m) kind k ls → AnswerBytes first_edition start kind ls bytes → (answer ≡ unfit) ↔ (length output < length bytes)
    six_exactly few kind k ls bytes s q =
        unfit_exactly bytes output output' kind k (length ls) answer (first_event_is_answered few kind k ls bytes s q)

    -- "and the count of pairs is document 01's." On pass,
    pub pass_counts_pairs : (k : ℕ) → answer ≡ pass k → PairCount Feasible start (expanded m) k × (output' ≡ output)
    pass_counts_pairs = (met.verdict m accepted).pass_count

    -- and on fail and incoherent, with the number of letters of the first event (`Shows` has the count).
    pub event_counts_pairs : (kind : Kind) (k l : ℕ) → answer ≡ showing kind k l
        → (ls : List Letter) × Shows Feasible start (expanded m) kind k ls × (length ls ≡ l)
    event_counts_pairs = shown_counted text m accepted table output answer table' output' met

    -- After a search the table is zero.
    pub table_is_zeroed : table' ≡ replicate (length table) 0
    table_is_zeroed = met.zeroed m accepted

  -- On pass no data model of whatever values reaches a false assertion.
  pub pass_holds_in_every_model {ℓ} : (table output : List ℕ) (k : ℕ) (table' output' : List ℕ) → Demand3 Feasible text table output (pass k) table' output'
      → (ρ : Trace) → Failing start (expanded m) ρ → (M : AnyModel {ℓ}) → ¬ SatisfiesIn M (state ρ).equals (state ρ).unequals
  pass_holds_in_every_model table output k table' output' met = passes_anywhere text table output k table' output' met m accepted

  -- There is one first event at most, of one kind and with one count; and it is a shortest.
  pub first_event_is_one : (i j : Kind) (k l : ℕ) (ks ls : List Letter) → Shows Feasible start (expanded m) i k ks → Shows Feasible start (expanded m) j l ls
      → (i ≡ j) × (k ≡ l) × (ks ≡ ls)
  first_event_is_one = one_shown text m accepted

  pub first_event_is_shortest : (ρ : Trace) → FirstEvent Feasible start (expanded m) ρ → (π : Trace) → Event Feasible start (expanded m) π → size ρ ≤ size π
  first_event_is_shortest = first_shortest Feasible start (expanded m)

  -- On fail all tests of the execution hold in the model that its tables describe (`ShownModel`).
  pub model_satisfies_the_execution : (k : ℕ) (ls : List Letter) → Shows Feasible start (expanded m) failing k ls
      → ShownModel (state (extend start ls)) (tables_of (state (extend start ls)))
  model_satisfies_the_execution = event_model m accepted.in_order

  -- There is one count at most, and where there is one, it passes n if it is greater;
  pub count_is_one : (k l : ℕ) → PairCount Feasible start (expanded m) k → PairCount Feasible start (expanded m) l → k ≡ l
  count_is_one = one_count Before (Leaves start (expanded m)) (SamePair start (expanded m)) (EventAt Feasible start (expanded m)) before_not

  pub count_passes_exactly : (k n : ℕ) → PairCount Feasible start (expanded m) k → PairsPass Feasible start (expanded m) n ↔ (n < k)
  count_passes_exactly = more_is Before (Leaves start (expanded m)) (SamePair start (expanded m)) (EventAt Feasible start (expanded m)) before_not

  -- it is of the pairs that any partial executions leave, coherent or not.
  pub count_is_of_all_executions : (p : Path) → Counted Before (Leaves start (expanded m)) (SamePair start (expanded m)) (EventAt Feasible start (expanded m)) p
      ↔ Counted Before (LeavesAny start (expanded m)) (SamePair start (expanded m)) (EventAt Feasible start (expanded m)) p
  count_is_of_all_executions = counted_any Feasible (header_of m) (expanded m) (expanded_fits m accepted.in_order)

-- What is shown reads back from the output: the first event's execution and, on fail, the tables of its model (`ReadsBack`).
pub what_is_shown_reads_back : (text table output table' output' : List ℕ) (kind : Kind) (pairs letters : ℕ)
    → Demand3 Feasible text table output (showing kind pairs letters) table' output'
    → (m : Macro) × Accepted text m × ReadsBack m kind pairs letters output'
what_is_shown_reads_back = read_back

-- The program: `verdict_lines::write_lines` ensures `PrintsVerdictLines`, whose lines are those that `Says` asks for. Every text has such lines,
pub some_lines_are_printed : (text : List ℕ) → (lines : List ℕ) × Says text lines
some_lines_are_printed = some_lines

-- one way only to say it,
pub one_report_is_printed : (text a b : List ℕ) → Says text a → Says text b → a ≡ b
one_report_is_printed = one_said

-- and all of them are in a buffer as long as the program's.
pub all_lines_are_printed : (text entry : List ℕ) (count : ℕ) (exit : List ℕ) → (x : PrintsVerdictLines text entry count exit)
    → most_verdict_line_bytes ≤ length entry → (count ≡ length x.lines) × (exit ≡ x.lines ++ drop count entry)
all_lines_are_printed text entry count exit x = prints_all x
