-- What a reader of the output finds there (SPEC 10.7; document 01: "the execution as a packed trace, on fail its model after it").
use Rattle.std.specs.Prelude.{◌≡◌, List, ℕ, ◌≤◌, length, take, drop}
use Rattle.letters.specs.declared.Letter.{Letter}
use Rattle.letters.specs.Editions.{first_edition}
use Rattle.traces.specs.Reading.{trace, reading}
use Rattle.semantics.specs.Terms.{Trace, begin, extend, state}
use Rattle.semantics.specs.Models.{Feasible}
use Rattle.semantics.specs.Judgement.{size}
use Rattle.semantics.specs.TablesRead.{read_tables}
use Rattle.semantics.specs.ShownTables.{tables_of}
use Rattle.grammar.specs.Grammar.{Macro, header_of, expanded}
use Rattle.verdict_theory.specs.Verdict.{Kind, failing, Event, Shows}
use Rattle.report.specs.Shown.{model_start}

-- An answer that shows an event of the macro m, with so many pairs and letters, and the output afterwards.
pub record ReadsBack (m : Macro) (kind : Kind) (pairs letters : ℕ) (output' : List ℕ) : Type 0 where
  -- the first event's execution, with the count of pairs
  pub execution : List Letter
  pub shows : Shows Feasible (begin (header_of m)) (expanded m) kind pairs execution
  pub count : length execution ≡ letters
  -- "shorter first": every event has at least as many letters
  pub shortest : (π : Trace) → Event Feasible (begin (header_of m)) (expanded m) π → letters ≤ size π
  -- the front is read as that execution, under the macro's header
  pub trace_back : reading first_edition (take (model_start letters) output') ≡ trace (header_of m) execution
  -- on fail the bytes behind it are read as the tables of the shown model of that execution
  pub model_back : kind ≡ failing
      → read_tables first_edition (header_of m) (drop (model_start letters) output') ≡ tables_of (state (extend (begin (header_of m)) execution))
