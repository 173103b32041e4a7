-- Request 4, tests with names: "As source document 000 models relations, such a test applies a function into the hidden register `result` and compares
-- that with the hidden register `truth` .. A macro's executions are those of this expansion, so a verdict covers every meaning that a test could have."
use mathlib.Core.Path.{◌≡◌, refl, ◌∙◌}
use mathlib.Core.Logic.{◌↔◌, ◌≢◌}
use mathlib.Core.Bool.{false}
use mathlib.Core.List.{List, [], ◌∷◌, ◌++◌}
use Prim.Native.Nat.{ℕ, suc, ◌+◌, ◌≤◌, ◌<◌}
use native.Mathlib.Omega.{arith}
use native.Mathlib.Nat.{add-zero}
use lib.ListN.{length, get_or, length-append}
use borrow.Author.Tests.{lt-ltb, le-ltb}
use Rattle.letters.specs.declared.Header.{Header}
use Rattle.letters.specs.declared.Letter.{Letter}
use Rattle.letters.specs.declared.Letter.TheVariants.{Apply}
use Rattle.letters.specs.Editions.{most_registers, most_functions}
use Rattle.semantics.specs.Coherence.{Coherent}
use Rattle.tokens.specs.Words.{is_name}
use Rattle.tokens.specs.Words as word
use Rattle.macros.specs.Plain as plain
use Rattle.macros.specs.Tree.{perform, ◌then◌}
use Rattle.macros.specs.Tree as macro
use Rattle.macros.specs.WrittenOut.{statement_before, block_before, written_out}
use Rattle.macros.specs.Points.{size_statement, size_else, size_block, entry, compile, compile_block, step, fork}
use Rattle.grammar.specs.Limits.{hidden_registers}
use Rattle.grammar.specs.Tree.{holds, fails, assume, assert, if, while, Else, Block}
use Rattle.grammar.specs.Expanded.{expanded_statement, expanded_else, expanded_block}
use Rattle.refusals.specs.Accepted.{Accepted}
use Rattle.verdict_theory.specs.Verdict.{VerdictAnswer, full, IsPass, failing, Event, breaks, Shows}
use Rattle.verdict_theory.specs.Verdict as verdict
use Rattle.verdict_theory.specs.Demand3.{Demand3}
use Rattle.semantics.specs.Terms.{Trace, begin, ◌▸◌, extend, state}
use Rattle.semantics.specs.Facts.{WellFormed}
use Rattle.semantics.specs.Models.{Model, Satisfies, Feasible}
use Rattle.semantics.specs.AnyModel.{AnyModel, SatisfiesIn}
use Rattle.semantics.proofs.Theory.PaperLaws.{numbers}
use Rattle.macros.specs.Executions.{Outcome, failed, ExecBlock, Partial, Failing, whole}
use Rattle.macros.proofs.Theory.WrittenOut.{in_tree_block, written_in_tree}
use Rattle.macros.proofs.Theory.Executions.{block_begins}
use Rattle.macros.proofs.Theory.Fitting.{partial_formed}
use Rattle.grammar.specs.Grammar.{Macro, header, header_of, shown_registers, expanded}
use Rattle.grammar.specs.Spelled.{InOrder}
use Rattle.grammar.proofs.Theory.Expanded.{expanded_fits, expanded_plain, hidden_named}
use Rattle.grammar.specs.Meanings.{Meaning, Values, RunsBlock, ReachesFalseAssertion}
use Rattle.grammar.specs.MeaningOfTraces.{AllHold}
use Rattle.grammar.proofs.Theory.Meanings.{runs_exactly}
use Rattle.theorems.specs.Relations.{FeasibleWithRelations, RightSorts, ModelsRelations, as_functions, as_relations}
use Rattle.theorems.proofs.Steps.RelationalModels.{hold_alike, functions_model, relations_model, as-functions, as-relations, feasible_alike}
use Rattle.theorems.proofs.Steps.ExpandedSorts.{expanded_sorts}

-- "the three words leave the names, and `!` becomes a token": it is no name either.
pub three_words_are_no_names : (is_name word.tests_key ≡ false) × (is_name word.result_key ≡ false) × (is_name word.truth_key ≡ false)
three_words_are_no_names = (refl, refl, refl)

pub negation_is_no_name : is_name word.not_key ≡ false
negation_is_no_name = refl

-- "Functions and tests together are at most four." Each name is declared once over all lines, and where a test is declared there is room for the hidden
-- registers ("16, at the word `tests`, when more than six registers were declared").
pub four_functions_and_tests : (text : List ℕ) (m : Macro) → Accepted text m → length m.functions ≤ most_functions
four_functions_and_tests text m accepted = accepted.in_order.fewer

pub room_for_hidden_registers : (text : List ℕ) (m : Macro) → Accepted text m → m.first_test < length m.functions
    → (length m.registers + hidden_registers ≤ most_registers) × ((header_of m).registers ≡ length m.registers + hidden_registers)
room_for_hidden_registers text m accepted l = (
  accepted.in_order.room l,
  rw (lt-ltb m.first_test (length m.functions) l) (length-append m.registers (word.result_key ∷ word.truth_key ∷ [])),
)

-- "With that line the hidden registers follow the declared ones, `result` first, and tests follow the functions." Without it there are none.
pub hidden_registers_follow : (m : Macro) → m.first_test < length m.functions
    → (get_or (shown_registers m) (length m.register_spellings) 0 ≡ word.result_key)
    × (get_or (shown_registers m) (suc (length m.register_spellings)) 0 ≡ word.truth_key)
hidden_registers_follow m l = hidden_named m.register_spellings m.first_test (length m.functions) l

pub without_tests_none_are_hidden : (m : Macro) → m.first_test ≡ length m.functions → (header_of m).registers ≡ length m.registers
without_tests_none_are_hidden m e =
    rw (le-ltb m.first_test (length m.functions) (omega arith)) (length-append m.registers [] ∙ add-zero (length m.registers))

-- A macro without them performs what it performed: written out it is the tree of its own statements, to which Definition 2 applies as it stands.
pub without_tests_its_own_statements : (m : Macro) → InOrder m → m.first_test ≡ length m.functions → in_tree_block (written_out (expanded m)) ≡ expanded m
without_tests_its_own_statements m in_order e =
    written_in_tree (expanded m)
    (expanded_plain (header m.registers m.functions m.arities) m.first_test (omega arith) m.body in_order.uses)

-- "such a test applies a function into the hidden register `result` and compares that with the hidden register `truth`"; `!` asks for the opposite.
-- A condition c of a macro with n declared registers, and its statement: the application, and then the statement with the comparison.
module _ (n f y z : ℕ) where
  abbrev applied : Letter
  applied = Apply n f y z

  abbrev held : macro.Condition
  held = macro.equal n (suc n)

  abbrev failed_to_hold : macro.Condition
  failed_to_hold = macro.unequal n (suc n)

  pub assume_applies_and_compares : expanded_statement n (assume (holds f y z)) ≡ perform applied then perform (macro.test held) then macro.empty
  unfolding expanded_statement
  assume_applies_and_compares = refl

  pub assume_of_the_opposite : expanded_statement n (assume (fails f y z)) ≡ perform applied then perform (macro.test failed_to_hold) then macro.empty
  unfolding expanded_statement
  assume_of_the_opposite = refl

  pub assert_applies_and_compares : expanded_statement n (assert (holds f y z)) ≡ perform applied then macro.assert held then macro.empty
  unfolding expanded_statement
  assert_applies_and_compares = refl

  pub if_applies_and_compares : (b : Block) (e : Else)
      → expanded_statement n (if (holds f y z) b e) ≡ perform applied then macro.if held (expanded_block n b) (expanded_else n e) then macro.empty
  unfolding expanded_statement
  if_applies_and_compares b e = refl

  -- A while applies before each of its tests: written out it is the application and a loop whose body ends with the application.
  pub while_applies_before_each_test : (b : Block)
      → written_out (expanded_statement n (while (holds f y z) b))
      ≡ plain.◌then◌ (plain.perform applied)
      (plain.◌then◌ (plain.while held (block_before (expanded_block n b) (plain.◌then◌ (plain.perform applied) plain.empty))) plain.empty)
  unfolding expanded_statement statement_before
  while_applies_before_each_test b = refl

  -- "Each named test is two points, a while returning to the first": the body of the while is followed by point k, the application.
  pub while_returns_to_the_first : (b : Block) (k follow : ℕ)
      → compile_block (expanded_statement n (while (holds f y z) b)) k follow
      ≡ step applied (k + 1) ∷ fork held (entry (size_block (expanded_block n b)) (k + 2) k) follow ∷ (compile_block (expanded_block n b) (k + 2) k ++ [])
  unfolding expanded_statement compile entry size_statement
  while_returns_to_the_first b k follow = refl

  -- and so of the others: two points, and those of the blocks.
  pub assume_is_two_points : size_block (expanded_statement n (assume (holds f y z))) ≡ 2
  unfolding expanded_statement size_statement
  assume_is_two_points = refl

  pub assert_is_two_points : size_block (expanded_statement n (assert (holds f y z))) ≡ 2
  unfolding expanded_statement size_statement
  assert_is_two_points = refl

  pub while_is_two_points : (b : Block) → size_block (expanded_statement n (while (holds f y z) b)) ≡ suc (suc (size_block (expanded_block n b)))
  unfolding expanded_statement size_statement
  while_is_two_points b = omega arith

  pub if_is_two_points : (b : Block) (e : Else)
      → size_block (expanded_statement n (if (holds f y z) b e)) ≡ suc (suc (size_block (expanded_block n b) + size_else (expanded_else n e)))
  unfolding expanded_statement size_statement
  if_is_two_points b e = omega arith

-- "As source document 000 models relations": each meaning of the tests as relations has a data model in which functions stand for them,
pub a_meaning_has_a_data_model {ℓ} : (n t : ℕ) (R : Meaning {ℓ}) → ModelsRelations n t R (as_functions n t R)
a_meaning_has_a_data_model = functions_model

-- and each data model is that of a meaning (`numbers` puts the finite models among all models).
pub a_data_model_has_a_meaning {ℓ} : (n t : ℕ) (M : Model) → ModelsRelations n t (as_relations {ℓ} n M) (numbers {ℓ} M)
a_data_model_has_a_meaning = relations_model

-- Of every trace of letters as macros perform them: whatever models the relations satisfies the tests exactly if they hold with the relations,
module _ (n t : ℕ) (τ : Trace) (sorts : RightSorts n t τ) where
  pub tests_hold_exactly {ℓ} : (R : Meaning {ℓ}) (A : AnyModel {ℓ}) → ModelsRelations n t R A
      → AllHold n R τ ↔ SatisfiesIn A (state τ).equals (state τ).unequals
  tests_hold_exactly R A c = hold_alike n t R A c τ sorts

  -- so relations as functions, and functions as relations;
  pub with_relations_exactly_as_functions {ℓ} : (R : Meaning {ℓ})
      → AllHold n R τ ↔ SatisfiesIn (as_functions n t R) (state τ).equals (state τ).unequals
  with_relations_exactly_as_functions R = as-functions n t τ sorts R

  pub with_functions_exactly_as_relations {ℓ} : (M : Model) → Satisfies M (state τ).equals (state τ).unequals ↔ AllHold n (as_relations {ℓ} n M) τ
  with_functions_exactly_as_relations M = as-relations {ℓ} n t τ sorts M

  -- and the trace is feasible exactly if its tests hold with some meaning, over whatever values.
  pub feasible_exactly_with_relations {ℓ} : WellFormed τ → Feasible (state τ) ↔ FeasibleWithRelations {ℓ} n τ
  feasible_exactly_with_relations w = feasible_alike {ℓ} n t τ sorts w

abbrev pub declared_count : Macro → ℕ
declared_count m = length m.registers

-- an execution that ends at a failure, as one that may be broken off
broken_off : {h : Header} {b : macro.Block} {ρ : Trace} → Failing (begin h) b ρ → Partial (begin h) b ρ
broken_off {ρ} x = record { execution = ρ; outcome = failed; runs = x; from_start = block_begins x; begins = whole }

-- "A macro's executions are those of this expansion":
module _ (m : Macro) (in_order : InOrder m) where
  -- their letters are of the right sorts, and fit the header.
  pub letters_are_of_right_sorts : (ρ : Trace) → Partial (begin (header_of m)) (expanded m) ρ → RightSorts (declared_count m) m.first_test ρ
  letters_are_of_right_sorts =
      expanded_sorts (header m.registers m.functions m.arities) m.first_test (header_of m) m.body in_order.uses

  pub executions_are_well_formed : (ρ : Trace) → Partial (begin (header_of m)) (expanded m) ρ → WellFormed ρ
  executions_are_well_formed ρ x =
      (partial_formed (header_of m) (begin (header_of m)) (expanded m) ρ (tt, refl)
      (expanded_fits m in_order) x).0

  -- So with each meaning of the tests the macro performs what it performs in the data model of that meaning,
  pub a_meaning_performs_as_its_data_model {ℓ} : (R : Meaning {ℓ}) (ρ : Trace) → Partial (begin (header_of m)) (expanded m) ρ
      → AllHold (declared_count m) R ρ ↔ SatisfiesIn (as_functions (declared_count m) m.first_test R) (state ρ).equals (state ρ).unequals
  a_meaning_performs_as_its_data_model R ρ x = as-functions (declared_count m) m.first_test ρ (letters_are_of_right_sorts ρ x) R

  -- in each data model what it performs with the meaning of that model,
  pub a_data_model_performs_as_its_meaning {ℓ} : (M : Model) (ρ : Trace) → Partial (begin (header_of m)) (expanded m) ρ
      → Satisfies M (state ρ).equals (state ρ).unequals ↔ AllHold (declared_count m) (as_relations {ℓ} (declared_count m) M) ρ
  a_data_model_performs_as_its_meaning M ρ x = as-relations {ℓ} (declared_count m) m.first_test ρ (letters_are_of_right_sorts ρ x) M

  -- and an execution is feasible exactly if it is one with some meaning;
  pub feasible_exactly_with_some_meaning {ℓ} : (ρ : Trace) → Partial (begin (header_of m)) (expanded m) ρ
      → Feasible (state ρ) ↔ FeasibleWithRelations {ℓ} (declared_count m) ρ
  feasible_exactly_with_some_meaning ρ x =
      feasible_alike {ℓ} (declared_count m) m.first_test ρ (letters_are_of_right_sorts ρ x) (executions_are_well_formed ρ x)

  -- What the macro does as it is written, with a meaning, is what it executes with all tests holding, through the whole and to a false assertion.
  pub runs_as_executed {ℓ} : (R : Meaning {ℓ}) (o : Outcome) → ((w : Values R) × RunsBlock R m.body R.start w o)
      ↔ ((ρ : Trace) × ExecBlock (written_out (expanded m)) (begin (header_of m)) ρ o × AllHold (declared_count m) R ρ)
  runs_as_executed R o =
      runs_exactly (header m.registers m.functions m.arities) m.first_test R m.body in_order.uses (header_of m) o

  -- "so a verdict covers every meaning that a test could have": no data model reaches a false assertion exactly if no meaning does. The first is what
  -- demand 3 asks for pass (`else-pass-exactly` of Demand3.antt); the second is said of the macro as it is written.
  pub no_assertion_fails_exactly {ℓ} : ((ρ : Trace) → Failing (begin (header_of m)) (expanded m) ρ → ¬ Feasible (state ρ))
      ↔ ((R : Meaning {ℓ}) → ¬ ReachesFalseAssertion R m.body)
  no_assertion_fails_exactly = (
    λ n R x. let (ρ, e, a) = (runs_as_executed R failed).0 x in n ρ e ((feasible_exactly_with_some_meaning {ℓ} ρ (broken_off e)).1 (R, a)),
    λ n ρ e f. let (R, a) = (feasible_exactly_with_some_meaning {ℓ} ρ (broken_off e)).0 f in n R ((runs_as_executed R failed).1 (ρ, e, a)),
  )

-- So of the verdict on a text that is read as m: where the table suffices, pass is answered exactly if every execution is coherent and with no meaning of
-- the functions and tests, over whatever values, the macro reaches a false assertion;
module _ (text : List ℕ) (m : Macro) (accepted : Accepted text m) where
  pub pass_covers_every_meaning {ℓ} : (table output : List ℕ) (answer : VerdictAnswer) (table' output' : List ℕ)
      → Demand3 Feasible text table output answer table' output' → answer ≢ full
      → IsPass answer ↔ (((ρ : Trace) → Partial (begin (header_of m)) (expanded m) ρ → Coherent ρ)
      × ((R : Meaning {ℓ}) → ¬ ReachesFalseAssertion R m.body))
  pass_covers_every_meaning table output answer table' output' met u =
      let (f, g) = (met.verdict m accepted).pass_exactly u in
      let (i, j) = no_assertion_fails_exactly {ℓ} m accepted.in_order in
      (λ p. let (c, n) = f p in (c, i n), λ (c, n). g (c, j n))

  -- and a failure that is shown has a meaning with which all tests of its execution hold, and the macro reaches a false assertion.
  pub a_shown_failure_has_a_meaning {ℓ} : (k : ℕ) (ls : List Letter) → Shows Feasible (begin (header_of m)) (expanded m) failing k ls
      → (R : Meaning {ℓ}) × AllHold (declared_count m) R (extend (begin (header_of m)) ls) × ReachesFalseAssertion R m.body
  a_shown_failure_has_a_meaning k ls x =
      let ρ = extend (begin (header_of m)) ls in
      let run = x.of_kind.0 in
      let (R, a) = (feasible_exactly_with_some_meaning {ℓ} m accepted.in_order ρ (broken_off run)).0 (possible ρ x.first_event.event x.of_kind.1) in
      (R, a, (runs_as_executed m accepted.in_order R failed).1 (ρ, run, a))
    where
      possible : (ρ : Trace) → Event Feasible (begin (header_of m)) (expanded m) ρ → Coherent ρ → Feasible (state ρ)
      possible ρ (verdict.fails y f) c = f
      possible (begin h) (breaks y b) c = absurd b
      possible (ρ ▸ a) (breaks y b) c = absurd (b.1 c)
