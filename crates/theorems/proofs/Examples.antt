-- The definitions that the claims rest on hold of something and not of everything: those of models, of the values of registers (Definition 3), of
-- the stricter condition on equal tests and the milder one, of pairs and of what reads back.
use mathlib.Core.Path.{◌≡◌, refl, sym, ap, ◌∙◌}
use mathlib.Core.Logic.{◌≢◌}
use mathlib.Core.List.Memᴰ
use mathlib.Core.List.{List, []}
use Prim.Native.Nat.{ℕ, zero, suc}
use native.Mathlib.Omega.{arith}
use lib.Dec.{lit<}
use lib.ListN.{take}
use Rattle.letters.specs.Coding.{fits_test, apply_test}
use Rattle.letters.specs.declared.Header.{Header}
use Rattle.letters.specs.declared.Letter.{Letter}
use Rattle.letters.specs.declared.Letter.TheVariants.{Copy, Apply, Equal, Unequal}
use Rattle.letters.specs.Editions.{first_edition}
use Rattle.traces.specs.Reading.{trace, beginning, reading_where, reading}
use Rattle.semantics.specs.Terms.{Term, con, Trace, begin, ◌▸◌, state}
use Rattle.semantics.specs.Facts.{WellFormed}
use Rattle.semantics.specs.Models.{Model, Feasible}
use Rattle.semantics.specs.Tables.{Tables, Describes}
use Rattle.semantics.specs.Numbering.{ShownModel}
use Rattle.semantics.specs.ShownTables.{tables_of}
use Rattle.semantics.proofs.Theory.Facts.{state_valid}
use Rattle.semantics.proofs.Theory.Judge.{early_computed, coherent_is, formed_e}
use Rattle.semantics.proofs.Theory.PaperLaws.{constants_computed}
use Rattle.semantics.proofs.Theory.Examples.{one, repeated}
use Rattle.semantics.proofs.Theory.Witnesses.{early_slip, early_by_definition_5, early_by_document_01, repeated_coherent}
use Rattle.macros.specs.Tree.{Block, empty, ◌then◌, perform}
use Rattle.macros.specs.Order.{Path, root}
use Rattle.macros.specs.Points.{size_block, size_statement, entry}
use Rattle.grammar.specs.Grammar.{Macro, header_of}
use Rattle.report.specs.Shown.{model_start}
use Rattle.verdict_theory.specs.Verdict.{Kind}
use Rattle.verdict_theory.specs.AnyPairs.{LeavesAny}
use Rattle.verdict_theory.proofs.Theory.AnswerPacking.{shown-tables}
use Rattle.verdict_lines.specs.ReadsBack.{ReadsBack}
use Rattle.theorems.specs.Definition3.{Definition3}
use Rattle.theorems.specs.Stricter.{Stricter}
use Rattle.theorems.specs.Milder.{Definition5Changed}
use Rattle.theorems.proofs.Steps.Traces.{early_is, strict_exactly, coherent_changed}

-- Two registers and no function.
abbrev two : Header
two = record { registers = 2; functions = 0; binary = 0 }

-- Every feasible trace has a shown model;
pub feasible_trace_has_a_shown_model : (ρ : Trace) → WellFormed ρ → Feasible (state ρ) → ShownModel (state ρ) (tables_of (state ρ))
feasible_trace_has_a_shown_model = shown-tables

-- `x != x`, which no model satisfies, has none, whatever the tables are.
pub infeasible_trace_has_none : (t : Tables) → ShownModel (state (begin two ▸ Unequal 0 0)) t → ⊥
infeasible_trace_has_none t m = m.satisfies.unequal_hold _ _ (Memᴰ.head refl) refl

-- Tables describe no model with another count of values.
pub another_count_is_not_described : (t : Tables) (M : Model) → M.count ≢ t.count → ¬ Describes t M
another_count_is_not_described t M n d = n d.count

-- Registers that keep their first constants do not have the values of Definition 3, for `x := y` copies nothing then.
pub constants_are_not_the_values : Definition3 (λ ρ r. con r) → ⊥
constants_are_not_the_values d =
    let e : ◌≡◌ {A = Term} (con 1) (con 0) = d.copied (begin two) 1 0 in
    let z : ◌≡◌ {A = ℕ} 1 0 = cc in omega arith

-- z:=f(x), x=y meets the stricter condition: the argument x of the application above x is held. Registers x y z are 0 1 2.
abbrev lone : Trace
lone = one 3 ▸ Apply 2 0 0 0

abbrev argument_held : Trace
argument_held = lone ▸ Equal 0 1

pub a_held_argument_is_enough : Stricter argument_held
unfolding fits_test apply_test
a_held_argument_is_enough =
    let w = formed_e argument_held tt in
    let early = (early_computed (state lone) 0 1 (state_valid lone w.0) (lit< tt) (lit< tt)).0 tt in
    ((strict_exactly argument_held w).0 ((coherent_is lone w.0).0 tt, early)).1

-- u:=f(y,w), v:=f(z,w), w:=y, y=z does not: no register holds the argument w that both applications had. Definition 5 lets the test through.
pub a_lost_argument_is_not : ¬ Stricter (early_slip ▸ Equal 3 4)
unfolding fits_test apply_test
a_lost_argument_is_not (p, held) =
    let v = state_valid early_slip (formed_e early_slip tt) in
    early_by_document_01 ((early_is (state early_slip) v (constants_computed early_slip) 3 4 (lit< tt) (lit< tt)).1 (early_by_definition_5, held))

-- z:=f(x), z:=x, x=x meets Definition 5 as it is changed: the congruence joins x with itself. Registers x y z are 0 1 2.
pub joined_sides_are_enough : Definition5Changed (repeated ▸ Equal 0 0)
unfolding fits_test apply_test
joined_sides_are_enough = (coherent_changed (repeated ▸ Equal 0 0) (formed_e (repeated ▸ Equal 0 0) tt)).0 repeated_coherent

-- The test x=y in the place of x=x does not: f(x) is lost, and nothing joins x and y.
pub lost_and_not_joined : ¬ Definition5Changed (repeated ▸ Equal 0 1)
unfolding fits_test apply_test
lost_and_not_joined c =
    let w = formed_e (repeated ▸ Equal 0 1) tt in (coherent_is (repeated ▸ Equal 0 1) w).1 ((coherent_changed (repeated ▸ Equal 0 1) w).1 c)

-- A macro of one copy leaves a pair before its first letter: its point, and the start.
pub a_point_leaves_a_pair : LeavesAny (begin two) (perform (Copy 0 1) then empty) root
unfolding size_block size_statement entry
a_point_leaves_a_pair = record { point = 0; trace = begin two; stands = refl; due = omega arith }

-- A macro without points leaves none.
pub no_points_leave_no_pair : (p : Path) → LeavesAny (begin two) empty p → ⊥
unfolding size_block
no_points_leave_no_pair p x = omega (arith, x.due)

-- What is shown reads back (`what-is-shown-reads-back` of Demand3.antt); from no bytes nothing does.
pub nothing_reads_back_from_no_bytes : (m : Macro) (kind : Kind) (pairs letters : ℕ) → ReadsBack m kind pairs letters [] → ⊥
unfolding beginning reading_where
nothing_reads_back_from_no_bytes m kind pairs letters x =
    let e : reading first_edition [] ≡ trace (header_of m) x.execution = sym (ap (reading first_edition) (none (model_start letters))) ∙ x.trace_back in
    let z : ◌≡◌ {A = ℕ} 0 1 = cc in omega arith
  where
    none : (n : ℕ) → ◌≡◌ {A = List ℕ} (take n []) []
    none zero = refl
    none (suc n) = refl
