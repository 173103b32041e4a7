-- Request 3, a test of what is already equal, sentence by sentence.
use mathlib.Core.Path.{◌≡◌, refl, ap, sym, ◌∙◌, subst}
use mathlib.Core.Logic.{inl, inr, ◌↔◌, ◌≢◌}
use mathlib.Core.List.Memᴰ
use mathlib.Core.List.{List}
use Prim.Native.Nat.{ℕ, suc, ◌≤◌}
use Rattle.letters.specs.declared.Header.{Header}
use Rattle.letters.specs.declared.Letter.{Letter}
use Rattle.letters.specs.declared.Letter.TheVariants.{Equal}
use Rattle.letters.specs.Answers.{Answer, value}
use Rattle.letters.specs.Editions.{first_edition}
use Rattle.traces.specs.Reading.{trace, reading}
use Rattle.semantics.specs.Terms.{Term, Trace, begin, ◌▸◌, State, state, trace_of}
use Rattle.semantics.specs.Facts.{WellFormed}
use Rattle.semantics.specs.Closure.{Equivalent}
use Rattle.semantics.specs.Models.{Feasible}
use Rattle.semantics.specs.AnyModel.{AnyModel, eval_in, SatisfiesIn}
use Rattle.semantics.specs.Coherence.{CoherentLetter, Coherent}
use Rattle.semantics.specs.Strict.{StrictLetter, StrictlyCoherent, RedundantTest, WithoutRedundant}
use Rattle.semantics.specs.Prefixes.{Begins}
use Rattle.semantics.specs.Judgement.{FailsAt, FirstFailure, Judgement}
use Rattle.semantics.specs.SameWindow.{SameWindow}
use Rattle.semantics.proofs.Theory.PaperLaws.{respects_anywhere}
use Rattle.semantics.proofs.Theory.ClosureLaws.{more_tests}
use Rattle.semantics.proofs.Theory.Redundant.{fewer_tests, redundant_test}
use Rattle.semantics.proofs.Theory.StrictLaws.{strict_coherent, redundant_or_strict, without_some, without_one, without_strict, without_coherent}
use Rattle.semantics.proofs.Theory.Examples.{repeated}
use Rattle.semantics.proofs.Theory.Witnesses.{repeated_coherent, repeated_strictly}
use Rattle.streaming.specs.Demand2.{Demand2}
use Rattle.macros.specs.Tree.{Block}
use Rattle.macros.specs.Executions.{Partial, Failing}
use Rattle.macros.proofs.Theory.Fitting.{partial_formed}
use Rattle.grammar.specs.Grammar.{Macro, header_of, expanded}
use Rattle.grammar.proofs.Theory.Expanded.{expanded_fits}
use Rattle.refusals.specs.Accepted.{Accepted}
use Rattle.verdict_theory.specs.Verdict.{VerdictAnswer, full, IsPass, breaking, OfKind}
use Rattle.verdict_theory.specs.Demand3.{Demand3}
use Rattle.theorems.proofs.Steps.Traces.{not_before_strict, infeasible_stays, coherent_feasibility}

-- "an equal test whose two sides are equal in the closure before it is always coherent." Marks on either side do not matter.
pub equal_sides_are_always_coherent : (ρ : Trace) (x y : ℕ) → Coherent ρ → Equivalent (state ρ) ((state ρ).value x) ((state ρ).value y)
    → Coherent (ρ ▸ Equal x y)
equal_sides_are_always_coherent ρ x y c e = (c, inl e)

-- Every other letter is judged as before: `StrictLetter` is document 01's own rule (semantics/specs/Strict.antt).
pub other_letters_are_judged_as_before : (σ : State) (a : Letter) → ¬ RedundantTest σ a → CoherentLetter σ a ↔ StrictLetter σ a
other_letters_are_judged_as_before σ a n =
    let (p, q) = redundant_or_strict σ a in (λ c. elim (p c) [ inl r ↦ absurd (n r) | inr s ↦ s ], λ s. q (inr s))

-- "It adds nothing about any tube": each model, of whatever values, satisfies the tests with it exactly if it does without it,
pub it_adds_nothing {ℓ} : (ρ : Trace) (x y : ℕ) → Equivalent (state ρ) ((state ρ).value x) ((state ρ).value y) → (M : AnyModel {ℓ})
    → (SatisfiesIn M (state ρ).equals (state ρ).unequals → SatisfiesIn M (state (ρ ▸ Equal x y)).equals (state (ρ ▸ Equal x y)).unequals)
    × (SatisfiesIn M (state (ρ ▸ Equal x y)).equals (state (ρ ▸ Equal x y)).unequals → SatisfiesIn M (state ρ).equals (state ρ).unequals)
it_adds_nothing ρ x y e M = (
  λ h. record {
    equal_hold = λ s t m. elim (Memᴰ.cases_cons m) [
      | inl k ↦ subst (λ (p : Term × Term). eval_in M p.0 ≡ eval_in M p.1) (sym k) (respects_anywhere M (state ρ) h e)
      | inr i ↦ h.equal_hold s t i
    ];
    unequal_hold = h.unequal_hold;
  },
  λ h. record { equal_hold = λ s t m. h.equal_hold s t (Memᴰ.tail m); unequal_hold = h.unequal_hold },
)

-- the closure has what it had,
pub it_adds_no_equality : (ρ : Trace) (x y : ℕ) → Equivalent (state ρ) ((state ρ).value x) ((state ρ).value y) → (s t : Term)
    → Equivalent (state (ρ ▸ Equal x y)) s t ↔ Equivalent (state ρ) s t
it_adds_no_equality ρ x y e s t = (λ c. fewer_tests e c, λ c. more_tests ((state ρ).value x, (state ρ).value y) c)

-- and nothing in the window moves, marks included.
pub it_moves_nothing : (ρ : Trace) (x y : ℕ) → Equivalent (state ρ) ((state ρ).value x) ((state ρ).value y) → SameWindow (state ρ) (state (ρ ▸ Equal x y))
it_moves_nothing ρ x y e = redundant_test (state ρ) x y e

-- "The example z:=f(x), z:=x, x=x becomes coherent." Registers x y z are 0 1 2.
pub the_example_becomes_coherent : Coherent (repeated ▸ Equal 0 0) × ¬ StrictlyCoherent (repeated ▸ Equal 0 0)
the_example_becomes_coherent = (repeated_coherent, repeated_strictly)

-- "Verdicts, pair counts and the monitor's letter numbers follow the milder rule from here on": `Demand2` and `Demand3` rest on `Coherent`.
-- What was coherent is coherent;
pub what_was_coherent_is : (ρ : Trace) → StrictlyCoherent ρ → Coherent ρ
what_was_coherent_is = strict_coherent

-- an incoherent letter that is named now was named before, or an earlier one was, and an infeasible one that was named is;
pub no_letter_is_named_earlier : (ρ : Trace) (k i infeasible : ℕ) → Judgement ρ (suc k) infeasible → FirstFailure StrictlyCoherent ρ i → (1 ≤ i) × (i ≤ suc k)
no_letter_is_named_earlier ρ k i infeasible j s = not_before_strict ρ (suc k) i j.coherence s

pub an_infeasible_letter_stays : (ρ π : Trace) (incoherent infeasible k : ℕ) → Begins π ρ → StrictlyCoherent π
    → FailsAt (λ κ. Feasible (state κ)) π (suc k) → Judgement ρ incoherent infeasible → infeasible ≡ suc k
an_infeasible_letter_stays = infeasible_stays

-- and a trace is coherent exactly if it was so without its tests of equal sides, with the same window. There is one such trace.
pub coherent_exactly_without_them : (ρ π : Trace) → WellFormed ρ → WithoutRedundant ρ π → Coherent ρ ↔ StrictlyCoherent π
coherent_exactly_without_them ρ π w p = (λ c. (without_strict p w c).0, without_coherent p w)

pub the_window_is_the_same : (ρ π : Trace) → WellFormed ρ → WithoutRedundant ρ π → Coherent ρ → SameWindow (state ρ) (state π)
the_window_is_the_same ρ π w p c = (without_strict p w c).1

pub some_trace_is_without_them : (ρ : Trace) → WellFormed ρ → (π : Trace) × WithoutRedundant ρ π
some_trace_is_without_them = without_some

pub one_trace_is_without_them : (ρ π κ : Trace) → WithoutRedundant ρ π → WithoutRedundant ρ κ → π ≡ κ
one_trace_is_without_them ρ π κ p q = without_one p q

-- So where the table suffices a macro passes exactly if each of its partial executions was coherent without these tests, and no failing one is feasible;
pub a_macro_passes_exactly : (text : List ℕ) (m : Macro) → Accepted text m → (table output : List ℕ) (answer : VerdictAnswer) (table' output' : List ℕ)
    → Demand3 Feasible text table output answer table' output' → answer ≢ full
    → IsPass answer ↔ (((ρ π : Trace) → Partial (begin (header_of m)) (expanded m) ρ → WithoutRedundant ρ π → StrictlyCoherent π)
    × ((ρ : Trace) → Failing (begin (header_of m)) (expanded m) ρ → ¬ Feasible (state ρ)))
a_macro_passes_exactly text m accepted table output answer table' output' met n =
    let (f, g) = (met.verdict m accepted).pass_exactly n in (
      λ p. let (c, s) = f p in (λ ρ π x r. (coherent_exactly_without_them ρ π (formed ρ x) r).0 (c ρ x), s),
      λ (c, s). g (λ ρ x. let (π, r) = without_some ρ (formed ρ x) in (coherent_exactly_without_them ρ π (formed ρ x) r).1 (c ρ π x r), s),
    )
  where
    formed : (ρ : Trace) → Partial (begin (header_of m)) (expanded m) ρ → WellFormed ρ
    formed ρ x = (partial_formed (header_of m) (begin (header_of m)) (expanded m) ρ (tt, refl) (expanded_fits m accepted.in_order) x).0

-- and an execution that is shown as incoherent was so before.
pub what_is_incoherent_was : (start : Trace) (body : Block) (ρ : Trace) → OfKind start body breaking ρ → ¬ StrictlyCoherent ρ
what_is_incoherent_was start body (begin h) (x, b) s = b
what_is_incoherent_was start body (ρ ▸ a) (x, b) s = b.1 (strict_coherent (ρ ▸ a) s)

-- "and feasibility must still be exact on every trace that it newly lets through." It is so on every coherent trace: the infeasible letter of a run is
-- the first at which the whole trace becomes infeasible, or none if it never does;
pub feasibility_is_exact : (ρ : Trace) (infeasible : ℕ) → Judgement ρ 0 infeasible → FirstFailure (λ π. Feasible (state π)) ρ infeasible
feasibility_is_exact ρ infeasible j = (coherent_feasibility ρ 0 infeasible j.coherence j).1

-- and whatever meets demand 2 answers it, for the bytes of such a trace. For other traces it is exact on the longest coherent beginning
-- (`infeasible-letter-is-the-first` of Demand2.antt).
pub the_monitor_answers_it : (bytes : List ℕ) (answer : Answer (ℕ × ℕ)) → Demand2 bytes answer → (h : Header) (letters : List Letter)
    → reading first_edition bytes ≡ trace h letters → Coherent (trace_of h letters)
    → (infeasible : ℕ) × (answer ≡ value (0, infeasible)) × FirstFailure (λ π. Feasible (state π)) (trace_of h letters) infeasible
the_monitor_answers_it bytes answer met h letters e c =
    let (i, k, j, a) = met.judges h letters e in
    let (z, f) = coherent_feasibility (trace_of h letters) i k c j in
    (k, a ∙ ap (λ n. value (n, k)) z, f)
