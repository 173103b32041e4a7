-- The two readings of the verdict and of demand 3 are one: over finite data models, and over data models of any values.
-- Document 01: "infinite models change nothing".
use mathlib.Core.Path.{◌≡◌, refl}
use mathlib.Core.Logic.Iff
use mathlib.Core.Logic.{inl, ◌↔◌, ◌≢◌}
use mathlib.Core.List.{List}
use Prim.Native.Nat.{ℕ}
use native.Mathlib.Omega.{arith}
use Rattle.letters.specs.declared.Header.{Header}
use Rattle.letters.specs.declared.Letter.{Letter}
use Rattle.letters.specs.Editions.{Edition, first_edition}
use Rattle.semantics.specs.Terms.{Trace, begin, State, extend, state}
use Rattle.semantics.specs.Models.{Feasible}
use Rattle.semantics.specs.AnyModel.{AnyModel, SatisfiesIn, FeasibleInSomeModel}
use Rattle.semantics.proofs.Theory.Facts.{state_valid}
use Rattle.semantics.proofs.Theory.PaperLaws.{feasible_anywhere}
use Rattle.macros.specs.Tree.{Block, ProperBlock}
use Rattle.macros.specs.Executions.{Failing}
use Rattle.macros.specs.Order.{Path, Before}
use Rattle.macros.proofs.Theory.Order.{AtOrBefore, before_join}
use Rattle.macros.specs.Walk.{failure}
use Rattle.macros.proofs.Theory.Runs.{failing_is}
use Rattle.macros.proofs.Theory.Fitting.{FormedUnder, run_formed}
use Rattle.grammar.specs.Grammar.{Macro, header_of, expanded}
use Rattle.grammar.proofs.Theory.Expanded.{expanded_fits}
use Rattle.refusals.specs.Accepted.{Accepted}
use Rattle.verdict_theory.proofs.Theory.Counting.{same_lists, same_more}
use Rattle.verdict_theory.specs.Verdict.{VerdictAnswer, pass, full, Kind, Event, breaks, fails, FirstEvent, EventAt, Leaves, SamePair, PairCount}
use Rattle.verdict_theory.specs.Verdict.{PairsPass, Shows, IsVerdict}
use Rattle.verdict_theory.specs.Demand3.{pairs_in, Demand3}

-- ── two readings that have the same events ──
module _ {ℓ κ} (Possible : State → Type ℓ) (Possible' : State → Type κ) (start : Trace) (m : Block)
    (there : (ρ : Trace) → Event Possible start m ρ → Event Possible' start m ρ)
    (back : (ρ : Trace) → Event Possible' start m ρ → Event Possible start m ρ) where
  same_first_event : (ρ : Trace) → FirstEvent Possible start m ρ → FirstEvent Possible' start m ρ
  same_first_event ρ x = record { event = there ρ x.event; least = λ π y. x.least π (back π y) }

  there_at : (p : Path) → EventAt Possible start m p → EventAt Possible' start m p
  there_at p (ρ, t, e) = (ρ, t, there ρ e)

  back_at : (p : Path) → EventAt Possible' start m p → (q : Path) × EventAt Possible start m q × AtOrBefore q p
  back_at p (ρ, t, e) = (p, (ρ, t, back ρ e), inl refl)

  same_count : (k : ℕ) → PairCount Possible start m k → PairCount Possible' start m k
  same_count k (f, x) = (
    f,
    same_lists Before before_join (Leaves start m) (Leaves start m) (SamePair start m) (SamePair start m) (EventAt Possible start m) (EventAt Possible' start m)
        (λ p l. l) (λ p l. l) (λ p q i j s. s) (λ p q i j s. s) there_at back_at f k x,
  )

  same_pass : (n : ℕ) → PairsPass Possible start m n → PairsPass Possible' start m n
  same_pass = same_more Before before_join (Leaves start m) (Leaves start m) (SamePair start m) (SamePair start m) (EventAt Possible start m)
      (EventAt Possible' start m)
      (λ p l. l) (λ p l. l) (λ p q i j s. s) (λ p q i j s. s) there_at back_at

-- ── two readings that agree on the failing executions of a macro ──
module _ {ℓ κ} (Possible : State → Type ℓ) (Possible' : State → Type κ) (start : Trace) (m : Block) where
  abbrev Agree : Type (ℓ ⊔ κ)
  Agree = (ρ : Trace) → Failing start m ρ → Possible (state ρ) ↔ Possible' (state ρ)

  same_event : Agree → (ρ : Trace) → Event Possible start m ρ → Event Possible' start m ρ
  same_event a ρ (breaks x b) = breaks x b
  same_event a ρ (fails x f) = fails x ((a ρ x).0 f)

module _ {ℓ κ} (Possible : State → Type ℓ) (Possible' : State → Type κ) (start : Trace) (m : Block) (agree : Agree Possible Possible' start m) where
  there : (ρ : Trace) → Event Possible start m ρ → Event Possible' start m ρ
  there = same_event Possible Possible' start m agree

  back : (ρ : Trace) → Event Possible' start m ρ → Event Possible start m ρ
  back = same_event Possible' Possible start m (λ ρ x. Iff.symm (agree ρ x))

  count : (k : ℕ) → PairCount Possible start m k → PairCount Possible' start m k
  count = same_count Possible Possible' start m there back

  shows : (kind : Kind) (k : ℕ) (ls : List Letter) → Shows Possible start m kind k ls → Shows Possible' start m kind k ls
  shows kind k ls x = record {
    first_event = same_first_event Possible Possible' start m there back (extend start ls) x.first_event;
    of_kind = x.of_kind;
    count = count k x.count;
  }

  -- they give the same verdicts
  same_verdict : (e : Edition) (n : ℕ) (output : List ℕ) (answer : VerdictAnswer) (output' : List ℕ)
      → IsVerdict Possible start m e n output answer output' → IsVerdict Possible' start m e n output answer output'
  same_verdict e n output answer output' x = record {
    full_exactly = (
      λ f. same_pass Possible Possible' start m there back n (x.full_exactly.0 f),
      λ y. x.full_exactly.1 (same_pass Possible' Possible start m back there n y),
    );
    full_output = x.full_output;
    pass_exactly = λ u. (
      λ p. let (c, s) = (x.pass_exactly u).0 p in (c, λ ρ y f. s ρ y ((agree ρ y).1 f)),
      λ (c, s). (x.pass_exactly u).1 (c, λ ρ y f. s ρ y ((agree ρ y).0 f)),
    );
    pass_count = λ k f. let (c, o) = x.pass_count k f in (count k c, o);
    otherwise = λ u p. let (kind, k, ls, bytes, s, q, d) = x.otherwise u p in (kind, k, ls, bytes, shows kind k ls s, q, d);
  }

-- ── finite models, and all models, whatever universe their values lie in ──
module _ {ℓ} (h : Header) (start : Trace) (m : Block) (formed : FormedUnder h start) (proper : ProperBlock m h) where
  agree : Agree Feasible (FeasibleInSomeModel {ℓ}) start m
  agree ρ x =
      let (p, e) = (failing_is start m ρ).0 x in
      feasible_anywhere (state ρ) (state_valid ρ (run_formed h start m formed proper p failure ρ e).0)

  -- The verdict on a proper macro.
  pub verdict_anywhere : (e : Edition) (n : ℕ) (output : List ℕ) (answer : VerdictAnswer) (output' : List ℕ)
      → IsVerdict Feasible start m e n output answer output' ↔ IsVerdict (FeasibleInSomeModel {ℓ}) start m e n output answer output'
  verdict_anywhere e n output answer output' = (
    same_verdict Feasible (FeasibleInSomeModel {ℓ}) start m agree e n output answer output',
    same_verdict (FeasibleInSomeModel {ℓ}) Feasible start m (λ ρ x. Iff.symm (agree ρ x)) e n output answer output',
  )

-- Demand 3: a macro that is accepted is proper.
module _ {ℓ} (text table output : List ℕ) (answer : VerdictAnswer) (table' output' : List ℕ) where
  accepted_anywhere : (m : Macro) → Accepted text m
      → IsVerdict Feasible (begin (header_of m)) (expanded m) first_edition (pairs_in first_edition table) output answer output'
      ↔ IsVerdict (FeasibleInSomeModel {ℓ}) (begin (header_of m)) (expanded m) first_edition (pairs_in first_edition table) output answer output'
  accepted_anywhere m a =
      verdict_anywhere {ℓ} (header_of m) (begin (header_of m)) (expanded m) (tt, refl) (expanded_fits m a.in_order)
      first_edition (pairs_in first_edition table) output answer output'

  pub anywhere : Demand3 Feasible text table output answer table' output' ↔ Demand3 (FeasibleInSomeModel {ℓ}) text table output answer table' output'
  anywhere = (
    λ x. record { unread = x.unread; verdict = λ m a. (accepted_anywhere m a).0 (x.verdict m a); zeroed = x.zeroed },
    λ x. record { unread = x.unread; verdict = λ m a. (accepted_anywhere m a).1 (x.verdict m a); zeroed = x.zeroed },
  )

-- Where pass is answered, no data model whatever reaches a false assertion.
pub passes_anywhere {ℓ} : (text table output : List ℕ) (k : ℕ) (table' output' : List ℕ) → Demand3 Feasible text table output (pass k) table' output'
    → (m : Macro) → Accepted text m → (ρ : Trace) → Failing (begin (header_of m)) (expanded m) ρ
    → (M : AnyModel {ℓ}) → ¬ SatisfiesIn M (state ρ).equals (state ρ).unequals
passes_anywhere text table output k table' output' x m a ρ y M h =
    let u : pass k ≢ full = λ e. let z : ◌≡◌ {A = ℕ} 0 1 = cc in omega arith in
    (((((anywhere {ℓ} text table output (pass k) table' output').0 x).verdict m a).pass_exactly u).0 tt).1 ρ y (M, h)
