-- Where the search ends, its answer is the verdict.
use mathlib.Core.Path.{◌≡◌, refl, sym, ap, ◌∙◌, subst}
use mathlib.Core.Logic.{◌⊎◌, inl, inr, ◌≢◌}
use mathlib.Core.List.{List}
use Prim.Native.Nat.{ℕ, ◌+◌, ◌≤◌, ◌<◌}
use native.Mathlib.Omega.{arith}
use lib.ListN.{length}
use Rattle.letters.specs.declared.Letter.{Letter}
use Rattle.semantics.specs.Terms.{Trace, begin, ◌▸◌, extend, state}
use Rattle.semantics.specs.Facts.{WellFormed}
use Rattle.letters.specs.Editions.{Edition}
use Rattle.semantics.specs.Models.{Feasible}
use Rattle.semantics.specs.Coherence.{Coherent}
use Rattle.macros.specs.Executions.{Partial, Failing}
use Rattle.macros.specs.Order.{Branch, Path, ◌▹◌, Before}
use Rattle.macros.proofs.Theory.Order.{AtOrBefore, before_not, before_join, till_join}
use Rattle.macros.specs.Walk.{Place, failure, stand}
use Rattle.macros.specs.Points.{run}
use Rattle.macros.proofs.Theory.Runs.{partial_is, failing_is}
use Rattle.macros.proofs.Theory.Fitting.{run_formed}
use Rattle.verdict_theory.specs.Count.{Lists, More}
use Rattle.verdict_theory.proofs.Theory.Counting.{more_is, same_lists, same_more}
use Rattle.verdict_theory.proofs.Theory.System.{event, Leads, LeadAlike, Meets, FirstMet}
use Rattle.verdict_theory.proofs.Theory.Listing.{Listing, turn, path, Searching, finished_quiet, finished_lists, event_first, event_lists}
use Rattle.verdict_theory.specs.Verdict.{VerdictAnswer, pass, full, unfit, IsPass, Kind, breaking, failing, showing, Breaks, Precedes, Event, EventAt}
use Rattle.verdict_theory.specs.Verdict.{Leaves, SamePair, PairCount, PairsPass, OfKind, Shows, Delivered, IsVerdict}
use Rattle.verdict_theory.specs.AnswerPacking.{packed}
use Rattle.verdict_theory.proofs.Theory.AnswerPacking.{bytes_so}
use Rattle.verdict_theory.specs.Verdict
use Rattle.verdict_theory.proofs.Theory.Pairs.{Setting, Pair, starting, stepping, leads, lead_leaves, leaves_lead, alike_same, same_alike}
use Rattle.verdict_theory.proofs.Theory.Pairs.{meets_breaking, meets_failing, event_met, met_event, quiet_coherent, quiet_safe}

showing_other : (kind : Kind) (k l : ℕ) → (showing kind k l ≢ full) × (¬ IsPass (showing kind k l))
showing_other breaking k l = (λ e. let z : ◌≡◌ {A = ℕ} 0 1 = cc in omega arith, λ p. p)
showing_other failing k l = (λ e. let z : ◌≡◌ {A = ℕ} 0 1 = cc in omega arith, λ p. p)

unfit_other : (unfit ≢ full) × (¬ IsPass unfit)
unfit_other = (λ e. let z : ◌≡◌ {A = ℕ} 6 14 = cc in omega arith, λ p. p)

given_other : (bs : List ℕ) (kind : Kind) (k l : ℕ) (output : List ℕ) (answer : VerdictAnswer) (output' : List ℕ)
    → Delivered bs (showing kind k l) output answer output'
    → (answer ≢ full) × (¬ IsPass answer)
given_other bs kind k l output answer output' (inl g) = subst (λ y. (y ≢ full) × (¬ IsPass y)) (sym g.1) (showing_other kind k l)
given_other bs kind k l output answer output' (inr g) = subst (λ y. (y ≢ full) × (¬ IsPass y)) (sym g.1) unfit_other

module _ (x : Setting) (edition : Edition) where
  counted_lists : (f : ℕ → Path) (k : ℕ)
      → Lists Before (Leads (starting x) (stepping x)) (LeadAlike (starting x) (stepping x)) (Meets (starting x) (stepping x)) f k
      → Lists Before (Leaves x.start x.body) (SamePair x.start x.body) (EventAt Feasible x.start x.body) f k
  counted_lists = same_lists Before before_join (Leads (starting x) (stepping x)) (Leaves x.start x.body)
      (LeadAlike (starting x) (stepping x)) (SamePair x.start x.body) (Meets (starting x) (stepping x)) (EventAt Feasible x.start x.body)
      (lead_leaves x) (leaves_lead x) (alike_same x) (same_alike x) (met_event x) (event_met x)

  counted_more : (k : ℕ) → More Before (Leads (starting x) (stepping x)) (LeadAlike (starting x) (stepping x)) (Meets (starting x) (stepping x)) k
      → PairsPass Feasible x.start x.body k
  counted_more = same_more Before before_join (Leads (starting x) (stepping x)) (Leaves x.start x.body)
      (LeadAlike (starting x) (stepping x)) (SamePair x.start x.body) (Meets (starting x) (stepping x)) (EventAt Feasible x.start x.body)
      (lead_leaves x) (leaves_lead x) (alike_same x) (same_alike x) (met_event x) (event_met x)

  -- a count of at most n does not pass n
  not_more : (k n : ℕ) → PairCount Feasible x.start x.body k → k ≤ n → ¬ PairsPass Feasible x.start x.body n
  not_more k n c l y =
      let z = (more_is Before (Leaves x.start x.body) (SamePair x.start x.body) (EventAt Feasible x.start x.body) before_not k n c).0 y in
      omega arith

  module _ (n : ℕ) (output : List ℕ) where
    abbrev Answered : VerdictAnswer → List ℕ → Type 0
    Answered answer output' = IsVerdict Feasible x.start x.body edition n output answer output'

    -- ── the search is full ──
    pub answers_full : More Before (Leads (starting x) (stepping x)) (LeadAlike (starting x) (stepping x)) (Meets (starting x) (stepping x)) n
        → Answered full output
    answers_full y = record {
      full_exactly = (λ e. counted_more n y, λ z. refl);
      full_output = λ e. refl;
      pass_exactly = λ u. absurd (u refl);
      pass_count = λ k e. absurd (let z : ◌≡◌ {A = ℕ} 0 1 = cc in omega arith);
      otherwise = λ u. absurd (u refl);
    }

    -- ── the search has performed all moves ──
    pub answers_pass : (t : Listing (Pair x)) → Searching (starting x) (stepping x) t (t.count + t.count) → t.count ≤ n → Answered (pass t.count) output
    answers_pass t v l = record {
      full_exactly = (λ e. absurd (let z : ◌≡◌ {A = ℕ} 0 1 = cc in omega arith), λ y. absurd (not_more t.count n count l y));
      full_output = λ e. refl;
      pass_exactly = λ u. (λ p. (quiet_coherent x quiet, quiet_safe x quiet), λ p. tt);
      pass_count = λ j e. (subst (PairCount Feasible x.start x.body) (cc) count, refl);
      otherwise = λ u w. absurd (w tt);
    }
      where
        quiet : (p : Path) (e : Kind) → leads x p ≢ event e
        quiet = finished_quiet (starting x) (stepping x) t (t.count + t.count) v refl

        count : PairCount Feasible x.start x.body t.count
        count = (path t, counted_lists (path t) t.count (finished_lists (starting x) (stepping x) t (t.count + t.count) v refl))

    -- ── the search meets an event ──
    event_path : (π : Trace) → Event Feasible x.start x.body π → (q : Path) × (l : Place ℕ) × (run x.start x.body q ≡ stand l π)
    event_path π (Verdict.breaks y b) = (partial_is x.start x.body π).0 y
    event_path π (Verdict.fails y f) = let (q, e) = (failing_is x.start x.body π).0 y in (q, failure, e)

    least : (p : Path) (e : Kind) (l : Place ℕ) (ρ : Trace) → FirstMet (starting x) (stepping x) p e → run x.start x.body p ≡ stand l ρ
        → (π : Trace) → Event Feasible x.start x.body π → (π ≡ ρ) ⊎ Precedes x.start x.body ρ π
    least p e l ρ y u π z = go (event_path π z)
      where
        go : (q : Path) × (k : Place ℕ) × (run x.start x.body q ≡ stand k π) → (π ≡ ρ) ⊎ Precedes x.start x.body ρ π
        go (q, k, v) = after (till_join p met.0 q (y.least met.0 met.1.0 met.1.1) met.2)
          where
            met : (r : Path) × Meets (starting x) (stepping x) r × AtOrBefore r q
            met = event_met x q (π, (k, v), z)

            after : AtOrBefore p q → (π ≡ ρ) ⊎ Precedes x.start x.body ρ π
            after (inl i) = inl (let w : run x.start x.body p ≡ stand k π = ap (run x.start x.body) i ∙ v in cc)
            after (inr i) = inr (record { path = p; other = q; takes = (l, u); other_takes = (k, v); before = i })

    breaks_not : (ρ : Trace) → Breaks ρ → ¬ Coherent ρ
    breaks_not (begin h) y c = y
    breaks_not (ρ ▸ a) y c = y.1 c

    -- what is shown of an event that the search meets: it is an event, of the right kind, and so the macro does not pass
    record EventMet (kind : Kind) (ρ : Trace) : Type 0 where
      is_event : Event Feasible x.start x.body ρ
      of_kind : OfKind x.start x.body kind ρ
      possible : kind ≡ failing → Feasible (state ρ)
      fails_to_pass : ((π : Trace) → Partial x.start x.body π → Coherent π) → ((π : Trace) → Failing x.start x.body π → ¬ Feasible (state π)) → ⊥

    met_shown : (kind : Kind) (p : Path) (l : Place ℕ) (ρ : Trace) → leads x p ≡ event kind → run x.start x.body p ≡ stand l ρ → EventMet kind ρ
    met_shown breaking p l ρ e u =
        let (π, k, w, b) = meets_breaking x p e in
        let j : π ≡ ρ = cc in
        let c : Breaks ρ = subst Breaks j b in
        let y = (partial_is x.start x.body ρ).1 (p, l, u) in
        record {
          is_event = Verdict.breaks y c;
          of_kind = (y, c);
          possible = λ f. absurd (let z : ◌≡◌ {A = ℕ} 0 1 = cc in omega arith);
          fails_to_pass = λ f g. breaks_not ρ c (f ρ y);
        }
    met_shown failing p l ρ e u =
        let (π, w, c, f) = meets_failing x p e in
        let j : π ≡ ρ = cc in
        let i : run x.start x.body p ≡ stand failure ρ = cc in
        let y = (failing_is x.start x.body ρ).1 (p, i) in
        let g : Feasible (state ρ) = subst (λ τ. Feasible (state τ)) j f in
        record {
          is_event = Verdict.fails y g;
          of_kind = (y, subst Coherent j c);
          possible = λ f. g;
          fails_to_pass = λ d k. k ρ y g;
        }

    pub answers_event : (t : Listing (Pair x)) (i : ℕ) (b : Branch) → Searching (starting x) (stepping x) t (turn i b) → i < t.count → t.count ≤ n
        → (kind : Kind) → stepping x (t.state i) b ≡ event kind → (l : Place ℕ) (ls : List Letter)
        → run x.start x.body (path t i ▹ b) ≡ stand l (extend x.start ls)
        → (answer : VerdictAnswer) (output' : List ℕ)
        → Delivered (packed edition x.start kind ls) (showing kind t.count (length ls)) output answer output' → Answered answer output'
    answers_event t i b v q r kind e l ls u answer output' g = record {
      full_exactly = (λ f. absurd (other.0 f), λ y. absurd (not_more t.count n count r y));
      full_output = λ f. absurd (other.0 f);
      pass_exactly = λ f. (λ p. absurd (other.1 p), λ p. absurd (s.fails_to_pass p.0 p.1));
      pass_count = λ j f. absurd (other.1 (subst IsPass (sym f) tt));
      otherwise = λ f p. (kind, t.count, ls, packed edition x.start kind ls, shows, bytes_so edition x.start ls kind formed s.possible, g);
    }
      where
        met : FirstMet (starting x) (stepping x) (path t i ▹ b) kind
        met = event_first (starting x) (stepping x) t i b v q kind e

        s : EventMet kind (extend x.start ls)
        s = met_shown kind (path t i ▹ b) l (extend x.start ls) met.happens u

        formed : WellFormed (extend x.start ls)
        formed = (run_formed x.header x.start x.body x.formed x.proper (path t i ▹ b) l (extend x.start ls) u).0

        count : PairCount Feasible x.start x.body t.count
        count = (path t, counted_lists (path t) t.count (event_lists (starting x) (stepping x) t i b v q kind e))

        other : (answer ≢ full) × (¬ IsPass answer)
        other = given_other (packed edition x.start kind ls) kind t.count (length ls) output answer output' g

        shows : Shows Feasible x.start x.body kind t.count ls
        shows = record {
          first_event = record { event = s.is_event; least = least (path t i ▹ b) kind l (extend x.start ls) met u };
          of_kind = s.of_kind;
          count = count;
        }
