-- Pairs that are counted are those of all partial executions, coherent or not: what stands behind an incoherent letter comes after an event.
use mathlib.Core.Path.{◌≡◌, refl, sym, subst}
use mathlib.Core.Logic.{◌⊎◌, inl, inr, ◌↔◌}
use Prim.Native.Nat.{ℕ}
use native.Mathlib.Omega.{arith}
use lib.Dec.{T}
use Rattle.base.proofs.Theory.Choice.{by_test}
use Rattle.letters.specs.declared.Header.{Header}
use Rattle.semantics.specs.Terms.{Trace, begin, ◌▸◌, State}
use Rattle.semantics.specs.Facts.{WellFormed}
use Rattle.semantics.specs.Prefixes.{Begins, before}
use Rattle.semantics.specs.Coherence.{Coherent}
use Rattle.semantics.specs.Judge.{coherent}
use Rattle.semantics.proofs.Theory.Judge.{coherent_is}
use Rattle.macros.specs.Tree.{Block, ProperBlock}
use Rattle.macros.specs.Order.{Path, Before}
use Rattle.macros.proofs.Theory.Order.{AtOrBefore, till_before, before_till, till_not}
use Rattle.macros.specs.Walk.{Place, at, stand}
use Rattle.macros.proofs.Theory.Walk.{last, walk_begins}
use Rattle.macros.specs.Points.{points, entrance, moves_at, run}
use Rattle.macros.proofs.Theory.Runs.{partial_is}
use Rattle.macros.proofs.Theory.Fitting.{run_formed}
use Rattle.verdict_theory.specs.Count.{BeforeEvents, Counted}
use Rattle.verdict_theory.specs.Verdict.{Leaves, SamePair, EventAt}
use Rattle.verdict_theory.specs.Verdict
use Rattle.verdict_theory.specs.AnyPairs.{LeavesAny}

module _ {ℓ} (Possible : State → Type ℓ) (h : Header) (m : Block) (proper : ProperBlock m h) where
  abbrev start : Trace
  start = begin h

  -- An execution that is not coherent comes at or behind an event.
  broken : (p : Path) (l : Place ℕ) (ρ : Trace) → run start m p ≡ stand l ρ → WellFormed ρ → Begins start ρ → (Coherent ρ → ⊥)
      → (q : Path) × EventAt Possible start m q × AtOrBefore q p
  broken p l (begin g) e w s n = absurd (n tt)
  broken p l (ρ ▸ a) e w (before s) n = by_test (coherent ρ)
      (λ y. (p, (ρ ▸ a, (l, e), Verdict.breaks ((partial_is start m (ρ ▸ a)).1 (p, l, e)) ((coherent_is ρ w.0).0 (subst T (sym y) tt), n)), inl refl))
      (λ y.
      let z = last (moves_at (points m)) (entrance m) start p l ρ a e s in
      let (q, v, t) = broken z.path (at z.place) ρ z.stood w.0 s (λ c. subst T y ((coherent_is ρ w.0).1 c)) in
      (q, v, inr (till_before q z.path p t (subst (Before z.path) (sym z.is) (inl (omega arith))))))

  -- So an execution before every event is coherent.
  pub early_coherent : (p : Path) (l : Place ℕ) (ρ : Trace) → run (begin h) m p ≡ stand l ρ
      → BeforeEvents Before (LeavesAny (begin h) m) (SamePair (begin h) m) (EventAt Possible (begin h) m) p → Coherent ρ
  early_coherent p l ρ e b = by_test (coherent ρ)
      (λ y. (coherent_is ρ formed).0 (subst T (sym y) tt))
      (λ y.
      let (q, v, t) = broken p l ρ e formed (walk_begins (moves_at (points m)) (entrance m) start p l ρ e) (λ c. subst T y ((coherent_is ρ formed).1 c)) in
      absurd (till_not q p t (b q v)))
    where
      formed : WellFormed ρ
      formed = (run_formed h start m (tt, refl) proper p l ρ e).0

  -- The pairs that are counted are the same with and without the condition in `Leaves`.
  pub counted_any : (p : Path) → Counted Before (Leaves (begin h) m) (SamePair (begin h) m) (EventAt Possible (begin h) m) p
      ↔ Counted Before (LeavesAny (begin h) m) (SamePair (begin h) m) (EventAt Possible (begin h) m) p
  counted_any p = (wider, narrower)
    where
      any : (q : Path) → Leaves start m q → LeavesAny start m q
      any q y = record { point = y.point; trace = y.trace; stands = y.stands; due = y.due }

      wider : Counted Before (Leaves start m) (SamePair start m) (EventAt Possible start m) p
          → Counted Before (LeavesAny start m) (SamePair start m) (EventAt Possible start m) p
      wider c = record { is_first = record { leaves = any p c.is_first.leaves; least = least }; early = c.early }
        where
          least : (q : Path) → LeavesAny start m q → SamePair start m q p → (p ≡ q) ⊎ Before p q
          least q y same = by_test (coherent y.trace)
              (λ t. c.is_first.least q (record
              { point = y.point; trace = y.trace; stands = y.stands; due = y.due; coherent = (coherent_is y.trace formed).0 (subst T (sym t) tt) })
              same)
              (λ t.
              let (r, v, u) = broken q (at y.point) y.trace y.stands formed
              (walk_begins (moves_at (points m)) (entrance m) start q (at y.point) y.trace y.stands)
              (λ d. subst T t ((coherent_is y.trace formed).1 d)) in
              inr (before_till p r q (c.early r v) u))
            where
              formed : WellFormed y.trace
              formed = (run_formed h start m (tt, refl) proper q (at y.point) y.trace y.stands).0

      narrower : Counted Before (LeavesAny start m) (SamePair start m) (EventAt Possible start m) p
          → Counted Before (Leaves start m) (SamePair start m) (EventAt Possible start m) p
      narrower c =
          let y = c.is_first.leaves in
          record {
            is_first = record {
              leaves = record {
                point = y.point;
                trace = y.trace;
                stands = y.stands;
                due = y.due;
                coherent =
                    early_coherent p (at y.point) y.trace y.stands c.early;
              };
              least = λ q z same. c.is_first.least q (any q z) same;
            };
            early = c.early;
          }
