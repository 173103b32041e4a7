-- Two blocks with the same points have the same executions, and the verdict on them is the same.
use mathlib.Core.Path.{◌≡◌, refl, sym, subst, ◌∙◌}
use mathlib.Core.Logic.{◌⊎◌, inl, inr, ◌↔◌}
use mathlib.Core.List.{List}
use Prim.Native.Nat.{ℕ, ◌≤◌, ◌<◌}
use Rattle.letters.specs.declared.Letter.{Letter}
use Rattle.letters.specs.Editions.{Edition}
use Rattle.semantics.specs.Terms.{Trace, State, extend}
use Rattle.macros.specs.Tree.{Block}
use Rattle.macros.specs.Executions.{Complete, Failing, Partial}
use Rattle.macros.specs.Order.{Path, Before}
use Rattle.macros.specs.Walk.{Stand, walk}
use Rattle.macros.specs.Points.{size_block, entry, points, moves_at, run}
use Rattle.macros.proofs.Theory.Order.{AtOrBefore, before_join}
use Rattle.macros.proofs.Theory.Runs.{complete_is, failing_is, partial_is}
use Rattle.verdict_theory.specs.Verdict.{VerdictAnswer, Kind, breaking, failing, Takes, Precedes, Leaves, SamePair, OfKind, Event, FirstEvent, EventAt}
use Rattle.verdict_theory.specs.Verdict.{PairCount, PairsPass, Shows, IsVerdict}
use Rattle.verdict_theory.proofs.Theory.Counting.{same_lists, same_more}

-- All that executions and verdicts read of a block: where each path leads, and where the end is.
record SameRuns (start : Trace) (b b' : Block) : Type 0 where
  runs : (p : Path) → run start b p ≡ run start b' p
  sizes : size_block b ≡ size_block b'

runs_turned : {start : Trace} {b b' : Block} → SameRuns start b b' → SameRuns start b' b
runs_turned s = record { runs = λ p. sym (s.runs p); sizes = sym s.sizes }

-- ---- from one block to the other: its executions

module _ {start : Trace} {b b' : Block} (s : SameRuns start b b') where
  run_over : (p : Path) (x : Stand ℕ) → run start b p ≡ x → run start b' p ≡ x
  run_over p x e = sym (s.runs p) ∙ e

  complete_over : (ρ : Trace) → Complete start b ρ → Complete start b' ρ
  complete_over ρ x =
      let (p, n, l, e) = (complete_is start b ρ).0 x in
      (complete_is start b' ρ).1 (p, n, subst (λ k. k ≤ n) s.sizes l, run_over p _ e)

  failing_over : (ρ : Trace) → Failing start b ρ → Failing start b' ρ
  failing_over ρ x = let (p, e) = (failing_is start b ρ).0 x in (failing_is start b' ρ).1 (p, run_over p _ e)

  partial_over : (ρ : Trace) → Partial start b ρ → Partial start b' ρ
  partial_over ρ x = let (p, l, e) = (partial_is start b ρ).0 x in (partial_is start b' ρ).1 (p, l, run_over p _ e)

  takes_over : (p : Path) (ρ : Trace) → Takes start b p ρ → Takes start b' p ρ
  takes_over p ρ (l, e) = (l, run_over p _ e)

  precedes_over : (ρ π : Trace) → Precedes start b ρ π → Precedes start b' ρ π
  precedes_over ρ π x = record {
    path = x.path;
    other = x.other;
    takes = takes_over x.path ρ x.takes;
    other_takes = takes_over x.other π x.other_takes;
    before = x.before;
  }

  leaves_over : (p : Path) → Leaves start b p → Leaves start b' p
  leaves_over p x = record {
    point = x.point;
    trace = x.trace;
    stands = run_over p _ x.stands;
    due = subst (λ k. x.point < k) s.sizes x.due;
    coherent = x.coherent;
  }

  pair_over : (p q : Path) → SamePair start b p q → SamePair start b' p q
  pair_over p q x = record {
    point = x.point;
    trace = x.trace;
    other = x.other;
    stands = run_over p _ x.stands;
    other_stands = run_over q _ x.other_stands;
    windows = x.windows;
  }

  kind_over : (kind : Kind) (ρ : Trace) → OfKind start b kind ρ → OfKind start b' kind ρ
  kind_over breaking ρ (x, y) = (partial_over ρ x, y)
  kind_over failing ρ (x, y) = (failing_over ρ x, y)

-- ---- its events

module _ {ℓ} (Possible : State → Type ℓ) {start : Trace} {b b' : Block} (s : SameRuns start b b') where
  event_over : (ρ : Trace) → Event Possible start b ρ → Event Possible start b' ρ
  event_over ρ (Event.breaks x y) = Event.breaks (partial_over s ρ x) y
  event_over ρ (Event.fails x y) = Event.fails (failing_over s ρ x) y

  event_at_over : (p : Path) → EventAt Possible start b p → EventAt Possible start b' p
  event_at_over p (ρ, t, e) = (ρ, takes_over s p ρ t, event_over ρ e)

-- ---- its verdict, which needs the way back too: nothing of the other block comes earlier

module _ {ℓ} (Possible : State → Type ℓ) {start : Trace} {b b' : Block} (s : SameRuns start b b') where
  first_event_over : (ρ : Trace) → FirstEvent Possible start b ρ → FirstEvent Possible start b' ρ
  first_event_over ρ x = record {
    event = event_over Possible s ρ x.event;
    least = λ π y. later π (x.least π (event_over Possible (runs_turned s) π y));
  }
    where
      later : (π : Trace) → (π ≡ ρ) ⊎ Precedes start b ρ π → (π ≡ ρ) ⊎ Precedes start b' ρ π
      later π (inl e) = inl e
      later π (inr y) = inr (precedes_over s ρ π y)

  event_back : (p : Path) → EventAt Possible start b' p → (q : Path) × EventAt Possible start b q × AtOrBefore q p
  event_back p y = (p, event_at_over Possible (runs_turned s) p y, inl refl)

  count_over : (k : ℕ) → PairCount Possible start b k → PairCount Possible start b' k
  count_over k (f, x) = (
    f,
    same_lists Before before_join (Leaves start b) (Leaves start b') (SamePair start b) (SamePair start b')
        (EventAt Possible start b) (EventAt Possible start b')
        (leaves_over s) (leaves_over (runs_turned s)) (λ p q i j y. pair_over s p q y) (λ p q i j y. pair_over (runs_turned s) p q y)
        (event_at_over Possible s) event_back f k x,
  )

  passing_over : (n : ℕ) → PairsPass Possible start b n → PairsPass Possible start b' n
  passing_over = same_more Before before_join (Leaves start b) (Leaves start b') (SamePair start b) (SamePair start b')
      (EventAt Possible start b) (EventAt Possible start b')
      (leaves_over s) (leaves_over (runs_turned s)) (λ p q i j y. pair_over s p q y) (λ p q i j y. pair_over (runs_turned s) p q y)
      (event_at_over Possible s) event_back

  shows_over : (kind : Kind) (k : ℕ) (ls : List Letter) → Shows Possible start b kind k ls → Shows Possible start b' kind k ls
  shows_over kind k ls x = record {
    first_event = first_event_over (extend start ls) x.first_event;
    of_kind = kind_over s kind (extend start ls) x.of_kind;
    count = count_over k x.count;
  }

module _ {ℓ} (Possible : State → Type ℓ) {start : Trace} {b b' : Block} (s : SameRuns start b b') where
  verdict_over : (e : Edition) (n : ℕ) (output : List ℕ) (answer : VerdictAnswer) (output' : List ℕ)
      → IsVerdict Possible start b e n output answer output' → IsVerdict Possible start b' e n output answer output'
  verdict_over e n output answer output' x = record {
    full_exactly = (
      λ f. passing_over Possible s n (x.full_exactly.0 f),
      λ y. x.full_exactly.1 (passing_over Possible (runs_turned s) n y),
    );
    full_output = x.full_output;
    pass_exactly = λ u. (
      λ p. let (c, d) = (x.pass_exactly u).0 p in (λ ρ y. c ρ (partial_over (runs_turned s) ρ y), λ ρ y. d ρ (failing_over (runs_turned s) ρ y)),
      λ (c, d). (x.pass_exactly u).1 (λ ρ y. c ρ (partial_over s ρ y), λ ρ y. d ρ (failing_over s ρ y)),
    );
    pass_count = λ k f. let (c, o) = x.pass_count k f in (count_over Possible s k c, o);
    otherwise = λ u p. let (kind, k, ls, bytes, y, q, d) = x.otherwise u p in (kind, k, ls, bytes, shows_over Possible s kind k ls y, q, d);
  }

-- ---- blocks with the same points

module _ (start : Trace) (b b' : Block) (same_points : points b' ≡ points b) (same_size : size_block b' ≡ size_block b) where
  -- a run reads the points, and their number where it begins
  run_same : (p : Path) → run start b' p ≡ run start b p
  run_same p = λ i. walk (moves_at (same_points i)) (entry (same_size i) 0 (same_size i)) start p

  same_runs : SameRuns start b b'
  same_runs = record { runs = λ p. sym (run_same p); sizes = sym same_size }

  complete_same : (ρ : Trace) → Complete start b ρ → Complete start b' ρ
  complete_same = complete_over same_runs

  pub failing_same : (ρ : Trace) → Failing start b ρ → Failing start b' ρ
  failing_same = failing_over same_runs

  pub partial_same : (ρ : Trace) → Partial start b ρ → Partial start b' ρ
  partial_same = partial_over same_runs

  pub count_same {ℓ} : (Possible : State → Type ℓ) (k : ℕ) → PairCount Possible start b k → PairCount Possible start b' k
  count_same Possible = count_over Possible same_runs

  pub passing_same {ℓ} : (Possible : State → Type ℓ) (n : ℕ) → PairsPass Possible start b n → PairsPass Possible start b' n
  passing_same Possible = passing_over Possible same_runs

  pub shows_same {ℓ} : (Possible : State → Type ℓ) (kind : Kind) (k : ℕ) (ls : List Letter) → Shows Possible start b kind k ls
      → Shows Possible start b' kind k ls
  shows_same Possible = shows_over Possible same_runs

  pub verdict_same {ℓ} : (Possible : State → Type ℓ) (e : Edition) (n : ℕ) (output : List ℕ) (answer : VerdictAnswer) (output' : List ℕ)
      → IsVerdict Possible start b e n output answer output' → IsVerdict Possible start b' e n output answer output'
  verdict_same Possible = verdict_over Possible same_runs

-- ---- both ways

module _ (start : Trace) (b b' : Block) (same_points : points b' ≡ points b) (same_size : size_block b' ≡ size_block b) (ρ : Trace) where
  pub complete_both : Complete start b ρ ↔ Complete start b' ρ
  complete_both = (complete_same start b b' same_points same_size ρ, complete_same start b' b (sym same_points) (sym same_size) ρ)

  pub partial_both : Partial start b ρ ↔ Partial start b' ρ
  partial_both = (partial_same start b b' same_points same_size ρ, partial_same start b' b (sym same_points) (sym same_size) ρ)

  pub failing_both : Failing start b ρ ↔ Failing start b' ρ
  failing_both = (failing_same start b b' same_points same_size ρ, failing_same start b' b (sym same_points) (sym same_size) ρ)
