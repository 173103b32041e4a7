-- What holds before each move of the search, and what a move makes of it.
use mathlib.Core.Path.{◌≡◌, refl, sym, ap, ◌∙◌, subst}
use mathlib.Core.Bool.{Bool, true, false}
use mathlib.Core.List.{List}
use mathlib.Core.Option.{Option}
use Prim.Native.Nat.{ℕ, zero, suc, ◌+◌, ◌*◌, ◌/◌, ◌%◌, ◌≤◌, ◌<◌}
use native.Mathlib.Omega.{arith}
use lib.Dec.{eqb, leb, ltb}
use lib.ListN.{length}
use borrow.Author.Tests.{lt-ltb, le-ltb, ltb-true, ltb-false, leb-true, leb-false, eqb-true, eqb-false}
use Rattle.letters.specs.Capacity.{most_pairs}
use Rattle.base.specs.Choice.{pick}
use Rattle.base.proofs.Theory.Choice.{by_test}
use Rattle.letters.specs.declared.Letter.{Letter}
use Rattle.letters.specs.Letters.{Fits}
use Rattle.semantics.specs.Terms.{Trace, ◌▸◌, state}
use Rattle.semantics.proofs.Theory.Facts.{state_valid}
use Rattle.semantics.specs.Coherence.{Coherent}
use Rattle.macros.specs.Order.{Branch, Before}
use Rattle.macros.specs.Walk.{at, failure}
use Rattle.macros.specs.Points.{points, moves_at}
use Rattle.macros.proofs.Theory.Fitting.{FormedUnder, FitsMove}
use Rattle.verdict_theory.specs.Count.{More}
use Rattle.verdict_theory.proofs.Theory.System.{stop, event, next, Leads, LeadAlike, Meets}
use Rattle.verdict_theory.proofs.Theory.Listing.{turn, Searching, Extends, passes, meets, grows, new_more}
use Rattle.verdict_theory.specs.Verdict.{breaking, failing}
use Rattle.verdict_theory.proofs.Theory.Moves.{Step, reach, reached, performed, moving}
use Rattle.verdict_theory.proofs.Theory.Pairs.{starting, stepping}
use Rattle.window.specs.declared.Window.{Window}
use Rattle.window.specs.Perform.{judge_of, perform_of}
use Rattle.window.specs.Step.{IsWindow}
use Rattle.records.specs.Records.{record_bytes, encoded, record_of}
use Rattle.records.proofs.Theory.Storable.{Storable}
use Rattle.table.specs.Table.{put_at, point_at, window_at, parent_at, branch_at, is_listed}
use Rattle.table.proofs.Theory.TableLaws.{PairStored, found as found_pair, nowhere}
use Rattle.stored.proofs.Theory.Stored.{storable}
use Rattle.exploration.specs.declared.PointMove as enum
use Rattle.exploration.specs.declared.PointMove.TheVariants.{Nothing, Goes, Fails}
use Rattle.std.specs.Prelude.{Result, Ok, Err}
use Rattle.exploration.specs.declared.Stop.{Stop}
use Rattle.exploration.specs.declared.Stop.TheVariants.{Full, Breaking, Failing}
use Rattle.exploration.specs.Moves.{move_of}
use Rattle.exploration.specs.Turns.{reach_turn, reach_table, fail_turn, taken_turn, taken_table, turn_of, table_of}
use Rattle.exploration.specs.Exploring.{point_of}
use Rattle.exploration.proofs.Theory.Store.{branch_numbered, listed, written, others, put_long}
use Rattle.exploration.specs.HeldPoints.{meant}
use Rattle.exploration.proofs.Theory.Watching.{performing, performing_yes, performing_no, infeasible_in}
use Rattle.exploration.specs.Given.{Given}
use Rattle.exploration.proofs.Theory.Given.{header, body, end, held, setting, branch_held, moves_fit}

-- move number d is branch d % 2 of pair d / 2
pub turn-of : (d : ℕ) → turn (d / 2) (branch_numbered (d % 2)) ≡ d
turn-of d = go (d % 2) refl
  where
    go : (r : ℕ) → d % 2 ≡ r → turn (d / 2) (branch_numbered r) ≡ d
    go zero e = omega arith
    go (suc zero) e = omega arith
    go (suc (suc r)) e = absurd (omega arith)

-- The search for the verdict on a macro.
module _ (given : Given) where
  abbrev pub starts : Option (ℕ × Window)
  starts = starting (setting given)

  abbrev pub step : ℕ × Window → Branch → Step Window
  step = stepping (setting given)

  -- w is the window of a coherent trace.
  abbrev pub Live : Window → Type 0
  Live w = (ρ : Trace) × FormedUnder (header given) ρ × Coherent ρ × IsWindow (state ρ) w

  abbrev pub Passing : ℕ → Type 0
  Passing n = More Before (Leads starts step) (LeadAlike starts step) (Meets starts step) n

  -- Before move number d, with count pairs listed in the table t, which holds n.
  pub record Going (n count d : ℕ) (t : List ℕ) : Type 0 where
    pub searching : Searching starts step (listed t count) d
    pub kept : (j : ℕ) → j < count → PairStored t j
    pub live : (j : ℕ) → j < count → Live (window_at t j)
    pub due : (j : ℕ) → j < count → point_at t j < end given
    pub within : count ≤ n
    pub behind : d ≤ 2 * count
    pub most : n ≤ most_pairs
    pub room : record_bytes * n ≤ length t

  -- What a move comes to.
  abbrev pub Turned : ℕ → ℕ → ℕ → List ℕ → Result ℕ Stop → List ℕ → Type 0
  Turned n count d t (Ok m) u = Going n m (d + 1) u
  Turned n count d t (Err Full) u = Passing n
  Turned n count d t (Err (Breaking k e)) u =
      (step (point_at t (d / 2), window_at t (d / 2)) (branch_numbered (d % 2)) ≡ event breaking) × (u ≡ t) × (k ≡ count) × (e ≡ d)
  Turned n count d t (Err (Failing k e)) u =
      (step (point_at t (d / 2), window_at t (d / 2)) (branch_numbered (d % 2)) ≡ event failing) × (u ≡ t) × (k ≡ count) × (e ≡ d)

  module _ (n count d : ℕ) (t : List ℕ) (g : Going n count d t) (l : d < 2 * count) where
    abbrev i : ℕ
    i = d / 2

    abbrev b : Branch
    b = branch_numbered (d % 2)

    abbrev k : ℕ
    k = point_at t (d / 2)

    abbrev w : Window
    w = window_at t (d / 2)

    here : Searching starts step (listed t count) (turn (d / 2) (branch_numbered (d % 2)))
    here = subst (Searching starts step (listed t count)) (sym (turn-of d)) g.searching

    onward : (m : ℕ) (u : List ℕ) → Searching starts step (listed u m) (suc (turn (d / 2) (branch_numbered (d % 2))))
        → Searching starts step (listed u m) (d + 1)
    onward m u v = subst (Searching starts step (listed u m)) (let e = turn-of d in omega arith) v

    -- nothing is listed anew
    stays : Searching starts step (listed t count) (suc (turn (d / 2) (branch_numbered (d % 2)))) → Going n count (d + 1) t
    stays v = record {
      searching = onward count t v;
      kept = g.kept;
      live = g.live;
      due = g.due;
      within = g.within;
      behind = omega arith;
      most =
          g.most;
      room = g.room;
    }

    stopped : step (k, w) b ≡ stop → Going n count (d + 1) t
    stopped e = stays (passes starts step (listed t count) i b here e)

    -- a pair that follows
    module _ (p : ℕ) (v : Window) (e : step (k, w) b ≡ next (p, v)) (lv : Live v) (q : p < end given) where
      fits_record : Storable v
      fits_record = storable (state lv.0) (state_valid lv.0 lv.1.0) v lv.3

      listed_already : is_listed t count (encoded p v) ≡ true → Going n count (d + 1) t
      listed_already f =
          let (j, r, x, y) = found_pair t count p v (omega (arith, given.few)) fits_record f in
          stays (meets starts step (listed t count) i b (p, v) j here e r (λ z. (x z, y z)))

      new : is_listed t count (encoded p v) ≡ false → (j : ℕ) → j < count → ◌≡◌ {A = ℕ × Window} (point_at t j, window_at t j) (p, v) → ⊥
      new f j r x = nowhere t count p v f j r (g.kept j r) (ap (λ z. z.0) x, ap (λ z. z.1) x)

      too_many : is_listed t count (encoded p v) ≡ false → count ≡ n → Passing n
      too_many f x = subst Passing x (new_more starts step (listed t count) i b (p, v) here (omega arith) e (new f))

      module _ (f : is_listed t count (encoded p v) ≡ false) (x : count < n) where
        abbrev u : List ℕ
        u = put_at t count (record_of (encoded p v) (d / 2) (d % 2))

        fits : record_bytes * count + record_bytes ≤ length t
        fits = let r = g.room in omega arith

        bound : d < 2 * most_pairs
        bound = let r = g.most in omega arith

        at_new : (point_at u count ≡ p) × (window_at u count ≡ v) × (parent_at u count ≡ d / 2) × (branch_at u count ≡ d % 2) × PairStored u count
        at_new = written t count p (d / 2) (d % 2) v fits fits_record (omega (arith, given.few)) (omega (arith, bound)) (omega arith)

        at_old : (j : ℕ) → j < count → (point_at u j ≡ point_at t j) × (window_at u j ≡ window_at t j) × (parent_at u j ≡ parent_at t j)
            × (branch_at u j ≡ branch_at t j) × (PairStored t j → PairStored u j)
        at_old j r = others t count p (d / 2) (d % 2) v fits fits_record j r

        one_more : Extends (listed t count) (p, v) i b (listed u (count + 1))
        one_more = record {
          count = omega arith;
          states = λ j r m. ((at_old j r).0 m, (at_old j r).1 m);
          parents = λ j r. (at_old j r).2;
          branches = λ j r. ap branch_numbered (at_old j r).3;
          state = λ m. (at_new.0 m, at_new.1 m);
          parent = at_new.2;
          branch = ap branch_numbered at_new.3;
        }

        by_place : (P : ℕ → Type 0) → ((j : ℕ) → j < count → P j) → P count → (j : ℕ) → j < count + 1 → P j
        by_place P old last j r = by_test (ltb j count) (λ y. old j (ltb-true j count y)) (λ y. subst P (let z = ltb-false j count y in omega arith) last)

        listed_anew : Going n (count + 1) (d + 1) u
        listed_anew = record {
          searching = onward (count + 1) u (grows starts step (listed t count) i b (p, v) (listed u (count + 1)) here (omega arith) e (new f) one_more);
          kept = by_place (PairStored u) (λ j r. (at_old j r).4 (g.kept j r)) at_new.4;
          live = by_place (λ j. Live (window_at u j)) (λ j r. subst Live (sym (at_old j r).1) (g.live j r)) (subst Live (sym at_new.1) lv);
          due = by_place (λ j. point_at u j < end given) (λ j r. subst (λ z. z < end given) (sym (at_old j r).0) (g.due j r))
              (subst (λ z. z < end given) (sym at_new.0) q);
          within = omega arith;
          behind = omega arith;
          most = g.most;
          room = let y = put_long t count p (d / 2) (d % 2) v fits fits_record in let r = g.room in omega arith;
        }

      found : Turned n count d t (pick (is_listed t count (encoded p v)) (λ _. Ok count) λ _. pick (eqb count n) (λ _. Err Full) λ _. Ok (count + 1))
          (pick (is_listed t count (encoded p v)) (λ _. t) λ _. pick (eqb count n) (λ _. t) λ _. put_at t count (record_of (encoded p v) (d / 2) (d % 2)))
      found = by_test (is_listed t count (encoded p v))
          (λ f. rw f (listed_already f))
          λ f. rw f (by_test (eqb count n)
          (λ y. rw y (too_many f (eqb-true count n y)))
          λ y. rw y (listed_anew f (let z = eqb-false count n y in let r = g.within in omega arith)))

    -- a letter that is coherent: the window after it
    module _ (a : Letter) (c : Fits (header given) a) (ok : judge_of w a ≡ true) where
      live_after : Live (perform_of w a)
      live_after =
          let (ρ, f, co, tr) = g.live i (omega arith) in
          let f' : FormedUnder (header given) (ρ ▸ a) = ((f.0, subst (λ z. Fits z a) (sym f.1) c), f.1) in
          let (cl, tr') = (setting given).monitor.goes ρ a w (perform_of w a) f' co tr (performing_yes w a ok) in
          (ρ ▸ a, f', (co, cl), tr')

      reaching : (p : ℕ) → step (k, w) b ≡ reach performing infeasible_in (end given) p (perform_of w a)
          → Turned n count d t (reach_turn p (perform_of w a) (end given) n count t) (reach_table p (perform_of w a) (end given) n count d t)
      unfolding reach_turn reach_table
      reaching p e = by_test (leb (end given) p)
          (λ y. rw y (stopped (e ∙ at_end (ltb p (end given)) (le-ltb p (end given) (leb-true (end given) p y)))))
          (λ y. rw y (let q = leb-false (end given) p y in found p (perform_of w a) (e ∙ at_pair (ltb p (end given)) (lt-ltb p (end given) q)) live_after q))
        where
          at_end : (z : Bool) → z ≡ false → ◌≡◌ {A = Step Window} (elim z [ true ↦ next (p, perform_of w a) | false ↦ stop ]) stop
          at_end true z = absurd (let y : ◌≡◌ {A = ℕ} 0 1 = cc in omega arith)
          at_end false z = refl

          at_pair : (z : Bool) → z ≡ true → ◌≡◌ {A = Step Window} (elim z [ true ↦ next (p, perform_of w a) | false ↦ stop ]) (next (p, perform_of w a))
          at_pair true z = refl
          at_pair false z = absurd (let y : ◌≡◌ {A = ℕ} 0 1 = cc in omega arith)

      failed : step (k, w) b ≡ reached performing infeasible_in (end given) failure (perform_of w a) → Turned n count d t (fail_turn (perform_of w a) count d) t
      unfolding fail_turn
      failed e = by_test (perform_of w a).infeasible
          (λ y. rw y (stopped (e ∙ ap (λ z. elim z [ true ↦ stop | false ↦ event failing ]) y)))
          (λ y. rw y (e ∙ ap (λ z. elim z [ true ↦ stop | false ↦ event failing ]) y, refl, refl, refl))

    -- the branch that the move takes
    taken : (o : enum.PointMove) → moves_at (points (body given)) k b ≡ meant o
        → Turned n count d t (taken_turn o w (end given) n count d t) (taken_table o w (end given) n count d t)
    unfolding taken_turn taken_table
    taken Nothing e = stopped (ap (moving performing infeasible_in (end given) w) e)
    taken (Goes a p) e = by_test (judge_of w a)
        (λ y. rw y (reaching a (subst (FitsMove (header given)) e (moves_fit given k b)) y p
        (ap (moving performing infeasible_in (end given) w) e ∙ ap (performed performing infeasible_in (end given) (at p)) (performing_yes w a y))))
        (λ y. rw y (
          ap (moving performing infeasible_in (end given) w) e
              ∙ ap (performed performing infeasible_in (end given) (at p)) (performing_no w a y),
          refl,
          refl,
          refl,
        ))
    taken (Fails a) e = by_test (judge_of w a)
        (λ y. rw y (failed a (subst (FitsMove (header given)) e (moves_fit given k b)) y
        (ap (moving performing infeasible_in (end given) w) e ∙ ap (performed performing infeasible_in (end given) failure) (performing_yes w a y))))
        (λ y. rw y (
          ap (moving performing infeasible_in (end given) w) e
              ∙ ap (performed performing infeasible_in (end given) failure) (performing_no w a y),
          refl,
          refl,
          refl,
        ))

    pub turned : Turned n count d t (turn_of (point_of (held given) t (d / 2)) (end given) n count d t)
        (table_of (point_of (held given) t (d / 2)) (end given) n count d t)
    unfolding turn_of table_of
    turned = taken (move_of (point_of (held given) t (d / 2)) (d % 2)) (sym (branch_held given k (d % 2) (g.due i (omega arith))))
