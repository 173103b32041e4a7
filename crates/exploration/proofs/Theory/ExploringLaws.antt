-- Laws of the loop of the search.
use mathlib.Core.Path.{◌≡◌, refl, sym, ap, ◌∙◌, subst}
use mathlib.Core.Logic.{◌≢◌}
use Prim.Native.Nat.{ℕ, zero, suc, ◌+◌, ◌-◌, ◌*◌, ◌/◌, ◌%◌, ◌≤◌, ◌<◌}
use native.Mathlib.Omega.{arith}
use mathlib.Core.List.{List}
use lib.Dec.{eqb, leb}
use borrow.Author.Tests.{lt-ltb, le-ltb, eqb-false, ne_eqb}
use Rattle.letters.specs.declared.Header.{Header}
use Rattle.base.proofs.Theory.Choice.{by_test}
use Rattle.window.specs.declared.Window.{Window}
use Rattle.window.specs.Perform.{judge_of, perform_of, fresh_of}
use Rattle.records.specs.Records.{encoded, record_of}
use Rattle.table.specs.Table.{window_at, is_listed, put_at}
use Rattle.blocks.specs.declared.PointEntry.{PointEntry}
use Rattle.exploration.specs.declared.PointMove.{PointMove}
use Rattle.exploration.specs.declared.PointMove.TheVariants.{Nothing, Goes, Fails}
use Rattle.std.specs.Prelude.{Result, Ok, Err}
use Rattle.exploration.specs.declared.Stop.{Stop}
use Rattle.exploration.specs.Moves.{move_of}
use Rattle.exploration.specs.Turns.{reach_turn, fail_turn, taken_turn, turn_of, table_of}
use Rattle.exploration.specs.Exploring.{point_of, on_turn, explore_from, explore_of, search_of}

-- ── the count stays within the table ──
-- the count that a move goes on with
abbrev pub CountWithin : ℕ → ℕ → Result ℕ Stop → Type 0
CountWithin count n (Ok m) = (count ≤ m) × (m ≤ n)
CountWithin count n (Err s) = Unit {0}

module _ (n count : ℕ) (l : count ≤ n) where
  reach_within : (k : ℕ) (w : Window) (end : ℕ) (t : List ℕ) → CountWithin count n (reach_turn k w end n count t)
  unfolding reach_turn
  reach_within k w end t = by_test (leb end k) (λ e. rw e (omega arith, omega arith)) λ e. rw e
      (by_test (is_listed t count (encoded k w)) (λ f. rw f (omega arith, omega arith))
      λ f. rw f (by_test (eqb count n) (λ g. rw g tt) λ g. rw g (omega arith, let h = eqb-false count n g in omega arith)))

  fail_within : (w : Window) (d : ℕ) → CountWithin count n (fail_turn w count d)
  unfolding fail_turn
  fail_within w d = by_test w.infeasible (λ e. rw e (omega arith, omega arith)) (λ e. rw e tt)

  taken_within : (b : PointMove) (w : Window) (end d : ℕ) (t : List ℕ) → CountWithin count n (taken_turn b w end n count d t)
  unfolding taken_turn
  taken_within Nothing w end d t = (omega arith, omega arith)
  taken_within (Goes a k) w end d t = by_test (judge_of w a) (λ e. rw e (reach_within k (perform_of w a) end t)) (λ e. rw e tt)
  taken_within (Fails a) w end d t = by_test (judge_of w a) (λ e. rw e (fail_within (perform_of w a) d)) (λ e. rw e tt)

  pub turn_within : (x : PointEntry) (end d : ℕ) (t : List ℕ) → CountWithin count n (turn_of x end n count d t)
  unfolding turn_of
  turn_within x end d t = taken_within (move_of x (d % 2)) (window_at t (d / 2)) end d t

-- ── the loop ──
module _ (ps : List PointEntry) (end n count d : ℕ) (t : List ℕ) where
  abbrev From : ℕ → ℕ → List ℕ → Result ℕ Stop × List ℕ
  From m e u = explore_from (2 * n - e) ps end n m e u

  -- a turn of it
  step : (f : ℕ) → 2 * n - d ≡ suc f → d < 2 * count
      → From count d t ≡ on_turn (turn_of (point_of ps t (d / 2)) end n count d t) (table_of (point_of ps t (d / 2)) end n count d t)
      λ m. explore_from f ps end n m (d + 1) (table_of (point_of ps t (d / 2)) end n count d t)
  unfolding explore_from
  step f e l = rw (e, lt-ltb d (2 * count) l) refl

  module _ (bound : count ≤ n) (l : d < 2 * count) (x : PointEntry) (turn : Result ℕ Stop) (u : List ℕ) (i : x ≡ point_of ps t (d / 2))
      (g : turn ≡ turn_of x end n count d t) (h : u ≡ table_of x end n count d t) where
    turned : From count d t ≡ on_turn turn u λ m. From m (d + 1) u
    turned =
        step (2 * n - (d + 1)) (omega arith) l
        ∙ λ j. on_turn (turn_same j) (table_same j) λ m. explore_from (2 * n - (d + 1)) ps end n m (d + 1) (table_same j)
      where
        turn_same : turn_of (point_of ps t (d / 2)) end n count d t ≡ turn
        turn_same = ap (λ y. turn_of y end n count d t) (sym i) ∙ sym g

        table_same : table_of (point_of ps t (d / 2)) end n count d t ≡ u
        table_same = ap (λ y. table_of y end n count d t) (sym i) ∙ sym h

    pub goes_on : (m : ℕ) → turn ≡ Ok m → From count d t ≡ From m (d + 1) u
    goes_on m e = turned ∙ ap (λ r. on_turn r u λ m. From m (d + 1) u) e

    pub ends_stopped : (s : Stop) → turn ≡ Err s → From count d t ≡ (Err s, u)
    ends_stopped s e = turned ∙ ap (λ r. on_turn r u λ m. From m (d + 1) u) e

    pub on_within : (m : ℕ) → turn ≡ Ok m → (count ≤ m) × (m ≤ n)
    on_within m e = let f : Ok m ≡ turn_of x end n count d t = sym e ∙ g in let w = turn_within n count bound x end d t in subst (CountWithin count n) (sym f) w

  -- its end
  pub ends_pass : 2 * count ≤ d → From count d t ≡ (Ok count, t)
  unfolding explore_from
  ends_pass l = go (2 * n - d)
    where
      go : (f : ℕ) → explore_from f ps end n count d t ≡ (Ok count, t)
      go zero = refl
      go (suc f) = rw (le-ltb d (2 * count) l) refl

-- ── the whole search ──
pub search_goes : (h : Header) (ps : List PointEntry) (end n : ℕ) (t : List ℕ) → end ≢ 0 → n ≢ 0 → (w : Window) (pair u : List ℕ) → w ≡ fresh_of h.registers
    → pair ≡ encoded 0 w
    → u ≡ put_at t 0 (record_of pair 0 0) → (r : Result ℕ Stop) (v : List ℕ) → r ≡ (explore_of ps end n u).0 → v ≡ (explore_of ps end n u).1
    → (r ≡ (search_of h ps end n t).0) × (v ≡ (search_of h ps end n t).1)
unfolding search_of
search_goes h ps end n t a b w pair u e f g r v x y =
    let z : u ≡ put_at t 0 (record_of (encoded 0 (fresh_of h.registers)) 0 0) = g ∙ ap (λ q. put_at t 0 (record_of q 0 0)) (f ∙ ap (encoded 0) e) in (
      x ∙ rw (ne_eqb end 0 a, ne_eqb n 0 b) (ap (λ q. (explore_of ps end n q).0) z),
      y ∙ rw (ne_eqb end 0 a, ne_eqb n 0 b) (ap (λ q. (explore_of ps end n q).1) z),
    )
