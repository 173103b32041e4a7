-- Laws of one move, as its code takes its ways.
use mathlib.Core.Path.{◌≡◌, refl, sym, ap, ◌∙◌}
use mathlib.Core.Logic.{◌≢◌}
use Prim.Native.Nat.{ℕ, ◌+◌, ◌/◌, ◌%◌, ◌≤◌, ◌<◌}
use mathlib.Core.Bool.{Bool, true, false}
use mathlib.Core.List.{List}
use borrow.Author.Tests.{le-leb, lt-leb, eq-eqb, ne_eqb}
use Rattle.letters.specs.declared.Letter.{Letter}
use Rattle.blocks.specs.declared.PointEntry.{PointEntry}
use Rattle.window.specs.declared.Window.{Window}
use Rattle.window.specs.Perform.{judge_of, perform_of}
use Rattle.records.specs.Records.{encoded, record_of}
use Rattle.table.specs.Table.{put_at, window_at, is_listed}
use Rattle.exploration.specs.declared.PointMove.{PointMove}
use Rattle.exploration.specs.declared.PointMove.TheVariants.{Nothing, Goes, Fails}
use Rattle.std.specs.Prelude.{Result, Ok, Err}
use Rattle.exploration.specs.declared.Stop.{Stop}
use Rattle.exploration.specs.declared.Stop.TheVariants.{Full, Breaking}
use Rattle.exploration.specs.Moves.{move_of}
use Rattle.exploration.specs.Turns.{reach_turn, reach_table, fail_turn, taken_turn, taken_table, turn_of, table_of}

-- ── a point is reached ──
module _ (k : ℕ) (w : Window) (end n count d : ℕ) (t : List ℕ) where
  abbrev Reached : Result ℕ Stop → List ℕ → Type 0
  Reached r t' = (r ≡ reach_turn k w end n count t) × (t' ≡ reach_table k w end n count d t)

  pub reach_ended : end ≤ k → Reached (Ok count) t
  unfolding reach_turn reach_table
  reach_ended l = (rw (le-leb end k l) refl, rw (le-leb end k l) refl)

  module _ (l : k < end) (pair : List ℕ) (found : Bool) (e : pair ≡ encoded k w) (f : found ≡ is_listed t count pair) where
    looked : found ≡ is_listed t count (encoded k w)
    looked = f ∙ ap (is_listed t count) e

    pub reach_seen : found ≡ true → Reached (Ok count) t
    unfolding reach_turn reach_table
    reach_seen g = (rw (lt-leb end k l, ← looked, g) refl, rw (lt-leb end k l, ← looked, g) refl)

    pub reach_full : found ≡ false → count ≡ n → Reached (Err Full) t
    unfolding reach_turn reach_table
    reach_full g h = (rw (lt-leb end k l, ← looked, g, eq-eqb count n h) refl, rw (lt-leb end k l, ← looked, g, eq-eqb count n h) refl)

    pub reach_new : found ≡ false → count ≢ n → (t' : List ℕ) → t' ≡ put_at t count (record_of pair (d / 2) (d % 2)) → Reached (Ok (count + 1)) t'
    unfolding reach_turn reach_table
    reach_new g h t' i = (
      rw (lt-leb end k l, ← looked, g, ne_eqb count n h) refl,
      i ∙ rw (lt-leb end k l, ← looked, g, ne_eqb count n h) (ap (λ p. put_at t count (record_of p (d / 2) (d % 2))) e),
    )

-- ── a move ──
module _ (x : PointEntry) (end n count d : ℕ) (t : List ℕ) (b : PointMove) (e : b ≡ move_of x (d % 2)) where
  abbrev Turned : Result ℕ Stop → List ℕ → Type 0
  Turned r t' = (r ≡ turn_of x end n count d t) × (t' ≡ table_of x end n count d t)

  pub turn_nothing : b ≡ Nothing → Turned (Ok count) t
  unfolding turn_of table_of taken_turn taken_table
  turn_nothing f = (rw (← e, f) refl, rw (← e, f) refl)

  module _ (a : Letter) (w : Window) (g : w ≡ window_at t (d / 2)) (ok : Bool) (h : ok ≡ judge_of w a) where
    judged : judge_of (window_at t (d / 2)) a ≡ ok
    judged = ap (λ v. judge_of v a) (sym g) ∙ sym h

    module _ (k : ℕ) (f : b ≡ Goes a k) where
      pub turn_goes : ok ≡ true → (after : Window) → after ≡ perform_of w a → (r : Result ℕ Stop) (t' : List ℕ)
          → r ≡ reach_turn k after end n count t → t' ≡ reach_table k after end n count d t → Turned r t'
      unfolding turn_of table_of taken_turn taken_table
      turn_goes i after j r t' p q = (
        p ∙ rw (← e, f, judged ∙ i) (ap (λ v. reach_turn k v end n count t) (j ∙ ap (λ v. perform_of v a) g)),
        q ∙ rw (← e, f, judged ∙ i) (ap (λ v. reach_table k v end n count d t) (j ∙ ap (λ v. perform_of v a) g)),
      )

      pub turn_breaks : ok ≡ false → Turned (Err (Breaking count d)) t
      unfolding turn_of table_of taken_turn taken_table
      turn_breaks i = (rw (← e, f, judged ∙ i) refl, rw (← e, f, judged ∙ i) refl)

    module _ (f : b ≡ Fails a) where
      pub turn_fails : ok ≡ true → (after : Window) → after ≡ perform_of w a → (r : Result ℕ Stop) → r ≡ fail_turn after count d → Turned r t
      unfolding turn_of table_of taken_turn taken_table
      turn_fails i after j r p = (
        p ∙ rw (← e, f, judged ∙ i) (ap (λ v. fail_turn v count d) (j ∙ ap (λ v. perform_of v a) g)),
        rw (← e, f) refl,
      )

      pub turn_breaks_failing : ok ≡ false → Turned (Err (Breaking count d)) t
      unfolding turn_of table_of taken_turn taken_table
      turn_breaks_failing i = (rw (← e, f, judged ∙ i) refl, rw (← e, f) refl)
