-- One move of the search (SPEC 10.2, 10.3, 10.6; document 01), as its code performs it: what it comes to, and the table afterwards.
use Rattle.std.specs.Prelude.{ℕ, ◌+◌, ◌/◌, ◌%◌, List, Result, Ok, Err, eqb, leb}
use Rattle.base.specs.Choice.{pick}
use Rattle.blocks.specs.declared.PointEntry.{PointEntry}
use Rattle.window.specs.declared.Window.{Window}
use Rattle.window.specs.Perform.{judge_of, perform_of}
use Rattle.records.specs.Records.{encoded, record_of}
use Rattle.table.specs.Table.{put_at, window_at, is_listed}
use Rattle.exploration.specs.declared.PointMove.{PointMove}
use Rattle.exploration.specs.declared.PointMove.TheVariants.{Nothing, Goes, Fails}
use Rattle.exploration.specs.declared.Stop.{Stop}
use Rattle.exploration.specs.declared.Stop.TheVariants.{Full, Breaking, Failing}
use Rattle.exploration.specs.Moves.{move_of}

-- Point k is reached with the window w: a pair, unless k is the end. Of the count of pairs: "full is given exactly when it passes N" (SPEC 10.6).
unfoldable pub reach_turn : ℕ → Window → ℕ → ℕ → ℕ → List ℕ → Result ℕ Stop
reach_turn k w end n count t =
    pick (leb end k) (λ _. Ok count) λ _. pick (is_listed t count (encoded k w)) (λ _. Ok count) λ _. pick (eqb count n) (λ _. Err Full) λ _. Ok (count + 1)

unfoldable pub reach_table : ℕ → Window → ℕ → ℕ → ℕ → ℕ → List ℕ → List ℕ
reach_table k w end n count d t =
    pick (leb end k) (λ _. t) λ _. pick (is_listed t count (encoded k w)) (λ _. t) λ _. pick (eqb count n) (λ _. t) λ _. put_at t count
    (record_of (encoded k w) (d / 2) (d % 2))

-- An assertion fails with the window w. "Infeasible executions are followed too" (SPEC 10.3), and are no event.
unfoldable pub fail_turn : Window → ℕ → ℕ → Result ℕ Stop
fail_turn w count d = pick w.infeasible (λ _. Ok count) λ _. Err (Failing count d)

-- A branch is taken with the window w. "A failing letter that is itself incoherent counts as incoherent." (SPEC 10.3)
unfoldable pub taken_turn : PointMove → Window → ℕ → ℕ → ℕ → ℕ → List ℕ → Result ℕ Stop
taken_turn Nothing w end n count d t = Ok count
taken_turn (Goes a k) w end n count d t = pick (judge_of w a) (λ _. reach_turn k (perform_of w a) end n count t) λ _. Err (Breaking count d)
taken_turn (Fails a) w end n count d t = pick (judge_of w a) (λ _. fail_turn (perform_of w a) count d) λ _. Err (Breaking count d)

unfoldable pub taken_table : PointMove → Window → ℕ → ℕ → ℕ → ℕ → List ℕ → List ℕ
taken_table Nothing w end n count d t = t
taken_table (Goes a k) w end n count d t = pick (judge_of w a) (λ _. reach_table k (perform_of w a) end n count d t) λ _. t
taken_table (Fails a) w end n count d t = t

-- Move number d: branch d % 2 of pair d / 2, whose point is x.
unfoldable pub turn_of : PointEntry → ℕ → ℕ → ℕ → ℕ → List ℕ → Result ℕ Stop
turn_of x end n count d t = taken_turn (move_of x (d % 2)) (window_at t (d / 2)) end n count d t

unfoldable pub table_of : PointEntry → ℕ → ℕ → ℕ → ℕ → List ℕ → List ℕ
table_of x end n count d t = taken_table (move_of x (d % 2)) (window_at t (d / 2)) end n count d t
