-- The moves of the search, as its code performs them: how it ends, and the table afterwards. The order is that of SPEC 10.1, "shorter first, then
-- by branch": the pairs as they were listed, and at each the first branch before the second. So move number d is branch d % 2 of pair d / 2.
use Rattle.std.specs.Prelude.{ℕ, zero, suc, ◌+◌, ◌*◌, ◌/◌, ◌%◌, List, Result, Ok, Err, ltb, eqb, get_or}
use Rattle.base.specs.Choice.{pick}
use Rattle.blocks.specs.declared.PointEntry.{PointEntry}
use Rattle.letters.specs.declared.Header.{Header}
use Rattle.grammar.specs.Limits.{most_points}
use Rattle.window.specs.Perform.{fresh_of}
use Rattle.records.specs.Records.{encoded, record_of}
use Rattle.table.specs.Table.{point_at, put_at}
use Rattle.blocks.specs.Held.{unused_point}
use Rattle.exploration.specs.declared.Stop.{Stop}
use Rattle.exploration.specs.declared.Stop.TheVariants.{Full}
use Rattle.exploration.specs.Turns.{turn_of, table_of}

-- The point of pair i.
abbrev pub point_of : List PointEntry → List ℕ → ℕ → PointEntry
point_of ps t i = get_or ps (point_at t i % most_points) unused_point

-- What follows a move that leaves the table t: the search goes on, or it ends.
abbrev pub on_turn : Result ℕ Stop → List ℕ → (ℕ → Result ℕ Stop × List ℕ) → Result ℕ Stop × List ℕ
on_turn (Ok m) t next = next m
on_turn (Err s) t next = (Err s, t)

-- From move number d on, of which at most f more are performed. There are no more than 2 n moves.
unfoldable pub explore_from : ℕ → List PointEntry → ℕ → ℕ → ℕ → ℕ → List ℕ → Result ℕ Stop × List ℕ
explore_from zero ps end n count d t = (Ok count, t)
explore_from (suc f) ps end n count d t =
    pick (ltb d (2 * count))
    (λ _. on_turn (turn_of (point_of ps t (d / 2)) end n count d t) (table_of (point_of ps t (d / 2)) end n count d t) λ m. explore_from f ps end n m (d + 1)
    (table_of (point_of ps t (d / 2)) end n count d t))
    λ _. (Ok count, t)

-- From the pair in record 0 of the table on.
unfoldable pub explore_of : List PointEntry → ℕ → ℕ → List ℕ → Result ℕ Stop × List ℕ
explore_of ps end n t = explore_from (2 * n) ps end n 1 0 t

-- The whole search in a table that holds n pairs.
unfoldable pub search_of : Header → List PointEntry → ℕ → ℕ → List ℕ → Result ℕ Stop × List ℕ
search_of h ps end n t =
    pick (eqb end 0) (λ _. (Ok 0, t)) λ _.
    pick (eqb n 0) (λ _. (Err Full, t)) λ _. explore_of ps end n (put_at t 0 (record_of (encoded 0 (fresh_of h.registers)) 0 0))
