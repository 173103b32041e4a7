-- What a move of the search keeps: the windows of the pairs listed before it; and that heads and links are an index of the pairs listed after it.
use Rattle.std.specs.Prelude.{◌≡◌, ◌≢◌, ℕ, ◌/◌, ◌%◌, ◌<◌, List, Result, Ok}
use Rattle.window.specs.declared.Window.{Window}
use Rattle.table.specs.Table.{window_at}
use Rattle.index.specs.Index.{IndexedPairs}
use Rattle.exploration.specs.declared.Stop.{Stop}

-- w is the window of the pair of move number d, where that is the pair's second move.
pub record Carried (w : Window) (d : ℕ) (t : List ℕ) : Type 0 where
  pub window : d % 2 ≢ 0 → w ≡ window_at t (d / 2)

-- After a move with count pairs in the table t, that came to a turn and left the table t' and the index of these heads and links.
pub record Keeps (count : ℕ) (t : List ℕ) (turn : Result ℕ Stop) (t' head link : List ℕ) : Type 0 where
  pub windows : (j : ℕ) → j < count → window_at t' j ≡ window_at t j
  pub indexed : (m : ℕ) → turn ≡ Ok m → IndexedPairs t' head link m
