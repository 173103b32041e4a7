-- What the loop of the search keeps.
use Rattle.std.specs.Prelude.{◌≡◌, ℕ, ◌-◌, ◌*◌, ◌≤◌, List, length}
use Rattle.blocks.specs.declared.PointEntry.{PointEntry}
use Rattle.window.specs.declared.Window.{Window}
use Rattle.index.specs.Index.{IndexedPairs}
use Rattle.exploration.specs.Exploring.{explore_from, explore_of}
use Rattle.exploration.specs.Keeping.{Carried}

-- Behind the moves below d, with count pairs in the table t, which was `start`, their index, and the window w.
pub record UnderWay (points : List PointEntry) (end room : ℕ) (start t head link : List ℕ) (w : Window) (count d : ℕ) : Type 0 where
  pub some : 1 ≤ count
  pub listed : count ≤ room
  pub behind : d ≤ 2 * count
  pub as_long : length t ≡ length start
  pub rest : explore_from (2 * room - d) points end room count d t ≡ explore_of points end room start
  pub carried : Carried w d t
  pub indexed : IndexedPairs t head link count
