-- How the whole search ends, over a macro that was read.
use mathlib.Core.Path.{◌≡◌, refl}
use mathlib.Core.Bool.{true, false}
use mathlib.Core.List.{List}
use Prim.Native.Nat.{ℕ, ◌*◌, ◌≤◌, ◌<◌}
use native.Mathlib.Omega.{arith}
use lib.Dec.{eqb}
use lib.ListN.{length}
use borrow.Author.Tests.{eqb-true, eqb-false}
use Rattle.letters.specs.Capacity.{most_pairs}
use Rattle.base.proofs.Theory.Choice.{by_test}
use Rattle.records.specs.Records.{record_bytes, encoded, record_of}
use Rattle.table.specs.Table.{put_at}
use Rattle.std.specs.Prelude.{Ok}
use Rattle.exploration.specs.Exploring.{explore_of, search_of}
use Rattle.exploration.specs.Given.{Given}
use Rattle.exploration.proofs.Theory.Given.{header, end, held, fresh}
use Rattle.exploration.proofs.Theory.Explored.{SearchEnded, explored, first_listed, none_fits}

module _ (given : Given) (n : ℕ) (t : List ℕ) (most : n ≤ most_pairs) (room : record_bytes * n ≤ length t) where
  -- Where there is a point.
  pub search_ended : eqb (end given) 0 ≡ false
      → SearchEnded given n (search_of (header given) (held given) (end given) n t).0 (search_of (header given) (held given) (end given) n t).1
  unfolding search_of explore_of
  search_ended e = by_test (eqb n 0)
      (λ f. rw (e, f) (none_fits given n some_point (eqb-true n 0 f)))
      (λ f. rw (e, f) (explored given n (2 * n) 1 0 (put_at t 0 (record_of (encoded 0 (fresh given)) 0 0))
      (first_listed given n t some_point (let z = eqb-false n 0 f in omega arith) most room) (omega arith)))
    where
      some_point : 0 < end given
      some_point = let z = eqb-false (end given) 0 e in omega arith

  -- Without a point nothing is searched.
  pub search_empty : eqb (end given) 0 ≡ true → search_of (header given) (held given) (end given) n t ≡ (Ok 0, t)
  unfolding search_of
  search_empty e = rw e refl
