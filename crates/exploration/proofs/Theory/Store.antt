-- The pairs in the records of the table as a listing, and what a record that is written changes.
use mathlib.Core.Path.{◌≡◌}
use mathlib.Core.Logic.{◌≢◌}
use Prim.Native.Nat.{ℕ, zero, suc, ◌+◌, ◌*◌, ◌≤◌, ◌<◌}
use native.Mathlib.Omega.{arith}
use mathlib.Core.List.{List}
use lib.ListN.{length}
use Rattle.macros.specs.Order.{Branch, first, second}
use Rattle.verdict_theory.proofs.Theory.Listing.{Listing}
use Rattle.window.specs.declared.Window.{Window}
use Rattle.records.specs.Records.{record_bytes, encoded, record_of}
use Rattle.records.proofs.Theory.Storable.{Storable}
use Rattle.table.specs.Table.{put_at, point_at, window_at, parent_at, branch_at}
use Rattle.table.proofs.Theory.TableLaws.{PairStored, put_length, point_other, parent_other, branch_other, window_other, kept_other, record_length, point_same}
use Rattle.table.proofs.Theory.TableLaws.{window_same, parent_same, branch_same, kept_same}

-- The branch of a number, 0 the first.
abbrev pub branch_numbered : ℕ → Branch
branch_numbered zero = first
branch_numbered (suc n) = second

-- The first count pairs of a table as a listing.
abbrev pub listed : List ℕ → ℕ → Listing (ℕ × Window)
listed t count = record { count = count; state = λ j. (point_at t j, window_at t j); parent = parent_at t; branch = λ j. branch_numbered (branch_at t j) }

-- Record k is written: point p with the window w, reached from pair i by branch b.
module _ (t : List ℕ) (k p i b : ℕ) (w : Window) (fits : record_bytes * k + record_bytes ≤ length t) (s : Storable w) where
  abbrev put : List ℕ
  put = put_at t k (record_of (encoded p w) i b)

  pub written : p < 65536 → i < 65536 → b < 2 → (point_at put k ≡ p) × (window_at put k ≡ w) × (parent_at put k ≡ i) × (branch_at put k ≡ b) × PairStored put k
  written pb ib bb = (
    point_same t k p i b w fits s pb,
    window_same t k p i b w fits s,
    parent_same t k p i b w fits s ib,
    branch_same t k p i b w fits s (omega arith),
    kept_same t k p i b w fits s pb,
  )

  -- the records before it stay
  pub others : (j : ℕ) → j < k
      → (point_at put j ≡ point_at t j) × (window_at put j ≡ window_at t j) × (parent_at put j ≡ parent_at t j) × (branch_at put j ≡ branch_at t j)
      × (PairStored t j → PairStored put j)
  others j l =
      let long = record_length t k p i b w fits s in
      let e : j ≢ k = λ z. omega arith in (
        point_other t k (record_of (encoded p w) i b) fits long j e,
        window_other t k (record_of (encoded p w) i b) fits long j e,
        parent_other t k (record_of (encoded p w) i b) fits long j e,
        branch_other t k (record_of (encoded p w) i b) fits long j e,
        kept_other t k (record_of (encoded p w) i b) fits long j e,
      )

  pub put_long : length put ≡ length t
  put_long = put_length t k (record_of (encoded p w) i b) fits (record_length t k p i b w fits s)
