-- The table of pairs: "Pair number k lies in bytes 192 times k onward, k from 0" (SPEC 10.6; document 01).
use Rattle.std.specs.Prelude.{ℕ, zero, suc, ◌*◌, Bool, true, false, List, ◌++◌, take, drop}
use Rattle.base.specs.Choice.{pick}
use Rattle.window.specs.declared.Window.{Window}
use Rattle.records.specs.Formats.{pair_place}
use Rattle.records.specs.Records.{record_bytes, encoded_bytes, point_in, parent_in, branch_in, window_in, same_pair}

-- The bytes from record k on.
abbrev pub onward : List ℕ → ℕ → List ℕ
onward t k = drop (record_bytes * k) t

unfoldable pub point_at : List ℕ → ℕ → ℕ
point_at t k = point_in (onward t k)

unfoldable pub parent_at : List ℕ → ℕ → ℕ
parent_at t k = parent_in (onward t k)

unfoldable pub branch_at : List ℕ → ℕ → ℕ
branch_at t k = branch_in (onward t k)

unfoldable pub window_at : List ℕ → ℕ → Window
window_at t k = window_in (onward t k)

-- The table with r for its record k: the bytes before it and after it stay.
unfoldable pub put_at : List ℕ → ℕ → List ℕ → List ℕ
put_at t k r = take (record_bytes * k) t ++ (r ++ drop record_bytes (onward t k))

-- The bytes of pair k.
unfoldable pub pair_at : List ℕ → ℕ → List ℕ
pair_at t k = take encoded_bytes (drop pair_place (onward t k))

-- Whether pair k is this one.
unfoldable pub is_at : List ℕ → ℕ → List ℕ → Bool
is_at t k pair = same_pair pair (onward t k)

-- Whether one of the pairs below count is this one.
unfoldable pub is_listed : List ℕ → ℕ → List ℕ → Bool
is_listed t zero pair = false
is_listed t (suc k) pair = pick (is_at t k pair) (λ _. true) λ _. is_listed t k pair
