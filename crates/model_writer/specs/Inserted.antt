-- Bytes laid into a list at a place, one part after another.
use Rattle.std.specs.Prelude.{List, ◌++◌, ℕ, ◌+◌, length, take, drop}

-- l with `bytes` in place of what stood from `at` on.
unfoldable pub inserted : ℕ → List ℕ → List ℕ → List ℕ
inserted at bytes l = take at l ++ (bytes ++ drop (at + length bytes) l)
