-- Which applications have a row of their own.
use Rattle.std.specs.Prelude.{◌≡◌, List, ℕ, suc, ◌≤◌, ◌<◌}
use Rattle.closure.specs.Arrays.{entry_at, IndexedTerms}

-- Applications m and i are of one function, with arguments of the same classes.
pub record Alike (representative function first second : List ℕ) (m i : ℕ) : Type 0 where
  pub functions : entry_at function m ≡ entry_at function i
  pub firsts : entry_at representative (entry_at first m) ≡ entry_at representative (entry_at first i)
  pub seconds : entry_at representative (entry_at second m) ≡ entry_at representative (entry_at second i)

-- b is 1 if no application before i is like application i, and 0 if one is.
pub data New (representative function first second : List ℕ) (registers i : ℕ) : ℕ → Type 0 where
  new : ((m : ℕ) → registers ≤ m → m < i → ¬ Alike representative function first second m i) → New representative function first second registers i 1
  old : (m : ℕ) → registers ≤ m → m < i → Alike representative function first second m i → New representative function first second registers i 0

-- The same, and the index has application i too.
pub record NewRow (representative function first second : List ℕ) (registers i : ℕ) (head link : List ℕ) (b : ℕ) : Type 0 where
  pub is : New representative function first second registers i b
  pub indexed : IndexedTerms representative function first second registers (suc i) head link
