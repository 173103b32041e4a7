-- An index of the pairs in a table: chains of records, so that a pair is compared with those of its chain alone.
use Rattle.std.specs.Prelude.{ℕ, ◌+◌, ◌*◌, ◌%◌, ◌≤◌, ◌<◌, ◌≡◌, List, length, get_or}
use Rattle.letters.specs.Capacity.{most_pairs}
use Rattle.table.specs.Table.{pair_at}

-- How many chains there are.
abbrev pub pair_chains : ℕ
pair_chains = 1024

-- The chain of a pair: the remainder of the number in its first two bytes. No promise rests on how pairs spread over the chains.
unfoldable pub chain_of : List ℕ → ℕ
chain_of pair = (get_or pair 1 0 + 256 * get_or pair 0 0) % pair_chains

-- The chain from i on has record k, which is not record 0.
pub data ChainHasRecord (link : List ℕ) : (i k : ℕ) → Type 0 where
  here : {i : ℕ} → 1 ≤ i → ChainHasRecord link i i
  there : {i k : ℕ} → 1 ≤ i → ChainHasRecord link (get_or link i 0) k → ChainHasRecord link i k

-- Each of the first count records but record 0 is in the chain of its pair; chains have no other records, and go down to record 0.
pub record IndexedPairs (t head link : List ℕ) (count : ℕ) : Type 0 where
  pub head_long : length head ≡ pair_chains
  pub link_long : length link ≡ most_pairs
  pub heads : (b : ℕ) → get_or head b 0 < count
  pub links : (i : ℕ) → 1 ≤ i → get_or link i 0 < i
  pub chained : (k : ℕ) → 1 ≤ k → k < count → ChainHasRecord link (get_or head (chain_of (pair_at t k)) 0) k
