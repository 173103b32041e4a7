-- An index of the applications by signature. A signature is one number; its bucket is that number modulo the count of chains. `head` has the application
-- that was last entered in each bucket, and `link` leads from each to the one before it. A number below `registers` is no application, and ends a chain.
use Rattle.std.specs.Prelude.{◌≡◌, ◌≢◌, List, ℕ, suc, ◌+◌, ◌*◌, ◌≤◌, ◌<◌, ◌%◌, eqb, length, get_or}
use Rattle.base.specs.Choice.{pick}
use Rattle.closure.specs.Limits.{most_terms, signature_chains, signature_first_factor, signature_second_factor}

-- The signature of f of two arguments of the classes p and q.
unfoldable pub signature_of : (f p q : ℕ) → ℕ
signature_of f p q = p * signature_first_factor + q * signature_second_factor + f

-- The chain from i on has the application o.
pub data ChainHas (registers : ℕ) (link : List ℕ) : (i o : ℕ) → Type 0 where
  here : {i : ℕ} → registers ≤ i → ChainHas registers link i i
  there : {i o : ℕ} → registers ≤ i → ChainHas registers link (get_or link i 0) o → ChainHas registers link i o

-- Chains go down.
pub record Down (link : List ℕ) : Type 0 where
  pub lower : (i : ℕ) → 1 ≤ i → get_or link i 0 < i

-- Chains go down, and have numbers below n.
pub record Chains (n : ℕ) (head link : List ℕ) : Type 0 where
  pub head_long : length head ≡ signature_chains
  pub link_long : length link ≡ most_terms
  pub heads : (b : ℕ) → get_or head b 0 < n
  pub links : Down link

-- For each of the applications below n, its bucket has one with its signature that is not after it; and a bucket has only applications whose signatures lead
-- to it.
pub record CompleteIndex (signature : ℕ → ℕ) (registers n : ℕ) (head link : List ℕ) : Type 0 where
  pub has : (k : ℕ) → registers ≤ k → k < n
      → (o : ℕ) × (o ≤ k) × ChainHas registers link (get_or head (signature k % signature_chains) 0) o × (signature o ≡ signature k)
  pub only : (b o : ℕ) → ChainHas registers link (get_or head b 0) o → signature o % signature_chains ≡ b

-- r is an application with the signature c in the chain from i on, or below `registers` where there is none.
pub record Found (signature : ℕ → ℕ) (registers n : ℕ) (link : List ℕ) (i c r : ℕ) : Type 0 where
  pub below : r < n
  pub hit : registers ≤ r → (signature r ≡ c) × ChainHas registers link i r
  pub miss : r < registers → (o : ℕ) → ChainHas registers link i o → signature o ≢ c

-- r is an application before n with the signature c; or it is n, and n was entered for that signature.
pub record Entered (signature : ℕ → ℕ) (registers n c : ℕ) (head link : List ℕ) (r : ℕ) (head' link' : List ℕ) : Type 0 where
  pub least : registers ≤ r
  pub most : r ≤ n
  pub hit : r < n → signature r ≡ c
  pub fresh : r ≡ n → CompleteIndex signature registers n head link → (k : ℕ) → registers ≤ k → k < n → signature k ≢ c
  pub kept : r < n → (head' ≡ head) × (link' ≡ link)
  pub chains : Chains (suc n) head' link'
  pub completes : (signature' : ℕ → ℕ) → ((k : ℕ) → k < n → signature' k ≡ signature k) → signature' n ≡ c → CompleteIndex signature registers n head link
      → CompleteIndex signature' registers (suc n) head' link'

-- r is the first number of the chain from start on that is below the bound.
pub record Cut (link : List ℕ) (start bound r : ℕ) : Type 0 where
  pub below : r < bound
  pub keeps : (registers o : ℕ) → ChainHas registers link start o → o < bound → ChainHas registers link r o
  pub back : (registers o : ℕ) → registers ≤ bound → ChainHas registers link r o → ChainHas registers link start o

-- The applications from the bound on are taken out of all chains.
pub record CutTo (head link : List ℕ) (bound : ℕ) (head' : List ℕ) : Type 0 where
  pub chains : Chains bound head' link
  pub keeps : (registers b o : ℕ) → ChainHas registers link (get_or head b 0) o → o < bound → ChainHas registers link (get_or head' b 0) o
  pub back : (registers b o : ℕ) → registers ≤ bound → ChainHas registers link (get_or head' b 0) o → ChainHas registers link (get_or head b 0) o

-- ---- the loop of `undo`
-- the head of a chain without application k
unfoldable pub without_last : (last before k : ℕ) → ℕ
without_last last before k = pick (eqb last k) (λ _. before) λ _. last
