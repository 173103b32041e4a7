-- Two classes made one, and all that follows by congruence, without arrays and without terms.
use Rattle.std.specs.Prelude.{◌≡◌, ℕ, ◌≤◌, ◌<◌, eqb}
use Rattle.base.specs.Choice.{pick}

-- the class `to` in place of `from`
unfoldable pub relabel_of : ℕ → ℕ → ℕ → ℕ
relabel_of from to v = pick (eqb v from) (λ _. to) λ _. v

module _ (function first second : ℕ → ℕ) (registers n : ℕ) (old : ℕ → ℕ) (x y : ℕ) where
  -- what is entailed by the classes `old` when x and y are made equal
  pub data Entailed : ℕ → ℕ → Type 0 where
    already : {i j : ℕ} → i < n → j < n → old i ≡ old j → Entailed i j
    tested : Entailed x y
    reversed : {i j : ℕ} → Entailed i j → Entailed j i
    chained : {i j k : ℕ} → Entailed i j → Entailed j k → Entailed i k
    congruent : {i j : ℕ} → registers ≤ i → i < n → registers ≤ j → j < n → function i ≡ function j → Entailed (first i) (first j)
        → Entailed (second i) (second j) → Entailed i j

  -- While congruences are propagated: only what is entailed is joined, and nothing is parted.
  pub record Propagating (representative : ℕ → ℕ) : Type 0 where
    pub sound : (i j : ℕ) → i < n → j < n → representative i ≡ representative j → Entailed i j
    pub keeps : (i j : ℕ) → i < n → j < n → old i ≡ old j → representative i ≡ representative j
