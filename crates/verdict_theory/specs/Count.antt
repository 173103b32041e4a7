-- The count of pairs, and their list (SPEC 10.2, 10.5; document 01: "Pairs are listed by their first executions", "The count of pairs is of those
-- whose first execution comes before the first event, or of all if there is none"). A pair is stood for by its first execution.
use Rattle.std.specs.Prelude.{◌≡◌, ◌⊎◌, ℕ, ◌≤◌, ◌<◌}

-- P: executions, and the order in which they come. Leaves p: p leaves a pair. Same p q: p and q leave the same pair. Event p: p is an event.
module _ {ℓ} {P : Type 0} (Before : P → P → Type 0) (Leaves : P → Type 0) (Same : P → P → Type 0) (Event : P → Type ℓ) where
  -- p is the first execution of the pair that it leaves (SPEC 10.2).
  pub record First (p : P) : Type 0 where
    pub leaves : Leaves p
    pub least : (q : P) → Leaves q → Same q p → (p ≡ q) ⊎ Before p q

  -- p comes before every event, if there is one.
  abbrev pub BeforeEvents : P → Type ℓ
  BeforeEvents p = (q : P) → Event q → Before p q

  -- p is the first execution of a pair that is counted.
  pub record Counted (p : P) : Type ℓ where
    pub is_first : First p
    pub early : BeforeEvents p

  -- The first executions of the pairs that are counted are f 0, f 1, .. up to f (k - 1), in this order.
  pub record Lists (f : ℕ → P) (k : ℕ) : Type ℓ where
    pub counted : (i : ℕ) → i < k → Counted (f i)
    pub every : (p : P) → Counted p → (i : ℕ) × (i < k) × (f i ≡ p)
    pub sorted : (i j : ℕ) → i < j → j < k → Before (f i) (f j)

  -- k is the count of pairs (SPEC 10.5).
  abbrev pub Count : ℕ → Type ℓ
  Count k = (f : ℕ → P) × Lists f k

  -- The count passes n: there are n + 1 pairs that are counted (SPEC 10.6).
  pub record More (n : ℕ) : Type ℓ where
    pub sample : ℕ → P
    pub counted : (i : ℕ) → i ≤ n → Counted (sample i)
    pub distinct : (i j : ℕ) → i ≤ n → j ≤ n → sample i ≡ sample j → i ≡ j
