-- What arrays, as functions, say of the state of a trace.
use Rattle.std.specs.Prelude.{◌≡◌, ℕ, ◌<◌}
use Rattle.semantics.specs.Terms.{◌∈◌, Term, State}
use Rattle.semantics.specs.Facts.{Valid}
use Rattle.closure.specs.Numbering.{nth, Numbered, Closed, Exact}

-- The arrays of the engine, as functions, and what they say of a state.
pub record RepresentsState (σ : State) (function first second representative : ℕ → ℕ) (registers n : ℕ) (value : ℕ → ℕ) : Type 0 where
  pub valid : Valid σ
  pub header_registers : σ.header.registers ≡ registers
  pub numbered : Numbered σ.terms function first second registers n
  pub closed : Closed function first second registers n representative
  pub exactly : Exact σ.terms σ.equals n representative
  pub named : (i : ℕ) → i < n → representative i < n
  pub value_below : (r : ℕ) → r < registers → value r < n
  pub value_is : (r : ℕ) → r < registers → nth σ.terms (value r) ≡ σ.value r

-- The sides of the unequal tests, by their terms' numbers: left and right, the first m of them.
pub record Sides (σ : State) (n : ℕ) (left right : ℕ → ℕ) (m : ℕ) : Type 0 where
  pub left_below : (q : ℕ) → q < m → left q < n
  pub right_below : (q : ℕ) → q < m → right q < n
  pub listed : (q : ℕ) → q < m → (nth σ.terms (left q), nth σ.terms (right q)) ∈ σ.unequals
  pub all : (s t : Term) → (s, t) ∈ σ.unequals → (q : ℕ) × (q < m) × (nth σ.terms (left q) ≡ s) × (nth σ.terms (right q) ≡ t)
