-- Terms by number, classes of numbers, and when these are the closure.
use Rattle.std.specs.Prelude.{◌≡◌, true, false, List, [], ◌∷◌, ℕ, ◌≤◌, ◌<◌, eqb, length}
use Rattle.semantics.specs.Terms.{Term, con, app}
use Rattle.semantics.specs.Closure.{Closure}

-- Term number i of the computed terms, the latest first: the last of the list has number 0.
abbrev pub nth : List Term → ℕ → Term
nth [] i = con i
nth (t ∷ ts) i = elim (eqb i (length ts)) [ true ↦ t | false ↦ nth ts i ]

-- The arrays of the engine as functions: the terms below `registers` are the registers' constants, each other an application to earlier terms.
pub record Numbered (U : List Term) (function first second : ℕ → ℕ) (registers n : ℕ) : Type 0 where
  pub count : length U ≡ n
  pub some : registers ≤ n
  pub constant : (i : ℕ) → i < registers → nth U i ≡ con i
  pub application : (i : ℕ) → registers ≤ i → i < n → nth U i ≡ app (function i) (nth U (first i)) (nth U (second i))
  pub first_before : (i : ℕ) → registers ≤ i → i < n → first i < i
  pub second_before : (i : ℕ) → registers ≤ i → i < n → second i < i

-- The classes are closed under congruence.
unfoldable pub Closed : (function first second : ℕ → ℕ) (registers n : ℕ) (representative : ℕ → ℕ) → Type 0
Closed function first second registers n representative =
    (i j : ℕ) → registers ≤ i → i < n → registers ≤ j → j < n → function i ≡ function j → representative (first i) ≡ representative (first j)
    → representative (second i) ≡ representative (second j) → representative i ≡ representative j

-- The classes are those of the closure.
pub record Exact (U : List Term) (E : List (Term × Term)) (n : ℕ) (representative : ℕ → ℕ) : Type 0 where
  pub sound : (i j : ℕ) → i < n → j < n → representative i ≡ representative j → Closure U E (nth U i) (nth U j)
  pub complete : (i j : ℕ) → i < n → j < n → Closure U E (nth U i) (nth U j) → representative i ≡ representative j
