-- Where an entry of the table of results stands: the entry of f at a and b, where each function has an entry for each two of ρ registers.
use Rattle.std.specs.Prelude.{ℕ, ◌+◌, ◌*◌, ◌/◌, ◌%◌}

module _ (ρ : ℕ) where
  -- the result of f at a and b
  abbrev pub place : ℕ → ℕ → ℕ → ℕ
  place f a b = ρ * (ρ * f + a) + b

  -- the function and the two arguments of entry k of the results
  abbrev pub place_function : ℕ → ℕ
  place_function k = k / (ρ * ρ)

  abbrev pub place_first : ℕ → ℕ
  place_first k = k / ρ % ρ

  abbrev pub place_second : ℕ → ℕ
  place_second k = k % ρ
