-- A trace with a meaning of functions and tests: which of its tests hold. An application into the hidden register `result` asks a test, and a comparison of
-- `result` with `truth` asks for its answer (SPEC 9.1; document 02, request 4).
use Rattle.std.specs.Prelude.{◌≡◌, ◌≢◌, Bool, true, false, cond, ℕ, eqb}
use Rattle.base.specs.Choice.{pick}
use Rattle.letters.specs.declared.Letter.TheVariants.{Copy, Apply, Equal, Unequal}
use Rattle.semantics.specs.Terms.{Trace, begin, ◌▸◌}
use Rattle.grammar.specs.Expanded.{result_register}
use Rattle.grammar.specs.Meanings.{Meaning}

-- The values of the declared registers after a trace: an application applies its function.
abbrev pub value_in {ℓ} : (R : Meaning {ℓ}) → Trace → ℕ → R.Value
value_in R (begin h) r = R.start r
value_in R (ρ ▸ Copy x y) r = value_in R ρ (cond (eqb r x) y r)
value_in R (ρ ▸ Apply x f y z) r = pick (eqb r x) (λ _. R.table f (value_in R ρ y) (value_in R ρ z)) λ _. value_in R ρ r
value_in R (ρ ▸ Equal x y) r = value_in R ρ r
value_in R (ρ ▸ Unequal x y) r = value_in R ρ r

-- where n registers are declared
module _ {ℓ} (n : ℕ) (R : Meaning {ℓ}) where
  -- Whether the last named test held: an application into `result` asks a test. Before the first one none has held.
  abbrev pub last_held : Trace → Bool
  last_held (begin h) = false
  last_held (ρ ▸ Copy x y) = last_held ρ
  last_held (ρ ▸ Apply x f y z) = pick (eqb x (result_register n)) (λ _. R.relation f (value_in R ρ y) (value_in R ρ z)) λ _. last_held ρ
  last_held (ρ ▸ Equal x y) = last_held ρ
  last_held (ρ ▸ Unequal x y) = last_held ρ

  -- A test after a trace: of `result` (with `truth`) it asks whether the last named test held, and of two declared registers whether their values are
  -- equal; or the opposite.
  abbrev pub EqualHolds : Trace → ℕ → ℕ → Type ℓ
  EqualHolds ρ x y = (x ≡ result_register n → last_held ρ ≡ true) × (x ≢ result_register n → value_in R ρ x ≡ value_in R ρ y)

  abbrev pub UnequalHolds : Trace → ℕ → ℕ → Type ℓ
  UnequalHolds ρ x y = (x ≡ result_register n → last_held ρ ≡ false) × (x ≢ result_register n → ¬ (value_in R ρ x ≡ value_in R ρ y))

  -- All tests of a trace hold.
  abbrev pub AllHold : Trace → Type ℓ
  AllHold (begin h) = Unit {ℓ}
  AllHold (ρ ▸ Copy x y) = AllHold ρ
  AllHold (ρ ▸ Apply x f y z) = AllHold ρ
  AllHold (ρ ▸ Equal x y) = AllHold ρ × EqualHolds ρ x y
  AllHold (ρ ▸ Unequal x y) = AllHold ρ × UnequalHolds ρ x y
