-- What follows from the definitions of specs/Choice.antt.
use borrow.Author.Tests.{lt-ltb, le-ltb, le-leb, lt-leb, eq-eqb, ne_eqb}
use mathlib.Core.Path.{◌≡◌, refl}
use mathlib.Core.Bool.{Bool, true, false}

-- the two cases of a test, each with its equation
pub by_test {ℓ} : {A : Type ℓ} (b : Bool) → (b ≡ true → A) → (b ≡ false → A) → A
by_test true f g = f refl
by_test false f g = g refl

-- what a test of code says of the test in a definition: for `search decide` at a `returns`
pub ruleset decide = (lt-ltb, le-ltb, le-leb, lt-leb, eq-eqb, ne_eqb)
