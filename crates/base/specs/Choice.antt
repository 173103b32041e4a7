-- A choice by a test.
use Rattle.std.specs.Prelude.{Bool, true, false}

-- a where the test holds, else b. The two wait until the test is known, so that a definition by recursion stops where the test says
abbrev pub pick {ℓ} : {A : Type ℓ} → Bool → (Unit {0} → A) → (Unit {0} → A) → A
pick true a b = a tt
pick false a b = b tt
