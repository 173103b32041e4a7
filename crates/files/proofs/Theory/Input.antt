-- What follows from the definitions of specs/Input.antt.
use Prim.Native.Nat.{ℕ, ◌<◌}
use Rattle.files.specs.declared.Input.{Input}
use Rattle.files.specs.declared.Input.TheVariants.{Ended, Full, Failed}

-- The buffer had room for more where the input ended or a read failed.
abbrev pub Short : Input → ℕ → Type 0
Short (Ended n) room = n < room
Short Full room = Unit {0}
Short (Failed n) room = n < room
