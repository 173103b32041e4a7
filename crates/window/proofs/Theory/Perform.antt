-- What follows from the definitions of specs/Perform.antt.
use Prim.Native.Nat.{ℕ}
use Rattle.window.specs.Layout.{registers}
use Rattle.window.specs.Places as places

-- the entry of the table of results for f at a and b
abbrev pub place_in_first_edition : ℕ → ℕ → ℕ → ℕ
place_in_first_edition = places.place registers
