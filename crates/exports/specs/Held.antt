-- The numbers of a macro as the reader's struct holds it.
use Rattle.std.specs.Prelude.{ℕ, List, [], ◌∷◌}
use Rattle.syntax.specs.declared.MacroRead.{MacroRead}

unfoldable pub held_numbers : MacroRead → List ℕ
held_numbers a = a.refusal ∷ a.place ∷ a.program.header.registers ∷ a.program.header.functions ∷ a.program.count ∷ []
