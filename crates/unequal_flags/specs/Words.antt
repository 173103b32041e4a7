-- The words of a window value's unequal pairs by name: what the code computes, for every window value of a layout.
use Rattle.std.specs.Prelude.{ℕ, List, get_or}
use Rattle.std.specs.Int.Bits.{bit_and}
use Rattle.window.specs.Table.{table}
use Rattle.window.specs.Adding.{part_of}
use Rattle.window.specs.Naming.{naming_registers}
use Rattle.window.specs.Rows.{flag_word}
use Rattle.window.specs.declared.Window.{Window}

module _ (ρ : ℕ) where
  -- row a: if a names a class, the flags of the registers that name one, else nothing
  unfoldable pub named_row : List ℕ → List ℕ → ℕ → ℕ
  named_row class unequal a = part_of (naming_registers ρ class) (bit_and (get_or unequal a 0) (naming_registers ρ class)) a

  unfoldable pub named_rows : List ℕ → List ℕ → List ℕ
  named_rows class unequal = table (named_row class unequal) ρ

  -- word k of them
  unfoldable pub unequal_word : Window → ℕ → ℕ
  unequal_word w k = flag_word ρ (named_rows w.class w.unequal) k
