-- Words of worked windows, and a word that is not that of a state.
use mathlib.Core.Path.{◌≡◌, refl, subst}
use Prim.Native.Nat.{◌+◌, ◌^◌}
use native.Mathlib.Omega.{arith}
use Rattle.letters.specs.declared.Header.{Header}
use Rattle.letters.specs.declared.Letter.TheVariants.{Copy, Equal, Unequal}
use Rattle.base.specs.LeastAndSize.{least_in, least_from, size_of, size_from}
use Rattle.semantics.specs.Terms.{State, start, begin, ◌▸◌, state}
use Rattle.semantics.specs.Facts.{Valid, WellFormed}
use Rattle.semantics.specs.Closure.{reflexive}
use Rattle.semantics.proofs.Theory.Facts.{state_valid}
use Rattle.window.specs.Adding.{part_of}
use Rattle.window.specs.Layout.{registers}
use Rattle.window.specs.Naming.{naming_registers, naming_below}
use Rattle.window.specs.Perform.{fresh_of, perform_of}
use Rattle.window.specs.Performing.{own_of, unequal_of, settled_of, parted_of, copied_of, copied_tables, fallen_of, equal_of, merged_of}
use Rattle.window.specs.Performing.{closed_of, find_of, rest_of, clash_of, apart_of}
use Rattle.window.specs.Marks.{lost_of, raised_of, passes, below_of, beside_of, above_of, folded_of, union_of, flag_of, marked_with}
use Rattle.window.specs.Through.{masks_through, results_through, bits_moved}
use Rattle.window.specs.Bits.{mask_moved, minus, nonempty}
use Rattle.window.specs.Lines.{united, united_at}
use Rattle.window.specs.Rows.{flag_word, joined_rows}
use Rattle.window.specs.Table.{table, table_from}
use Rattle.window.specs.declared.Window.{Window}
use Rattle.window.proofs.Theory.Step.{holds_fresh, performed}
use Rattle.unequal_flags.specs.Flags.{NamesClass, UnequalNames, WordOfState}
use Rattle.unequal_flags.specs.Words.{named_row, named_rows, unequal_word}
use Rattle.unequal_flags.proofs.Theory.Exact.{word_exact}
use Rattle.unequal_flags.proofs.Theory.Properties.{word_own}

-- three registers x y z: x!=y, z:=x, x:=y; and after x!=y the test x=y
abbrev tested : Window
tested = perform_of (fresh_of 3) (Unequal 0 1)

abbrev copied : Window
copied = perform_of tested (Copy 2 0)

pub record Worked : Type 0 where
  pub none_before : unequal_word registers (fresh_of 3) 0 ≡ 0
  pub two_bits : unequal_word registers tested 0 ≡ 2 ^ 1 + 2 ^ 8
  -- register z names no class and has no bits
  pub no_name_no_bits : unequal_word registers copied 0 ≡ 2 ^ 1 + 2 ^ 8
  -- the class of x has another name then, and the bits move with it
  pub bits_move : unequal_word registers (perform_of copied (Copy 0 1)) 0 ≡ 2 ^ 2 + 2 ^ 16
  pub none_infeasible : unequal_word registers (perform_of tested (Equal 0 1)) 0 ≡ 0

pub worked : Worked
unfolding unequal_word named_row named_rows flag_word joined_rows table table_from part_of naming_registers naming_below least_in least_from
    size_of size_from own_of unequal_of settled_of parted_of copied_of copied_tables fallen_of lost_of raised_of passes below_of beside_of above_of folded_of
    union_of flag_of marked_with
    masks_through results_through bits_moved mask_moved minus nonempty united united_at equal_of merged_of closed_of find_of rest_of clash_of apart_of
worked = record { none_before = refl; two_bits = refl; no_name_no_bits = refl; bits_move = refl; none_infeasible = refl }

-- a word with bit 0 is that of no state
pub no_own_bit : (σ : State) → Valid σ → ¬ WordOfState σ 1
no_own_bit σ v w = word_own σ 1 w v 0 (omega arith) tt

-- of states: after x!=y the word has two bits; a copy names no class, and a register names its own
abbrev three : Header
three = record { registers = 3; functions = 0; binary = 0 }

tested_formed : WellFormed (begin three ▸ Unequal 0 1)
tested_formed = (tt, (omega arith, omega arith))

pub tested_word : WordOfState (state (begin three ▸ Unequal 0 1)) (2 ^ 1 + 2 ^ 8)
tested_word = subst (WordOfState (state (begin three ▸ Unequal 0 1))) worked.two_bits
    (word_exact (state (begin three ▸ Unequal 0 1)) (state_valid (begin three ▸ Unequal 0 1) tested_formed) tested
    (performed (start three) (state_valid (begin three) tt) (fresh_of 3) (holds_fresh three (omega arith)) (Unequal 0 1) (omega arith, omega arith)
    tested_formed.1 tt))

pub unequal_names : UnequalNames (state (begin three ▸ Unequal 0 1)) 0 1
unequal_names = (tested_word.flag 0 1 (omega arith) (omega arith)).0 tt

pub copy_names_nothing : ¬ NamesClass (state (begin three ▸ Copy 2 0)) 2
copy_names_nothing n = n.name.lowest 0 (omega arith)
    (reflexive ((state_valid (begin three ▸ Copy 2 0) (tt, (omega arith, omega arith))).values 0 (omega arith)))
