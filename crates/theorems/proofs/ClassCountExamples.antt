-- Numbers of classes of worked windows, and a number that is not that of a state.
use mathlib.Core.Path.{◌≡◌, refl}
use native.Mathlib.Omega.{arith}
use Rattle.base.specs.LeastAndSize.{least_in, least_from, size_of, size_from}
use Rattle.letters.specs.declared.Header.{Header}
use Rattle.letters.specs.declared.Letter.TheVariants.{Copy, Apply, Equal, Unequal}
use Rattle.semantics.specs.Terms.{begin, state}
use Rattle.window.specs.Adding.{masks_forgotten, results_forgotten, results_added, line_added}
use Rattle.window.specs.Bits.{mask_moved, minus, nonempty}
use Rattle.window.specs.Classes.{ClassCount}
use Rattle.window.specs.Counting.{one_fewer, one_more, count_left, count_made, count_at_start}
use Rattle.window.specs.Layout.{registers, functions}
use Rattle.window.specs.Lines.{united, united_at, cleared, cleared_at}
use Rattle.window.specs.Perform.{fresh_of, perform_of}
use Rattle.window.specs.Performing.{own_of, unequal_of, settled_of, parted_of, copied_of, copied_tables, equal_of, merged_of, closed_of, find_of, rest_of}
use Rattle.window.specs.Performing.{clash_of, apart_of, applied_of, apply_of}
use Rattle.window.specs.Table.{table, table_from}
use Rattle.window.specs.Through.{masks_through, results_through, bits_moved}
use Rattle.window.specs.declared.Window.{Window}
use Rattle.window.proofs.Theory.Exact.{count_unique}
use Rattle.theorems.proofs.ClassCounts.{the_number_of_a_fresh_window_is_exact}

-- registers x y z: z:=x; registers x y u v: u:=f(x), v:=f(y)
abbrev copied : Window
copied = perform_of (fresh_of 3) (Copy 2 0)

abbrev computed : Window
computed = perform_of (perform_of (fresh_of 4) (Apply 2 0 0 0)) (Apply 3 0 1 1)

pub record Worked : Type 0 where
  pub fresh : (fresh_of 3).classes ≡ 3
  -- z was alone, and shares a class then
  pub to_a_lone_register : copied.classes ≡ 2
  pub to_a_shared_register : (perform_of copied (Copy 2 1)).classes ≡ 2
  pub within_a_class : (perform_of (fresh_of 3) (Copy 0 0)).classes ≡ 3
  pub unequal_test : (perform_of copied (Unequal 0 1)).classes ≡ 2
  -- z gets a value of its own
  pub new_value : (perform_of copied (Apply 2 0 1 1)).classes ≡ 3
  pub known_value : (perform_of computed (Apply 3 0 0 0)).classes ≡ 3
  -- x=y makes u and v equal too
  pub two_merges : (perform_of computed (Equal 0 1)).classes ≡ 2

pub worked : Worked
unfolding one_fewer one_more count_left count_made count_at_start table table_from least_in least_from size_of size_from own_of unequal_of settled_of parted_of copied_of
    copied_tables masks_through results_through bits_moved mask_moved minus nonempty united united_at cleared cleared_at equal_of merged_of closed_of find_of rest_of
    clash_of apart_of applied_of apply_of masks_forgotten results_forgotten results_added line_added
worked = record {
  fresh = refl;
  to_a_lone_register = refl;
  to_a_shared_register = refl;
  within_a_class = refl;
  unequal_test = refl;
  new_value = refl;
  known_value = refl;
  two_merges = refl;
}

-- three registers and no letter: three classes, and not two
abbrev three : Header
three = record { registers = 3; functions = 0; binary = 0 }

pub three_classes : ClassCount (state (begin three)) 3
unfolding count_at_start
three_classes = (the_number_of_a_fresh_window_is_exact registers functions three (omega arith)).1

pub not_two_classes : ¬ ClassCount (state (begin three)) 2
not_two_classes c = let e = count_unique (state (begin three)) 3 2 three_classes c in absurd (omega arith)
