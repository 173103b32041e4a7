-- A window that can be stored, and one that cannot.
use mathlib.Core.Path.{◌≡◌, refl}
use mathlib.Core.Logic.{inl, inr}
use mathlib.Core.Bool.{false}
use mathlib.Core.List.{◌∷◌}
use Prim.Native.Nat.{ℕ, ◌^◌, ◌<◌}
use native.Mathlib.Omega.{arith}
use lib.Dec.{ltb}
use lib.ListN.{get_or, replicate, get_or-replicate, length-replicate, get_or-eq_default}
use borrow.Author.Tests.{ltb-true, ltb-false}
use Rattle.base.proofs.Theory.Choice.{by_test}
use Rattle.base.specs.LeastAndSize.{least_in, least_from, size_of, size_from}
use Rattle.window.specs.Naming.{naming_registers, naming_below}
use Rattle.window.specs.Counting.{counted_classes}
use Rattle.window.specs.declared.Window.{Window}
use Rattle.records.proofs.Theory.Storable.{Storable}

-- nothing is known
abbrev blank : Window
blank = record {
  class = replicate 8 0;
  unequal = replicate 8 0;
  result = replicate 256 0;
  ever = replicate 32 0;
  mark = replicate 8 false;
  infeasible = false;
  classes = 0;
}

-- every entry is 0, and so a mask
zeros : (n k : ℕ) → get_or (replicate {A = ℕ} n 0) k 0 < 2 ^ 8
zeros n k =
    by_test (ltb k n) (λ t. let e : get_or (replicate {A = ℕ} n 0) k 0 ≡ 0 = get_or-replicate {A = ℕ} n k 0 0 (ltb-true k n t) in omega arith)
    λ t. let e : get_or (replicate {A = ℕ} n 0) k 0 ≡ 0 = get_or-eq_default (replicate {A = ℕ} n 0) 0
    (rw (length-replicate {A = ℕ} n 0) (ltb-false k n t)) in omega arith

pub blank_storable : Storable blank
unfolding counted_classes naming_registers naming_below size_of size_from least_in least_from
blank_storable = record {
  classes = refl;
  unequals = refl;
  marks = refl;
  result_count = refl;
  evers = refl;
  class_masks = zeros 8;
  unequal_masks = zeros 8;
  lines = zeros 32;
  named = λ i h. inl (get_or-replicate 256 i 0 0 h);
  computed = λ i h. inl (get_or-replicate 256 i 0 0 h);
  counted = refl;
}

-- registers 0 and 1 hold a result, and are in no class
abbrev stray : Window
stray = record {
  class = replicate 8 0;
  unequal = replicate 8 0;
  result = 3 ∷ replicate 255 0;
  ever = 1 ∷ replicate 31 0;
  mark = replicate 8 false;
  infeasible = false;
  classes = 0;
}

pub stray_not_storable : ¬ Storable stray
unfolding least_in least_from
stray_not_storable s = elim (s.named 0 (omega arith)) [ inl e ↦ absurd (omega arith) | inr p ↦ let e : ◌≡◌ {A = ℕ} 0 3 = p.1 in absurd (omega arith) ]
