-- The call that prints a macro, for `vars x;` (SPEC 8.6, 11.5): what it leaves, and what it does not.
use mathlib.Core.Path.{◌≡◌, refl}
use mathlib.Core.List.{List, [], ◌∷◌}
use Prim.Native.Nat.{ℕ}
use native.Mathlib.Omega.{arith}
use lib.ListN.{replicate}
use Rattle.layout_theory.specs.Writing.{printed}
use Rattle.layout_theory.proofs.Theory.Examples.{one_register_text, one_register_print, eight_written}
use Rattle.exports.specs.LayoutCalls.{layout_numbers, LaysOutMacro}
use Rattle.exports.proofs.Theory.LayoutCalls.{one_layout}

-- ---- an output of eight bytes and an answer of three numbers

-- no refusal, at no place, and eight bytes;
pub eight_laid : LaysOutMacro one_register_text (replicate 8 0) (replicate 3 1) one_register_print (0 ∷ 0 ∷ 8 ∷ [])
unfolding layout_numbers
eight_laid = record { short = λ l. absurd (omega arith); laid = λ l. (printed 8, eight_written, refl) }

-- the length is not the second number,
pub length_not_second : (out : List ℕ) → LaysOutMacro one_register_text (replicate 8 0) (replicate 3 1) out (0 ∷ 8 ∷ 0 ∷ []) → ⊥
length_not_second out x =
    let (e, f) = one_layout one_register_text (replicate 8 0) (replicate 3 1) out one_register_print (0 ∷ 8 ∷ 0 ∷ []) (0 ∷ 0 ∷ 8 ∷ []) x eight_laid in
    let z : ◌≡◌ {A = ℕ} 8 0 = cc in omega arith

-- and the output does not stay.
pub output_not_kept : (answer : List ℕ) → LaysOutMacro one_register_text (replicate 8 0) (replicate 3 1) (replicate 8 0) answer → ⊥
unfolding one_register_print
output_not_kept answer x =
    let (e, f) = one_layout one_register_text (replicate 8 0) (replicate 3 1) (replicate 8 0) one_register_print answer (0 ∷ 0 ∷ 8 ∷ []) x eight_laid in
    let z : ◌≡◌ {A = ℕ} 0 118 = cc in omega arith

-- ---- an answer of two numbers

module _ (text out : List ℕ) where
  -- nothing is done, whatever the text and the output are,
  pub two_kept : LaysOutMacro text out (1 ∷ 2 ∷ []) out (1 ∷ 2 ∷ [])
  two_kept = record { short = λ l. (refl, refl); laid = λ l. absurd (omega arith) }

  -- and no number is written.
  pub two_not_zeroed : (exit : List ℕ) → LaysOutMacro text out (1 ∷ 2 ∷ []) exit (0 ∷ 0 ∷ []) → ⊥
  two_not_zeroed exit x = let (e, f) = x.short (omega arith) in let z : ◌≡◌ {A = ℕ} 0 1 = cc in omega arith
