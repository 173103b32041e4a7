-- What follows from the definitions of specs/LayoutCalls.antt.
use mathlib.Core.Path.{◌≡◌, refl, sym, ap, ◌∙◌}
use mathlib.Core.Logic.{◌⊎◌, inl, inr}
use native.Mathlib.Omega.{arith}
use Prim.Native.Nat.{ℕ, ◌≤◌, ◌<◌}
use mathlib.Core.List.{List, ◌++◌}
use lib.ListN.{length, drop}
use Rattle.letters.specs.MacroRefusalNumbers.{text_too_long, print_too_long}
use Rattle.macros.proofs.Theory.Numbers.{less_or}
use Rattle.refusals.proofs.Theory.Order.{refusal_number}
use Rattle.layout_theory.specs.Writing.{refused, WritesLayout}
use Rattle.layout_theory.proofs.Theory.Settled.{written_once, WayWritten, passing, standing, way_written, not_printed}
use Rattle.exports.specs.LayoutCalls.{layout_count, layout_numbers, LaysOutMacro}

-- It settles every lent byte: there is one way at most.
pub one_layout : (text out answer o p a b : List ℕ) → LaysOutMacro text out answer o a → LaysOutMacro text out answer p b → (o ≡ p) × (a ≡ b)
one_layout text out answer o p a b x y = go (less_or (length answer) layout_count)
  where
    go : (length answer < layout_count) ⊎ (layout_count ≤ length answer) → (o ≡ p) × (a ≡ b)
    go (inl short) =
        let (i, j) = x.short short in
        let (k, l) = y.short short in
        (i ∙ sym k, j ∙ sym l)
    go (inr room) =
        let (v, d, e) = x.laid room in
        let (w, f, g) = y.laid room in
        let (same, i) = written_once text out v w o p d f in
        (i, e ∙ ap (λ z. layout_numbers z ++ drop layout_count answer) same ∙ sym g)

-- The first number tells a print, whose is 0, from a refusal.
pub refusal_told : (text out o : List ℕ) (number place : ℕ) → WritesLayout text out (refused number place) o → text_too_long ≤ number
refusal_told text out o number place w = go (way_written w)
  where
    go : WayWritten text out (refused number place) o → text_too_long ≤ number
    go (WayWritten.unread n p r e _) = let z : number ≡ n = cc in omega (arith, (refusal_number n p r).0)
    go (passing m a p e _) = let z : number ≡ print_too_long = cc in omega arith
    go (standing m a _ _ e _) = absurd (not_printed e refl)
