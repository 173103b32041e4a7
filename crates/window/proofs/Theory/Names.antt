-- "A class is named by its lowest-numbered register": the trailing zeros of a class's mask are its name.
use mathlib.Core.Logic.{⊎_elim}
use Prim.Native.Nat.{ℕ, ◌≤◌, ◌<◌}
use native.Mathlib.Omega.{arith}
use lib.ListN.{get_or}
use Rattle.base.specs.Masks.{has}
use Rattle.base.specs.LeastAndSize.{least_in}
use Rattle.base.proofs.Theory.MaskLaws.{least-in, least_below}
use Rattle.semantics.specs.Terms.{State}
use Rattle.semantics.specs.Facts.{Valid}
use Rattle.semantics.specs.ClassNames.{NamedBy}
use Rattle.window.proofs.Theory.Bits.{truth, no_truth, less_or}
use Rattle.window.specs.Viewing.{view}
use Rattle.window.proofs.Theory.Laws.{laws_of}
use Rattle.window.specs.Stepping.{IsWindowInLayout}
use Rattle.window.specs.declared.Window.{Window}

module _ (ρ φ : ℕ) where
  pub named : (σ : State) → Valid σ → (w : Window) → IsWindowInLayout ρ φ σ w → (r : ℕ) → r < σ.header.registers
      → NamedBy σ r (least_in ρ (get_or w.class r 0))
  named σ v w h r rb = record {
    member = let t = most in let kb : least_in ρ m < σ.header.registers = omega arith in
        (h.tracks.same r (least_in ρ m) rb kb).0 (truth (has m (least_in ρ m)) (least-in ρ m (omega (arith, h.inside.fits))));
    lowest = λ s b c. let t = most in let sb : s < σ.header.registers = omega arith in
        no_truth (has m s) (least_below ρ m s b) ((h.tracks.same r s rb sb).1 c);
  }
    where
      m : ℕ
      m = get_or w.class r 0

      -- r itself is in its class
      most : least_in ρ (get_or w.class r 0) ≤ r
      most = ⊎_elim (λ l. absurd (no_truth (has m r) (least_below ρ m r l) ((laws_of σ v (view ρ φ w) h.tracks).self r rb))) (λ l. l)
          (less_or r (least_in ρ m))
