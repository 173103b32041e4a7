-- A letter on slots is the letter on the window that they represent.
use mathlib.Core.Path.{◌≡◌, refl}
use Prim.Native.Nat.{ℕ, ◌<◌}
use Rattle.letters.specs.declared.Letter.{Letter}
use Rattle.letters.specs.declared.Letter.TheVariants.{Copy, Apply, Equal, Unequal}
use Rattle.window.specs.Performing as windows
use Rattle.window.specs.declared.Window.{Window}
use Rattle.slots.specs.Slots.{Slots}
use Rattle.slots.specs.Performing.{judge_slots, perform_slots, window_of}
use Rattle.slots.specs.Represents.{RepresentsWindow}
use Rattle.slots.proofs.Theory.Copies.{copied_represents}
use Rattle.slots.proofs.Theory.Applications.{apply_represents}
use Rattle.slots.proofs.Theory.Entries.{window_is}
use Rattle.slots.proofs.Theory.Tests.{equal_represents, unequal_represents, memoizing_same, early_same}

module _ (ρ φ n : ℕ) where
  -- the letter's registers are among the window's n
  abbrev pub RegistersBelowIn : Letter → Type 0
  RegistersBelowIn (Copy x y) = (x < n) × (y < n)
  RegistersBelowIn (Apply x f y z) = (x < n) × (f < φ) × (y < n) × (z < n)
  RegistersBelowIn (Equal x y) = (x < n) × (y < n)
  RegistersBelowIn (Unequal x y) = (x < n) × (y < n)

  module _ (s : Slots) (w : Window) (h : RepresentsWindow ρ φ n s w) where
    pub judged : (l : Letter) → RegistersBelowIn l → judge_slots ρ φ s l ≡ windows.judge_in_layout ρ φ w l
    judged (Copy x y) b = refl
    judged (Apply x f y z) (_, fb, yb, zb) = memoizing_same ρ φ n s w h f y z fb yb zb
    judged (Equal x y) (xb, yb) = early_same ρ φ n s w h x y xb yb
    judged (Unequal x y) b = refl

    pub performed : (l : Letter) → RegistersBelowIn l → RepresentsWindow ρ φ n (perform_slots ρ φ s l) (windows.perform_in_layout ρ φ w l)
    performed (Copy x y) (xb, yb) = copied_represents ρ φ n s w h x y xb yb
    performed (Apply x f y z) (xb, fb, yb, zb) = apply_represents ρ φ n s w h x f y z xb fb yb zb
    performed (Equal x y) (xb, yb) = equal_represents ρ φ n s w h x y xb yb
    performed (Unequal x y) (xb, yb) = unequal_represents ρ φ n s w h x y xb yb

    pub read_back : window_of ρ φ s ≡ w
    read_back = window_is ρ φ n s w h.mirrors
