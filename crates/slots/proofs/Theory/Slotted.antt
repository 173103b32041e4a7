-- A window in slots, letter by letter, in the first edition's layout.
use mathlib.Core.Path.{◌≡◌}
use mathlib.Core.Bool.{true}
use Prim.Native.Nat.{ℕ, ◌≤◌}
use native.Mathlib.Omega.{arith}
use lib.ListN.{length}
use Rattle.letters.specs.declared.Header.{Header}
use Rattle.letters.specs.declared.Letter.{Letter}
use Rattle.letters.specs.declared.Letter.TheVariants.{Copy, Apply, Equal, Unequal}
use Rattle.letters.specs.Letters.{Fits}
use Rattle.window.specs.Layout.{registers, functions}
use Rattle.window.specs.Perform.{judge_of, perform_of}
use Rattle.window.specs.declared.Window.{Window}
use Rattle.slots.specs.Slots.{Slots, SlotTableLengths}
use Rattle.slots.specs.Performing.{judge_slots, perform_slots, window_of, represents_of}
use Rattle.slots.specs.Represents as represents
use Rattle.slots.proofs.Theory.Steps as steps
use Rattle.slots.proofs.Theory.Regular as regular

-- the slots are those of the window, with n registers
abbrev pub RepresentsWindowInFirstEdition : ℕ → Slots → Window → Type 0
RepresentsWindowInFirstEdition = represents.RepresentsWindow registers functions

-- the letter's registers are among the window's n
abbrev pub RegistersBelowCount : ℕ → Letter → Type 0
RegistersBelowCount = steps.RegistersBelowIn registers functions

-- the letter is coherent for the slots exactly if it is for the window
pub judged : (n : ℕ) (s : Slots) (w : Window) → RepresentsWindowInFirstEdition n s w → (l : Letter) → RegistersBelowCount n l
    → judge_slots registers functions s l ≡ judge_of w l
judged = steps.judged registers functions

-- the slots after a letter are those of the window after it
pub performed : (n : ℕ) (s : Slots) (w : Window) → RepresentsWindowInFirstEdition n s w → (l : Letter) → RegistersBelowCount n l
    → RepresentsWindowInFirstEdition n (perform_slots registers functions s l) (perform_of w l)
performed = steps.performed registers functions

-- the window is read back
pub read_back : (n : ℕ) (s : Slots) (w : Window) → RepresentsWindowInFirstEdition n s w → window_of registers functions s ≡ w
read_back = steps.read_back registers functions

-- slots that pass the test represent the window that is read from them
pub represents_is : (n : ℕ) (v : Window) (s : Slots) → length s.slot ≡ registers → length s.regs ≡ registers
    → SlotTableLengths registers functions s.unequal s.result s.ever → length s.mark ≡ registers
    → represents_of registers functions v s n ≡ true → v ≡ window_of registers functions s → RepresentsWindowInFirstEdition n s v
represents_is = regular.represents_is registers functions

-- a letter that fits the header has registers among the header's
pub fits_among : (h : Header) (l : Letter) → h.functions ≤ functions → Fits h l → RegistersBelowCount h.registers l
fits_among h (Copy x y) b (p, q) = (p, q)
fits_among h (Apply x f y z) b (p, q, r, s, _) = (p, omega arith, r, s)
fits_among h (Equal x y) b (p, q) = (p, q)
fits_among h (Unequal x y) b (p, q) = (p, q)
