-- What follows from the definitions of specs/SlotRun.antt.
use mathlib.Core.Path.{◌≡◌}
use mathlib.Core.Bool.{Bool}
use mathlib.Core.List.{List}
use Prim.Native.Nat.{ℕ}
use Rattle.letters.specs.declared.Header.{Header}
use Rattle.window.specs.Layout.{registers, functions}
use Rattle.window.specs.declared.Window.{Window}
use Rattle.slots.specs.Slots.{Slots}
use Rattle.slots.specs.Represents.{RepresentsWindow}
use Rattle.streaming.specs.declared.Run.{Run}
use Rattle.streaming.specs.declared.RunAnswer.TheVariants.{Judged}
use Rattle.streaming.specs.Run.{run_of}
use Rattle.streaming.specs.Stream.{taken_all}

-- Slots that stand for a window; from it on, the bytes left lead to the whole run.
pub record Standing (h : Header) (s : Slots) (fine : Bool) (count one two : ℕ) (left : List ℕ) (whole : Run) : Type 0 where
  pub window : Window
  pub represents : RepresentsWindow registers functions h.registers s window
  pub taken : taken_all (run_of h window fine count (Judged one two)) left ≡ whole
