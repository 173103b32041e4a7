-- What follows from the definitions of specs/Step.antt.
use mathlib.Core.Logic.{◌↔◌}
use Prim.Native.Nat.{◌≤◌}
use lib.Dec.{T}
use Rattle.letters.specs.declared.Header.{Header}
use Rattle.letters.specs.declared.Letter.{Letter}
use Rattle.letters.specs.Letters.{Fits}
use Rattle.semantics.specs.Terms.{State, start, after}
use Rattle.semantics.specs.Coherence.{CoherentLetter}
use Rattle.semantics.specs.Facts.{Valid}
use Rattle.window.specs.Layout.{registers, functions}
use Rattle.window.specs.Perform.{WithinPacking, judge_of, perform_of, fresh_of}
use Rattle.window.proofs.Theory.Stepping as stepping
use Rattle.window.specs.declared.Window.{Window}
use Rattle.window.specs.Step.{IsWindow}

-- the window of a header alone
pub holds_fresh : (h : Header) → h.registers ≤ registers → IsWindow (start h) (fresh_of h.registers)
holds_fresh = stepping.holds_fresh registers functions

-- the letter is coherent exactly if the window says so
pub judged : (σ : State) → Valid σ → (w : Window) → IsWindow σ w → (l : Letter) → WithinPacking l → Fits σ.header l → T (judge_of w l) ↔ CoherentLetter σ l
judged = stepping.judged registers functions

-- after a coherent letter `perform` gives the window of the longer trace
pub performed : (σ : State) → Valid σ → (w : Window) → IsWindow σ w → (l : Letter) → WithinPacking l → Fits σ.header l → CoherentLetter σ l
    → IsWindow (after σ l) (perform_of w l)
performed = stepping.performed registers functions

-- a header of the layout has letters within it
pub fits_within : (h : Header) (l : Letter) → h.registers ≤ registers → h.functions ≤ functions → Fits h l → WithinPacking l
fits_within = stepping.fits_within registers functions
