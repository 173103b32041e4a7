-- The window after a letter, and whether the letter is coherent, in the first edition's layout (SPEC 5.6).
use Rattle.std.specs.Prelude.{ℕ, Bool}
use Rattle.letters.specs.declared.Letter.{Letter}
use Rattle.window.specs.Layout.{registers, functions}
use Rattle.window.specs.Performing as performing
use Rattle.window.specs.declared.Window.{Window}

-- the window of a header with n registers alone (SPEC 5.3)
abbrev pub fresh_of : ℕ → Window
fresh_of = performing.fresh_in_layout registers functions

-- the letter's fields are within the packing's
abbrev pub WithinPacking : Letter → Type 0
WithinPacking = performing.WithinLayout registers functions

-- the letter is coherent
abbrev pub judge_of : Window → Letter → Bool
judge_of = performing.judge_in_layout registers functions

-- the window after it
abbrev pub perform_of : Window → Letter → Window
perform_of = performing.perform_in_layout registers functions
