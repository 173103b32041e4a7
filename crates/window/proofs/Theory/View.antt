-- What a window value says of registers, in the first edition's layout.
use Prim.Native.Nat.{ℕ}
use Rattle.semantics.specs.View.{View}
use Rattle.window.specs.Layout.{registers, functions}
use Rattle.window.specs.Viewing as viewing
use Rattle.window.specs.declared.Window.{Window}

abbrev pub view_in_first_edition : Window → View
view_in_first_edition = viewing.view registers functions

-- nothing is said of registers from n on
abbrev pub InsideInFirstEdition : ℕ → View → Type 0
InsideInFirstEdition = viewing.Inside registers

-- the arrays have the lengths and the entries of their types
abbrev pub ShapedInFirstEdition : Window → Type 0
ShapedInFirstEdition = viewing.Shaped registers functions
