-- The blank before a token and the LF behind it, as the writer decides on them.
use mathlib.Core.Path.{◌≡◌, refl, sym, ◌∙◌}
use Prim.Native.Nat.{ℕ, ◌+◌}
use native.Mathlib.Omega.{arith}
use mathlib.Core.Bool.{Bool, true, false}
use mathlib.Core.List.{List, [], ◌∷◌}
use Rattle.text.specs.Appending.{Appended}
use Rattle.text.proofs.Theory.Appending.{stored_none, appended_same}
use Rattle.layout_theory.specs.Layout.{is_word, ends_line, space, line_feed, blank_before, line_end}

module _ (w : ℕ) (r : Bool) where
  pub line_ended : r ≡ ends_line w → r ≡ true → line_end w ≡ line_feed ∷ []
  line_ended e t = rw (sym e ∙ t)

  pub line_goes_on : r ≡ ends_line w → r ≡ false → line_end w ≡ []
  line_goes_on e t = rw (sym e ∙ t)

  pub blank_due : (follows : Bool) → follows ≡ true → r ≡ is_word w → r ≡ true → blank_before follows w ≡ space ∷ []
  blank_due follows f e t = rw (f, sym e ∙ t)

  pub sign_follows : (follows : Bool) → r ≡ is_word w → r ≡ false → blank_before follows w ≡ []
  sign_follows true e t = rw (sym e ∙ t)
  sign_follows false e t = refl

pub follows_none : (w : ℕ) (follows : Bool) → follows ≡ false → blank_before follows w ≡ []
follows_none w follows f = rw f

-- nothing is appended
pub appended_nothing : {entry : List ℕ} {at : ℕ} (s : List ℕ) → s ≡ [] → Appended entry at s entry at
appended_nothing {entry} {at} s e =
    appended_same (sym e) (record { bytes = sym (stored_none entry at); place = let z : at ≡ at + 0 = omega arith in z })
