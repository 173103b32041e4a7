-- What follows from the definitions of specs/Templates.antt.
use mathlib.Core.Path.{◌≡◌}
use Prim.Native.Nat.{ℕ, ◌-◌, ◌+◌, ◌≤◌, ◌<◌}
use mathlib.Core.List.{List, [], ◌∷◌, ◌++◌}
use native.Mathlib.Omega.{arith}
use native.Mathlib.Numerals.{add-one}
use lib.ListN.{length, get_or, drop, drop_of_length-le}
use lib.Seq.{drop-cons}
use borrow.Author.Tests.{lt-ltb, le-ltb}
use Rattle.text.specs.Numerals.{numeral}
use Rattle.text.specs.Names.{name_text}
use Rattle.text.specs.Templates.{part, filled_in}

module _ (c : ℕ) (fields : List ℕ) where
  pub part_low : c < 48 → part c fields ≡ c ∷ []
  unfolding part
  part_low h = rw (lt-ltb c 48 h)

  pub part_name : 48 ≤ c → c < 52 → part c fields ≡ name_text (get_or fields (c - 48) 0)
  unfolding part
  part_name h l = rw (le-ltb c 48 h, lt-ltb c 52 l)

  pub part_number : 52 ≤ c → c < 56 → part c fields ≡ numeral (get_or fields (c - 52) 0)
  unfolding part
  part_number h l = rw (le-ltb c 48 (omega arith), le-ltb c 52 h, lt-ltb c 56 l)

  pub part_high : 56 ≤ c → part c fields ≡ c ∷ []
  unfolding part
  part_high h = rw (le-ltb c 48 (omega arith), le-ltb c 52 (omega arith), le-ltb c 56 h)

-- One byte of a template after the other.
pub filled_next : (template fields : List ℕ) (i : ℕ) → i < length template
    → filled_in (drop i template) fields ≡ part (get_or template i 0) fields ++ filled_in (drop (i + 1) template) fields
unfolding filled_in
filled_next template fields i h = rw (add-one, drop-cons template i 0 h)

pub filled_none : (template fields : List ℕ) (i : ℕ) → length template ≤ i → filled_in (drop i template) fields ≡ []
unfolding filled_in
filled_none template fields i h = rw (drop_of_length-le template h)
