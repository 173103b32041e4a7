-- The values of the computed terms, from the representatives of their classes.
use Rattle.std.specs.Prelude.{◌≡◌, List, ℕ, zero, suc, ◌≤◌, ◌<◌, eqb, length, get_or}
use Rattle.closure.specs.Limits.{most_terms}
use Rattle.base.specs.Choice.{pick}

-- How many of the first i terms are the first of their class, that is, their own representative.
unfoldable pub classes_below : List ℕ → ℕ → ℕ
classes_below representative zero = 0
classes_below representative (suc i) = pick (eqb (get_or representative i 0) i) (λ _. suc (classes_below representative i)) λ _. classes_below representative i

-- The value of term i: classes are numbered from 1 by their first terms.
unfoldable pub value_at : List ℕ → ℕ → ℕ
value_at representative i = suc (classes_below representative (get_or representative i 0))

-- 1 for the first term of a class, and 0 for another
unfoldable pub new_class : List ℕ → ℕ → ℕ
new_class representative i = pick (eqb (get_or representative i 0) i) (λ _. 1) λ _. 0

-- the value that term i gets: the next one for the first of a class, else that of its representative, which is before it
unfoldable pub chosen : (representative values : List ℕ) (i next : ℕ) → ℕ
chosen representative values i next = pick (eqb (get_or representative i 0) i) (λ _. next) λ _. get_or values (get_or representative i 0) 0

-- The values of the first n terms are given, and c is the number of values: the classes and the value 0.
pub record Valued (representative : List ℕ) (n : ℕ) (values : List ℕ) (c : ℕ) : Type 0 where
  pub at_each : (i : ℕ) → i < n → get_or values i 0 ≡ value_at representative i
  pub count : c ≡ suc (classes_below representative n)
  pub long : length values ≡ most_terms

-- What `number` asks: representatives of count terms, and room for as many values.
pub record Numberable (representative : List ℕ) (n : ℕ) (values : List ℕ) : Type 0 where
  pub within : n ≤ most_terms
  pub room : length values ≡ most_terms
  pub lowest : (i : ℕ) → i < n → get_or representative i 0 ≤ i
  pub own : (i : ℕ) → i < n → get_or representative (get_or representative i 0) 0 ≡ get_or representative i 0
