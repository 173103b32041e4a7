-- What the engine's arrays hold after some letters.
use Rattle.std.specs.Prelude.{◌≡◌, List, ℕ, suc, ◌+◌, ◌≤◌, ◌<◌, eqb, length, set}
use Rattle.base.specs.Choice.{pick}
use Rattle.letters.specs.declared.Letter.{Letter}
use Rattle.letters.specs.declared.Letter.TheVariants.{Copy, Apply, Equal, Unequal}
use Rattle.letters.specs.Letters.{Fits}
use Rattle.letters.specs.Editions.{most_letters, most_registers, most_functions}
use Rattle.closure.specs.Limits.{most_terms}
use Rattle.semantics.specs.Terms.{State, after}
use Rattle.semantics.specs.Facts.{Valid}
use Rattle.closure.specs.Numbering.{Numbered, Exact, Closed}
use Rattle.closure.specs.Represents.{RepresentsState, Sides}
use Rattle.closure.specs.Arrays.{entry_at, Formed, IndexedTerms, Merged, LookedAt, Parts}

-- After k letters that leave the state σ: n computed terms with their classes and the index, the term of each register in `value`,
-- and the m unequal tests by the terms in `left` and `right`, of which the first p are known to have their sides in different classes.
pub record Engine (σ : State) (function first second representative head link value left right : List ℕ) (registers n m p k : ℕ) : Type 0 where
  pub formed : Formed representative function first second registers n
  pub represents : RepresentsState σ (entry_at function) (entry_at first) (entry_at second) (entry_at representative) registers n (entry_at value)
  pub indexed : IndexedTerms representative function first second registers n head link
  pub sides : Sides σ n (entry_at left) (entry_at right) m
  pub registers_few : registers ≤ most_registers
  pub functions_few : σ.header.functions ≤ most_functions
  pub function_long : length function ≡ most_terms
  pub first_long : length first ≡ most_terms
  pub second_long : length second ≡ most_terms
  pub value_long : length value ≡ most_registers
  pub left_long : length left ≡ most_letters
  pub right_long : length right ≡ most_letters
  pub terms_few : n ≤ most_registers + k
  pub tests_few : m ≤ k
  pub parts : Parts representative left right p
  pub parts_few : p ≤ m

-- What was counted so far: the computed terms, the unequal tests, and how many of these are known to have their sides in different classes.
pub record Counts : Type 0 where
  pub terms : ℕ
  pub tests : ℕ
  pub parted : ℕ

-- Not all the letters that a trace may have were performed, and the next one fits.
pub record Ready (letter : Letter) (function first second representative head link value left right : List ℕ) (registers : ℕ) (counts : Counts) : Type 0 where
  pub state : State
  pub letters : ℕ
  pub few : letters < most_letters
  pub engine : Engine state function first second representative head link value left right registers counts.terms counts.tests counts.parted letters
  pub fits : Fits state.header letter

-- The next letter is performed: of whatever state the arrays held, they hold the state after the letter.
unfoldable pub LetterPerformed : (letter : Letter) (function first second representative head link value left right : List ℕ) (registers : ℕ) (counts : Counts)
    (function' first' second' representative' head' link' value' left' right' : List ℕ) (counts' : Counts) → Type 0
LetterPerformed letter function first second representative head link value left right registers counts function' first' second' representative' head' link'
    value' left' right' counts' =
    (σ : State) (k : ℕ) → k < most_letters → Fits σ.header letter
    → Engine σ function first second representative head link value left right registers counts.terms counts.tests counts.parted k
    → Engine (after σ letter) function' first' second' representative' head' link' value' left' right' registers counts'.terms counts'.tests
    counts'.parted (suc k)

-- The class of the application that the index has, or of the new one, n.
unfoldable pub name_of : List ℕ → ℕ → ℕ → ℕ
name_of representative found n = pick (eqb found n) (λ _. n) λ _. entry_at representative found

-- What `apply` asks: room for a term, a function and two terms.
pub record Appliable (function first second representative head link : List ℕ) (registers n f a b : ℕ) : Type 0 where
  pub formed : Formed representative function first second registers n
  pub indexed : IndexedTerms representative function first second registers n head link
  pub function_long : length function ≡ most_terms
  pub first_long : length first ≡ most_terms
  pub second_long : length second ≡ most_terms
  pub room : n < most_terms
  pub known : f < most_functions
  pub first_term : a < n
  pub second_term : b < n

-- A new term, f of the terms a and b, with the class that was looked up.
pub record Applied (function first second representative head link : List ℕ) (registers n f a b : ℕ)
    (function' first' second' representative' head' link' : List ℕ) : Type 0 where
  pub name : ℕ
  pub looked : LookedAt representative function first second registers n f a b name
  pub in_function : function' ≡ set function n f
  pub in_first : first' ≡ set first n a
  pub in_second : second' ≡ set second n b
  pub in_representative : representative' ≡ set representative n name
  pub indexed : IndexedTerms representative' function' first' second' registers (suc n) head' link'

-- What `compute` asks: registers that hold terms.
pub record Computable (function first second representative head link value : List ℕ) (registers : ℕ) (counts : Counts) (x f y z : ℕ) : Type 0 where
  pub appliable : Appliable function first second representative head link registers counts.terms f (entry_at value y) (entry_at value z)
  pub target_in : x < most_registers
  pub first_in : y < most_registers
  pub second_in : z < most_registers

-- An application of f to the terms of y and z is computed, and x holds the new term.
pub record Computing (function first second representative head link value : List ℕ) (registers : ℕ) (counts : Counts) (x f y z : ℕ)
    (function' first' second' representative' head' link' value' : List ℕ) (counts' : Counts) : Type 0 where
  pub applied : Applied function first second representative head link registers counts.terms f (entry_at value y)
      (entry_at value z) function' first' second' representative' head' link'
  pub in_value : value' ≡ set value x counts.terms
  pub counted : counts' ≡ record { terms = counts.terms + 1; tests = counts.tests; parted = counts.parted }

-- What an equal test asks: registers that hold terms.
pub record Equatable (function first second representative head link value : List ℕ) (registers : ℕ) (counts : Counts) (x y : ℕ) : Type 0 where
  pub formed : Formed representative function first second registers counts.terms
  pub closed : Closed (entry_at function) (entry_at first) (entry_at second) registers counts.terms (entry_at representative)
  pub indexed : IndexedTerms representative function first second registers counts.terms head link
  pub first_in : x < most_registers
  pub second_in : y < most_registers
  pub first_term : entry_at value x < counts.terms
  pub second_term : entry_at value y < counts.terms

-- The classes of the terms of x and y are one; as many of the unequal tests as `counts'` says are still known to have their sides in different classes.
pub record TermsEquated (function first second representative value : List ℕ) (registers : ℕ) (counts : Counts) (x y : ℕ) (representative' head' link' : List ℕ)
    (counts' : Counts) : Type 0 where
  pub merged : Merged representative function first second registers counts.terms (entry_at value x) (entry_at value y) representative' head' link'
  pub terms : counts'.terms ≡ counts.terms
  pub tests : counts'.tests ≡ counts.tests
  pub parted : counts'.parted ≤ counts.parted
  pub parts : (left right : List ℕ) → Parts representative left right counts.parted → Parts representative' left right counts'.parted

-- What a copy or an unequal test asks: registers, and room for a test.
unfoldable pub Notable : Letter → Counts → Type 0
Notable (Copy x y) counts = (x < most_registers) × (y < most_registers)
Notable (Unequal x y) counts = (x < most_registers) × (y < most_registers) × (counts.tests < most_letters)
Notable (Apply x f y z) counts = Unit
Notable (Equal x y) counts = Unit

-- A copy stores a term, and an unequal test is listed; another letter changes nothing here.
unfoldable pub Noted : (letter : Letter) (value left right : List ℕ) (counts : Counts) (value' left' right' : List ℕ) (counts' : Counts) → Type 0
Noted (Copy x y) value left right counts value' left' right' counts' =
    (value' ≡ set value x (entry_at value y)) × (left' ≡ left) × (right' ≡ right) × (counts' ≡ counts)
Noted (Unequal x y) value left right counts value' left' right' counts' =
    (value' ≡ value) × (left' ≡ set left counts.tests (entry_at value x)) × (right' ≡ set right counts.tests (entry_at value y))
    × (counts' ≡ record { terms = counts.terms; tests = counts.tests + 1; parted = counts.parted })
Noted (Apply x f y z) value left right counts value' left' right' counts' = (value' ≡ value) × (left' ≡ left) × (right' ≡ right) × (counts' ≡ counts)
Noted (Equal x y) value left right counts value' left' right' counts' = (value' ≡ value) × (left' ≡ left) × (right' ≡ right) × (counts' ≡ counts)

-- The n computed terms of the state σ and their classes: what the engine leaves of a whole trace.
pub record Computed (σ : State) (function first second representative : List ℕ) (registers n : ℕ) : Type 0 where
  pub valid : Valid σ
  pub header_registers : σ.header.registers ≡ registers
  pub registers_few : registers ≤ most_registers
  pub formed : Formed representative function first second registers n
  pub numbered : Numbered σ.terms (entry_at function) (entry_at first) (entry_at second) registers n
  pub exactly : Exact σ.terms σ.equals n (entry_at representative)
