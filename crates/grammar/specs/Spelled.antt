-- When the tokens of a text are the sentence of a macro, and when the declarations of a macro are in order (SPEC 8.3 to 8.5).
use Rattle.std.specs.Prelude.{◌≡◌, ℕ, ◌+◌, ◌*◌, ◌-◌, ◌≤◌, ◌<◌, true, List, [], ◌∷◌, ◌++◌, eqb, ltb, length, get_or}
use Rattle.base.specs.Choice.{pick}
use Rattle.letters.specs.Editions.{most_registers, most_functions}
use Rattle.tokens.specs.Tokens.{token_at, place_of, spellings}
use Rattle.tokens.specs.Words.{is_name}
use Rattle.tokens.specs.Words as word
use Rattle.grammar.specs.Limits.{deepest_nesting, hidden_registers}
use Rattle.grammar.specs.Tree.{ProperBlock}
use Rattle.grammar.specs.Grammar.{Macro, header, sentence, NestsBlock}

-- The tokens of the text s from one place to another are the listed ones, by their keys (SPEC 8.2, 8.3).
pub data Spells (s : List ℕ) : ℕ → List ℕ → ℕ → Type 0 where
  none : {at : ℕ} → Spells s at [] at
  more : {at k e : ℕ} {ks : List ℕ} → (token_at s at).key ≡ k → word.wrong < k → Spells s (token_at s at).end ks e → Spells s at (k ∷ ks) e

-- The tokens that declare names, numbered from 0 (SPEC 8.3, 8.4). "`vars` names `;`": the first register is token 1.
abbrev pub first_register : ℕ
first_register = 1

-- "names": each is one token
abbrev pub register_length : ℕ
register_length = 1

-- "then perhaps `funs` entries": beside the registers `vars`, `;` and `funs` stand before the first function.
abbrev pub before_functions : ℕ
before_functions = 3

abbrev pub first_function : ℕ → ℕ
first_function n = n + before_functions

-- "entries such as `cap/1`": each is three tokens
abbrev pub entry_length : ℕ
entry_length = 3

-- a line of m entries: its word, the entries and `;`, where there are some
abbrev pub beside_entries : ℕ
beside_entries = 2

abbrev pub line_length : ℕ → ℕ
line_length m = pick (eqb m 0) (λ _. 0) λ _. entry_length * m + beside_entries

-- "A line `tests hot/1;` may follow the `vars` line, or the `funs` line where there is one" (document 02, request 4): `tests` stands where `funs` would
-- stand, or behind the line of the m functions
abbrev pub first_test_token : ℕ → ℕ → ℕ
first_test_token n m = first_function n + line_length m

-- The token that declares function f, behind n registers, where functions from number m on are tests.
abbrev pub function_token : ℕ → ℕ → ℕ → ℕ
function_token n m f = pick (ltb f m) (λ _. first_function n + entry_length * f) λ _. first_test_token n m + entry_length * (f - m)

-- The names of n registers, and of k functions behind them, of which those from number m on are tests, as the tokens that declare them are spelled
-- (SPEC 8.4).
abbrev pub spelled_registers : List ℕ → ℕ → List ℕ
spelled_registers s n = spellings s (place_of s first_register) register_length n

abbrev pub spelled_functions : List ℕ → ℕ → ℕ → ℕ → List ℕ
spelled_functions s n m k = spellings s (place_of s (first_function n)) entry_length m ++ spellings s (place_of s (first_test_token n m)) entry_length (k - m)

-- The tokens of the whole text are the sentence of the macro, and its names are spelled as they are declared (SPEC 8.3, 8.4).
pub record Spelled (s : List ℕ) (m : Macro) : Type 0 where
  pub place : ℕ
  pub tokens : Spells s 0 (sentence m) place
  pub ended : (token_at s place).key ≡ word.end
  pub register_spellings : m.register_spellings ≡ spelled_registers s (length m.registers)
  pub function_spellings : m.function_spellings ≡ spelled_functions s (length m.registers) m.first_test (length m.functions)

-- Each is a name, and no two are the same (SPEC 8.4).
pub record Declared (rs : List ℕ) : Type 0 where
  pub names : (i : ℕ) → i < length rs → is_name (get_or rs i 0) ≡ true
  pub once : (i j : ℕ) → i < length rs → j < length rs → get_or rs i 0 ≡ get_or rs j 0 → i ≡ j

-- No name of one list is in the other (SPEC 8.4).
unfoldable pub Disjoint : List ℕ → List ℕ → Type 0
Disjoint rs fs = (i j : ℕ) → i < length rs → j < length fs → get_or rs i 0 ≡ get_or fs j 0 → ⊥

-- As many as the functions, each 1 or 2 (SPEC 8.3, 8.4).
pub data Arities : List ℕ → List ℕ → Type 0 where
  none : Arities [] []
  one : {f : ℕ} {fs ns : List ℕ} → Arities fs ns → Arities (f ∷ fs) (1 ∷ ns)
  two : {f : ℕ} {fs ns : List ℕ} → Arities fs ns → Arities (f ∷ fs) (2 ∷ ns)

-- Declarations, uses and depth are in order (SPEC 8.4, 8.5; questions 10 to 12 and 16).
pub record InOrder (m : Macro) : Type 0 where
  pub registers : Declared m.registers
  pub some : 1 ≤ length m.registers
  pub few : length m.registers ≤ most_registers
  pub functions : Declared m.functions
  pub apart : Disjoint m.registers m.functions
  pub arities : Arities m.functions m.arities
  pub fewer : length m.functions ≤ most_functions
  pub tests : m.first_test ≤ length m.functions
  pub room : m.first_test < length m.functions → length m.registers + hidden_registers ≤ most_registers
  pub uses : ProperBlock m.body (header m.registers m.functions m.arities) m.first_test
  pub depth : NestsBlock m.body deepest_nesting
