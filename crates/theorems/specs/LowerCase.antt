-- Names and words whatever the case of their letters (request 1).
use Rattle.std.specs.Prelude.{◌≡◌, ℕ, ◌<◌, false, List, length, get_or}
use Rattle.tokens.specs.Bytes.{capital, lower_case, key, spelling}
use Rattle.tokens.specs.Tokens.{place_of, bytes_at}
use Rattle.grammar.specs.Grammar.{Macro}

-- "Names and words are equal whatever the case of their letters": their bytes are the same in lower case (SPEC 8.2, 8.4).
abbrev pub EqualNames : List ℕ → List ℕ → Type 0
EqualNames a b = lower_case a ≡ lower_case b

-- The same macro with its names spelled otherwise, and in lower case (SPEC 8.4, 12.2).
abbrev pub spelled_as : List ℕ → List ℕ → Macro → Macro
spelled_as rs fs m = record {
  registers = m.registers;
  register_spellings = rs;
  functions = m.functions;
  function_spellings = fs;
  arities = m.arities;
  first_test = m.first_test;
  body = m.body;
}

abbrev pub in_lower_case : Macro → Macro
in_lower_case m = spelled_as m.registers m.functions m

-- Token i of the text, counted from 0, declares a name: its bytes in lower case are what the name is known by; as they stand the reader keeps them,
-- as a number, and lines print them (SPEC 8.4, 12.2).
pub record DeclaredBy (text : List ℕ) (i known spelled : ℕ) (printed : List ℕ) : Type 0 where
  pub known_is : known ≡ key (bytes_at text (place_of text i))
  pub spelled_is : spelled ≡ spelling (bytes_at text (place_of text i))
  pub printed_is : printed ≡ bytes_at text (place_of text i)

-- No byte of the text is a capital letter (SPEC 8.2).
abbrev pub WithoutCapitals : List ℕ → Type 0
WithoutCapitals s = (i : ℕ) → i < length s → capital (get_or s i 0) ≡ false
