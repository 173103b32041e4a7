-- The house layout of a macro (SPEC 8.6; document 02, request 2): "names as declared, keywords in lower case, one blank only between two words (`1` and
-- `2` count as words), no blank elsewhere, an LF after each `;`, `{` and `}`, comments dropped, an empty else dropped."
use Rattle.std.specs.Prelude.{ℕ, ◌%◌, Bool, false, ◌&&◌, ◌||◌, List, [], ◌∷◌, ◌++◌, eqb}
use Rattle.base.specs.Choice.{pick}
use Rattle.base.specs.Bytes.{byte_values}
use Rattle.tokens.specs.Bytes.{letter, digit}
use Rattle.tokens.specs.Words as word
use Rattle.text.specs.Names.{name_text}
use Rattle.grammar.specs.Tree.{Statement, skip, assign, assume, assert, if, while, Else, absent, present, Block, empty, ◌then◌}
use Rattle.grammar.specs.Grammar.{Macro, sentence}
use Rattle.grammar.specs.Limits.{longest_text}

-- ---- "an empty else dropped"

-- An else whose block holds no statement is an absent one.
abbrev pub else_of : Block → Else
else_of empty = absent
else_of (s then b) = present (s then b)

-- Nothing else is dropped: `skip;` is a statement, and so is an `if` with empty blocks (SPEC 8.6).
abbrev mutual
  pub short_statement : Statement → Statement
  short_statement skip = skip
  short_statement (assign a) = assign a
  short_statement (assume c) = assume c
  short_statement (assert c) = assert c
  short_statement (if c b e) = if c (short_block b) (short_else e)
  short_statement (while c b) = while c (short_block b)

  pub short_else : Else → Else
  short_else absent = absent
  short_else (present b) = else_of (short_block b)

  pub short_block : Block → Block
  short_block empty = empty
  short_block (s then b) = short_statement s then short_block b

abbrev pub without_empty_elses : Macro → Macro
without_empty_elses m = record {
  registers = m.registers;
  register_spellings = m.register_spellings;
  functions = m.functions;
  function_spellings = m.function_spellings;
  arities = m.arities;
  first_test = m.first_test;
  body = short_block m.body;
}

-- ---- "names as declared, keywords in lower case"

-- The same macro with its names held as they are spelled where they are declared (SPEC 8.4). In its sentence words stand in lower case, as everywhere.
abbrev pub as_declared : Macro → Macro
as_declared m = record {
  registers = m.register_spellings;
  register_spellings = m.register_spellings;
  functions = m.function_spellings;
  function_spellings = m.function_spellings;
  arities = m.arities;
  first_test = m.first_test;
  body = m.body;
}

-- ---- blanks and lines

-- A token is held as the number of its bytes, the first one lowest.
abbrev pub first_byte : ℕ → ℕ
first_byte w = w % byte_values

-- "two words (`1` and `2` count as words)": names and keywords begin with a letter, `1` and `2` with a digit, and no other token with either (SPEC 8.2).
abbrev pub is_word : ℕ → Bool
is_word w = letter (first_byte w) || digit (first_byte w)

-- "an LF after each `;`, `{` and `}`"
abbrev pub ends_line : ℕ → Bool
ends_line w = eqb w word.semicolon_key || eqb w word.lbrace_key || eqb w word.rbrace_key

-- Space and LF (SPEC 8.1).
abbrev pub space : ℕ
space = 32

abbrev pub line_feed : ℕ
line_feed = 10

-- "one blank only between two words": before a token, where the token before it is a word or not
abbrev pub blank_before : Bool → ℕ → List ℕ
blank_before follows w = pick (follows && is_word w) (λ _. space ∷ []) λ _. []

abbrev pub line_end : ℕ → List ℕ
line_end w = pick (ends_line w) (λ _. line_feed ∷ []) λ _. []

-- Tokens as bytes, with the blanks and the line ends of the layout. The flag says that the token before them is a word.
unfoldable pub spaced : Bool → List ℕ → List ℕ
spaced follows [] = []
spaced follows (w ∷ ws) = blank_before follows w ++ (name_text w ++ (line_end w ++ spaced (is_word w) ws))

-- ---- the layout

-- The tokens of the print (SPEC 8.3, 8.6). A comment is no token, and so none is printed.
abbrev pub print_tokens : Macro → List ℕ
print_tokens m = sentence (as_declared (without_empty_elses m))

-- The print of a macro.
unfoldable pub house_layout : Macro → List ℕ
house_layout m = spaced false (print_tokens m)

-- "4,096 bytes": no longer print is written, so that each one that is written is the text of a macro (SPEC 8.6, 11.3).
abbrev pub longest_print : ℕ
longest_print = longest_text
