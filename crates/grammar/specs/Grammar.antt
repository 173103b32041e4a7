-- Macros with their names, and their sentences: the tokens that spell a macro (SPEC 8.3 to 8.5; document 01).
use Rattle.std.specs.Prelude.{ℕ, zero, suc, ◌+◌, ◌*◌, List, [], ◌∷◌, ◌++◌, Bool, eqb, ltb, length, get_or, take, drop}
use Rattle.base.specs.Choice.{pick}
use Rattle.letters.specs.declared.Header.{Header}
use Rattle.macros.specs.Tree as macro
use Rattle.tokens.specs.Words as word
use Rattle.grammar.specs.Tree.{Condition, equal, unequal, holds, fails, Assignment, copy, apply, Statement, skip, assign, assume, assert, if, while, Else}
use Rattle.grammar.specs.Tree.{absent, present, Block, empty, ◌then◌}
use Rattle.grammar.specs.Expanded.{expanded_block}

-- A macro: the names of its registers, the names of its functions and how many arguments each takes, and its statements (SPEC 8).
-- Tests are functions behind the others ("tests follow the functions", document 02, request 4): those from number `first_test` on.
-- A name is known by its number in lower case; beside it stands its number as it is spelled where it is declared (SPEC 8.4).
pub record Macro : Type 0 where
  pub registers : List ℕ
  pub register_spellings : List ℕ
  pub functions : List ℕ
  pub function_spellings : List ℕ
  pub arities : List ℕ
  pub first_test : ℕ
  pub body : Block

-- "With that line the hidden registers follow the declared ones, `result` first" (document 02, request 4), where k functions are there, from number t on
-- tests. They have the words for names (SPEC 8.4, 12.2).
abbrev pub hidden : ℕ → ℕ → List ℕ
hidden t k = pick (ltb t k) (λ _. word.result_key ∷ word.truth_key ∷ []) λ _. []

abbrev pub hidden_of : Macro → List ℕ
hidden_of m = hidden m.first_test (length m.functions)

-- The functions of two arguments as a mask, function 0 lowest (SPEC 2.6, 8.4).
abbrev pub binary_of : List ℕ → ℕ
binary_of [] = 0
binary_of (n ∷ ns) = pick (eqb n 2) (λ _. 1) (λ _. 0) + 2 * binary_of ns

abbrev pub header : List ℕ → List ℕ → List ℕ → Header
header rs fs ns = record { registers = length rs; functions = length fs; binary = binary_of ns }

abbrev pub header_of : Macro → Header
header_of m = header (m.registers ++ hidden_of m) m.functions m.arities

-- The names of registers that lines print, the hidden ones behind the declared (SPEC 8.4, 12.2).
abbrev pub shown_registers : Macro → List ℕ
shown_registers m = m.register_spellings ++ hidden_of m

-- The macro with its tests as letters: its points and executions are those of this tree (SPEC 9.1 to 9.3).
abbrev pub expanded : Macro → macro.Block
expanded m = expanded_block (length m.registers) m.body

-- ---- sentences

module _ (rs fs ns : List ℕ) where
  abbrev pub register : ℕ → ℕ
  register x = get_or rs x 0

  abbrev pub function : ℕ → ℕ
  function f = get_or fs f 0

  abbrev pub takes_two : ℕ → Bool
  takes_two f = eqb (get_or ns f 0) 2

  -- behind the first argument of a function
  abbrev pub argument_tokens : ℕ → ℕ → List ℕ
  argument_tokens f z = pick (takes_two f) (λ _. word.comma_key ∷ register z ∷ word.rparen_key ∷ []) λ _. word.rparen_key ∷ []

  -- `f(b)` `f(b,c)`
  abbrev pub application_tokens : ℕ → ℕ → ℕ → List ℕ
  application_tokens f y z = function f ∷ word.lparen_key ∷ register y ∷ argument_tokens f z

  -- "C is `a = b`, `a != b`, `t(a)`, `t(a,b)`, `!t(a)` or `!t(a,b)`." (SPEC 8.3)
  abbrev pub condition_tokens : Condition → List ℕ
  condition_tokens (equal x y) = register x ∷ word.equal_key ∷ register y ∷ []
  condition_tokens (unequal x y) = register x ∷ word.unequal_key ∷ register y ∷ []
  condition_tokens (holds f y z) = application_tokens f y z
  condition_tokens (fails f y z) = word.not_key ∷ application_tokens f y z

  -- `a := b;` `a := f(b);` `a := f(b,c);`
  abbrev pub assignment_tokens : Assignment → List ℕ
  assignment_tokens (copy x y) = register x ∷ word.becomes_key ∷ register y ∷ word.semicolon_key ∷ []
  assignment_tokens (apply x f y z) = register x ∷ word.becomes_key ∷ (application_tokens f y z ++ word.semicolon_key ∷ [])

  -- and `skip;` `assume C;` `assert C;` `if C { .. }` with an optional `else { .. }`, `while C { .. }`
  unfoldable mutual
    pub statement_tokens : Statement → List ℕ
    statement_tokens skip = word.skip_key ∷ word.semicolon_key ∷ []
    statement_tokens (assign a) = assignment_tokens a
    statement_tokens (assume c) = word.assume_key ∷ (condition_tokens c ++ word.semicolon_key ∷ [])
    statement_tokens (assert c) = word.assert_key ∷ (condition_tokens c ++ word.semicolon_key ∷ [])
    statement_tokens (if c b e) = word.if_key ∷ (condition_tokens c ++ word.lbrace_key ∷ (block_tokens b ++ word.rbrace_key ∷ else_tokens e))
    statement_tokens (while c b) = word.while_key ∷ (condition_tokens c ++ word.lbrace_key ∷ (block_tokens b ++ word.rbrace_key ∷ []))

    pub else_tokens : Else → List ℕ
    else_tokens absent = []
    else_tokens (present b) = word.else_key ∷ word.lbrace_key ∷ (block_tokens b ++ word.rbrace_key ∷ [])

    pub block_tokens : Block → List ℕ
    block_tokens empty = []
    block_tokens (s then b) = statement_tokens s ++ block_tokens b

-- "entries such as `cap/1`": the digits 1 and 2 are the bytes 49 and 50 (SPEC 8.3)
unfoldable pub entry_tokens : List ℕ → List ℕ → List ℕ
entry_tokens [] ns = []
entry_tokens (f ∷ fs) [] = []
entry_tokens (f ∷ fs) (n ∷ ns) = f ∷ word.slash_key ∷ (48 + n) ∷ entry_tokens fs ns

-- "then perhaps `funs` entries and `;` (at least one in each list)", and so of `tests` (SPEC 8.3): a line that begins with the word k, or none
unfoldable pub line_tokens : ℕ → List ℕ → List ℕ → List ℕ
line_tokens k [] ns = []
line_tokens k (f ∷ fs) ns = k ∷ (entry_tokens (f ∷ fs) ns ++ word.semicolon_key ∷ [])

-- "A line `tests hot/1;` may follow the `vars` line, or the `funs` line where there is one." (document 02, request 4): the lines of functions fs, of which
-- those from number t on are tests
abbrev pub declaration_tokens : List ℕ → List ℕ → ℕ → List ℕ
declaration_tokens fs ns t = line_tokens word.funs_key (take t fs) (take t ns) ++ line_tokens word.tests_key (drop t fs) (drop t ns)

-- "A macro is `vars` names `;`, then perhaps `funs` .., then perhaps `tests` .., then statements, perhaps none." (SPEC 8.3)
unfoldable pub sentence : Macro → List ℕ
sentence m =
    word.vars_key ∷ (m.registers ++ word.semicolon_key ∷
    (declaration_tokens m.functions m.arities m.first_test ++ block_tokens m.registers m.functions m.arities m.body))

-- ---- depth

-- one brace deeper
abbrev pub OneDeeper : (ℕ → Type 0) → ℕ → Type 0
OneDeeper P zero = ⊥
OneDeeper P (suc d) = P d

-- "Braces nest at most 16 deep": at most d deep (SPEC 8.5).
abbrev mutual
  pub Nests : Statement → ℕ → Type 0
  Nests skip d = Unit {0}
  Nests (assign a) d = Unit {0}
  Nests (assume c) d = Unit {0}
  Nests (assert c) d = Unit {0}
  Nests (if c b e) d = OneDeeper (λ n. NestsBlock b n) d × NestsElse e d
  Nests (while c b) d = OneDeeper (λ n. NestsBlock b n) d

  pub NestsElse : Else → ℕ → Type 0
  NestsElse absent d = Unit {0}
  NestsElse (present b) d = OneDeeper (λ n. NestsBlock b n) d

  pub NestsBlock : Block → ℕ → Type 0
  NestsBlock empty d = Unit {0}
  NestsBlock (s then b) d = Nests s d × NestsBlock b d
