-- The sentences of the grammar alone (SPEC 8.3; document 01, and document 02, request 4). Any name may stand where a name is due, declared or not, of any
-- sort and as often as one likes, there may be any number of declarations, and blocks may nest to any depth: those are questions 10 to 12 and 16.
use Rattle.std.specs.Prelude.{◌≡◌, ℕ, true, List, [], ◌∷◌, ◌++◌}
use Rattle.tokens.specs.Words.{is_name}
use Rattle.tokens.specs.Words as word

-- A token that is a name.
pub record Name : Type 0 where
  pub key : ℕ
  pub real : is_name key ≡ true

-- "C is `a = b`, `a != b`, `t(a)`, `t(a,b)`, `!t(a)` or `!t(a,b)`." (SPEC 8.3)
pub data NamedCondition : Type 0 where
  equal unequal : Name → Name → NamedCondition
  holds fails : Name → Name → NamedCondition
  holds_two fails_two : Name → Name → Name → NamedCondition

-- SPEC 8.3: "Statements: `skip;` `a := b;` `a := f(b);` `a := f(b,c);` `assume C;` `assert C;` `if C { .. }` with an optional `else { .. }`, `while C { .. }`."
mutual
  pub data NamedStatement : Type 0 where
    skip : NamedStatement
    copy : Name → Name → NamedStatement
    apply : Name → Name → Name → NamedStatement
    apply_two : Name → Name → Name → Name → NamedStatement
    assume assert : NamedCondition → NamedStatement
    if : NamedCondition → NamedBlock → NamedElse → NamedStatement
    while : NamedCondition → NamedBlock → NamedStatement

  pub data NamedElse : Type 0 where
    absent : NamedElse
    present : NamedBlock → NamedElse

  -- "A block holds statements, and a statement may hold blocks, empty ones too." (SPEC 8.3)
  infixr 30 ◌followed_by◌
  pub data NamedBlock : Type 0 where
    empty : NamedBlock
    ◌followed_by◌ : NamedStatement → NamedBlock → NamedBlock

-- "entries such as `cap/1`": of a function or a test of one argument, or of two (SPEC 8.3)
pub data Entry : Type 0 where
  one two : Name → Entry

-- "A macro is `vars` names `;`, then perhaps `funs` entries .. and `;` (at least one in each list), then perhaps `tests` entries and `;`, then statements,
-- perhaps none." (SPEC 8.3)
pub record NamedMacro : Type 0 where
  pub first : Name
  pub others : List Name
  pub functions : List Entry
  pub tests : List Entry
  pub body : NamedBlock

-- ---- the tokens of each, and then the tokens ws

abbrev pub condition_then : NamedCondition → List ℕ → List ℕ
condition_then (NamedCondition.equal a b) ws = a.key ∷ word.equal_key ∷ b.key ∷ ws
condition_then (NamedCondition.unequal a b) ws = a.key ∷ word.unequal_key ∷ b.key ∷ ws
condition_then (NamedCondition.holds t a) ws = t.key ∷ word.lparen_key ∷ a.key ∷ word.rparen_key ∷ ws
condition_then (NamedCondition.fails t a) ws = word.not_key ∷ t.key ∷ word.lparen_key ∷ a.key ∷ word.rparen_key ∷ ws
condition_then (NamedCondition.holds_two t a b) ws = t.key ∷ word.lparen_key ∷ a.key ∷ word.comma_key ∷ b.key ∷ word.rparen_key ∷ ws
condition_then (NamedCondition.fails_two t a b) ws = word.not_key ∷ t.key ∷ word.lparen_key ∷ a.key ∷ word.comma_key ∷ b.key ∷ word.rparen_key ∷ ws

abbrev mutual
  pub statement_then : NamedStatement → List ℕ → List ℕ
  statement_then NamedStatement.skip ws = word.skip_key ∷ word.semicolon_key ∷ ws
  statement_then (NamedStatement.copy a b) ws = a.key ∷ word.becomes_key ∷ b.key ∷ word.semicolon_key ∷ ws
  statement_then (NamedStatement.apply a f b) ws = a.key ∷ word.becomes_key ∷ f.key ∷ word.lparen_key ∷ b.key ∷ word.rparen_key ∷ word.semicolon_key ∷ ws
  statement_then (NamedStatement.apply_two a f b c) ws =
      a.key ∷ word.becomes_key ∷ f.key ∷ word.lparen_key ∷ b.key ∷ word.comma_key ∷ c.key ∷ word.rparen_key ∷ word.semicolon_key ∷ ws
  statement_then (NamedStatement.assume c) ws = word.assume_key ∷ condition_then c (word.semicolon_key ∷ ws)
  statement_then (NamedStatement.assert c) ws = word.assert_key ∷ condition_then c (word.semicolon_key ∷ ws)
  statement_then (NamedStatement.if c b e) ws = word.if_key ∷ condition_then c (word.lbrace_key ∷ block_then b (word.rbrace_key ∷ else_then e ws))
  statement_then (NamedStatement.while c b) ws = word.while_key ∷ condition_then c (word.lbrace_key ∷ block_then b (word.rbrace_key ∷ ws))

  pub else_then : NamedElse → List ℕ → List ℕ
  else_then NamedElse.absent ws = ws
  else_then (NamedElse.present b) ws = word.else_key ∷ word.lbrace_key ∷ block_then b (word.rbrace_key ∷ ws)

  pub block_then : NamedBlock → List ℕ → List ℕ
  block_then NamedBlock.empty ws = ws
  block_then (c followed_by b) ws = statement_then c (block_then b ws)

abbrev pub names_then : List Name → List ℕ → List ℕ
names_then [] ws = ws
names_then (a ∷ bs) ws = a.key ∷ names_then bs ws

abbrev pub entry_then : Entry → List ℕ → List ℕ
entry_then (Entry.one f) ws = f.key ∷ word.slash_key ∷ word.one_key ∷ ws
entry_then (Entry.two f) ws = f.key ∷ word.slash_key ∷ word.two_key ∷ ws

abbrev pub entries_then : List Entry → List ℕ → List ℕ
entries_then [] ws = ws
entries_then (f ∷ fs) ws = entry_then f (entries_then fs ws)

-- a line that begins with the word k, or none
abbrev pub line_then : ℕ → List Entry → List ℕ → List ℕ
line_then k [] ws = ws
line_then k (f ∷ fs) ws = k ∷ entries_then (f ∷ fs) (word.semicolon_key ∷ ws)

abbrev pub named_sentence : NamedMacro → List ℕ
named_sentence m =
    word.vars_key ∷ m.first.key ∷ names_then m.others
    (word.semicolon_key ∷ line_then word.funs_key m.functions (line_then word.tests_key m.tests (block_then m.body [])))

-- ---- sentences, and what begins one

-- The tokens are a sentence (SPEC 8.3).
pub record Sentence (ws : List ℕ) : Type 0 where
  pub macro : NamedMacro
  pub spelled : named_sentence macro ≡ ws

-- "Fits the grammar?": some sentence begins with the tokens (SPEC 11.4).
pub record Viable (ws : List ℕ) : Type 0 where
  pub macro : NamedMacro
  pub further : List ℕ
  pub spelled : named_sentence macro ≡ ws ++ further
