-- Questions 8 to 12 and 16, each as a predicate on the tokens before a token and the token itself: when its answer is no. Question 11 looks at the next
-- token too.
-- A token is its number; `word.end` stands for the end of the text, and `word.wrong` for what is no token (SPEC 11.4).
use Rattle.std.specs.Prelude.{◌≡◌, ◌⊎◌, ℕ, ◌+◌, ◌≤◌, ◌<◌, true, List, [], ◌∷◌, ◌++◌, eqb, length, get_or, take, drop}
use Rattle.base.specs.Choice.{pick}
use Rattle.letters.specs.Editions.{most_registers, most_functions}
use Rattle.letters.specs.MacroRefusalNumbers.{token_malformed, grammar_violated, declaration_wrong, use_wrong, nesting_too_deep, no_room_for_tests}
use Rattle.tokens.specs.Words.{is_name}
use Rattle.tokens.specs.Words as word
use Rattle.grammar.specs.Limits.{deepest_nesting, hidden_registers}
use Rattle.grammar.specs.Grammar.{entry_tokens, line_tokens, declaration_tokens}
use Rattle.grammar.specs.Spelled.{Arities}
use Rattle.refusals.specs.Sentences.{Sentence, Viable}

-- "Fits the grammar? 9 (at the text's length if it ends early)." (SPEC 11.4)
pub data Unfit (before : List ℕ) (k : ℕ) : Type 0 where
  early : k ≡ word.end → (Sentence before → ⊥) → Unfit before k
  misplaced : (k ≡ word.end → ⊥) → (Viable (before ++ k ∷ []) → ⊥) → Unfit before k

-- ---- where the tokens so far end

-- Each is a name.
abbrev pub AllNames : List ℕ → Type 0
AllNames ks = (i : ℕ) → i < length ks → is_name (get_or ks i 0) ≡ true

-- behind `vars` and the names rs
pub record InRegisters (before rs : List ℕ) : Type 0 where
  pub registers : AllNames rs
  pub split : before ≡ word.vars_key ∷ rs

-- behind the line of the registers rs, `funs` and the entries of the functions fs, which take ns arguments
pub record InFunctions (before rs fs ns : List ℕ) : Type 0 where
  pub registers : AllNames rs
  pub functions : AllNames fs
  pub arities : Arities fs ns
  pub split : before ≡ word.vars_key ∷ (rs ++ word.semicolon_key ∷ word.funs_key ∷ entry_tokens fs ns)

-- behind the lines of the registers and of the functions, of which the second may be absent, `tests` and entries: fs are all functions so far, which take ns
-- arguments, those from number t on in this line
pub record InTests (before rs fs ns : List ℕ) (t : ℕ) : Type 0 where
  pub registers : AllNames rs
  pub functions : AllNames fs
  pub arities : Arities fs ns
  pub within : t ≤ length fs
  pub split : before ≡ word.vars_key ∷ (rs ++ word.semicolon_key ∷ (line_tokens word.funs_key (take t fs) (take t ns) ++ word.tests_key
      ∷ entry_tokens (drop t fs) (drop t ns)))

-- behind the lines, of which only the first must be there, and the tokens `body`; a line that has begun is no statement
pub record InStatements (before rs fs ns : List ℕ) (t : ℕ) : Type 0 where
  pub registers : AllNames rs
  pub functions : AllNames fs
  pub arities : Arities fs ns
  pub within : t ≤ length fs
  pub body : List ℕ
  pub split : before ≡ word.vars_key ∷ (rs ++ word.semicolon_key ∷ (declaration_tokens fs ns t ++ body))
  pub functions_begun : get_or body 0 0 ≡ word.funs_key → ⊥
  pub tests_begun : get_or body 0 0 ≡ word.tests_key → ⊥

-- ---- 10

abbrev pub Among : ℕ → List ℕ → Type 0
Among k ks = (i : ℕ) × (i < length ks) × (get_or ks i 0 ≡ k)

-- "Within eight registers and four functions, each name declared once? 10." (SPEC 11.4) "Functions and tests together are at most four." (document 02,
-- request 4)
pub data Redeclared (before : List ℕ) (k : ℕ) : Type 0 where
  register : {rs : List ℕ} → InRegisters before rs → is_name k ≡ true → Among k rs ⊎ (most_registers ≤ length rs) → Redeclared before k
  function : {rs fs ns : List ℕ} → InFunctions before rs fs ns → is_name k ≡ true → (Among k rs ⊎ Among k fs) ⊎ (most_functions ≤ length fs) → Redeclared before k
  test : {rs fs ns : List ℕ} {t : ℕ} → InTests before rs fs ns t → is_name k ≡ true → (Among k rs ⊎ Among k fs) ⊎ (most_functions ≤ length fs)
      → Redeclared before k

-- ---- 11

-- the last token
abbrev pub Behind : List ℕ → ℕ → Type 0
Behind before k = (ws : List ℕ) × (before ≡ ws ++ k ∷ [])

-- "after `:=` a name is a function if the next token is `(`, else a register" (SPEC 8.4, 11.4)
abbrev pub FunctionDue : List ℕ → ℕ → Type 0
FunctionDue before next = Behind before word.becomes_key × (next ≡ word.lparen_key)

-- behind a word that a condition follows
abbrev pub ConditionDue : List ℕ → Type 0
ConditionDue before = (Behind before word.assume_key ⊎ Behind before word.assert_key) ⊎ (Behind before word.if_key ⊎ Behind before word.while_key)

-- "In a condition the first name must be a test before `(` or after `!`" (document 02, request 4; SPEC 8.4, 11.4)
abbrev pub TestDue : List ℕ → ℕ → Type 0
TestDue before next = Behind before word.not_key ⊎ (ConditionDue before × (next ≡ word.lparen_key))

-- behind `f(b`
abbrev pub Called : List ℕ → ℕ → Type 0
Called before f = (ws : List ℕ) × (b : ℕ) × (before ≡ ws ++ f ∷ word.lparen_key ∷ b ∷ [])

-- f is declared with n arguments
abbrev pub TakesArguments : List ℕ → List ℕ → ℕ → ℕ → Type 0
TakesArguments fs ns f n = (i : ℕ) × (i < length fs) × (get_or fs i 0 ≡ f) × (get_or ns i 0 ≡ n)

-- "A use declared, of the right sort? 11 (..; a wrong argument count stands at the `,` or `)`)." (SPEC 11.4) Of the functions those from number t on are tests.
pub data Misused (before : List ℕ) (k next : ℕ) : Type 0 where
  register : {rs fs ns : List ℕ} {t : ℕ} → InStatements before rs fs ns t → is_name k ≡ true → (FunctionDue before next → ⊥) → (TestDue before next → ⊥)
      → (Among k rs → ⊥) → Misused before k next
  function : {rs fs ns : List ℕ} {t : ℕ} → InStatements before rs fs ns t → is_name k ≡ true → FunctionDue before next → (Among k (take t fs) → ⊥)
      → Misused before k next
  test : {rs fs ns : List ℕ} {t : ℕ} → InStatements before rs fs ns t → is_name k ≡ true → TestDue before next → (Among k (drop t fs) → ⊥)
      → Misused before k next
  more_arguments : {rs fs ns : List ℕ} {t f : ℕ} → InStatements before rs fs ns t → Called before f → TakesArguments fs ns f 1 → k ≡ word.comma_key
      → Misused before k next
  fewer_arguments : {rs fs ns : List ℕ} {t f : ℕ} → InStatements before rs fs ns t → Called before f → TakesArguments fs ns f 2 → k ≡ word.rparen_key
      → Misused before k next

-- ---- 12

-- how many tokens of the list are k
abbrev pub occurrences : ℕ → List ℕ → ℕ
occurrences k [] = 0
occurrences k (j ∷ js) = pick (eqb j k) (λ _. 1) (λ _. 0) + occurrences k js

-- "Braces at most 16 deep? 12." (SPEC 11.4)
pub record TooDeep (before : List ℕ) (k : ℕ) : Type 0 where
  pub brace : k ≡ word.lbrace_key
  pub deep : deepest_nesting + occurrences word.rbrace_key before ≤ occurrences word.lbrace_key before

-- ---- 16

-- "16, at the word `tests`, when more than six registers were declared" (document 02, request 4; SPEC 11.4): so many that the hidden ones do not fit
pub record NoRoom (before : List ℕ) (k : ℕ) : Type 0 where
  pub registers : List ℕ
  pub names : AllNames registers
  pub further : List ℕ
  pub split : before ≡ word.vars_key ∷ (registers ++ word.semicolon_key ∷ further)
  pub begins : k ≡ word.tests_key
  pub many : most_registers < length registers + hidden_registers

-- ---- the questions by their numbers (SPEC 11.4)

pub data No : ℕ → List ℕ → ℕ → ℕ → Type 0 where
  -- "a token, and no name over eight bytes? 8" (SPEC 11.4)
  no_token : {before : List ℕ} {k next : ℕ} → k ≡ word.wrong → No token_malformed before k next
  unfit : {before : List ℕ} {k next : ℕ} → Unfit before k → No grammar_violated before k next
  redeclared : {before : List ℕ} {k next : ℕ} → Redeclared before k → No declaration_wrong before k next
  misused : {before : List ℕ} {k next : ℕ} → Misused before k next → No use_wrong before k next
  too_deep : {before : List ℕ} {k next : ℕ} → TooDeep before k → No nesting_too_deep before k next
  -- the number is the greatest, so it comes "after 9 at that token"
  no_room : {before : List ℕ} {k next : ℕ} → NoRoom before k → No no_room_for_tests before k next
