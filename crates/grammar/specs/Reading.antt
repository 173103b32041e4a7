-- What reading a text gives: a macro, or the number of a refusal and its place (SPEC 11.3, 11.4: questions 7 to 13, and 16).
-- Each reader starts at a place and gives what it read with the place after it.
use Rattle.std.specs.Prelude.{ℕ, zero, suc, ◌+◌, ◌-◌, Bool, true, false, not, ◌&&◌, ◌||◌, List, [], ◌∷◌, ◌++◌, ltb, leb, eqb, length, get_or}
use Rattle.base.specs.Choice.{pick}
use Rattle.letters.specs.Editions.{most_registers, most_functions}
use Rattle.letters.specs.MacroRefusalNumbers.{token_malformed, grammar_violated, declaration_wrong, use_wrong, nesting_too_deep, points_too_many, no_room_for_tests}
use Rattle.macros.specs.Points.{size_block}
use Rattle.tokens.specs.Words.{is_name, same_name}
use Rattle.tokens.specs.Words as word
use Rattle.tokens.specs.Tokens.{token_at}
use Rattle.tokens.specs.declared.Token.{Token}
use Rattle.grammar.specs.Limits.{most_points, hidden_registers}
use Rattle.grammar.specs.Tree.{Condition, equal, unequal, holds, fails, Assignment, copy, apply, Statement, skip, assign, assume, assert, if, while, Else}
use Rattle.grammar.specs.Tree.{absent, present, Block, empty, ◌then◌}
use Rattle.grammar.specs.Grammar.{Macro, expanded}
use Rattle.grammar.specs.Spelled.{spelled_registers, spelled_functions}

-- `exhausted`: the bound on the calls was too small. It never is (Enough.antt).
pub data Got (A : Type 0) : Type 0 where
  got : A → ℕ → Got A
  refused : ℕ → ℕ → Got A
  exhausted : Got A

-- goes on with what was read, from the place after it; a refusal stands
abbrev pub and_then : {A B : Type 0} → Got A → (A → ℕ → Got B) → Got B
and_then (got a e) f = f a e
and_then (Got.refused n p) f = Got.refused n p
and_then exhausted f = exhausted

-- the place of a name in a list; the list's length if it is not there
unfoldable pub index_of : ℕ → List ℕ → ℕ
index_of k [] = 0
index_of k (x ∷ xs) = pick (same_name k x) (λ _. 0) λ _. suc (index_of k xs)

-- the name is one of the list
abbrev pub is_declared : ℕ → List ℕ → Bool
is_declared k l = ltb (index_of k l) (length l)

-- a token that does not fit the grammar, or is none
abbrev pub refused_token : {A : Type 0} → Token → Got A
refused_token t = Got.refused (pick (eqb t.key word.wrong) (λ _. token_malformed) λ _. grammar_violated) t.start

-- one token k
abbrev pub expect_t : ℕ → Token → Got (Unit {0})
expect_t k t = pick (eqb t.key k) (λ _. got tt t.end) λ _. refused_token t

-- a name that is used, by its place in a list, of those from one place to another
abbrev pub use_between : List ℕ → ℕ → ℕ → Token → Got ℕ
use_between l from to t =
    pick (is_name t.key)
    (λ _. pick (leb from (index_of t.key l) && ltb (index_of t.key l) to) (λ _. got (index_of t.key l) t.end) λ _. Got.refused use_wrong t.start)
    λ _. refused_token t

-- a register, by its place in a list
abbrev pub use_t : List ℕ → Token → Got ℕ
use_t rs t =
    pick (is_name t.key)
    (λ _. pick (is_declared t.key rs) (λ _. got (index_of t.key rs) t.end) λ _. Got.refused use_wrong t.start)
    λ _. refused_token t

-- = or !=, as what it makes of two registers
abbrev pub sign_t : Token → Got Bool
sign_t t = pick (eqb t.key word.equal_key) (λ _. got true t.end) λ _. pick (eqb t.key word.unequal_key) (λ _. got false t.end) λ _. refused_token t

abbrev pub compared : Bool → ℕ → ℕ → Condition
compared true x y = equal x y
compared false x y = unequal x y

module _ (s : List ℕ) where
  abbrev pub expect : ℕ → ℕ → Got (Unit {0})
  expect k at = expect_t k (token_at s at)

  -- a value, then a token k, which is no part of it
  abbrev pub ended : {A : Type 0} → ℕ → A → ℕ → Got A
  ended k a at = and_then (expect k at) λ _ e. got a e

  module _ (rs : List ℕ) where
    -- `a = b` or `a != b`
    unfoldable pub comparison : ℕ → Got Condition
    comparison at = and_then (use_t rs (token_at s at)) λ x a. and_then (sign_t (token_at s a)) λ q b. and_then (use_t rs (token_at s b)) λ y e. got (compared q x y) e

    -- behind the first argument y of what takes n: `,` and a second one where it takes two, and `)`; `make` makes something of the arguments
    unfoldable pub arguments_t : {A : Type 0} → (ℕ → ℕ → A) → ℕ → ℕ → Token → Got A
    arguments_t make n y t =
        pick (eqb t.key word.comma_key)
        (λ _. pick (eqb n 2) (λ _. and_then (use_t rs (token_at s t.end)) λ z e. ended word.rparen_key (make y z) e) λ _. Got.refused use_wrong t.start)
        λ _. pick (eqb t.key word.rparen_key) (λ _. pick (eqb n 2) (λ _. Got.refused use_wrong t.start) λ _. got (make y y) t.end)
        λ _. refused_token t

    -- `(` and the arguments of what takes n
    unfoldable pub applied : {A : Type 0} → (ℕ → ℕ → A) → ℕ → ℕ → Got A
    applied make n at = and_then (expect word.lparen_key at) λ _ b. and_then (use_t rs (token_at s b)) λ y e. arguments_t make n y (token_at s e)

  -- the functions fs take ns arguments; from number m on they are tests
  module _ (rs fs ns : List ℕ) (m : ℕ) where
    -- a test by its name, and its arguments
    unfoldable pub named_test : (ℕ → ℕ → ℕ → Condition) → ℕ → Got Condition
    named_test make at = and_then (use_between fs m (length fs) (token_at s at)) λ f a. applied rs (make f) (get_or ns f 0) a

    -- "In a condition the first name must be a test before `(` or after `!`" (document 02, request 4; SPEC 8.4, 11.4)
    unfoldable pub condition : ℕ → Got Condition
    condition at =
        pick (eqb (token_at s at).key word.not_key) (λ _. named_test fails (token_at s at).end)
        λ _. pick (eqb (token_at s (token_at s at).end).key word.lparen_key) (λ _. named_test holds at) λ _. comparison rs at

    -- a condition and `;`
    unfoldable pub ended_condition : ℕ → Got Condition
    ended_condition at = and_then (condition at) λ c e. ended word.semicolon_key c e

    -- behind `x :=`: "a name is a function if the next token is `(`, else a register" (SPEC 8.4, 11.4), and "no test may stand" there
    unfoldable pub right_hand_side : ℕ → ℕ → Got Assignment
    right_hand_side x at =
        pick (eqb (token_at s (token_at s at).end).key word.lparen_key)
        (λ _. and_then (use_between fs 0 m (token_at s at)) λ f a. applied rs (apply x f) (get_or ns f 0) a)
        λ _. and_then (use_t rs (token_at s at)) λ y e. got (copy x y) e

    unfoldable pub assignment : ℕ → Got Assignment
    assignment at = and_then (use_t rs (token_at s at)) λ x a. and_then (expect word.becomes_key a) λ _ b. and_then (right_hand_side x b)
        λ l e. ended word.semicolon_key l e

    -- `{`, a block at a depth less by one, and `}`
    abbrev pub braces_t : (ℕ → ℕ → Got Block) → ℕ → Token → Got Block
    braces_t inner zero t = pick (eqb t.key word.lbrace_key) (λ _. Got.refused nesting_too_deep t.start) λ _. refused_token t
    braces_t inner (suc d) t = pick (eqb t.key word.lbrace_key) (λ _. and_then (inner d t.end) λ b e. ended word.rbrace_key b e) λ _. refused_token t

    -- perhaps `else` and a block
    abbrev pub else_t : (ℕ → ℕ → Got Block) → ℕ → ℕ → Token → Got Else
    else_t inner d at t = pick (eqb t.key word.else_key) (λ _. and_then (braces_t inner d (token_at s t.end)) λ b e. got (present b) e) λ _. got absent at

    -- one statement, of which t is the first token; inner reads a block at a depth
    abbrev pub statement_t : (ℕ → ℕ → Got Block) → ℕ → ℕ → Token → Got Statement
    statement_t inner d at t =
        pick (eqb t.key word.skip_key) (λ _. ended word.semicolon_key skip t.end)
        λ _. pick (eqb t.key word.assume_key) (λ _. and_then (ended_condition t.end) λ c e. got (assume c) e)
        λ _. pick (eqb t.key word.assert_key) (λ _. and_then (ended_condition t.end) λ c e. got (assert c) e)
        λ _. pick (eqb t.key word.if_key)
        (λ _. and_then (condition t.end) λ c a. and_then (braces_t inner d (token_at s a)) λ b e. and_then (else_t inner d e (token_at s e)) λ o f. got
        (if c b o) f)
        λ _. pick (eqb t.key word.while_key) (λ _. and_then (condition t.end) λ c a. and_then (braces_t inner d (token_at s a)) λ b e. got (while c b) e)
        λ _. pick (is_name t.key) (λ _. and_then (assignment at) λ l e. got (assign l) e) λ _. refused_token t

    -- a block ends before `}` and at the end of the text
    abbrev pub closing : ℕ → Bool
    closing k = eqb k word.rbrace_key || eqb k word.end

    -- Statements up to the block's end, at most d braces deep. k bounds the calls: 2 for each byte left, and 1, is enough.
    unfoldable mutual
      pub block : ℕ → ℕ → ℕ → Got Block
      block zero d at = exhausted
      block (suc k) d at =
          pick (closing (token_at s at).key) (λ _. got empty at)
          λ _. and_then (statement k d at) λ c a. and_then (block k d a) λ b e. got (c then b) e

      pub statement : ℕ → ℕ → ℕ → Got Statement
      statement zero d at = exhausted
      statement (suc k) d at = statement_t (λ c a. block k c a) d at (token_at s at)

  -- a list that may end here, and `;`
  abbrev pub listed_t : {A : Type 0} → ℕ → A → Token → Got A
  listed_t n a t = pick (eqb t.key word.semicolon_key && not (eqb n 0)) (λ _. got a t.end) λ _. refused_token t

  -- the names of registers, and `;`: rs are declared already, and there is room for more
  unfoldable pub register_names : ℕ → List ℕ → ℕ → Got (List ℕ)
  register_names zero rs at = pick (is_name (token_at s at).key) (λ _. Got.refused declaration_wrong (token_at s at).start) λ _. listed_t (length rs) rs
      (token_at s at)
  register_names (suc room) rs at =
      pick (is_name (token_at s at).key)
      (λ _. pick (is_declared (token_at s at).key rs) (λ _. Got.refused declaration_wrong (token_at s at).start)
      λ _. register_names room (rs ++ (token_at s at).key ∷ []) (token_at s at).end)
      λ _. listed_t (length rs) rs (token_at s at)

  -- `1` or `2`
  abbrev pub arity_t : Token → Got ℕ
  arity_t t = pick (eqb t.key word.one_key) (λ _. got 1 t.end) λ _. pick (eqb t.key word.two_key) (λ _. got 2 t.end) λ _. refused_token t

  -- `/` and `1` or `2`
  unfoldable pub arity_of : ℕ → Got ℕ
  arity_of at = and_then (expect word.slash_key at) λ _ a. arity_t (token_at s a)

  -- the entries of a line, and `;`: fs are declared already, those from number `first` on in this line, and there is room for more
  unfoldable pub entries : List ℕ → ℕ → ℕ → List ℕ → List ℕ → ℕ → Got (List ℕ × List ℕ)
  entries rs first zero fs ns at =
      pick (is_name (token_at s at).key) (λ _. Got.refused declaration_wrong (token_at s at).start)
      λ _. listed_t (length fs - first) (fs, ns) (token_at s at)
  entries rs first (suc room) fs ns at =
      pick (is_name (token_at s at).key)
      (λ _. pick (is_declared (token_at s at).key rs || is_declared (token_at s at).key fs) (λ _. Got.refused declaration_wrong (token_at s at).start)
      λ _. and_then (arity_of (token_at s at).end) λ n e. entries rs first room (fs ++ (token_at s at).key ∷ []) (ns ++ n ∷ []) e)
      λ _. listed_t (length fs - first) (fs, ns) (token_at s at)

  -- the entries of a line behind the functions fs: "Functions and tests together are at most four." (document 02, request 4)
  abbrev pub line_from : List ℕ → List ℕ → List ℕ → ℕ → Got (List ℕ × List ℕ)
  line_from rs fs ns at = entries rs (length fs) (most_functions - length fs) fs ns at

  -- perhaps a line of functions
  abbrev pub functions_t : List ℕ → ℕ → Token → Got (List ℕ × List ℕ)
  functions_t rs at t = pick (eqb t.key word.funs_key) (λ _. line_from rs [] [] t.end) λ _. got ([], []) at

  -- perhaps a line of tests; "16, at the word `tests`, when more than six registers were declared" (document 02, request 4)
  abbrev pub tests_t : List ℕ → List ℕ → List ℕ → ℕ → Token → Got (List ℕ × List ℕ)
  tests_t rs fs ns at t =
      pick (eqb t.key word.tests_key)
      (λ _. pick (ltb most_registers (length rs + hidden_registers)) (λ _. Got.refused no_room_for_tests t.start) λ _. line_from rs fs ns t.end)
      λ _. got (fs, ns) at

  -- what was read: the declared names with their spellings, of the functions those from number m on being tests, and the statements
  abbrev pub macro_read : List ℕ → List ℕ → List ℕ → ℕ → Block → Macro
  macro_read rs fs ns m body = record {
    registers = rs;
    register_spellings = spelled_registers s (length rs);
    functions = fs;
    function_spellings = spelled_functions s (length rs) m (length fs);
    arities = ns;
    first_test = m;
    body = body;
  }

  -- the end of the text
  abbrev pub finish_t : Macro → Token → Got Macro
  finish_t m t = pick (eqb t.key word.end) (λ _. got m t.end) λ _. refused_token t

  -- "Then: at most 256 points? 13." (SPEC 11.3)
  abbrev pub count_t : Macro → ℕ → Got Macro
  count_t m e = pick (ltb most_points (size_block (expanded m))) (λ _. Got.refused points_too_many 0) λ _. got m e
