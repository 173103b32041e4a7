-- A macro without its empty elses: which tokens its sentence no longer has, and what stays as it is (SPEC 8.6, 9.3).
use mathlib.Core.Path.{◌≡◌, refl, ap, ◌∙◌, subst}
use Prim.Native.Nat.{ℕ, zero, suc, ◌<◌}
use mathlib.Core.Bool.{true, false}
use mathlib.Core.List.{List, [], ◌∷◌, ◌++◌}
use mathlib.Core.Option.{Option}
use lib.Dec.{eqb}
use lib.ListN.{length, get_or}
use borrow.Author.Tests.{eqb-false}
use Rattle.letters.specs.declared.Header.{Header}
use Rattle.letters.specs.declared.Letter.{Letter}
use Rattle.macros.specs.Tree as macro
use Rattle.macros.specs.Points.{Point, size_statement, size_else, size_block, compile, compile_else, compile_block, points}
use Rattle.tokens.specs.Words.{is_name}
use Rattle.tokens.specs.Words as word
use Rattle.tokens.proofs.Theory.WordsLaws.{not_word}
use Rattle.grammar.specs.Tree.{Condition, ProperCondition, copy, apply, letter_of, Statement, skip, assign, assume, assert, if, while, Else, absent, present}
use Rattle.grammar.specs.Tree.{Block, empty, ◌then◌, Proper, ProperElse, ProperBlock}
use Rattle.grammar.specs.Expanded.{◌before◌, application, comparison, after, loop, expanded_statement, expanded_else, expanded_block}
use Rattle.grammar.specs.Grammar.{Macro, expanded, header, sentence, condition_tokens, statement_tokens, else_tokens, block_tokens, OneDeeper, Nests, NestsElse}
use Rattle.grammar.specs.Grammar.{NestsBlock}
use Rattle.grammar.specs.Spelled.{Declared, InOrder}
use Rattle.layout_theory.specs.Layout.{else_of, short_statement, short_else, short_block, without_empty_elses}
use Rattle.layout_theory.proofs.Theory.Pairs.{plain_token, BeginsOther, begins_append, pairs_each, Tokenwise, names_tokenwise, declarations_tokenwise}
use Rattle.layout_theory.proofs.Theory.Pairs.{condition_tokenwise, assignment_tokenwise}

-- ---- tokens

-- The tokens of a text, and those of them that are printed: an `else` with `{` and `}` right behind it is left out with them.
pub data Shortened : List ℕ → List ℕ → Type 0 where
  none : Shortened [] []
  dropped : {ks ws : List ℕ} → Shortened ks ws → Shortened (word.else_key ∷ word.lbrace_key ∷ word.rbrace_key ∷ ks) ws
  filled : {k : ℕ} {ks ws : List ℕ} → (k ≡ word.rbrace_key → ⊥) → Shortened (word.lbrace_key ∷ k ∷ ks) ws
      → Shortened (word.else_key ∷ word.lbrace_key ∷ k ∷ ks) (word.else_key ∷ ws)
  other : {k : ℕ} {ks ws : List ℕ} → (k ≡ word.else_key → ⊥) → Shortened ks ws → Shortened (k ∷ ks) (k ∷ ws)

-- one list behind another: an `else` has its `{` and the token behind it in its own list
pub shortened_append : {ks ws us vs : List ℕ} → Shortened ks ws → Shortened us vs → Shortened (ks ++ us) (ws ++ vs)
shortened_append Shortened.none q = q
shortened_append (Shortened.dropped p) q = Shortened.dropped (shortened_append p q)
shortened_append (Shortened.filled h p) q = Shortened.filled h (shortened_append p q)
shortened_append (Shortened.other h p) q = Shortened.other h (shortened_append p q)

token_kept : (k : ℕ) → eqb k word.else_key ≡ false → {ks ws : List ℕ} → Shortened ks ws → Shortened (k ∷ ks) (k ∷ ws)
token_kept k n p = Shortened.other (eqb-false k word.else_key n) p

filled_else : (ks : List ℕ) {ws : List ℕ} → BeginsOther word.rbrace_key ks → Shortened (word.lbrace_key ∷ ks) ws
    → Shortened (word.else_key ∷ word.lbrace_key ∷ ks) (word.else_key ∷ ws)
filled_else [] h p = absurd h
filled_else (k ∷ ks) h p = Shortened.filled h p

-- A name that stands for itself.
record NameKept (k w : ℕ) : Type 0 where
  real : is_name k ≡ true
  same : k ≡ w

-- Other tokens than `else` stay as they are.
kept_tokenwise : Tokenwise NameKept Shortened
kept_tokenwise = record {
  none = Shortened.none;
  append = shortened_append;
  plain = λ k t. token_kept k (plain_token k t).2;
  name = name_kept;
  negated = λ r p. token_kept word.not_key refl p;
}
  where
    name_kept : {k w : ℕ} → NameKept k w → {ks ws : List ℕ} → Shortened ks ws → Shortened (k ∷ ks) (w ∷ ws)
    name_kept {k} r {ks} {ws} p = subst (λ j. Shortened (k ∷ ks) (j ∷ ws)) r.same (token_kept k (not_word k word.else_key refl r.real) p)

declared_kept : {ks : List ℕ} → Declared ks → (i : ℕ) → i < length ks → NameKept (get_or ks i 0) (get_or ks i 0)
declared_kept D i l = record { real = D.names i l; same = refl }

-- ---- statements

module _ (rs fs ns : List ℕ) (R : Declared rs) (F : Declared fs) (t : ℕ) where
  semicolon_kept : Shortened (word.semicolon_key ∷ []) (word.semicolon_key ∷ [])
  semicolon_kept = token_kept word.semicolon_key refl Shortened.none

  condition_kept : (c : Condition) → ProperCondition c (header rs fs ns) t → Shortened (condition_tokens rs fs ns c) (condition_tokens rs fs ns c)
  condition_kept = condition_tokenwise kept_tokenwise rs rs fs fs ns (declared_kept R) (declared_kept F) t

  -- a statement does not begin with `}`
  statement_unclosed : (s : Statement) → Proper s (header rs fs ns) t → BeginsOther word.rbrace_key (statement_tokens rs fs ns s)
  unfolding statement_tokens
  statement_unclosed skip o = eqb-false word.skip_key word.rbrace_key refl
  statement_unclosed (assign (copy x y)) (l, r) = eqb-false (get_or rs x 0) word.rbrace_key (not_word (get_or rs x 0) word.rbrace_key refl (R.names x l))
  statement_unclosed (assign (apply x f y z)) ((l, _, _, _, _), _) =
      eqb-false (get_or rs x 0) word.rbrace_key (not_word (get_or rs x 0) word.rbrace_key refl (R.names x l))
  statement_unclosed (assume c) o = eqb-false word.assume_key word.rbrace_key refl
  statement_unclosed (assert c) o = eqb-false word.assert_key word.rbrace_key refl
  statement_unclosed (if c b e) o = eqb-false word.if_key word.rbrace_key refl
  statement_unclosed (while c b) o = eqb-false word.while_key word.rbrace_key refl

  -- an else, given its block: with no statement it is dropped
  present_shortened : (b : Block) → ProperBlock b (header rs fs ns) t → Shortened (block_tokens rs fs ns b) (block_tokens rs fs ns (short_block b))
      → Shortened (else_tokens rs fs ns (present b)) (else_tokens rs fs ns (else_of (short_block b)))
  unfolding else_tokens block_tokens
  present_shortened empty o p = Shortened.dropped Shortened.none
  present_shortened (s then b) (o, u) p =
      filled_else (block_tokens rs fs ns (s then b) ++ word.rbrace_key ∷ [])
      (begins_append word.rbrace_key (block_tokens rs fs ns (s then b)) (word.rbrace_key ∷ [])
      (begins_append word.rbrace_key (statement_tokens rs fs ns s) (block_tokens rs fs ns b) (statement_unclosed s o)))
      (token_kept word.lbrace_key refl (shortened_append p (token_kept word.rbrace_key refl Shortened.none)))

  mutual
    unfolding statement_tokens else_tokens block_tokens

    statement_shortened : (s : Statement) → Proper s (header rs fs ns) t → Shortened (statement_tokens rs fs ns s) (statement_tokens rs fs ns (short_statement s))
    statement_shortened skip o = token_kept word.skip_key refl semicolon_kept
    statement_shortened (assign a) o = assignment_tokenwise kept_tokenwise rs rs fs fs ns (declared_kept R) (declared_kept F) t a o
    statement_shortened (assume c) o = token_kept word.assume_key refl (shortened_append (condition_kept c o) semicolon_kept)
    statement_shortened (assert c) o = token_kept word.assert_key refl (shortened_append (condition_kept c o) semicolon_kept)
    statement_shortened (if c b e) (o, p, q) =
        token_kept word.if_key refl (shortened_append (condition_kept c o) (token_kept word.lbrace_key refl
        (shortened_append (block_shortened b p) (token_kept word.rbrace_key refl (else_shortened e q)))))
    statement_shortened (while c b) (o, p) =
        token_kept word.while_key refl (shortened_append (condition_kept c o) (token_kept word.lbrace_key refl
        (shortened_append (block_shortened b p) (token_kept word.rbrace_key refl Shortened.none))))

    else_shortened : (e : Else) → ProperElse e (header rs fs ns) t → Shortened (else_tokens rs fs ns e) (else_tokens rs fs ns (short_else e))
    else_shortened absent o = Shortened.none
    else_shortened (present b) o = present_shortened b o (block_shortened b o)

    pub block_shortened : (b : Block) → ProperBlock b (header rs fs ns) t → Shortened (block_tokens rs fs ns b) (block_tokens rs fs ns (short_block b))
    block_shortened empty o = Shortened.none
    block_shortened (s then b) (o, p) = shortened_append (statement_shortened s o) (block_shortened b p)

-- The sentence of a macro, and its sentence without empty elses.
pub sentence_shortened : (m : Macro) → InOrder m → Shortened (sentence m) (sentence (without_empty_elses m))
unfolding sentence
sentence_shortened m O =
    let X = pairs_each NameKept m.registers m.registers refl (declared_kept O.registers) in
    let F = pairs_each NameKept m.functions m.functions refl (declared_kept O.functions) in
    token_kept word.vars_key refl (shortened_append (names_tokenwise kept_tokenwise X) (token_kept word.semicolon_key refl
    (shortened_append (declarations_tokenwise kept_tokenwise m.functions m.functions m.arities m.first_test O.arities F)
    (block_shortened m.registers m.functions m.arities O.registers O.functions m.first_test m.body O.uses))))

-- ---- order

module _ (h : Header) (t : ℕ) where
  proper_else_of : (b : Block) → ProperBlock b h t → ProperElse (else_of b) h t
  proper_else_of empty o = tt
  proper_else_of (s then b) o = o

  mutual
    proper_statement : (s : Statement) → Proper s h t → Proper (short_statement s) h t
    proper_statement skip o = o
    proper_statement (assign a) o = o
    proper_statement (assume c) o = o
    proper_statement (assert c) o = o
    proper_statement (if c b e) (o, p, q) = (o, proper_short b p, proper_else e q)
    proper_statement (while c b) (o, p) = (o, proper_short b p)

    proper_else : (e : Else) → ProperElse e h t → ProperElse (short_else e) h t
    proper_else absent o = o
    proper_else (present b) o = proper_else_of (short_block b) (proper_short b o)

    pub proper_short : (b : Block) → ProperBlock b h t → ProperBlock (short_block b) h t
    proper_short empty o = o
    proper_short (s then b) (o, p) = (proper_statement s o, proper_short b p)

one_deeper : (P Q : ℕ → Type 0) → ((n : ℕ) → P n → Q n) → (d : ℕ) → OneDeeper P d → OneDeeper Q d
one_deeper P Q f zero o = o
one_deeper P Q f (suc d) o = f d o

nests_else_of : (b : Block) (d : ℕ) → OneDeeper (λ n. NestsBlock b n) d → NestsElse (else_of b) d
nests_else_of empty d o = tt
nests_else_of (s then b) d o = o

mutual
  nests_statement : (s : Statement) (d : ℕ) → Nests s d → Nests (short_statement s) d
  nests_statement skip d o = o
  nests_statement (assign a) d o = o
  nests_statement (assume c) d o = o
  nests_statement (assert c) d o = o
  nests_statement (if c b e) d (o, p) =
      (one_deeper (λ n. NestsBlock b n) (λ n. NestsBlock (short_block b) n) (λ n q. nests_short b n q) d o, nests_else e d p)
  nests_statement (while c b) d o = one_deeper (λ n. NestsBlock b n) (λ n. NestsBlock (short_block b) n) (λ n q. nests_short b n q) d o

  nests_else : (e : Else) (d : ℕ) → NestsElse e d → NestsElse (short_else e) d
  nests_else absent d o = o
  nests_else (present b) d o =
      nests_else_of (short_block b) d (one_deeper (λ n. NestsBlock b n) (λ n. NestsBlock (short_block b) n) (λ n q. nests_short b n q) d o)

  pub nests_short : (b : Block) (d : ℕ) → NestsBlock b d → NestsBlock (short_block b) d
  nests_short empty d o = o
  nests_short (s then b) d (o, p) = (nests_statement s d o, nests_short b d p)

-- Nothing is used anew, and nothing lies deeper.
pub order_short : (m : Macro) → InOrder m → InOrder (without_empty_elses m)
order_short m O = record {
  registers = O.registers;
  some = O.some;
  few = O.few;
  functions = O.functions;
  apart = O.apart;
  arities = O.arities;
  fewer = O.fewer;
  tests = O.tests;
  room = O.room;
  uses = proper_short _ _ m.body O.uses;
  depth = nests_short m.body _ O.depth;
}

-- ---- points

-- Two parts have the same points, wherever they begin and whatever follows.
record SameCode (A : Type 0) (size : A → ℕ) (code : A → ℕ → ℕ → List Point) (x y : A) : Type 0 where
  sizes : size x ≡ size y
  codes : (at follow : ℕ) → code x at follow ≡ code y at follow

abbrev SameStatements : macro.Statement → macro.Statement → Type 0
SameStatements = SameCode macro.Statement size_statement compile

abbrev SameElses : macro.Else → macro.Else → Type 0
SameElses = SameCode macro.Else size_else compile_else

abbrev SameBlocks : macro.Block → macro.Block → Type 0
SameBlocks = SameCode macro.Block size_block compile_block

same_itself : {A : Type 0} (size : A → ℕ) (code : A → ℕ → ℕ → List Point) (x : A) → SameCode A size code x x
same_itself size code x = record { sizes = refl; codes = λ at follow. refl }

same_then : {s s' : macro.Statement} {b b' : macro.Block} → SameStatements s s' → SameBlocks b b' → SameBlocks (macro.◌then◌ s b) (macro.◌then◌ s' b')
unfolding size_block compile_block
same_then S B = record { sizes = rw (S.sizes, B.sizes); codes = λ at follow. rw (S.sizes, B.sizes, S.codes _ _, B.codes _ _) }

same_if : (c : macro.Condition) {b b' : macro.Block} {e e' : macro.Else} → SameBlocks b b' → SameElses e e' → SameStatements (macro.if c b e) (macro.if c b' e')
unfolding size_statement compile
same_if c B E = record { sizes = rw (B.sizes, E.sizes); codes = λ at follow. rw (B.sizes, E.sizes, B.codes _ _, E.codes _ _) }

same_loop : (n : ℕ) (a : Option Letter) (c : macro.Condition) {b b' : macro.Block} → SameBlocks b b' → SameStatements (loop n a c b) (loop n a c b')
unfolding size_statement compile
same_loop n Option.none c B = record { sizes = rw B.sizes; codes = λ at follow. rw (B.sizes, B.codes _ _) }
same_loop n (Option.some a) c B = record { sizes = rw B.sizes; codes = λ at follow. rw (B.sizes, B.codes _ _) }

-- perhaps a letter, then a statement, and then others
same_after : (n : ℕ) (a : Option Letter) {s s' : macro.Statement} {b b' : macro.Block} → SameStatements s s' → SameBlocks b b'
    → SameBlocks (after n a s before b) (after n a s' before b')
same_after n Option.none S B = same_then S B
same_after n (Option.some a) S B = same_then (same_itself size_statement compile (macro.perform a)) (same_then S B)

module _ (n : ℕ) where
  -- An else with no statement has no point, as an absent one.
  else_of_same : (b : Block) (k : macro.Block) → SameBlocks (expanded_block n b) k → SameElses (expanded_else n (else_of b)) (macro.present k)
  unfolding expanded_else expanded_block size_else size_block compile_else compile_block
  else_of_same empty k B = record { sizes = B.sizes; codes = B.codes }
  else_of_same (s then b) k B = record { sizes = B.sizes; codes = B.codes }

  mutual
    unfolding expanded_statement expanded_else expanded_block

    statement_same : (s : Statement) {b b' : macro.Block} → SameBlocks b b'
        → SameBlocks (expanded_statement n (short_statement s) before b) (expanded_statement n s before b')
    statement_same skip B = same_then (same_itself size_statement compile macro.skip) B
    statement_same (assign a) B = same_then (same_itself size_statement compile (macro.perform (letter_of a))) B
    statement_same (assume c) B = same_after n (application n c) (same_itself size_statement compile (macro.perform (macro.test (comparison n c)))) B
    statement_same (assert c) B = same_after n (application n c) (same_itself size_statement compile (macro.assert (comparison n c))) B
    statement_same (if c b e) B = same_after n (application n c) (same_if (comparison n c) (block_same b) (else_same e)) B
    statement_same (while c b) B = same_then (same_loop n (application n c) (comparison n c) (block_same b)) B

    else_same : (e : Else) → SameElses (expanded_else n (short_else e)) (expanded_else n e)
    else_same absent = same_itself size_else compile_else macro.absent
    else_same (present b) = else_of_same (short_block b) (expanded_block n b) (block_same b)

    block_same : (b : Block) → SameBlocks (expanded_block n (short_block b)) (expanded_block n b)
    block_same empty = same_itself size_block compile_block macro.empty
    block_same (s then b) = statement_same s (block_same b)

module _ (m : Macro) where
  expanded_same : SameBlocks (expanded (without_empty_elses m)) (expanded m)
  expanded_same = block_same (length m.registers) m.body

  pub size_short : size_block (expanded (without_empty_elses m)) ≡ size_block (expanded m)
  size_short = expanded_same.sizes

  pub points_short : points (expanded (without_empty_elses m)) ≡ points (expanded m)
  points_short = ap (compile_block (expanded (without_empty_elses m)) 0) size_short ∙ expanded_same.codes 0 (size_block (expanded m))

-- ---- again

else_of_again : (b : Block) → short_block b ≡ b → short_else (else_of b) ≡ else_of b
else_of_again empty e = refl
else_of_again (s then b) e = ap present e

mutual
  statement_twice : (s : Statement) → short_statement (short_statement s) ≡ short_statement s
  statement_twice skip = refl
  statement_twice (assign a) = refl
  statement_twice (assume c) = refl
  statement_twice (assert c) = refl
  statement_twice (if c b e) = λ i. if c (short_twice b i) (else_twice e i)
  statement_twice (while c b) = λ i. while c (short_twice b i)

  else_twice : (e : Else) → short_else (short_else e) ≡ short_else e
  else_twice absent = refl
  else_twice (present b) = else_of_again (short_block b) (short_twice b)

  -- No empty else is left.
  pub short_twice : (b : Block) → short_block (short_block b) ≡ short_block b
  short_twice empty = refl
  short_twice (s then b) = λ i. statement_twice s i then short_twice b i

pub macro_short_twice : (m : Macro) → without_empty_elses (without_empty_elses m) ≡ without_empty_elses m
macro_short_twice m = λ i. record {
  registers = m.registers;
  register_spellings = m.register_spellings;
  functions = m.functions;
  function_spellings = m.function_spellings;
  arities = m.arities;
  first_test = m.first_test;
  body = short_twice m.body i;
}
