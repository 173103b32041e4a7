-- The sentence with the names as they are known, and the sentence with the names as they are declared, token by token (SPEC 8.4, 8.6).
use mathlib.Core.Path.{◌≡◌, refl, ap, ◌∙◌, subst}
use Prim.Native.Nat.{ℕ, zero, suc, ◌<◌}
use native.Mathlib.Omega.{arith}
use mathlib.Core.Bool.{Bool, true, false, not, ◌&&◌, ◌||◌}
use mathlib.Core.List.{List, [], ◌∷◌, ◌++◌}
use lib.Dec.{eqb}
use lib.ListN.{length, get_or, take, drop}
use borrow.Author.Tests.{eqb-true}
use Rattle.base.proofs.Theory.Choice.{by_test}
use Rattle.letters.proofs.Theory.WordLaws.{and_true}
use Rattle.tokens.specs.Words as word
use Rattle.grammar.specs.Tree.{Condition, equal, unequal, holds, fails, ProperCondition, Assignment, copy, apply, ProperAssignment, Statement, skip, assign}
use Rattle.grammar.specs.Tree.{assume, assert, if, while, Else, absent, present, Block, empty, ◌then◌, Proper, ProperElse, ProperBlock}
use Rattle.grammar.specs.Grammar.{Macro, header, sentence, takes_two, argument_tokens, application_tokens, condition_tokens, assignment_tokens, statement_tokens}
use Rattle.grammar.specs.Grammar.{else_tokens, block_tokens, entry_tokens, line_tokens, declaration_tokens}
use Rattle.grammar.specs.Spelled.{Arities, InOrder}
use Rattle.grammar.proofs.Theory.Parts.{arities_take, arities_drop}
use Rattle.refusals.proofs.Theory.Basics.{not-true, nor}
use Rattle.layout_theory.specs.Layout.{as_declared}

-- The tokens that are no names: the words and the signs (SPEC 8.2).
abbrev pub fixed_tokens : List ℕ
fixed_tokens =
    word.vars_key ∷ word.funs_key ∷ word.tests_key ∷ word.skip_key ∷ word.assume_key ∷ word.assert_key ∷ word.if_key ∷ word.else_key ∷ word.while_key
    ∷ word.result_key ∷ word.truth_key ∷ word.one_key ∷ word.two_key ∷ word.becomes_key ∷ word.equal_key ∷ word.unequal_key ∷ word.not_key ∷ word.semicolon_key
    ∷ word.comma_key ∷ word.lparen_key ∷ word.rparen_key ∷ word.lbrace_key ∷ word.rbrace_key ∷ word.slash_key ∷ []

abbrev pub is_among : ℕ → List ℕ → Bool
is_among k [] = false
is_among k (w ∷ ws) = eqb k w || is_among k ws

abbrev pub is_fixed_token : ℕ → Bool
is_fixed_token k = is_among k fixed_tokens

-- All of them but `!` and `else`, which go with the token behind them.
abbrev pub is_plain_token : ℕ → Bool
is_plain_token k = is_fixed_token k && not (eqb k word.not_key || eqb k word.else_key)

pub plain_token : (k : ℕ) → is_plain_token k ≡ true → (is_fixed_token k ≡ true) × (eqb k word.not_key ≡ false) × (eqb k word.else_key ≡ false)
plain_token k t =
    let (f, n) = and_true (is_fixed_token k) (not (eqb k word.not_key || eqb k word.else_key)) t in
    let (a, b) = nor (eqb k word.not_key) (eqb k word.else_key) n in
    (f, a, not-true (eqb k word.else_key) b)

-- a test that all of them pass
abbrev pub all_pass : (ℕ → Bool) → List ℕ → Bool
all_pass f [] = true
all_pass f (w ∷ ws) = f w && all_pass f ws

pub pass_among : (f : ℕ → Bool) (ws : List ℕ) → all_pass f ws ≡ true → (k : ℕ) → is_among k ws ≡ true → f k ≡ true
pass_among f [] a k h = absurd (let z : ◌≡◌ {A = ℕ} 0 1 = cc in omega arith)
pass_among f (w ∷ ws) a k h =
    let (here, others) = and_true (f w) (all_pass f ws) a in
    by_test (eqb k w) (λ t. ap f (eqb-true k w t) ∙ here) λ t. pass_among f ws others k (subst (λ c. (c || is_among k ws) ≡ true) t h)

-- Some token stands in front, and it is not j.
abbrev pub BeginsOther : ℕ → List ℕ → Type 0
BeginsOther j [] = ⊥
BeginsOther j (k ∷ ks) = k ≡ j → ⊥

pub begins_append : (j : ℕ) (ks us : List ℕ) → BeginsOther j ks → BeginsOther j (ks ++ us)
begins_append j [] us h = absurd h
begins_append j (k ∷ ks) us h = h

-- Two lists, entry by entry.
pub data Pairwise (R : ℕ → ℕ → Type 0) : List ℕ → List ℕ → Type 0 where
  none : Pairwise R [] []
  more : {k w : ℕ} {ks ws : List ℕ} → R k w → Pairwise R ks ws → Pairwise R (k ∷ ks) (w ∷ ws)

-- one list behind another
pub pairs_append : {R : ℕ → ℕ → Type 0} {ks ws us vs : List ℕ} → Pairwise R ks ws → Pairwise R us vs → Pairwise R (ks ++ us) (ws ++ vs)
pairs_append Pairwise.none q = q
pairs_append (Pairwise.more r p) q = Pairwise.more r (pairs_append p q)

-- of both lists the first t entries, or those behind them
pairs_take : {R : ℕ → ℕ → Type 0} (t : ℕ) {ks ws : List ℕ} → Pairwise R ks ws → Pairwise R (take t ks) (take t ws)
pairs_take zero p = Pairwise.none
pairs_take (suc t) Pairwise.none = Pairwise.none
pairs_take (suc t) (Pairwise.more r p) = Pairwise.more r (pairs_take t p)

pairs_drop : {R : ℕ → ℕ → Type 0} (t : ℕ) {ks ws : List ℕ} → Pairwise R ks ws → Pairwise R (drop t ks) (drop t ws)
pairs_drop zero p = p
pairs_drop (suc t) Pairwise.none = Pairwise.none
pairs_drop (suc t) (Pairwise.more r p) = pairs_drop t p

pub pairs_each : (R : ℕ → ℕ → Type 0) (ks ws : List ℕ) → length ws ≡ length ks → ((i : ℕ) → i < length ks → R (get_or ks i 0) (get_or ws i 0)) → Pairwise R ks ws
pairs_each R [] [] e r = Pairwise.none
pairs_each R [] (w ∷ ws) e r = absurd (omega arith)
pairs_each R (k ∷ ks) [] e r = absurd (omega arith)
pairs_each R (k ∷ ks) (w ∷ ws) e r = Pairwise.more (r 0 (omega arith)) (pairs_each R ks ws (omega arith) λ i l. r (suc i) (omega arith))

-- ---- token by token

-- A relation P of two lists of tokens that goes on token by token, where R relates the names of the one to those of the other.
pub record Tokenwise (R : ℕ → ℕ → Type 0) (P : List ℕ → List ℕ → Type 0) : Type 0 where
  pub none : P [] []
  pub append : {ks ws us vs : List ℕ} → P ks ws → P us vs → P (ks ++ us) (ws ++ vs)
  pub plain : (k : ℕ) → is_plain_token k ≡ true → {ks ws : List ℕ} → P ks ws → P (k ∷ ks) (k ∷ ws)
  pub name : {k w : ℕ} → R k w → {ks ws : List ℕ} → P ks ws → P (k ∷ ks) (w ∷ ws)
  pub negated : {k w : ℕ} → R k w → {ks ws : List ℕ} → P (k ∷ ks) (w ∷ ws) → P (word.not_key ∷ k ∷ ks) (word.not_key ∷ w ∷ ws)

module _ {R : ℕ → ℕ → Type 0} {P : List ℕ → List ℕ → Type 0} (T : Tokenwise R P) where
  semicolon_tokenwise : P (word.semicolon_key ∷ []) (word.semicolon_key ∷ [])
  semicolon_tokenwise = T.plain word.semicolon_key refl T.none

  -- ---- declarations

  pub names_tokenwise : {ks ws : List ℕ} → Pairwise R ks ws → P ks ws
  names_tokenwise Pairwise.none = T.none
  names_tokenwise (Pairwise.more r p) = T.name r (names_tokenwise p)

  entries_tokenwise : {fs gs ns : List ℕ} → Arities fs ns → Pairwise R fs gs → P (entry_tokens fs ns) (entry_tokens gs ns)
  unfolding entry_tokens
  entries_tokenwise Arities.none Pairwise.none = T.none
  entries_tokenwise (Arities.one a) (Pairwise.more r p) =
      T.name r (T.plain word.slash_key refl (T.plain word.one_key refl (entries_tokenwise a p)))
  entries_tokenwise (Arities.two a) (Pairwise.more r p) =
      T.name r (T.plain word.slash_key refl (T.plain word.two_key refl (entries_tokenwise a p)))

  pub line_tokenwise : (k : ℕ) → is_plain_token k ≡ true → {fs gs ns : List ℕ} → Arities fs ns → Pairwise R fs gs → P (line_tokens k fs ns) (line_tokens k gs ns)
  unfolding line_tokens
  line_tokenwise k t a Pairwise.none = T.none
  line_tokenwise k t a (Pairwise.more r p) = T.plain k t (T.append (entries_tokenwise a (Pairwise.more r p)) semicolon_tokenwise)

  pub declarations_tokenwise : (fs gs ns : List ℕ) (t : ℕ) → Arities fs ns → Pairwise R fs gs → P (declaration_tokens fs ns t) (declaration_tokens gs ns t)
  declarations_tokenwise fs gs ns t a p =
      T.append (line_tokenwise word.funs_key refl (arities_take t a) (pairs_take t p))
      (line_tokenwise word.tests_key refl (arities_drop t a) (pairs_drop t p))

  -- ---- conditions and assignments

  -- Uses lie within the lists of names, so each name stands against its own.
  module _ (rs rs' fs fs' ns : List ℕ) (X : (x : ℕ) → x < length rs → R (get_or rs x 0) (get_or rs' x 0))
      (F : (f : ℕ) → f < length fs → R (get_or fs f 0) (get_or fs' f 0)) (t : ℕ) where
    argument_tokenwise : (f z : ℕ) → z < length rs → P (argument_tokens rs fs ns f z) (argument_tokens rs' fs' ns f z)
    argument_tokenwise f z l = by_test (takes_two rs fs ns f)
        (λ u. rw u (T.plain word.comma_key refl (T.name (X z l) (T.plain word.rparen_key refl T.none))))
        λ u. rw u (T.plain word.rparen_key refl T.none)

    application_tokenwise : (f y z : ℕ) → f < length fs → y < length rs → z < length rs
        → P (application_tokens rs fs ns f y z) (application_tokens rs' fs' ns f y z)
    application_tokenwise f y z lf ly lz = T.name (F f lf) (T.plain word.lparen_key refl (T.name (X y ly) (argument_tokenwise f z lz)))

    pub condition_tokenwise : (c : Condition) → ProperCondition c (header rs fs ns) t → P (condition_tokens rs fs ns c) (condition_tokens rs' fs' ns c)
    condition_tokenwise (equal x y) (l, r) = T.name (X x l) (T.plain word.equal_key refl (T.name (X y r) T.none))
    condition_tokenwise (unequal x y) (l, r) = T.name (X x l) (T.plain word.unequal_key refl (T.name (X y r) T.none))
    condition_tokenwise (holds f y z) ((_, lf, ly, lz, _), _) = application_tokenwise f y z lf ly lz
    condition_tokenwise (fails f y z) ((_, lf, ly, lz, _), _) = T.negated (F f lf) (application_tokenwise f y z lf ly lz)

    pub assignment_tokenwise : (a : Assignment) → ProperAssignment a (header rs fs ns) t → P (assignment_tokens rs fs ns a) (assignment_tokens rs' fs' ns a)
    assignment_tokenwise (copy x y) (l, r) = T.name (X x l) (T.plain word.becomes_key refl (T.name (X y r) semicolon_tokenwise))
    assignment_tokenwise (apply x f y z) ((lx, lf, ly, lz, _), _) =
        T.name (X x lx) (T.plain word.becomes_key refl (T.append (application_tokenwise f y z lf ly lz) semicolon_tokenwise))

    -- ---- statements

    -- if `else` may stand before anything
    module _ (E : (ks ws : List ℕ) → P ks ws → P (word.else_key ∷ ks) (word.else_key ∷ ws)) where
      mutual
        unfolding statement_tokens else_tokens block_tokens

        statement_tokenwise : (s : Statement) → Proper s (header rs fs ns) t → P (statement_tokens rs fs ns s) (statement_tokens rs' fs' ns s)
        statement_tokenwise skip o = T.plain word.skip_key refl semicolon_tokenwise
        statement_tokenwise (assign a) o = assignment_tokenwise a o
        statement_tokenwise (assume c) o = T.plain word.assume_key refl (T.append (condition_tokenwise c o) semicolon_tokenwise)
        statement_tokenwise (assert c) o = T.plain word.assert_key refl (T.append (condition_tokenwise c o) semicolon_tokenwise)
        statement_tokenwise (if c b e) (o, p, q) =
            T.plain word.if_key refl (T.append (condition_tokenwise c o) (T.plain word.lbrace_key refl
            (T.append (block_tokenwise b p) (T.plain word.rbrace_key refl (else_tokenwise e q)))))
        statement_tokenwise (while c b) (o, p) =
            T.plain word.while_key refl (T.append (condition_tokenwise c o) (T.plain word.lbrace_key refl
            (T.append (block_tokenwise b p) (T.plain word.rbrace_key refl T.none))))

        else_tokenwise : (e : Else) → ProperElse e (header rs fs ns) t → P (else_tokens rs fs ns e) (else_tokens rs' fs' ns e)
        else_tokenwise absent o = T.none
        else_tokenwise (present b) o = E _ _ (T.plain word.lbrace_key refl (T.append (block_tokenwise b o) (T.plain word.rbrace_key refl T.none)))

        block_tokenwise : (b : Block) → ProperBlock b (header rs fs ns) t → P (block_tokens rs fs ns b) (block_tokens rs' fs' ns b)
        block_tokenwise empty o = T.none
        block_tokenwise (s then b) (o, p) = T.append (statement_tokenwise s o) (block_tokenwise b p)

  -- ---- a sentence, and that with the names as they are declared

  pub sentence_tokenwise : ((ks ws : List ℕ) → P ks ws → P (word.else_key ∷ ks) (word.else_key ∷ ws))
      → (m : Macro) → InOrder m → length m.register_spellings ≡ length m.registers → length m.function_spellings ≡ length m.functions
      → ((x : ℕ) → x < length m.registers → R (get_or m.registers x 0) (get_or m.register_spellings x 0))
      → ((f : ℕ) → f < length m.functions → R (get_or m.functions f 0) (get_or m.function_spellings f 0))
      → P (sentence m) (sentence (as_declared m))
  unfolding sentence
  sentence_tokenwise E m O e e' X F =
      T.plain word.vars_key refl (T.append (names_tokenwise (pairs_each R m.registers m.register_spellings e X))
      (T.plain word.semicolon_key refl
      (T.append (declarations_tokenwise m.functions m.function_spellings m.arities m.first_test O.arities
      (pairs_each R m.functions m.function_spellings e' F))
      (block_tokenwise m.registers m.register_spellings m.functions m.function_spellings m.arities X F m.first_test E m.body O.uses))))

-- Two sentences entry by entry, where the words and the signs are paired with themselves.
module _ (R : ℕ → ℕ → Type 0) (same : (k : ℕ) → is_fixed_token k ≡ true → R k k) where
  pairs_tokenwise : Tokenwise R (Pairwise R)
  pairs_tokenwise = record {
    none = Pairwise.none;
    append = pairs_append;
    plain = λ k t. Pairwise.more (same k (plain_token k t).0);
    name = λ r. Pairwise.more r;
    negated = λ r p. Pairwise.more (same word.not_key refl) p;
  }

  pub sentence_pairs : (m : Macro) → InOrder m → length m.register_spellings ≡ length m.registers → length m.function_spellings ≡ length m.functions
      → ((x : ℕ) → x < length m.registers → R (get_or m.registers x 0) (get_or m.register_spellings x 0))
      → ((f : ℕ) → f < length m.functions → R (get_or m.functions f 0) (get_or m.function_spellings f 0))
      → Pairwise R (sentence m) (sentence (as_declared m))
  sentence_pairs = sentence_tokenwise pairs_tokenwise λ ks ws. Pairwise.more (same word.else_key refl)
