-- Conditions and assignments, judged.
use mathlib.Core.Path.{◌≡◌, refl, sym, ap, subst, ◌∙◌}
use mathlib.Core.Logic.{◌⊎◌, inl, inr}
use Prim.Native.Nat.{ℕ, zero, suc, ◌+◌, ◌-◌, ◌≤◌, ◌<◌}
use native.Mathlib.Omega.{arith}
use mathlib.Core.Bool.{Bool, true, false, not, ◌&&◌, ◌||◌}
use mathlib.Core.List.{List, [], ◌∷◌, ◌++◌, append_assoc}
use lib.Dec.{eqb, ltb, leb}
use lib.ListN.{length, get_or, length-drop}
use lib.ListN as list
use lib.Seq.{length-take-le, get_or-take, get_or-drop}
use borrow.Author.Tests.{eqb-true, eqb-false, ltb-true, ltb-false, lt-ltb, le-leb, leb-true}
use Rattle.base.specs.Choice.{pick}
use Rattle.grammar.specs.Limits.{deepest_nesting}
use Rattle.letters.specs.MacroRefusalNumbers.{use_wrong}
use Rattle.grammar.specs.Tree.{Condition, holds, fails, Assignment, apply}
use Rattle.tokens.specs.Tokens.{token_at}
use Rattle.tokens.specs.Words.{is_name}
use Rattle.tokens.specs.Words as word
use Rattle.tokens.proofs.Theory.WordsLaws.{name_real, not_word}
use Rattle.grammar.specs.Reading.{Got, got, index_of, is_declared, refused_token, use_t, use_between, sign_t, expect, ended, comparison, arguments_t, applied}
use Rattle.grammar.specs.Reading.{named_test, condition, ended_condition, right_hand_side, assignment}
use Rattle.grammar.proofs.Theory.Sound.{index_at}
use Rattle.grammar.proofs.Theory.Complete.{index_below, index_least}
use Rattle.grammar.specs.Spelled.{Declared, Arities, Spells}
use Rattle.letters.proofs.Theory.WordLaws.{and_true}
use Rattle.refusals.proofs.Theory.Basics.{clash, or_case, not-true, nor}
use Rattle.refusals.proofs.Theory.Rests.{Rest, token, name, tested, arguments, took, take}
use Rattle.refusals.proofs.Theory.Rests as rest
use Rattle.refusals.specs.Questions.{InStatements, Among, Behind, FunctionDue, ConditionDue, TestDue, Called, TakesArguments, Redeclared, Misused}
use Rattle.refusals.specs.Questions.{occurrences, TooDeep}
use Rattle.refusals.specs.FirstNo.{tokens_before}
use Rattle.refusals.proofs.Theory.Parts.{not_name, registers_statements, functions_statements, tests_statements, statements_same}
use Rattle.refusals.proofs.Theory.Parts.{statements_more, behind_same, called_same, not_called}
use Rattle.refusals.proofs.Theory.Judged.{JudgedReading, fine, judged_on, judged_pick, judged_map, plain, plain_real, plain_brace, plain_tests_word}
use Rattle.refusals.proofs.Theory.Judged.{plain_misused, Stuck, stuck_at, key_at, next_at, At, before_next, advance, none_here}
use Rattle.refusals.proofs.Theory.Judged.{unfit_judged, misused_judged}

-- no token in the statements repeats a declaration
pub not_redeclared : {before rs fs ns : List ℕ} {from k : ℕ} → InStatements before rs fs ns from → Redeclared before k → ⊥
not_redeclared I (Redeclared.register J t x) = registers_statements J I
not_redeclared I (Redeclared.function J t x) = functions_statements J I
not_redeclared I (Redeclared.test J t x) = tests_statements J I

pub count_more : (j : ℕ) (ks : List ℕ) (k : ℕ) → occurrences j (ks ++ k ∷ []) ≡ occurrences j ks + pick (eqb k j) (λ _. 1) λ _. 0
count_more j [] k = omega arith
count_more j (x ∷ ks) k = omega (arith, count_more j ks k)

count_other : (j : ℕ) (ks : List ℕ) (k : ℕ) → eqb k j ≡ false → occurrences j (ks ++ k ∷ []) ≡ occurrences j ks
count_other j ks k h = count_more j ks k ∙ rw h (omega arith)

-- plain, and neither `}` nor `funs`
abbrev pub steady : ℕ → Bool
steady k = plain k && not (eqb k word.rbrace_key || eqb k word.funs_key)

-- ---- tokens behind which a function or a test may be due

-- the words that a condition follows
abbrev pub conditional : ℕ → Bool
conditional x = (eqb x word.assume_key || eqb x word.assert_key) || (eqb x word.if_key || eqb x word.while_key)

-- none of these, `:=` or `!`
abbrev pub free : ℕ → Bool
free x = not (eqb x word.becomes_key || (eqb x word.not_key || conditional x))

pub name_free : (k : ℕ) → is_name k ≡ true → free k ≡ true
name_free k t =
    rw (
      not_word k word.becomes_key refl t,
      not_word k word.not_key refl t,
      not_word k word.assume_key refl t,
      not_word k word.assert_key refl t,
      not_word k word.if_key refl t,
      not_word k word.while_key refl t,
    )

condition_due : {before : List ℕ} (x : ℕ) → Behind before x → conditional x ≡ true → ConditionDue before
condition_due {before} x b h = go (or_case (eqb x word.assume_key || eqb x word.assert_key) (eqb x word.if_key || eqb x word.while_key) h)
  where
    is : (k : ℕ) → eqb x k ≡ true → Behind before k
    is k t = subst (Behind before) (eqb-true x k t) b

    first_two : (eqb x word.assume_key ≡ true) ⊎ (eqb x word.assert_key ≡ true) → Behind before word.assume_key ⊎ Behind before word.assert_key
    first_two (inl t) = inl (is word.assume_key t)
    first_two (inr t) = inr (is word.assert_key t)

    last_two : (eqb x word.if_key ≡ true) ⊎ (eqb x word.while_key ≡ true) → Behind before word.if_key ⊎ Behind before word.while_key
    last_two (inl t) = inl (is word.if_key t)
    last_two (inr t) = inr (is word.while_key t)

    go : (eqb x word.assume_key || eqb x word.assert_key ≡ true) ⊎ (eqb x word.if_key || eqb x word.while_key ≡ true) → ConditionDue before
    go (inl t) = inl (first_two (or_case (eqb x word.assume_key) (eqb x word.assert_key) t))
    go (inr t) = inr (last_two (or_case (eqb x word.if_key) (eqb x word.while_key) t))

due_conditional : {before : List ℕ} (x : ℕ) → Behind before x → ConditionDue before → conditional x ≡ true
due_conditional {before} x b d = go d
  where
    is : (k : ℕ) → conditional k ≡ true → Behind before k → conditional x ≡ true
    is k t c = ap conditional (behind_same b c) ∙ t

    go : ConditionDue before → conditional x ≡ true
    go (inl (inl c)) = is word.assume_key refl c
    go (inl (inr c)) = is word.assert_key refl c
    go (inr (inl c)) = is word.if_key refl c
    go (inr (inr c)) = is word.while_key refl c

-- which of the three is due behind which token
module _ {before : List ℕ} {next : ℕ} (x : ℕ) (b : Behind before x) where
  function_behind : FunctionDue before next → x ≡ word.becomes_key
  function_behind (c, e) = behind_same b c

  test_behind : TestDue before next → (x ≡ word.not_key) ⊎ ((conditional x ≡ true) × (next ≡ word.lparen_key))
  test_behind (inl c) = inl (behind_same b c)
  test_behind (inr (d, e)) = inr (due_conditional x b d, e)

  free_function : free x ≡ true → FunctionDue before next → ⊥
  free_function f d = let (a, y) = nor (eqb x word.becomes_key) _ f in eqb-false x word.becomes_key a (function_behind d)

  free_test : free x ≡ true → TestDue before next → ⊥
  free_test f d = go (test_behind d)
    where
      go : (x ≡ word.not_key) ⊎ ((conditional x ≡ true) × (next ≡ word.lparen_key)) → ⊥
      go (inl e) = let (a, y) = nor (eqb x word.becomes_key) _ f in let (c, z) = nor (eqb x word.not_key) _ y in eqb-false x word.not_key c e
      go (inr (t, e)) = let (a, y) = nor (eqb x word.becomes_key) _ f in let (c, z) = nor (eqb x word.not_key) _ y in clash t (not-true (conditional x) z)

-- no test is due behind `:=`, so not both are
no_test_value : {before : List ℕ} {next : ℕ} → Behind before word.becomes_key → TestDue before next → ⊥
no_test_value {next = next} b d = go (test_behind word.becomes_key b d)
  where
    go : (word.becomes_key ≡ word.not_key) ⊎ ((conditional word.becomes_key ≡ true) × (next ≡ word.lparen_key)) → ⊥
    go (inl h) = omega arith
    go (inr (t, h)) = clash t refl

-- ---- functions and tests by their numbers

module _ (fs : List ℕ) (from : ℕ) (w : from ≤ length fs) (k : ℕ) where
  -- numbers below `from`
  is_function : leb 0 (index_of k fs) && ltb (index_of k fs) from ≡ true → Among k (list.take from fs)
  is_function h =
      let l = ltb-true (index_of k fs) from (and_true (leb 0 (index_of k fs)) _ h).1 in
      let n = length-take-le from fs w in
      (index_of k fs, omega arith, get_or-take from fs (index_of k fs) 0 l ∙ sym (index_at k fs (omega arith)))

  no_function_number : leb 0 (index_of k fs) && ltb (index_of k fs) from ≡ false → Among k (list.take from fs) → ⊥
  no_function_number h (i, l, e) =
      let n = length-take-le from fs w in
      let m = index_least k fs i (omega arith) (sym e ∙ get_or-take from fs i 0 (omega arith)) in
      clash (rw (le-leb 0 (index_of k fs) (omega arith), lt-ltb (index_of k fs) from (omega arith))) h

  -- numbers from `from` on
  is_test : leb from (index_of k fs) && ltb (index_of k fs) (length fs) ≡ true → Among k (list.drop from fs)
  is_test h =
      let (a, b) = and_true (leb from (index_of k fs)) _ h in
      let l = leb-true from (index_of k fs) a in
      let m = ltb-true (index_of k fs) (length fs) b in
      let n = length-drop from fs in
      let j : from + (index_of k fs - from) ≡ index_of k fs = omega arith in
      (index_of k fs - from, omega arith, get_or-drop from fs (index_of k fs - from) 0 ∙ ap (λ j. get_or fs j 0) j ∙ sym (index_at k fs m))

  no_test_number : Declared fs → leb from (index_of k fs) && ltb (index_of k fs) (length fs) ≡ false → Among k (list.drop from fs) → ⊥
  no_test_number F h (i, l, e) =
      let n = length-drop from fs in
      let g : get_or fs (from + i) 0 ≡ k = sym (get_or-drop from fs i 0) ∙ e in
      let m = index_below k fs (from + i) (omega arith) (sym g) in
      let o = F.once (from + i) (index_of k fs) (omega arith) m (g ∙ index_at k fs m) in
      clash (rw (le-leb from (index_of k fs) (omega arith), lt-ltb (index_of k fs) (length fs) m)) h

arity_at : (fs ns : List ℕ) → Arities fs ns → (f : ℕ) → f < length fs → (get_or ns f 0 ≡ 1) ⊎ (get_or ns f 0 ≡ 2)
arity_at fs ns Arities.none f l = absurd (omega arith)
arity_at fs ns (Arities.one a) zero l = inl refl
arity_at fs ns (Arities.two a) zero l = inr refl
arity_at fs ns (Arities.one {fs = gs} {ns = ms} a) (suc f) l = arity_at gs ms a f (omega arith)
arity_at fs ns (Arities.two {fs = gs} {ns = ms} a) (suc f) l = arity_at gs ms a f (omega arith)

module _ (s rs fs ns : List ℕ) (from : ℕ) where
  -- In the statements, behind the token x, with d braces still to open.
  pub record In (i d at x : ℕ) (r : Rest) : Type 0 where
    pub standing : At s i at r
    pub part : InStatements (tokens_before s i) rs fs ns from
    pub behind : Behind (tokens_before s i) x
    pub depth : occurrences word.lbrace_key (tokens_before s i) + d ≡ deepest_nesting + occurrences word.rbrace_key (tokens_before s i)

  -- one token
  pub go_on : {i d at x : ℕ} {r : Rest} → In i d at x r → (q : Rest) (d' : ℕ) → 2 ≤ key_at s at → take r (key_at s at) ≡ took q → (key_at s at ≡ word.funs_key → ⊥)
      → (key_at s at ≡ word.tests_key → ⊥) → (Misused (tokens_before s i) (key_at s at) (next_at s at) → ⊥) → (TooDeep (tokens_before s i) (key_at s at) → ⊥)
      → occurrences word.lbrace_key (tokens_before s i ++ key_at s at ∷ []) + d' ≡ deepest_nesting + occurrences word.rbrace_key
      (tokens_before s i ++ key_at s at ∷ [])
      → In (suc i) d' (token_at s at).end (key_at s at) q
  go_on {i} {at = at} I q d' l h f g u z n =
      let b = before_next s I.standing in
      record {
        standing = advance s I.standing q l h (none_here s I.standing h l (not_redeclared I.part) u z λ N. g N.begins);
        part = subst (λ ws. InStatements ws rs fs ns from) (sym b) (statements_more (key_at s at) f g I.part);
        behind = (tokens_before s i, b);
        depth = subst (λ ws. occurrences word.lbrace_key ws + d' ≡ deepest_nesting + occurrences word.rbrace_key ws) (sym b) n;
      }

  -- one that changes no depth
  pub level_on : {i d at x : ℕ} {r : Rest} → In i d at x r → (q : Rest) → 2 ≤ key_at s at → take r (key_at s at) ≡ took q → (key_at s at ≡ word.funs_key → ⊥)
      → (key_at s at ≡ word.tests_key → ⊥) → eqb (key_at s at) word.lbrace_key ≡ false → eqb (key_at s at) word.rbrace_key ≡ false
      → (Misused (tokens_before s i) (key_at s at) (next_at s at) → ⊥) → In (suc i) d (token_at s at).end (key_at s at) q
  level_on {i} {d} {at} I q l h f g x y u =
      go_on I q d l h f g u (λ D. eqb-false (key_at s at) word.lbrace_key x D.brace)
      (let D = I.depth in let a = count_other word.lbrace_key (tokens_before s i) (key_at s at) x in
      let b = count_other word.rbrace_key (tokens_before s i) (key_at s at) y in omega arith)

  -- one that the questions do not concern
  pub steady_on : {i d at x : ℕ} {r : Rest} → In i d at x r → (k : ℕ) (q : Rest) → key_at s at ≡ k → steady k ≡ true → take r (key_at s at) ≡ took q
      → In (suc i) d (token_at s at).end k q
  steady_on {i} {d} {at} {x} {r} I k q e t h =
      let (p, w) = and_true (plain (key_at s at)) _ (ap steady e ∙ t) in
      let (y, v) = nor (eqb (key_at s at) word.rbrace_key) _ w in
      subst (λ k. In (suc i) d (token_at s at).end k q) e
      (level_on I q (plain_real (key_at s at) p) h (eqb-false (key_at s at) word.funs_key (not-true (eqb (key_at s at) word.funs_key) v))
      (eqb-false (key_at s at) word.tests_key (plain_tests_word (key_at s at) p)) (plain_brace (key_at s at) p) y (plain_misused (key_at s at) p))

  -- ---- names

  -- what the use of a name leaves, of the list xs
  abbrev pub NameUsed : List ℕ → (i d at : ℕ) → Rest → ℕ → ℕ → Type 0
  NameUsed xs i d at q j e = (e ≡ (token_at s at).end) × (j < length xs) × (key_at s at ≡ get_or xs j 0) × (is_name (key_at s at) ≡ true)
      × In (suc i) d e (key_at s at) q

  -- c is the test that the name passes if it is number j of the list xs, and may be used here
  use_judged : (xs : List ℕ) (c : Bool) {i d at x : ℕ} {r : Rest} (q : Rest) → In i d at x r → (is_name (key_at s at) ≡ true → take r (key_at s at) ≡ took q)
      → (is_name (key_at s at) ≡ false → Stuck r (key_at s at)) → (c ≡ true → index_of (key_at s at) xs < length xs)
      → (is_name (key_at s at) ≡ true → c ≡ false → Misused (tokens_before s i) (key_at s at) (next_at s at))
      → (is_name (key_at s at) ≡ true → c ≡ true → Misused (tokens_before s i) (key_at s at) (next_at s at) → ⊥)
      → JudgedReading s ℕ (NameUsed xs i d at q) (pick (is_name (key_at s at))
      (λ _. pick c (λ _. got (index_of (key_at s at) xs) (token_at s at).end) λ _. Got.refused use_wrong (token_at s at).start)
      λ _. refused_token (token_at s at))
  use_judged xs c {i} {d} {at} {x} {r} q I fit other below wrong right =
      judged_pick (is_name (key_at s at)) _ _
      (λ t. let l = name_real (key_at s at) t in judged_pick c _ _
      (λ u. fine (
        refl,
        below u,
        index_at (key_at s at) xs (below u),
        t,
        level_on I q l (fit t) (not_name (key_at s at) word.funs_key refl t) (not_name (key_at s at) word.tests_key refl t)
            (not_word (key_at s at) word.lbrace_key refl t) (not_word (key_at s at) word.rbrace_key refl t) (right t u),
      ))
      λ u. misused_judged s I.standing (fit t) l (not_redeclared I.part) (wrong t u))
      λ t. unfit_judged s I.standing (other t)

  -- a register, where no function and no test is due
  pub register_right : {before : List ℕ} {k next : ℕ} → InStatements before rs fs ns from → (FunctionDue before next → ⊥) → (TestDue before next → ⊥)
      → is_name k ≡ true → Among k rs → Misused before k next → ⊥
  register_right {k = k} I n m t a (Misused.register J u x y z) = z (subst (Among k) (statements_same I J).0 a)
  register_right I n m t a (Misused.function J u x y) = n x
  register_right I n m t a (Misused.test J u x y) = m x
  register_right {k = k} I n m t a (Misused.more_arguments J c x e) = not_name k word.comma_key refl t e
  register_right {k = k} I n m t a (Misused.fewer_arguments J c x e) = not_name k word.rparen_key refl t e

  pub function_right : {before : List ℕ} {k next : ℕ} → InStatements before rs fs ns from → FunctionDue before next → is_name k ≡ true
      → Among k (list.take from fs) → Misused before k next → ⊥
  function_right I n t a (Misused.register J u x y z) = x n
  function_right {k = k} I n t a (Misused.function J u x y) =
      let (p, q, r, e) = statements_same I J in y (subst (λ l. Among k l) (λ i. list.take (e i) (q i)) a)
  function_right I n t a (Misused.test J u x y) = no_test_value n.0 x
  function_right {k = k} I n t a (Misused.more_arguments J c x e) = not_name k word.comma_key refl t e
  function_right {k = k} I n t a (Misused.fewer_arguments J c x e) = not_name k word.rparen_key refl t e

  pub test_right : {before : List ℕ} {k next : ℕ} → InStatements before rs fs ns from → TestDue before next → is_name k ≡ true
      → Among k (list.drop from fs) → Misused before k next → ⊥
  test_right I n t a (Misused.register J u x y z) = y n
  test_right I n t a (Misused.function J u x y) = no_test_value x.0 n
  test_right {k = k} I n t a (Misused.test J u x y) =
      let (p, q, r, e) = statements_same I J in y (subst (λ l. Among k l) (λ i. list.drop (e i) (q i)) a)
  test_right {k = k} I n t a (Misused.more_arguments J c x e) = not_name k word.comma_key refl t e
  test_right {k = k} I n t a (Misused.fewer_arguments J c x e) = not_name k word.rparen_key refl t e

  pub register_judged : {i d at x : ℕ} {r : Rest} (q : Rest) → In i d at x r → (is_name (key_at s at) ≡ true → take r (key_at s at) ≡ took q)
      → (is_name (key_at s at) ≡ false → Stuck r (key_at s at)) → (FunctionDue (tokens_before s i) (next_at s at) → ⊥)
      → (TestDue (tokens_before s i) (next_at s at) → ⊥) → JudgedReading s ℕ (NameUsed rs i d at q) (use_t rs (token_at s at))
  register_judged {at = at} q I fit other n m =
      use_judged rs (is_declared (key_at s at) rs) q I fit other (ltb-true (index_of (key_at s at) rs) (length rs))
      (λ t u. Misused.register I.part t n m λ (j, b, e). let y = index_below (key_at s at) rs j b (sym e) in
      let z = ltb-false (index_of (key_at s at) rs) (length rs) u in omega arith)
      λ t u. let b = ltb-true (index_of (key_at s at) rs) (length rs) u in
      register_right I.part n m t (index_of (key_at s at) rs, b, sym (index_at (key_at s at) rs b))

  -- a function, where one is due
  function_judged : {i d at x : ℕ} {r : Rest} (q : Rest) → In i d at x r → (is_name (key_at s at) ≡ true → take r (key_at s at) ≡ took q)
      → (is_name (key_at s at) ≡ false → Stuck r (key_at s at)) → FunctionDue (tokens_before s i) (next_at s at)
      → JudgedReading s ℕ (NameUsed fs i d at q) (use_between fs 0 from (token_at s at))
  function_judged {at = at} q I fit other n =
      let k = key_at s at in
      let w = I.part.within in
      use_judged fs (leb 0 (index_of k fs) && ltb (index_of k fs) from) q I fit other
      (λ u. let l = ltb-true (index_of k fs) from (and_true (leb 0 (index_of k fs)) _ u).1 in omega arith)
      (λ t u. Misused.function I.part t n (no_function_number fs from w k u)) λ t u. function_right I.part n t (is_function fs from w k u)

  -- a test, where one is due
  test_judged : Declared fs → {i d at x : ℕ} {r : Rest} (q : Rest) → In i d at x r → (is_name (key_at s at) ≡ true → take r (key_at s at) ≡ took q)
      → (is_name (key_at s at) ≡ false → Stuck r (key_at s at)) → TestDue (tokens_before s i) (next_at s at)
      → JudgedReading s ℕ (NameUsed fs i d at q) (use_between fs from (length fs) (token_at s at))
  test_judged F {at = at} q I fit other n =
      let k = key_at s at in
      let w = I.part.within in
      use_judged fs (leb from (index_of k fs) && ltb (index_of k fs) (length fs)) q I fit other
      (λ u. ltb-true (index_of k fs) (length fs) (and_true (leb from (index_of k fs)) _ u).1)
      (λ t u. Misused.test I.part t n (no_test_number fs from w k F u)) λ t u. test_right I.part n t (is_test fs from w k u)

  -- a name that is due
  named : (r : Rest) (k : ℕ) → is_name k ≡ true → take (name r) k ≡ took r
  named r k t = rw t

  unnamed : (r : Rest) (k : ℕ) → is_name k ≡ false → Stuck (name r) k
  unnamed r k t = stuck_at (name r) k refl (rw t)

  -- a register behind a token that leaves it free
  pub operand_judged : {i d at x : ℕ} (r : Rest) → In i d at x (name r) → free x ≡ true
      → JudgedReading s ℕ (NameUsed rs i d at r) (use_t rs (token_at s at))
  operand_judged {at = at} {x} r I n =
      register_judged r I (named r (key_at s at)) (unnamed r (key_at s at)) (free_function x I.behind n) (free_test x I.behind n)

  pub ended_judged : {A : Type 0} (a : A) (k : ℕ) {i d at x : ℕ} {r : Rest} (q : Rest) → In i d at x r → steady k ≡ true → take r k ≡ took q
      → (eqb (key_at s at) k ≡ false → Stuck r (key_at s at)) → JudgedReading s A (λ b e. In (suc i) d e k q) (ended s k a at)
  ended_judged a k {i} {d} {at} {x} {r} q I t h n =
      judged_on {P = λ u e. In (suc i) d e k q} (expect s k at) _
      (judged_pick (eqb (key_at s at) k) _ _ (λ u. let e = eqb-true (key_at s at) k u in fine (steady_on I k q e t (ap (λ k. take r k) e ∙ h)))
      λ u. unfit_judged s I.standing (n u))
      λ u e _ J. fine J

  -- a token that is due
  due : (j : ℕ) (r : Rest) (k : ℕ) → eqb k j ≡ false → Stuck (token j r) k
  due j r k t = stuck_at (token j r) k refl (rw t)

  -- ---- what is applied

  -- behind `f(b`, where f is function number g
  abbrev Calling : ℕ → ℕ → Type 0
  Calling i g = (g < length fs) × Called (tokens_before s i) (get_or fs g 0)

  module _ (F : Declared fs) (Y : Arities fs ns) where
    -- f is declared once, so it takes what it takes
    takes_same : {before us gs ms : List ℕ} {u f m : ℕ} (g : ℕ) → InStatements before rs fs ns from → InStatements before us gs ms u → g < length fs
        → Called before (get_or fs g 0) → Called before f → TakesArguments gs ms f m → get_or ns g 0 ≡ m
    takes_same {m = m} g I J l c d (i, b, e, n) =
        let (x, p, q, y) = statements_same I J in
        let b' : i < length fs = subst (λ l. i < length l) (sym p) b in
        let h : get_or fs i 0 ≡ get_or fs g 0 = ap (λ l. get_or l i 0) p ∙ e ∙ sym (called_same c d) in
        ap (λ i. get_or ns i 0) (sym (F.once i g b' l h)) ∙ ap (λ l. get_or l i 0) q ∙ n

    comma_right : {i d at x : ℕ} {r : Rest} (g : ℕ) → In i d at x r → Calling i g → key_at s at ≡ word.comma_key → get_or ns g 0 ≡ 2
        → Misused (tokens_before s i) (key_at s at) (next_at s at) → ⊥
    comma_right g I c k n (Misused.register J t x y z) = clash (sym (ap is_name k) ∙ t) refl
    comma_right g I c k n (Misused.function J t x y) = clash (sym (ap is_name k) ∙ t) refl
    comma_right g I c k n (Misused.test J t x y) = clash (sym (ap is_name k) ∙ t) refl
    comma_right g I (l, c) k n (Misused.more_arguments J d t e) = let z = takes_same g I.part J l c d t in omega arith
    comma_right g I c k n (Misused.fewer_arguments J d t e) = omega arith

    paren_right : {i d at x : ℕ} {r : Rest} (g : ℕ) → In i d at x r → Calling i g → key_at s at ≡ word.rparen_key → get_or ns g 0 ≡ 1
        → Misused (tokens_before s i) (key_at s at) (next_at s at) → ⊥
    paren_right g I c k n (Misused.register J t x y z) = clash (sym (ap is_name k) ∙ t) refl
    paren_right g I c k n (Misused.function J t x y) = clash (sym (ap is_name k) ∙ t) refl
    paren_right g I c k n (Misused.test J t x y) = clash (sym (ap is_name k) ∙ t) refl
    paren_right g I c k n (Misused.more_arguments J d t e) = omega arith
    paren_right g I (l, c) k n (Misused.fewer_arguments J d t e) = let z = takes_same g I.part J l c d t in omega arith

    -- behind `, c`
    second_right : {i d at x : ℕ} {r : Rest} (b : ℕ) (xs : List ℕ) → In i d at x r → tokens_before s i ≡ xs ++ word.comma_key ∷ b ∷ []
        → key_at s at ≡ word.rparen_key → Misused (tokens_before s i) (key_at s at) (next_at s at) → ⊥
    second_right b xs I h k (Misused.register J t x y z) = clash (sym (ap is_name k) ∙ t) refl
    second_right b xs I h k (Misused.function J t x y) = clash (sym (ap is_name k) ∙ t) refl
    second_right b xs I h k (Misused.test J t x y) = clash (sym (ap is_name k) ∙ t) refl
    second_right b xs I h k (Misused.more_arguments J d t e) = omega arith
    second_right b xs I h k (Misused.fewer_arguments J d t e) = not_called b xs h d

    -- a `,` or `)` that is right
    sign_on : {i d at x : ℕ} {r : Rest} → In i d at x r → (k : ℕ) (q : Rest) → key_at s at ≡ k → (2 ≤ k) → (k ≡ word.funs_key → ⊥) → (k ≡ word.tests_key → ⊥)
        → eqb k word.lbrace_key ≡ false → eqb k word.rbrace_key ≡ false → take r k ≡ took q
        → (Misused (tokens_before s i) (key_at s at) (next_at s at) → ⊥) → In (suc i) d (token_at s at).end k q
    sign_on {i} {d} {at} {x} {r} I k q e l f g a b h u =
        subst (λ k. In (suc i) d (token_at s at).end k q) e
        (level_on I q (subst (λ k. 2 ≤ k) (sym e) l) (ap (λ k. take r k) e ∙ h) (λ n. f (sym e ∙ n)) (λ n. g (sym e ∙ n))
        (ap (λ k. eqb k word.lbrace_key) e ∙ a) (ap (λ k. eqb k word.rbrace_key) e ∙ b) u)

    -- behind `)`
    abbrev Closed : ℕ → Rest → ℕ → Type 0
    Closed d r e = (j : ℕ) × In j d e word.rparen_key r

    -- `)` behind the second argument
    last_judged : {A : Type 0} (a : A) {i d at x : ℕ} (b : ℕ) (xs : List ℕ) (r : Rest) → In i d at x (token word.rparen_key r)
        → tokens_before s i ≡ xs ++ word.comma_key ∷ b ∷ [] → JudgedReading s A (λ l e. Closed d r e) (ended s word.rparen_key a at)
    last_judged a {i} {d} {at} b xs r I h =
        judged_on {P = λ u e. In (suc i) d e word.rparen_key r} (expect s word.rparen_key at) _
        (judged_pick (eqb (key_at s at) word.rparen_key) _ _
        (λ t. let k = eqb-true (key_at s at) word.rparen_key t in
        fine (sign_on I word.rparen_key r k (omega arith) (λ n. absurd (omega arith)) (λ n. absurd (omega arith)) refl refl refl (second_right b xs I h k)))
        λ t. unfit_judged s I.standing (due word.rparen_key r (key_at s at) t))
        λ u e _ J. fine (suc i, J)

    arguments_judged : {A : Type 0} (make : ℕ → ℕ → A) (g y : ℕ) {i d at z : ℕ} (r : Rest) → In i d at z (arguments r) → Calling i g
        → JudgedReading s A (λ l e. Closed d r e) (arguments_t s rs make (get_or ns g 0) y (token_at s at))
    unfolding arguments_t
    arguments_judged make g y {i} {d} {at} r I c =
        judged_pick (eqb (key_at s at) word.comma_key) _ _
        (λ t. let k = eqb-true (key_at s at) word.comma_key t in judged_pick (eqb (get_or ns g 0) 2) _ _
        (λ u. let J = sign_on I word.comma_key (name (token word.rparen_key r)) k (omega arith) (λ n. absurd (omega arith)) (λ n. absurd (omega arith)) refl
        refl refl (comma_right g I c k (eqb-true (get_or ns g 0) 2 u)) in
        judged_on (use_t rs (token_at s (token_at s at).end)) _ (operand_judged (token word.rparen_key r) J refl)
        λ w e _ (h, l, m, v, K).
        last_judged _ (key_at s (token_at s at).end) (tokens_before s i) r K (two_before I J k))
        λ u. misused_judged s I.standing (ap (λ k. take (arguments r) k) k) (subst (λ k. 2 ≤ k) (sym k) (omega arith)) (not_redeclared I.part)
        (Misused.more_arguments I.part c.1 (g, c.0, refl, unary g c.0 u) k))
        λ t. judged_pick (eqb (key_at s at) word.rparen_key) _ _
        (λ u. let k = eqb-true (key_at s at) word.rparen_key u in judged_pick (eqb (get_or ns g 0) 2) _ _
        (λ v. misused_judged s I.standing (ap (λ k. take (arguments r) k) k) (subst (λ k. 2 ≤ k) (sym k) (omega arith)) (not_redeclared I.part)
        (Misused.fewer_arguments I.part c.1 (g, c.0, refl, eqb-true (get_or ns g 0) 2 v) k))
        λ v. fine (
          suc i,
          sign_on I word.rparen_key r k (omega arith) (λ n. absurd (omega arith)) (λ n. absurd (omega arith)) refl refl refl
              (paren_right g I c k (unary g c.0 v)),
        ))
        λ u. unfit_judged s I.standing (stuck_at (arguments r) (key_at s at) refl (rw (u, t)))
      where
        unary : (g : ℕ) → g < length fs → eqb (get_or ns g 0) 2 ≡ false → get_or ns g 0 ≡ 1
        unary g l u = go (arity_at fs ns Y g l)
          where
            go : (get_or ns g 0 ≡ 1) ⊎ (get_or ns g 0 ≡ 2) → get_or ns g 0 ≡ 1
            go (inl h) = h
            go (inr h) = absurd (eqb-false (get_or ns g 0) 2 u h)

        two_before : {i d at z x d' : ℕ} {r q : Rest} → In i d at z r → In (suc i) d' (token_at s at).end x q → key_at s at ≡ word.comma_key
            → tokens_before s (suc (suc i)) ≡ tokens_before s i ++ word.comma_key ∷ key_at s (token_at s at).end ∷ []
        two_before {i} {at = at} I J k =
            before_next s J.standing ∙ ap (λ l. l ++ key_at s (token_at s at).end ∷ []) (before_next s I.standing ∙ ap (λ k. tokens_before s i ++ k ∷ []) k)
            ∙ append_assoc (tokens_before s i) (word.comma_key ∷ []) (key_at s (token_at s at).end ∷ [])

    -- `(` and arguments, behind the name of number g
    applied_judged : {A : Type 0} (make : ℕ → ℕ → A) (g : ℕ) {i d at x : ℕ} {b : Rest} (r : Rest) → In i d at x b → g < length fs → x ≡ get_or fs g 0
        → take b word.lparen_key ≡ took (name (arguments r)) → (eqb (key_at s at) word.lparen_key ≡ false → Stuck b (key_at s at))
        → JudgedReading s A (λ l e. Closed d r e) (applied s rs make (get_or ns g 0) at)
    unfolding applied
    applied_judged make g {i} {d} {at} {x} {b} r I l e fit other =
        judged_on {P = λ v e. (key_at s at ≡ word.lparen_key) × In (suc i) d e word.lparen_key (name (arguments r))} (expect s word.lparen_key at) _
        (judged_pick (eqb (key_at s at) word.lparen_key) _ _
        (λ t. let k = eqb-true (key_at s at) word.lparen_key t in
        fine (k, steady_on I word.lparen_key (name (arguments r)) k refl (ap (λ k. take b k) k ∙ fit)))
        λ t. unfit_judged s I.standing (other t)) λ v c _ (k, J).
        judged_on (use_t rs (token_at s c)) _ (operand_judged (arguments r) J refl) λ y f _ (h₂, l₂, k₂, u₂, K).
        arguments_judged make g y r K (l, called I J e k)
      where
        called : {i d at x d' c : ℕ} {b q : Rest} → In i d at x b → In (suc i) d' c word.lparen_key q → x ≡ get_or fs g 0 → key_at s at ≡ word.lparen_key
            → Called (tokens_before s (suc (suc i))) (get_or fs g 0)
        called {i} {at = at} {c = c} I J e k =
            let (ws, h) = I.behind in
            let f = get_or fs g 0 in (
              ws,
              key_at s c,
              before_next s J.standing
                  ∙ ap (λ l. l ++ key_at s c ∷ [])
                  (before_next s I.standing ∙ ap (λ k. tokens_before s i ++ k ∷ []) k ∙ ap (λ l. l ++ word.lparen_key ∷ []) (h ∙ ap (λ x. ws ++ x ∷ []) e)
                  ∙ append_assoc ws (f ∷ []) (word.lparen_key ∷ []))
                  ∙ append_assoc ws (f ∷ word.lparen_key ∷ []) (key_at s c ∷ []),
            )

    -- ---- conditions

    -- behind a condition
    abbrev pub LeftBehindTest : ℕ → Rest → ℕ → Type 0
    LeftBehindTest d r e = (j : ℕ) × (y : ℕ) × (free y ≡ true) × In j d e y r

    -- `=` or `!=` behind the first name, where no `(` is
    sign_judged : {i d at x : ℕ} (r : Rest) → In i d at x (tested r) → eqb (key_at s at) word.lparen_key ≡ false
        → JudgedReading s Bool (λ q e. (y : ℕ) × (free y ≡ true) × In (suc i) d e y (name r)) (sign_t (token_at s at))
    sign_judged {at = at} r I p =
        judged_pick (eqb (key_at s at) word.equal_key) _ _
        (λ t. let k = eqb-true (key_at s at) word.equal_key t in fine (word.equal_key, refl, steady_on I word.equal_key (name r) k refl (rw k)))
        λ t. judged_pick (eqb (key_at s at) word.unequal_key) _ _
        (λ u. let k = eqb-true (key_at s at) word.unequal_key u in fine (word.unequal_key, refl, steady_on I word.unequal_key (name r) k refl (rw k)))
        λ u. unfit_judged s I.standing (stuck_at (tested r) (key_at s at) refl (rw (t, u, p)))

    -- a named test, whose name leaves b
    named_test_judged : (make : ℕ → ℕ → ℕ → Condition) {i d at x : ℕ} {a : Rest} (b r : Rest) → In i d at x a
        → (is_name (key_at s at) ≡ true → take a (key_at s at) ≡ took b) → (is_name (key_at s at) ≡ false → Stuck a (key_at s at))
        → TestDue (tokens_before s i) (next_at s at) → take b word.lparen_key ≡ took (name (arguments r))
        → (eqb (next_at s at) word.lparen_key ≡ false → Stuck b (next_at s at))
        → JudgedReading s Condition (λ c e. LeftBehindTest d r e) (named_test s rs fs ns from make at)
    unfolding named_test
    named_test_judged make {i} {d} {at} b r I fit other n opens shut =
        judged_on (use_between fs from (length fs) (token_at s at)) _ (test_judged F b I fit other n) λ f a _ (h, l, k, t, J).
        judged_map
        (applied_judged (make f) f r J l k opens λ u. subst (λ a. Stuck b (key_at s a)) (sym h) (shut (sym (ap (λ a. eqb (key_at s a) word.lparen_key) h) ∙ u)))
        λ c e (j, K). (j, word.rparen_key, refl, K)

    pub condition_judged : {i d at x : ℕ} (r : Rest) → In i d at x (rest.condition r) → conditional x ≡ true
        → JudgedReading s Condition (λ c e. LeftBehindTest d r e) (condition s rs fs ns from at)
    unfolding condition comparison
    condition_judged {i} {d} {at} {x} r I n =
        judged_pick (eqb (key_at s at) word.not_key) _ _
        (λ t. let k = eqb-true (key_at s at) word.not_key t in
        let q = token word.lparen_key (name (arguments r)) in
        let J = steady_on I word.not_key (name q) k refl (ap (λ k. take (rest.condition r) k) k) in
        let e = (token_at s at).end in
        named_test_judged fails q r J (named q (key_at s e)) (unnamed q (key_at s e)) (inl J.behind) refl
        (due word.lparen_key (name (arguments r)) (next_at s e)))
        λ t. judged_pick (eqb (next_at s at) word.lparen_key) _ _
        (λ u. named_test_judged holds (tested r) r I (λ v. rw v) (λ v. stuck_at (rest.condition r) (key_at s at) refl (rw (v, t)))
        (inr (condition_due x I.behind n, eqb-true (next_at s at) word.lparen_key u)) refl λ v. absurd (clash u v))
        λ u. judged_on (use_t rs (token_at s at)) _
        (register_judged (tested r) I (λ v. rw v) (λ v. stuck_at (rest.condition r) (key_at s at) refl (rw (v, t))) no_function (no_test u))
        λ x a _ (h, l, k, v, I₁).
        judged_on (sign_t (token_at s a)) _ (sign_judged r I₁ (ap (λ a. eqb (key_at s a) word.lparen_key) h ∙ u)) λ q b _ (y, m, I₂).
        judged_on (use_t rs (token_at s b)) _ (operand_judged r I₂ m) λ z e _ (h₂, l₂, k₂, t₂, I₃).
        fine (suc (suc (suc i)), key_at s b, name_free (key_at s b) t₂, I₃)
      where
        no_function : FunctionDue (tokens_before s i) (next_at s at) → ⊥
        no_function D = clash (sym (ap conditional (function_behind x I.behind D)) ∙ n) refl

        no_test : eqb (next_at s at) word.lparen_key ≡ false → TestDue (tokens_before s i) (next_at s at) → ⊥
        no_test u D = go (test_behind x I.behind D)
          where
            go : (x ≡ word.not_key) ⊎ ((conditional x ≡ true) × (next_at s at ≡ word.lparen_key)) → ⊥
            go (inl e) = clash (sym (ap conditional e) ∙ n) refl
            go (inr (t, e)) = eqb-false (next_at s at) word.lparen_key u e

    pub tested_judged : {i d at x : ℕ} (r : Rest) → In i d at x (rest.condition (token word.semicolon_key r)) → conditional x ≡ true
        → JudgedReading s Condition (λ c e. (j : ℕ) × In j d e word.semicolon_key r) (ended_condition s rs fs ns from at)
    unfolding ended_condition
    tested_judged r I n =
        judged_on (condition s rs fs ns from _) _ (condition_judged (token word.semicolon_key r) I n) λ c e _ (j, y, m, J).
        judged_map (ended_judged c word.semicolon_key r J refl refl (due word.semicolon_key r (key_at s e))) λ b f K. (suc j, K)

    -- ---- assignments

    -- behind a value: `;` is due
    abbrev Valued : ℕ → Rest → ℕ → Type 0
    Valued d r e = (j : ℕ) × (z : ℕ) × (q : Rest) × In j d e z q × (take q word.semicolon_key ≡ took r)
        × (eqb (key_at s e) word.semicolon_key ≡ false → Stuck q (key_at s e))

    value_judged : (x : ℕ) {i d at : ℕ} (r : Rest) → In i d at word.becomes_key (name (rest.value r))
        → JudgedReading s Assignment (λ l e. Valued d r e) (right_hand_side s rs fs ns from x at)
    unfolding right_hand_side
    value_judged x {i} {d} {at} r I =
        judged_pick (eqb (next_at s at) word.lparen_key) _ _
        (λ t. let n = eqb-true (next_at s at) word.lparen_key t in
        judged_on (use_between fs 0 from (token_at s at)) _
        (function_judged (rest.value r) I (named (rest.value r) (key_at s at)) (unnamed (rest.value r) (key_at s at)) (I.behind, n)) λ f a _ (h, l, k, u, J).
        judged_map (applied_judged (apply x f) f (token word.semicolon_key r) J l k refl λ v. absurd (clash (ap (λ a. eqb (key_at s a) word.lparen_key) h ∙ t) v))
        λ v g (j, M). (j, word.rparen_key, token word.semicolon_key r, M, refl, due word.semicolon_key r (key_at s g)))
        λ t. judged_on (use_t rs (token_at s at)) _
        (register_judged (rest.value r) I (named (rest.value r) (key_at s at)) (unnamed (rest.value r) (key_at s at))
        (λ (b, n). eqb-false (next_at s at) word.lparen_key t n) (no_test_value I.behind)) λ y e _ (h, l, k, u, J).
        fine (suc i, key_at s at, rest.value r, J, refl, λ v. stuck_at (rest.value r) (key_at s e) refl (rw (v, ap (λ p. eqb (key_at s p) word.lparen_key) h ∙ t)))

    pub assignment_judged : {i d at x : ℕ} {b : Rest} (r : Rest) → In i d at x b → free x ≡ true → is_name (key_at s at) ≡ true
        → take b (key_at s at) ≡ took (token word.becomes_key (name (rest.value r)))
        → JudgedReading s Assignment (λ l e. (j : ℕ) × In j d e word.semicolon_key r) (assignment s rs fs ns from at)
    unfolding assignment
    assignment_judged {i} {d} {at} {x} r I n t h =
        judged_on (use_t rs (token_at s at)) _
        (register_judged (token word.becomes_key (name (rest.value r))) I (λ _. h) (λ u. absurd (clash t u)) (free_function x I.behind n)
        (free_test x I.behind n)) λ x a _ (e₁, l, k, u, J).
        judged_on {P = λ v e. In (suc (suc i)) d e word.becomes_key (name (rest.value r))} (expect s word.becomes_key a) _
        (judged_pick (eqb (key_at s a) word.becomes_key) _ _
        (λ v. let p = eqb-true (key_at s a) word.becomes_key v in
        fine (steady_on J word.becomes_key (name (rest.value r)) p refl (ap (λ k. take (token word.becomes_key (name (rest.value r))) k) p)))
        λ v. unfit_judged s J.standing (due word.becomes_key (name (rest.value r)) (key_at s a) v)) λ v b _ K.
        judged_on (right_hand_side s rs fs ns from x b) _ (value_judged x r K) λ w e _ (j, z, q, L, m, o).
        judged_map (ended_judged w word.semicolon_key r L refl m o) λ c f M. (suc j, M)
