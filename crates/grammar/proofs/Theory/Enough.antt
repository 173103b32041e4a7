-- The bound on the calls is never met: reading a text never ends as `exhausted`.
use mathlib.Core.Path.{◌≡◌, refl, sym, ap, subst, ◌∙◌}
use Prim.Native.Nat.{ℕ, zero, suc, ◌+◌, ◌*◌, ◌-◌, ◌≤◌, ◌<◌}
use native.Mathlib.Omega.{arith}
use mathlib.Core.Bool.{true, false, not, ◌&&◌, ◌||◌}
use mathlib.Core.List.{List, [], ◌∷◌, ◌++◌}
use lib.Dec.{eqb, ltb, leb}
use lib.ListN.{length, get_or}
use Rattle.letters.specs.Editions.{most_registers, most_functions}
use Rattle.grammar.specs.Limits.{most_points, deepest_nesting, hidden_registers}
use borrow.Author.Tests.{eqb-true}
use Rattle.macros.specs.Points.{size_block}
use Rattle.tokens.specs.Tokens.{token_at}
use Rattle.tokens.proofs.Theory.TokensLaws.{token_advance, token_before_end}
use Rattle.tokens.specs.Words.{is_name}
use Rattle.tokens.specs.Words as word
use Rattle.grammar.specs.Tree.{Condition, apply, skip, holds, fails, Block}
use Rattle.grammar.specs.Grammar.{expanded}
use Rattle.grammar.specs.Reading.{Got, got, exhausted, and_then, index_of, use_between, use_t, sign_t, expect, ended, comparison, arguments_t, applied}
use Rattle.grammar.specs.Reading.{named_test, condition, right_hand_side, assignment, ended_condition, braces_t, else_t, statement_t, block, statement, closing}
use Rattle.grammar.specs.Reading.{listed_t, is_declared, register_names, arity_of, entries, line_from, functions_t, tests_t}
use Rattle.grammar.proofs.Theory.Reading.{read_text, read_macro}
use Rattle.grammar.proofs.Theory.Sound.{pick_case}
use Rattle.grammar.proofs.Theory.Advance.{condition_on, statement_on, braces_on}

-- an answer
abbrev pub IsAnswer : {A : Type 0} → Got A → Type 0
IsAnswer g = g ≡ exhausted → ⊥

got_answers : {A : Type 0} {a : A} {e : ℕ} → IsAnswer (got a e)
got_answers h = let z : ◌≡◌ {A = ℕ} 0 1 = cc in omega arith

refused_answers : {A : Type 0} {n p : ℕ} → IsAnswer {A = A} (Got.refused n p)
refused_answers h = let z : ◌≡◌ {A = ℕ} 0 1 = cc in omega arith

onward_answers : {A B : Type 0} (g : Got A) (f : A → ℕ → Got B) → IsAnswer g → ((a : A) (e : ℕ) → g ≡ got a e → IsAnswer (f a e)) → IsAnswer (and_then g f)
onward_answers (got a e) f h k = k a e refl
onward_answers (Got.refused n p) f h k = refused_answers
onward_answers exhausted f h k = absurd (h refl)

module _ (s : List ℕ) where
  pub expect_answers : (k at : ℕ) → IsAnswer (expect s k at)
  expect_answers k at h = pick_case (eqb (token_at s at).key k) _ _ _ h (λ _ g. got_answers g) λ _ g. refused_answers g

  ended_answers : {A : Type 0} (k : ℕ) (a : A) (at : ℕ) → IsAnswer (ended s k a at)
  ended_answers k a at = onward_answers (expect s k at) _ (expect_answers k at) λ _ _ _. got_answers

  use_answers : (rs : List ℕ) (at : ℕ) → IsAnswer (use_t rs (token_at s at))
  use_answers rs at h =
      pick_case (is_name (token_at s at).key) _ _ _ h
      (λ _ g. pick_case (is_declared (token_at s at).key rs) _ _ _ g (λ _ f. got_answers f) λ _ f. refused_answers f)
      λ _ g. refused_answers g

  sign_answers : (at : ℕ) → IsAnswer (sign_t (token_at s at))
  sign_answers at h =
      pick_case (eqb (token_at s at).key word.equal_key) _ _ _ h (λ _ g. got_answers g)
      λ _ g. pick_case (eqb (token_at s at).key word.unequal_key) _ _ _ g (λ _ f. got_answers f) λ _ f. refused_answers f

  between_answers : (l : List ℕ) (from to at : ℕ) → IsAnswer (use_between l from to (token_at s at))
  between_answers l from to at h =
      pick_case (is_name (token_at s at).key) _ _ _ h
      (λ _ g. pick_case (leb from (index_of (token_at s at).key l) && ltb (index_of (token_at s at).key l) to) _ _ _ g (λ _ f. got_answers f)
      λ _ f. refused_answers f)
      λ _ g. refused_answers g

  comparison_answers : (rs : List ℕ) (at : ℕ) → IsAnswer (comparison s rs at)
  unfolding comparison
  comparison_answers rs at =
      onward_answers (use_t rs (token_at s at)) _ (use_answers rs at) λ x a _.
      onward_answers (sign_t (token_at s a)) _ (sign_answers a) λ q b _.
      onward_answers (use_t rs (token_at s b)) _ (use_answers rs b) λ _ _ _. got_answers

  arguments_answers : {A : Type 0} (rs : List ℕ) (make : ℕ → ℕ → A) (n y at : ℕ) → IsAnswer (arguments_t s rs make n y (token_at s at))
  unfolding arguments_t
  arguments_answers rs make n y at h =
      pick_case (eqb (token_at s at).key word.comma_key) _ _ _ h
      (λ _ g. pick_case (eqb n 2) _ _ _ g
      (λ _. onward_answers (use_t rs (token_at s (token_at s at).end)) _ (use_answers rs (token_at s at).end) λ z e _. ended_answers word.rparen_key _ e)
      λ _ k. refused_answers k)
      λ _ g. pick_case (eqb (token_at s at).key word.rparen_key) _ _ _ g
      (λ _ k. pick_case (eqb n 2) _ _ _ k (λ _ f. refused_answers f) λ _ f. got_answers f)
      λ _ k. refused_answers k

  applied_answers : {A : Type 0} (rs : List ℕ) (make : ℕ → ℕ → A) (n at : ℕ) → IsAnswer (applied s rs make n at)
  unfolding applied
  applied_answers rs make n at =
      onward_answers (expect s word.lparen_key at) _ (expect_answers word.lparen_key at) λ _ b _.
      onward_answers (use_t rs (token_at s b)) _ (use_answers rs b) λ y e _. arguments_answers rs make n y e

  module _ (rs fs ns : List ℕ) (m : ℕ) where
    named_answers : (make : ℕ → ℕ → ℕ → Condition) (at : ℕ) → IsAnswer (named_test s rs fs ns m make at)
    unfolding named_test
    named_answers make at = onward_answers (use_between fs m (length fs) (token_at s at)) _ (between_answers fs m (length fs) at)
        λ f a _. applied_answers rs (make f) (get_or ns f 0) a

    pub condition_answers : (at : ℕ) → IsAnswer (condition s rs fs ns m at)
    unfolding condition
    condition_answers at h =
        pick_case (eqb (token_at s at).key word.not_key) _ _ _ h (λ _. named_answers fails (token_at s at).end)
        λ _ g. pick_case (eqb (token_at s (token_at s at).end).key word.lparen_key) _ _ _ g (λ _. named_answers holds at) λ _. comparison_answers rs at

    value_answers : (x at : ℕ) → IsAnswer (right_hand_side s rs fs ns m x at)
    unfolding right_hand_side
    value_answers x at h =
        pick_case (eqb (token_at s (token_at s at).end).key word.lparen_key) _ _ _ h
        (λ _. onward_answers (use_between fs 0 m (token_at s at)) _ (between_answers fs 0 m at) λ f a _. applied_answers rs (apply x f) (get_or ns f 0) a)
        λ _. onward_answers (use_t rs (token_at s at)) _ (use_answers rs at) λ _ _ _. got_answers

    pub assignment_answers : (at : ℕ) → IsAnswer (assignment s rs fs ns m at)
    unfolding assignment
    assignment_answers at =
        onward_answers (use_t rs (token_at s at)) _ (use_answers rs at) λ x a _.
        onward_answers (expect s word.becomes_key a) _ (expect_answers word.becomes_key a) λ _ b _.
        onward_answers (right_hand_side s rs fs ns m x b) _ (value_answers x b) λ l e _. ended_answers word.semicolon_key l e

    pub tested_answers : (at : ℕ) → IsAnswer (ended_condition s rs fs ns m at)
    unfolding ended_condition
    tested_answers at = onward_answers (condition s rs fs ns m at) _ (condition_answers at) λ c e _. ended_answers word.semicolon_key c e

    -- inner answers at every place behind `low`
    module _ (inner : ℕ → ℕ → Got Block) (low : ℕ) (enough : (d at : ℕ) → low < at → IsAnswer (inner d at))
        (on : (d at : ℕ) (b : Block) (e : ℕ) → braces_t s rs fs ns m inner d (token_at s at) ≡ got b e → at < e) where
      braces_answers : (d at : ℕ) → low ≤ at → IsAnswer (braces_t s rs fs ns m inner d (token_at s at))
      braces_answers zero at l h = pick_case (eqb (token_at s at).key word.lbrace_key) _ _ _ h (λ _ g. refused_answers g) λ _ g. refused_answers g
      braces_answers (suc d) at l h =
          pick_case (eqb (token_at s at).key word.lbrace_key) _ _ _ h
          (λ t. let k = eqb-true (token_at s at).key word.lbrace_key t in let a = token_advance s at (omega arith) in
          onward_answers (inner d (token_at s at).end) _ (enough d (token_at s at).end (omega arith)) λ b e _. ended_answers word.rbrace_key b e)
          λ _ g. refused_answers g

      else_answers : (d at : ℕ) → low ≤ at → IsAnswer (else_t s rs fs ns m inner d at (token_at s at))
      else_answers d at l h =
          pick_case (eqb (token_at s at).key word.else_key) _ _ _ h
          (λ t. let k = eqb-true (token_at s at).key word.else_key t in let a = token_advance s at (omega arith) in
          onward_answers (braces_t s rs fs ns m inner d (token_at s (token_at s at).end)) _ (braces_answers d (token_at s at).end (omega arith))
          λ _ _ _. got_answers)
          λ _ g. got_answers g

      statement_answers_by : (d at : ℕ) → low ≡ at → IsAnswer (statement_t s rs fs ns m inner d at (token_at s at))
      statement_answers_by d at l h =
          pick_case (eqb (token_at s at).key word.skip_key) _ _ _ h (λ _. ended_answers word.semicolon_key skip (token_at s at).end)
          λ _ h. pick_case (eqb (token_at s at).key word.assume_key) _ _ _ h
          (λ _. onward_answers (ended_condition s rs fs ns m (token_at s at).end) _ (tested_answers (token_at s at).end) λ _ _ _. got_answers)
          λ _ h. pick_case (eqb (token_at s at).key word.assert_key) _ _ _ h
          (λ _. onward_answers (ended_condition s rs fs ns m (token_at s at).end) _ (tested_answers (token_at s at).end) λ _ _ _. got_answers)
          λ _ h. pick_case (eqb (token_at s at).key word.if_key) _ _ _ h
          (λ t. let k = eqb-true (token_at s at).key word.if_key t in let z = token_advance s at (omega arith) in
          onward_answers (condition s rs fs ns m (token_at s at).end) _ (condition_answers (token_at s at).end) λ c a g. let y =
          condition_on s rs fs ns m (token_at s at).end c a g in
          onward_answers (braces_t s rs fs ns m inner d (token_at s a)) _ (braces_answers d a (omega arith)) λ b e w. let x = on d a b e w in
          onward_answers (else_t s rs fs ns m inner d e (token_at s e)) _ (else_answers d e (omega arith)) λ _ _ _. got_answers)
          λ _ h. pick_case (eqb (token_at s at).key word.while_key) _ _ _ h
          (λ t. let k = eqb-true (token_at s at).key word.while_key t in let z = token_advance s at (omega arith) in
          onward_answers (condition s rs fs ns m (token_at s at).end) _ (condition_answers (token_at s at).end) λ c a g. let y =
          condition_on s rs fs ns m (token_at s at).end c a g in
          onward_answers (braces_t s rs fs ns m inner d (token_at s a)) _ (braces_answers d a (omega arith)) λ _ _ _. got_answers)
          λ _ h. pick_case (is_name (token_at s at).key) _ _ _ h
          (λ _. onward_answers (assignment s rs fs ns m at) _ (assignment_answers at) λ _ _ _. got_answers)
          λ _ g. refused_answers g

    open_here : (at : ℕ) → closing s rs fs ns m (token_at s at).key ≡ false → at < length s
    open_here at t = token_before_end s at
        λ e. let z : true ≡ false = sym (ap (λ k. closing s rs fs ns m k) e) ∙ t in let y : ◌≡◌ {A = ℕ} 0 1 = cc in omega arith

    mutual
      unfolding block

      pub block_answers : (k d at : ℕ) → 2 * (length s - at) ≤ k → IsAnswer (block s rs fs ns m (suc k) d at)
      block_answers zero d at l h = pick_case (closing s rs fs ns m (token_at s at).key) _ _ _ h (λ _ g. got_answers g) λ t g. let y = open_here at t in
          omega arith
      block_answers (suc k) d at l h =
          pick_case (closing s rs fs ns m (token_at s at).key) _ _ _ h (λ _ g. got_answers g)
          λ t. let y = open_here at t in
          onward_answers (statement s rs fs ns m (suc k) d at) _ (λ h. statement_answers k d at y l h) λ c a g. let x =
          statement_on s rs fs ns m (suc k) d at c a g in
          onward_answers (block s rs fs ns m (suc k) d a) _ (λ h. block_answers k d a (omega arith) h) λ _ _ _. got_answers

      statement_answers : (k d at : ℕ) → at < length s → 2 * (length s - at) ≤ suc k → IsAnswer (statement s rs fs ns m (suc k) d at)
      statement_answers zero d at y l h = absurd (omega arith)
      statement_answers (suc k) d at y l h =
          statement_answers_by (λ d at. block s rs fs ns m (suc k) d at) at (λ d a h g. block_answers k d a (omega arith) g)
          (λ d a b e g. (braces_on s rs fs ns m (suc k) d a b e g).0) d at refl h

  listed_answers : {A : Type 0} (n : ℕ) (a : A) (at : ℕ) → IsAnswer (listed_t s n a (token_at s at))
  listed_answers n a at h = pick_case (eqb (token_at s at).key word.semicolon_key && not (eqb n 0)) _ _ _ h (λ _ g. got_answers g) λ _ g. refused_answers g

  registers_answers : (room : ℕ) (rs : List ℕ) (at : ℕ) → IsAnswer (register_names s room rs at)
  unfolding register_names
  registers_answers zero rs at h = pick_case (is_name (token_at s at).key) _ _ _ h (λ _ g. refused_answers g) λ _. listed_answers (length rs) rs at
  registers_answers (suc room) rs at h =
      pick_case (is_name (token_at s at).key) _ _ _ h
      (λ _ g. pick_case (is_declared (token_at s at).key rs) _ _ _ g (λ _ f. refused_answers f) λ _. registers_answers room (rs ++ (token_at s at).key ∷ [])
      (token_at s at).end)
      λ _. listed_answers (length rs) rs at

  arity_answers : (at : ℕ) → IsAnswer (arity_of s at)
  unfolding arity_of
  arity_answers at =
      onward_answers (expect s word.slash_key at) _ (expect_answers word.slash_key at) λ _ a _ h.
      pick_case (eqb (token_at s a).key word.one_key) _ _ _ h (λ _ g. got_answers g)
      λ _ g. pick_case (eqb (token_at s a).key word.two_key) _ _ _ g (λ _ f. got_answers f) λ _ f. refused_answers f

  entries_answers : (rs : List ℕ) (first room : ℕ) (fs ns : List ℕ) (at : ℕ) → IsAnswer (entries s rs first room fs ns at)
  unfolding entries
  entries_answers rs first zero fs ns at h =
      pick_case (is_name (token_at s at).key) _ _ _ h (λ _ g. refused_answers g) λ _. listed_answers (length fs - first) (fs, ns) at
  entries_answers rs first (suc room) fs ns at h =
      pick_case (is_name (token_at s at).key) _ _ _ h
      (λ _ g. pick_case (is_declared (token_at s at).key rs || is_declared (token_at s at).key fs) _ _ _ g (λ _ f. refused_answers f)
      λ _. onward_answers (arity_of s (token_at s at).end) _ (arity_answers (token_at s at).end) λ n e _. entries_answers rs first room
      (fs ++ (token_at s at).key ∷ []) (ns ++ n ∷ []) e)
      λ _. listed_answers (length fs - first) (fs, ns) at

  line_answers : (rs fs ns : List ℕ) (at : ℕ) → IsAnswer (line_from s rs fs ns at)
  line_answers rs fs ns at = entries_answers rs (length fs) (most_functions - length fs) fs ns at

  functions_answers : (rs : List ℕ) (at : ℕ) → IsAnswer (functions_t s rs at (token_at s at))
  functions_answers rs at h = pick_case (eqb (token_at s at).key word.funs_key) _ _ _ h (λ _. line_answers rs [] [] (token_at s at).end) λ _ g. got_answers g

  tests_answers : (rs fs ns : List ℕ) (at : ℕ) → IsAnswer (tests_t s rs fs ns at (token_at s at))
  tests_answers rs fs ns at h =
      pick_case (eqb (token_at s at).key word.tests_key) _ _ _ h
      (λ _ g. pick_case (ltb most_registers (length rs + hidden_registers)) _ _ _ g (λ _ f. refused_answers f) λ _. line_answers rs fs ns (token_at s at).end)
      λ _ g. got_answers g

  text_answers : IsAnswer (read_text s)
  unfolding read_text
  text_answers h =
      pick_case (ltb 4096 (length s)) _ _ _ h (λ _ g. refused_answers g)
      λ _. onward_answers (expect s word.vars_key 0) _ (expect_answers word.vars_key 0) λ _ a _.
      onward_answers (register_names s most_registers [] a) _ (registers_answers most_registers [] a) λ rs b _.
      onward_answers (functions_t s rs b (token_at s b)) _ (functions_answers rs b) λ r c _.
      onward_answers (tests_t s rs r.0 r.1 c (token_at s c)) _ (tests_answers rs r.0 r.1 c) λ t d _.
      onward_answers (block s rs t.0 t.1 (length r.0) (2 * length s + 1) deepest_nesting d) _
      (subst (λ n. IsAnswer (block s rs t.0 t.1 (length r.0) n deepest_nesting d)) (more_one (2 * length s))
      (block_answers rs t.0 t.1 (length r.0) (2 * length s) deepest_nesting d (omega arith))) λ body e _ g.
      pick_case (eqb (token_at s e).key 0) _ _ _ g (λ _ f. got_answers f) λ _ f. refused_answers f
    where
      more_one : (n : ℕ) → suc n ≡ n + 1
      more_one n = omega arith

  -- Every text has an answer.
  pub read_answers : read_macro s ≡ exhausted → ⊥
  unfolding read_macro
  read_answers = onward_answers (read_text s) _ text_answers λ m e _ h. pick_case (ltb most_points (size_block (expanded m))) _ _ _ h (λ _ g. refused_answers g)
      λ _ g. got_answers g
