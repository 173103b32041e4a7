-- Reading goes on: the place behind what was read. This holds for every number of the first test, in order or not.
use mathlib.Core.Path.{◌≡◌, sym, subst}
use Prim.Native.Nat.{ℕ, zero, suc, ◌-◌, ◌≤◌, ◌<◌}
use native.Mathlib.Omega.{arith}
use mathlib.Core.Bool.{true, ◌&&◌}
use mathlib.Core.List.{List, ◌∷◌}
use lib.Dec.{eqb, ltb, leb}
use lib.ListN.{length}
use borrow.Author.Tests.{eqb-true}
use Rattle.tokens.specs.Tokens.{token_at}
use Rattle.tokens.specs.Words.{is_name}
use Rattle.tokens.specs.Words as word
use Rattle.tokens.proofs.Theory.TokensLaws.{token_advance}
use Rattle.tokens.proofs.Theory.WordsLaws.{name_real}
use Rattle.grammar.specs.Tree.{Condition, equal, unequal, holds, fails, Assignment, apply, Statement, skip, Else, Block}
use Rattle.grammar.specs.Grammar.{condition_tokens}
use Rattle.grammar.specs.Reading.{Got, got, expect, index_of, use_between, use_t, condition, ended_condition, right_hand_side, assignment, braces_t, else_t}
use Rattle.grammar.specs.Reading.{statement_t, statement, block, closing}
use Rattle.grammar.specs.Spelled.{Spells}
use Rattle.grammar.proofs.Theory.Sound.{onward_got, pick_case, not_refused, not_exhausted, got_place, expect_sound, ended_sound, use_sound}
use Rattle.grammar.proofs.Theory.Sound.{applied_sound, condition_sound, tested_sound}

module _ (s : List ℕ) where
  pub spells_mono : {at e : ℕ} {ks : List ℕ} → Spells s at ks e → at ≤ e
  spells_mono Spells.none = omega arith
  spells_mono (Spells.more {at} h l p) = let a = token_advance s at (subst (λ n. 2 ≤ n) (sym h) l) in omega (arith, spells_mono p)

  spells_within : {at k e : ℕ} {ks : List ℕ} → Spells s at (k ∷ ks) e → (at < e) × (at < length s)
  spells_within (Spells.more {at} h l p) = let a = token_advance s at (subst (λ n. 2 ≤ n) (sym h) l) in (omega (arith, spells_mono p), omega arith)

  -- there are no more tokens than bytes
  pub spells_bounded : {at e : ℕ} {ks : List ℕ} → Spells s at ks e → length ks ≤ length s - at
  spells_bounded Spells.none = omega arith
  spells_bounded (Spells.more {at} h l p) = let a = token_advance s at (subst (λ n. 2 ≤ n) (sym h) l) in omega (arith, spells_bounded p)

  -- one token that was looked for
  token_on : (k at : ℕ) → 2 ≤ k → eqb (token_at s at).key k ≡ true → (at < (token_at s at).end) × (at < length s)
  token_on k at l t = let a = token_advance s at (subst (λ n. 2 ≤ n) (sym (eqb-true (token_at s at).key k t)) l) in (omega arith, omega arith)

  between_on : (l : List ℕ) (from to at i e : ℕ) → use_between l from to (token_at s at) ≡ got i e → at ≤ e
  between_on l from to at i e h =
      pick_case (is_name (token_at s at).key) _ _ _ h
      (λ n f. pick_case (leb from (index_of (token_at s at).key l) && ltb (index_of (token_at s at).key l) to) _ _ _ f
      (λ _ g. let a = token_advance s at (name_real (token_at s at).key n) in let q : (token_at s at).end ≡ e = got_place g in omega arith)
      λ _ g. absurd (not_refused g))
      λ _ f. absurd (not_refused f)

  module _ (rs fs ns : List ℕ) (m : ℕ) where
    pub condition_on : (at : ℕ) (c : Condition) (e : ℕ) → condition s rs fs ns m at ≡ got c e → (at < e) × (at < length s)
    condition_on at c e h = go c (condition_sound s rs fs ns m at c e h).1
      where
        go : (c : Condition) → Spells s at (condition_tokens rs fs ns c) e → (at < e) × (at < length s)
        go (equal x y) p = spells_within p
        go (unequal x y) p = spells_within p
        go (holds f y z) p = spells_within p
        go (fails f y z) p = spells_within p

    value_on : (x at : ℕ) (l : Assignment) (e : ℕ) → right_hand_side s rs fs ns m x at ≡ got l e → at ≤ e
    unfolding right_hand_side
    value_on x at l e h =
        pick_case (eqb (token_at s (token_at s at).end).key word.lparen_key) _ _ _ h
        (λ _ g.
        let (f, a, g₁, h₁) = onward_got (use_between fs 0 m (token_at s at)) _ l e g in
        let (y, z, q, hy, hz, same, p) = applied_sound s rs fs ns m (apply x f) f a l e h₁ in
        let i = between_on fs 0 m at f a g₁ in let j = spells_mono p in omega arith)
        λ _ g.
        let (y, b, g₁, h₁) = onward_got (use_t rs (token_at s at)) _ l e g in
        let i = spells_mono (use_sound s rs at y b g₁).1 in let q : b ≡ e = got_place h₁ in omega arith

    assignment_on : (at : ℕ) (l : Assignment) (e : ℕ) → assignment s rs fs ns m at ≡ got l e → (at < e) × (at < length s)
    unfolding assignment
    assignment_on at l e h =
        let (x, a, g₁, h₁) = onward_got (use_t rs (token_at s at)) _ l e h in
        let (u, b, g₂, h₂) = onward_got (expect s word.becomes_key a) _ l e h₁ in
        let (v, c, g₃, h₃) = onward_got (right_hand_side s rs fs ns m x b) _ l e h₂ in
        let (i, n) = spells_within (use_sound s rs at x a g₁).1 in
        let j = spells_mono (expect_sound s word.becomes_key a b u (omega arith) g₂) in
        let k = value_on x b v c g₃ in
        let o = spells_mono (ended_sound s word.semicolon_key c e v l (omega arith) h₃).1 in
        (omega arith, n)

    tested_on : (at : ℕ) (c : Condition) (e : ℕ) → ended_condition s rs fs ns m at ≡ got c e → at ≤ e
    tested_on at c e h = spells_mono (tested_sound s rs fs ns m at c e h).1

    -- inner reads blocks, and goes on
    module _ (inner : ℕ → ℕ → Got Block) (on : (d at : ℕ) (b : Block) (e : ℕ) → inner d at ≡ got b e → at ≤ e) where
      braces_on_by : (d at : ℕ) (b : Block) (e : ℕ) → braces_t s rs fs ns m inner d (token_at s at) ≡ got b e → (at < e) × (at < length s)
      braces_on_by zero at b e h = pick_case (eqb (token_at s at).key word.lbrace_key) _ _ _ h (λ _ g. absurd (not_refused g)) λ _ g. absurd (not_refused g)
      braces_on_by (suc d) at b e h =
          pick_case (eqb (token_at s at).key word.lbrace_key) _ _ _ h
          (λ t g.
          let (c, a, g₁, h₁) = onward_got (inner d (token_at s at).end) _ b e g in
          let (i, n) = token_on word.lbrace_key at (omega arith) t in
          let j = on d (token_at s at).end c a g₁ in
          let k = spells_mono (ended_sound s word.rbrace_key a e c b (omega arith) h₁).1 in
          (omega arith, n))
          λ _ g. absurd (not_refused g)

      else_on : (d at : ℕ) (o : Else) (e : ℕ) → else_t s rs fs ns m inner d at (token_at s at) ≡ got o e → at ≤ e
      else_on d at o e h =
          pick_case (eqb (token_at s at).key word.else_key) _ _ _ h
          (λ t g.
          let (b, a, g₁, h₁) = onward_got (braces_t s rs fs ns m inner d (token_at s (token_at s at).end)) _ o e g in
          let (i, _) = token_on word.else_key at (omega arith) t in
          let (j, _) = braces_on_by d (token_at s at).end b a g₁ in
          let q : a ≡ e = got_place h₁ in omega arith)
          λ _ g. let q : at ≡ e = got_place g in omega arith

      statement_on_by : (d at : ℕ) (r : Statement) (e : ℕ) → statement_t s rs fs ns m inner d at (token_at s at) ≡ got r e → (at < e) × (at < length s)
      statement_on_by d at r e h =
          pick_case (eqb (token_at s at).key word.skip_key) _ _ _ h
          (λ t g.
          let (i, n) = token_on word.skip_key at (omega arith) t in
          let j = spells_mono (ended_sound s word.semicolon_key (token_at s at).end e skip r (omega arith) g).1 in (omega arith, n))
          λ _ h. pick_case (eqb (token_at s at).key word.assume_key) _ _ _ h
          (λ t g.
          let (c, a, g₁, h₁) = onward_got (ended_condition s rs fs ns m (token_at s at).end) _ r e g in
          let (i, n) = token_on word.assume_key at (omega arith) t in
          let j = tested_on (token_at s at).end c a g₁ in
          let q : a ≡ e = got_place h₁ in (omega arith, n))
          λ _ h. pick_case (eqb (token_at s at).key word.assert_key) _ _ _ h
          (λ t g.
          let (c, a, g₁, h₁) = onward_got (ended_condition s rs fs ns m (token_at s at).end) _ r e g in
          let (i, n) = token_on word.assert_key at (omega arith) t in
          let j = tested_on (token_at s at).end c a g₁ in
          let q : a ≡ e = got_place h₁ in (omega arith, n))
          λ _ h. pick_case (eqb (token_at s at).key word.if_key) _ _ _ h
          (λ t g.
          let (c, a, g₁, h₁) = onward_got (condition s rs fs ns m (token_at s at).end) _ r e g in
          let (b, f, g₂, h₂) = onward_got (braces_t s rs fs ns m inner d (token_at s a)) _ r e h₁ in
          let (o, u, g₃, h₃) = onward_got (else_t s rs fs ns m inner d f (token_at s f)) _ r e h₂ in
          let (i, n) = token_on word.if_key at (omega arith) t in
          let (j, _) = condition_on (token_at s at).end c a g₁ in
          let (k, _) = braces_on_by d a b f g₂ in
          let l = else_on d f o u g₃ in
          let q : u ≡ e = got_place h₃ in (omega arith, n))
          λ _ h. pick_case (eqb (token_at s at).key word.while_key) _ _ _ h
          (λ t g.
          let (c, a, g₁, h₁) = onward_got (condition s rs fs ns m (token_at s at).end) _ r e g in
          let (b, f, g₂, h₂) = onward_got (braces_t s rs fs ns m inner d (token_at s a)) _ r e h₁ in
          let (i, n) = token_on word.while_key at (omega arith) t in
          let (j, _) = condition_on (token_at s at).end c a g₁ in
          let (k, _) = braces_on_by d a b f g₂ in
          let q : f ≡ e = got_place h₂ in (omega arith, n))
          λ _ h. pick_case (is_name (token_at s at).key) _ _ _ h
          (λ _ g.
          let (l, a, g₁, h₁) = onward_got (assignment s rs fs ns m at) _ r e g in
          let (i, n) = assignment_on at l a g₁ in
          let q : a ≡ e = got_place h₁ in (omega arith, n))
          λ _ g. absurd (not_refused g)

    mutual
      unfolding block

      pub block_on : (k d at : ℕ) (b : Block) (e : ℕ) → block s rs fs ns m k d at ≡ got b e → at ≤ e
      block_on zero d at b e h = absurd (not_exhausted h)
      block_on (suc k) d at b e h =
          pick_case (closing s rs fs ns m (token_at s at).key) _ _ _ h (λ _ g. let q : at ≡ e = got_place g in omega arith)
          λ _ g.
          let (c, a, g₁, h₁) = onward_got (statement s rs fs ns m k d at) _ b e g in
          let (x, f, g₂, h₂) = onward_got (block s rs fs ns m k d a) _ b e h₁ in
          let i = statement_on k d at c a g₁ in
          let j = block_on k d a x f g₂ in
          let q : f ≡ e = got_place h₂ in omega arith

      pub statement_on : (k d at : ℕ) (r : Statement) (e : ℕ) → statement s rs fs ns m k d at ≡ got r e → (at < e) × (at < length s)
      statement_on zero d at r e h = absurd (not_exhausted h)
      statement_on (suc k) d at r e h = statement_on_by (λ d at. block s rs fs ns m k d at) (λ d at b e g. block_on k d at b e g) d at r e h

    pub braces_on : (k d at : ℕ) (b : Block) (e : ℕ) → braces_t s rs fs ns m (λ c a. block s rs fs ns m k c a) d (token_at s at) ≡ got b e
        → (at < e) × (at < length s)
    braces_on k d at b e h = braces_on_by (λ c a. block s rs fs ns m k c a) (λ d at b e g. block_on k d at b e g) d at b e h
