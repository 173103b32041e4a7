-- What is read is what the text spells: a reader that accepts has read a sentence of the grammar, in order.
use mathlib.Core.Path.{◌≡◌, refl, sym, ap, subst, ◌∙◌}
use Prim.Native.Nat.{ℕ, zero, suc, ◌≤◌, ◌<◌}
use native.Mathlib.Omega.{arith}
use mathlib.Core.Bool.{Bool, true, false, ◌&&◌}
use mathlib.Core.List.{List, [], ◌∷◌, ◌++◌, append_assoc}
use lib.Dec.{eqb, ltb, leb}
use lib.ListN.{length, get_or}
use borrow.Author.Tests.{eqb-true, ltb-true, leb-true}
use Rattle.base.specs.Choice.{pick}
use Rattle.base.proofs.Theory.Choice.{by_test}
use Rattle.letters.specs.Letters.{arity, Fits}
use Rattle.letters.specs.declared.Letter.TheVariants.{Apply}
use Rattle.letters.proofs.Theory.WordLaws.{and_true}
use Rattle.tokens.specs.Tokens.{token_at}
use Rattle.tokens.specs.Words.{is_name}
use Rattle.tokens.specs.Words as word
use Rattle.tokens.proofs.Theory.WordsLaws.{name_real}
use Rattle.grammar.specs.Tree.{Condition, holds, fails, Assignment, apply, Statement, skip, Else, Block, ProperAssignment}
use Rattle.grammar.specs.Tree.{ProperCondition, Proper, ProperElse, ProperBlock}
use Rattle.grammar.specs.Grammar.{header, argument_tokens, application_tokens, condition_tokens, assignment_tokens, statement_tokens, else_tokens, block_tokens}
use Rattle.grammar.specs.Grammar.{OneDeeper, Nests, NestsElse, NestsBlock}
use Rattle.grammar.proofs.Theory.HeaderLaws.{arity_two}
use Rattle.grammar.specs.Reading.{Got, got, exhausted, and_then, index_of, use_between, use_t, sign_t, compared, expect, ended, comparison, arguments_t}
use Rattle.grammar.specs.Reading.{applied, named_test, condition, right_hand_side, is_declared, assignment, ended_condition, braces_t, else_t, statement_t, block}
use Rattle.grammar.specs.Reading.{statement, closing}
use Rattle.grammar.specs.Spelled.{Spells, Arities}

-- ---- inversions

pub onward_got : {A B : Type 0} (g : Got A) (f : A → ℕ → Got B) (b : B) (e : ℕ) → and_then g f ≡ got b e → (a : A) × (m : ℕ) × (g ≡ got a m) × (f a m ≡ got b e)
onward_got (got a m) f b e h = (a, m, refl, h)
onward_got (Got.refused n p) f b e h = let z : ◌≡◌ {A = ℕ} 0 1 = cc in absurd (omega arith)
onward_got exhausted f b e h = let z : ◌≡◌ {A = ℕ} 0 1 = cc in absurd (omega arith)

-- the two cases of a choice that came out as r
pub pick_case : {A B : Type 0} (c : Bool) (x y : Unit {0} → A) (r : A) → pick c x y ≡ r → (c ≡ true → x tt ≡ r → B) → (c ≡ false → y tt ≡ r → B) → B
pick_case true x y r h f g = f refl h
pick_case false x y r h f g = g refl h

pub not_refused : {A : Type 0} {n p e : ℕ} {a : A} → Got.refused n p ≡ got a e → ⊥
not_refused h = let z : ◌≡◌ {A = ℕ} 0 1 = cc in omega arith

pub not_exhausted : {A : Type 0} {e : ℕ} {a : A} → exhausted ≡ got a e → ⊥
not_exhausted h = let z : ◌≡◌ {A = ℕ} 0 1 = cc in omega arith

pub got_value : {A : Type 0} {a b : A} {m e : ℕ} → got a m ≡ got b e → a ≡ b
got_value h = cc

pub got_place : {A : Type 0} {a b : A} {m e : ℕ} → got a m ≡ got b e → m ≡ e
got_place h = cc

pub index_at : (k : ℕ) (l : List ℕ) → index_of k l < length l → k ≡ get_or l (index_of k l) 0
unfolding index_of
index_at k [] h = absurd (omega arith)
index_at k (x ∷ l) h = by_test (eqb k x) (λ t. rw t (eqb-true k x t))
    (λ t. rw t (index_at k l (let g : suc (index_of k l) < suc (length l) = rw t at h in omega arith)))

-- ---- one token

module _ (s : List ℕ) where
  -- the tokens of two parts, one behind the other
  pub spells_then : {at m e : ℕ} {ks ls : List ℕ} → Spells s at ks m → Spells s m ls e → Spells s at (ks ++ ls) e
  spells_then Spells.none q = q
  spells_then (Spells.more h l p) q = Spells.more h l (spells_then p q)

  -- a token that was read, up to the place behind it
  pub spells_one : (at k e : ℕ) → (token_at s at).key ≡ k → 2 ≤ k → (token_at s at).end ≡ e → Spells s at (k ∷ []) e
  spells_one at k e h l g = Spells.more h l (subst (λ m. Spells s (token_at s at).end [] m) g Spells.none)

  pub expect_sound : (k at e : ℕ) (u : Unit {0}) → 2 ≤ k → expect s k at ≡ got u e → Spells s at (k ∷ []) e
  expect_sound k at e u r h =
      pick_case (eqb (token_at s at).key k) _ _ _ h
      (λ t g. spells_one at k e (eqb-true _ k t) r (got_place g))
      λ t g. absurd (not_refused g)

  pub ended_sound : {A : Type 0} (k at e : ℕ) (a b : A) → 2 ≤ k → ended s k a at ≡ got b e → (a ≡ b) × Spells s at (k ∷ []) e
  ended_sound k at e a b r h = let (u, m, g, f) = onward_got (expect s k at) (λ _ e. got a e) b e h in
      (got_value f, expect_sound k at e u r (g ∙ ap (got u) (got_place f)))

  pub use_sound : (rs : List ℕ) (at i e : ℕ) → use_t rs (token_at s at) ≡ got i e → (i < length rs) × Spells s at (get_or rs i 0 ∷ []) e
  use_sound rs at i e h =
      let k = (token_at s at).key in
      pick_case (is_name (token_at s at).key) _ _ _ h
      (λ n f. pick_case (is_declared (token_at s at).key rs) _ _ _ f
      (λ t g.
      let l : index_of (token_at s at).key rs < length rs = ltb-true (index_of (token_at s at).key rs) (length rs) t in
      let j : index_of (token_at s at).key rs ≡ i = got_value g in
      let q : (token_at s at).key ≡ get_or rs i 0 = index_at (token_at s at).key rs l ∙ ap (λ n. get_or rs n 0) j in
      (subst (λ n. n < length rs) j l, spells_one at (get_or rs i 0) e q (subst (λ n. 2 ≤ n) q (name_real (token_at s at).key n)) (got_place g)))
      λ t g. absurd (not_refused g))
      λ n f. absurd (not_refused f)

  pub between_sound : (l : List ℕ) (from to at i e : ℕ) → to ≤ length l → use_between l from to (token_at s at) ≡ got i e
      → (from ≤ i) × (i < to) × Spells s at (get_or l i 0 ∷ []) e
  between_sound l from to at i e w h =
      pick_case (is_name (token_at s at).key) _ _ _ h
      (λ n f. pick_case (leb from (index_of (token_at s at).key l) && ltb (index_of (token_at s at).key l) to) _ _ _ f
      (λ t g.
      let (u, v) = and_true (leb from (index_of (token_at s at).key l)) (ltb (index_of (token_at s at).key l) to) t in
      let x : from ≤ index_of (token_at s at).key l = leb-true from (index_of (token_at s at).key l) u in
      let y : index_of (token_at s at).key l < to = ltb-true (index_of (token_at s at).key l) to v in
      let j : index_of (token_at s at).key l ≡ i = got_value g in
      let q : (token_at s at).key ≡ get_or l i 0 = index_at (token_at s at).key l (omega arith) ∙ ap (λ n. get_or l n 0) j in (
        subst (λ n. from ≤ n) j x,
        subst (λ n. n < to) j y,
        spells_one at (get_or l i 0) e q (subst (λ n. 2 ≤ n) q (name_real (token_at s at).key n)) (got_place g),
      ))
      λ t g. absurd (not_refused g))
      λ n f. absurd (not_refused f)

  -- ---- conditions

  -- the token of a sign
  abbrev sign_token : Bool → ℕ
  sign_token true = word.equal_key
  sign_token false = word.unequal_key

  sign_real : (q : Bool) → 2 ≤ sign_token q
  sign_real true = omega arith
  sign_real false = omega arith

  sign_sound : (at : ℕ) (q : Bool) (e : ℕ) → sign_t (token_at s at) ≡ got q e → Spells s at (sign_token q ∷ []) e
  sign_sound at q e h =
      pick_case (eqb (token_at s at).key word.equal_key) _ _ _ h
      (λ t g. spells_one at (sign_token q) e (eqb-true _ word.equal_key t ∙ ap sign_token (got_value g)) (sign_real q) (got_place g))
      λ t g. pick_case (eqb (token_at s at).key word.unequal_key) _ _ _ g
      (λ u f. spells_one at (sign_token q) e (eqb-true _ word.unequal_key u ∙ ap sign_token (got_value f)) (sign_real q) (got_place f))
      λ u f. absurd (not_refused f)

  module _ (rs fs ns : List ℕ) (m : ℕ) where
    -- what a reader behind `f(y` has to show: it makes r of y and a second argument
    abbrev Argued : {A : Type 0} → (ℕ → ℕ → A) → ℕ → ℕ → ℕ → A → ℕ → Type 0
    Argued make f y at r e = (z : ℕ) × (make y z ≡ r) × (z < length rs) × (arity (header rs fs ns) f ≡ 1 → y ≡ z)
        × Spells s at (argument_tokens rs fs ns f z) e

    arguments_sound : {A : Type 0} (make : ℕ → ℕ → A) (f y at : ℕ) (r : A) (e : ℕ) → y < length rs
        → arguments_t s rs make (get_or ns f 0) y (token_at s at) ≡ got r e → Argued make f y at r e
    unfolding arguments_t
    arguments_sound make f y at r e hy h =
        pick_case (eqb (token_at s at).key word.comma_key) _ _ _ h
        (λ t g. pick_case (eqb (get_or ns f 0) 2) _ _ _ g
        (λ u k.
        let (z, a, g₁, h₁) = onward_got (use_t rs (token_at s (token_at s at).end)) _ r e k in
        let (l₁, p₁) = use_sound rs (token_at s at).end z a g₁ in
        let (q, p₂) = ended_sound word.rparen_key a e (make y z) r (omega arith) h₁ in
        let p : Spells s at (word.comma_key ∷ get_or rs z 0 ∷ word.rparen_key ∷ []) e =
        Spells.more (eqb-true _ word.comma_key t) (omega arith) (spells_then p₁ p₂) in
        (z, q, l₁, (λ w. absurd (let v = arity_two rs fs ns f u in omega arith)), rw u p))
        λ u k. absurd (not_refused k))
        λ t g. pick_case (eqb (token_at s at).key word.rparen_key) _ _ _ g
        (λ v k. pick_case (eqb (get_or ns f 0) 2) _ _ _ k (λ u o. absurd (not_refused o))
        λ u o. let p : Spells s at (word.rparen_key ∷ []) e = spells_one at word.rparen_key e (eqb-true _ word.rparen_key v) (omega arith) (got_place o) in
        (y, got_value o, hy, (λ w. refl), rw u p))
        λ v k. absurd (not_refused k)

    -- what a reader behind `f` has to show: it makes r of two arguments
    abbrev pub Applies : {A : Type 0} → (ℕ → ℕ → A) → ℕ → ℕ → A → ℕ → Type 0
    Applies make f at r e = (y : ℕ) × (z : ℕ) × (make y z ≡ r) × (y < length rs) × (z < length rs) × (arity (header rs fs ns) f ≡ 1 → y ≡ z)
        × Spells s at (word.lparen_key ∷ get_or rs y 0 ∷ argument_tokens rs fs ns f z) e

    pub applied_sound : {A : Type 0} (make : ℕ → ℕ → A) (f at : ℕ) (r : A) (e : ℕ) → applied s rs make (get_or ns f 0) at ≡ got r e → Applies make f at r e
    unfolding applied
    applied_sound make f at r e h =
        let (u, b, g₁, h₁) = onward_got (expect s word.lparen_key at) _ r e h in
        let (y, c, g₂, h₂) = onward_got (use_t rs (token_at s b)) _ r e h₁ in
        let p₁ = expect_sound word.lparen_key at b u (omega arith) g₁ in
        let (l, p₂) = use_sound rs b y c g₂ in
        let (z, q, k, same, p₃) = arguments_sound make f y c r e l h₂ in
        (y, z, q, l, k, same, spells_then p₁ (spells_then p₂ p₃))

    -- what a reader of named tests has to show: it makes c of one and its arguments
    abbrev Tests : (ℕ → ℕ → ℕ → Condition) → ℕ → Condition → ℕ → Type 0
    Tests make at c e = (f : ℕ) × (y : ℕ) × (z : ℕ) × (make f y z ≡ c) × Fits (header rs fs ns) (Apply y f y z) × (m ≤ f)
        × Spells s at (application_tokens rs fs ns f y z) e

    named_sound : (make : ℕ → ℕ → ℕ → Condition) (at : ℕ) (c : Condition) (e : ℕ) → named_test s rs fs ns m make at ≡ got c e → Tests make at c e
    unfolding named_test
    named_sound make at c e h =
        let (f, a, g, k) = onward_got (use_between fs m (length fs) (token_at s at)) _ c e h in
        let (t, l, p) = between_sound fs m (length fs) at f a (omega arith) g in
        let (y, z, q, ly, lz, same, o) = applied_sound (make f) f a c e k in
        (f, y, z, q, (ly, l, ly, lz, same), t, spells_then p o)

    -- what a reader of conditions has to show
    abbrev pub ReadCondition : ℕ → Condition → ℕ → Type 0
    ReadCondition at c e = ProperCondition c (header rs fs ns) m × Spells s at (condition_tokens rs fs ns c) e

    comparison_sound : (at : ℕ) (c : Condition) (e : ℕ) → comparison s rs at ≡ got c e → ReadCondition at c e
    unfolding comparison
    comparison_sound at c e h =
        let (x, a, g₁, h₁) = onward_got (use_t rs (token_at s at)) _ c e h in
        let (q, b, g₂, h₂) = onward_got (sign_t (token_at s a)) _ c e h₁ in
        let (y, o, g₃, h₃) = onward_got (use_t rs (token_at s b)) _ c e h₂ in
        let (l₁, p₁) = use_sound rs at x a g₁ in
        let p₂ = sign_sound a q b g₂ in
        let (l₃, p₃) = use_sound rs b y o g₃ in
        subst (λ c. ReadCondition at c e) (got_value h₃)
        (subst (λ n. ReadCondition at (compared q x y) n) (got_place h₃) (both q x y o l₁ l₃ (spells_then p₁ (spells_then p₂ p₃))))
      where
        both : (q : Bool) (x y n : ℕ) → x < length rs → y < length rs → Spells s at (get_or rs x 0 ∷ sign_token q ∷ get_or rs y 0 ∷ []) n
            → ReadCondition at (compared q x y) n
        both true x y n l r p = ((l, r), p)
        both false x y n l r p = ((l, r), p)

    pub condition_sound : (at : ℕ) (c : Condition) (e : ℕ) → condition s rs fs ns m at ≡ got c e → ReadCondition at c e
    unfolding condition
    condition_sound at c e h =
        pick_case (eqb (token_at s at).key word.not_key) _ _ _ h
        (λ t g. let (f, y, z, q, o, l, p) = named_sound fails (token_at s at).end c e g in
        subst (λ c. ReadCondition at c e) q ((o, l), Spells.more (eqb-true _ word.not_key t) (omega arith) p))
        λ _ h. pick_case (eqb (token_at s (token_at s at).end).key word.lparen_key) _ _ _ h
        (λ _ g. let (f, y, z, q, o, l, p) = named_sound holds at c e g in subst (λ c. ReadCondition at c e) q ((o, l), p))
        λ _ g. comparison_sound at c e g

    pub tested_sound : (at : ℕ) (c : Condition) (e : ℕ) → ended_condition s rs fs ns m at ≡ got c e
        → ProperCondition c (header rs fs ns) m × Spells s at (condition_tokens rs fs ns c ++ word.semicolon_key ∷ []) e
    unfolding ended_condition
    tested_sound at r e h =
        let (c, b, g₁, h₁) = onward_got (condition s rs fs ns m at) _ r e h in
        let (l, p₁) = condition_sound at c b g₁ in
        let (q, p₂) = ended_sound word.semicolon_key b e c r (omega arith) h₁ in
        subst (λ c. ProperCondition c (header rs fs ns) m × Spells s at (condition_tokens rs fs ns c ++ word.semicolon_key ∷ []) e) q (l, spells_then p₁ p₂)

  -- the tests are functions, behind the others
  module _ (rs fs ns : List ℕ) (m : ℕ) (T : m ≤ length fs) where
    -- ---- assignments

    -- what a reader behind `x :=` has to show
    abbrev Assigns : ℕ → ℕ → Assignment → ℕ → Type 0
    Assigns x at l e = ProperAssignment l (header rs fs ns) m × (ls : List ℕ)
        × (assignment_tokens rs fs ns l ≡ get_or rs x 0 ∷ word.becomes_key ∷ (ls ++ word.semicolon_key ∷ [])) × Spells s at ls e

    pub value_sound : (x at : ℕ) (l : Assignment) (e : ℕ) → x < length rs → right_hand_side s rs fs ns m x at ≡ got l e → Assigns x at l e
    unfolding right_hand_side
    value_sound x at l e hx h =
        pick_case (eqb (token_at s (token_at s at).end).key word.lparen_key) _ _ _ h
        (λ t g.
        let (f, a, g₁, h₁) = onward_got (use_between fs 0 m (token_at s at)) _ l e g in
        let (_, hf, p₁) = between_sound fs 0 m at f a T g₁ in
        let (y, z, q, hy, hz, same, p₂) = applied_sound rs fs ns m (apply x f) f a l e h₁ in
        subst (λ l. Assigns x at l e) q
        (((hx, omega arith, hy, hz, same), hf), application_tokens rs fs ns f y z, refl, spells_then p₁ p₂))
        λ t g.
        let (y, b, g₁, h₁) = onward_got (use_t rs (token_at s at)) _ l e g in
        let (l₁, p₁) = use_sound rs at y b g₁ in
        subst (λ l. Assigns x at l e) (got_value h₁) ((hx, l₁), get_or rs y 0 ∷ [], refl, subst (λ n. Spells s at (get_or rs y 0 ∷ []) n) (got_place h₁) p₁)

    -- what a reader of assignments has to show
    abbrev pub ReadAssignment : ℕ → Assignment → ℕ → Type 0
    ReadAssignment at l e = ProperAssignment l (header rs fs ns) m × Spells s at (assignment_tokens rs fs ns l) e

    pub assignment_sound : (at : ℕ) (l : Assignment) (e : ℕ) → assignment s rs fs ns m at ≡ got l e → ReadAssignment at l e
    unfolding assignment
    assignment_sound at l e h =
        let (x, a, g₁, h₁) = onward_got (use_t rs (token_at s at)) _ l e h in
        let (u, b, g₂, h₂) = onward_got (expect s word.becomes_key a) _ l e h₁ in
        let (v, c, g₃, h₃) = onward_got (right_hand_side s rs fs ns m x b) _ l e h₂ in
        let (l₁, p₁) = use_sound rs at x a g₁ in
        let p₂ = expect_sound word.becomes_key a b u (omega arith) g₂ in
        let (o, ls, w, p₃) = value_sound x b v c l₁ g₃ in
        let (q, p₄) = ended_sound word.semicolon_key c e v l (omega arith) h₃ in
        subst (λ l. ReadAssignment at l e) q (o, subst (λ l. Spells s at l e) (sym w) (spells_then p₁ (spells_then p₂ (spells_then p₃ p₄))))

    -- ---- blocks

    -- what a reader of statements has to show
    unfoldable pub ReadStatement : ℕ → ℕ → Statement → ℕ → Type 0
    ReadStatement d at c e = Proper c (header rs fs ns) m × Nests c d × Spells s at (statement_tokens rs fs ns c) e

    unfoldable pub ReadBlock : ℕ → ℕ → Block → ℕ → Type 0
    ReadBlock d at b e = ProperBlock b (header rs fs ns) m × NestsBlock b d × Spells s at (block_tokens rs fs ns b) e

    module _ (inner : ℕ → ℕ → Got Block) (sound : (d at : ℕ) (b : Block) (e : ℕ) → inner d at ≡ got b e → ReadBlock d at b e) where
      abbrev pub ReadBraces : ℕ → ℕ → Block → ℕ → Type 0
      ReadBraces d at b e = ProperBlock b (header rs fs ns) m × OneDeeper (λ n. NestsBlock b n) d
          × Spells s at (word.lbrace_key ∷ (block_tokens rs fs ns b ++ word.rbrace_key ∷ [])) e

      pub braces_sound : (d at : ℕ) (b : Block) (e : ℕ) → braces_t s rs fs ns m inner d (token_at s at) ≡ got b e → ReadBraces d at b e
      unfolding ReadBlock
      braces_sound zero at b e h = pick_case (eqb (token_at s at).key word.lbrace_key) _ _ _ h (λ t g. absurd (not_refused g)) λ t g. absurd (not_refused g)
      braces_sound (suc d) at b e h =
          pick_case (eqb (token_at s at).key word.lbrace_key) _ _ _ h
          (λ t g.
          let (c, w, g₁, h₁) = onward_got (inner d (token_at s at).end) _ b e g in
          let (u, o, p₁) = sound d (token_at s at).end c w g₁ in
          let (q, p₂) = ended_sound word.rbrace_key w e c b (omega arith) h₁ in
          subst (λ b. ReadBraces (suc d) at b e) q (u, o, Spells.more (eqb-true _ word.lbrace_key t) (omega arith) (spells_then p₁ p₂)))
          λ t g. absurd (not_refused g)

      pub else_sound : (d at : ℕ) (o : Else) (e : ℕ) → else_t s rs fs ns m inner d at (token_at s at) ≡ got o e
          → ProperElse o (header rs fs ns) m × NestsElse o d × Spells s at (else_tokens rs fs ns o) e
      unfolding else_tokens
      else_sound d at o e h =
          pick_case (eqb (token_at s at).key word.else_key) _ _ _ h
          (λ t g.
          let (x, w, g₁, h₁) = onward_got (braces_t s rs fs ns m inner d (token_at s (token_at s at).end)) _ o e g in
          let (u, i, p₁) = braces_sound d (token_at s at).end x w g₁ in
          subst (λ o. ProperElse o (header rs fs ns) m × NestsElse o d × Spells s at (else_tokens rs fs ns o) e) (got_value h₁) (
            u,
            i,
            Spells.more (eqb-true _ word.else_key t) (omega arith)
                (subst (λ n. Spells s (token_at s at).end (word.lbrace_key ∷ (block_tokens rs fs ns x ++ word.rbrace_key ∷ [])) n) (got_place h₁) p₁),
          ))
          λ t g. subst (λ o. ProperElse o (header rs fs ns) m × NestsElse o d × Spells s at (else_tokens rs fs ns o) e) (got_value g)
          (tt, tt, subst (λ n. Spells s at [] n) (got_place g) Spells.none)

      statement_sound_by : (d at : ℕ) (r : Statement) (e : ℕ) → statement_t s rs fs ns m inner d at (token_at s at) ≡ got r e → ReadStatement d at r e
      unfolding ReadStatement statement_tokens
      statement_sound_by d at r e h =
          pick_case (eqb (token_at s at).key word.skip_key) _ _ _ h
          (λ t g. let (q, p) = ended_sound word.semicolon_key (token_at s at).end e skip r (omega arith) g in
          subst (λ r. ReadStatement d at r e) q (tt, tt, Spells.more (eqb-true _ word.skip_key t) (omega arith) p))
          λ _ h. pick_case (eqb (token_at s at).key word.assume_key) _ _ _ h
          (λ t g.
          let (c, w, g₁, h₁) = onward_got (ended_condition s rs fs ns m (token_at s at).end) _ r e g in
          let (l, p) = tested_sound rs fs ns m (token_at s at).end c w g₁ in
          subst (λ r. ReadStatement d at r e) (got_value h₁) (
            l,
            tt,
            Spells.more (eqb-true _ word.assume_key t) (omega arith)
                (subst (λ n. Spells s (token_at s at).end (condition_tokens rs fs ns c ++ word.semicolon_key ∷ []) n) (got_place h₁) p),
          ))
          λ _ h. pick_case (eqb (token_at s at).key word.assert_key) _ _ _ h
          (λ t g.
          let (c, w, g₁, h₁) = onward_got (ended_condition s rs fs ns m (token_at s at).end) _ r e g in
          let (l, p) = tested_sound rs fs ns m (token_at s at).end c w g₁ in
          subst (λ r. ReadStatement d at r e) (got_value h₁) (
            l,
            tt,
            Spells.more (eqb-true _ word.assert_key t) (omega arith)
                (subst (λ n. Spells s (token_at s at).end (condition_tokens rs fs ns c ++ word.semicolon_key ∷ []) n) (got_place h₁) p),
          ))
          λ _ h. pick_case (eqb (token_at s at).key word.if_key) _ _ _ h
          (λ t g.
          let (c, a, g₁, h₁) = onward_got (condition s rs fs ns m (token_at s at).end) _ r e g in
          let (b, w, g₂, h₂) = onward_got (braces_t s rs fs ns m inner d (token_at s a)) _ r e h₁ in
          let (o, n, g₃, h₃) = onward_got (else_t s rs fs ns m inner d w (token_at s w)) _ r e h₂ in
          let (l, p₁) = condition_sound rs fs ns m (token_at s at).end c a g₁ in
          let (u, i, p₂) = braces_sound d a b w g₂ in
          let (v, j, p₃) = else_sound d w o n g₃ in
          let p = spells_then p₁ (subst (λ l. Spells s a (word.lbrace_key ∷ l) n)
          (append_assoc (block_tokens rs fs ns b) (word.rbrace_key ∷ []) (else_tokens rs fs ns o)) (spells_then p₂ p₃)) in
          subst (λ r. ReadStatement d at r e) (got_value h₃) (
            (l, u, v),
            (i, j),
            Spells.more (eqb-true _ word.if_key t) (omega arith)
                (subst (λ n. Spells s (token_at s at).end
                (condition_tokens rs fs ns c ++ word.lbrace_key ∷ (block_tokens rs fs ns b ++ word.rbrace_key ∷ else_tokens rs fs ns o)) n) (got_place h₃) p),
          ))
          λ _ h. pick_case (eqb (token_at s at).key word.while_key) _ _ _ h
          (λ t g.
          let (c, a, g₁, h₁) = onward_got (condition s rs fs ns m (token_at s at).end) _ r e g in
          let (b, w, g₂, h₂) = onward_got (braces_t s rs fs ns m inner d (token_at s a)) _ r e h₁ in
          let (l, p₁) = condition_sound rs fs ns m (token_at s at).end c a g₁ in
          let (u, i, p₂) = braces_sound d a b w g₂ in
          subst (λ r. ReadStatement d at r e) (got_value h₂) (
            (l, u),
            i,
            Spells.more (eqb-true _ word.while_key t) (omega arith)
                (spells_then p₁ (subst (λ n. Spells s a (word.lbrace_key ∷ (block_tokens rs fs ns b ++ word.rbrace_key ∷ [])) n) (got_place h₂) p₂)),
          ))
          λ _ h. pick_case (is_name (token_at s at).key) _ _ _ h
          (λ t g.
          let (l, w, g₁, h₁) = onward_got (assignment s rs fs ns m at) _ r e g in
          let (o, p) = assignment_sound at l w g₁ in
          subst (λ r. ReadStatement d at r e) (got_value h₁) (o, tt, subst (λ n. Spells s at (assignment_tokens rs fs ns l) n) (got_place h₁) p))
          λ t g. absurd (not_refused g)

    mutual
      unfolding block ReadStatement ReadBlock block_tokens

      pub block_sound : (k d at : ℕ) (b : Block) (e : ℕ) → block s rs fs ns m k d at ≡ got b e → ReadBlock d at b e
      block_sound zero d at b e h = absurd (not_exhausted h)
      block_sound (suc k) d at b e h =
          pick_case (closing s rs fs ns m (token_at s at).key) _ _ _ h
          (λ t g. subst (λ b. ReadBlock d at b e) (got_value g) (tt, tt, subst (λ n. Spells s at [] n) (got_place g) Spells.none))
          λ t g.
          let (c, a, g₁, h₁) = onward_got (statement s rs fs ns m k d at) _ b e g in
          let (x, w, g₂, h₂) = onward_got (block s rs fs ns m k d a) _ b e h₁ in
          let (u₁, o₁, p₁) = statement_sound k d at c a g₁ in
          let (u₂, o₂, p₂) = block_sound k d a x w g₂ in
          subst (λ b. ReadBlock d at b e) (got_value h₂)
          ((u₁, u₂), (o₁, o₂), subst (λ n. Spells s at (statement_tokens rs fs ns c ++ block_tokens rs fs ns x) n) (got_place h₂) (spells_then p₁ p₂))

      pub statement_sound : (k d at : ℕ) (r : Statement) (e : ℕ) → statement s rs fs ns m k d at ≡ got r e → ReadStatement d at r e
      statement_sound zero d at r e h = absurd (not_exhausted h)
      statement_sound (suc k) d at r e h = statement_sound_by (λ d at. block s rs fs ns m k d at) (λ d at b e g. block_sound k d at b e g) d at r e h
