-- What the text spells is read: where the tokens are a sentence of the grammar, in order, the reader gives its tree.
use mathlib.Core.Path.{◌≡◌, refl, sym, ap, subst, ◌∙◌}
use Prim.Native.Nat.{ℕ, zero, suc, ◌+◌, ◌≤◌, ◌<◌}
use native.Mathlib.Omega.{arith}
use mathlib.Core.Bool.{true, false}
use mathlib.Core.List.{List, [], ◌∷◌, ◌++◌, append_assoc}
use lib.Dec.{eqb}
use lib.ListN.{length, get_or}
use borrow.Author.Tests.{eqb-true, lt-ltb, le-leb, eq-eqb}
use Rattle.base.proofs.Theory.Choice.{by_test}
use Rattle.letters.specs.Letters.{arity, Fits}
use Rattle.letters.specs.declared.Letter.TheVariants.{Apply}
use Rattle.tokens.specs.Tokens.{token_at}
use Rattle.tokens.specs.Words.{is_name}
use Rattle.tokens.specs.Words as word
use Rattle.tokens.proofs.Theory.WordsLaws.{not_word}
use Rattle.grammar.specs.Tree.{Condition, equal, unequal, holds, fails, Assignment, copy, apply, Statement, skip, assign, assume, assert, if, while, Else}
use Rattle.grammar.specs.Tree.{absent, present, Block, empty, ◌then◌, ProperAssignment, ProperCondition, Proper, ProperElse, ProperBlock}
use Rattle.grammar.specs.Grammar.{header, takes_two, condition_tokens, argument_tokens, application_tokens, assignment_tokens, statement_tokens, else_tokens}
use Rattle.grammar.specs.Grammar.{block_tokens, OneDeeper, Nests, NestsElse, NestsBlock}
use Rattle.grammar.proofs.Theory.HeaderLaws.{arity_one}
use Rattle.grammar.specs.Reading.{Got, got, and_then, index_of, use_between, use_t, sign_t, expect, ended, comparison, arguments_t, applied, named_test}
use Rattle.grammar.specs.Reading.{condition, right_hand_side, assignment, ended_condition, braces_t, else_t, statement_t, block, statement, closing}
use Rattle.grammar.specs.Spelled.{Spells, Arities, Declared}
use Rattle.grammar.proofs.Theory.Sound.{index_at}

pub index_below : (k : ℕ) (l : List ℕ) (i : ℕ) → i < length l → k ≡ get_or l i 0 → index_of k l < length l
unfolding index_of
index_below k [] i h e = absurd (omega arith)
index_below k (x ∷ l) zero h e = rw (eq-eqb k x e) (omega arith)
index_below k (x ∷ l) (suc i) h e = by_test (eqb k x) (λ t. rw t (omega arith)) λ t. rw t (omega (arith, index_below k l i (omega arith) e))

-- it is the first place that has the name
pub index_least : (k : ℕ) (l : List ℕ) (i : ℕ) → i < length l → k ≡ get_or l i 0 → index_of k l ≤ i
unfolding index_of
index_least k [] i h e = absurd (omega arith)
index_least k (x ∷ l) zero h e = rw (eq-eqb k x e) (omega arith)
index_least k (x ∷ l) (suc i) h e = by_test (eqb k x) (λ t. rw t (omega arith)) λ t. rw t (omega (arith, index_least k l i (omega arith) e))

-- and the only one, where each name is declared once
pub index_declared : (l : List ℕ) → Declared l → (k i : ℕ) → i < length l → k ≡ get_or l i 0 → index_of k l ≡ i
index_declared l d k i h e = let b = index_below k l i h e in d.once (index_of k l) i b h (sym (index_at k l b) ∙ e)

-- how many calls a tree takes
unfoldable mutual
  pub weight : Statement → ℕ
  weight skip = 1
  weight (assign a) = 1
  weight (assume c) = 1
  weight (assert c) = 1
  weight (if c b e) = suc (weight_block b + weight_else e)
  weight (while c b) = suc (weight_block b)

  pub weight_else : Else → ℕ
  weight_else absent = 0
  weight_else (present b) = weight_block b

  pub weight_block : Block → ℕ
  weight_block empty = 1
  weight_block (c then b) = suc (weight c + weight_block b)

weight_some : (c : Statement) → weight c ≤ 0 → ⊥
unfolding weight
weight_some skip h = omega arith
weight_some (assign a) h = omega arith
weight_some (assume c) h = omega arith
weight_some (assert c) h = omega arith
weight_some (if c b e) h = omega arith
weight_some (while c b) h = omega arith

module _ (s : List ℕ) where
  pub spells_split : (ks : List ℕ) {ls : List ℕ} {at e : ℕ} → Spells s at (ks ++ ls) e → (m : ℕ) × Spells s at ks m × Spells s m ls e
  spells_split [] {at = at} p = (at, Spells.none, p)
  spells_split (k ∷ ks) (Spells.more h l p) = let (m, q, r) = spells_split ks p in (m, Spells.more h l q, r)

  pub spells_key : {at k e : ℕ} {ks : List ℕ} → Spells s at (k ∷ ks) e → (token_at s at).key ≡ k
  spells_key (Spells.more h l p) = h

  pub spells_rest : {at k e : ℕ} {ks : List ℕ} → Spells s at (k ∷ ks) e → Spells s (token_at s at).end ks e
  spells_rest (Spells.more h l p) = p

  pub spells_nil : {at e : ℕ} → Spells s at [] e → at ≡ e
  spells_nil Spells.none = refl

  -- one token
  pub spells_end : {at k e : ℕ} → Spells s at (k ∷ []) e → (token_at s at).end ≡ e
  spells_end p = spells_nil (spells_rest p)

  pub expect_complete : {at k e : ℕ} → Spells s at (k ∷ []) e → expect s k at ≡ got tt e
  expect_complete {at} {k} {e} p = rw (eq-eqb (token_at s at).key k (spells_key p)) (ap (got tt) (spells_end p))

  ended_complete : {A : Type 0} (a : A) {at k e : ℕ} → Spells s at (k ∷ []) e → ended s k a at ≡ got a e
  ended_complete a p = rw (expect_complete p)

  use_complete : (rs : List ℕ) → Declared rs → {at i e : ℕ} → i < length rs → Spells s at (get_or rs i 0 ∷ []) e → use_t rs (token_at s at) ≡ got i e
  use_complete rs d {at} {i} {e} l p =
      let k = spells_key p in
      let j : index_of (token_at s at).key rs ≡ i = index_declared rs d _ i l k in
      rw (ap is_name k ∙ d.names i l, lt-ltb _ _ (index_below _ rs i l k)) (λ n. got (j n) (spells_end p n))

  between_complete : (l : List ℕ) → Declared l → (from to : ℕ) {at i e : ℕ} → i < length l → from ≤ i → i < to → Spells s at (get_or l i 0 ∷ []) e
      → use_between l from to (token_at s at) ≡ got i e
  between_complete l d from to {at} {i} {e} b x y p =
      let k = spells_key p in
      let j : index_of (token_at s at).key l ≡ i = index_declared l d _ i b k in
      rw (ap is_name k ∙ d.names i b, j, le-leb from i x, lt-ltb i to y) (ap (got i) (spells_end p))

  sign_equal : {at e : ℕ} → Spells s at (word.equal_key ∷ []) e → sign_t (token_at s at) ≡ got true e
  sign_equal {at} p = rw (eq-eqb (token_at s at).key word.equal_key (spells_key p)) (ap (got true) (spells_end p))

  sign_unequal : {at e : ℕ} → Spells s at (word.unequal_key ∷ []) e → sign_t (token_at s at) ≡ got false e
  sign_unequal {at} p = rw (ap (λ k. eqb k word.equal_key) (spells_key p), eq-eqb (token_at s at).key word.unequal_key (spells_key p))
      (ap (got false) (spells_end p))

  -- the second of two tokens
  spells_second : {at k l e : ℕ} {ks : List ℕ} → Spells s at (k ∷ l ∷ ks) e → (token_at s (token_at s at).end).key ≡ l
  spells_second p = spells_key (spells_rest p)

  module _ (rs fs ns : List ℕ) (m : ℕ) (R : Declared rs) (F : Declared fs) where
    arguments_complete : {A : Type 0} (make : ℕ → ℕ → A) (f y z : ℕ) {at e : ℕ} → z < length rs → (takes_two rs fs ns f ≡ false → y ≡ z)
        → Spells s at (argument_tokens rs fs ns f z) e → arguments_t s rs make (get_or ns f 0) y (token_at s at) ≡ got (make y z) e
    unfolding arguments_t
    arguments_complete make f y z {at} {e} l same p =
        by_test (eqb (get_or ns f 0) 2)
        (λ u.
        let q : Spells s at (word.comma_key ∷ get_or rs z 0 ∷ word.rparen_key ∷ []) e = rw u at p in
        let (a, p₁, p₂) = spells_split (get_or rs z 0 ∷ []) (spells_rest q) in
        rw (eq-eqb _ word.comma_key (spells_key q), u, use_complete rs R l p₁, expect_complete p₂))
        λ u.
        let q : Spells s at (word.rparen_key ∷ []) e = rw u at p in
        rw (ap (λ k. eqb k word.comma_key) (spells_key q), eq-eqb _ word.rparen_key (spells_key q), u) (λ i. got (make y (same u i)) (spells_end q i))

    applied_complete : {A : Type 0} (make : ℕ → ℕ → A) (f y z : ℕ) {at e : ℕ} → y < length rs → z < length rs → (arity (header rs fs ns) f ≡ 1 → y ≡ z)
        → Spells s at (word.lparen_key ∷ get_or rs y 0 ∷ argument_tokens rs fs ns f z) e → applied s rs make (get_or ns f 0) at ≡ got (make y z) e
    unfolding applied
    applied_complete make f y z {at} {e} ly lz same p =
        let (a, p₁, q) = spells_split (word.lparen_key ∷ []) p in
        let (b, p₂, p₃) = spells_split (get_or rs y 0 ∷ []) q in
        rw (expect_complete p₁, use_complete rs R ly p₂) (arguments_complete make f y z lz (λ u. same (arity_one rs fs ns f u)) p₃)

    named_complete : (make : ℕ → ℕ → ℕ → Condition) (f y z : ℕ) {at e : ℕ} → Fits (header rs fs ns) (Apply y f y z) → m ≤ f
        → Spells s at (application_tokens rs fs ns f y z) e → named_test s rs fs ns m make at ≡ got (make f y z) e
    unfolding named_test
    named_complete make f y z {at} {e} (_, lf, ly, lz, same) t p =
        let (a, p₁, p₂) = spells_split (get_or fs f 0 ∷ []) p in
        rw (between_complete fs F m (length fs) lf t lf p₁) (applied_complete (make f) f y z ly lz same p₂)

    condition_complete : (c : Condition) {at e : ℕ} → ProperCondition c (header rs fs ns) m → Spells s at (condition_tokens rs fs ns c) e
        → condition s rs fs ns m at ≡ got c e
    unfolding condition comparison
    condition_complete (equal x y) {at} {e} (l, r) p =
        let (a, p₁, q) = spells_split (get_or rs x 0 ∷ []) p in
        let (b, p₂, p₃) = spells_split (word.equal_key ∷ []) q in
        rw (
          not_word _ word.not_key refl (ap is_name (spells_key p) ∙ R.names x l),
          ap (λ k. eqb k word.lparen_key) (spells_second p),
          use_complete rs R l p₁,
          sign_equal p₂,
          use_complete rs R r p₃,
        )
    condition_complete (unequal x y) {at} {e} (l, r) p =
        let (a, p₁, q) = spells_split (get_or rs x 0 ∷ []) p in
        let (b, p₂, p₃) = spells_split (word.unequal_key ∷ []) q in
        rw (
          not_word _ word.not_key refl (ap is_name (spells_key p) ∙ R.names x l),
          ap (λ k. eqb k word.lparen_key) (spells_second p),
          use_complete rs R l p₁,
          sign_unequal p₂,
          use_complete rs R r p₃,
        )
    condition_complete (holds f y z) {at} {e} (o, t) p =
        rw (not_word _ word.not_key refl (ap is_name (spells_key p) ∙ F.names f o.1), eq-eqb _ word.lparen_key (spells_second p))
        (named_complete holds f y z o t p)
    condition_complete (fails f y z) {at} {e} (o, t) p = rw (eq-eqb _ word.not_key (spells_key p)) (named_complete fails f y z o t (spells_rest p))

    tested_complete : (c : Condition) {at e : ℕ} → ProperCondition c (header rs fs ns) m → Spells s at (condition_tokens rs fs ns c ++ word.semicolon_key ∷ []) e
        → ended_condition s rs fs ns m at ≡ got c e
    unfolding ended_condition
    tested_complete c {at} {e} o p =
        let (a, p₁, p₂) = spells_split (condition_tokens rs fs ns c) p in
        rw (condition_complete c o p₁, ended_complete c p₂)

    -- the value of a copy: no `(` follows
    copy_complete : (x y : ℕ) {at e : ℕ} → y < length rs → Spells s at (get_or rs y 0 ∷ []) e → eqb (token_at s e).key word.lparen_key ≡ false
        → right_hand_side s rs fs ns m x at ≡ got (copy x y) e
    unfolding right_hand_side
    copy_complete x y {at} {e} l p h = rw (ap (λ n. eqb (token_at s n).key word.lparen_key) (spells_end p) ∙ h, use_complete rs R l p)

    apply_complete : (x f y z : ℕ) {at e : ℕ} → Fits (header rs fs ns) (Apply x f y z) → f < m → Spells s at (application_tokens rs fs ns f y z) e
        → right_hand_side s rs fs ns m x at ≡ got (apply x f y z) e
    unfolding right_hand_side
    apply_complete x f y z {at} {e} (_, lf, ly, lz, same) t p =
        let (a, p₁, p₂) = spells_split (get_or fs f 0 ∷ []) p in
        rw (eq-eqb _ word.lparen_key (spells_second p), between_complete fs F 0 m lf (omega arith) t p₁) (applied_complete (apply x f) f y z ly lz same p₂)

    assignment_complete : (l : Assignment) {at e : ℕ} → ProperAssignment l (header rs fs ns) m → Spells s at (assignment_tokens rs fs ns l) e
        → assignment s rs fs ns m at ≡ got l e
    unfolding assignment
    assignment_complete (copy x y) {at} {e} (l, r) p =
        let (a, p₁, q) = spells_split (get_or rs x 0 ∷ []) p in
        let (b, p₂, u) = spells_split (word.becomes_key ∷ []) q in
        let (c, p₃, p₄) = spells_split (get_or rs y 0 ∷ []) u in
        rw (use_complete rs R l p₁, expect_complete p₂, copy_complete x y r p₃ (ap (λ k. eqb k word.lparen_key) (spells_key p₄)), ended_complete (copy x y) p₄)
    assignment_complete (apply x f y z) {at} {e} (o, t) p =
        let (a, p₁, q) = spells_split (get_or rs x 0 ∷ []) p in
        let (b, p₂, u) = spells_split (word.becomes_key ∷ []) q in
        let (c, p₃, p₄) = spells_split (application_tokens rs fs ns f y z) u in
        rw (use_complete rs R o.0 p₁, expect_complete p₂, apply_complete x f y z o t p₃, ended_complete (apply x f y z) p₄)

    -- an assignment begins with the name of a register
    assignment_named : (l : Assignment) {at e : ℕ} → ProperAssignment l (header rs fs ns) m → Spells s at (assignment_tokens rs fs ns l) e
        → is_name (token_at s at).key ≡ true
    assignment_named (copy x y) (l, r) p = ap is_name (spells_key p) ∙ R.names x l
    assignment_named (apply x f y z) (o, t) p = ap is_name (spells_key p) ∙ R.names x o.0

    -- ---- blocks

    -- where reading of a block may end
    abbrev pub Ends : ℕ → Type 0
    Ends e = closing s rs fs ns m (token_at s e).key ≡ true

    -- `else` does not follow
    abbrev pub NoElse : ℕ → Type 0
    NoElse e = eqb (token_at s e).key word.else_key ≡ false

    module _ (inner : ℕ → ℕ → Got Block) (k : ℕ) where
      -- inner reads the block b, if it takes no more than k calls
      abbrev Reads : Block → Type 0
      Reads b = (d at e : ℕ) → weight_block b ≤ k → ProperBlock b (header rs fs ns) m → NestsBlock b d → Spells s at (block_tokens rs fs ns b) e → Ends e
          → inner d at ≡ got b e

      braces_complete : (b : Block) → weight_block b ≤ k → Reads b → (d : ℕ) {at e : ℕ} → ProperBlock b (header rs fs ns) m → OneDeeper (λ n. NestsBlock b n) d
          → Spells s at (word.lbrace_key ∷ (block_tokens rs fs ns b ++ word.rbrace_key ∷ [])) e
          → braces_t s rs fs ns m inner d (token_at s at) ≡ got b e
      braces_complete b w r zero u o p = absurd o
      braces_complete b w r (suc d) {at} {e} u o p =
          let (i, p₁, p₂) = spells_split (block_tokens rs fs ns b) (spells_rest p) in
          let closed : Ends i = ap (λ k. closing s rs fs ns m k) (spells_key p₂) in
          rw (eq-eqb _ word.lbrace_key (spells_key p), r d (token_at s at).end i w u o p₁ closed, ended_complete b p₂)

      else_complete : (o : Else) → weight_else o ≤ k → ((x : Block) → Reads x) → (d : ℕ) {at e : ℕ} → ProperElse o (header rs fs ns) m → NestsElse o d
          → Spells s at (else_tokens rs fs ns o) e → NoElse e
          → else_t s rs fs ns m inner d at (token_at s at) ≡ got o e
      unfolding else_tokens weight_else
      else_complete absent w r d {at} {e} u k p h = rw (ap (λ n. eqb (token_at s n).key word.else_key) (spells_nil p) ∙ h) (ap (got absent) (spells_nil p))
      else_complete (present x) w r d {at} {e} u k p h = rw (eq-eqb _ word.else_key (spells_key p), braces_complete x w (r x) d u k (spells_rest p))

      -- a name at the front of a statement
      named : (at : ℕ) → is_name (token_at s at).key ≡ true → (d : ℕ)
          → statement_t s rs fs ns m inner d at (token_at s at) ≡ and_then (assignment s rs fs ns m at) λ l e. got (assign l) e
      named at n d = rw (
        n,
        not_word _ word.skip_key refl n,
        not_word _ word.assume_key refl n,
        not_word _ word.assert_key refl n,
        not_word _ word.if_key refl n,
        not_word _ word.while_key refl n,
      )

      statement_complete_by : (c : Statement) (d : ℕ) {at e : ℕ} → weight c ≤ suc k → ((b : Block) → Reads b) → Proper c (header rs fs ns) m → Nests c d
          → Spells s at (statement_tokens rs fs ns c) e → NoElse e
          → statement_t s rs fs ns m inner d at (token_at s at) ≡ got c e
      unfolding statement_tokens weight
      statement_complete_by skip d w r u o p h = rw (eq-eqb _ word.skip_key (spells_key p), ended_complete skip (spells_rest p))
      statement_complete_by (assign l) d {at} w r u o p h = rw (named at (assignment_named l u p) d, assignment_complete l u p)
      statement_complete_by (assume c) d w r u o p h =
          let y = spells_key p in rw (ap (λ k. eqb k word.skip_key) y, eq-eqb _ word.assume_key y, tested_complete c u (spells_rest p))
      statement_complete_by (assert c) d w r u o p h =
          let y = spells_key p in
          rw (ap (λ k. eqb k word.skip_key) y, ap (λ k. eqb k word.assume_key) y, eq-eqb _ word.assert_key y, tested_complete c u (spells_rest p))
      statement_complete_by (if c b x) d {at} {e} w r (l, u, v) (o, q) p h =
          let (i, p₁, p₂) = spells_split (condition_tokens rs fs ns c) (spells_rest p) in
          let (a, p₃, p₄) = spells_split (word.lbrace_key ∷ (block_tokens rs fs ns b ++ word.rbrace_key ∷ []))
          (subst (λ l. Spells s i (word.lbrace_key ∷ l) e) (sym (append_assoc (block_tokens rs fs ns b) (word.rbrace_key ∷ []) (else_tokens rs fs ns x))) p₂) in
          let y = spells_key p in
          rw (
            ap (λ k. eqb k word.skip_key) y,
            ap (λ k. eqb k word.assume_key) y,
            ap
                (λ k. eqb k word.assert_key) y,
            eq-eqb _ word.if_key y,
            condition_complete c l p₁,
            braces_complete b (omega arith) (r b) d u o p₃,
            else_complete x
                (omega arith) r d v q p₄ h,
          )
      statement_complete_by (while c b) d w r (l, u) o p h =
          let (i, p₁, p₂) = spells_split (condition_tokens rs fs ns c) (spells_rest p) in
          let y = spells_key p in
          rw (
            ap (λ k. eqb k word.skip_key) y,
            ap (λ k. eqb k word.assume_key) y,
            ap (λ k. eqb k word.assert_key) y,
            ap
                (λ k. eqb k word.if_key) y,
            eq-eqb _ word.while_key y,
            condition_complete c l p₁,
            braces_complete b (omega arith) (r b) d u o p₂,
          )

    -- the first token of a statement ends no block, and is not `else`, `funs` or `tests`
    abbrev Head : ℕ → Type 0
    Head k = (closing s rs fs ns m k ≡ false) × (eqb k word.else_key ≡ false) × (eqb k word.funs_key ≡ false) × (eqb k word.tests_key ≡ false)

    name_head : (k : ℕ) → is_name k ≡ true → Head k
    name_head k n = (
      rw (not_word k word.rbrace_key refl n, not_word k 0 refl n),
      not_word k word.else_key refl n,
      not_word k word.funs_key refl n,
      not_word k word.tests_key refl n,
    )

    head : (c : Statement) {at e : ℕ} → Proper c (header rs fs ns) m → Spells s at (statement_tokens rs fs ns c) e → Head (token_at s at).key
    unfolding statement_tokens
    head skip o p = subst Head (sym (spells_key p)) (refl, refl, refl, refl)
    head (assign l) {at} o p = name_head (token_at s at).key (assignment_named l o p)
    head (assume c) o p = subst Head (sym (spells_key p)) (refl, refl, refl, refl)
    head (assert c) o p = subst Head (sym (spells_key p)) (refl, refl, refl, refl)
    head (if c b x) o p = subst Head (sym (spells_key p)) (refl, refl, refl, refl)
    head (while c b) o p = subst Head (sym (spells_key p)) (refl, refl, refl, refl)

    ends_no_else : (e : ℕ) → Ends e → NoElse e
    ends_no_else e h = by_test (eqb (token_at s e).key word.else_key)
        (λ t. let j : (token_at s e).key ≡ word.else_key = eqb-true (token_at s e).key word.else_key t in
        let q : closing s rs fs ns m word.else_key ≡ true = sym (ap (λ k. closing s rs fs ns m k) j) ∙ h in let z : ◌≡◌ {A = ℕ} 0 1 = cc in absurd (omega arith))
        λ t. t

    block_no_else : (b : Block) {at e : ℕ} → ProperBlock b (header rs fs ns) m → Spells s at (block_tokens rs fs ns b) e → Ends e → NoElse at
    unfolding block_tokens
    block_no_else empty o p h = rw (spells_nil p) (ends_no_else _ h)
    block_no_else (c then b) (o, q) p h = let (i, p₁, p₂) = spells_split (statement_tokens rs fs ns c) p in (head c o p₁).1

    -- `funs` begins no block
    pub block_no_funs : (b : Block) {at e : ℕ} → ProperBlock b (header rs fs ns) m → Spells s at (block_tokens rs fs ns b) e → (token_at s e).key ≡ 0
        → eqb (token_at s at).key word.funs_key ≡ false
    unfolding block_tokens
    block_no_funs empty o p z = ap (λ n. eqb (token_at s n).key word.funs_key) (spells_nil p) ∙ ap (λ k. eqb k word.funs_key) z
    block_no_funs (c then b) (o, q) p z = let (i, p₁, p₂) = spells_split (statement_tokens rs fs ns c) p in (head c o p₁).2

    -- nor `tests`
    pub block_no_tests : (b : Block) {at e : ℕ} → ProperBlock b (header rs fs ns) m → Spells s at (block_tokens rs fs ns b) e → (token_at s e).key ≡ 0
        → eqb (token_at s at).key word.tests_key ≡ false
    unfolding block_tokens
    block_no_tests empty o p z = ap (λ n. eqb (token_at s n).key word.tests_key) (spells_nil p) ∙ ap (λ k. eqb k word.tests_key) z
    block_no_tests (c then b) (o, q) p z = let (a, p₁, p₂) = spells_split (statement_tokens rs fs ns c) p in (head c o p₁).3

    mutual
      unfolding block block_tokens weight_block

      pub block_complete : (k : ℕ) (b : Block) (d at e : ℕ) → weight_block b ≤ k → ProperBlock b (header rs fs ns) m → NestsBlock b d
          → Spells s at (block_tokens rs fs ns b) e → Ends e → block s rs fs ns m k d at ≡ got b e
      block_complete zero empty d at e w u o p h = absurd (omega arith)
      block_complete zero (c then b) d at e w u o p h = absurd (omega arith)
      block_complete (suc k) empty d at e w u o p h = rw (ap (λ n. closing s rs fs ns m (token_at s n).key) (spells_nil p) ∙ h) (ap (got empty) (spells_nil p))
      block_complete (suc k) (c then b) d at e w (u, v) (o, q) p h =
          let (i, p₁, p₂) = spells_split (statement_tokens rs fs ns c) p in
          rw ((head c u p₁).0, statement_complete k c d at i (omega arith) u o p₁ (block_no_else b v p₂ h), block_complete k b d i e (omega arith) v q p₂ h)

      statement_complete : (k : ℕ) (c : Statement) (d at e : ℕ) → weight c ≤ k → Proper c (header rs fs ns) m → Nests c d
          → Spells s at (statement_tokens rs fs ns c) e → NoElse e → statement s rs fs ns m k d at ≡ got c e
      statement_complete zero c d at e w u o p h = absurd (weight_some c w)
      statement_complete (suc k) c d at e w u o p h =
          statement_complete_by (λ d at. block s rs fs ns m k d at) k c d w (λ b d at e w u o p h. block_complete k b d at e w u o p h) u o p h
