-- Statements and blocks, judged.
use mathlib.Core.Path.{◌≡◌, refl, sym, ap, subst, ◌∙◌}
use Prim.Native.Nat.{ℕ, zero, suc, ◌+◌, ◌≤◌}
use native.Mathlib.Omega.{arith}
use mathlib.Core.Bool.{Bool, true, false, ◌&&◌, ◌||◌}
use mathlib.Core.List.{List}
use lib.Dec.{eqb}
use borrow.Author.Tests.{eqb-true, eqb-false}
use Rattle.base.specs.Choice.{pick}
use Rattle.grammar.specs.Tree.{Statement, skip, Else, Block}
use Rattle.tokens.specs.Tokens.{token_at}
use Rattle.tokens.specs.Words.{is_name}
use Rattle.tokens.specs.Words as word
use Rattle.grammar.specs.Reading.{Got, expect, ended, condition, assignment, ended_condition, braces_t, else_t, statement_t, block, statement, closing}
use Rattle.grammar.specs.Spelled.{Declared, Arities}
use Rattle.grammar.proofs.Theory.Declarations.{or_false}
use Rattle.refusals.proofs.Theory.Basics.{clash, and_false}
use Rattle.refusals.proofs.Theory.Rests.{Rest, token, inside, outside, Took, took, stuck, begin, take, complete}
use Rattle.refusals.proofs.Theory.Rests as rest
use Rattle.refusals.specs.Questions.{Misused, occurrences}
use Rattle.refusals.specs.FirstNo.{tokens_before}
use Rattle.refusals.proofs.Theory.Judged.{JudgedReading, fine, never, judged_on, judged_pick, judged_map, stuck_at, key_at, unfit_judged, deep_judged}
use Rattle.refusals.proofs.Theory.Judged.{unnamed_misused}
use Rattle.refusals.proofs.Theory.Phrases.{In, go_on, steady_on, condition_judged, ended_judged, tested_judged, assignment_judged, count_more, steady}
use Rattle.refusals.proofs.Theory.Phrases.{free}

-- A block within braces, behind which a rest follows, or the statements of the text.
pub data Level : Type 0 where
  within : Rest → Level
  outermost : Level

abbrev pub state : Level → Bool → Rest
state (within r) e = inside e r
state outermost e = outside e

-- what `}` leaves, and whether the text may end
abbrev pub shut : Level → Took
shut (within r) = took r
shut outermost = stuck

abbrev pub outer : Level → Bool
outer (within r) = false
outer outermost = true

-- b is to come where a block of this level goes on with the token k, which is not an `else`
pub record Stands (l : Level) (b : Rest) (k : ℕ) : Type 0 where
  pub opens : eqb k word.rbrace_key || eqb k 0 ≡ false → take b k ≡ begin false k (state l false) (state l true)
  pub shuts : take b word.rbrace_key ≡ shut l
  pub ends : complete b ≡ outer l

-- without an `else` it does not matter whether one might stand there
begin_plain : (e : Bool) (k : ℕ) (r q : Rest) → eqb k word.else_key && e ≡ false → begin e k r q ≡ begin false k r q
begin_plain e k r q h = rw (h, and_false (eqb k word.else_key))

pub stands : (l : Level) (e : Bool) (k : ℕ) → eqb k word.else_key && e ≡ false → Stands l (state l e) k
stands (within r) e k h = record {
  opens =
      λ c. rw (or_false (eqb k word.rbrace_key) (eqb k 0) c).0 (begin_plain e k (inside false r) (inside true r) h);
  shuts = refl;
  ends = refl;
}
stands outermost e k h = record { opens = λ c. begin_plain e k (outside false) (outside true) h; shuts = refl; ends = refl }

module _ (s rs fs ns : List ℕ) (from : ℕ) (F : Declared fs) (Y : Arities fs ns) where
  -- behind a statement, and behind a block
  abbrev AfterStatement : Level → ℕ → ℕ → Type 0
  AfterStatement l d e = (j : ℕ) × (y : ℕ) × (f : Bool) × (free y ≡ true) × (eqb (key_at s e) word.else_key && f ≡ false)
      × In s rs fs ns from j d e y (state l f)

  abbrev pub AfterBlock : Level → ℕ → ℕ → Type 0
  AfterBlock l d e = (j : ℕ) × (y : ℕ) × (b : Rest) × (free y ≡ true) × (take b word.rbrace_key ≡ shut l) × (complete b ≡ outer l)
      × (eqb (key_at s e) word.rbrace_key || eqb (key_at s e) 0 ≡ true) × In s rs fs ns from j d e y b

  finished : (l : Level) (d e j y : ℕ) → (free y ≡ true) → In s rs fs ns from j d e y (state l false) → AfterStatement l d e
  finished l d e j y n I = (j, y, false, n, and_false (eqb (key_at s e) word.else_key), I)

  module _ (inner : ℕ → ℕ → Got Block)
      (judge : (l : Level) (d at i x : ℕ) (b : Rest) → In s rs fs ns from i d at x b → free x ≡ true → Stands l b (key_at s at)
      → JudgedReading s Block (λ _ e. AfterBlock l d e) (inner d at)) where
    -- `{` and `}`
    brace_right : {before : List ℕ} {k next : ℕ} (j : ℕ) → is_name j ≡ false → eqb j word.comma_key ≡ false → eqb j word.rparen_key ≡ false → k ≡ j
        → Misused before k next → ⊥
    brace_right {k = k} j n x y h =
        unnamed_misused k (ap is_name h ∙ n) (ap (λ k. eqb k word.comma_key) h ∙ x) (ap (λ k. eqb k word.rparen_key) h ∙ y)

    -- `{`
    open_on : {i d at x : ℕ} (r : Rest) → In s rs fs ns from i (suc d) at x (token word.lbrace_key r) → key_at s at ≡ word.lbrace_key
        → In s rs fs ns from (suc i) d (token_at s at).end (key_at s at) r
    open_on {i} {d} {at} r I k =
        go_on s rs fs ns from I r d (subst (λ k. 2 ≤ k) (sym k) (omega arith)) (ap (λ k. take (token word.lbrace_key r) k) k)
        (λ n. let z : word.lbrace_key ≡ word.funs_key = sym k ∙ n in omega arith)
        (λ n. let z : word.lbrace_key ≡ word.tests_key = sym k ∙ n in omega arith) (brace_right word.lbrace_key refl refl refl k)
        (λ D. let x = I.depth in let y = D.deep in omega arith)
        (let x = I.depth in let a = count_more word.lbrace_key (tokens_before s i) (key_at s at)
        ∙ ap (λ k. occurrences word.lbrace_key (tokens_before s i) + pick (eqb k word.lbrace_key) (λ _. 1) λ _. 0) k in
        let b = count_more word.rbrace_key (tokens_before s i) (key_at s at)
        ∙ ap (λ k. occurrences word.rbrace_key (tokens_before s i) + pick (eqb k word.rbrace_key) (λ _. 1) λ _. 0) k in omega arith)

    -- `}`
    close_on : {i d at x : ℕ} (b r : Rest) → In s rs fs ns from i d at x b → take b word.rbrace_key ≡ took r → key_at s at ≡ word.rbrace_key
        → In s rs fs ns from (suc i) (suc d) (token_at s at).end word.rbrace_key r
    close_on {i} {d} {at} b r I h k =
        subst (λ k. In s rs fs ns from (suc i) (suc d) (token_at s at).end k r) k
        (go_on s rs fs ns from I r (suc d) (subst (λ k. 2 ≤ k) (sym k) (omega arith)) (ap (λ k. take b k) k ∙ h)
        (λ n. let z : word.rbrace_key ≡ word.funs_key = sym k ∙ n in omega arith)
        (λ n. let z : word.rbrace_key ≡ word.tests_key = sym k ∙ n in omega arith) (brace_right word.rbrace_key refl refl refl k)
        (λ D. let z : word.rbrace_key ≡ word.lbrace_key = sym k ∙ D.brace in omega arith)
        (let x = I.depth in let a = count_more word.lbrace_key (tokens_before s i) (key_at s at)
        ∙ ap (λ k. occurrences word.lbrace_key (tokens_before s i) + pick (eqb k word.lbrace_key) (λ _. 1) λ _. 0) k in
        let c = count_more word.rbrace_key (tokens_before s i) (key_at s at)
        ∙ ap (λ k. occurrences word.rbrace_key (tokens_before s i) + pick (eqb k word.rbrace_key) (λ _. 1) λ _. 0) k in omega arith))

    closed_judged : {A : Type 0} (a : A) (r : Rest) (d at : ℕ) → AfterBlock (within r) d at
        → JudgedReading s A (λ _ e. (j : ℕ) × In s rs fs ns from j (suc d) e word.rbrace_key r) (ended s word.rbrace_key a at)
    closed_judged a r d at (j, y, b, n, h, c, t, I) =
        judged_on {P = λ u e. In s rs fs ns from (suc j) (suc d) e word.rbrace_key r} (expect s word.rbrace_key at) _
        (judged_pick (eqb (key_at s at) word.rbrace_key) _ _ (λ u. fine (close_on b r I h (eqb-true (key_at s at) word.rbrace_key u)))
        λ u. unfit_judged s I.standing
        (record { end = λ _. c; token = λ z. absurd (z (eqb-true (key_at s at) 0 (only (eqb (key_at s at) word.rbrace_key) (eqb (key_at s at) 0) u t))) }))
        λ u e _ J. fine (suc j, J)
      where
        only : (a b : Bool) → a ≡ false → a || b ≡ true → b ≡ true
        only true b h g = absurd (clash refl h)
        only false b h g = g

    braces_judged : (d : ℕ) {i at x : ℕ} (r : Rest) → In s rs fs ns from i d at x (token word.lbrace_key (inside false r))
        → JudgedReading s Block (λ _ e. (j : ℕ) × In s rs fs ns from j d e word.rbrace_key r) (braces_t s rs fs ns from inner d (token_at s at))
    braces_judged zero {i} {at} r I =
        judged_pick (eqb (key_at s at) word.lbrace_key) _ _
        (λ t. let k = eqb-true (key_at s at) word.lbrace_key t in
        deep_judged s I.standing (ap (λ k. take (token word.lbrace_key (inside false r)) k) k)
        (record { brace = k; deep = let x = I.depth in omega arith }))
        λ t. unfit_judged s I.standing (stuck_at (token word.lbrace_key (inside false r)) (key_at s at) refl (rw t))
    braces_judged (suc d) {i} {at} r I =
        judged_pick (eqb (key_at s at) word.lbrace_key) _ _
        (λ t. let k = eqb-true (key_at s at) word.lbrace_key t in
        judged_on (inner d (token_at s at).end) _
        (judge (within r) d (token_at s at).end (suc i) (key_at s at) (inside false r) (open_on (inside false r) I k)
        (ap free k)
        (stands (within r) false (key_at s (token_at s at).end) (and_false (eqb (key_at s (token_at s at).end) word.else_key))))
        λ b e _ B. closed_judged b r d e B)
        λ t. unfit_judged s I.standing (stuck_at (token word.lbrace_key (inside false r)) (key_at s at) refl (rw t))

    -- `else` where one may stand
    else_taken : (l : Level) → take (state l true) word.else_key ≡ took (token word.lbrace_key (inside false (state l false)))
    else_taken (within r) = refl
    else_taken outermost = refl

    else_judged : (l : Level) (d : ℕ) {i at : ℕ} → In s rs fs ns from i d at word.rbrace_key (state l true)
        → JudgedReading s Else (λ _ e. AfterStatement l d e) (else_t s rs fs ns from inner d at (token_at s at))
    else_judged l d {i} {at} I =
        judged_pick (eqb (key_at s at) word.else_key) _ _
        (λ t. let k = eqb-true (key_at s at) word.else_key t in
        judged_on (braces_t s rs fs ns from inner d (token_at s (token_at s at).end)) _
        (braces_judged d (state l false)
        (steady_on s rs fs ns from I word.else_key (token word.lbrace_key (inside false (state l false))) k refl
        (ap (λ k. take (state l true) k) k ∙ else_taken l)))
        λ b e _ (j, J). fine (finished l d e j word.rbrace_key refl J))
        λ t. fine (i, word.rbrace_key, true, refl, rw t, I)

    statement_judged_by : (l : Level) (d : ℕ) {i at x : ℕ} {b : Rest} → In s rs fs ns from i d at x b → (free x ≡ true)
        → eqb (key_at s at) word.rbrace_key || eqb (key_at s at) 0 ≡ false → take b (key_at s at) ≡ begin false (key_at s at) (state l false) (state l true)
        → JudgedReading s Statement (λ _ e. AfterStatement l d e) (statement_t s rs fs ns from inner d at (token_at s at))
    statement_judged_by l d {i} {at} {x} {b} I n c h =
        let r = state l false in
        let q = state l true in
        judged_pick (eqb (key_at s at) word.skip_key) _ _
        (λ t. judged_map (ended_judged s rs fs ns from skip word.semicolon_key r (first_on word.skip_key (token word.semicolon_key r) t refl refl) refl refl
        (λ u. stuck_at (token word.semicolon_key r) (key_at s (token_at s at).end) refl (rw u))) λ _ e J. finished l d e (suc (suc i)) word.semicolon_key refl J)
        λ t₁. judged_pick (eqb (key_at s at) word.assume_key) _ _
        (λ t. judged_on (ended_condition s rs fs ns from (token_at s at).end) _
        (tested_judged s rs fs ns from F Y r (first_on word.assume_key (rest.condition (token word.semicolon_key r)) t refl refl) refl)
        λ _ e _ (j, J). fine (finished l d e j word.semicolon_key refl J))
        λ t₂. judged_pick (eqb (key_at s at) word.assert_key) _ _
        (λ t. judged_on (ended_condition s rs fs ns from (token_at s at).end) _
        (tested_judged s rs fs ns from F Y r (first_on word.assert_key (rest.condition (token word.semicolon_key r)) t refl refl) refl)
        λ _ e _ (j, J). fine (finished l d e j word.semicolon_key refl J))
        λ t₃. judged_pick (eqb (key_at s at) word.if_key) _ _
        (λ t. judged_on (condition s rs fs ns from (token_at s at).end) _
        (condition_judged s rs fs ns from F Y (token word.lbrace_key (inside false q))
        (first_on word.if_key (rest.condition (token word.lbrace_key (inside false q))) t refl refl) refl) λ _ a _ (j, y, m, J).
        judged_on (braces_t s rs fs ns from inner d (token_at s a)) _ (braces_judged d q J) λ _ e _ (j₂, J₂).
        judged_on (else_t s rs fs ns from inner d e (token_at s e)) _ (else_judged l d J₂) λ _ f _ A. fine A)
        λ t₄. judged_pick (eqb (key_at s at) word.while_key) _ _
        (λ t. judged_on (condition s rs fs ns from (token_at s at).end) _
        (condition_judged s rs fs ns from F Y (token word.lbrace_key (inside false r))
        (first_on word.while_key (rest.condition (token word.lbrace_key (inside false r))) t refl refl) refl) λ _ a _ (j, y, m, J).
        judged_on (braces_t s rs fs ns from inner d (token_at s a)) _ (braces_judged d r J) λ _ e _ (j₂, J₂). fine
        (finished l d e j₂ word.rbrace_key refl J₂))
        λ t₅. judged_pick (is_name (key_at s at)) _ _
        (λ t. judged_on (assignment s rs fs ns from at) _ (assignment_judged s rs fs ns from F Y r I n t (h ∙ rw t)) λ _ e _ (j, J). fine
        (finished l d e j word.semicolon_key refl J))
        λ t. unfit_judged s I.standing
        (record {
          end = λ z. absurd (eqb-false (key_at s at) 0 (or_false (eqb (key_at s at) word.rbrace_key) (eqb (key_at s at) 0) c).1 z);
          token =
              λ _. h ∙ rw (t, t₁, t₂, t₃, t₄, t₅, and_false (eqb (key_at s at) word.else_key));
        })
      where
        first_on : (k : ℕ) (q : Rest) → eqb (key_at s at) k ≡ true → steady k ≡ true → begin false k (state l false) (state l true) ≡ took q
            → In s rs fs ns from (suc i) d (token_at s at).end k q
        first_on k q t u g = let e = eqb-true (key_at s at) k t in
            steady_on s rs fs ns from I k q e u (h ∙ ap (λ k. begin false k (state l false) (state l true)) e ∙ g)

  mutual
    unfolding block

    pub block_judged : (k : ℕ) (l : Level) (d at i x : ℕ) (b : Rest) → In s rs fs ns from i d at x b → free x ≡ true → Stands l b (key_at s at)
        → JudgedReading s Block (λ _ e. AfterBlock l d e) (block s rs fs ns from k d at)
    block_judged zero l d at i x b I n S = never
    block_judged (suc k) l d at i x b I n S =
        judged_pick (closing s rs fs ns from (key_at s at)) _ _ (λ t. fine (i, x, b, n, S.shuts, S.ends, t, I))
        λ t. judged_on (statement s rs fs ns from k d at) _ (statement_judged k l d at i x b I n t (S.opens t)) λ c a _ (j, y, f, m, o, J).
        judged_on (block s rs fs ns from k d a) _ (block_judged k l d a j y (state l f) J m (stands l f (key_at s a) o)) λ _ e _ B. fine B

    statement_judged : (k : ℕ) (l : Level) (d at i x : ℕ) (b : Rest) → In s rs fs ns from i d at x b → (free x ≡ true)
        → eqb (key_at s at) word.rbrace_key || eqb (key_at s at) 0 ≡ false → take b (key_at s at) ≡ begin false (key_at s at) (state l false) (state l true)
        → JudgedReading s Statement (λ _ e. AfterStatement l d e) (statement s rs fs ns from k d at)
    statement_judged zero l d at i x b I n c h = never
    statement_judged (suc k) l d at i x b I n c h =
        statement_judged_by (λ d at. block s rs fs ns from k d at) (λ l d at i x b I n S. block_judged k l d at i x b I n S) l d I n c h
