-- The letters of every execution of a proper macro are of the right sorts.
use mathlib.Core.Path.{◌≡◌, refl, sym, subst}
use mathlib.Core.Logic.{◌⊎◌, inl, inr}
use Prim.Native.Nat.{ℕ}
use Rattle.letters.specs.declared.Header.{Header}
use Rattle.letters.specs.declared.Letter.{Letter}
use Rattle.letters.specs.declared.Letter.TheVariants.{Copy, Apply, Equal, Unequal}
use Rattle.semantics.specs.Terms.{Trace, begin, ◌▸◌}
use Rattle.macros.specs.Plain.{Condition, equal, unequal, test, opposite, Statement, skip, perform, assert, if, while, Else, absent, present, Block, empty}
use Rattle.macros.specs.Plain.{◌then◌}
use Rattle.macros.specs.Tree as macro
use Rattle.macros.specs.WrittenOut.{statement_before, written_else, block_before, written_out}
use Rattle.macros.specs.Executions.{Partial}
use Rattle.macros.specs.Order.{Branch, first, second}
use Rattle.macros.specs.Walk.{Place, at, failure, Move, no_move, move, Stand, nowhere, stand, take_move}
use Rattle.macros.proofs.Theory.Walk.{walk_keeps}
use Rattle.macros.proofs.Theory.Branches.{◌before◌, else_block, due, branches, partial_walk}
use Rattle.grammar.specs.Tree.{Condition as WrittenCondition, holds, fails, copy, apply, ProperCondition, Proper, ProperElse, ProperBlock}
use Rattle.grammar.specs.Tree as written
use Rattle.grammar.specs.Expanded.{result_register, application, comparison, after, expanded_statement, expanded_else, expanded_block}
use Rattle.grammar.proofs.Theory.Meanings.{before_written_out}
use Rattle.theorems.specs.Relations.{TestAsked, OfRightSort, right_copy, right_application, right_asking, right_equal, right_unequal, right_held}
use Rattle.theorems.specs.Relations.{right_failed, RightSorts}

-- ── blocks whose letters are of the right sorts ──
module _ (n t : ℕ) where
  -- whether a test was asked, after a letter and after a statement
  abbrev AskedAfter : Letter → Type 0 → Type 0
  AskedAfter (Copy x y) P = P
  AskedAfter (Apply x f y z) P = (x ≡ result_register n) ⊎ P
  AskedAfter (Equal x y) P = P
  AskedAfter (Unequal x y) P = P

  abbrev AskedBehind : Statement → Type 0 → Type 0
  AskedBehind skip P = P
  AskedBehind (perform a) P = AskedAfter a P
  AskedBehind (assert c) P = P
  AskedBehind (if c b e) P = P
  AskedBehind (while c b) P = P

  abbrev mutual
    RightStatement : Statement → Type 0 → Type 0
    RightStatement skip P = Unit {0}
    RightStatement (perform a) P = OfRightSort n t P a
    RightStatement (assert c) P = OfRightSort n t P (test c)
    RightStatement (if c b e) P = OfRightSort n t P (test c) × RightBlock b P × RightElse e P
    RightStatement (while c b) P = OfRightSort n t P (test c) × RightBlock b P

    RightElse : Else → Type 0 → Type 0
    RightElse absent P = Unit {0}
    RightElse (present b) P = RightBlock b P

    RightBlock : Block → Type 0 → Type 0
    RightBlock empty P = Unit {0}
    RightBlock (s then b) P = RightStatement s P × RightBlock b (AskedBehind s P)

  -- what is right stays right where more was asked
  right_letter : {P Q : Type 0} {a : Letter} → (P → Q) → OfRightSort n t P a → OfRightSort n t Q a
  right_letter g (right_copy p q) = right_copy p q
  right_letter g (right_application p q i j) = right_application p q i j
  right_letter g (right_asking p i j) = right_asking p i j
  right_letter g (right_equal p q) = right_equal p q
  right_letter g (right_unequal p q) = right_unequal p q
  right_letter g (right_held w) = right_held (g w)
  right_letter g (right_failed w) = right_failed (g w)

  asked_more : {P Q : Type 0} (a : Letter) → (P → Q) → AskedAfter a P → AskedAfter a Q
  asked_more (Copy x y) g w = g w
  asked_more (Apply x f y z) g w = elim w [ inl e ↦ inl e | inr v ↦ inr (g v) ]
  asked_more (Equal x y) g w = g w
  asked_more (Unequal x y) g w = g w

  asked_behind_more : {P Q : Type 0} (s : Statement) → (P → Q) → AskedBehind s P → AskedBehind s Q
  asked_behind_more skip g w = g w
  asked_behind_more (perform a) g w = asked_more a g w
  asked_behind_more (assert c) g w = g w
  asked_behind_more (if c b e) g w = g w
  asked_behind_more (while c b) g w = g w

  asked_stays : {P : Type 0} (a : Letter) → P → AskedAfter a P
  asked_stays (Copy x y) w = w
  asked_stays (Apply x f y z) w = inr w
  asked_stays (Equal x y) w = w
  asked_stays (Unequal x y) w = w

  asked_behind_stays : {P : Type 0} (s : Statement) → P → AskedBehind s P
  asked_behind_stays skip w = w
  asked_behind_stays (perform a) w = asked_stays a w
  asked_behind_stays (assert c) w = w
  asked_behind_stays (if c b e) w = w
  asked_behind_stays (while c b) w = w

  mutual
    more_statement : (s : Statement) {P Q : Type 0} → (P → Q) → RightStatement s P → RightStatement s Q
    more_statement skip g x = tt
    more_statement (perform a) g x = right_letter g x
    more_statement (assert c) g x = right_letter g x
    more_statement (if c b e) g x = (right_letter g x.0, more_block b g x.1, more_else e g x.2)
    more_statement (while c b) g x = (right_letter g x.0, more_block b g x.1)

    more_else : (e : Else) {P Q : Type 0} → (P → Q) → RightElse e P → RightElse e Q
    more_else absent g x = tt
    more_else (present b) g x = more_block b g x

    more_block : (b : Block) {P Q : Type 0} → (P → Q) → RightBlock b P → RightBlock b Q
    more_block empty g x = tt
    more_block (s then b) g x = (more_statement s g x.0, more_block b (asked_behind_more s g) x.1)

  -- ── executions of such blocks ──
  right_opposite : {P : Type 0} (c : Condition) → OfRightSort n t P (test c) → OfRightSort n t P (opposite c)
  right_opposite (equal x y) (right_equal p q) = right_unequal p q
  right_opposite (equal x y) (right_held w) = right_failed w
  right_opposite (unequal x y) (right_unequal p q) = right_equal p q
  right_opposite (unequal x y) (right_failed w) = right_held w

  asked_trace : (ρ : Trace) (a : Letter) → AskedAfter a (TestAsked n ρ) → TestAsked n (ρ ▸ a)
  asked_trace ρ (Copy x y) w = w
  asked_trace ρ (Apply x f y z) w = w
  asked_trace ρ (Equal x y) w = w
  asked_trace ρ (Unequal x y) w = w

  right_due : (P : Type 0) (b : Block) → RightBlock b P → RightBlock (due b) P
  right_due P empty x = x
  right_due P (skip then k) x = right_due P k x.1
  right_due P (perform a then k) x = x
  right_due P (assert c then k) x = x
  right_due P (if c b e then k) x = x
  right_due P (while c b then k) x = x

  right_before : (P : Type 0) (b k : Block) → RightBlock b P → RightBlock k P → RightBlock (b before k) P
  right_before P empty k x y = y
  right_before P (s then b) k x y = (x.0, right_before (AskedBehind s P) b k x.1 (more_block k (asked_behind_stays s) y))

  right_else : (P : Type 0) (e : Else) → RightElse e P → RightBlock (else_block e) P
  right_else P absent x = tt
  right_else P (present b) x = x

  abbrev RightPlace : Trace → Place Block → Type 0
  RightPlace ρ (at k) = RightBlock k (TestAsked n ρ)
  RightPlace ρ failure = Unit {0}

  abbrev RightMove : Trace → Move Block → Type 0
  RightMove ρ no_move = Unit {0}
  RightMove ρ (move a l) = OfRightSort n t (TestAsked n ρ) a × RightPlace (ρ ▸ a) l

  -- what is left after a letter
  right_onward : (ρ : Trace) (a : Letter) (k : Block) → RightBlock k (TestAsked n ρ) → RightBlock (due k) (TestAsked n (ρ ▸ a))
  right_onward ρ a k x = right_due (TestAsked n (ρ ▸ a)) k (more_block k (λ w. asked_trace ρ a (asked_stays a w)) x)

  right_branches : (k : Block) (ρ : Trace) (d : Branch) → RightBlock k (TestAsked n ρ) → RightMove ρ (branches k d)
  right_branches empty ρ d x = tt
  right_branches (skip then k) ρ d x = right_branches k ρ d x.1
  right_branches (perform a then k) ρ first x = (x.0, right_due (TestAsked n (ρ ▸ a)) k (more_block k (asked_trace ρ a) x.1))
  right_branches (perform a then k) ρ second x = tt
  right_branches (assert c then k) ρ first x = (right_opposite c x.0, tt)
  right_branches (assert c then k) ρ second x = (x.0, right_onward ρ (test c) k x.1)
  right_branches (if c b e then k) ρ first x = (x.0.0, right_onward ρ (test c) (b before k) (right_before (TestAsked n ρ) b k x.0.1 x.1))
  right_branches (if c b e then k) ρ second x =
      let r = right_before (TestAsked n ρ) (else_block e) k (right_else (TestAsked n ρ) e x.0.2) x.1 in
      (right_opposite c x.0.0, right_onward ρ (opposite c) (else_block e before k) r)
  right_branches (while c b then k) ρ first x =
      (x.0.0, right_onward ρ (test c) (b before (while c b then k)) (right_before (TestAsked n ρ) b (while c b then k) x.0.1 x))
  right_branches (while c b then k) ρ second x = (right_opposite c x.0.0, right_onward ρ (opposite c) k x.1)

  abbrev RightStand : Stand Block → Type 0
  RightStand nowhere = Unit {0}
  RightStand (stand l ρ) = RightSorts n t ρ × RightPlace ρ l

  right_take : (ρ : Trace) → RightSorts n t ρ → (y : Move Block) → RightMove ρ y → RightStand (take_move ρ y)
  right_take ρ s no_move x = tt
  right_take ρ s (move a l) x = ((s, x.0), x.1)

  -- The letters of an execution of a macro that is right written out are of the right sorts.
  right_executions : (h : Header) (m : macro.Block) → RightBlock (written_out m) ⊥ → (ρ : Trace) → Partial (begin h) m ρ → RightSorts n t ρ
  right_executions h m x ρ y =
      let (p, l, e) = (partial_walk (begin h) m ρ).0 y in
      (subst RightStand e
      (walk_keeps branches RightStand tt (λ k π d z. right_take π z.0 (branches k d) (right_branches k π d z.1)) (due (written_out m)) (begin h)
      (tt, right_due ⊥ (written_out m) x) p)).0

-- ── what a proper macro performs is right ──
module _ (h : Header) (t : ℕ) where
  abbrev declared_here : ℕ
  declared_here = h.registers

  -- behind an application into `result`
  abbrev Now : Type 0 → Type 0
  Now P = (declared_here ≡ declared_here) ⊎ P

  asking : (P : Type 0) (f y z : ℕ) → ProperCondition (holds f y z) h t → OfRightSort declared_here t P (Apply declared_here f y z)
  asking P f y z p = right_asking p.1 p.0.2 p.0.3

  -- a condition before a statement that is right where the condition's test may be made
  right_after : (P : Type 0) (c : WrittenCondition) → ProperCondition c h t → (s : macro.Statement) (k : Block)
      → ((Q : Type 0) → (P → Q) → OfRightSort declared_here t Q (test (comparison declared_here c)) → RightBlock declared_here t (statement_before s k) Q)
      → RightBlock declared_here t (block_before (after declared_here (application declared_here c) s) k) P
  unfolding statement_before
  right_after P (written.equal x y) p s k f = f P (λ w. w) (right_equal p.0 p.1)
  right_after P (written.unequal x y) p s k f = f P (λ w. w) (right_unequal p.0 p.1)
  right_after P (holds g y z) p s k f = (asking P g y z p, f (Now P) inr (right_held (inl refl)))
  right_after P (fails g y z) p s k f = (asking P g y z p, f (Now P) inr (right_failed (inl refl)))

  mutual
    unfolding statement_before expanded_statement

    right_statement : (P : Type 0) (s : written.Statement) → Proper s h t → (k : Block) → RightBlock declared_here t k P
        → RightBlock declared_here t (block_before (expanded_statement declared_here s) k) P
    right_statement P written.skip p k r = (tt, r)
    right_statement P (written.assign (copy x y)) p k r = (right_copy p.0 p.1, r)
    right_statement P (written.assign (apply x f y z)) p k r =
        (right_application p.0.0 p.1 p.0.2 p.0.3, more_block declared_here t k inr r)
    right_statement P (written.assume c) p k r =
        right_after P c p (macro.perform (test (comparison declared_here c))) k
        λ Q g x. (x, more_block declared_here t k (λ w. asked_stays declared_here t (test (comparison declared_here c)) (g w)) r)
    right_statement P (written.assert c) p k r =
        right_after P c p (macro.assert (comparison declared_here c)) k λ Q g x. (x, more_block declared_here t k g r)
    right_statement P (written.if c b e) p k r =
        right_after P c p.0 (macro.if (comparison declared_here c) (expanded_block declared_here b) (expanded_else declared_here e)) k
        λ Q g x. ((x, right_block Q b p.1 empty tt, right_else_part Q e p.2), more_block declared_here t k g r)
    right_statement P (written.while (written.equal x y) b) p k r = ((right_equal p.0.0 p.0.1, right_block P b p.1 empty tt), r)
    right_statement P (written.while (written.unequal x y) b) p k r = ((right_unequal p.0.0 p.0.1, right_block P b p.1 empty tt), r)
    right_statement P (written.while (holds f y z) b) p k r =
        let body = right_block (Now P) b p.1 (perform (Apply declared_here f y z) then empty) (asking (Now P) f y z p.0, tt) in
        (asking P f y z p.0, ((right_held (inl refl), body), more_block declared_here t k inr r))
    right_statement P (written.while (fails f y z) b) p k r =
        let body = right_block (Now P) b p.1 (perform (Apply declared_here f y z) then empty) (asking (Now P) f y z p.0, tt) in
        (asking P f y z p.0, ((right_failed (inl refl), body), more_block declared_here t k inr r))

    right_else_part : (P : Type 0) (e : written.Else) → ProperElse e h t → RightElse declared_here t (written_else (expanded_else declared_here e)) P
    right_else_part P written.absent p = tt
    right_else_part P (written.present b) p = right_block P b p empty tt

    right_block : (P : Type 0) (b : written.Block) → ProperBlock b h t → (k : Block) → RightBlock declared_here t k P
        → RightBlock declared_here t (block_before (expanded_block declared_here b) k) P
    right_block P written.empty p k r = r
    right_block P (written.◌then◌ s b) p k r =
        subst (λ j. RightBlock declared_here t j P) (sym (before_written_out (expanded_statement declared_here s) (expanded_block declared_here b) k))
        (right_statement P s p.0 (block_before (expanded_block declared_here b) k) (right_block P b p.1 k r))

  -- The letters of an execution are of the right sorts.
  pub expanded_sorts : (g : Header) (b : written.Block) → ProperBlock b h t → (ρ : Trace) → Partial (begin g) (expanded_block declared_here b) ρ
      → RightSorts declared_here t ρ
  expanded_sorts g b p = right_executions declared_here t g (expanded_block declared_here b) (right_block ⊥ b p empty tt)
