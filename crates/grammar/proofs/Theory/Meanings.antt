-- A macro does with each meaning of its functions and tests what its expansion does: what is run as it is written is an execution whose tests all hold, and
-- the reverse.
use mathlib.Core.Path.{◌≡◌, refl, sym, ap, ◌∙◌, subst}
use mathlib.Core.Logic.{◌⊎◌, inl, inr, ◌↔◌, ◌≢◌}
use mathlib.Core.Bool.{true, false, cond}
use mathlib.Core.Option.{Option, none, some}
use Prim.Native.Nat.{ℕ, ◌<◌}
use native.Mathlib.Omega.{arith}
use lib.Dec.{eqb}
use borrow.Author.Tests.{ne_eqb, eq-eqb}
use Rattle.base.specs.Choice.{pick}
use Rattle.letters.specs.declared.Header.{Header}
use Rattle.letters.specs.declared.Letter.{Letter}
use Rattle.letters.specs.declared.Letter.TheVariants.{Copy, Apply, Equal, Unequal}
use Rattle.semantics.specs.Terms.{Trace, begin, ◌▸◌}
use Rattle.macros.specs.Plain as plain
use Rattle.macros.specs.Tree.{test, opposite}
use Rattle.macros.specs.Tree as macro
use Rattle.macros.specs.WrittenOut.{statement_before, written_else, block_before, written_out}
use Rattle.macros.specs.Executions.{Outcome, done, failed, Exec, ExecElse, ExecBlock, Begins, whole, before}
use Rattle.macros.proofs.Theory.Executions.{exec_begins, else_begins, block_begins}
use Rattle.grammar.specs.Tree.{Condition, equal, unequal, holds, fails, Assignment, copy, apply, letter_of, Statement, skip, assign, assume, assert, if}
use Rattle.grammar.specs.Tree.{while, Else, absent, present, Block, empty, ◌then◌, ProperAssignment, ProperCondition, Proper, ProperElse, ProperBlock}
use Rattle.grammar.specs.Expanded.{application, comparison, after, expanded_statement, expanded_else, expanded_block}
use Rattle.grammar.specs.Expanded as expansion
use Rattle.grammar.specs.Meanings.{Meaning, Values, IsTrue, IsFalse, assigned, Runs, RunsElse, RunsBlock}
use Rattle.grammar.specs.MeaningOfTraces.{value_in, last_held, AllHold}

-- ── parts of what is written out ──
pub before_written_out : (a b : macro.Block) (k : plain.Block) → block_before (expansion.◌before◌ a b) k ≡ block_before a (block_before b k)
unfolding statement_before
before_written_out macro.empty b k = refl
before_written_out (macro.◌then◌ s a) b k = ap (statement_before s) (before_written_out a b k)

letter_first : {a : Letter} {j : plain.Block} {ρ τ : Trace} {o : Outcome} → ExecBlock (plain.◌then◌ (plain.perform a) j) ρ τ o → ExecBlock j (ρ ▸ a) τ o
letter_first (ExecBlock.both Exec.letter e) = e
letter_first (ExecBlock.ends x) = elim x [ ]

-- ── what a condition says ──
module _ {ℓ} {R : Meaning {ℓ}} {v : Values R} where
  true_equal : {x y : ℕ} → IsTrue R v (equal x y) → v x ≡ v y
  true_equal (IsTrue.are_equal e) = e

  true_unequal : {x y : ℕ} → IsTrue R v (unequal x y) → ¬ (v x ≡ v y)
  true_unequal (IsTrue.are_unequal e) = e

  true_holds : {f y z : ℕ} → IsTrue R v (holds f y z) → R.relation f (v y) (v z) ≡ true
  true_holds (IsTrue.test_holds e) = e

  true_fails : {f y z : ℕ} → IsTrue R v (fails f y z) → R.relation f (v y) (v z) ≡ false
  true_fails (IsTrue.test_fails e) = e

  false_equal : {x y : ℕ} → IsFalse R v (equal x y) → ¬ (v x ≡ v y)
  false_equal (IsFalse.are_unequal e) = e

  false_unequal : {x y : ℕ} → IsFalse R v (unequal x y) → v x ≡ v y
  false_unequal (IsFalse.are_equal e) = e

  false_holds : {f y z : ℕ} → IsFalse R v (holds f y z) → R.relation f (v y) (v z) ≡ false
  false_holds (IsFalse.test_fails e) = e

  false_fails : {f y z : ℕ} → IsFalse R v (fails f y z) → R.relation f (v y) (v z) ≡ true
  false_fails (IsFalse.test_holds e) = e

stopped : {π τ : Trace} {o : Outcome} → ExecBlock plain.empty π τ o → (τ ≡ π) × (o ≡ done)
stopped ExecBlock.stop = (refl, refl)

none_executed : {ρ τ : Trace} {o : Outcome} → ExecElse plain.absent ρ τ o → (τ ≡ ρ) × (o ≡ done)
none_executed ExecElse.none = (refl, refl)

some_executed : {b : plain.Block} {ρ τ : Trace} {o : Outcome} → ExecElse (plain.present b) ρ τ o → ExecBlock b ρ τ o
some_executed (ExecElse.some e) = e

done_not_failed : done ≡ failed → ⊥
done_not_failed e = absurd (let z : ◌≡◌ {A = ℕ} 0 1 = cc in omega arith)

statement_first : {s : plain.Statement} {k : plain.Block} {ρ τ : Trace} {o : Outcome} → ExecBlock (plain.◌then◌ s k) ρ τ o
    → ((π : Trace) × Exec s ρ π done × ExecBlock k π τ o) ⊎ (Exec s ρ τ failed × (o ≡ failed))
statement_first (ExecBlock.both {π} x y) = inl (π, x, y)
statement_first (ExecBlock.ends x) = inr (x, refl)

module _ {ℓ} (h : Header) (t : ℕ) (R : Meaning {ℓ}) where
  abbrev declared : ℕ
  declared = h.registers

  abbrev Hold : Trace → Type ℓ
  Hold = AllHold declared R

  -- what holds of all tests holds of those of a beginning
  one_fewer : (π : Trace) (a : Letter) → Hold (π ▸ a) → Hold π
  one_fewer π (Copy x y) e = e
  one_fewer π (Apply x f y z) e = e
  one_fewer π (Equal x y) e = e.0
  one_fewer π (Unequal x y) e = e.0

  hold_before : {π τ : Trace} → Begins π τ → Hold τ → Hold π
  hold_before whole e = e
  hold_before (before {π = τ} {a} b) e = hold_before b (one_fewer τ a e)

  -- ── the values of the declared registers ──
  abbrev Agrees : Values R → Trace → Type ℓ
  Agrees v ρ = (r : ℕ) → r < declared → v r ≡ value_in R ρ r

  abbrev behind : Trace → Option Letter → Trace
  behind ρ none = ρ
  behind ρ (some a) = ρ ▸ a

  -- a trace, and the application that a condition performs before its test
  abbrev asked : Trace → Condition → Trace
  asked ρ c = behind ρ (application declared c)

  test_leaves : (c : macro.Condition) (ρ : Trace) (r : ℕ) → value_in R (ρ ▸ test c) r ≡ value_in R ρ r
  test_leaves (macro.equal x y) ρ r = refl
  test_leaves (macro.unequal x y) ρ r = refl

  opposite_leaves : (c : macro.Condition) (ρ : Trace) (r : ℕ) → value_in R (ρ ▸ opposite c) r ≡ value_in R ρ r
  opposite_leaves (macro.equal x y) ρ r = refl
  opposite_leaves (macro.unequal x y) ρ r = refl

  asking_leaves : (ρ : Trace) (r f y z : ℕ) → r < declared → value_in R (ρ ▸ Apply declared f y z) r ≡ value_in R ρ r
  asking_leaves ρ r f y z l =
      ap (λ b. pick b (λ _. R.table f (value_in R ρ y) (value_in R ρ z)) λ _. value_in R ρ r) (ne_eqb r declared λ k. omega arith)

  agrees_asked : (c : Condition) (v : Values R) (ρ : Trace) → Agrees v ρ → Agrees v (asked ρ c)
  agrees_asked (equal x y) v ρ g = g
  agrees_asked (unequal x y) v ρ g = g
  agrees_asked (holds f y z) v ρ g = λ r l. g r l ∙ sym (asking_leaves ρ r f y z l)
  agrees_asked (fails f y z) v ρ g = λ r l. g r l ∙ sym (asking_leaves ρ r f y z l)

  agrees_true : (c : Condition) (v : Values R) (ρ : Trace) → Agrees v ρ → Agrees v (asked ρ c ▸ test (comparison declared c))
  agrees_true c v ρ g = λ r l. agrees_asked c v ρ g r l ∙ sym (test_leaves (comparison declared c) (asked ρ c) r)

  agrees_false : (c : Condition) (v : Values R) (ρ : Trace) → Agrees v ρ → Agrees v (asked ρ c ▸ opposite (comparison declared c))
  agrees_false c v ρ g = λ r l. agrees_asked c v ρ g r l ∙ sym (opposite_leaves (comparison declared c) (asked ρ c) r)

  agrees_assigned : (a : Assignment) → ProperAssignment a h t → (v : Values R) (ρ : Trace) → Agrees v ρ → Agrees (assigned R a v) (ρ ▸ letter_of a)
  agrees_assigned (copy x y) p v ρ g = λ r l. g (cond (eqb r x) y r) (elim (eqb r x) as (λ b. cond b y r < declared) [ true ↦ p.1 | false ↦ l ])
  agrees_assigned (apply x f y z) p v ρ g = λ r l i. pick (eqb r x) (λ _. R.table f (g y p.0.2 i) (g z p.0.3 i)) λ _. g r l i

  hold_assigned : (a : Assignment) (ρ : Trace) → Hold ρ → Hold (ρ ▸ letter_of a)
  hold_assigned (copy x y) ρ e = e
  hold_assigned (apply x f y z) ρ e = e

  -- ── conditions ──
  not_result : {x : ℕ} → x < declared → x ≢ declared
  not_result l k = omega arith

  answered : (v : Values R) (ρ : Trace) → Agrees v ρ → (f y z : ℕ) → y < declared → z < declared
      → last_held declared R (ρ ▸ Apply declared f y z) ≡ R.relation f (v y) (v z)
  answered v ρ g f y z p q =
      ap (λ b. pick b (λ _. R.relation f (value_in R ρ y) (value_in R ρ z)) λ _. last_held declared R ρ) (eq-eqb declared declared refl)
      ∙ λ i. R.relation f (sym (g y p) i) (sym (g z q) i)

  -- All tests hold, with that of a condition, exactly if they did before and the condition is true;
  condition_true : (c : Condition) → ProperCondition c h t → (v : Values R) (ρ : Trace) → Agrees v ρ
      → Hold (asked ρ c ▸ test (comparison declared c)) ↔ (Hold ρ × IsTrue R v c)
  condition_true (equal x y) p v ρ g = (
    λ e. (e.0, IsTrue.are_equal (g x p.0 ∙ e.1.1 (not_result p.0) ∙ sym (g y p.1))),
    λ (a, w'). (a, (λ k. absurd (not_result p.0 k), λ k. sym (g x p.0) ∙ true_equal w' ∙ g y p.1)),
  )
  condition_true (unequal x y) p v ρ g = (
    λ e. (e.0, IsTrue.are_unequal λ d. e.1.1 (not_result p.0) (sym (g x p.0) ∙ d ∙ g y p.1)),
    λ (a, w'). (a, (λ k. absurd (not_result p.0 k), λ k d. true_unequal w' (g x p.0 ∙ d ∙ sym (g y p.1)))),
  )
  condition_true (holds f y z) p v ρ g =
      let w = answered v ρ g f y z p.0.2 p.0.3 in (
        λ e. (e.0, IsTrue.test_holds (sym w ∙ e.1.0 refl)),
        λ (a, w'). (a, (λ k. w ∙ true_holds w', λ k. absurd (k refl))),
      )
  condition_true (fails f y z) p v ρ g =
      let w = answered v ρ g f y z p.0.2 p.0.3 in (
        λ e. (e.0, IsTrue.test_fails (sym w ∙ e.1.0 refl)),
        λ (a, w'). (a, (λ k. w ∙ true_fails w', λ k. absurd (k refl))),
      )

  -- with that of its opposite exactly if it is false.
  condition_false : (c : Condition) → ProperCondition c h t → (v : Values R) (ρ : Trace) → Agrees v ρ
      → Hold (asked ρ c ▸ opposite (comparison declared c)) ↔ (Hold ρ × IsFalse R v c)
  condition_false (equal x y) p v ρ g = (
    λ e. (e.0, IsFalse.are_unequal λ d. e.1.1 (not_result p.0) (sym (g x p.0) ∙ d ∙ g y p.1)),
    λ (a, w'). (a, (λ k. absurd (not_result p.0 k), λ k d. false_equal w' (g x p.0 ∙ d ∙ sym (g y p.1)))),
  )
  condition_false (unequal x y) p v ρ g = (
    λ e. (e.0, IsFalse.are_equal (g x p.0 ∙ e.1.1 (not_result p.0) ∙ sym (g y p.1))),
    λ (a, w'). (a, (λ k. absurd (not_result p.0 k), λ k. sym (g x p.0) ∙ false_unequal w' ∙ g y p.1)),
  )
  condition_false (holds f y z) p v ρ g =
      let w = answered v ρ g f y z p.0.2 p.0.3 in (
        λ e. (e.0, IsFalse.test_fails (sym w ∙ e.1.0 refl)),
        λ (a, w'). (a, (λ k. w ∙ false_holds w', λ k. absurd (k refl))),
      )
  condition_false (fails f y z) p v ρ g =
      let w = answered v ρ g f y z p.0.2 p.0.3 in (
        λ e. (e.0, IsFalse.test_holds (sym w ∙ e.1.0 refl)),
        λ (a, w'). (a, (λ k. w ∙ false_fails w', λ k. absurd (k refl))),
      )

  -- ── where a condition's application is performed ──
  after_asked : (c : Condition) (s : macro.Statement) (k : plain.Block) (ρ τ : Trace) (o : Outcome)
      → ExecBlock (statement_before s k) (asked ρ c) τ o ↔ ExecBlock (block_before (after declared (application declared c) s) k) ρ τ o
  unfolding statement_before
  after_asked (equal x y) s k ρ τ o = (λ e. e, λ e. e)
  after_asked (unequal x y) s k ρ τ o = (λ e. e, λ e. e)
  after_asked (holds f y z) s k ρ τ o = (λ e. ExecBlock.both Exec.letter e, letter_first)
  after_asked (fails f y z) s k ρ τ o = (λ e. ExecBlock.both Exec.letter e, letter_first)

  -- a while as it is written out, behind the first application of its test
  abbrev again : Option Letter → plain.Block
  again none = plain.empty
  again (some a) = plain.◌then◌ (plain.perform a) plain.empty

  abbrev loop_of : Condition → Block → plain.Statement
  loop_of c b = plain.while (comparison declared c) (block_before (expanded_block declared b) (again (application declared c)))

  while_asked : (c : Condition) (b : Block) (k : plain.Block) (ρ τ : Trace) (o : Outcome)
      → ExecBlock (plain.◌then◌ (loop_of c b) k) (asked ρ c) τ o ↔ ExecBlock (block_before (expanded_statement declared (while c b)) k) ρ τ o
  unfolding statement_before expanded_statement
  while_asked (equal x y) b k ρ τ o = (λ e. e, λ e. e)
  while_asked (unequal x y) b k ρ τ o = (λ e. e, λ e. e)
  while_asked (holds f y z) b k ρ τ o = (λ e. ExecBlock.both Exec.letter e, letter_first)
  while_asked (fails f y z) b k ρ τ o = (λ e. ExecBlock.both Exec.letter e, letter_first)

  asked_again : (c : Condition) (π : Trace) → ExecBlock (again (application declared c)) π (asked π c) done
  asked_again (equal x y) π = ExecBlock.stop
  asked_again (unequal x y) π = ExecBlock.stop
  asked_again (holds f y z) π = ExecBlock.both Exec.letter ExecBlock.stop
  asked_again (fails f y z) π = ExecBlock.both Exec.letter ExecBlock.stop

  asked_once : (c : Condition) {π τ : Trace} {o : Outcome} → ExecBlock (again (application declared c)) π τ o → (τ ≡ asked π c) × (o ≡ done)
  asked_once (equal x y) e = stopped e
  asked_once (unequal x y) e = stopped e
  asked_once (holds f y z) e = stopped (letter_first e)
  asked_once (fails f y z) e = stopped (letter_first e)

  -- ── what is run is an execution ──
  -- how an execution goes on behind a part, which is written out as j before k
  abbrev Onward : Outcome → plain.Block → plain.Block → Trace → Trace → Type 0
  Onward done j k ρ π = (τ : Trace) (o : Outcome) → ExecBlock k π τ o → ExecBlock j ρ τ o
  Onward failed j k ρ π = ExecBlock j ρ π failed

  record Performed (F : plain.Block → plain.Block) (ρ : Trace) (w : Values R) (o : Outcome) : Type ℓ where
    to : Trace
    all_hold : Hold to
    agrees : Agrees w to
    onward : (k : plain.Block) → Onward o (F k) k ρ to

  statement_onward : (o : Outcome) {s : plain.Statement} {ρ π : Trace} → Exec s ρ π o → (k : plain.Block) → Onward o (plain.◌then◌ s k) k ρ π
  statement_onward done e k = λ τ o x. ExecBlock.both e x
  statement_onward failed e k = ExecBlock.ends e

  -- a block by itself
  closed : (o : Outcome) (F : plain.Block → plain.Block) (ρ π : Trace) → ((k : plain.Block) → Onward o (F k) k ρ π) → ExecBlock (F plain.empty) ρ π o
  closed done F ρ π f = f plain.empty π done ExecBlock.stop
  closed failed F ρ π f = f plain.empty

  asked_onward : (o : Outcome) (c : Condition) (s : macro.Statement) (k : plain.Block) (ρ π : Trace)
      → Onward o (statement_before s k) k (asked ρ c) π → Onward o (block_before (after declared (application declared c) s) k) k ρ π
  asked_onward done c s k ρ π f = λ τ o x. (after_asked c s k ρ τ o).0 (f τ o x)
  asked_onward failed c s k ρ π f = (after_asked c s k ρ π failed).0 f

  while_onward : (o : Outcome) (c : Condition) (b : Block) (k : plain.Block) (ρ π : Trace) → Exec (loop_of c b) (asked ρ c) π o
      → Onward o (block_before (expanded_statement declared (while c b)) k) k ρ π
  while_onward done c b k ρ π e = λ τ o x. (while_asked c b k ρ τ o).0 (ExecBlock.both e x)
  while_onward failed c b k ρ π e = (while_asked c b k ρ π failed).0 (ExecBlock.ends e)

  joined : (o : Outcome) (a b : macro.Block) (k : plain.Block) (ρ π τ : Trace) → ((j : plain.Block) → Onward done (block_before a j) j ρ π)
      → Onward o (block_before b k) k π τ → Onward o (block_before (expansion.◌before◌ a b) k) k ρ τ
  joined done a b k ρ π τ f g = λ u o x. subst (λ j. ExecBlock j ρ u o) (sym (before_written_out a b k)) (f (block_before b k) u o (g u o x))
  joined failed a b k ρ π τ f g = subst (λ j. ExecBlock j ρ τ failed) (sym (before_written_out a b k)) (f (block_before b k) τ failed g)

  -- what running a statement gives: of a while, the execution of the loop behind the first application
  abbrev Looped : Condition → Block → Trace → Values R → Outcome → Type ℓ
  Looped c b ρ w o = (π : Trace) × Hold π × Agrees w π × Exec (loop_of c b) (asked ρ c) π o

  abbrev StatementPerformed : Statement → Trace → Values R → Outcome → Type ℓ
  StatementPerformed skip ρ w o = Performed (block_before (expanded_statement declared skip)) ρ w o
  StatementPerformed (assign a) ρ w o = Performed (block_before (expanded_statement declared (assign a))) ρ w o
  StatementPerformed (assume c) ρ w o = Performed (block_before (expanded_statement declared (assume c))) ρ w o
  StatementPerformed (assert c) ρ w o = Performed (block_before (expanded_statement declared (assert c))) ρ w o
  StatementPerformed (if c b e) ρ w o = Performed (block_before (expanded_statement declared (if c b e))) ρ w o
  StatementPerformed (while c b) ρ w o = Looped c b ρ w o

  performed : (s : Statement) {ρ : Trace} {w : Values R} {o : Outcome} → StatementPerformed s ρ w o
      → Performed (block_before (expanded_statement declared s)) ρ w o
  performed skip r = r
  performed (assign a) r = r
  performed (assume c) r = r
  performed (assert c) r = r
  performed (if c b e) r = r
  performed (while c b) {ρ} {o} (π, i, j, e) = record { to = π; all_hold = i; agrees = j; onward = λ k. while_onward o c b k ρ π e }

  mutual
    unfolding statement_before expanded_statement

    run_statement : {s : Statement} {v w : Values R} {o : Outcome} → Proper s h t → Runs R s v w o → (ρ : Trace) → Hold ρ → Agrees v ρ
        → StatementPerformed s ρ w o
    run_statement p Runs.passes ρ a g = record { to = ρ; all_hold = a; agrees = g; onward = λ k τ o x. ExecBlock.both Exec.nothing x }
    run_statement p (Runs.assigns {a = s} {v} e) ρ a g = record {
      to = ρ ▸ letter_of s;
      all_hold = hold_assigned s ρ a;
      agrees = subst (λ u. Agrees u (ρ ▸ letter_of s)) (sym e) (agrees_assigned s p v ρ g);
      onward = λ k τ o x. ExecBlock.both Exec.letter x;
    }
    run_statement p (Runs.assumes {c} {v} y) ρ a g = record {
      to = asked ρ c ▸ test (comparison declared c);
      all_hold = (condition_true c p v ρ g).1 (a, y);
      agrees = agrees_true c v ρ g;
      onward = λ k. asked_onward done c (macro.perform (test (comparison declared c))) k ρ (asked ρ c ▸ test (comparison declared c))
          (statement_onward done Exec.letter k);
    }
    run_statement p (Runs.asserts {c} {v} y) ρ a g = record {
      to = asked ρ c ▸ test (comparison declared c);
      all_hold = (condition_true c p v ρ g).1 (a, y);
      agrees = agrees_true c v ρ g;
      onward = λ k. asked_onward done c (macro.assert (comparison declared c)) k ρ (asked ρ c ▸ test (comparison declared c))
          (statement_onward done (Exec.holds refl) k);
    }
    run_statement p (Runs.violates {c} {v} y) ρ a g = record {
      to = asked ρ c ▸ opposite (comparison declared c);
      all_hold = (condition_false c p v ρ g).1 (a, y);
      agrees = agrees_false c v ρ g;
      onward = λ k. asked_onward failed c (macro.assert (comparison declared c)) k ρ (asked ρ c ▸ opposite (comparison declared c))
          (statement_onward failed (Exec.fails refl) k);
    }
    run_statement p (Runs.first {c} {b} {e} {v} {o} y x) ρ a g =
        let r = run_block p.1 x (asked ρ c ▸ test (comparison declared c)) ((condition_true c p.0 v ρ g).1 (a, y)) (agrees_true c v ρ g) in
        let whole_block = closed o (block_before (expanded_block declared b)) (asked ρ c ▸ test (comparison declared c)) r.to r.onward in
        record {
          to = r.to;
          all_hold = r.all_hold;
          agrees = r.agrees;
          onward = λ k. asked_onward o c (macro.if (comparison declared c) (expanded_block declared b) (expanded_else declared e)) k ρ r.to
              (statement_onward o (Exec.first whole_block) k);
        }
    run_statement p (Runs.second {c} {b} {e} {v} {o} y x) ρ a g =
        let (π, i, j, z) = run_else p.2 x (asked ρ c ▸ opposite (comparison declared c)) ((condition_false c p.0 v ρ g).1 (a, y)) (agrees_false c v ρ g) in
        record {
          to = π;
          all_hold = i;
          agrees = j;
          onward = λ k. asked_onward o c (macro.if (comparison declared c) (expanded_block declared b) (expanded_else declared e)) k ρ π
              (statement_onward o (Exec.second z) k);
        }
    run_statement p (Runs.leaves {c} {v} y) ρ a g =
        (asked ρ c ▸ opposite (comparison declared c), (condition_false c p.0 v ρ g).1 (a, y), agrees_false c v ρ g, Exec.leaves refl)
    run_statement p (Runs.turns {c} {v} y x z) ρ a g =
        let r = run_block p.1 x (asked ρ c ▸ test (comparison declared c)) ((condition_true c p.0 v ρ g).1 (a, y)) (agrees_true c v ρ g) in
        let (π, i, j, e) = run_statement p z r.to r.all_hold r.agrees in
        (π, i, j, Exec.turns (r.onward (again (application declared c)) (asked r.to c) done (asked_again c r.to)) e)
    run_statement p (Runs.breaks {c} {v} y x) ρ a g =
        let r = run_block p.1 x (asked ρ c ▸ test (comparison declared c)) ((condition_true c p.0 v ρ g).1 (a, y)) (agrees_true c v ρ g) in
        (r.to, r.all_hold, r.agrees, Exec.breaks (r.onward (again (application declared c))))

    run_else : {e : Else} {v w : Values R} {o : Outcome} → ProperElse e h t → RunsElse R e v w o → (ρ : Trace) → Hold ρ → Agrees v ρ
        → (π : Trace) × Hold π × Agrees w π × ExecElse (written_else (expanded_else declared e)) ρ π o
    run_else p RunsElse.none ρ a g = (ρ, a, g, ExecElse.none)
    run_else p (RunsElse.some {b} {o} x) ρ a g =
        let r = run_block p x ρ a g in
        (r.to, r.all_hold, r.agrees, ExecElse.some (closed o (block_before (expanded_block declared b)) ρ r.to r.onward))

    run_block : {b : Block} {v w : Values R} {o : Outcome} → ProperBlock b h t → RunsBlock R b v w o → (ρ : Trace) → Hold ρ → Agrees v ρ
        → Performed (block_before (expanded_block declared b)) ρ w o
    run_block p RunsBlock.stop ρ a g = record { to = ρ; all_hold = a; agrees = g; onward = λ k τ o x. x }
    run_block p (RunsBlock.both {s} {b} {o} x y) ρ a g =
        let q = performed s (run_statement p.0 x ρ a g) in
        let r = run_block p.1 y q.to q.all_hold q.agrees in
        record {
          to = r.to;
          all_hold = r.all_hold;
          agrees = r.agrees;
          onward = λ k. joined o (expanded_statement declared s) (expanded_block declared b) k ρ q.to r.to q.onward (r.onward k);
        }
    run_block p (RunsBlock.ends {s} {b} x) ρ a g =
        let q = performed s (run_statement p.0 x ρ a g) in
        record {
          to = q.to;
          all_hold = q.all_hold;
          agrees = q.agrees;
          onward = λ k. subst (λ j. ExecBlock j ρ q.to failed) (sym (before_written_out (expanded_statement declared s) (expanded_block declared b) k))
              (q.onward (block_before (expanded_block declared b) k));
        }

  -- ── an execution whose tests all hold is run ──
  abbrev Ran : (Values R → Outcome → Type ℓ) → Trace → Outcome → Type ℓ
  Ran P τ o = (w : Values R) × P w o × Agrees w τ

  abbrev Came : (Values R → Outcome → Type ℓ) → plain.Block → Trace → Outcome → Type ℓ
  Came P k τ o = ((π : Trace) × Ran P π done × ExecBlock k π τ o) ⊎ (Ran P τ failed × (o ≡ failed))

  came_from : (P : Values R → Outcome → Type ℓ) (s : plain.Statement) (k : plain.Block) {ρ τ : Trace} {o : Outcome}
      → ((π : Trace) (o : Outcome) → Exec s ρ π o → Hold π → Ran P π o) → ExecBlock (plain.◌then◌ s k) ρ τ o → Hold τ → Came P k τ o
  came_from P s k {τ} f e a = elim (statement_first e) [
    | inl (π, x, y) ↦ inl (π, f π done x (hold_before (block_begins y) a), y)
    | inr (x, q) ↦ inr (f τ failed x a, q)
  ]

  came_closed : (P : Values R → Outcome → Type ℓ) {τ : Trace} {o : Outcome} → Came P plain.empty τ o → Ran P τ o
  came_closed P {τ} {o} (inl (π, (w, x, g), e)) =
      let (p, q) = stopped e in (w, subst (P w) (sym q) x, subst (Agrees w) (sym p) g)
  came_closed P (inr ((w, x, g), q)) = (w, subst (P w) (sym q) x, g)

  -- of single statements, behind the application of their condition
  skip_ran : {ρ π : Trace} {o : Outcome} → Exec plain.skip ρ π o → (v : Values R) → Agrees v ρ → Ran (Runs R skip v) π o
  skip_ran Exec.nothing v g = (v, Runs.passes, g)

  assign_ran : (s : Assignment) → ProperAssignment s h t → {ρ π : Trace} {o : Outcome} → Exec (plain.perform (letter_of s)) ρ π o
      → (v : Values R) → Agrees v ρ → Ran (Runs R (assign s) v) π o
  assign_ran s p {ρ} Exec.letter v g = (assigned R s v, Runs.assigns refl, agrees_assigned s p v ρ g)

  module _ (c : Condition) (p : ProperCondition c h t) (ρ : Trace) (v : Values R) (g : Agrees v ρ) where
    assume_ran : {σ π : Trace} {o : Outcome} → Exec (plain.perform (test (comparison declared c))) σ π o → σ ≡ asked ρ c → Hold π
        → Ran (Runs R (assume c) v) π o
    assume_ran Exec.letter s a =
        let y = ((condition_true c p v ρ g).0 (subst (λ u. Hold (u ▸ test (comparison declared c))) s a)).1 in
        (v, Runs.assumes y, subst (λ u. Agrees v (u ▸ test (comparison declared c))) (sym s) (agrees_true c v ρ g))

    assert_ran : {σ π : Trace} {o : Outcome} → Exec (plain.assert (comparison declared c)) σ π o → σ ≡ asked ρ c → Hold π → Ran (Runs R (assert c) v) π o
    assert_ran {σ} (Exec.holds e) s a =
        let y = ((condition_true c p v ρ g).0 (subst (λ u. Hold (u ▸ test (comparison declared c))) s (subst (λ b. Hold (σ ▸ b)) e a))).1 in
        let d = subst (λ u. Agrees v (u ▸ test (comparison declared c))) (sym s) (agrees_true c v ρ g) in
        (v, Runs.asserts y, subst (λ b. Agrees v (σ ▸ b)) (sym e) d)
    assert_ran {σ} (Exec.fails e) s a =
        let y = ((condition_false c p v ρ g).0 (subst (λ u. Hold (u ▸ opposite (comparison declared c))) s (subst (λ b. Hold (σ ▸ b)) e a))).1 in
        let d = subst (λ u. Agrees v (u ▸ opposite (comparison declared c))) (sym s) (agrees_false c v ρ g) in
        (v, Runs.violates y, subst (λ b. Agrees v (σ ▸ b)) (sym e) d)

    if_ran : (b : Block) (e : Else) {i : plain.Block} {j : plain.Else} {σ π : Trace} {o : Outcome}
        → ((ρ : Trace) → ExecBlock i ρ π o → Agrees v ρ → Ran (RunsBlock R b v) π o)
        → ((ρ : Trace) → ExecElse j ρ π o → Agrees v ρ → Ran (RunsElse R e v) π o)
        → Exec (plain.if (comparison declared c) i j) σ π o → σ ≡ asked ρ c → Hold π → Ran (Runs R (if c b e) v) π o
    if_ran b e {σ} {π} f k (Exec.first x) s a =
        let y = ((condition_true c p v ρ g).0 (subst (λ u. Hold (u ▸ test (comparison declared c))) s (hold_before (block_begins x) a))).1 in
        let i = subst (λ u. Agrees v (u ▸ test (comparison declared c))) (sym s) (agrees_true c v ρ g) in
        let (w, z, d) = f (σ ▸ test (comparison declared c)) x i in
        (w, Runs.first y z, d)
    if_ran b e {σ} {π} f k (Exec.second x) s a =
        let y = ((condition_false c p v ρ g).0 (subst (λ u. Hold (u ▸ opposite (comparison declared c))) s (hold_before (else_begins x) a))).1 in
        let i = subst (λ u. Agrees v (u ▸ opposite (comparison declared c))) (sym s) (agrees_false c v ρ g) in
        let (w, z, d) = k (σ ▸ opposite (comparison declared c)) x i in
        (w, Runs.second y z, d)

  came_then : (s : Statement) (b : Block) (v w : Values R) → Runs R s v w done → (k : plain.Block) (τ : Trace) (o : Outcome)
      → Came (RunsBlock R b w) k τ o → Came (RunsBlock R (s then b) v) k τ o
  came_then s b v w x k τ o (inl (π, (u, y, i), e)) = inl (π, (u, RunsBlock.both x y, i), e)
  came_then s b v w x k τ o (inr ((u, y, i), q)) = inr ((u, RunsBlock.both x y, i), q)

  -- of a block behind which k stands
  abbrev BlockCame : Block → plain.Block → Type ℓ
  BlockCame b k = (ρ τ : Trace) (o : Outcome) → ExecBlock (block_before (expanded_block declared b) k) ρ τ o → Hold τ → (v : Values R) → Agrees v ρ
      → Came (RunsBlock R b v) k τ o

  abbrev turned : Condition → Block → plain.Block
  turned c b = block_before (expanded_block declared b) (again (application declared c))

  -- the same of a while whose condition and block are equal to those
  while_ran : (c : Condition) (b : Block) → ProperCondition c h t → BlockCame b (again (application declared c))
      → {d : macro.Condition} {j : plain.Block} {σ π : Trace} {o : Outcome} → Exec (plain.while d j) σ π o → d ≡ comparison declared c → j ≡ turned c b
      → (ρ : Trace) → σ ≡ asked ρ c → Hold π → (v : Values R) → Agrees v ρ → Ran (Runs R (while c b) v) π o
  while_ran c b p f {d} {j} {σ} (Exec.leaves e₀) m n ρ s a v g =
      let e = e₀ ∙ ap opposite m in
      let y = ((condition_false c p v ρ g).0 (subst (λ u. Hold (u ▸ opposite (comparison declared c))) s (subst (λ b. Hold (σ ▸ b)) e a))).1 in
      let d = subst (λ u. Agrees v (u ▸ opposite (comparison declared c))) (sym s) (agrees_false c v ρ g) in
      (v, Runs.leaves y, subst (λ b. Agrees v (σ ▸ b)) (sym e) d)
  while_ran c b p f {d} {j} {σ} (Exec.turns {π} x₀ z) m n ρ s a v g =
      let here = hold_before (exec_begins z) a in
      let x = subst (λ u. ExecBlock (turned c b) (σ ▸ test u) π done) m (subst (λ u. ExecBlock u (σ ▸ test d) π done) n x₀) in
      let y = ((condition_true c p v ρ g).0 (subst (λ u. Hold (u ▸ test (comparison declared c))) s (hold_before (block_begins x) here))).1 in
      let d = subst (λ u. Agrees v (u ▸ test (comparison declared c))) (sym s) (agrees_true c v ρ g) in
      elim (f (σ ▸ test (comparison declared c)) π done x here v d) [
        | inl (π', (w, r, i), q) ↦ let (u, l, j) = while_ran c b p f z m n π' (asked_once c q).0 a w i in (u, Runs.turns y r l, j)
        | inr (r, q) ↦ absurd (done_not_failed q)
      ]
  while_ran c b p f {d} {j} {σ} {π} (Exec.breaks x₀) m n ρ s a v g =
      let x = subst (λ u. ExecBlock (turned c b) (σ ▸ test u) π failed) m (subst (λ u. ExecBlock u (σ ▸ test d) π failed) n x₀) in
      let y = ((condition_true c p v ρ g).0 (subst (λ u. Hold (u ▸ test (comparison declared c))) s (hold_before (block_begins x) a))).1 in
      let d = subst (λ u. Agrees v (u ▸ test (comparison declared c))) (sym s) (agrees_true c v ρ g) in
      elim (f (σ ▸ test (comparison declared c)) π failed x a v d) [
        | inl (π', r, q) ↦ absurd (done_not_failed (sym (asked_once c q).1))
        | inr ((w, r, i), q) ↦ (w, Runs.breaks y r, i)
      ]

  loop_ran : (c : Condition) (b : Block) → ProperCondition c h t → BlockCame b (again (application declared c)) → {σ π : Trace} {o : Outcome}
      → Exec (loop_of c b) σ π o → (ρ : Trace) → σ ≡ asked ρ c → Hold π → (v : Values R) → Agrees v ρ → Ran (Runs R (while c b) v) π o
  loop_ran c b p f x ρ s a v g = while_ran c b p f x refl refl ρ s a v g

  mutual
    unfolding statement_before expanded_statement

    came_statement : (s : Statement) → Proper s h t → (k : plain.Block) (ρ τ : Trace) (o : Outcome)
        → ExecBlock (block_before (expanded_statement declared s) k) ρ τ o → Hold τ → (v : Values R) → Agrees v ρ → Came (Runs R s v) k τ o
    came_statement skip p k ρ τ o e a v g = came_from (Runs R skip v) plain.skip k (λ π i x b. skip_ran x v g) e a
    came_statement (assign s) p k ρ τ o e a v g = came_from (Runs R (assign s) v) (plain.perform (letter_of s)) k (λ π i x b. assign_ran s p x v g) e a
    came_statement (assume c) p k ρ τ o e a v g =
        came_from (Runs R (assume c) v) (plain.perform (test (comparison declared c))) k (λ π i x b. assume_ran c p ρ v g x refl b)
        ((after_asked c (macro.perform (test (comparison declared c))) k ρ τ o).1 e) a
    came_statement (assert c) p k ρ τ o e a v g =
        came_from (Runs R (assert c) v) (plain.assert (comparison declared c)) k (λ π i x b. assert_ran c p ρ v g x refl b)
        ((after_asked c (macro.assert (comparison declared c)) k ρ τ o).1 e) a
    came_statement (if c b d) p k ρ τ o e a v g =
        came_from (Runs R (if c b d) v)
        (plain.if (comparison declared c) (block_before (expanded_block declared b) plain.empty) (written_else (expanded_else declared d))) k
        (λ π i x y. if_ran c p.0 ρ v g b d
        (λ σ z j. came_closed (RunsBlock R b v) (came_block b p.1 plain.empty σ π i z y v j))
        (λ σ z j. came_else d p.2 σ π i z y v j) x refl y)
        ((after_asked c (macro.if (comparison declared c) (expanded_block declared b) (expanded_else declared d)) k ρ τ o).1 e) a
    came_statement (while c b) p k ρ τ o e a v g =
        came_from (Runs R (while c b) v) (loop_of c b) k
        (λ π i x y. loop_ran c b p.0 (λ σ θ j z l u q. came_block b p.1 (again (application declared c)) σ θ j z l u q) x ρ refl y v g)
        ((while_asked c b k ρ τ o).1 e) a

    came_else : (d : Else) → ProperElse d h t → (ρ τ : Trace) (o : Outcome) → ExecElse (written_else (expanded_else declared d)) ρ τ o → Hold τ
        → (v : Values R) → Agrees v ρ → Ran (RunsElse R d v) τ o
    came_else absent p ρ τ o e a v g =
        let (q, r) = none_executed e in (v, subst (RunsElse R absent v v) (sym r) RunsElse.none, subst (Agrees v) (sym q) g)
    came_else (present b) p ρ τ o e a v g =
        let (w, x, i) = came_closed (RunsBlock R b v) (came_block b p plain.empty ρ τ o (some_executed e) a v g) in (w, RunsElse.some x, i)

    came_block : (b : Block) → ProperBlock b h t → (k : plain.Block) → BlockCame b k
    came_block empty p k ρ τ o e a v g = inl (ρ, (v, RunsBlock.stop, g), e)
    came_block (s then b) p k ρ τ o e a v g =
        let whole_first = subst (λ j. ExecBlock j ρ τ o) (before_written_out (expanded_statement declared s) (expanded_block declared b) k) e in
        elim (came_statement s p.0 (block_before (expanded_block declared b) k) ρ τ o whole_first a v g) [
          | inl (π, (w, x, i), y) ↦ came_then s b v w x k τ o (came_block b p.1 k π τ o y a w i)
          | inr ((w, x, i), q) ↦ inr ((w, RunsBlock.ends x, i), q)
        ]

  -- What is run as it is written, from the first values, is what is executed with all tests holding.
  pub runs_exactly : (b : Block) → ProperBlock b h t → (g : Header) (o : Outcome)
      → ((w : Values R) × RunsBlock R b R.start w o) ↔ ((ρ : Trace) × ExecBlock (written_out (expanded_block declared b)) (begin g) ρ o × AllHold declared R ρ)
  runs_exactly b p g o = (
    λ (w, x).
        let r = run_block p x (begin g) tt (λ i l. refl) in
        (r.to, closed o (block_before (expanded_block declared b)) (begin g) r.to r.onward, r.all_hold),
    λ (ρ, e, a). let (w, x, i) = came_closed (RunsBlock R b R.start) (came_block b p plain.empty (begin g) ρ o e a R.start λ i l. refl) in (w, x),
  )
