-- The definitions of specs/Relations.antt and of meanings hold of something and not of everything; and what follows for named tests. Register x is 0, or x
-- and y are 0 and 1; behind them are `result` and `truth`. There is no function, and the test `hot`, of one argument, is number 0.
use mathlib.Core.Path.{◌≡◌, refl, sym, ap₂, ◌∙◌}
use mathlib.Core.Logic.{inl}
use mathlib.Core.Bool.{Bool, true, false, true≢false, false≢true}
use mathlib.Core.List.Memᴰ
use Prim.Native.Nat.{ℕ, suc, ◌<◌}
use native.Mathlib.Omega.{arith}
use lib.Dec.{lit≤, lit<}
use Rattle.letters.specs.declared.Header.{Header}
use Rattle.letters.specs.declared.Letter.TheVariants.{Apply, Equal, Unequal}
use Rattle.letters.specs.Coding.{fits_test, apply_test}
use Rattle.semantics.specs.Terms.{con, app, Trace, begin, ◌▸◌, state}
use Rattle.semantics.specs.Models.{Feasible}
use Rattle.semantics.proofs.Theory.Judge.{formed_e}
use Rattle.macros.specs.Executions.{Outcome, done, failed}
use Rattle.grammar.specs.Tree.{Condition, holds, fails, apply, assign, assume, assert, while, Block, empty, ◌then◌}
use Rattle.grammar.specs.Meanings.{Meaning, Values, IsTrue, IsFalse, Runs, RunsBlock, ReachesFalseAssertion}
use Rattle.grammar.specs.MeaningOfTraces.{AllHold}
use Rattle.theorems.specs.Relations.{FeasibleWithRelations, OfRightSort, right_asking, right_equal, right_held, right_failed}
use Rattle.theorems.specs.Relations.{RightSorts, ModelsRelations}
use Rattle.theorems.proofs.Steps.RelationalModels.{feasible_alike}

-- n declared registers and the two hidden ones
abbrev header_of_hot : ℕ → Header
header_of_hot n = record { registers = suc (suc n); functions = 1; binary = 0 }

-- `hot` holds always, or never
abbrev constantly : Bool → Meaning {0}
constantly b = record { Value = Unit {0}; start = λ r. tt; table = λ f u v. tt; relation = λ f u v. b }

-- `assume hot(x);`
abbrev hot_assumed : Trace
hot_assumed = begin (header_of_hot 1) ▸ Apply 1 0 0 0 ▸ Equal 1 2

pub hot_may_hold : AllHold 1 (constantly true) hot_assumed
hot_may_hold = (tt, (λ e. refl, λ k. absurd (k refl)))

pub hot_may_fail : ¬ AllHold 1 (constantly false) hot_assumed
hot_may_fail (x, (g, h)) = false≢true (g refl)

pub its_sorts_are_right : RightSorts 1 0 hot_assumed
its_sorts_are_right = ((tt, right_asking (lit≤ tt) (lit< tt) (lit< tt)), right_held (inl refl))

-- Without the application `result` would be compared where no test was asked.
pub not_before_a_test : ¬ RightSorts 1 0 (begin (header_of_hot 1) ▸ Equal 1 2)
not_before_a_test (s, right_equal p q) = omega arith
not_before_a_test (s, right_held w) = w

-- A model of one value is none of a test that fails.
pub one_value_is_too_few : ¬ ModelsRelations 0 0 (constantly false) (record { Value = Unit {0}; start = λ r. tt; table = λ f u v. tt })
one_value_is_too_few c = false≢true ((c.tests 0 tt tt (lit≤ tt)).0 refl)

-- `assume x = y; assume hot(x); assume !hot(y);`: a test answers equally of equal values. No data model satisfies it, and so, by the theorem, no meaning.
abbrev both_ways : Trace
both_ways = begin (header_of_hot 2) ▸ Equal 0 1 ▸ Apply 2 0 0 0 ▸ Equal 2 3 ▸ Apply 2 0 1 1 ▸ Unequal 2 3

both_ways_is_infeasible : ¬ Feasible (state both_ways)
both_ways_is_infeasible (M, x) =
    let same : M.start 0 ≡ M.start 1 = x.equal_hold (con 0) (con 1) (Memᴰ.tail (Memᴰ.head refl)) in
    let hot : M.table 0 (M.start 0) (M.start 0) ≡ M.start 3 = x.equal_hold (app 0 (con 0) (con 0)) (con 3) (Memᴰ.head refl) in
    x.unequal_hold (app 0 (con 1) (con 1)) (con 3) (Memᴰ.head refl) (ap₂ (M.table 0) (sym same) (sym same) ∙ hot)

pub a_test_answers_equally {ℓ} : (R : Meaning {ℓ}) → ¬ AllHold 2 R both_ways
unfolding fits_test apply_test
a_test_answers_equally R x = both_ways_is_infeasible ((feasible_alike {ℓ} 2 0 both_ways sorts (formed_e both_ways tt)).1 (R, x))
  where
    hot_asked : (P : Type 0) (y : ℕ) → y < 2 → OfRightSort 2 0 P (Apply 2 0 y y)
    hot_asked P y l = right_asking (lit≤ tt) l l

    sorts : RightSorts 2 0 both_ways
    sorts = (((((tt, right_equal (lit< tt) (lit< tt)), hot_asked _ 0 (lit< tt)), right_held (inl refl)), hot_asked _ 1 (lit< tt)), right_failed (inl refl))

pub no_meaning_is_enough {ℓ} : ¬ FeasibleWithRelations {ℓ} 2 both_ways
no_meaning_is_enough (R, x) = a_test_answers_equally R x

-- ── macros as they are written ──
-- `assert hot(x);` is false with some meaning,
pub hot_need_not_hold : ReachesFalseAssertion (constantly false) (assert (holds 0 0 0) then empty)
hot_need_not_hold = (λ r. tt, RunsBlock.ends (Runs.violates (IsFalse.test_fails refl)))

-- and `assume hot(x); assert hot(x);` with none.
pub what_is_assumed_holds {ℓ} : (R : Meaning {ℓ}) → ¬ ReachesFalseAssertion R (assume (holds 0 0 0) then assert (holds 0 0 0) then empty)
what_is_assumed_holds R (w, x) = refuted x
  where
    asserted : {v u : Values R} → R.relation 0 (v 0) (v 0) ≡ true → ¬ RunsBlock R (assert (holds 0 0 0) then empty) v u failed
    asserted e (RunsBlock.ends (Runs.violates (IsFalse.test_fails d))) = true≢false (sym e ∙ d)
    asserted e (RunsBlock.both _ x) = elim x [ ]

    refuted : {v u : Values R} → ¬ RunsBlock R (assume (holds 0 0 0) then assert (holds 0 0 0) then empty) v u failed
    refuted (RunsBlock.both (Runs.assumes (IsTrue.test_holds e)) y) = asserted e y
    refuted (RunsBlock.ends x) = elim x [ ]

-- A while asks at every turn: behind `while hot(x) { x := cool(x); }`, where `cool` is function 0 and `hot` test 1, `assert !hot(x);` is never false.
left_false {ℓ} : (R : Meaning {ℓ}) {c : Condition} {b : Block} {v w : Values R} → Runs R (while c b) v w done → IsFalse R w c
left_false R (Runs.leaves y) = y
left_false R (Runs.turns y x z) = left_false R z

pub cooled_until_not_hot {ℓ} : (R : Meaning {ℓ})
    → ¬ ReachesFalseAssertion R (while (holds 1 0 0) (assign (apply 0 0 0 0) then empty) then assert (fails 1 0 0) then empty)
cooled_until_not_hot R (w, x) = refuted x
  where
    cooled : {v u : Values R} {o : Outcome} → RunsBlock R (assign (apply 0 0 0 0) then empty) v u o → o ≡ done
    cooled (RunsBlock.both (Runs.assigns e) RunsBlock.stop) = refl
    cooled (RunsBlock.ends x) = elim x [ ]

    looped : {v u : Values R} → ¬ Runs R (while (holds 1 0 0) (assign (apply 0 0 0 0) then empty)) v u failed
    looped (Runs.turns y x z) = looped z
    looped (Runs.breaks y x) = let e = cooled x in absurd (let z : ◌≡◌ {A = ℕ} 0 1 = cc in omega arith)

    not_hot : {v : Values R} → IsFalse R v (holds 1 0 0) → R.relation 1 (v 0) (v 0) ≡ false
    not_hot (IsFalse.test_fails e) = e

    asserted : {v u : Values R} → R.relation 1 (v 0) (v 0) ≡ false → ¬ RunsBlock R (assert (fails 1 0 0) then empty) v u failed
    asserted e (RunsBlock.ends (Runs.violates (IsFalse.test_holds d))) = true≢false (sym d ∙ e)
    asserted e (RunsBlock.both _ x) = elim x [ ]

    refuted : {v u : Values R}
        → ¬ RunsBlock R (while (holds 1 0 0) (assign (apply 0 0 0 0) then empty) then assert (fails 1 0 0) then empty) v u failed
    refuted (RunsBlock.both x y) = asserted (not_hot (left_false R x)) y
    refuted (RunsBlock.ends x) = looped x
