-- Named tests as relations (document 02, request 4): "As source document 000 models relations, such a test applies a function into the hidden register
-- `result` and compares that with the hidden register `truth` .. so a verdict covers every meaning that a test could have." A meaning of a test is a
-- relation (`Rattle.grammar.specs.Meanings`); here is what makes a data model of a meaning, and a meaning of a data model.
use Rattle.std.specs.Prelude.{◌≡◌, ◌⊎◌, ◌↔◌, Bool, true, ℕ, ◌≤◌, ◌<◌, eqb, ltb}
use Rattle.std.proofs.Common.{inl, inr}
use Rattle.std.proofs.Math.Logic.{Lift}
use Rattle.base.specs.Choice.{pick}
use Rattle.letters.specs.declared.Letter.{Letter}
use Rattle.letters.specs.declared.Letter.TheVariants.{Copy, Apply, Equal, Unequal}
use Rattle.semantics.specs.Terms.{Trace, begin, ◌▸◌}
use Rattle.semantics.specs.Models.{Model}
use Rattle.semantics.specs.AnyModel.{AnyModel}
use Rattle.grammar.specs.Expanded.{result_register, truth_register}
use Rattle.grammar.specs.Meanings.{Meaning}
use Rattle.grammar.specs.MeaningOfTraces.{AllHold}

-- Some meaning of functions and tests, over whatever values of this universe, satisfies all tests.
abbrev pub FeasibleWithRelations {ℓ} : ℕ → Trace → Type (ℓ + 1)
FeasibleWithRelations n ρ = (R : Meaning {ℓ}) × AllHold n R ρ

-- ── the letters that macros perform: n registers are declared, and the functions from number t on are tests ──
-- A named test was asked.
abbrev pub TestAsked : ℕ → Trace → Type 0
TestAsked n (begin h) = ⊥
TestAsked n (ρ ▸ Copy x y) = TestAsked n ρ
TestAsked n (ρ ▸ Apply x f y z) = (x ≡ result_register n) ⊎ TestAsked n ρ
TestAsked n (ρ ▸ Equal x y) = TestAsked n ρ
TestAsked n (ρ ▸ Unequal x y) = TestAsked n ρ

-- What is used is of the right sort (SPEC 8.4, 9.1): declared registers are copied, tested and given to functions; "such a test applies a function into the
-- hidden register `result` and compares that with the hidden register `truth`", where a test was asked.
pub data OfRightSort (n t : ℕ) (asked : Type 0) : Letter → Type 0 where
  right_copy : {x y : ℕ} → x < n → y < n → OfRightSort n t asked (Copy x y)
  right_application : {x f y z : ℕ} → x < n → f < t → y < n → z < n → OfRightSort n t asked (Apply x f y z)
  right_asking : {f y z : ℕ} → t ≤ f → y < n → z < n → OfRightSort n t asked (Apply (result_register n) f y z)
  right_equal : {x y : ℕ} → x < n → y < n → OfRightSort n t asked (Equal x y)
  right_unequal : {x y : ℕ} → x < n → y < n → OfRightSort n t asked (Unequal x y)
  right_held : asked → OfRightSort n t asked (Equal (result_register n) (truth_register n))
  right_failed : asked → OfRightSort n t asked (Unequal (result_register n) (truth_register n))

-- So is every letter of a trace.
abbrev pub RightSorts : ℕ → ℕ → Trace → Type 0
RightSorts n t (begin h) = Unit {0}
RightSorts n t (ρ ▸ a) = RightSorts n t ρ × OfRightSort n t (TestAsked n ρ) a

-- ── relations as functions, and functions as relations ──
-- "a relation R of arity m can be modeled by fixing a new constant T and introducing a new function f_R of arity m" (source document 000, 2.1): the values of
-- R are among those of A, T is the first value of `truth`, and the function of a test has the value T exactly where the relation holds.
pub record ModelsRelations {ℓ} (n t : ℕ) (R : Meaning {ℓ}) (A : AnyModel {ℓ}) : Type ℓ where
  pub among : R.Value → A.Value
  pub once : (a b : R.Value) → among a ≡ among b → a ≡ b
  pub starts : (r : ℕ) → r < n → A.start r ≡ among (R.start r)
  pub functions : (f : ℕ) (a b : R.Value) → f < t → A.table f (among a) (among b) ≡ among (R.table f a b)
  pub tests : (f : ℕ) (a b : R.Value) → t ≤ f → (A.table f (among a) (among b) ≡ A.start (truth_register n)) ↔ (R.relation f a b ≡ true)

-- The values and two truth values: "we are modeling T and F, which are Boolean constants, as variables in the program (assuming that they are different
-- elements in the model)" (source document 000, Example 1). No letter applies a function to a truth value; `truth` begins as true, and what `result` begins
-- as does not matter.
abbrev pub applied_as_function {ℓ} : ℕ → (R : Meaning {ℓ}) → ℕ → R.Value ⊎ Bool → R.Value ⊎ Bool → R.Value ⊎ Bool
applied_as_function t R f (inl a) (inl b) = pick (ltb f t) (λ _. inl (R.table f a b)) λ _. inr (R.relation f a b)
applied_as_function t R f (inl a) (inr c) = inr c
applied_as_function t R f (inr c) b = inr c

abbrev pub as_functions {ℓ} : ℕ → ℕ → Meaning {ℓ} → AnyModel {ℓ}
as_functions n t R = record {
  Value = R.Value ⊎ Bool;
  start = λ r. pick (ltb r n) (λ _. inl (R.start r)) λ _. inr true;
  table = applied_as_function t R;
}

-- A test holds where its function has the first value of `truth`.
abbrev pub as_relations {ℓ} : ℕ → Model → Meaning {ℓ}
as_relations n M = record {
  Value = Lift {0, ℓ} ℕ;
  start = λ r. record { lower = M.start r };
  table = λ f a b. record { lower = M.table f a.lower b.lower };
  relation = λ f a b. eqb (M.table f a.lower b.lower) (M.start (truth_register n));
}
