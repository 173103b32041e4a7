-- Traces and the terms that they compute (SPEC 1.2, 3.1 to 3.4; document 01; source document 000, Definitions 1 and 3).
use Rattle.std.specs.Prelude.{true, false, cond, ℕ, zero, suc, eqb}
use mathlib.Core.List.{List, [], ◌∷◌, Memᴰ}
use Rattle.letters.specs.declared.Header.{Header}
use Rattle.letters.specs.declared.Letter.{Letter}
use Rattle.letters.specs.declared.Letter.TheVariants.{Copy, Apply, Equal, Unequal}

-- a is an element of l.
infix 4 ◌∈◌
abbrev pub ◌∈◌ : {A : Type 0} → A → List A → Type 0
a ∈ l = Memᴰ a l

-- "Each register begins with a constant of its own" (SPEC 3.1): con r is that of register r. app f s t is function f applied to s and t.
-- A function of one argument is applied to it twice: f(t) is app f t t. So one and two arguments are one case everywhere.
pub data Term : Type 0 where
  con : ℕ → Term
  app : ℕ → Term → Term → Term

-- A trace: a header, and letters one after the other (SPEC 1.2).
infixl 40 ◌▸◌
pub data Trace : Type 0 where
  begin : Header → Trace
  ◌▸◌ : Trace → Letter → Trace

-- What a trace leaves (SPEC 3.2 to 3.4).
-- terms: "Computed terms are all values any register had, the initial ones included", the latest first.
-- equals, unequals: the equal tests and the unequal tests as pairs of terms, the latest first (α and β in source document 000, 2.3.2).
-- value: the present term of each register (Comp in Definition 3).
pub record State : Type 0 where
  pub header : Header
  pub terms : List Term
  pub equals : List (Term × Term)
  pub unequals : List (Term × Term)
  pub value : ℕ → Term

-- The initial constants of n registers, the last first.
abbrev pub constants : ℕ → List Term
constants zero = []
constants (suc n) = con n ∷ constants n

-- Before the first letter. Different registers have different constants, and nothing is said of their values (SPEC 3.1).
abbrev pub start : Header → State
start h = record { header = h; terms = constants h.registers; equals = []; unequals = []; value = con }

-- "Values after letters are terms by Definition 3." (SPEC 3.2)
abbrev pub value_after : State → Letter → ℕ → Term
value_after σ (Copy x y) r = σ.value (cond (eqb r x) y r)
value_after σ (Apply x f y z) r = elim (eqb r x) [ true ↦ app f (σ.value y) (σ.value z) | false ↦ σ.value r ]
value_after σ (Equal x y) r = σ.value r
value_after σ (Unequal x y) r = σ.value r

-- Only an application computes a new term (SPEC 3.3).
abbrev pub terms_after : State → Letter → List Term
terms_after σ (Copy x y) = σ.terms
terms_after σ (Apply x f y z) = app f (σ.value y) (σ.value z) ∷ σ.terms
terms_after σ (Equal x y) = σ.terms
terms_after σ (Unequal x y) = σ.terms

-- An equal test adds its two sides to the equal tests, an unequal test to the unequal tests (SPEC 3.4).
abbrev pub equals_after : State → Letter → List (Term × Term)
equals_after σ (Copy x y) = σ.equals
equals_after σ (Apply x f y z) = σ.equals
equals_after σ (Equal x y) = (σ.value x, σ.value y) ∷ σ.equals
equals_after σ (Unequal x y) = σ.equals

abbrev pub unequals_after : State → Letter → List (Term × Term)
unequals_after σ (Copy x y) = σ.unequals
unequals_after σ (Apply x f y z) = σ.unequals
unequals_after σ (Equal x y) = σ.unequals
unequals_after σ (Unequal x y) = (σ.value x, σ.value y) ∷ σ.unequals

-- One letter.
abbrev pub after : State → Letter → State
after σ a = record {
  header = σ.header;
  terms = terms_after σ a;
  equals = equals_after σ a;
  unequals = unequals_after σ a;
  value = value_after σ a;
}

-- A whole trace.
abbrev pub state : Trace → State
state (begin h) = start h
state (ρ ▸ a) = after (state ρ) a

-- A trace, and after it letters, the first one first.
abbrev pub extend : Trace → List Letter → Trace
extend ρ [] = ρ
extend ρ (a ∷ l) = extend (ρ ▸ a) l

-- The trace of a header and its letters, the first letter first.
abbrev pub trace_of : Header → List Letter → Trace
trace_of h l = extend (begin h) l
