-- Coherence and feasibility of a trace, computed (SPEC 3.6, 4).
use Rattle.std.specs.Prelude.{Bool, true, false, not, ◌&&◌, ◌||◌, List, [], ◌∷◌, ℕ, zero, suc, length}
use Rattle.std.proofs.Math.Option.{none, some}
use Rattle.letters.specs.declared.Letter.{Letter}
use Rattle.letters.specs.declared.Letter.TheVariants.{Copy, Apply, Equal, Unequal}
use Rattle.semantics.specs.Terms.{Term, con, app, Trace, begin, ◌▸◌, State, after, state}
use Rattle.semantics.specs.Lists.{any, all, first_passing}
use Rattle.semantics.specs.Decide.{merges, agree}
use Rattle.semantics.specs.Judgement.{size}

-- ── what is above a term ──
-- t agrees with an element of the list
abbrev pub touch : List (Term × Term) → List Term → Term → Bool
touch ms R t = any (agree ms t) R

-- an application that is not in the list, with an argument that is
abbrev pub is_new_above : List (Term × Term) → List Term → Term → Bool
is_new_above ms R (con r) = false
is_new_above ms R (app f a b) = not (touch ms R (app f a b)) && (touch ms R a || touch ms R b)

module _ (U : List Term) (ms : List (Term × Term)) where
  -- the list with such applications added, at most n
  abbrev pub grow : ℕ → List Term → List Term
  grow zero R = R
  grow (suc n) R = elim (first_passing (is_new_above ms R) U) [ none ↦ R | some p ↦ grow n (p ∷ R) ]

-- the merges of a trace
abbrev pub merges_of : State → List (Term × Term)
merges_of σ = merges σ.terms σ.equals

-- the terms that equal t or lie above it
abbrev pub above : State → Term → List Term
above σ t = grow σ.terms (merges_of σ) (length σ.terms) (t ∷ [])

-- ── registers ──
-- the numbers below n
abbrev pub upto : ℕ → List ℕ
upto zero = []
upto (suc n) = n ∷ upto n

-- a register holds a term of the class of t
abbrev pub held : List (Term × Term) → State → Term → Bool
held ms σ t = any (λ r. agree ms t (σ.value r)) (upto σ.header.registers)

-- ── the tests ──
-- an application with an argument in R has its result and its arguments in registers
abbrev pub kept : List (Term × Term) → State → List Term → Term → Bool
kept ms σ R (con r) = true
kept ms σ R (app f a b) = not (touch ms R a || touch ms R b) || (held ms σ (app f a b) && (held ms σ a && held ms σ b))

-- the condition on equal tests of sides that are not equal already
abbrev pub early : State → ℕ → ℕ → Bool
early σ x y = all (kept (merges_of σ) σ (above σ (σ.value x))) σ.terms && all (kept (merges_of σ) σ (above σ (σ.value y))) σ.terms

-- the condition on applications
abbrev pub memoizing : State → ℕ → ℕ → ℕ → ℕ → Bool
memoizing σ x f y z =
    let ms = merges_of (after σ (Apply x f y z)) in
    let t = app f (σ.value y) (σ.value z) in
    not (any (agree ms t) σ.terms) || held ms σ t

-- the letter is coherent in the state
abbrev pub coherent_letter : State → Letter → Bool
coherent_letter σ (Copy x y) = true
coherent_letter σ (Apply x f y z) = memoizing σ x f y z
coherent_letter σ (Equal x y) = agree (merges_of σ) (σ.value x) (σ.value y) || early σ x y
coherent_letter σ (Unequal x y) = true

abbrev pub coherent : Trace → Bool
coherent (begin h) = true
coherent (ρ ▸ a) = coherent ρ && coherent_letter (state ρ) a

-- no unequal test joins terms of one class
abbrev pub feasible : State → Bool
feasible σ = let ms = merges σ.terms σ.equals in all (λ (p : Term × Term). not (agree ms p.0 p.1)) σ.unequals

-- The first letter after which the test fails; 0 if there is none.
abbrev pub first_failing : (Trace → Bool) → Trace → ℕ
first_failing p (begin h) = 0
first_failing p (ρ ▸ a) = elim (first_failing p ρ) [ zero ↦ elim (p (ρ ▸ a)) [ true ↦ 0 | false ↦ suc (size ρ) ] | suc k ↦ suc k ]
