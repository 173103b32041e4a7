-- The closure computed, by a list of merges (SPEC 3.5).
use Rattle.std.specs.Prelude.{Bool, true, false, not, ◌&&◌, List, [], ◌∷◌, ℕ, zero, suc, ◌+◌, eqb, length}
use Rattle.std.proofs.Math.Option.{none, some}
use Rattle.semantics.specs.Terms.{Term, con, app}
use Rattle.semantics.specs.Lists.{first_passing}
use Rattle.semantics.specs.TermEquality.{eqt}

-- ── finding the name of a term's class, under a list of merges, the latest first: (a, b) sends the class named a to b ──
abbrev pub redirect : Term × Term → Term → Term
redirect m t = elim (eqt t m.0) [ true ↦ m.1 | false ↦ t ]

abbrev pub find : List (Term × Term) → Term → Term
find [] t = t
find (m ∷ ms) t = redirect m (find ms t)

-- ── pairs of a list ──
abbrev pub beside : Term → List Term → List (Term × Term) → List (Term × Term)
beside a [] l = l
beside a (x ∷ xs) l = (a, x) ∷ beside a xs l

abbrev pub all_pairs : List Term → List Term → List (Term × Term)
all_pairs [] ys = []
all_pairs (x ∷ xs) ys = beside x ys (all_pairs xs ys)

-- ── the merges ──
abbrev pub agree : List (Term × Term) → Term → Term → Bool
agree ms s t = eqt (find ms s) (find ms t)

-- applications of one function to arguments of one class
abbrev pub congruent : List (Term × Term) → Term → Term → Bool
congruent ms (con m) t = false
congruent ms (app f a b) (con n) = false
congruent ms (app f a b) (app g c d) = eqb f g && (agree ms a c && agree ms b d)

abbrev pub due : List (Term × Term) → Term × Term → Bool
due ms p = congruent ms p.0 p.1 && not (agree ms p.0 p.1)

abbrev pub merge : List (Term × Term) → Term × Term → List (Term × Term)
merge ms p = (find ms p.0, find ms p.1) ∷ ms

abbrev pub tested : List (Term × Term) → List (Term × Term)
tested [] = []
tested (e ∷ es) = merge (tested es) e

module _ (U : List Term) where
  abbrev pub saturate : ℕ → List (Term × Term) → List (Term × Term)
  saturate zero ms = ms
  saturate (suc n) ms = elim (first_passing (due ms) (all_pairs U U)) [ none ↦ ms | some p ↦ saturate n (merge ms p) ]

-- The merges for the terms U and the tests E: first the tests, then what they force.
abbrev pub merges : List Term → List (Term × Term) → List (Term × Term)
merges U E = saturate U (length U + length E) (tested E)

-- s and t are in one class.
abbrev pub alike : List Term → List (Term × Term) → Term → Term → Bool
alike U E s t = agree (merges U E) s t
