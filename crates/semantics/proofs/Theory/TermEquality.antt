-- What follows from the definitions of specs/TermEquality.antt.
use mathlib.Core.Path.{◌≡◌, ap, subst}
use mathlib.Core.Logic.{◌⊎◌, inl, inr, ◌≢◌}
use mathlib.Core.Bool.{◌&&◌}
use lib.Dec.{T, eqb, eqb→eq, eqb_refl}
use Rattle.semantics.specs.Terms.{Term, con, app}
use Rattle.semantics.proofs.Theory.Booleans.{or_not, and_l, and_r, and_i}
use Rattle.semantics.specs.TermEquality.{eqt}

pub eqt→eq : (s t : Term) → T (eqt s t) → s ≡ t
eqt→eq (con m) (con n) t = ap con (eqb→eq m n t)
eqt→eq (con m) (app g c d) t = absurd t
eqt→eq (app f a b) (con n) t = absurd t
eqt→eq (app f a b) (app g c d) t =
    let u = and_r (eqb f g) (eqt a c && eqt b d) t in
    let p = eqb→eq f g (and_l (eqb f g) (eqt a c && eqt b d) t) in
    let q = eqt→eq a c (and_l (eqt a c) (eqt b d) u) in
    let r = eqt→eq b d (and_r (eqt a c) (eqt b d) u) in
    λ i. app (p i) (q i) (r i)

pub eqt_refl : (t : Term) → T (eqt t t)
eqt_refl (con m) = eqb_refl m
eqt_refl (app f a b) = and_i (eqb f f) (eqt a a && eqt b b) (eqb_refl f) (and_i (eqt a a) (eqt b b) (eqt_refl a) (eqt_refl b))

pub eq→eqt : (s t : Term) → s ≡ t → T (eqt s t)
eq→eqt s t e = subst (λ u. T (eqt s u)) e (eqt_refl s)

pub eqt_or : (s t : Term) → (s ≡ t) ⊎ (s ≢ t)
eqt_or s t = elim (or_not (eqt s t)) [ inl y ↦ inl (eqt→eq s t y) | inr n ↦ inr (λ e. n (eq→eqt s t e)) ]
