-- The window of a state, as a definition that computes.
use mathlib.Core.Path.{◌≡◌, refl, subst}
use mathlib.Core.Bool.{Bool, true, false, not, ◌&&◌, ◌||◌}
use mathlib.Core.Logic.{inl, inr, ◌↔◌}
use mathlib.Core.List.{List}
use Prim.Native.Nat.{ℕ, ◌<◌}
use lib.Dec.{T, eqb, eqb→eq, eqb_refl, T_not, not_T}
use Rattle.semantics.specs.Terms.{◌∈◌, Term, con, app, State}
use Rattle.semantics.proofs.Theory.Booleans.{and_l, and_r, and_i, or_e, or_l, or_r}
use Rattle.semantics.specs.Lists.{any, all}
use Rattle.semantics.proofs.Theory.Lists.{any_e, any_i}
use Rattle.semantics.specs.Closure.{reflexive, Equivalent}
use Rattle.semantics.specs.View.{View, Tracks}
use Rattle.semantics.specs.Window.{Match, Apart}
use Rattle.semantics.specs.Decide.{agree}
use Rattle.semantics.proofs.Theory.Decide.{alike_i}
use Rattle.semantics.specs.Facts.{Valid}
use Rattle.semantics.specs.Judge.{merges_of, above, kept, feasible}
use Rattle.semantics.proofs.Theory.Judge.{kept_is, agree_e, feasible_is, exposed_or_kept}

-- t is an application of f to arguments in the classes of y and z
abbrev calls : List (Term × Term) → ℕ → Term → Term → Term → Bool
calls ms f y z (con r) = false
calls ms f y z (app g a b) = eqb g f && (agree ms a y && agree ms b z)

abbrev parts : List (Term × Term) → Term → Term → Term × Term → Bool
parts ms s t p = (agree ms p.0 s && agree ms p.1 t) || (agree ms p.1 s && agree ms p.0 t)

abbrev pub view_of : State → View
view_of σ = record {
  same = λ r s. agree (merges_of σ) (σ.value r) (σ.value s);
  apart = λ r s. feasible σ && any (parts (merges_of σ) (σ.value r) (σ.value s)) σ.unequals;
  result = λ f a b r. any (λ t. calls (merges_of σ) f (σ.value a) (σ.value b) t && agree (merges_of σ) t (σ.value r)) σ.terms;
  ever = λ f a b. any (calls (merges_of σ) f (σ.value a) (σ.value b)) σ.terms;
  marked = λ r. not (all (kept (merges_of σ) σ (above σ (σ.value r))) σ.terms);
  infeasible = not (feasible σ);
}

module _ (σ : State) (v : Valid σ) where
  abbrev ms : List (Term × Term)
  ms = merges_of σ

  agrees : {s t : Term} → Equivalent σ s t → T (agree (merges_of σ) s t)
  agrees c = alike_i σ.terms σ.equals c

  calls_e : (f : ℕ) (y z t : Term) → y ∈ σ.terms → z ∈ σ.terms → t ∈ σ.terms → T (calls (merges_of σ) f y z t) → {s : Term} → Equivalent σ t s
      → Match σ.terms σ.equals f y z s
  calls_e f y z (con r) i j m k c = absurd k
  calls_e f y z (app g a b) i j m k {s} c =
      let (p, q) = v.arguments g a b m in
      let l = and_r (eqb g f) (agree ms a y && agree ms b z) k in
      subst (λ h. Match σ.terms σ.equals h y z s) (eqb→eq g f (and_l (eqb g f) (agree ms a y && agree ms b z) k))
      (record {
        first = a;
        second = b;
        listed = m;
        at_first = agree_e σ v p i (and_l (agree ms a y) (agree ms b z) l);
        at_second = agree_e σ v q j (and_r (agree ms a y) (agree ms b z) l);
        gives = c;
      })

  calls_i : (f : ℕ) (y z : Term) {s : Term} (m : Match σ.terms σ.equals f y z s) → T (calls (merges_of σ) f y z (app f m.first m.second))
  calls_i f y z m =
      and_i (eqb f f) (agree ms m.first y && agree ms m.second z) (eqb_refl f)
      (and_i (agree ms m.first y) (agree ms m.second z) (agrees m.at_first) (agrees m.at_second))

  pub tracks_of : Tracks σ (view_of σ)
  tracks_of = record {
    same = λ r s p q. (agree_e σ v (v.values r p) (v.values s q), agrees);
    apart = λ r s p q. (
      (λ k. (
        (feasible_is σ v).0 (and_l (feasible σ) (any (parts ms (σ.value r) (σ.value s)) σ.unequals) k),
        parted r s p q (and_r (feasible σ) (any (parts ms (σ.value r) (σ.value s)) σ.unequals) k),
      )),
      (λ (f, m). and_i (feasible σ) (any (parts ms (σ.value r) (σ.value s)) σ.unequals) ((feasible_is σ v).1 f) (parted_i r s m)),
    );
    result = λ f a b r ab bb rb. (
      (λ k. let (t, m, y) = any_e (λ t. calls ms f (σ.value a) (σ.value b) t && agree ms t (σ.value r)) σ.terms k in
          calls_e f (σ.value a) (σ.value b) t (v.values a ab) (v.values b bb) m
          (and_l (calls ms f (σ.value a) (σ.value b) t) (agree ms t (σ.value r)) y)
          (agree_e σ v m (v.values r rb) (and_r (calls ms f (σ.value a) (σ.value b) t) (agree ms t (σ.value r)) y))),
      (λ m. any_i (λ t. calls ms f (σ.value a) (σ.value b) t && agree ms t (σ.value r)) m.listed
          (and_i (calls ms f (σ.value a) (σ.value b) (app f m.first m.second)) (agree ms (app f m.first m.second) (σ.value r))
          (calls_i f (σ.value a) (σ.value b) m) (agrees m.gives))),
    );
    ever = λ f a b ab bb. (
      (λ k. let (t, m, y) = any_e (calls ms f (σ.value a) (σ.value b))
          σ.terms k in (t, calls_e f (σ.value a) (σ.value b) t (v.values a ab) (v.values b bb) m y (reflexive m))),
      (λ (s, m). any_i (calls ms f (σ.value a) (σ.value b)) m.listed (calls_i f (σ.value a) (σ.value b) m)),
    );
    marked = λ r b. (
      (λ k. elim (exposed_or_kept σ v (σ.value r) (v.values r b)) [
        | inl e ↦ e
        | inr h ↦ absurd (T_not (all (kept ms σ (above σ (σ.value r))) σ.terms) k ((kept_is σ v (σ.value r) (v.values r b)).1 h))
      ]),
      (λ e. not_T (all (kept ms σ (above σ (σ.value r))) σ.terms)
          (λ k. e.unheld ((kept_is σ v (σ.value r) (v.values r b)).0 k e.function e.first e.second e.listed e.above))),
    );
    infeasible = ((λ k f. T_not (feasible σ) k ((feasible_is σ v).1 f)), (λ n. not_T (feasible σ) (λ k. n ((feasible_is σ v).0 k))));
  }
    where
      parted : (r s : ℕ) → r < σ.header.registers → s < σ.header.registers → T (any (parts (merges_of σ) (σ.value r) (σ.value s)) σ.unequals)
          → Apart σ r s
      parted r s rb sb k =
          let (p, m, y) = any_e (parts ms (σ.value r) (σ.value s)) σ.unequals k in
          let (i, j) = v.unequal_sides p.0 p.1 m in
          elim (or_e (agree ms p.0 (σ.value r) && agree ms p.1 (σ.value s))
          (agree ms p.1 (σ.value r) && agree ms p.0 (σ.value s)) y) [
            | inl l ↦ record {
              left = p.0;
              right = p.1;
              tested = inl m;
              at_left = agree_e σ v i (v.values r rb) (and_l (agree ms p.0 (σ.value r)) (agree ms p.1 (σ.value s)) l);
              at_right = agree_e σ v j (v.values s sb) (and_r (agree ms p.0 (σ.value r)) (agree ms p.1 (σ.value s)) l);
            }
            | inr l ↦ record {
              left = p.1;
              right = p.0;
              tested = inr m;
              at_left = agree_e σ v j (v.values r rb) (and_l (agree ms p.1 (σ.value r)) (agree ms p.0 (σ.value s)) l);
              at_right = agree_e σ v i (v.values s sb) (and_r (agree ms p.1 (σ.value r)) (agree ms p.0 (σ.value s)) l);
            }
          ]

      parted_i : (r s : ℕ) → Apart σ r s → T (any (parts (merges_of σ) (σ.value r) (σ.value s)) σ.unequals)
      parted_i r s m =
          let R = σ.value r in
          let S = σ.value s in
          elim m.tested [
            | inl k ↦ any_i (parts ms R S) k
                (or_l (agree ms m.left R && agree ms m.right S) (agree ms m.right R && agree ms m.left S)
                (and_i (agree ms m.left R) (agree ms m.right S) (agrees m.at_left) (agrees m.at_right)))
            | inr k ↦ any_i (parts ms R S) k
                (or_r (agree ms m.right R && agree ms m.left S) (agree ms m.left R && agree ms m.right S)
                (and_i (agree ms m.left R) (agree ms m.right S) (agrees m.at_left) (agrees m.at_right)))
          ]

-- Two windows of one state say the same.
pub same_test : (a b : Bool) → (T a ↔ T b) → a ≡ b
same_test true true e = refl
same_test true false e = absurd (e.0 tt)
same_test false true e = absurd (e.1 tt)
same_test false false e = refl
