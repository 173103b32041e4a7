-- An equal test whose sides are equal already changes nothing in the window, whatever the marks.
use mathlib.Core.Path.{◌≡◌, refl, sym, subst}
use mathlib.Core.Logic.{◌⊎◌, inl, inr}
use mathlib.Core.List.Memᴰ
use mathlib.Core.List.{List, ◌∷◌}
use Prim.Native.Nat.{ℕ}
use Rattle.letters.specs.declared.Letter.TheVariants.{Equal}
use Rattle.semantics.specs.Terms.{Term, State, after}
use Rattle.semantics.specs.Closure.{Closure, reflexive, symmetric, transitive, congruence, Equivalent, Held}
use Rattle.semantics.proofs.Theory.ClosureLaws.{more_tests}
use Rattle.semantics.specs.Coherence.{Superterm, once, again, Above}
use Rattle.semantics.specs.Models.{eval, Feasible}
use Rattle.semantics.proofs.Theory.Shown.{respects}
use Rattle.semantics.specs.View.{View, Tracks}
use Rattle.semantics.specs.Window.{Match, Parted, Exposed, Same}
use Rattle.semantics.specs.SameWindow.{SameWindow}
use Rattle.semantics.proofs.Theory.SameWindow.{tracks_same}

-- A test that the closure holds already adds nothing to it.
pub fewer_tests : {U : List Term} {E : List (Term × Term)} {u w : Term} → Closure U E u w → {s t : Term} → Closure U ((u, w) ∷ E) s t
    → Closure U E s t
fewer_tests k (reflexive m) = reflexive m
fewer_tests {U} {E} k (Closure.test {s} {t} m) = elim (Memᴰ.cases_cons m) [
  | inl e ↦ subst (λ (p : Term × Term). Closure U E p.0 p.1) (sym e) k
  | inr i ↦ Closure.test i
]
fewer_tests k (symmetric c) = symmetric (fewer_tests k c)
fewer_tests k (transitive c d) = transitive (fewer_tests k c) (fewer_tests k d)
fewer_tests k (congruence i j p q) = congruence i j (fewer_tests k p) (fewer_tests k q)

-- What the window's parts are made of depends on the tests only through the closure.
module _ {U : List Term} {E F : List (Term × Term)} (h : (s t : Term) → Closure U E s t → Closure U F s t) where
  match_map : {f : ℕ} {y z s : Term} → Match U E f y z s → Match U F f y z s
  match_map m = record {
    first = m.first;
    second = m.second;
    listed = m.listed;
    at_first = h _ _ m.at_first;
    at_second = h _ _ m.at_second;
    gives = h _ _ m.gives;
  }

  parted_map : {D : List (Term × Term)} {s t : Term} → Parted U E D s t → Parted U F D s t
  parted_map m = record { left = m.left; right = m.right; tested = m.tested; at_left = h _ _ m.at_left; at_right = h _ _ m.at_right }

  either : {s a b : Term} → Closure U E s a ⊎ Closure U E s b → Closure U F s a ⊎ Closure U F s b
  either (inl c) = inl (h _ _ c)
  either (inr c) = inr (h _ _ c)

  superterm_map : {t s : Term} → Superterm U E t s → Superterm U F t s
  superterm_map (once m d c) = once m (either d) (h _ _ c)
  superterm_map (again r m d c) = again (superterm_map r) m (either d) (h _ _ c)

  above_map : {t a b : Term} → Above U E t a b → Above U F t a b
  above_map (inl (inl c)) = inl (inl (h _ _ c))
  above_map (inl (inr r)) = inl (inr (superterm_map r))
  above_map (inr (inl c)) = inr (inl (h _ _ c))
  above_map (inr (inr r)) = inr (inr (superterm_map r))

  exposed_map : {H K : Term → Type 0} → ((t : Term) → K t → H t) → {t : Term} → Exposed U E H t → Exposed U F K t
  exposed_map g e = record {
    function = e.function;
    first = e.first;
    second = e.second;
    listed = e.listed;
    above = above_map e.above;
    unheld = λ (p, q, o). e.unheld (g _ p, g _ q, g _ o);
  }

module _ (σ : State) (x y : ℕ) (equal : Same σ x y) where
  abbrev σ' : State
  σ' = after σ (Equal x y)

  more : (s t : Term) → Equivalent σ s t → Equivalent σ' s t
  more s t c = more_tests _ c

  fewer : (s t : Term) → Equivalent σ' s t → Equivalent σ s t
  fewer s t c = fewer_tests equal c

  held_more : (t : Term) → Held σ t → Held σ' t
  held_more t (r, b, c) = (r, b, more t (σ.value r) c)

  held_fewer : (t : Term) → Held σ' t → Held σ t
  held_fewer t (r, b, c) = (r, b, fewer t (σ.value r) c)

  feasible_more : Feasible σ → Feasible σ'
  feasible_more (M, h) = (
    M,
    record {
      equal_hold = λ s t m. elim (Memᴰ.cases_cons m) [
        | inl e ↦ subst (λ (p : Term × Term). eval M p.0 ≡ eval M p.1) (sym e) (respects M σ h equal)
        | inr i ↦ h.equal_hold s t i
      ];
      unequal_hold = h.unequal_hold;
    },
  )

  feasible_fewer : Feasible σ' → Feasible σ
  feasible_fewer (M, h) = (M, record { equal_hold = λ s t m. h.equal_hold s t (Memᴰ.tail m); unequal_hold = h.unequal_hold })

  -- Nothing changes in any of the six parts.
  pub redundant_test : SameWindow σ (after σ (Equal x y))
  redundant_test = record {
    registers = refl;
    same = λ r s p q. (more (σ.value r) (σ.value s), fewer (σ.value r) (σ.value s));
    apart = λ r s p q. ((λ (f, m). (feasible_more f, parted_map more m)), (λ (f, m). (feasible_fewer f, parted_map fewer m)));
    result = λ f a b r ab bb rb. (match_map more, match_map fewer);
    ever = λ f a b ab bb. ((λ (s, m). (s, match_map more m)), (λ (s, m). (s, match_map fewer m)));
    marked = λ r b. (exposed_map more held_fewer, exposed_map fewer held_more);
    infeasible = ((λ n f. n (feasible_fewer f)), (λ n f. n (feasible_more f)));
  }

  -- The window stays the window.
  pub tracks_redundant : (w : View) → Tracks σ w → Tracks (after σ (Equal x y)) w
  tracks_redundant w t = tracks_same redundant_test t
