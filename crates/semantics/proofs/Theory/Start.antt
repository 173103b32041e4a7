-- The window of a header alone.
use mathlib.Core.Path.{◌≡◌, refl, sym, ◌∙◌, subst}
use mathlib.Core.Bool.{false}
use mathlib.Core.Logic.{inl, inr}
use mathlib.Core.List.Memᴰ
use mathlib.Core.List.{[]}
use Prim.Native.Nat.{ℕ}
use lib.Dec.{T, eqb, eqb→eq, eqb_refl}
use Rattle.letters.specs.declared.Header.{Header}
use Rattle.semantics.specs.Terms.{Term, con, begin, start, constants}
use Rattle.semantics.specs.Closure.{Closure, reflexive, symmetric, transitive, congruence, Equivalent}
use Rattle.semantics.specs.View.{View, Tracks}
use Rattle.semantics.specs.Facts.{Valid}
use Rattle.semantics.proofs.Theory.Facts.{state_valid, constants_app}
use Rattle.semantics.proofs.Theory.Judge.{feasible_is}

unfoldable pub initial : View
initial = record { same = eqb; apart = λ r s. false; result = λ f a b r. false; ever = λ f a b. false; marked = λ r. false; infeasible = false }

closure_start : (n : ℕ) {s t : Term} → Closure (constants n) [] s t → s ≡ t
closure_start n (reflexive m) = refl
closure_start n (Closure.test m) = absurd (Memᴰ.not-nil m)
closure_start n (symmetric c) = sym (closure_start n c)
closure_start n (transitive c d) = closure_start n c ∙ closure_start n d
closure_start n (congruence i j p q) = absurd (constants_app n i)

pub tracks_start : (h : Header) → Tracks (start h) initial
unfolding initial
tracks_start h = record {
  same = λ r s p q. (
    (λ k. subst (λ u. Equivalent (start h) (con r) (con u)) (eqb→eq r s k) (reflexive (v.values r p))),
    (λ c. subst (λ u. T (eqb r u)) (num (closure_start h.registers c)) (eqb_refl r)),
  );
  apart = λ r s p q. ((λ k. absurd k), (λ (f, m). elim m.tested [ inl k ↦ Memᴰ.not-nil k | inr k ↦ Memᴰ.not-nil k ]));
  result = λ f a b r ab bb rb. ((λ k. absurd k), (λ m. constants_app h.registers m.listed));
  ever = λ f a b ab bb. ((λ k. absurd k), (λ (s, m). constants_app h.registers m.listed));
  marked = λ r b. ((λ k. absurd k), (λ e. constants_app h.registers e.listed));
  infeasible = ((λ k. absurd k), (λ n. n ((feasible_is (start h) v).0 tt)));
}
  where
    v : Valid (start h)
    v = state_valid (begin h) tt

    num : {r s : ℕ} → con r ≡ con s → r ≡ s
    num e = cc
