-- Feasibility and coherence go over to beginnings; the letters of a run are computed, and there are no others.
use mathlib.Core.Path.{◌≡◌, refl, sym, ◌∙◌, ap, subst}
use mathlib.Core.Logic.{inl, inr}
use mathlib.Core.List.Memᴰ
use Prim.Native.Nat.{ℕ, zero, suc, ◌≤◌}
use native.Mathlib.Omega.{arith}
use lib.Dec.{T}
use Rattle.base.proofs.Theory.Choice.{by_test}
use Rattle.letters.specs.declared.Letter.{Letter}
use Rattle.letters.specs.declared.Letter.TheVariants.{Copy, Apply, Equal, Unequal}
use Rattle.semantics.specs.Terms.{Trace, begin, ◌▸◌, State, start, after, state}
use Rattle.semantics.specs.Facts.{WellFormed}
use Rattle.semantics.specs.Prefixes.{Begins, whole, before, PrefixClosed}
use Rattle.semantics.proofs.Theory.Prefixes.{begins_size, begins_same, begins_has}
use Rattle.semantics.proofs.Theory.Booleans.{of_true, of_false, is_true, is_false}
use Rattle.semantics.proofs.Theory.Facts.{state_valid}
use Rattle.semantics.specs.Models.{Feasible}
use Rattle.semantics.specs.Coherence.{Coherent}
use Rattle.semantics.specs.Judgement.{size, FailsAt, FirstFailure}
use Rattle.semantics.specs.Judge.{coherent, feasible}
use Rattle.semantics.proofs.Theory.Judge.{coherent_is, feasible_is, fails_is}
use Rattle.semantics.specs.Judgement.{Longest, Judgement}
use Rattle.semantics.specs.FirstLetters.{coherent_part, incoherent_letter, infeasible_letter, first_infeasible}

-- ── beginnings ──
-- A model of the tests after a letter is one of the tests before it.
pub feasible_prefix : (σ : State) (a : Letter) → Feasible (after σ a) → Feasible σ
feasible_prefix σ (Copy x y) f = f
feasible_prefix σ (Apply x g y z) f = f
feasible_prefix σ (Equal x y) (M, h) = (M, record { equal_hold = λ s t m. h.equal_hold s t (Memᴰ.tail m); unequal_hold = h.unequal_hold })
feasible_prefix σ (Unequal x y) (M, h) = (M, record { equal_hold = h.equal_hold; unequal_hold = λ s t m. h.unequal_hold s t (Memᴰ.tail m) })

-- Once infeasible, a trace stays so.
pub infeasible_after : (σ : State) (a : Letter) → ¬ Feasible σ → ¬ Feasible (after σ a)
infeasible_after σ a n f = n (feasible_prefix σ a f)

pub coherent_prefix : (ρ : Trace) (a : Letter) → Coherent (ρ ▸ a) → Coherent ρ
coherent_prefix ρ a c = c.0

pub formed_prefix : (ρ : Trace) (a : Letter) → WellFormed (ρ ▸ a) → WellFormed ρ
formed_prefix ρ a w = w.0

-- ── one letter at most ──
module _ (P : Trace → Type 0) (closed : PrefixClosed P) where
  pub fails_size : (ρ : Trace) (k : ℕ) → FailsAt P ρ k → (1 ≤ k) × (k ≤ size ρ)
  fails_size (begin h) k f = absurd f
  fails_size (ρ ▸ a) k (inl f) = let (a, b) = fails_size ρ k f in (a, omega arith)
  fails_size (ρ ▸ a) k (inr (e, p, n)) = (omega arith, omega arith)

  pub failed : (ρ : Trace) (k : ℕ) → FailsAt P ρ k → ¬ P ρ
  failed (begin h) k f p = f
  failed (ρ ▸ a) k (inl f) p = failed ρ k f (closed ρ a p)
  failed (ρ ▸ a) k (inr (e, q, n)) p = n p

  fails_unique : (ρ : Trace) (j k : ℕ) → FailsAt P ρ j → FailsAt P ρ k → j ≡ k
  fails_unique (begin h) j k f g = absurd f
  fails_unique (ρ ▸ a) j k (inl f) (inl g) = fails_unique ρ j k f g
  fails_unique (ρ ▸ a) j k (inl f) (inr (e, p, n)) = absurd (failed ρ j f p)
  fails_unique (ρ ▸ a) j k (inr (e, p, n)) (inl g) = absurd (failed ρ k g p)
  fails_unique (ρ ▸ a) j k (inr (e, p, n)) (inr (q, r, m)) = e ∙ sym q

  pub judged_unique : (ρ : Trace) (j k : ℕ) → FirstFailure P ρ j → FirstFailure P ρ k → j ≡ k
  judged_unique ρ zero zero f g = refl
  judged_unique ρ zero (suc k) f g = absurd (failed ρ (suc k) g f)
  judged_unique ρ (suc j) zero f g = absurd (failed ρ (suc j) f g)
  judged_unique ρ (suc j) (suc k) f g = fails_unique ρ (suc j) (suc k) f g

abbrev FeasibleTrace : Trace → Type 0
FeasibleTrace ρ = Feasible (state ρ)

pub feasible_closed : PrefixClosed (λ ρ. Feasible (state ρ))
feasible_closed ρ a f = feasible_prefix (state ρ) a f

pub coherent_closed : PrefixClosed Coherent
coherent_closed ρ a c = c.0

-- ── the longest coherent beginning ──
pub part_whole : (ρ : Trace) → T (coherent ρ) → coherent_part ρ ≡ ρ
unfolding coherent_part
part_whole (begin h) t = refl
part_whole (ρ ▸ a) t = rw (is_true (coherent (ρ ▸ a)) t)

pub part_shorter : (ρ : Trace) (a : Letter) → ¬ T (coherent (ρ ▸ a)) → coherent_part (ρ ▸ a) ≡ coherent_part ρ
unfolding coherent_part
part_shorter ρ a n = rw (is_false (coherent (ρ ▸ a)) n)

part_beginning : (ρ : Trace) → Begins (coherent_part ρ) ρ
part_beginning (begin h) = subst (λ π. Begins π (begin h)) (sym (part_whole (begin h) tt)) whole
part_beginning (ρ ▸ a) = by_test (coherent (ρ ▸ a))
    (λ e. subst (λ π. Begins π (ρ ▸ a)) (sym (part_whole (ρ ▸ a) (of_true e))) whole)
    (λ e. subst (λ π. Begins π (ρ ▸ a)) (sym (part_shorter ρ a (of_false e))) (before (part_beginning ρ)))

pub part_formed : (ρ : Trace) → WellFormed ρ → WellFormed (coherent_part ρ)
part_formed ρ w = begins_has WellFormed (λ π a v. v.0) (part_beginning ρ) w

pub longest_is : (ρ : Trace) → WellFormed ρ → Longest ρ (coherent_part ρ)
longest_is (begin h) w = subst (Longest (begin h)) (sym (part_whole (begin h) tt)) (record {
  beginning = whole;
  coherent = tt;
  longest = λ κ b c. begins_size b;
})
longest_is (ρ ▸ a) w = by_test (coherent (ρ ▸ a))
    (λ e. subst (Longest (ρ ▸ a)) (sym (part_whole (ρ ▸ a) (of_true e))) (record {
      beginning = whole;
      coherent = (coherent_is (ρ ▸ a) w).0 (of_true e);
      longest = λ κ b c. begins_size b;
    }))
    (λ e. subst (Longest (ρ ▸ a)) (sym (part_shorter ρ a (of_false e))) (less (λ c. of_false e ((coherent_is (ρ ▸ a) w).1 c)) (longest_is ρ w.0)))
  where
    less : ¬ Coherent (ρ ▸ a) → Longest ρ (coherent_part ρ) → Longest (ρ ▸ a) (coherent_part ρ)
    less n l = record { beginning = before l.beginning; coherent = l.coherent; longest = λ κ b c. under κ b c }
      where
        under : (κ : Trace) → Begins κ (ρ ▸ a) → Coherent κ → size κ ≤ size (coherent_part ρ)
        under κ whole c = absurd (n c)
        under κ (before b) c = l.longest κ b c

pub longest_unique : (ρ π κ : Trace) → Longest ρ π → Longest ρ κ → π ≡ κ
longest_unique ρ π κ l m =
    begins_same l.beginning m.beginning (omega (arith, l.longest κ m.beginning m.coherent, m.longest π l.beginning l.coherent))

-- ── the letters of a run ──
pub incoherent_is : (ρ : Trace) → WellFormed ρ → FirstFailure Coherent ρ (incoherent_letter ρ)
unfolding incoherent_letter
incoherent_is ρ w = fails_is Coherent coherent coherent_is (λ h. tt) ρ w

pub first_infeasible_is : (ρ : Trace) → WellFormed ρ → FirstFailure (λ π. Feasible (state π)) ρ (first_infeasible ρ)
unfolding first_infeasible
first_infeasible_is ρ w =
    fails_is FeasibleTrace (λ π. feasible (state π)) (λ π v. feasible_is (state π) (state_valid π v))
    (λ h. (feasible_is (start h) (state_valid (begin h) tt)).0 tt) ρ w

pub first_infeasible_unique : (ρ : Trace) → WellFormed ρ → (k : ℕ) → FirstFailure (λ π. Feasible (state π)) ρ k → k ≡ first_infeasible ρ
first_infeasible_unique ρ w k j = judged_unique FeasibleTrace feasible_closed ρ k (first_infeasible ρ) j (first_infeasible_is ρ w)

pub judgement_is : (ρ : Trace) → WellFormed ρ → Judgement ρ (incoherent_letter ρ) (infeasible_letter ρ)
unfolding infeasible_letter first_infeasible
judgement_is ρ w = record {
  coherence = incoherent_is ρ w;
  part = coherent_part ρ;
  longest = longest_is ρ w;
  feasibility = first_infeasible_is (coherent_part ρ) (part_formed ρ w);
}

-- both letters are unique
pub judgement_unique : (ρ : Trace) (i j k l : ℕ) → Judgement ρ i j → Judgement ρ k l → (i ≡ k) × (j ≡ l)
judgement_unique ρ i j k l p q = (
  judged_unique Coherent coherent_closed ρ i k p.coherence q.coherence,
  judged_unique FeasibleTrace feasible_closed p.part j l p.feasibility
      (subst (λ π. FirstFailure FeasibleTrace π l) (longest_unique ρ q.part p.part q.longest p.longest) q.feasibility),
)

-- The letter behind the longest coherent beginning is the incoherent one.
pub part_size : (ρ : Trace) → WellFormed ρ → (k : ℕ) → FirstFailure Coherent ρ (suc k) → size (coherent_part ρ) ≡ k
part_size (begin h) w k f = absurd f
part_size (ρ ▸ a) w k (inl f) =
    ap size (part_shorter ρ a (λ t. failed Coherent coherent_closed ρ (suc k) f ((coherent_is (ρ ▸ a) w).0 t).0)) ∙ part_size ρ w.0 k f
part_size (ρ ▸ a) w k (inr (e, c, n)) =
    ap size (part_shorter ρ a (λ t. n ((coherent_is (ρ ▸ a) w).0 t)) ∙ part_whole ρ ((coherent_is ρ w.0).1 c)) ∙ omega arith
