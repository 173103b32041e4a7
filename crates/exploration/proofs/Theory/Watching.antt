-- The window watches as the search asks: it is a monitor for every well-formed header.
use mathlib.Core.Path.{◌≡◌, refl, sym, subst}
use mathlib.Core.Logic.{inl, inr, ◌↔◌}
use mathlib.Core.Bool.{Bool, true, false}
use mathlib.Core.Option.{Option, none, some}
use Prim.Native.Nat.{ℕ, ◌≤◌}
use native.Mathlib.Omega.{arith}
use lib.Dec.{T}
use Rattle.base.specs.Choice.{pick}
use Rattle.base.proofs.Theory.Choice.{by_test}
use Rattle.letters.specs.declared.Header.{Header}
use Rattle.letters.specs.declared.Letter.{Letter}
use Rattle.letters.specs.Letters.{Fits}
use Rattle.semantics.specs.Terms.{Trace, begin, ◌▸◌, State, state}
use Rattle.semantics.specs.Facts.{Valid}
use Rattle.semantics.proofs.Theory.Facts.{state_valid}
use Rattle.semantics.specs.Models.{Feasible}
use Rattle.semantics.proofs.Theory.Shown.{corollary_2}
use Rattle.semantics.proofs.Theory.Judge.{clash_or_feasible}
use Rattle.semantics.specs.Coherence.{CoherentLetter}
use Rattle.macros.proofs.Theory.Fitting.{FormedUnder}
use Rattle.verdict_theory.proofs.Theory.Pairs.{MonitorLaws}
use Rattle.window.specs.declared.Window.{Window}
use Rattle.window.specs.Perform.{WithinPacking, judge_of, perform_of, fresh_of}
use Rattle.window.specs.Step.{IsWindow}
use Rattle.window.proofs.Theory.Step.{holds_fresh, judged, performed, fits_within}
use Rattle.stored.proofs.Theory.SamePair.{same-window}

-- ── a letter is performed where it is coherent ──
abbrev pub performing : Window → Letter → Option Window
performing w a = pick (judge_of w a) (λ _. some (perform_of w a)) λ _. none

abbrev pub infeasible_in : Window → Bool
infeasible_in w = w.infeasible

pub performing_yes : (w : Window) (a : Letter) → judge_of w a ≡ true → performing w a ≡ some (perform_of w a)
performing_yes w a e = rw e refl

pub performing_no : (w : Window) (a : Letter) → judge_of w a ≡ false → performing w a ≡ none
performing_no w a e = rw e refl

-- what a letter that is performed tells
performed_some : (w v : Window) (a : Letter) → performing w a ≡ some v → (judge_of w a ≡ true) × (v ≡ perform_of w a)
performed_some w v a = by_test (judge_of w a)
    (λ e. rw e λ f. (refl, (let g : perform_of w a ≡ v = cc in sym g)))
    (λ e. rw e λ f. absurd (let z : ◌≡◌ {A = ℕ} 0 1 = cc in omega arith))

performed_none : (w : Window) (a : Letter) → performing w a ≡ none → judge_of w a ≡ false
performed_none w a = by_test (judge_of w a)
    (λ e. rw e λ f. absurd (let z : ◌≡◌ {A = ℕ} 0 1 = cc in omega arith))
    (λ e. rw e λ f. refl)

feasible_told : (σ : State) → Valid σ → (¬ (¬ Feasible σ)) → Feasible σ
feasible_told σ v n = elim (clash_or_feasible σ v) [ inl c ↦ absurd (n (λ f. (corollary_2 σ v).0 f c)) | inr f ↦ f ]

-- ── it is a monitor ──
module _ (h : Header) (registers : h.registers ≤ 8) (functions : h.functions ≤ 4) where
  module _ (ρ : Trace) (a : Letter) (w : Window) (f : FormedUnder h (ρ ▸ a)) (x : IsWindow (state ρ) w) where
    valid : Valid (state ρ)
    valid = state_valid ρ f.0.0

    within : WithinPacking a
    within = fits_within h a registers functions (subst (λ g. Fits g a) f.1 f.0.1)

    says : T (judge_of w a) ↔ CoherentLetter (state ρ) a
    says = judged (state ρ) valid w x a within f.0.1

    holds_after : CoherentLetter (state ρ) a → IsWindow (state (ρ ▸ a)) (perform_of w a)
    holds_after c = performed (state ρ) valid w x a within f.0.1 c

  pub watches : MonitorLaws h (begin h) Window IsWindow (fresh_of h.registers) performing infeasible_in
  watches = record {
    begins = holds_fresh h registers;
    goes = λ ρ a w v f c x e.
        let (j, g) = performed_some w v a e in
        let cl = (says ρ a w f x).0 (subst T (sym j) tt) in
        (cl, subst (IsWindow (state (ρ ▸ a))) (sym g) (holds_after ρ a w f x cl));
    stops = λ ρ a w f c x e cl. subst T (performed_none w a e) ((says ρ a w f x).1 cl);
    alike = λ ρ π w f g c d x y. (same-window (state ρ) (state π) (state_valid ρ f.0) (state_valid π g.0) w w x y).0 refl;
    equal = λ ρ π w v f g c d x y z. (same-window (state ρ) (state π) (state_valid ρ f.0) (state_valid π g.0) w v x y).1 z;
    tells_infeasible = λ ρ w f c x e y.
        x.tracks.infeasible.0 (subst T (sym e) tt) y;
    tells_feasible = λ ρ w f c x e.
        feasible_told (state ρ) (state_valid ρ f.0) (λ n. subst T e (x.tracks.infeasible.1 n));
  }
