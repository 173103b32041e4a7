-- Values are those of Definition 3; the letters that a run names are the first ones, and the infeasible one comes before the incoherent one;
-- coherence is Definition 5's with one condition more and one exception.
use mathlib.Core.Path.{◌≡◌, refl, ap, ◌∙◌, subst}
use mathlib.Core.Logic.Iff
use mathlib.Core.Logic.{inl, inr, ◌↔◌}
use mathlib.Core.Bool.{true, false, cond}
use Prim.Native.Nat.{ℕ, zero, suc, ◌≤◌, ◌<◌}
use native.Mathlib.Omega.{arith}
use borrow.Author.Tests.{eq-eqb, ne_eqb}
use Rattle.letters.specs.declared.Letter.{Letter}
use Rattle.letters.specs.declared.Letter.TheVariants.{Copy, Apply, Equal, Unequal}
use Rattle.letters.specs.Letters.{Fits}
use Rattle.semantics.specs.Terms.{◌∈◌, Term, con, app, State, Trace, begin, ◌▸◌, state}
use Rattle.semantics.specs.Facts.{WellFormed, Valid}
use Rattle.semantics.specs.Closure.{reflexive, Held}
use Rattle.semantics.specs.Models.{Feasible}
use Rattle.semantics.specs.Coherence.{Superterm, once, again, Above, Early, Coherent}
use Rattle.semantics.specs.Strict.{StrictLetter, StrictlyCoherent, RedundantTest}
use Rattle.semantics.specs.Prefixes.{Begins, whole, before, PrefixClosed}
use Rattle.semantics.specs.Judgement.{size, FailsAt, FirstFailure, Longest, Judgement}
use Rattle.semantics.specs.FirstLetters.{coherent_part}
use Rattle.semantics.specs.Paper.{SupertermModulo, HeldModulo, EarlyModulo, CoherentLetterModulo, CoherentModulo}
use Rattle.semantics.proofs.Theory.Facts.{state_valid}
use Rattle.semantics.proofs.Theory.Prefixes.{begins_size, begins_has}
use Rattle.semantics.proofs.Theory.JudgementLaws.{longest_is, longest_unique, part_size, failed, fails_size, feasible_closed, coherent_closed, judged_unique}
use Rattle.macros.proofs.Theory.Numbers.{less_or}
use Rattle.semantics.proofs.Theory.PaperLaws.{congruent_is, held_is, superterm_is, memoizing_is, early_stricter, constants_computed}
use Rattle.semantics.proofs.Theory.StrictLaws.{strict_coherent, redundant_or_strict}
use Rattle.theorems.specs.Definition3.{Definition3}
use Rattle.theorems.specs.Stricter.{ArgumentsHeld, Stricter}
use Rattle.theorems.specs.Milder.{SidesJoined, Definition5Changed}

pub definition_3 : Definition3 (λ ρ. (state ρ).value)
definition_3 = record {
  begins = λ h r. refl;
  copied = λ ρ x y. ap (λ b. (state ρ).value (cond b y x)) (eq-eqb x x refl);
  copy_keeps = λ ρ x y r n. ap (λ b. (state ρ).value (cond b y r)) (ne_eqb r x n);
  applied = λ ρ x f y z. ap (λ b. elim b as (λ _. Term) [ true ↦ app f ((state ρ).value y) ((state ρ).value z) | false ↦ (state ρ).value x ]) (eq-eqb x x refl);
  apply_keeps = λ ρ x f y z r n.
      ap (λ b. elim b as (λ _. Term) [ true ↦ app f ((state ρ).value y) ((state ρ).value z) | false ↦ (state ρ).value r ]) (ne_eqb r x n);
  equal_keeps = λ ρ x y r. refl;
  unequal_keeps = λ ρ x y r. refl;
}

within : {π κ ρ : Trace} → Begins π ρ → Begins κ ρ → size π ≤ size κ → Begins π κ
within b whole l = b
within whole (before c) l = absurd (omega (arith, begins_size c))
within (before b) (before c) l = within b c l

module _ (P : Trace → Type 0) (closed : PrefixClosed P) where
  fails_before : (ρ : Trace) (k : ℕ) → FailsAt P ρ k → (π : Trace) → Begins π ρ → size π < k → P π
  fails_before (begin h) k f π b l = absurd f
  fails_before (ρ ▸ a) k (inl f) π whole l = absurd (omega (arith, (fails_size P closed ρ k f).1))
  fails_before (ρ ▸ a) k (inl f) π (before b) l = fails_before ρ k f π b l
  fails_before (ρ ▸ a) k (inr (e, p, n)) π whole l = absurd (omega arith)
  fails_before (ρ ▸ a) k (inr (e, p, n)) π (before b) l = begins_has P closed b p

  fails_from : (ρ : Trace) (k : ℕ) → FailsAt P ρ k → (π : Trace) → Begins π ρ → k ≤ size π → ¬ P π
  fails_from (begin h) k f π b l p = absurd f
  fails_from (ρ ▸ a) k (inl f) π whole l p = failed P closed ρ k f (closed ρ a p)
  fails_from (ρ ▸ a) k (inl f) π (before b) l p = fails_from ρ k f π b l p
  fails_from (ρ ▸ a) k (inr (e, q, n)) π whole l p = n p
  fails_from (ρ ▸ a) k (inr (e, q, n)) π (before b) l p = absurd (omega (arith, begins_size b))

  -- the beginnings of which P holds are those without letter k + 1
  pub first_exactly : (ρ : Trace) (k : ℕ) → FailsAt P ρ (suc k) → (π : Trace) → Begins π ρ → P π ↔ (size π ≤ k)
  first_exactly ρ k f π b = (
    λ p. elim (less_or k (size π)) [ inl l ↦ absurd (fails_from ρ (suc k) f π b (omega arith) p) | inr l ↦ l ],
    λ l. fails_before ρ (suc k) f π b (omega arith),
  )

-- a coherent beginning begins the longest one
coherent_within : (ρ π κ : Trace) → Longest ρ κ → Begins π ρ → Coherent π → Begins π κ
coherent_within ρ π κ l b c = within b l.beginning (l.longest π b c)

pub infeasible_exactly : (ρ : Trace) (i k : ℕ) → Judgement ρ i (suc k) → (π : Trace) → Begins π ρ → Coherent π → Feasible (state π) ↔ (size π ≤ k)
infeasible_exactly ρ i k j π b c =
    first_exactly (λ π. Feasible (state π)) feasible_closed j.part k j.feasibility π (coherent_within ρ π j.part j.longest b c)

pub feasible_throughout : (ρ : Trace) (i : ℕ) → Judgement ρ i 0 → (π : Trace) → Begins π ρ → Coherent π → Feasible (state π)
feasible_throughout ρ i j π b c =
    begins_has (λ π. Feasible (state π)) feasible_closed (coherent_within ρ π j.part j.longest b c) j.feasibility

pub infeasible_before : (ρ : Trace) → WellFormed ρ → (incoherent infeasible : ℕ) → Judgement ρ (suc incoherent) infeasible → infeasible ≤ incoherent
infeasible_before ρ w i zero j = omega arith
infeasible_before ρ w i (suc k) j =
    let part : j.part ≡ coherent_part ρ = longest_unique ρ j.part (coherent_part ρ) j.longest (longest_is ρ w) in
    let long : size j.part ≡ i = ap size part ∙ part_size ρ w i j.coherence in
    omega (arith, (fails_size (λ π. Feasible (state π)) feasible_closed j.part (suc k) j.feasibility).1)

module _ (σ : State) (v : Valid σ) (computed : (r : ℕ) → r < σ.header.registers → con r ∈ σ.terms) where
  superterm : {t a b : Term} {f : ℕ} → app f a b ∈ σ.terms → Above σ.terms σ.equals t a b → Superterm σ.terms σ.equals t (app f a b)
  superterm m (inl (inl c)) = once m (inl c) (reflexive m)
  superterm m (inl (inr n)) = again n m (inl (reflexive (v.arguments _ _ _ m).0)) (reflexive m)
  superterm m (inr (inl c)) = once m (inr c) (reflexive m)
  superterm m (inr (inr n)) = again n m (inr (reflexive (v.arguments _ _ _ m).1)) (reflexive m)

  result : (r : ℕ) → r < σ.header.registers → ((s : Term) → s ∈ σ.terms → SupertermModulo σ.equals (σ.value r) s → HeldModulo σ s)
      → (f : ℕ) (a b : Term) → app f a b ∈ σ.terms → Above σ.terms σ.equals (σ.value r) a b → Held σ (app f a b)
  result r rb g f a b m k = (held_is σ v m).0 (g (app f a b) m ((superterm_is σ v computed (v.values r rb) m).1 (superterm m k)))

  pub early_is : (x y : ℕ) → x < σ.header.registers → y < σ.header.registers → Early σ x y ↔ (EarlyModulo σ x y × ArgumentsHeld σ (Equal x y))
  early_is x y xb yb = (
    λ e. (
      early_stricter σ v computed x y xb yb e,
      λ f a b m k. elim k [ inl h ↦ let (r, s, t) = e.0 f a b m h in (s, t) | inr h ↦ let (r, s, t) = e.1 f a b m h in (s, t) ],
    ),
    λ (e, k). (
      λ f a b m h. let (s, t) = k f a b m (inl h) in (result x xb (λ u i j. e u i (inl j)) f a b m h, s, t),
      λ f a b m h. let (s, t) = k f a b m (inr h) in (result y yb (λ u i j. e u i (inr j)) f a b m h, s, t),
    ),
  )

-- A letter is coherent by document 01's own rule exactly if it is so by Definition 5 and its arguments are held;
letter_exactly : (ρ : Trace) → WellFormed ρ → (a : Letter) → Fits (state ρ).header a
    → StrictLetter (state ρ) a ↔ (CoherentLetterModulo (state ρ) a × ArgumentsHeld (state ρ) a)
letter_exactly ρ w (Copy x y) f = (λ c. (tt, tt), λ c. tt)
letter_exactly ρ w (Apply x h y z) f =
    let (i, j) = memoizing_is (state ρ) (state_valid ρ w) (constants_computed ρ) x h y z f in (λ c. (i c, tt), λ (c, k). j c)
letter_exactly ρ w (Equal x y) (xb, yb) = early_is (state ρ) (state_valid ρ w) (constants_computed ρ) x y xb yb
letter_exactly ρ w (Unequal x y) f = (λ c. (tt, tt), λ c. tt)

-- and is a test of equal sides exactly if the congruence joins them.
sides_joined : (ρ : Trace) → WellFormed ρ → (a : Letter) → Fits (state ρ).header a → RedundantTest (state ρ) a ↔ SidesJoined (state ρ) a
sides_joined ρ w (Copy x y) f = (λ k. k, λ k. k)
sides_joined ρ w (Apply x h y z) f = (λ k. k, λ k. k)
sides_joined ρ w (Equal x y) (xb, yb) = let v = state_valid ρ w in Iff.symm (congruent_is (state ρ) v (v.values x xb) (v.values y yb))
sides_joined ρ w (Unequal x y) f = (λ k. k, λ k. k)

pub strict_exactly : (ρ : Trace) → WellFormed ρ → StrictlyCoherent ρ ↔ (CoherentModulo ρ × Stricter ρ)
strict_exactly (begin h) w = (λ c. (tt, tt), λ c. tt)
strict_exactly (ρ ▸ a) (w, b) =
    let (f, g) = strict_exactly ρ w in
    let (i, j) = letter_exactly ρ w a b in
    (λ (c, l). let (p, q) = f c in let (s, t) = i l in ((p, s), (q, t)), λ ((p, l), (q, k)). (g (p, q), j (l, k)))

pub coherent_changed : (ρ : Trace) → WellFormed ρ → Coherent ρ ↔ Definition5Changed ρ
coherent_changed (begin h) w = (λ c. tt, λ c. tt)
coherent_changed (ρ ▸ a) (w, b) =
    let (f, g) = coherent_changed ρ w in
    let (p, q) = redundant_or_strict (state ρ) a in
    let (i, j) = letter_exactly ρ w a b in
    let (k, l) = sides_joined ρ w a b in (
      λ (c, d). (f c, elim (p d) [ inl r ↦ inl (k r) | inr s ↦ inr (i s) ]),
      λ (c, d). (g c, q (elim d [ inl r ↦ inl (l r) | inr s ↦ inr (j s) ])),
    )

-- ── the rule of request 3 ──
-- What is named now is never named before the strict rule would have named a letter.
pub not_before_strict : (ρ : Trace) (k i : ℕ) → FailsAt Coherent ρ k → FirstFailure StrictlyCoherent ρ i → (1 ≤ i) × (i ≤ k)
not_before_strict (begin h) k i f s = absurd f
not_before_strict (ρ ▸ a) k zero f s = absurd (failed Coherent coherent_closed (ρ ▸ a) k f (strict_coherent (ρ ▸ a) s))
not_before_strict (ρ ▸ a) k (suc i) (inl f) (inl s) = not_before_strict ρ k (suc i) f s
not_before_strict (ρ ▸ a) k (suc i) (inl f) (inr (e, p, n)) = absurd (failed Coherent coherent_closed ρ k f (strict_coherent ρ p))
not_before_strict (ρ ▸ a) k (suc i) (inr (e, p, n)) (inl s) =
    let b = (fails_size StrictlyCoherent (λ π b c. c.0) ρ (suc i) s).1 in (omega arith, omega arith)
not_before_strict (ρ ▸ a) k (suc i) (inr (e, p, n)) (inr (d, q, m)) = (omega arith, omega arith)

fails_longer : (P : Trace → Type 0) {π κ : Trace} (k : ℕ) → Begins π κ → FailsAt P π k → FailsAt P κ k
fails_longer P k whole f = f
fails_longer P k (before b) f = inl (fails_longer P k b f)

-- The infeasible letter that a strict run named is the one that is named.
pub infeasible_stays : (ρ π : Trace) (i j k : ℕ) → Begins π ρ → StrictlyCoherent π → FailsAt (λ κ. Feasible (state κ)) π (suc k) → Judgement ρ i j → j ≡ suc k
infeasible_stays ρ π i j k b s f x =
    judged_unique (λ κ. Feasible (state κ)) feasible_closed x.part j (suc k) x.feasibility
    (fails_longer (λ κ. Feasible (state κ)) (suc k) (coherent_within ρ π x.part x.longest b (strict_coherent π s)) f)

-- A coherent trace is its own longest coherent beginning, so that the infeasible letter of a run is the first of the whole trace.
pub coherent_feasibility : (ρ : Trace) (i k : ℕ) → Coherent ρ → Judgement ρ i k → (i ≡ 0) × FirstFailure (λ π. Feasible (state π)) ρ k
coherent_feasibility ρ (suc i) k c j = absurd (failed Coherent coherent_closed ρ (suc i) j.coherence c)
coherent_feasibility ρ zero k c j =
    let itself : Longest ρ ρ = record { beginning = whole; coherent = c; longest = λ κ b d. begins_size b } in
    (refl, subst (λ π. FirstFailure (λ κ. Feasible (state κ)) π k) (longest_unique ρ j.part ρ j.longest itself) j.feasibility)
