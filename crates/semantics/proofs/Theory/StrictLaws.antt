-- Request 3's rule beside document 01's own: what is coherent by the strict rule is coherent, and a trace is coherent exactly if it is so by the strict
-- rule without its redundant tests; the window is the same then.
use mathlib.Core.Path.{◌≡◌, refl, ap, subst}
use mathlib.Core.Logic.{◌⊎◌, inl, inr, ◌↔◌}
use Prim.Native.Nat.{ℕ}
use Rattle.letters.specs.declared.Header.{Header}
use Rattle.letters.specs.declared.Letter.{Letter}
use Rattle.letters.specs.declared.Letter.TheVariants.{Copy, Apply, Equal, Unequal}
use Rattle.letters.specs.Letters.{arity, Fits}
use Rattle.semantics.specs.Terms.{Trace, begin, ◌▸◌, State, after, state}
use Rattle.semantics.specs.Facts.{WellFormed, Valid}
use Rattle.semantics.specs.Coherence.{CoherentLetter, Coherent}
use Rattle.semantics.specs.Strict.{StrictLetter, StrictlyCoherent, RedundantTest, WithoutRedundant, without_letters, left_out, left_in}
use Rattle.semantics.specs.Paper.{CoherentModulo}
use Rattle.semantics.specs.SameWindow.{SameWindow}
use Rattle.semantics.specs.Decide.{agree}
use Rattle.semantics.specs.Judge.{merges_of}
use Rattle.semantics.proofs.Theory.Booleans.{or_not}
use Rattle.semantics.proofs.Theory.Facts.{state_valid}
use Rattle.semantics.proofs.Theory.Decide.{alike_i}
use Rattle.semantics.proofs.Theory.Judge.{agree_e}
use Rattle.semantics.proofs.Theory.SameWindow.{same_window_refl, same_window_sym, same_window_trans}
use Rattle.semantics.proofs.Theory.PaperLaws.{strict_one}
use Rattle.semantics.proofs.Theory.Redundant.{redundant_test}
use Rattle.semantics.proofs.Theory.Carries.{coherent_same, window_after}

-- ── the strict rule asks more ──
strict_letter : (σ : State) (a : Letter) → StrictLetter σ a → CoherentLetter σ a
strict_letter σ (Copy x y) c = tt
strict_letter σ (Apply x f y z) c = c
strict_letter σ (Equal x y) c = inr c
strict_letter σ (Unequal x y) c = tt

pub strict_coherent : (ρ : Trace) → StrictlyCoherent ρ → Coherent ρ
strict_coherent (begin h) c = tt
strict_coherent (ρ ▸ a) (c, l) = (strict_coherent ρ c, strict_letter (state ρ) a l)

-- Where all functions take one argument, Definition 5 asks what the strict rule asks, and so no less than the rule that holds.
pub coherent_one : (ρ : Trace) → WellFormed ρ → ((f : ℕ) → arity (state ρ).header f ≡ 1) → CoherentModulo ρ → Coherent ρ
coherent_one ρ w one c = strict_coherent ρ (strict_one ρ w one c)

-- A letter is coherent exactly if it is a redundant test or coherent by the strict rule.
pub redundant_or_strict : (σ : State) (a : Letter) → CoherentLetter σ a ↔ (RedundantTest σ a ⊎ StrictLetter σ a)
redundant_or_strict σ (Copy x y) = (λ c. inr tt, λ c. tt)
redundant_or_strict σ (Apply x f y z) = (λ c. inr c, λ c. elim c [ inl k ↦ absurd k | inr k ↦ k ])
redundant_or_strict σ (Equal x y) = (λ c. c, λ c. c)
redundant_or_strict σ (Unequal x y) = (λ c. inr tt, λ c. tt)

-- ── without redundant tests ──
redundant_or_not : (σ : State) → Valid σ → (a : Letter) → Fits σ.header a → RedundantTest σ a ⊎ ¬ RedundantTest σ a
redundant_or_not σ v (Copy x y) f = inr (λ k. k)
redundant_or_not σ v (Apply x f y z) b = inr (λ k. k)
redundant_or_not σ v (Equal x y) (xb, yb) = elim (or_not (agree (merges_of σ) (σ.value x) (σ.value y))) [
  | inl t ↦ inl (agree_e σ v (v.values x xb) (v.values y yb) t)
  | inr n ↦ inr (λ c. n (alike_i σ.terms σ.equals c))
]
redundant_or_not σ v (Unequal x y) f = inr (λ k. k)

-- For each trace there is one, and only one, that is it without its redundant tests.
pub without_some : (ρ : Trace) → WellFormed ρ → (π : Trace) × WithoutRedundant ρ π
without_some (begin h) w = (begin h, without_letters)
without_some (ρ ▸ a) w =
    let (π, p) = without_some ρ w.0 in
    elim (redundant_or_not (state ρ) (state_valid ρ w.0) a w.1) [ inl r ↦ (π, left_out p r) | inr n ↦ (π ▸ a, left_in p n) ]

pub without_one : {ρ π κ : Trace} → WithoutRedundant ρ π → WithoutRedundant ρ κ → π ≡ κ
without_one without_letters without_letters = refl
without_one (left_out p r) (left_out q s) = without_one p q
without_one (left_out p r) (left_in q n) = absurd (n r)
without_one (left_in p n) (left_out q s) = absurd (n s)
without_one (left_in {a} p n) (left_in q m) = ap (λ π. π ▸ a) (without_one p q)

header_without : {ρ π : Trace} → WithoutRedundant ρ π → (state ρ).header ≡ (state π).header
header_without without_letters = refl
header_without (left_out p r) = header_without p
header_without (left_in p n) = header_without p

pub without_formed : {ρ π : Trace} → WithoutRedundant ρ π → WellFormed ρ → WellFormed π
without_formed without_letters w = tt
without_formed (left_out p r) (w, f) = without_formed p w
without_formed (left_in {a} p n) (w, f) = (without_formed p w, subst (λ (h : Header). Fits h a) (header_without p) f)

-- A redundant test leaves the window as it is.
redundant_window : (σ : State) (a : Letter) → RedundantTest σ a → SameWindow σ (after σ a)
redundant_window σ (Copy x y) r = absurd r
redundant_window σ (Apply x f y z) r = absurd r
redundant_window σ (Equal x y) r = redundant_test σ x y r
redundant_window σ (Unequal x y) r = absurd r

module _ (σ τ : State) (v : Valid σ) (u : Valid τ) (same : SameWindow σ τ) where
  redundant_same : (a : Letter) → Fits σ.header a → RedundantTest τ a → RedundantTest σ a
  redundant_same (Copy x y) f r = r
  redundant_same (Apply x g y z) f r = r
  redundant_same (Equal x y) (xb, yb) r = (same.same x y xb yb).1 r
  redundant_same (Unequal x y) f r = r

  -- Another letter is coherent after one exactly if it is strictly so after the other.
  strict_same : (a : Letter) → Fits σ.header a → Fits τ.header a → ¬ RedundantTest σ a → CoherentLetter σ a ↔ StrictLetter τ a
  strict_same a f g n = (
    λ c. elim ((redundant_or_strict τ a).0 ((coherent_same σ τ v u same a f g).0 c)) [ inl r ↦ absurd (n (redundant_same a f r)) | inr s ↦ s ],
    λ s. (coherent_same σ τ v u same a f g).1 (strict_letter τ a s),
  )

-- What is left of a coherent trace is coherent by the strict rule, and has its window;
pub without_strict : {ρ π : Trace} → WithoutRedundant ρ π → WellFormed ρ → Coherent ρ → StrictlyCoherent π × SameWindow (state ρ) (state π)
without_strict (without_letters {h}) w c = (tt, same_window_refl (state (begin h)))
without_strict (left_out {ρ} {a} p r) (w, f) (c, l) =
    let (s, z) = without_strict p w c in (s, same_window_trans (same_window_sym (redundant_window (state ρ) a r)) z)
without_strict (left_in {ρ} {π} {a} p n) (w, f) (c, l) =
    let (s, z) = without_strict p w c in
    let (k, g) = without_formed (left_in {a = a} p n) (w, f) in
    let v = state_valid ρ w in
    let u = state_valid π k in
    ((s, (strict_same (state ρ) (state π) v u z a f g n).0 l), window_after (state ρ) (state π) v u z a f g l)

-- and where what is left is so, the trace is coherent.
pub without_coherent : {ρ π : Trace} → WithoutRedundant ρ π → WellFormed ρ → StrictlyCoherent π → Coherent ρ
without_coherent without_letters w s = tt
without_coherent (left_out {ρ} {a} p r) (w, f) s = (without_coherent p w s, (redundant_or_strict (state ρ) a).1 (inl r))
without_coherent (left_in {ρ} {π} {a} p n) (w, f) (s, l) =
    let c = without_coherent p w s in
    let (k, g) = without_formed (left_in {a = a} p n) (w, f) in
    (c, (strict_same (state ρ) (state π) (state_valid ρ w) (state_valid π k) (without_strict p w c).1 a f g n).1 l)
