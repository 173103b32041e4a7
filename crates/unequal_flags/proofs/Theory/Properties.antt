-- A state has at most one word. It is symmetric, has no bit 8 a + a and none of registers that name no class, and is 0 once the trace is infeasible.
use mathlib.Core.Path.{◌≡◌, refl, sym, subst}
use mathlib.Core.Logic.Iff
use mathlib.Core.Logic.{◌↔◌, ◌⊎◌, inl, inr, ⊎_elim, ◌≢◌}
use Prim.Native.Nat.{ℕ, ◌+◌, ◌*◌, ◌/◌, ◌%◌, ◌≤◌, ◌<◌}
use native.Mathlib.Omega.{arith}
use lib.Dec.{T}
use Rattle.base.specs.Masks.{has}
use Rattle.base.proofs.Theory.MaskLaws.{bits_same}
use Rattle.semantics.specs.Terms.{State}
use Rattle.semantics.specs.Facts.{Valid}
use Rattle.semantics.specs.Models.{Feasible}
use Rattle.semantics.specs.Closure.{Equivalent, symmetric, transitive}
use Rattle.semantics.specs.Window.{Apart}
use Rattle.semantics.proofs.Theory.Shown.{corollary_2}
use Rattle.window.specs.Layout.{registers, word_bits}
use Rattle.window.proofs.Theory.Bits.{same_bit, none_in, none_small}
use Rattle.unequal_flags.specs.Flags.{NamesClass, UnequalNames, WordOfState}

-- ---- of names

apart_turned : (σ : State) (a b : ℕ) → Apart σ a b → Apart σ b a
apart_turned σ a b p = record {
  left = p.right;
  right = p.left;
  tested = ⊎_elim (λ t. inr t) (λ t. inl t) p.tested;
  at_left = p.at_right;
  at_right = p.at_left;
}

pub names_turned : (σ : State) (a b : ℕ) → UnequalNames σ a b → UnequalNames σ b a
names_turned σ a b u = record { first = u.second; second = u.first; feasible = u.feasible; apart = apart_turned σ a b u.apart }

-- two names of classes that are known unequal are two
pub names_differ : (σ : State) → Valid σ → (a b : ℕ) → UnequalNames σ a b → a ≢ b
names_differ σ v a b u e =
    let p = u.apart in
    let same = transitive p.at_left (symmetric (subst (λ k. Equivalent σ p.right (σ.value k)) (sym e) p.at_right)) in
    (corollary_2 σ v).0 u.feasible (⊎_elim (λ t. (p.left, p.right, t, same)) (λ t. (p.right, p.left, t, symmetric same)) p.tested)

-- ---- of words

module _ (σ : State) (word : ℕ) (w : WordOfState σ word) where
  pub word_symmetric : (a b : ℕ) → a < registers → b < registers → T (has word (registers * a + b)) → T (has word (registers * b + a))
  word_symmetric a b ab bb t = (w.flag b a bb ab).1 (names_turned σ a b ((w.flag a b ab bb).0 t))

  pub word_own : Valid σ → (a : ℕ) → a < registers → ¬ T (has word (registers * a + a))
  word_own v a h t = names_differ σ v a a ((w.flag a a h h).0 t) refl

  -- a register that names no class, or is beyond the header, has no bits
  pub word_unnamed : (a b : ℕ) → a < registers → b < registers → (¬ NamesClass σ a) ⊎ (¬ NamesClass σ b) → ¬ T (has word (registers * a + b))
  word_unnamed a b ab bb n t = let u = (w.flag a b ab bb).0 t in ⊎_elim (λ m. m u.first) (λ m. m u.second) n

  pub word_beyond : (a b : ℕ) → a < registers → b < registers → (σ.header.registers ≤ a) ⊎ (σ.header.registers ≤ b)
      → ¬ T (has word (registers * a + b))
  word_beyond a b ab bb h = word_unnamed a b ab bb (⊎_elim (λ l. inl (λ m. let d = m.declared in absurd (omega arith)))
      (λ l. inr (λ m. let d = m.declared in absurd (omega arith))) h)

-- every bit of a word is some flag
flag_at : (σ : State) (word i : ℕ) → WordOfState σ word → i < word_bits → T (has word i) ↔ UnequalNames σ (i / registers) (i % registers)
flag_at σ word i w h =
    let place : registers * (i / registers) + i % registers ≡ i = omega arith in
    let below : i / registers < registers = omega arith in
    let along : i % registers < registers = omega arith in
    subst (λ k. T (has word k) ↔ UnequalNames σ (i / registers) (i % registers)) place (w.flag (i / registers) (i % registers) below along)

-- a state has one word
pub word_unique : (σ : State) (u v : ℕ) → WordOfState σ u → WordOfState σ v → u ≡ v
word_unique σ u v p q = bits_same word_bits u v p.within q.within
    (λ i h. same_bit u v i (Iff.trans (flag_at σ u i p h) (Iff.symm (flag_at σ v i q h))))

pub word_infeasible : (σ : State) (word : ℕ) → WordOfState σ word → ¬ Feasible σ → word ≡ 0
word_infeasible σ word w n = bits_same word_bits word 0 w.within (none_small word_bits)
    (λ i h. same_bit word 0 i ((λ t. absurd (n ((flag_at σ word i w h).0 t).feasible)), (λ t. absurd (none_in i t))))
