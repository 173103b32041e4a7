-- Coherence of a letter, read off the window.
use mathlib.Core.Bool.{Bool, true, not, ◌&&◌, ◌||◌}
use mathlib.Core.Logic.Iff
use mathlib.Core.Logic.{inl, inr, ◌↔◌}
use Prim.Native.Nat.{ℕ, ◌<◌}
use lib.Dec.{T, T_not, not_T}
use Rattle.letters.specs.declared.Letter.{Letter}
use Rattle.letters.specs.declared.Letter.TheVariants.{Copy, Apply, Equal, Unequal}
use Rattle.letters.specs.Letters.{Fits}
use Rattle.semantics.proofs.Theory.Booleans.{or_not, and_l, and_r, and_i, or_e, or_l, or_r}
use Rattle.semantics.specs.Lists.{any}
use Rattle.semantics.proofs.Theory.Lists.{any_e, any_i}
use Rattle.semantics.specs.Terms.{State}
use Rattle.semantics.specs.Facts.{Valid}
use Rattle.semantics.specs.Coherence.{CoherentLetter}
use Rattle.semantics.specs.View.{View, Tracks}
use Rattle.semantics.specs.Judge.{upto}
use Rattle.semantics.proofs.Theory.Judge.{upto_i, upto_e}
use Rattle.semantics.proofs.Theory.Steps.{fine_apply, fine_equal}

-- The condition on equal tests of sides that are not equal already: neither is marked.
abbrev pub early_in : View → ℕ → ℕ → Bool
early_in w x y = not (w.marked x) && not (w.marked y)

-- The condition on applications: if the application was ever computed, one of the n registers holds its result.
abbrev pub memoizing_in : ℕ → View → ℕ → ℕ → ℕ → Bool
memoizing_in n w f y z = not (w.ever f y z) || any (w.result f y z) (upto n)

-- The window of n registers lets the letter through.
abbrev pub coherent_in : ℕ → View → Letter → Bool
coherent_in n w (Copy x y) = true
coherent_in n w (Apply x f y z) = memoizing_in n w f y z
coherent_in n w (Equal x y) = w.same x y || early_in w x y
coherent_in n w (Unequal x y) = true

-- It does so exactly for the coherent letters.
pub coherent-in : (σ : State) → Valid σ → (a : Letter) → Fits σ.header a → (w : View) → Tracks σ w
    → T (coherent_in σ.header.registers w a) ↔ CoherentLetter σ a
coherent-in σ v (Copy x y) f w t = (λ k. k, λ k. k)
coherent-in σ v (Unequal x y) f w t = (λ k. k, λ k. k)
coherent-in σ v (Equal x y) (xb, yb) w t = (
  λ k. elim (or_e (w.same x y) (early_in w x y) k) [
    | inl s ↦ inl ((t.same x y xb yb).0 s)
    | inr e ↦ inr ((fine_equal σ v x y xb yb w t).1 (out e))
  ],
  λ c. elim c [
    | inl s ↦ or_l (w.same x y) (early_in w x y) ((t.same x y xb yb).1 s)
    | inr e ↦ or_r (w.same x y) (early_in w x y) (into ((fine_equal σ v x y xb yb w t).0 e))
  ],
)
  where
    out : T (early_in w x y) → (¬ T (w.marked x)) × (¬ T (w.marked y))
    out k =
        (T_not (w.marked x) (and_l (not (w.marked x)) (not (w.marked y)) k), T_not (w.marked y) (and_r (not (w.marked x)) (not (w.marked y)) k))

    into : (¬ T (w.marked x)) × (¬ T (w.marked y)) → T (early_in w x y)
    into (p, q) = and_i (not (w.marked x)) (not (w.marked y)) (not_T (w.marked x) p) (not_T (w.marked y) q)
coherent-in σ v (Apply x f y z) (xb, fb, yb, zb, one) w t = Iff.trans (out, into) (Iff.symm (fine_apply σ v x f y z yb zb w t))
  where
    n : ℕ
    n = σ.header.registers

    some : Bool
    some = any (w.result f y z) (upto n)

    out : T (memoizing_in σ.header.registers w f y z) → T (w.ever f y z) → (r : ℕ) × (r < σ.header.registers) × T (w.result f y z r)
    out k e = elim (or_e (not (w.ever f y z)) some k) [
      | inl c ↦ absurd (T_not (w.ever f y z) c e)
      | inr h ↦ let (r, m, k) = any_e (w.result f y z) (upto n) h in (r, upto_e n m, k)
    ]

    into : (T (w.ever f y z) → (r : ℕ) × (r < σ.header.registers) × T (w.result f y z r)) → T (memoizing_in σ.header.registers w f y z)
    into h = elim (or_not (w.ever f y z)) [
      | inl e ↦ let (r, b, k) = h e in or_r (not (w.ever f y z)) some (any_i (w.result f y z) (upto_i b) k)
      | inr c ↦ or_l (not (w.ever f y z)) some (not_T (w.ever f y z) c)
    ]
