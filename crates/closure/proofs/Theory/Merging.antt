-- What follows from the definitions of specs/Merging.antt.
use mathlib.Core.Path.{◌≡◌, refl, sym, ◌∙◌, ap, subst}
use mathlib.Core.Logic.{◌⊎◌, inl, inr, ◌≢◌}
use mathlib.Core.Bool.{Bool, true, false}
use Prim.Native.Nat.{ℕ, ◌<◌}
use lib.Dec.{eqb}
use borrow.Author.Tests.{eqb-true, eqb-false}
use Rattle.base.specs.Choice.{pick}
use Rattle.closure.specs.Merging.{relabel_of, Entailed, Propagating}

pub data Relabeled (from to v : ℕ) : ℕ → Type 0 where
  moved : v ≡ from → Relabeled from to v to
  stays : v ≢ from → Relabeled from to v v

pub relabeled : (from to v : ℕ) → Relabeled from to v (relabel_of from to v)
unfolding relabel_of
relabeled from to v = go (eqb v from) refl
  where
    go : (b : Bool) → eqb v from ≡ b → Relabeled from to v (pick b (λ _. to) λ _. v)
    go true e = moved (eqb-true v from e)
    go false e = stays (eqb-false v from e)

module _ (function first second : ℕ → ℕ) (registers n : ℕ) (old : ℕ → ℕ) (x y : ℕ) where
  pub propagating_start : Propagating function first second registers n old x y old
  propagating_start = record { sound = λ i j h k e. Entailed.already h k e; keeps = λ i j h k e. e }

  -- one union, of the classes of a and b: from and to are these two, in some order
  pub propagating_union : (representative representative' : ℕ → ℕ) (a b from to : ℕ) → Propagating function first second registers n old x y representative
      → Entailed function first second registers n old x y a b → a < n → b < n
      → ((from ≡ representative a) × (to ≡ representative b)) ⊎ ((from ≡ representative b) × (to ≡ representative a))
      → ((k : ℕ) → k < n → representative' k ≡ relabel_of from to (representative k)) → Propagating function first second registers n old x y representative'
  propagating_union representative representative' a b from to w f la lb o r = record {
    sound = λ i j h k e. sound' i j h k (view i h) (view j k) e;
    keeps = λ i j h k e. r i h ∙ ap (relabel_of from to) (w.keeps i j h k e) ∙ sym (r j k);
  }
    where
      view : (i : ℕ) → i < n → Relabeled from to (representative i) (representative' i)
      view i h = subst (Relabeled from to (representative i)) (sym (r i h)) (relabeled from to (representative i))

      cross : (i j : ℕ) → i < n → j < n → representative i ≡ from → representative j ≡ to → Entailed function first second registers n old x y i j
      cross i j h k e g = elim o [
        | inl (p, q) ↦ Entailed.chained (w.sound i a h la (e ∙ p)) (Entailed.chained f (w.sound b j lb k (sym (g ∙ q))))
        | inr (p, q) ↦ Entailed.chained (w.sound i b h lb (e ∙ p)) (Entailed.chained (Entailed.reversed f) (w.sound a j la k (sym (g ∙ q))))
      ]

      sound' : (i j : ℕ) → i < n → j < n → {v u : ℕ} → Relabeled from to (representative i) v → Relabeled from to (representative j) u → v ≡ u
          → Entailed function first second registers n old x y i j
      sound' i j h k (moved e) (moved g) p = w.sound i j h k (e ∙ sym g)
      sound' i j h k (moved e) (stays g) p = cross i j h k e (sym p)
      sound' i j h k (stays e) (moved g) p = Entailed.reversed (cross j i k h g p)
      sound' i j h k (stays e) (stays g) p = w.sound i j h k p
