-- The search for an unequal test whose sides are in one class, and what is known of entries in range.
use mathlib.Core.Path.{◌≡◌, refl, sym, ◌∙◌, ap, subst}
use mathlib.Core.Logic.{◌≢◌}
use mathlib.Core.Bool.{true, false}
use mathlib.Core.List.{List}
use Prim.Native.Nat.{ℕ, zero, suc, ◌+◌, ◌≤◌, ◌<◌}
use native.Mathlib.Omega.{arith}
use lib.Dec.{eqb}
use lib.ListN.{get_or, replicate}
use borrow.Author.Tests.{eqb-true, eqb-false}
use Rattle.base.proofs.Theory.Choice.{by_test}
use Rattle.closure.specs.Arrays.{Below, Parts, Clashes, clashes, parts}

pub below_use : (b n a i : ℕ) (l : List ℕ) → Below b n l → i < n → a ≡ get_or l i 0 → a < b
unfolding Below
below_use b n a i l h k e = subst (λ v. v < b) (sym e) (h i k)

pub below_widen : (b c n : ℕ) (l : List ℕ) → b ≤ c → Below b n l → Below c n l
unfolding Below
below_widen b c n l h g i k = let x = g i k in omega arith

pub zeros : (n q : ℕ) → ◌≡◌ {A = ℕ} (get_or {A = ℕ} (replicate n 0) q 0) 0
zeros zero q = refl
zeros (suc n) zero = refl
zeros (suc n) (suc q) = zeros n q

module _ (representative left right : List ℕ) (m : ℕ) where
  pub parts_more : (i a b : ℕ) → Parts representative left right i → a ≡ get_or left i 0 → b ≡ get_or right i 0
      → get_or representative a 0 ≢ get_or representative b 0
      → Parts representative left right (i + 1)
  unfolding Parts
  parts_more i a b h p q x k l = by_test (eqb k i)
      (λ t z. let e = eqb-true k i t in
      x (ap (λ v. get_or representative v 0) (p ∙ ap (λ v. get_or left v 0) (sym e)) ∙ z
      ∙ ap (λ v. get_or representative v 0) (sym (q ∙ ap (λ v. get_or right v 0) (sym e)))))
      (λ t. let y : k ≢ i = eqb-false k i t in h k (omega arith))

  pub clash_hit : (i a b : ℕ) → i < m → a ≡ get_or left i 0 → b ≡ get_or right i 0 → get_or representative a 0 ≡ get_or representative b 0
      → Clashes representative left right m true
  clash_hit i a b h p q e = clashes i h (ap (λ v. get_or representative v 0) (sym p) ∙ e ∙ ap (λ v. get_or representative v 0) q)

  pub clash_end : (i : ℕ) → Parts representative left right i → m ≤ i → Clashes representative left right m false
  unfolding Parts
  clash_end i h l = parts (λ q b. h q (omega arith))
