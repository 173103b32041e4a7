-- What follows from the definitions of specs/Places.antt.
use mathlib.Core.Path.{◌≡◌, sym, ap, ◌∙◌, subst}
use Prim.Native.Nat.{ℕ, ◌+◌, ◌*◌, ◌/◌, ◌%◌, ◌<◌}
use native.Mathlib.Omega.{arith}
use native.Mathlib.Nat.{add-zero, mul-zero, mul-suc, mul_comm, mul_assoc, mul-add, mul-le-mul_left, mod-lt, mod-eq_of_lt, div-eq_of_lt, div-lt_iff_lt-mul}
use native.Mathlib.Nat.{div-add-mod, mul-add-div, mul-add-mod_self_left, div-div-eq-div-mul}
use lib.Dec.{ltb}
use borrow.Author.Tests.{ltb-true, ltb-false}
use Rattle.base.proofs.Theory.Choice.{by_test}
use Rattle.window.specs.Places.{place, place_function, place_first, place_second}

module _ (ρ : ℕ) where
  -- ---- entry d of line j is ρ j + d

  pub entry_is : (k : ℕ) → ρ * (k / ρ) + k % ρ ≡ k
  entry_is k = div-add-mod k ρ

  pub line_entry : (j d : ℕ) → d < ρ → (ρ * j + d) / ρ ≡ j
  line_entry j d h = mul-add-div {m = ρ} (omega arith) j d ∙ ap (λ q. j + q) (div-eq_of_lt h) ∙ add-zero j

  pub along_entry : (j d : ℕ) → d < ρ → (ρ * j + d) % ρ ≡ d
  along_entry j d h = mul-add-mod_self_left ρ j d ∙ mod-eq_of_lt h

  -- ---- the result of f at a and b

  pub place_sum : (f a b : ℕ) → ρ * ρ * f + ρ * a + b ≡ place ρ f a b
  place_sum f a b = omega (arith, mul_assoc ρ ρ f, mul-add ρ (ρ * f) a)

  pub place_is : (k : ℕ) → place ρ (place_function ρ k) (place_first ρ k) (place_second ρ k) ≡ k
  place_is k = ap (λ f. place ρ f (place_first ρ k) (place_second ρ k)) (sym (div-div-eq-div-mul k ρ ρ)) ∙ ap (λ j. ρ * j + k % ρ) (entry_is (k / ρ))
      ∙ entry_is k

  module _ (f a b : ℕ) (ab : a < ρ) (bb : b < ρ) where
    pub function_place : place_function ρ (place ρ f a b) ≡ f
    function_place = sym (div-div-eq-div-mul (place ρ f a b) ρ ρ) ∙ ap (λ j. j / ρ) (line_entry (ρ * f + a) b bb) ∙ line_entry f a ab

    pub first_place : place_first ρ (place ρ f a b) ≡ a
    first_place = ap (λ j. j % ρ) (line_entry (ρ * f + a) b bb) ∙ along_entry f a ab

    pub second_place : place_second ρ (place ρ f a b) ≡ b
    second_place = along_entry (ρ * f + a) b bb

  -- ---- what lies below a bound

  -- a table with an entry has a register
  pub some : (n k : ℕ) → k < n * ρ → 0 < ρ
  some n k h = by_test (ltb 0 ρ) (λ t. ltb-true 0 ρ t)
      (λ t. let l = ltb-false 0 ρ t in let z : ρ ≡ 0 = omega arith in let e = ap (λ r. n * r) z ∙ mul-zero n in absurd (omega arith))

  pub entry_below : (n j d : ℕ) → j < n → d < ρ → ρ * j + d < n * ρ
  entry_below n j d h g = let l = mul-le-mul_left ρ h in omega (arith, l, mul-suc ρ j, mul_comm ρ n)

  pub line_below : (n k : ℕ) → k < n * ρ → k / ρ < n
  line_below n k h = (div-lt_iff_lt-mul {k = ρ} {x = k} {y = n} (some n k h)).1 h

  module _ (f a b : ℕ) (ab : a < ρ) (bb : b < ρ) where
    pub place_below : (φ : ℕ) → f < φ → place ρ f a b < φ * ρ * ρ
    place_below φ fb = entry_below (φ * ρ) (ρ * f + a) b (entry_below φ f a fb ab) bb

  module _ (φ k : ℕ) (kb : k < φ * ρ * ρ) where
    pub function_below : place_function ρ k < φ
    function_below = subst (λ z. z < φ) (div-div-eq-div-mul k ρ ρ) (line_below φ (k / ρ) (line_below (φ * ρ) k kb))

    pub first_below : place_first ρ k < ρ
    first_below = mod-lt (k / ρ) (some (φ * ρ) k kb)

    pub second_below : place_second ρ k < ρ
    second_below = mod-lt k (some (φ * ρ) k kb)
