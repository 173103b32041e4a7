-- What follows from the definitions of specs/Recursion.antt.
use mathlib.Core.Path.{◌≡◌}
use Prim.Native.Nat.{ℕ, zero, suc, ◌<◌}
use native.Mathlib.Omega.{arith}
use Rattle.base.specs.Recursion.{within_calls, fixed}

module _ {S R : Type 0} (size : S → ℕ) (none : S → R) (step : (S → R) → S → R) where
  -- Good x r: what is known of a result r at x. `local`: a step asks only for results at a smaller size, so two ways to answer that agree there give one
  -- result.
  module _ (Good : S → R → Type 0) (at_none : (x : S) → Good x (none x)) (keeps : (f : S → R) → ((y : S) → Good y (f y)) → (x : S) → Good x (step f x))
      (local : (f g : S → R) → ((y : S) → Good y (f y)) → (x : S) → ((y : S) → size y < size x → f y ≡ g y) → step f x ≡ step g x) where
    run_good : (k : ℕ) (x : S) → Good x (within_calls size none step k x)
    unfolding within_calls
    run_good zero x = at_none x
    run_good (suc k) x = keeps (within_calls size none step k) (run_good k) x

    run_same : (k j : ℕ) (x : S) → size x < k → size x < j → within_calls size none step k x ≡ within_calls size none step j x
    unfolding within_calls
    run_same zero j x a b = absurd (omega arith)
    run_same (suc k) zero x a b = absurd (omega arith)
    run_same (suc k) (suc j) x a b =
        local (within_calls size none step k) (within_calls size none step j) (run_good k) x λ y l. run_same k j y (omega arith) (omega arith)

    pub fixed_good : (x : S) → Good x (fixed size none step x)
    unfolding fixed
    fixed_good x = run_good (suc (size x)) x

    pub fixed_law : (x : S) → fixed size none step x ≡ step (fixed size none step) x
    unfolding fixed
    fixed_law x = local (within_calls size none step (size x)) (fixed size none step) (run_good (size x)) x λ y l. run_same (size x) (suc (size y)) y l
        (omega arith)
