-- Letter by letter: what the arrays say of the state of a trace.
use mathlib.Core.Path.{◌≡◌, refl}
use mathlib.Core.Logic.{◌⊎◌, inl, inr, ◌≢◌}
use mathlib.Core.Bool.{Bool, true, false}
use mathlib.Core.List.{List}
use Prim.Native.Nat.{ℕ, suc, ◌<◌}
use native.Mathlib.Omega.{arith}
use lib.ListN.{length, get_or, set}
use lib.Seq.{get_or-set_same, get_or-set_other}
use Rattle.letters.specs.declared.Letter.TheVariants.{Apply, Equal}
use Rattle.letters.specs.Letters.{Fits}
use Rattle.semantics.specs.Terms.{State, after}
use Rattle.semantics.specs.Models.{Feasible}
use Rattle.closure.specs.Represents.{RepresentsState, Sides}
use Rattle.closure.proofs.Theory.Represents.{represents_equal, represents_apply, Looked, known, fresh, infeasible_i, feasible_i}
use Rattle.closure.specs.Arrays.{entry_at, Below, Merged, LookedAt, known_at, fresh_at, Clashes, clashes, parts}

module _ (σ : State) (function first second representative value : List ℕ) (registers n : ℕ)
    (w : RepresentsState σ (entry_at function) (entry_at first) (entry_at second) (entry_at representative) registers n (entry_at value)) where
  -- an equal test
  pub letter_equal : (x y : ℕ) (r head link : List ℕ) → x < registers → y < registers
      → Merged representative function first second registers n (get_or value x 0) (get_or value y 0) r head link
      → RepresentsState (after σ (Equal x y)) (entry_at function) (entry_at first) (entry_at second) (entry_at r) registers n (entry_at value)
  unfolding Below
  letter_equal x y r head link lx ly j =
      represents_equal σ (entry_at function) (entry_at first) (entry_at second) (entry_at representative) registers n (entry_at value) w x y lx ly (entry_at r)
      j.sound j.keeps j.joins j.closed (λ i h. j.formed.classes i h)

  looked : (f a b k : ℕ) → LookedAt representative function first second registers n f a b k
      → Looked σ (entry_at function) (entry_at first) (entry_at second) (entry_at representative) registers n (entry_at value) w f a b k
  looked f a b k (known_at m p h u v z e) = known m p h u v z e
  looked f a b k (fresh_at e none) = fresh e none

  -- an application: the next number gets the class that was looked up
  pub letter_apply : (x f y z k : ℕ) → Fits σ.header (Apply x f y z)
      → LookedAt representative function first second registers n f (get_or value y 0) (get_or value z 0) k
      → n < length function → n < length first → n < length second → n < length representative → x < length value
      → RepresentsState (after σ (Apply x f y z)) (entry_at (set function n f)) (entry_at (set first n (get_or value y 0)))
      (entry_at (set second n (get_or value z 0))) (entry_at (set representative n k)) registers (suc n) (entry_at (set value x n))
  letter_apply x f y z k fits l hf ho ht hc hv =
      represents_apply σ (entry_at function) (entry_at first) (entry_at second) (entry_at representative) registers n (entry_at value) w x f y z k fits
      (looked f (get_or value y 0) (get_or value z 0) k l)
      (entry_at (set function n f)) (entry_at (set first n (get_or value y 0))) (entry_at (set second n (get_or value z 0))) (entry_at (set representative n k))
      (entry_at (set value x n))
      (λ i h. old function f i h) (λ i h. old first _ i h) (λ i h. old second _ i h) (λ i h. old representative k i h)
      (get_or-set_same function n f 0 hf) (get_or-set_same first n _ 0 ho) (get_or-set_same second n _ 0 ht) (get_or-set_same representative n k 0 hc)
      (get_or-set_same value x n 0 hv) (λ r d. get_or-set_other value x r n 0 d)
    where
      old : (l : List ℕ) (v i : ℕ) → i < n → get_or (set l n v) i 0 ≡ get_or l i 0
      old l v i h = let d : i ≢ n = λ e. omega arith in get_or-set_other l n i v 0 d

  -- the answer of `clash` decides feasibility
  pub letter_clash : (left right : List ℕ) (m : ℕ) → Sides σ n (entry_at left) (entry_at right) m → (b : Bool) → Clashes representative left right m b
      → ((b ≡ true) × (¬ Feasible σ)) ⊎ ((b ≡ false) × Feasible σ)
  letter_clash left right m a true (clashes q h e) =
      inl (
        refl,
        infeasible_i σ (entry_at function) (entry_at first) (entry_at second) (entry_at representative) registers n (entry_at value) w (entry_at left)
            (entry_at right) m a q h e,
      )
  letter_clash left right m a false (parts none) =
      inr (
        refl,
        feasible_i σ (entry_at function) (entry_at first) (entry_at second) (entry_at representative) registers n (entry_at value) w (entry_at left)
            (entry_at right) m a none,
      )
