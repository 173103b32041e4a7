-- The loop that writes an array from the front, a value a turn.
use mathlib.Core.Path.{◌≡◌, ◌∙◌}
use Prim.Native.Nat.{ℕ, ◌+◌, ◌≤◌, ◌<◌}
use native.Mathlib.Omega.{arith}
use mathlib.Core.List.{List}
use lib.Dec.{eqb}
use lib.ListN.{length, get_or, set, length-set}
use lib.Seq.{get_or-set_same, get_or-set_other}
use borrow.Author.Tests.{eqb-true, eqb-false}
use Rattle.base.proofs.Theory.Choice.{by_test}

module _ {ℓ} {A : Type ℓ} (F : ℕ → A) (d : A) (n : ℕ) where
  -- the first i of n values are those of F
  pub record WrittenUpTo (i : ℕ) (l : List A) : Type ℓ where
    pub long : length l ≡ n
    pub within : i ≤ n
    pub at : (k : ℕ) → k < i → get_or l k d ≡ F k

  pub written_none : (l : List A) → length l ≡ n → WrittenUpTo 0 l
  written_none l h = record { long = h; within = omega arith; at = λ k b. absurd (omega arith) }

  pub written_more : (i : ℕ) (l : List A) (v : A) → WrittenUpTo i l → i < n → v ≡ F i → WrittenUpTo (i + 1) (set l i v)
  written_more i l v w h e = record {
    long = simp length-set w.long;
    within = omega arith;
    at = λ k b. by_test (eqb k i)
        (λ t. rw (eqb-true k i t) (get_or-set_same l i v d (omega (arith, w.long)) ∙ e))
        (λ t. let n : k ≡ i → ⊥ = eqb-false k i t in get_or-set_other l i k v d n ∙ w.at k (omega arith));
  }
