-- What follows from the definitions of specs/Table.antt.
use mathlib.Core.Path.{◌≡◌, refl, sym, ap, ◌∙◌}
use Prim.Native.Nat.{ℕ, zero, suc, ◌+◌, ◌≤◌, ◌<◌}
use native.Mathlib.Omega.{arith}
use native.Mathlib.Nat.{zero-add, add-suc, suc-add, add-zero}
use mathlib.Core.List.{List}
use lib.Dec.{eqb}
use lib.ListN.{length, get_or, set, length-set}
use lib.Seq.{get_or-set_same, get_or-set_other, ext_get_or}
use borrow.Author.Tests.{eqb-true, eqb-false}
use Rattle.base.proofs.Theory.Choice.{by_test}
use Rattle.base.proofs.Theory.Written.{WrittenUpTo}
use Rattle.window.specs.Table.{table_from, table}

module _ {ℓ} {A : Type ℓ} (F : ℕ → A) where
  from_length : (i n : ℕ) → length (table_from F i n) ≡ n
  unfolding table_from
  from_length i zero = refl
  from_length i (suc n) = ap suc (from_length (suc i) n)

  from_at : (i n k : ℕ) (d : A) → k < n → get_or (table_from F i n) k d ≡ F (i + k)
  unfolding table_from
  from_at i zero k d h = absurd (omega arith)
  from_at i (suc n) zero d h = ap F (sym (add-zero i))
  from_at i (suc n) (suc k) d h = from_at (suc i) n k d (omega arith) ∙ ap F (suc-add i k ∙ sym (add-suc i k))

  pub table_length : (n : ℕ) → length (table F n) ≡ n
  unfolding table
  table_length n = from_length 0 n

  pub table_at : (n k : ℕ) (d : A) → k < n → get_or (table F n) k d ≡ F k
  unfolding table
  table_at n k d h = from_at 0 n k d h ∙ ap F (zero-add k)

  from_out : (i n k : ℕ) (d : A) → n ≤ k → get_or (table_from F i n) k d ≡ d
  unfolding table_from
  from_out i zero k d h = refl
  from_out i (suc n) zero d h = absurd (omega arith)
  from_out i (suc n) (suc k) d h = from_out (suc i) n k d (omega arith)

  pub table_out : (n k : ℕ) (d : A) → n ≤ k → get_or (table F n) k d ≡ d
  unfolding table
  table_out n k d h = from_out 0 n k d h

  -- a list of n entries that are those of F
  pub table_is : (n : ℕ) (l : List A) (d : A) → length l ≡ n → ((k : ℕ) → k < n → get_or l k d ≡ F k) → l ≡ table F n
  table_is n l d e h = ext_get_or d l (table F n) (e ∙ sym (table_length n)) (λ k b. h k (omega arith) ∙ sym (table_at n k d (omega arith)))

module _ {ℓ} {A : Type ℓ} (F : ℕ → A) (d : A) (n : ℕ) where
  pub written_all : (i : ℕ) (l : List A) → WrittenUpTo F d n i l → n ≤ i → l ≡ table F n
  written_all i l w h = table_is F n l d w.long (λ k b. w.at k (omega arith))

module _ {ℓ} {A : Type ℓ} (F : ℕ → A) (d : A) (old : List A) where
  -- the first i entries of the list are those of F, the others as they were
  pub record Swept (i : ℕ) (l : List A) : Type ℓ where
    pub long : length l ≡ length old
    pub within : i ≤ length old
    pub new : (k : ℕ) → k < i → get_or l k d ≡ F k
    pub ahead : (k : ℕ) → i ≤ k → get_or l k d ≡ get_or old k d

  pub swept_none : Swept 0 old
  swept_none = record { long = refl; within = omega arith; new = λ k h. absurd (omega arith); ahead = λ k h. refl }

  pub swept_more : (i : ℕ) (l : List A) (v : A) → Swept i l → i < length old → v ≡ F i → Swept (i + 1) (set l i v)
  swept_more i l v w h e = record {
    long = simp length-set w.long;
    within = omega arith;
    new = λ k b. by_test (eqb k i)
        (λ t. rw (eqb-true k i t) (get_or-set_same l i v d (omega (arith, w.long)) ∙ e))
        (λ t. let n : k ≡ i → ⊥ = eqb-false k i t in get_or-set_other l i k v d n ∙ w.new k (omega arith));
    ahead = λ k b. get_or-set_other l i k v d (λ p. absurd (omega arith)) ∙ w.ahead k (omega arith);
  }

  pub swept_all : (i : ℕ) (l : List A) → Swept i l → length old ≤ i → l ≡ table F (length old)
  swept_all i l w h = table_is F (length old) l d w.long (λ k b. w.new k (omega arith))
