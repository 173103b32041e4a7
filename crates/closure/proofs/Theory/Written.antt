-- What the loop that changes an array in place leaves at each entry.
use mathlib.Core.Path.{◌≡◌, sym, ◌∙◌, ap}
use Prim.Native.Nat.{ℕ, zero, suc, ◌≤◌, ◌<◌}
use native.Mathlib.Omega.{arith}
use mathlib.Core.List.{List}
use lib.Dec.{eqb}
use native.Mathlib.Numerals.{add-one}
use lib.ListN.{length, get_or, set}
use lib.Seq.{get_or-set_same, get_or-set_other, set-get_or}
use borrow.Author.Tests.{eqb-true, eqb-false}
use Rattle.base.proofs.Theory.Choice.{by_test}
use Rattle.base.specs.Each.{each_up_to}
use Rattle.base.proofs.Theory.Each.{each_none, each_length, each_more}

module _ {A : Type 0} (f : ℕ → A → A) where
  done_suc : (n : ℕ) (xs : List A) (d : A) → each_up_to f (suc n) xs ≡ set (each_up_to f n xs) n (f n (get_or xs n d))
  done_suc n xs d = ap (λ m. each_up_to f m xs) (sym (add-one n)) ∙ sym (each_more f n xs d)

  -- the entries that the loop has passed, and those that it has not
  pub done_beyond : (n : ℕ) (xs : List A) (d : A) (k : ℕ) → n ≤ k → get_or (each_up_to f n xs) k d ≡ get_or xs k d
  done_beyond zero xs d k h = ap (λ l. get_or l k d) (sym (each_none f xs))
  done_beyond (suc n) xs d k h =
      let y : k ≡ n → ⊥ = λ e. omega arith in
      ap (λ l. get_or l k d) (done_suc n xs d) ∙ get_or-set_other (each_up_to f n xs) n k _ d y ∙ done_beyond n xs d k (omega arith)

  pub done_below : (n : ℕ) (xs : List A) (d : A) (k : ℕ) → k < n → k < length xs → get_or (each_up_to f n xs) k d ≡ f k (get_or xs k d)
  done_below zero xs d k h l = absurd (omega arith)
  done_below (suc n) xs d k h l = by_test (eqb k n)
      (λ t. let e = eqb-true k n t in
      ap (λ l. get_or l k d) (done_suc n xs d) ∙ rw e (get_or-set_same (each_up_to f n xs) n _ d (let m = each_length f n xs in omega arith)))
      (λ t. let y : k ≡ n → ⊥ = eqb-false k n t in
      ap (λ l. get_or l k d) (done_suc n xs d) ∙ get_or-set_other (each_up_to f n xs) n k _ d y ∙ done_below n xs d k (omega arith) l)

  -- entries that are what they are to be
  pub done_same : (n : ℕ) (xs : List A) (d : A) → ((k : ℕ) → k < n → f k (get_or xs k d) ≡ get_or xs k d) → xs ≡ each_up_to f n xs
  done_same zero xs d h = each_none f xs
  done_same (suc n) xs d h = sym (done_suc n xs d ∙ ap (λ v. set (each_up_to f n xs) n v) (h n (omega arith))
      ∙ ap (λ l. set l n (get_or xs n d)) (sym (done_same n xs d (λ k b. h k (omega arith)))) ∙ set-get_or xs n d)
