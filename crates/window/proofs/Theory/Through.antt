-- What follows from the definitions of specs/Through.antt.
use mathlib.Core.Path.{◌≡◌, sym, ap, ◌∙◌, subst, fun_ext}
use mathlib.Core.Bool.{true, false}
use Prim.Native.Nat.{ℕ, ◌+◌, ◌*◌, ◌/◌, ◌%◌, ◌^◌, ◌≤◌, ◌<◌}
use native.Mathlib.Omega.{arith}
use native.Mathlib.Nat.{mod-lt, mul_comm, mul_assoc, mul-mod_left}
use mathlib.Core.List.{List}
use lib.Dec.{eqb}
use lib.Bits.{bit_or, or_self}
use lib.ListN.{length, get_or, set}
use borrow.Author.Tests.{lt-ltb}
use Rattle.base.specs.Masks.{has}
use Rattle.window.proofs.Theory.Places.{some, entry_below, line_below, place_below, function_below, second_below, entry_is, line_entry, place_sum}
use Rattle.window.proofs.Theory.Table.{table_length, table_at, Swept, swept_more}
use Rattle.window.specs.Lines.{TableLines, columns, rows, united}
use Rattle.window.proofs.Theory.Lines.{Partition, Spans, united_length, united_turn, united_none, united_same, united_twice}
use Rattle.window.specs.Bits.{mask_moved}
use Rattle.window.proofs.Theory.Bits.{single_test, until, until_none, until_more, until_skip}
use Rattle.window.specs.Through.{bits_moved, masks_through, results_through}

pub moved_length : (from to : ℕ) (l : List ℕ) → length (bits_moved from to l) ≡ length l
unfolding bits_moved
moved_length from to l = table_length (λ i. mask_moved (get_or l i 0) from to) (length l)

pub moved_at : (from to : ℕ) (l : List ℕ) (i : ℕ) → i < length l → get_or (bits_moved from to l) i 0 ≡ mask_moved (get_or l i 0) from to
unfolding bits_moved
moved_at from to l i h = table_at (λ i. mask_moved (get_or l i 0) from to) (length l) i 0 h

-- one turn of the loop
pub moved_turn : (from to : ℕ) (old l : List ℕ) (i v : ℕ) → Swept (λ k. mask_moved (get_or old k 0) from to) 0 old i l → i < length l
    → v ≡ mask_moved (get_or l i 0) from to
    → Swept (λ k. mask_moved (get_or old k 0) from to) 0 old (i + 1) (set l i v)
moved_turn from to old l i v w h e =
    swept_more (λ k. mask_moved (get_or old k 0) from to) 0 old i l v w (omega (arith, w.long)) (e ∙ ap (λ m. mask_moved m from to) (w.ahead i (omega arith)))

pub masks_length : (ρ a b to : ℕ) (l : List ℕ) → length (masks_through ρ a b to l) ≡ length l
unfolding masks_through
masks_length ρ a b to l = moved_length (bit_or (2 ^ a) (2 ^ b)) to (united (columns ρ) (has to) a b l) ∙ united_length (columns ρ) (has to) a b l

pub results_length : (ρ a b to : ℕ) (l : List ℕ) → length (results_through ρ a b to l) ≡ length l
unfolding results_through
results_length ρ a b to l = moved_length (bit_or (2 ^ a) (2 ^ b)) to (united (rows ρ) (has to) a b (united (columns ρ) (has to) a b l))
    ∙ united_length (rows ρ) (has to) a b (united (columns ρ) (has to) a b l) ∙ united_length (columns ρ) (has to) a b l

-- ---- the whole lines of a table

pub columns_span : (ρ : ℕ) (l : List ℕ) (n : ℕ) → length l % ρ ≡ 0 → n ≡ length l / ρ → Spans (columns ρ) n l
columns_span ρ l n e k = record {
  inside = λ j d h g. subst (λ z. ρ * j + d < z) (sym long) (entry_below ρ n j d h g);
  reached = λ i h. line_below ρ n i (subst (λ z. i < z) long h);
}
  where
    long : length l ≡ n * ρ
    long = sym (entry_is ρ (length l)) ∙ (let c = mul_comm ρ (length l / ρ) in let d = ap (λ z. z * ρ) k in omega arith)

pub rows_span : (ρ φ : ℕ) (l : List ℕ) → length l ≡ φ * ρ * ρ → Spans (rows ρ) (φ * ρ) l
rows_span ρ φ l e = record {
  inside = λ j d h g. subst (λ z. (rows ρ).entry j d < z) (sym e)
      (subst (λ z. z < φ * ρ * ρ) (sym (place_sum ρ (j / ρ) d (j % ρ))) (place_below ρ (j / ρ) d (j % ρ) g (mod-lt j (some ρ φ j h)) φ (line_below ρ φ j h)));
  reached = λ i h. let b = subst (λ z. i < z) e h in entry_below ρ φ (i / (ρ * ρ)) (i % ρ) (function_below ρ φ i b) (second_below ρ φ i b);
}

-- the same of any number of functions
pub rows_whole : (ρ : ℕ) → 0 < ρ → (l : List ℕ) (n : ℕ) → length l % (ρ * ρ) ≡ 0 → n ≡ length l / ρ → Spans (rows ρ) n l
rows_whole ρ p l n e k = subst (λ z. Spans (rows ρ) z l) (sym (k ∙ lines)) (rows_span ρ (length l / (ρ * ρ)) l (long ∙ mul_comm ρ (length l / (ρ * ρ) * ρ)))
  where
    long : length l ≡ ρ * (length l / (ρ * ρ) * ρ)
    long = let q = length l / (ρ * ρ) in
        let c = mul_assoc q ρ ρ ∙ mul_comm q (ρ * ρ) in
        let d = mul_comm ρ (q * ρ) in
        let f = entry_is (ρ * ρ) (length l) in
        omega arith

    lines : length l / ρ ≡ length l / (ρ * ρ) * ρ
    lines = ap (λ z. z / ρ) (long ∙ omega arith) ∙ line_entry ρ (length l / (ρ * ρ) * ρ) 0 p

pub whole : (ρ n : ℕ) (l : List ℕ) → length l ≡ n * ρ → length l % ρ ≡ 0
whole ρ n l e = ap (λ z. z % ρ) e ∙ mul-mod_left n ρ

-- ---- a copy: register x is read as y

single_is : (x : ℕ) → (λ (s : ℕ). eqb s x) ≡ has (2 ^ x)
single_is x = fun_ext λ s. sym (single_test x s)

pub masks_copied : (ρ x y : ℕ) (l m k : List ℕ) (from to : ℕ) → m ≡ united (columns ρ) (λ s. eqb s x) y y l → from ≡ 2 ^ y → to ≡ 2 ^ x
    → k ≡ bits_moved from to m → k ≡ masks_through ρ y y (2 ^ x) l
unfolding masks_through
masks_copied ρ x y l m k from to e p q d = rw (d, p, q, e, or_self (2 ^ y), single_is x)

pub results_copied : (ρ x y : ℕ) (l m n k : List ℕ) (from to : ℕ) → m ≡ united (columns ρ) (λ s. eqb s x) y y l → n ≡ united (rows ρ) (λ s. eqb s x) y y m
    → from ≡ 2 ^ y → to ≡ 2 ^ x → k ≡ bits_moved from to n → k ≡ results_through ρ y y (2 ^ x) l
unfolding results_through
results_copied ρ x y l m n k from to e f p q d = rw (d, p, q, f, e, or_self (2 ^ y), single_is x)

-- ---- a merge: each register of `to` is read as a and as b

module _ {ρ : ℕ} (L : TableLines ρ) (partition : Partition L) (n : ℕ) (to a : ℕ) (ab : a < ρ) where
  pub spread_none : (old : List ℕ) → old ≡ united L (until to 0) a a old
  spread_none old = united_none L a a old (until to 0) (until_none to)

  pub spread_more : (old l m : List ℕ) (r : ℕ) → Spans L n old → l ≡ united L (until to r) a a old → has to r ≡ true → m ≡ united L (λ s. eqb s r) a a l
      → m ≡ united L (until to (r + 1)) a a old
  spread_more old l m r sp e t d = rw (d, e) (united_turn L partition n old sp a ab (until to r) (until to (r + 1)) r (λ s. until_more to r s t))

  pub spread_skip : (old l : List ℕ) (r : ℕ) → l ≡ united L (until to r) a a old → has to r ≡ false → l ≡ united L (until to (r + 1)) a a old
  spread_skip old l r e t = e ∙ ap (λ P. united L P a a old) (fun_ext λ s. sym (until_skip to r s t))

  pub spread_all : (old l : List ℕ) (r : ℕ) → l ≡ united L (until to r) a a old → ρ ≤ r → l ≡ united L (has to) a a old
  spread_all old l r e h = e ∙ united_same L partition (until to r) (has to) a a old (omega arith) (λ s b. rw (lt-ltb s r (omega arith)))

  -- a gets the union of its entry and that of b, and then each register of `to` gets the entry of a
  pub merged_twice : (old l m : List ℕ) (b : ℕ) → Spans L n old → has to a ≡ true → l ≡ united L (λ s. eqb s a) a b old → m ≡ united L (has to) a a l
      → m ≡ united L (has to) a b old
  merged_twice old l m b sp t e d = rw (d, e) (united_twice L partition n old sp a ab (has to) b t)

pub masks_merged : (ρ a b to : ℕ) (l m k : List ℕ) (from : ℕ) → m ≡ united (columns ρ) (has to) a b l → from ≡ bit_or (2 ^ a) (2 ^ b) → k ≡ bits_moved from to m
    → k ≡ masks_through ρ a b to l
unfolding masks_through
masks_merged ρ a b to l m k from e p d = rw (d, p, e)

pub results_merged : (ρ a b to : ℕ) (l m n k : List ℕ) (from : ℕ) → m ≡ united (columns ρ) (has to) a b l → n ≡ united (rows ρ) (has to) a b m
    → from ≡ bit_or (2 ^ a) (2 ^ b) → k ≡ bits_moved from to n → k ≡ results_through ρ a b to l
unfolding results_through
results_merged ρ a b to l m n k from e f p d = rw (d, p, f, e)
