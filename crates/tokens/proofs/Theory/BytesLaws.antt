-- The laws of gaps, runs and keys, at a place of a text.
use mathlib.Core.Path.{◌≡◌, refl, sym, ap, ◌∙◌}
use Prim.Native.Nat.{ℕ, zero, suc, ◌+◌, ◌*◌, ◌-◌, ◌≤◌, ◌<◌}
use native.Mathlib.Omega.{arith}
use native.Mathlib.Numerals.{add-one}
use native.Mathlib.Nat.{sub_self}
use mathlib.Core.Bool.{Bool, true, false, not, ◌&&◌, ◌||◌}
use mathlib.Core.List.{List, [], ◌∷◌}
use lib.Dec.{leb, eqb}
use lib.ListN.{length, get_or, take, drop, drop_of_length-le}
use lib.Seq.{drop-cons, slice, slice-cons, slice_empty}
use borrow.Author.Tests.{eq-eqb, ne_eqb, le-leb, lt-leb, leb-true, eqb-true}
use Rattle.std.proofs.lemmas.Bool.{or_parts}
use Rattle.base.specs.Choice.{pick}
use Rattle.base.proofs.Theory.Choice.{by_test}
use Rattle.base.specs.Bytes.{little_endian}
use Rattle.tokens.specs.Bytes.{blank, inner, capital, lowered, lower_case, letter, symbol, negation, mark, gap, name_length, width, key}

module _ (s : List ℕ) (at : ℕ) where
  pub gap_out : (c : Bool) → length s ≤ at → gap c (drop at s) ≡ 0
  unfolding gap
  gap_out true h = rw (drop_of_length-le s h)
  gap_out false h = rw (drop_of_length-le s h)

  pub gap_in : at < length s → gap true (drop at s) ≡ suc (gap (not (eqb (get_or s at 0) 10)) (drop (at + 1) s))
  unfolding gap
  gap_in h = rw (add-one, drop-cons s at 0 h)

  pub gap_hash : at < length s → eqb (get_or s at 0) 35 ≡ true → gap false (drop at s) ≡ suc (gap true (drop (at + 1) s))
  unfolding gap
  gap_hash h e = rw (add-one, drop-cons s at 0 h, e)

  pub gap_blank : at < length s → eqb (get_or s at 0) 35 ≡ false → blank (get_or s at 0) ≡ true → gap false (drop at s) ≡ suc (gap false (drop (at + 1) s))
  unfolding gap
  gap_blank h e f = rw (add-one, drop-cons s at 0 h, e, f)

  pub gap_stop : at < length s → eqb (get_or s at 0) 35 ≡ false → blank (get_or s at 0) ≡ false → gap false (drop at s) ≡ 0
  unfolding gap
  gap_stop h e f = rw (drop-cons s at 0 h, e, f)

-- `#` is no blank
pub no_hash : (b : ℕ) → blank b ≡ true → b ≡ 35 → ⊥
no_hash b t e = let f : false ≡ true = rw e at t in cc

-- ---- the turns of the loop over a gap, from a place `from` on

module _ (s : List ℕ) (from at : ℕ) where
  -- what is left at the place `at`
  abbrev pub Gap : Bool → Type 0
  Gap c = from + gap false (drop from s) ≡ at + gap c (drop at s)

module _ (s : List ℕ) (from at : ℕ) where
  pub gap_halted : (c r : Bool) → at < length s → c ≡ false → (get_or s at 0 ≡ 35 → ⊥) → r ≡ blank (get_or s at 0) → r ≡ false → Gap s from at c
      → at ≡ from + gap false (drop from s)
  gap_halted c r h e f g k i = let j : Gap s from at false = rw e at i in omega (arith, gap_stop s at h (ne_eqb _ _ f) (sym g ∙ k))

  pub gap_turn : (c r : Bool) → at < length s → c ≡ false → (get_or s at 0 ≡ 35 → ⊥) → r ≡ blank (get_or s at 0) → r ≡ true → Gap s from at c
      → Gap s from (at + 1) c
  gap_turn c r h e f g k i = let j : Gap s from at false = rw e at i in
      let l : Gap s from (at + 1) false = omega (arith, gap_blank s at h (ne_eqb _ _ f) (sym g ∙ k)) in rw e l

  pub gap_turn_hash : (c : Bool) → at < length s → c ≡ false → get_or s at 0 ≡ 35 → Gap s from at c → Gap s from (at + 1) true
  gap_turn_hash c h e f i = let j : Gap s from at false = rw e at i in omega (arith, gap_hash s at h (eq-eqb _ _ f))

  pub gap_turn_in : (c : Bool) → at < length s → c ≡ true → Gap s from at c → Gap s from (at + 1) (not (eqb (get_or s at 0) 10))
  gap_turn_in c h e i = let j : Gap s from at true = rw e at i in omega (arith, gap_in s at h)

-- ---- a key

-- 256 to the power n
pub bound : ℕ → ℕ
bound zero = 1
bound (suc n) = 256 * bound n

small : (n : ℕ) → n ≤ 7 → bound n ≤ 72057594037927936
unfolding bound
small zero h = omega arith
small (suc zero) h = omega arith
small (suc (suc zero)) h = omega arith
small (suc (suc (suc zero))) h = omega arith
small (suc (suc (suc (suc zero)))) h = omega arith
small (suc (suc (suc (suc (suc zero))))) h = omega arith
small (suc (suc (suc (suc (suc (suc zero)))))) h = omega arith
small (suc (suc (suc (suc (suc (suc (suc zero))))))) h = omega arith
small (suc (suc (suc (suc (suc (suc (suc (suc n)))))))) h = absurd (omega arith)

-- v is the number of the bytes from `at` to `end`; of a text in lower case it is their key
pub record Keyed (s : List ℕ) (start end at v : ℕ) : Type 0 where
  pub low : start ≤ at
  pub high : at ≤ end
  pub keyed : v ≡ little_endian (slice at end s)
  pub less : v < bound (end - at)

pub key_none : (s : List ℕ) (start end : ℕ) → start ≤ end → Keyed s start end end 0
unfolding bound
key_none s start end h = record { low = h; high = omega arith; keyed = rw (slice_empty end s); less = rw (sub_self end) (omega arith) }

pub key_fits : (s : List ℕ) (start end at v b : ℕ) → end ≤ start + 8 → start < at → b < 256 → Keyed s start end at v → v * 256 + b < 18446744073709551616
key_fits s start end at v b h l m k = omega (arith, small (end - at) (omega arith))

pub key_turn : (s : List ℕ) (start end at v b : ℕ) → end ≤ length s → start < at → b < 256 → b ≡ get_or s (at - 1) 0 → Keyed s start end at v
    → Keyed s start end (at - 1) (v * 256 + b)
unfolding bound
key_turn s start end at v b h l m e k =
    let j : suc (at - 1) ≡ at = omega arith in
    let d : end - (at - 1) ≡ suc (end - at) = omega arith in
    record {
      low = omega arith;
      high = omega arith;
      keyed = let f = ap little_endian (slice-cons (at - 1) end s 0 (omega arith) h ∙ ap (λ n. get_or s (at - 1) 0 ∷ slice n end s) j) in
          omega (arith, k.keyed);
      less = rw d (omega arith);
    }

pub key_done : (s : List ℕ) (start end at v : ℕ) → at ≤ start → Keyed s start end at v → v ≡ little_endian (slice start end s)
key_done s start end at v h k = let e : at ≡ start = omega arith in rw e at k.keyed

-- ---- lower case

pub lowered_above : (b : ℕ) → b ≤ lowered b
lowered_above b = by_test (capital b) (λ t. rw t (omega arith)) λ t. rw t (omega arith)

pub lowered_at : (s : List ℕ) (i : ℕ) → get_or (lower_case s) i 0 ≡ lowered (get_or s i 0)
lowered_at [] i = refl
lowered_at (b ∷ s) zero = refl
lowered_at (b ∷ s) (suc i) = lowered_at s i

pub lower_drop : (i : ℕ) (s : List ℕ) → drop i (lower_case s) ≡ lower_case (drop i s)
lower_drop zero s = refl
lower_drop (suc i) [] = refl
lower_drop (suc i) (b ∷ s) = lower_drop i s

pub lower_take : (i : ℕ) (s : List ℕ) → take i (lower_case s) ≡ lower_case (take i s)
lower_take zero [] = refl
lower_take zero (b ∷ s) = refl
lower_take (suc i) [] = refl
lower_take (suc i) (b ∷ s) = ap (λ l. lowered b ∷ l) (lower_take i s)

pub lower_slice : (i j : ℕ) (s : List ℕ) → slice i j (lower_case s) ≡ lower_case (slice i j s)
lower_slice i j s = ap (drop i) (lower_take j s) ∙ lower_drop i (take j s)

-- so the key of bytes in the middle is the number of those in the middle of the text in lower case
pub key_slice : (s : List ℕ) (start end v : ℕ) → v ≡ little_endian (slice start end (lower_case s)) → v ≡ key (slice start end s)
key_slice s start end v e = e ∙ ap little_endian (lower_slice start end s)

-- ---- the width of a token

pub width_empty : (s : List ℕ) → length s < 1 → 0 ≡ width s
unfolding width
width_empty [] h = refl
width_empty (b ∷ s) h = absurd (omega arith)

width_law : (s : List ℕ) → 1 ≤ length s → width s ≡
    pick (letter (get_or s 0 0)) (λ _. pick (leb (name_length s) 8) (λ _. name_length s) λ _. 0)
    λ _. pick (mark (get_or s 0 0)) (λ _. pick (eqb (get_or s 1 0) 61) (λ _. 2) λ _. pick (negation (get_or s 0 0)) (λ _. 1) λ _. 0)
    λ _. pick (symbol (get_or s 0 0)) (λ _. 1) λ _. 0
unfolding width
width_law [] h = absurd (omega arith)
width_law (b ∷ s) h = refl

-- `:` is no sign by itself
half_mark : (b : ℕ) → mark b ≡ true → negation b ≡ false → symbol b ≡ false
half_mark b m n = let e : b ≡ 58 = eqb-true b 58 (sym (or_none (eqb b 58)) ∙ ap (λ x. eqb b 58 || x) (sym n) ∙ m) in rw e refl
  where
    or_none : (x : Bool) → (x || false) ≡ x
    or_none true = refl
    or_none false = refl

no_negation : (b : ℕ) → mark b ≡ false → negation b ≡ false
no_negation b m = (or_parts (eqb b 58) (negation b) m).1

module _ (s : List ℕ) (h : 1 ≤ length s) (l : Bool) (e : l ≡ letter (get_or s 0 0)) where
  pub width_name : (n : ℕ) → l ≡ true → n ≡ name_length s → n ≤ 8 → n ≡ width s
  width_name n t f g = rw (width_law s h, ← e, t, ← f, le-leb n 8 g)

  pub width_long : (n : ℕ) → l ≡ true → n ≡ name_length s → 8 < n → 0 ≡ width s
  width_long n t f g = rw (width_law s h, ← e, t, ← f, lt-leb n 8 g)

  module _ (t : l ≡ false) where
    pub width_paired : mark (get_or s 0 0) ≡ true → eqb (get_or s 1 0) 61 ≡ true → 2 ≡ width s
    width_paired u g = rw (width_law s h, ← e, t, u, g)

    -- a sign of one byte, where `:=` and `!=` do not stand
    pub width_sign : (mark (get_or s 0 0) && eqb (get_or s 1 0) 61) ≡ false
        → width s ≡ pick (negation (get_or s 0 0) || symbol (get_or s 0 0)) (λ _. 1) λ _. 0
    width_sign u = rw (width_law s h, ← e, t) (by_test (mark (get_or s 0 0))
        (λ m. let g : eqb (get_or s 1 0) 61 ≡ false = rw m at u in by_test (negation (get_or s 0 0))
        (λ n. rw (m, g, n))
        λ n. rw (m, g, n, half_mark (get_or s 0 0) m n))
        λ m. rw (m, no_negation (get_or s 0 0) m))

run_le : (s : List ℕ) → name_length s ≤ length s
unfolding name_length
run_le [] = omega arith
run_le (b ∷ s) = by_test (inner b) (λ t. rw t (omega (arith, run_le s))) λ t. rw t (omega arith)

-- a token lies within the text, and has at most eight bytes
pub width_le : (s : List ℕ) → (width s ≤ length s) × (width s ≤ 8)
unfolding width
width_le [] = (omega arith, omega arith)
width_le (b ∷ s) =
    by_test (letter b) (λ t. rw t (by_test (leb (name_length (b ∷ s)) 8) (λ u. rw u (omega (arith, run_le (b ∷ s)), leb-true _ _ u)) λ u. rw u
    (omega arith, omega arith)))
    λ t. rw t (by_test (mark b) (λ u. rw u (by_test (eqb (get_or s 0 0) 61) (λ v. rw v (pair s (eqb-true _ _ v)))
    λ v. rw v (by_test (negation b) (λ x. rw x (omega arith, omega arith)) λ x. rw x (omega arith, omega arith))))
    λ u. rw u (by_test (symbol b) (λ v. rw v (omega arith, omega arith)) λ v. rw v (omega arith, omega arith)))
  where
    pair : (r : List ℕ) → get_or r 0 0 ≡ 61 → (2 ≤ suc (length r)) × (2 ≤ 8)
    pair [] e = absurd (omega arith)
    pair (x ∷ r) e = (omega arith, omega arith)
