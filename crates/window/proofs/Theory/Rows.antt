-- What follows from the definitions of specs/Rows.antt: rows and flags of a word are those that were joined in it.
use mathlib.Core.Path.{◌≡◌, refl, sym, ap, ◌∙◌, subst}
use mathlib.Core.Logic.{⊎_elim}
use mathlib.Core.Bool.{Bool, true, not, ◌&&◌}
use mathlib.Core.List.{List}
use Prim.Native.Nat.{ℕ, zero, suc, ◌+◌, ◌-◌, ◌*◌, ◌/◌, ◌%◌, ◌^◌, ◌≤◌, ◌<◌}
use native.Mathlib.Omega.{arith}
use native.Mathlib.Nat.{add-zero, mul-suc, mul_comm, mul_assoc, add-mul, zero-mul, one-mul, mul-le-mul_left, mod-eq_of_lt, mod-lt}
use native.Mathlib.Nat.{div-lt_iff_lt-mul, eq-or-lt_of_le, zero-div}
use lib.Dec.{eqb, T, eqb→eq}
use lib.Bits.{bit_and, bit_or, and_block, and_mod, and_le_r, and_zero_r, and_self, or_shr, or_mod}
use lib.Pow.{pow_pos, pow-add, shl-shr, shr-shr, split, high, low, field, mod-mod-pow}
use lib.ListN.{get_or}
use borrow.Author.Tests.{eqb-true, eqb-false, eq-eqb, ne_eqb}
use Rattle.base.proofs.Theory.Choice.{by_test}
use Rattle.base.specs.Masks.{bit, has}
use Rattle.semantics.proofs.Theory.Booleans.{and_l, and_r}
use Rattle.window.specs.Bits.{nonempty}
use Rattle.window.specs.Adding.{part_of}
use Rattle.window.specs.Layout.{registers}
use Rattle.window.specs.Rows.{SmallRows, joined_rows, flag_row}
use Rattle.window.specs.Table.{table, table_from}
use Rattle.window.proofs.Theory.Bits.{true_of, false_of, none_in, nonempty_is, meets}
use Rattle.window.proofs.Theory.Table.{table_at}
use Rattle.std.specs.Int.{w64, to_le_bytes}

-- the bits below ρ of a number are those of its rest
pub bit_mod : (n ρ b : ℕ) → b < ρ → bit (n % 2 ^ ρ) b ≡ bit n b
bit_mod n ρ b h =
    let e : suc (ρ - suc b) + b ≡ ρ = omega arith in
    let f : (ρ - suc b) + 1 ≡ suc (ρ - suc b) = omega arith in
    ap (λ k. n % 2 ^ k / 2 ^ b % 2) (sym e) ∙ ap (λ m. m % 2) (field n (suc (ρ - suc b)) b)
    ∙ ap (λ k. n / 2 ^ b % 2 ^ k % 2) (sym f) ∙ mod-mod-pow (n / 2 ^ b) (ρ - suc b) 1

-- a mask of registers below ρ is not the empty one exactly if a register is in it
pub nonempty_test : (ρ m : ℕ) → m < 2 ^ ρ → nonempty ρ m ≡ not (eqb m 0)
nonempty_test ρ m h = by_test (eqb m 0)
    (λ t. rw t (false_of (nonempty ρ m) (λ k. let (c, _, u) = (nonempty_is ρ m).0 k in none_in c (subst (λ n. T (has n c)) (eqb-true m 0 t) u))))
    (λ t. rw t (true_of (nonempty ρ m) (let (c, b, u, _) = meets ρ m m h (λ z. eqb-false m 0 t (sym (and_self m) ∙ z)) in (nonempty_is ρ m).1 (c, b, u))))

-- the bytes of a word of eight rows of eight flags are its rows
pub bytes_are : (n : ℕ) → to_le_bytes w64 n ≡ table (flag_row registers n) registers
unfolding table table_from flag_row
bytes_are n = let e : n / 1 ≡ n = omega arith in rw e

module _ (ρ : ℕ) where
  row_next : (a : ℕ) → ρ * suc a ≡ ρ + ρ * a
  row_next a = omega (arith, mul-suc ρ a)

  row_ahead : (a n : ℕ) → a < n → ρ + ρ * a ≤ ρ * n
  row_ahead a n h = omega (arith, mul-le-mul_left ρ h, mul-suc ρ a)

  -- a row of a union is the union of the rows
  pub row_or : (x y a : ℕ) → flag_row ρ (bit_or x y) a ≡ bit_or (flag_row ρ x a) (flag_row ρ y a)
  unfolding flag_row
  row_or x y a = ap (λ n. n % 2 ^ ρ) (or_shr x y (ρ * a)) ∙ or_mod (x / 2 ^ (ρ * a)) (y / 2 ^ (ρ * a)) ρ

  module _ (l : List ℕ) where
    fewer : (n : ℕ) → SmallRows ρ l (suc n) → SmallRows ρ l n
    fewer n s = record { row = λ a h. s.row a (omega arith) }

    pub joined_small : (k : ℕ) → SmallRows ρ l k → joined_rows ρ l k < 2 ^ (ρ * k)
    unfolding joined_rows
    joined_small zero s = pow_pos (ρ * 0)
    joined_small (suc k) s =
        let e = high (get_or l k 0) (ρ * k) {lo = joined_rows ρ l k} (joined_small k (fewer k s)) in
        let b = s.row k (omega arith) in
        let below : (get_or l k 0 * 2 ^ (ρ * k) + joined_rows ρ l k) / 2 ^ (ρ * k) < 2 ^ ρ = omega arith in
        subst (λ n. get_or l k 0 * 2 ^ (ρ * k) + joined_rows ρ l k < 2 ^ n) (sym (row_next k))
        (subst (λ n. get_or l k 0 * 2 ^ (ρ * k) + joined_rows ρ l k < n) (sym (pow-add 2 ρ (ρ * k))) ((div-lt_iff_lt-mul (pow_pos (ρ * k))).0 below))

    -- row a is the mask of a
    pub row_joined : (n a : ℕ) → SmallRows ρ l n → a < n → flag_row ρ (joined_rows ρ l n) a ≡ get_or l a 0
    unfolding flag_row joined_rows
    row_joined zero a s h = absurd (omega arith)
    row_joined (suc n) a s h = ⊎_elim
        (λ e. let same : a ≡ n = omega arith in
        rw same (ap (λ m. m % 2 ^ ρ) (high (get_or l n 0) (ρ * n) {lo = joined_rows ρ l n} (joined_small n (fewer n s)))
        ∙ mod-eq_of_lt (s.row n (omega arith))))
        (λ b. let before : a < n = omega arith in
        let e : (ρ * n - (ρ + ρ * a)) + (ρ + ρ * a) ≡ ρ * n = omega (arith, row_ahead a n before) in
        let whole = get_or l n 0 * 2 ^ (ρ * n) + joined_rows ρ l n in
        sym (field whole ρ (ρ * a))
        ∙ ap (λ m. m / 2 ^ (ρ * a)) (sym (mod-mod-pow whole (ρ * n - (ρ + ρ * a)) (ρ + ρ * a))
        ∙ ap (λ k. whole % 2 ^ k % 2 ^ (ρ + ρ * a)) e ∙ ap (λ m. m % 2 ^ (ρ + ρ * a)) (low (get_or l n 0) (ρ * n) (joined_small n (fewer n s))))
        ∙ field (joined_rows ρ l n) ρ (ρ * a) ∙ row_joined n a (fewer n s) before)
        (eq-or-lt_of_le h)

    -- flag b of row a is bit ρ a + b
    pub flag_joined : (n a b : ℕ) → SmallRows ρ l n → a < n → b < ρ → has (joined_rows ρ l n) (ρ * a + b) ≡ has (get_or l a 0) b
    unfolding flag_row
    flag_joined n a b s ab bb = ap (λ m. eqb (m % 2) 1) (sym (shr-shr (joined_rows ρ l n) (ρ * a) b))
        ∙ ap (λ m. eqb m 1) (sym (bit_mod (joined_rows ρ l n / 2 ^ (ρ * a)) ρ b bb))
        ∙ ap (λ m. has m b) (row_joined n a s ab)

    -- the flags that a mask has in row a
    pub row_meets : (n a others : ℕ) → SmallRows ρ l n → a < n → others < 2 ^ ρ
        → bit_and (joined_rows ρ l n) (others * 2 ^ (ρ * a)) ≡ bit_and (get_or l a 0) others * 2 ^ (ρ * a)
    unfolding flag_row
    row_meets n a others s h b =
        let whole = joined_rows ρ l n in
        let upper = whole / 2 ^ (ρ * a) in
        let rest = whole % 2 ^ (ρ * a) in
        ap (λ m. bit_and m (others * 2 ^ (ρ * a))) (sym (split whole (ρ * a)))
        ∙ ap (λ m. bit_and (upper * 2 ^ (ρ * a) + rest) m) (sym (add-zero (others * 2 ^ (ρ * a))))
        ∙ and_block (ρ * a) upper others rest 0 (mod-lt whole (pow_pos (ρ * a))) (pow_pos (ρ * a))
        ∙ ap (λ m. bit_and upper others * 2 ^ (ρ * a) + m) (and_zero_r rest) ∙ add-zero (bit_and upper others * 2 ^ (ρ * a))
        ∙ ap (λ m. m * 2 ^ (ρ * a)) (sym (mod-eq_of_lt (omega (arith, and_le_r upper others))) ∙ and_mod upper others ρ
        ∙ ap (λ m. bit_and (upper % 2 ^ ρ) m) (mod-eq_of_lt b) ∙ ap (λ m. bit_and m others) (row_joined n a s h))

    -- the mask has one of them exactly if it has a register of the mask of a
    pub apart_word : (n a others : ℕ) → SmallRows ρ l n → a < n → others < 2 ^ ρ
        → not (eqb (bit_and (joined_rows ρ l n) (others * 2 ^ (ρ * a))) 0) ≡ nonempty ρ (bit_and (get_or l a 0) others)
    apart_word n a others s h b = rw (row_meets n a others s h b)
        (ap not (scaled (bit_and (get_or l a 0) others)) ∙ sym (nonempty_test ρ (bit_and (get_or l a 0) others) (omega (
          arith,
          and_le_r
              (get_or l a 0) others,
          b,
        ))))
      where
        scaled : (m : ℕ) → eqb (m * 2 ^ (ρ * a)) 0 ≡ eqb m 0
        scaled m = by_test (eqb m 0)
            (λ t. rw (t, eqb-true m 0 t) (eq-eqb (0 * 2 ^ (ρ * a)) 0 (zero-mul (2 ^ (ρ * a)))))
            (λ t. rw t (ne_eqb (m * 2 ^ (ρ * a)) 0 (λ e. eqb-false m 0 t (sym (shl-shr m (ρ * a)) ∙ ap (λ k. k / 2 ^ (ρ * a)) e ∙ zero-div (2 ^ (ρ * a))))))

  -- ---- a turn of the loop that joins rows into a word of w bits

  -- ---- what the union of three words has in its rows

  pub row_parted : (l : List ℕ) (F G : ℕ → ℕ) (a : ℕ) → SmallRows ρ l ρ → ((k : ℕ) → k < ρ → F k < 2 ^ ρ) → ((k : ℕ) → k < ρ → G k < 2 ^ ρ) → a < ρ
      → flag_row ρ (bit_or (bit_or (joined_rows ρ l ρ) (joined_rows ρ (table F ρ) ρ)) (joined_rows ρ (table G ρ) ρ)) a
      ≡ bit_or (bit_or (get_or l a 0) (F a)) (G a)
  row_parted l F G a s f g h =
      row_or (bit_or (joined_rows ρ l ρ) (joined_rows ρ (table F ρ) ρ)) (joined_rows ρ (table G ρ) ρ) a
      ∙ ap (λ m. bit_or m (flag_row ρ (joined_rows ρ (table G ρ) ρ) a)) (row_or (joined_rows ρ l ρ) (joined_rows ρ (table F ρ) ρ) a)
      ∙ rw (row_joined l ρ a s h, made F f, made G g) refl
    where
      made : (H : ℕ → ℕ) → ((k : ℕ) → k < ρ → H k < 2 ^ ρ) → flag_row ρ (joined_rows ρ (table H ρ) ρ) a ≡ H a
      made H b = row_joined (table H ρ) ρ a (record { row = λ k kb. rw (table_at H ρ k 0 kb) (b k kb) }) h ∙ table_at H ρ a 0 h

  -- ---- rows that are multiples

  pub joined_scaled : (l m : List ℕ) (t n : ℕ) → ((a : ℕ) → a < n → get_or m a 0 ≡ get_or l a 0 * t) → joined_rows ρ l n * t ≡ joined_rows ρ m n
  unfolding joined_rows
  joined_scaled l m t zero h = zero-mul t
  joined_scaled l m t (suc n) h =
      add-mul (get_or l n 0 * 2 ^ (ρ * n)) (joined_rows ρ l n) t
      ∙ ap (λ k. k + joined_rows ρ l n * t) (mul_assoc (get_or l n 0) (2 ^ (ρ * n)) t ∙ ap (λ k. get_or l n 0 * k) (mul_comm (2 ^ (ρ * n)) t)
      ∙ sym (mul_assoc (get_or l n 0) t (2 ^ (ρ * n))) ∙ ap (λ k. k * 2 ^ (ρ * n)) (sym (h n (omega arith))))
      ∙ ap (λ k. get_or m n 0 * 2 ^ (ρ * n) + k) (joined_scaled l m t n (λ a b. h a (omega arith)))

  -- a row for each register of one mask, all of them the other mask
  pub grid_scaled : (one two : ℕ) → joined_rows ρ (table (bit one) ρ) ρ * two ≡ joined_rows ρ (table (part_of one two) ρ) ρ
  unfolding part_of
  grid_scaled one two = joined_scaled (table (bit one) ρ) (table (part_of one two) ρ) two ρ
      (λ a h. table_at (part_of one two) ρ a 0 h ∙ part_scaled a ∙ ap (λ k. k * two) (sym (table_at (bit one) ρ a 0 h)))
    where
      part_scaled : (a : ℕ) → part_of one two a ≡ bit one a * two
      part_scaled a = by_test (has one a)
          (λ t. rw (t, eqb-true (bit one a) 1 t) (sym (one-mul two)))
          (λ t. let d = eqb-false (bit one a) 1 t in let b : bit one a < 2 = mod-lt (one / 2 ^ a) (omega arith) in
          let z : bit one a ≡ 0 = omega arith in rw (t, z) (sym (zero-mul two)))

  pub part_below : (one two : ℕ) → two < 2 ^ ρ → (k : ℕ) → k < ρ → part_of one two k < 2 ^ ρ
  unfolding part_of
  part_below one two h k b = by_test (has one k) (λ t. rw t h) (λ t. rw t (pow_pos ρ))

  pub grid_small : (one two : ℕ) → two < 2 ^ ρ → joined_rows ρ (table (bit one) ρ) ρ * two < 2 ^ (ρ * ρ)
  grid_small one two h = subst (λ n. n < 2 ^ (ρ * ρ)) (sym (grid_scaled one two))
      (joined_small (table (part_of one two) ρ) ρ (record { row = λ a b. rw (table_at (part_of one two) ρ a 0 b) (part_below one two h a b) }))

-- ---- the first flag of each row, by one product and one sum in eight rows of eight: looked at for each mask

-- 0x01 in each row; 0x01, 0x02, .. 0x80 in row after row; 0x7f in each row
abbrev in_each_row : ℕ
in_each_row = 72340172838076673

abbrev own_in_each_row : ℕ
own_in_each_row = 9241421688590303745

abbrev all_but_last : ℕ
all_but_last = 9187201950435737471

abbrev computed_flags : ℕ → ℕ
computed_flags m = bit_and ((bit_and (m * in_each_row) own_in_each_row + all_but_last) / 2 ^ 7) in_each_row

abbrev first_flags : ℕ → ℕ
first_flags m = joined_rows 8 (table (bit m) 8) 8

agree : ℕ → Bool
agree zero = true
agree (suc n) = eqb (computed_flags n) (first_flags n) && agree n

all_agree : T (agree 256)
unfolding joined_rows table table_from agree
all_agree = tt

agree_at : (n m : ℕ) → m < n → T (agree n) → computed_flags m ≡ first_flags m
unfolding agree
agree_at zero m h t = absurd (omega arith)
agree_at (suc n) m h t = ⊎_elim
    (λ e. let same : m ≡ n = omega arith in
    rw same (eqb→eq (computed_flags n) (first_flags n) (and_l (eqb (computed_flags n) (first_flags n)) (agree n) t)))
    (λ b. agree_at n m (omega arith) (and_r (eqb (computed_flags n) (first_flags n)) (agree n) t))
    (eq-or-lt_of_le h)

pub first_flags_is : (m : ℕ) → m < 2 ^ 8 → computed_flags m ≡ first_flags m
first_flags_is m h = agree_at 256 m h all_agree
