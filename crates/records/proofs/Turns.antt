-- One turn of each loop, in plain variables: what the calls and the loop's test say stands in the premises.
use mathlib.Core.Path.{◌≡◌, refl, sym, ap, ap₂, ◌∙◌, subst}
use Prim.Native.Nat.{ℕ, zero, suc, ◌+◌, ◌-◌, ◌*◌, ◌/◌, ◌%◌, ◌^◌, ◌≤◌, ◌<◌}
use native.Mathlib.Omega.{arith}
use native.Mathlib.Nat.{add_assoc, zero-div, div-one, mod-lt}
use native.Mathlib.Numerals.{add-one}
use mathlib.Core.Bool.{Bool, true, false, not}
use mir.Val.{bool_byte}
use mathlib.Core.List.{List, [], ◌∷◌, ◌++◌, map, append-nil, append_assoc}
use lib.Count.{trailing_le}
use lib.Dec.{eqb, ltb}
use lib.ListN.{length, get_or, set, take, drop, replicate, length-append, length-drop, get_or-replicate}
use lib.ListN.{length-replicate, get_or-append, get_or-eq_default}
use lib.Seq.{take_all, take_at, drop_at, set_at, append_snoc, drop-cons, drop-drop, drop-append-add, get_or-append-add}
use lib.Seq.{get_or-drop, get_or-take, length-take-le, take-add}
use borrow.Author.Tests.{eq-eqb, ne_eqb, eqb-true, eqb-false, ltb-true, ltb-false}
use Rattle.base.specs.Bytes.{little_endian}
use Rattle.base.proofs.Theory.Choice.{by_test}
use Rattle.base.specs.Masks.{bit}
use Rattle.base.proofs.Theory.MaskLaws.{trailing_least}
use Rattle.letters.specs.Packing.{join}
use Rattle.semantics.specs.PackedTables.{units}
use Rattle.semantics.specs.TablesRead.{units_in}
use Rattle.window.proofs.Theory.Table.{table_at, table_length, table_is, Swept, swept_more, swept_all}
use Rattle.window.specs.Table.{table}
use Rattle.window.specs.Layout.{registers}
use Rattle.window.specs.Counting.{counted_classes}
use Rattle.window.specs.declared.Window.{Window}
use Rattle.records.specs.Codes.{code_of, code_at, class_of_code, computed_of, assembled, gathered, scattered}
use Rattle.records.proofs.Theory.Digits.{All<, units_one, bytes_in, gathered_length}
use Rattle.records.proofs.Theory.FormatLaws.{all_of, all_map}
use Rattle.records.specs.Formats as formats
use Rattle.records.specs.Formats.{number_in, flag, is_set, mix, mixed, spread, same_front, content_place}
use Rattle.std.specs.Int.{w64, rotate_left}
use Rattle.std.specs.Int.Bits.{bit_xor, bit_and, bit_or}
use Rattle.std.specs.List.{starts_with}
use Rattle.std.proofs.lemmas.Nat.{or_disjoint, and_block, and_le_l, and_le_r}
use Rattle.records.specs.Records.{first_format, empty_line, code_bytes, fingerprint_of, encoded, record_of, record_bytes, encoded_bytes}
use Rattle.records.specs.Records.{codes_at, meanings_of, results_meant, ever_in, window_in}
use Rattle.records.specs.Words.{words_in}

-- ---- words

-- one byte after the other
taken : (s : List ℕ) (i j n : ℕ) → i < length s → j ≡ i + 1 → take (suc n) (drop i s) ≡ get_or s i 0 ∷ take n (drop j s)
taken s i j n h e = rw (e, add-one, drop-cons s i 0 h)

four_taken : (s : List ℕ) (at : ℕ) → at + 4 ≤ length s
    → take 4 (drop at s) ≡ get_or s at 0 ∷ get_or s (at + 1) 0 ∷ get_or s (at + 2) 0 ∷ get_or s (at + 3) 0 ∷ []
four_taken s at h =
    taken s at (at + 1) 3 (omega arith) refl
    ∙ ap (λ l. get_or s at 0 ∷ l) (taken s (at + 1) (at + 2) 2 (omega arith) (omega arith)
    ∙ ap (λ l. get_or s (at + 1) 0 ∷ l) (taken s (at + 2) (at + 3) 1 (omega arith) (omega arith)
    ∙ ap (λ l. get_or s (at + 2) 0 ∷ l) (taken s (at + 3) (at + 4) 0 (omega arith) (omega arith))))

eight_joined : (a b c d e f g h : ℕ) → little_endian (a ∷ b ∷ c ∷ d ∷ []) + little_endian (e ∷ f ∷ g ∷ h ∷ []) * 4294967296 ≡ little_endian
    (a ∷ b ∷ c ∷ d ∷ e ∷ f ∷ g ∷ h ∷ [])
eight_joined a b c d e f g h = omega arith

-- a number is 0 only if its bytes are
four_none : (s : List ℕ) (at : ℕ) → at + 4 ≤ length s → little_endian (take 4 (drop at s)) ≡ 0 → (k : ℕ) → at ≤ k → k < at + 4 → get_or s k 0 ≡ 0
four_none s at h e k p q =
    let n : little_endian (get_or s at 0 ∷ get_or s (at + 1) 0 ∷ get_or s (at + 2) 0 ∷ get_or s (at + 3) 0 ∷ []) ≡ 0 = sym
    (ap (little_endian) (four_taken s at h)) ∙ e in
    by_test (eqb k at) (λ t. rw (eqb-true k at t) (omega arith))
    λ t. by_test (eqb k (at + 1)) (λ u. rw (eqb-true k (at + 1) u) (omega arith))
    λ u. by_test (eqb k (at + 2)) (λ v. rw (eqb-true k (at + 2) v) (omega arith))
    λ v. let z : k ≡ at + 3 = omega (arith, eqb-false k at t, eqb-false k (at + 1) u, eqb-false k (at + 2) v) in rw z (omega arith)

eight_none : (s : List ℕ) (at : ℕ) → at + 8 ≤ length s → little_endian (take 8 (drop at s)) ≡ 0 → (k : ℕ) → at ≤ k → k < at + 8 → get_or s k 0 ≡ 0
eight_none s at h e k p q =
    let x = take 4 (drop at s) in
    let y = take 4 (drop (at + 4) s) in
    let d : take 8 (drop at s) ≡ x ++ y = take-add 4 4 (drop at s) ∙ ap (λ m. x ++ take 4 m) (drop-drop 4 at s) in
    let n : little_endian x + little_endian y * 4294967296 ≡ 0 =
    rw (four_taken s at (omega arith), four_taken s (at + 4) (omega arith)) (eight_joined _ _ _ _ _ _ _ _)
    ∙ ap (little_endian) (sym (d ∙ ap₂ ◌++◌ (four_taken s at (omega arith)) (four_taken s (at + 4) (omega arith)))) ∙ e in
    by_test (ltb k (at + 4)) (λ t. four_none s at (omega arith) (omega arith) k p (ltb-true k (at + 4) t))
    λ t. four_none s (at + 4) (omega arith) (omega arith) k (ltb-false k (at + 4) t) (omega arith)

-- ---- entries that are written, and entries that are passed over

module _ (F : ℕ → ℕ) (old : List ℕ) where
  pub swept_at : (k i : ℕ) (l : List ℕ) (v : ℕ) → i ≡ k → Swept F 0 old k l → k < length old → v ≡ F k → Swept F 0 old (k + 1) (set l i v)
  swept_at k i l v e w h f = subst (λ (j : ℕ). Swept F 0 old (k + 1) (set l j v)) (sym e) (swept_more F 0 old k l v w h f)

  pub swept_past : (n i j : ℕ) (l : List ℕ) → j ≡ i + n → Swept F 0 old i l → i + n ≤ length old → ((k : ℕ) → i ≤ k → k < i + n → get_or old k 0 ≡ F k)
      → Swept F 0 old j l
  swept_past n i j l e w h f = record {
    long = w.long;
    within = omega arith;
    new = λ k b. by_test (ltb k i) (λ t. w.new k (ltb-true k i t)) (λ t. w.ahead k (ltb-false k i t) ∙ f k (ltb-false k i t) (omega arith));
    ahead = λ k b. w.ahead k (omega arith);
  }

pub swept_moved : (F : ℕ → ℕ) (old : List ℕ) (i k : ℕ) (l : List ℕ) → i ≡ k → Swept F 0 old i l → Swept F 0 old k l
swept_moved F old i k l e w = subst (λ (n : ℕ). Swept F 0 old n l) e w

pub swept_zeros : (F : ℕ → ℕ) (n i : ℕ) (l : List ℕ) → Swept F 0 (replicate n 0) i l → n ≤ i → l ≡ table F n
swept_zeros F n i l w h = subst (λ (m : ℕ). l ≡ table F m) (length-replicate {A = ℕ} n 0)
    (swept_all F 0 (replicate n 0) i l w (rw (length-replicate {A = ℕ} n 0) h))

-- ---- flags

pub flag-bool : (b : Bool) → bool_byte b ≡ flag b
unfolding flag
flag-bool true = refl
flag-bool false = refl

pub tested : (b x y : ℕ) → b < 256 → x ≡ bool_byte (not (eqb (b / 16) 0)) → y ≡ bool_byte (not (eqb (b % 16) 0))
    → x + 2 * y ≡ computed_of (b / 16 % 16) + 2 * computed_of (b % 16)
unfolding computed_of
tested b x y l p q =
    let e : b / 16 % 16 ≡ b / 16 = omega arith in
    rw (e, p, q) (by_test (eqb (b / 16) 0) (λ t. by_test (eqb (b % 16) 0) (λ u. rw (t, u)) λ u. rw (t, u))
    λ t. by_test (eqb (b % 16) 0) (λ u. rw (t, u)) λ u. rw (t, u))

-- ---- codes

-- byte i of the codes of eight registers: those of entries 2 i and 2 i + 1
pub code_byte : List ℕ → List ℕ → ℕ → ℕ
code_byte result ever i = 16 * code_at 8 result ever (2 * i) + code_at 8 result ever (2 * i + 1)

code_below : (mask ever b : ℕ) → code_of 8 mask (bit ever b) ≤ 10
unfolding code_of
code_below mask ever b = by_test (eqb mask 0) (λ t. rw t (let l : ever / 2 ^ b % 2 < 2 = mod-lt _ (omega arith) in omega arith)) λ t. rw
    (t, ← trailing_least 8 mask) (omega (arith, trailing_le 8 mask))

gathered_at : (n : ℕ) (ds : List ℕ) (i : ℕ) → length ds ≡ 2 * n → i < n → get_or (gathered 2 4 n ds) i 0 ≡ 16 * get_or ds (2 * i) 0 + get_or ds (2 * i + 1) 0
unfolding gathered
gathered_at zero ds i h l = absurd (omega arith)
gathered_at (suc n) [] i h l = absurd (omega arith)
gathered_at (suc n) (a ∷ []) i h l = absurd (omega arith)
gathered_at (suc n) (a ∷ b ∷ ds) zero h l = omega arith
gathered_at (suc n) (a ∷ b ∷ ds) (suc i) h l =
    let x : 2 * suc i ≡ suc (suc (2 * i)) = omega arith in
    let y : 2 * suc i + 1 ≡ suc (suc (2 * i + 1)) = omega arith in
    gathered_at n ds i (omega arith) (omega arith)
    ∙ ap₂ (λ p q. 16 * p + q) (ap (λ k. get_or (a ∷ b ∷ ds) k 0) (sym x)) (ap (λ k. get_or (a ∷ b ∷ ds) k 0) (sym y))

gathered_long : (n : ℕ) (ds : List ℕ) → length (gathered 2 4 n ds) ≡ n
gathered_long n ds = gathered_length 2 4 n ds

pub code-bytes : (result ever : List ℕ) → code_bytes result ever ≡ table (code_byte result ever) 128
unfolding formats.code_bytes_in_format formats.codes_of code_byte
code-bytes result ever =
    let ds = table (code_at 8 result ever) 256 in
    let at : (i : ℕ) → i < 128 → get_or (gathered 2 4 128 ds) i 0 ≡ code_byte result ever i = (λ i h.
    gathered_at 128 ds i (table_length (code_at 8 result ever) 256) h
    ∙ rw (table_at (code_at 8 result ever) 256 (2 * i) 0 (omega arith), table_at (code_at 8 result ever) 256 (2 * i + 1) 0 (omega arith))) in
    let small : All< 256 (gathered 2 4 128 ds) = all_of 256 (gathered 2 4 128 ds) (λ k h.
    let l : k < 128 = omega (arith, gathered_long 128 ds) in
    rw (at k l) (let a = code_below (get_or result (2 * k) 0) (get_or ever (2 * k / 8) 0) (2 * k % 8) in
    let b = code_below (get_or result (2 * k + 1) 0) (get_or ever ((2 * k + 1) / 8) 0) ((2 * k + 1) % 8) in omega arith)) in
    units_one (gathered 2 4 128 ds) small ∙ table_is (code_byte result ever) 128 (gathered 2 4 128 ds) 0 (gathered_long 128 ds) at

-- one byte of codes, as its bits stand in one line of `ever`
pub byte_is : (result ever : List ℕ) (i j x y b d line c : ℕ) → x ≡ 2 * i → y ≡ 2 * i + 1 → b ≡ x % 8 → d ≡ y % 8 → j ≡ i / 4 → line ≡ get_or ever j 0
    → c ≡ 16 * code_of 8 (get_or result x 0) (bit line b) + code_of 8 (get_or result y 0) (bit line d) → c ≡ code_byte result ever i
unfolding code_byte
byte_is result ever i j x y b d line c ex ey eb ed ej el ec =
    let p : 2 * i / 8 ≡ j = omega arith in
    let q : (2 * i + 1) / 8 ≡ j = omega arith in
    rw (ec, eb, ed, el, ex, ey, p, q)

module _ (result ever : List ℕ) where
  abbrev blanks : List ℕ
  blanks = replicate 128 0

  pub codes_turn : (codes : List ℕ) (j k line c : ℕ) → j < 32 → k < 4 → line ≡ get_or ever j 0
      → c ≡ 16 * code_of 8 (get_or result (8 * j + 2 * k) 0) (bit line (2 * k)) + code_of 8 (get_or result (8 * j + 2 * k + 1) 0) (bit line (2 * k + 1))
      → Swept (code_byte result ever) 0 blanks (4 * j + k) codes → Swept (code_byte result ever) 0 blanks (4 * j + (k + 1)) (set codes (4 * j + k) c)
  codes_turn codes j k line c h l e p w =
      let n : 4 * j + k + 1 ≡ 4 * j + (k + 1) = omega arith in
      subst (λ (m : ℕ). Swept (code_byte result ever) 0 blanks m (set codes (4 * j + k) c)) n
      (swept_at (code_byte result ever) blanks (4 * j + k) (4 * j + k) codes c refl w (omega arith)
      (byte_is result ever (4 * j + k) j _ _ (2 * k) (2 * k + 1) line c (omega arith) (omega arith) (omega arith) (omega arith) (omega arith) e p))

  pub codes_past : (codes : List ℕ) (j line : ℕ) (b : Bool) → j < 32 → length result ≡ 256 → line ≡ get_or ever j 0
      → b ≡ empty_line (take 8 (drop (8 * j) result)) line → b ≡ true
      → Swept (code_byte result ever) 0 blanks (4 * j) codes → Swept (code_byte result ever) 0 blanks (4 * (j + 1)) codes
  unfolding empty_line code_of code_byte
  codes_past codes j line b h long e f t w = swept_past (code_byte result ever) blanks 4 (4 * j) (4 * (j + 1)) codes (omega arith) w (omega arith)
      (λ k p q. get_or-replicate 128 k 0 0 (omega arith) ∙ none k p q)
    where
      both : (empty_line (take 8 (drop (8 * j) result)) line ≡ true) → (line ≡ 0) × (little_endian (take 8 (drop (8 * j) result)) ≡ 0)
      both = by_test (eqb line 0) (λ u. rw u λ v. (eqb-true line 0 u, eqb-true _ 0 v)) λ u. rw u λ v. absurd (let z : ◌≡◌ {A = ℕ} 0 1 = cc in omega arith)

      entry : (x : ℕ) → 8 * j ≤ x → x < 8 * j + 8 → code_at 8 result ever x ≡ 0
      entry x p q =
          let (n, m) = both (sym f ∙ t) in
          let y : x / 8 ≡ j = omega arith in
          rw (eight_none result (8 * j) (omega arith) m x p q, y, ← e, n, zero-div (2 ^ (x % 8)))

      none : (k : ℕ) → 4 * j ≤ k → k < 4 * j + 4 → 0 ≡ code_byte result ever k
      none k p q = rw (entry (2 * k) (omega arith) (omega arith), entry (2 * k + 1) (omega arith) (omega arith))

-- ---- what is read at a place

-- two bytes, the most significant first
pub number_units : (n : ℕ) → n % 65536 / 256 % 256 ∷ n % 65536 % 256 ∷ [] ≡ units 2 (n ∷ [])
unfolding units
number_units n =
    let x : n % 65536 / 256 % 256 ≡ n / 256 % 256 = omega arith in
    let y : n % 65536 % 256 ≡ n / 1 % 256 = omega arith in
    rw (x, y)

pub number_two : (s : List ℕ) (at : ℕ) → at + 2 ≤ length s → number_in 2 (drop at s) ≡ 256 * get_or s at 0 + get_or s (at + 1) 0
unfolding units_in
number_two s at h =
    let e : take 2 (drop at s) ≡ get_or s at 0 ∷ get_or s (at + 1) 0 ∷ [] = taken s at (at + 1) 1 (omega arith) refl
    ∙ ap (λ l. get_or s at 0 ∷ l) (taken s (at + 1) (at + 2) 0 (omega arith) (omega arith)) in
    ap (join (8 ∷ 8 ∷ [])) e ∙ omega arith

pub number_one : (s : List ℕ) (at : ℕ) → at + 1 ≤ length s → number_in 1 (drop at s) ≡ get_or s at 0
unfolding units_in
number_one s at h = ap (join (8 ∷ [])) (taken s at (at + 1) 0 (omega arith) refl) ∙ omega arith

scattered_first : (ns : List ℕ) (i : ℕ) → i < length ns → get_or (scattered 2 4 ns) (2 * i) 0 ≡ get_or ns i 0 / 16 % 16
unfolding scattered
scattered_first [] i h = absurd (omega arith)
scattered_first (n ∷ ns) zero h = refl
scattered_first (n ∷ ns) (suc i) h =
    let x : 2 * suc i ≡ suc (suc (2 * i)) = omega arith in
    ap (λ k. get_or (scattered 2 4 (n ∷ ns)) k 0) x ∙ scattered_first ns i (omega arith)

scattered_second : (ns : List ℕ) (i : ℕ) → i < length ns → get_or (scattered 2 4 ns) (2 * i + 1) 0 ≡ get_or ns i 0 % 16
unfolding scattered
scattered_second [] i h = absurd (omega arith)
scattered_second (n ∷ ns) zero h = ap (λ m. m % 16) (div-one n)
scattered_second (n ∷ ns) (suc i) h =
    let x : 2 * suc i + 1 ≡ suc (suc (2 * i + 1)) = omega arith in
    ap (λ k. get_or (scattered 2 4 (n ∷ ns)) k 0) x ∙ scattered_second ns i (omega arith)

-- where the parts of a window stand in a record
module _ (s : List ℕ) where
  abbrev content : List ℕ
  content = drop content_place s

  at_class : formats.after_point first_format content ≡ drop 7 s
  at_class = drop-drop 2 5 s

  at_unequal : formats.after_class first_format content ≡ drop 15 s
  at_unequal = ap (drop 8) at_class ∙ drop-drop 8 7 s

  at_marks : formats.after_unequal first_format content ≡ drop 23 s
  at_marks = ap (drop 8) at_unequal ∙ drop-drop 8 15 s

  at_infeasible : formats.after_marks first_format content ≡ drop 31 s
  at_infeasible = ap (drop 8) at_marks ∙ drop-drop 8 23 s

  at_codes : formats.after_infeasible first_format content ≡ drop 32 s
  at_codes = ap (drop 1) at_infeasible ∙ drop-drop 1 31 s

  bytes_at : (n at : ℕ) → at + n ≤ length s → units_in 1 n (drop at s) ≡ take n (drop at s)
  bytes_at n at h = bytes_in n (drop at s) (rw (length-drop at s) (omega arith))

  module _ (long : record_bytes ≤ length s) where
    codes_are : codes_at s ≡ scattered 2 4 (take 128 (drop 32 s))
    unfolding codes_at formats.codes_in
    codes_are = ap (λ l. scattered 2 4 (units_in 1 128 l)) at_codes ∙ ap (scattered 2 4) (bytes_at 128 32 (omega arith))

    code_byte_at : (i : ℕ) → i < 128 → get_or (take 128 (drop 32 s)) i 0 ≡ get_or s (32 + i) 0
    code_byte_at i h = get_or-take 128 (drop 32 s) i 0 h ∙ get_or-drop 32 s i 0

    bytes_long : length (take 128 (drop 32 s)) ≡ 128
    bytes_long = length-take-le 128 (drop 32 s) (rw (length-drop 32 s) (omega arith))

    pub first_code : (i k : ℕ) → i < 128 → k ≡ 2 * i → get_or (codes_at s) k 0 ≡ get_or s (32 + i) 0 / 16 % 16
    first_code i k h e = rw (e, codes_are) (scattered_first (take 128 (drop 32 s)) i (omega (arith, bytes_long)) ∙ ap (λ b. b / 16 % 16) (code_byte_at i h))

    pub second_code : (i k : ℕ) → i < 128 → k ≡ 2 * i + 1 → get_or (codes_at s) k 0 ≡ get_or s (32 + i) 0 % 16
    second_code i k h e = rw (e, codes_are) (scattered_second (take 128 (drop 32 s)) i (omega (arith, bytes_long)) ∙ ap (λ b. b % 16) (code_byte_at i h))

    -- four bytes of codes that are 0
    none_at : (j k : ℕ) → j < 32 → little_endian (take 4 (drop (32 + 4 * j) s)) ≡ 0 → 8 * j ≤ k → k < 8 * j + 8 → get_or (codes_at s) k 0 ≡ 0
    none_at j k h e p q =
        let z = four_none s (32 + 4 * j) (omega arith) e (32 + k / 2) (omega arith) (omega arith) in
        by_test (eqb (k % 2) 0) (λ t. first_code (k / 2) k (omega arith) (omega (arith, eqb-true (k % 2) 0 t)) ∙ rw z)
        λ t. second_code (k / 2) k (omega arith) (omega (arith, eqb-false (k % 2) 0 t)) ∙ rw z

    -- ---- results

    module _ (meanings : List ℕ) where
      abbrev pub held : ℕ → ℕ
      held k = get_or meanings (get_or (codes_at s) k 0) 0

      abbrev none : List ℕ
      none = replicate 256 0

      first_held : (i k b : ℕ) → i < 128 → k ≡ 2 * i → b ≡ get_or s (32 + i) 0 → b < 256 → get_or meanings (b / 16) 0 ≡ held k
      first_held i k b h e f l = let z : b / 16 % 16 ≡ b / 16 = omega arith in rw (first_code i k h e, ← f, z)

      second_held : (i k b : ℕ) → i < 128 → k ≡ 2 * i + 1 → b ≡ get_or s (32 + i) 0 → get_or meanings (b % 16) 0 ≡ held k
      second_held i k b h e f = rw (second_code i k h e, ← f)

      -- the two codes of a byte
      pub results_turn : (result : List ℕ) (j k b : ℕ) → j < 32 → k < 4 → b ≡ get_or s (32 + 4 * j + k) 0 → b < 256
          → Swept held 0 none (8 * j + 2 * k) result
          → Swept held 0 none (8 * j + 2 * (k + 1))
          (set (set result (8 * j + 2 * k) (get_or meanings (b / 16) 0)) (8 * j + 2 * k + 1) (get_or meanings (b % 16) 0))
      results_turn result j k b h l e f w =
          let i = 8 * j + 2 * k in
          let at : b ≡ get_or s (32 + (4 * j + k)) 0 = e ∙ ap (λ n. get_or s n 0) (let n : 32 + 4 * j + k ≡ 32 + (4 * j + k) = omega arith in n) in
          let w₁ = swept_at held none i i result (get_or meanings (b / 16) 0) refl w (omega arith)
          (first_held (4 * j + k) i b (omega arith) (omega arith) at f) in
          let w₂ = swept_at held none (i + 1) (i + 1) (set result i (get_or meanings (b / 16) 0)) (get_or meanings (b % 16) 0) refl w₁ (omega arith)
          (second_held (4 * j + k) (i + 1) b (omega arith) (omega arith) at) in
          let n : i + 1 + 1 ≡ 8 * j + 2 * (k + 1) = omega arith in
          subst (λ (m : ℕ). Swept held 0 none m (set (set result i (get_or meanings (b / 16) 0)) (i + 1) (get_or meanings (b % 16) 0))) n w₂

      pub results_past : (result : List ℕ) (j r : ℕ) → j < 32 → get_or meanings 0 0 ≡ 0 → r ≡ little_endian (take 4 (drop (32 + 4 * j) s)) → r ≡ 0
          → Swept held 0 none (8 * j) result → Swept held 0 none (8 * (j + 1)) result
      results_past result j r h m f e w = swept_past held none 8 (8 * j) (8 * (j + 1)) result (omega arith) w (omega arith)
          (λ k p q. get_or-replicate 256 k 0 0 (omega arith) ∙ sym (ap (λ c. get_or meanings c 0) (none_at j k h (sym f ∙ e) p q) ∙ m))

    -- ---- what was ever computed

    abbrev line_of : ℕ → ℕ
    line_of = formats.ever_mask first_format (codes_at s)

    pub ever_is : (j a b c d : ℕ) → j < 32 → a ≡ computed_of (get_or s (32 + 4 * j) 0 / 16 % 16) + 2 * computed_of (get_or s (32 + 4 * j) 0 % 16)
        → b ≡ computed_of (get_or s (32 + 4 * j + 1) 0 / 16 % 16) + 2 * computed_of (get_or s (32 + 4 * j + 1) 0 % 16)
        → c ≡ computed_of (get_or s (32 + 4 * j + 2) 0 / 16 % 16) + 2 * computed_of (get_or s (32 + 4 * j + 2) 0 % 16)
        → d ≡ computed_of (get_or s (32 + 4 * j + 3) 0 / 16 % 16) + 2 * computed_of (get_or s (32 + 4 * j + 3) 0 % 16)
        → a + 4 * b + 16 * c + 64 * d ≡ line_of j
    unfolding formats.ever_mask assembled
    ever_is j a b c d h p q r t =
        rw (
          p,
          q,
          r,
          t,
          add_assoc 32 (4 * j) 1,
          add_assoc 32 (4 * j) 2,
          add_assoc 32 (4 * j) 3,
          first_code (4 * j) (8 * j + 0) (omega arith) (omega arith),
          second_code (4 * j) (8 * j + 1) (omega arith) (omega arith),
          first_code (4 * j + 1) (8 * j + 2) (omega arith) (omega arith),
          second_code (4 * j + 1) (8 * j + 3) (omega arith) (omega arith),
          first_code (4 * j + 2) (8 * j + 4) (omega arith) (omega arith),
          second_code (4 * j + 2) (8 * j + 5) (omega arith) (omega arith),
          first_code (4 * j + 3) (8 * j + 6) (omega arith) (omega arith),
          second_code (4 * j + 3) (8 * j + 7) (omega arith) (omega arith),
        ) (omega arith)

    pub ever_past : (ever : List ℕ) (j r : ℕ) → j < 32 → r ≡ little_endian (take 4 (drop (32 + 4 * j) s)) → r ≡ 0
        → Swept line_of 0 (replicate 32 0) j ever → Swept line_of 0 (replicate 32 0) (j + 1) ever
    unfolding formats.ever_mask assembled computed_of
    ever_past ever j r h f e w = swept_past line_of (replicate 32 0) 1 j (j + 1) ever refl w (omega arith) (λ k p q.
        let z : k ≡ j = omega arith in
        let n : (b : ℕ) → b < 8 → get_or (codes_at s) (8 * j + b) 0 ≡ 0 = (λ b l. none_at j (8 * j + b) h (sym f ∙ e) (omega arith) (omega arith)) in
        get_or-replicate 32 k 0 0 (omega arith)
        ∙ rw (
          z,
          n 0 (omega arith),
          n 1 (omega arith),
          n 2 (omega arith),
          n 3 (omega arith),
          n 4 (omega arith),
          n 5 (omega arith),
          n 6 (omega arith),
          n 7
              (omega arith),
        ))

-- ---- pairs that are compared

front_starts : (p l : List ℕ) → starts_with eqb l p ≡ same_front p l
unfolding same_front
front_starts [] l = refl
front_starts (x ∷ p) [] = refl
front_starts (x ∷ p) (y ∷ l) =
    by_test (eqb y x) (λ t. rw (t, eq-eqb x y (sym (eqb-true y x t))) (front_starts p l))
    λ t. rw (t, ne_eqb x y (λ e. eqb-false y x t (sym e)))

pub pair_starts : (p l : List ℕ) → starts_with eqb (take (length l - 3) (drop 3 l)) p ≡ formats.same_pair p l
unfolding formats.same_pair
pair_starts p l = rw (take_all (length l - 3) (drop 3 l) (rw (length-drop 3 l) (omega arith))) (front_starts p (drop 3 l))

-- ---- a fingerprint

bits_apart : (a s : ℕ) → s < 128 → bit_and (a * 128) s ≡ 0
bits_apart a s l =
    let e : a * 128 ≡ a * 128 + 0 = omega arith in
    let f : s ≡ 0 * 128 + s = omega arith in
    let x = and_le_r a 0 in
    let y = and_le_l 0 s in
    ap₂ bit_and e f ∙ and_block 7 a 0 0 s (omega arith) l ∙ omega arith

-- a word that is turned: its highest bits come behind the others
turned : (h r word : ℕ) → h < 2 ^ 64 → r ≡ rotate_left w64 h 7 → bit_xor r word ≡ mix h word
turned h r word l e =
    let low : h * 128 % 18446744073709551616 ≡ h % 144115188075855872 * 128 = omega arith in
    let high : h / 144115188075855872 ≡ h / 144115188075855872 % 128 = omega arith in
    let f : r ≡ h % 144115188075855872 * 128 + h / 144115188075855872 % 128 = e ∙ ap (λ n. bit_or n (h / 144115188075855872)) low
    ∙ or_disjoint (h % 144115188075855872 * 128) (h / 144115188075855872) (bits_apart (h % 144115188075855872) (h / 144115188075855872) (omega arith))
    ∙ ap (λ n. h % 144115188075855872 * 128 + n) high in
    ap (λ n. bit_xor n word) f

module _ (s : List ℕ) where
  abbrev words : ℕ → List ℕ
  words i = words_in (19 - i) (drop (8 * i) s)

  pub mix_turn : (h r i word : ℕ) → i < 19 → h < 2 ^ 64 → r ≡ rotate_left w64 h 7 → word ≡ little_endian (take 8 (drop (8 * i) s))
      → mixed (bit_xor r word) (words (i + 1)) ≡ mixed h (words i)
  unfolding mixed words_in
  mix_turn h r i word l t q e =
      let n : 19 - i ≡ suc (19 - (i + 1)) = omega arith in
      let d : drop 8 (drop (8 * i) s) ≡ drop (8 * (i + 1)) s = (let k : 8 * i + 8 ≡ 8 * (i + 1) = omega arith in drop-drop 8 (8 * i) s
      ∙ ap (λ m. drop m s) k) in
      ap (λ m. mixed m (words (i + 1))) (turned h r word t q)
      ∙ sym (ap (λ m. mixed h (words_in m (drop (8 * i) s))) n ∙ ap₂ (λ w r. mixed (mix h w) (words_in (19 - (i + 1)) r)) (sym e) d)

  pub mix_end : (h i : ℕ) → 19 ≤ i → mixed h (words i) ≡ h
  unfolding mixed words_in
  mix_end h i l = let n : 19 - i ≡ 0 = omega arith in ap (λ m. mixed h (words_in m (drop (8 * i) s))) n

  pub mix_all : (h i : ℕ) → 19 ≤ i → mixed h (words i) ≡ mixed 0 (words 0) → spread h ≡ fingerprint_of s
  unfolding formats.fingerprint_in_format
  mix_all h i l e = ap spread (sym (mix_end h i l) ∙ e)

-- ---- parts laid one after the other

abbrev pub laid_at : ℕ → List ℕ → List ℕ → List ℕ
laid_at at part l = take at l ++ part ++ drop (at + length part) l

-- where p stands before `at`, and z in the place of the part
pub laid_over : (p part z r l m : List ℕ) (at : ℕ) → length p ≡ at → length z ≡ length part → l ≡ p ++ (z ++ r) → m ≡ laid_at at part l → m ≡ p ++ part ++ r
laid_over p part z r l m at h g e f =
    let a : drop (at + length part) (p ++ (z ++ r)) ≡ r = rw (← h) (drop-append-add p (z ++ r) (length part) ∙ drop_at z r (length part) g) in
    rw (f, e, take_at p (z ++ r) at h, a)

module _ (v : ℕ) (number class unequal marks codes l₀ l₁ l₂ l₃ l₄ : List ℕ) (n : length number ≡ 2) (a : length class ≡ 8) (b : length unequal ≡ 8)
    (c : length marks ≡ 8) (d : length codes ≡ 128) where
  parts_made : l₀ ≡ laid_at 2 number (replicate 157 0) → l₁ ≡ laid_at 4 class l₀ → l₂ ≡ laid_at 12 unequal l₁ → l₃ ≡ laid_at 20 marks l₂
      → l₄ ≡ laid_at 29 codes (set l₃ 28 v) → l₄ ≡ 0 ∷ 0 ∷ (number ++ (class ++ (unequal ++ (marks ++ (v ∷ codes)))))
  parts_made o p q r s =
      let z : List ℕ = 0 ∷ 0 ∷ [] in
      let t : List ℕ = z ++ number in
      let x₀ : l₀ ≡ z ++ number ++ replicate 153 0 = laid_over z number (replicate 2 0) (replicate 153 0) _ l₀ 2 refl (sym n) refl o in
      let x₁ : l₁ ≡ t ++ class ++ replicate 145 0 = laid_over t class (replicate 8 0) (replicate 145 0) l₀ l₁ 4 (simp length-append (omega arith)) (sym a)
      x₀ p in
      let x₂ : l₂ ≡ t ++ class ++ unequal ++ replicate 137 0 = laid_over (t ++ class) unequal (replicate 8 0) (replicate 137 0) l₁ l₂ 12
      (simp length-append (omega arith)) (sym b) x₁ q in
      let x₃ : l₃ ≡ t ++ class ++ unequal ++ marks ++ replicate 129 0 = laid_over (t ++ class ++ unequal) marks (replicate 8 0) (replicate 129 0) l₂ l₃ 20
      (simp length-append (omega arith)) (sym c) x₂ r in
      let y : length (t ++ class ++ unequal ++ marks) ≡ 28 = simp length-append (omega arith) in
      let x : set l₃ 28 v ≡ t ++ class ++ unequal ++ marks ++ (v ∷ []) ++ replicate 128 0 =
      rw x₃ (set_at (t ++ class ++ unequal ++ marks) 0 (replicate 128 0) v 28 y) ∙ sym (append_snoc (t ++ class ++ unequal ++ marks) v (replicate 128 0)) in
      laid_over (t ++ class ++ unequal ++ marks ++ (v ∷ [])) codes (replicate 128 0) [] (set l₃ 28 v) l₄ 29 (simp length-append (omega arith)) (sym d)
      (x ∙ ap (λ (u : List ℕ). t ++ class ++ unequal ++ marks ++ (v ∷ []) ++ u) (sym (append-nil (replicate 128 0)))) s
      ∙ simp (append-nil, append_assoc)

  content_made : (point : ℕ) (w : Window) → number ≡ units 2 (point ∷ []) → class ≡ units 1 w.class → unequal ≡ units 1 w.unequal
      → marks ≡ map flag w.mark → v ≡ flag w.infeasible → codes ≡ code_bytes w.result w.ever
      → l₀ ≡ laid_at 2 number (replicate 157 0) → l₁ ≡ laid_at 4 class l₀ → l₂ ≡ laid_at 12 unequal l₁ → l₃ ≡ laid_at 20 marks l₂
      → l₄ ≡ laid_at 29 codes (set l₃ 28 v) → drop 2 l₄ ≡ formats.content_of first_format point w
  unfolding formats.content_of
  content_made point w en ec eu em ev eo o p q r s =
      let one : units 1 (map flag w.mark) ≡ map flag w.mark = units_one (map flag w.mark) (all_map w.mark) in
      let two : units 1 (flag w.infeasible ∷ []) ≡ flag w.infeasible ∷ [] = units_one (map flag (w.infeasible ∷ [])) (all_map (w.infeasible ∷ [])) in
      ap (drop 2) (parts_made o p q r s) ∙ rw (en, ec, eu, em, ev, eo, one, two)

  pub encoded_made : (point : ℕ) (w : Window) (f l₅ : List ℕ) (m : ℕ) → number ≡ units 2 (point ∷ []) → class ≡ units 1 w.class → unequal ≡ units 1 w.unequal
      → marks ≡ map flag w.mark → v ≡ flag w.infeasible → codes ≡ code_bytes w.result w.ever
      → l₀ ≡ laid_at 2 number (replicate 157 0) → l₁ ≡ laid_at 4 class l₀ → l₂ ≡ laid_at 12 unequal l₁ → l₃ ≡ laid_at 20 marks l₂
      → l₄ ≡ laid_at 29 codes (set l₃ 28 v) → length l₄ ≡ 157 → m ≡ fingerprint_of (take 155 (drop 2 l₄)) → f ≡ units 2 (m ∷ [])
      → l₅ ≡ laid_at 0 f l₄ → l₅ ≡ encoded point w
  unfolding formats.encoded_in_format units
  encoded_made point w f l₅ m en ec eu em ev eo o p q r s long g h k =
      let e = content_made point w en ec eu em ev eo o p q r s in
      let j : m ≡ fingerprint_of (formats.content_of first_format point w) =
      g ∙ ap fingerprint_of (take_all 155 (drop 2 l₄) (rw (length-drop 2 l₄) (omega arith)) ∙ e) in
      k ∙ rw (h, j, ← e)

-- ---- what is read, whole

-- what a code means is the class that it stands for
meaning_held : (class : List ℕ) (c : ℕ) → length class ≡ 8 → get_or (meanings_of class) c 0 ≡ class_of_code class c
unfolding class_of_code
meaning_held class zero h = refl
meaning_held class (suc zero) h = refl
meaning_held class (suc (suc c)) h =
    by_test (ltb c 8) (λ t. get_or-append class (replicate 6 0) 0 c (omega (arith, ltb-true c 8 t)))
    λ t. let g = ltb-false c 8 t in
    let e : c ≡ length class + (c - 8) = omega arith in
    ap (λ k. get_or (class ++ replicate 6 0) k 0) e ∙ get_or-append-add class (replicate 6 0) (c - 8) 0 ∙ beyond (c - 8)
    ∙ sym (get_or-eq_default class 0 (omega arith))
  where
    beyond : (k : ℕ) → get_or {A = ℕ} (replicate 6 0) k 0 ≡ 0
    beyond k = by_test (ltb k 6) (λ u. get_or-replicate {A = ℕ} 6 k 0 0 (ltb-true k 6 u)) λ u. get_or-eq_default {A = ℕ} (replicate 6 0) 0 (ltb-false k 6 u)

same_table : (F G : ℕ → ℕ) (n : ℕ) → ((i : ℕ) → F i ≡ G i) → table F n ≡ table G n
same_table F G n f = table_is G n (table F n) 0 (table_length F n) (λ i h. table_at F n i 0 h ∙ f i)

pub window_made : (s class unequal flags meanings result ever : List ℕ) (mark : List Bool) (infeasible : Bool) (classes : ℕ) → record_bytes ≤ length s
    → length class ≡ 8
    → class ≡ take 8 (drop 7 s) → unequal ≡ take 8 (drop 15 s) → flags ≡ take 8 (drop 23 s) → mark ≡ map is_set flags → meanings ≡ meanings_of class
    → result ≡ results_meant meanings (codes_at s) → ever ≡ ever_in (codes_at s) → infeasible ≡ is_set (get_or s 31 0)
    → classes ≡ counted_classes registers class
    → ◌≡◌ {A = Window} (record { class = class; unequal = unequal; result = result; ever = ever; mark = mark; infeasible = infeasible; classes = classes })
    (window_in s)
unfolding formats.window_in_format formats.window_from formats.results_in_format results_meant codes_at
window_made s class unequal flags meanings result ever mark infeasible classes long count c u f m k r e i a =
    let pc : units_in 1 8 (formats.after_point first_format (drop content_place s)) ≡ class = ap (units_in 1 8) (at_class s) ∙ bytes_at s 8 7 (omega arith)
    ∙ sym c in
    let pu : units_in 1 8 (formats.after_class first_format (drop content_place s)) ≡ unequal = ap (units_in 1 8) (at_unequal s) ∙ bytes_at s 8 15 (omega arith)
    ∙ sym u in
    let pm : map is_set (units_in 1 8 (formats.after_unequal first_format (drop content_place s))) ≡ mark = ap (map is_set) (ap (units_in 1 8) (at_marks s)
    ∙ bytes_at s 8 23 (omega arith) ∙ sym f) ∙ sym m in
    let pi : is_set (number_in 1 (formats.after_marks first_format (drop content_place s))) ≡ infeasible = ap is_set (ap (number_in 1) (at_infeasible s)
    ∙ number_one s 31 (omega arith)) ∙ sym i in
    let pr : table (λ n. class_of_code class (get_or (codes_at s) n 0)) 256 ≡ result = sym (r
    ∙ rw k (same_table _ _ 256 (λ n. meaning_held class (get_or (codes_at s) n 0) count))) in
    sym (rw (pc, pu, pm, pi, pr, ← e, ← a))

-- ---- a whole record

pub record_made : (number pair l₀ l : List ℕ) (parent branch : ℕ) → length pair ≡ encoded_bytes → number ≡ units 2 (parent ∷ [])
    → l₀ ≡ laid_at 0 number (replicate 192 0) → l ≡ laid_at 3 pair (set l₀ 2 (branch % 256)) → l ≡ record_of pair parent branch
unfolding formats.record_in_format units
record_made number pair l₀ l parent branch h n o p =
    let x : l₀ ≡ parent / 256 % 256 ∷ parent % 256 ∷ replicate 190 0 = o ∙ rw (n, div-one parent) in
    laid_over (parent / 256 % 256 ∷ parent % 256 ∷ branch % 256 ∷ []) pair (replicate encoded_bytes 0) (replicate 32 0)
    (set l₀ 2 (branch % 256)) l 3 refl (sym h) (ap (λ (m : List ℕ). set m 2 (branch % 256)) x) p
    ∙ rw (div-one parent, div-one branch)

pub write_made : (bytes whole part l : List ℕ) → length bytes ≡ record_bytes → bytes ≡ whole → l ≡ laid_at 0 bytes part → l ≡ whole ++ drop 192 part
write_made bytes whole part l h e p =
    let n : 0 + length bytes ≡ record_bytes = omega arith in
    p ∙ rw (n, e)
