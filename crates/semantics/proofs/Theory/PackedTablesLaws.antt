-- Tables read back from their bytes.
use mathlib.Core.Path.{◌≡◌, refl, sym, ◌∙◌, ap, ap₂, subst}
use mathlib.Core.List.Memᴰ
use mathlib.Core.List.{List, [], ◌∷◌, ◌++◌, map, append-nil, append_assoc}
use Prim.Native.Nat.{ℕ, suc, ◌+◌, ◌*◌, ◌^◌, ◌<◌}
use native.Mathlib.Omega.{arith}
use lib.ListN.{length, get_or, take, drop, replicate, length-append, length-map}
use lib.Pow.{pow_pos}
use mathlib.Core.Logic.{inl, inr}
use Rattle.letters.specs.Editions.{Edition}
use Rattle.base.proofs.Theory.Choice.{by_test}
use Rattle.base.specs.Masks.{has}
use Rattle.letters.specs.declared.Header.{Header}
use Rattle.letters.specs.Letters.{arity}
use Rattle.letters.specs.Packing.{total, Sized, join, split}
use Rattle.letters.proofs.Theory.Packing.{join_lt, split_join, join_split}
use Rattle.traces.proofs.Theory.TraceLaws.{octets_total, octets_length}
pub use Rattle.traces.proofs.Theory.TraceLaws.{units_length}
use Rattle.semantics.specs.Terms.{◌∈◌}
use Rattle.semantics.specs.Tables.{Row, Tables}
use Rattle.semantics.specs.PackedTables.{units, row_widths, row_bytes, word_bytes, second_written, row_fields, packed_row, pack_tables}
use Rattle.semantics.specs.TablesRead.{units_in, second_meant, row_from, read_tables, Packable}
use Rattle.semantics.proofs.Theory.Lists.{take_front, drop_front}

-- numbers of k bytes come back
units_back : (k : ℕ) (ns rest : List ℕ) → ((n : ℕ) → n ∈ ns → n < 2 ^ (8 * k)) → units_in k (length ns) (units k ns ++ rest) ≡ ns
unfolding units units_in
units_back k [] rest h = refl
units_back k (n ∷ ns) rest h =
    ap₂ (λ a l. a ∷ l)
    (ap (join (replicate k 8)) (ap (take k) assoc ∙ ap (λ j. take j (bytes ++ (units k ns ++ rest))) (sym (octets_length k n)) ∙ take_front bytes
    (units k ns ++ rest))
    ∙ join_split (replicate k 8) n (subst (λ j. n < 2 ^ j) (sym (octets_total k)) (h n (Memᴰ.head refl))))
    (ap (units_in k (length ns)) (ap (drop k) assoc ∙ ap (λ j. drop j (bytes ++ (units k ns ++ rest))) (sym (octets_length k n)) ∙ drop_front bytes
    (units k ns ++ rest))
    ∙ units_back k ns rest (λ m i. h m (Memᴰ.tail i)))
  where
    bytes : List ℕ
    bytes = split (replicate k 8) n

    assoc : split (replicate k 8) n ++ units k ns ++ rest ≡ split (replicate k 8) n ++ (units k ns ++ rest)
    assoc = append_assoc (split (replicate k 8) n) (units k ns) rest

-- ── rows ──
module _ (w : Edition) (h : Header) where
  second_back : (r : Row) → (arity h r.function ≡ 1 → r.second ≡ r.first)
      → second_meant h r.function r.first (second_written h r.function r.second) ≡ r.second
  unfolding second_meant second_written
  second_back r one = by_test (has h.binary r.function) (λ e. rw e) (λ e. rw e (sym (one (rw e))))

  sized : (r : Row) → r.function < 2 ^ w.row_function → r.first < 2 ^ w.row_value → r.second < 2 ^ w.row_value → r.result < 2 ^ w.row_value
      → Sized (row_widths w) (row_fields h r)
  unfolding second_written
  sized r f a b c = (f, (a, (by_test (has h.binary r.function) (λ e. rw e b) (λ e. rw e (pow_pos w.row_value)), (c, (pow_pos w.row_spare, tt)))))

  row_back : (r : Row) → r.function < 2 ^ w.row_function → r.first < 2 ^ w.row_value → r.second < 2 ^ w.row_value → r.result < 2 ^ w.row_value
      → (arity h r.function ≡ 1 → r.second ≡ r.first) → row_from w h (packed_row w h r) ≡ r
  unfolding row_from packed_row
  row_back r f a b c one =
      ap (λ (l : List ℕ). record {
        function = get_or l 0 0;
        first = get_or l 1 0;
        second = second_meant h (get_or l 0 0) (get_or l 1 0) (get_or l 2 0);
        result = get_or l 3 0;
      })
      (split_join (row_widths w) (row_fields h r) (sized r f a b c))
      ∙ ap (λ (k : ℕ). record { function = r.function; first = r.first; second = k; result = r.result }) (second_back r one)

  rows_back : (rows : List Row) → ((r : Row) → r ∈ rows → row_from w h (packed_row w h r) ≡ r) → map (row_from w h) (map (packed_row w h) rows) ≡ rows
  rows_back [] e = refl
  rows_back (r ∷ rows) e = ap₂ (λ a l. a ∷ l) (e r (Memᴰ.head refl)) (rows_back rows (λ s m. e s (Memᴰ.tail m)))

  words_fit : (rows : List Row) (k : ℕ) → ((r : Row) → r ∈ rows → packed_row w h r < k) → (n : ℕ) → n ∈ map (packed_row w h) rows → n < k
  words_fit [] k e n m = absurd (Memᴰ.not-nil m)
  words_fit (r ∷ rows) k e n m = elim (Memᴰ.cases_cons m) [
    | inl q ↦ subst (λ j. j < k) (sym q) (e r (Memᴰ.head refl))
    | inr i ↦ words_fit rows k (λ s j. e s (Memᴰ.tail j)) n i
  ]

  row_fits : (r : Row) → total (row_widths w) ≡ 8 * row_bytes → r.function < 2 ^ w.row_function → r.first < 2 ^ w.row_value → r.second < 2 ^ w.row_value
      → r.result < 2 ^ w.row_value
      → packed_row w h r < 2 ^ (8 * row_bytes)
  unfolding packed_row
  row_fits r e f a b c =
      subst (λ j. packed_row w h r < 2 ^ j) e (join_lt (row_widths w) (row_fields h r) (sized r f a b c))

  -- The length of packed tables.
  pub packed_length : (t : Tables) → length (pack_tables w h t) ≡ word_bytes * (2 + length t.starts) + row_bytes * length t.rows
  unfolding pack_tables
  packed_length t =
      length-append (units word_bytes (t.count ∷ length t.rows ∷ t.starts)) (units row_bytes (map (packed_row w h) t.rows))
      ∙ ap₂ ◌+◌ (units_length word_bytes (t.count ∷ length t.rows ∷ t.starts) ∙ omega arith)
      (units_length row_bytes (map (packed_row w h) t.rows) ∙ ap (λ (k : ℕ). row_bytes * k) (length-map t.rows (packed_row w h)))

  -- ── the tables come back ──
  pub read_packed : (t : Tables) → Packable w h t → read_tables w h (pack_tables w h t) ≡ t
  unfolding read_tables pack_tables
  read_packed t p = λ i. record { count = get_or (words_are i) 0 0; starts = drop 2 (words_are i); rows = rows_are i }
    where
      numbers : List ℕ
      numbers = t.count ∷ length t.rows ∷ t.starts

      rest : List ℕ
      rest = units row_bytes (map (packed_row w h) t.rows)

      small : (n : ℕ) → n ∈ t.count ∷ length t.rows ∷ t.starts → n < 2 ^ (8 * word_bytes)
      small n m = elim (Memᴰ.cases_cons m) [
        | inl e ↦ subst (λ k. k < 2 ^ (8 * word_bytes)) (sym e) p.count_fits
        | inr k ↦ elim (Memᴰ.cases_cons k) [
          | inl e ↦ subst (λ k. k < 2 ^ (8 * word_bytes)) (sym e) p.rows_fit
          | inr j ↦ p.starts_fit n j
        ]
      ]

      words_are : units_in word_bytes (2 + h.registers) (pack_tables w h t) ≡ t.count ∷ length t.rows ∷ t.starts
      words_are = ap (λ (k : ℕ). units_in word_bytes k (pack_tables w h t)) (count_is p.registers) ∙ units_back word_bytes numbers rest small
        where
          count_is : {k : ℕ} → k ≡ h.registers → 2 + h.registers ≡ suc (suc k)
          count_is e = omega arith

      behind : drop (word_bytes * (2 + h.registers)) (pack_tables w h t) ≡ units row_bytes (map (packed_row w h) t.rows)
      behind =
          ap (λ (k : ℕ). drop k (pack_tables w h t)) (offset p.registers (units_length word_bytes numbers)) ∙ drop_front
          (units word_bytes numbers) rest
        where
          offset : {k n : ℕ} → k ≡ h.registers → n ≡ word_bytes * suc (suc k) → word_bytes * (2 + h.registers) ≡ n
          offset e q = omega arith

      fits : (r : Row) → r ∈ t.rows → packed_row w h r < 2 ^ (8 * row_bytes)
      fits r m = row_fits r p.width (p.function_fits r m) (p.first_fits r m) (p.second_fits r m) (p.result_fits r m)

      rows_are : map (row_from w h)
          (units_in row_bytes (get_or (units_in word_bytes (2 + h.registers) (pack_tables w h t)) 1 0)
          (drop (word_bytes * (2 + h.registers)) (pack_tables w h t))) ≡ t.rows
      rows_are =
          ap₂ (λ (k : ℕ) s. map (row_from w h) (units_in row_bytes k s))
          (ap (λ (l : List ℕ). get_or l 1 0) words_are ∙ sym (length-map t.rows (packed_row w h)))
          (behind ∙ sym (append-nil (units row_bytes (map (packed_row w h) t.rows))))
          ∙ ap (map (row_from w h)) (units_back row_bytes (map (packed_row w h) t.rows) [] (words_fit t.rows (2 ^ (8 * row_bytes)) fits))
          ∙ rows_back t.rows
          (λ r m. row_back r (p.function_fits r m) (p.first_fits r m) (p.second_fits r m) (p.result_fits r m) (p.twice r m))
