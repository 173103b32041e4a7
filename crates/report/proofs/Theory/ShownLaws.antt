-- Laws of reading the answer's bytes: one entry after the other, and what packed bytes hold.
use mathlib.Core.Path.{◌≡◌, refl, sym, ap, ap₂, ◌∙◌}
use Prim.Native.Nat.{ℕ, zero, suc, ◌+◌, ◌-◌, ◌*◌, ◌≤◌, ◌<◌}
use native.Mathlib.Omega.{arith}
use native.Mathlib.Nat.{add-zero, mul-suc, sub-zero}
use native.Mathlib.Numerals.{add-one}
use mathlib.Core.List.{List, [], ◌∷◌, ◌++◌, map}
use lib.ListN.{length, get_or, take, drop, replicate}
use lib.Seq.{drop-drop, get_or-drop}
use Rattle.letters.specs.Editions.{first_edition}
use Rattle.base.proofs.Theory.Choice.{by_test}
use Rattle.base.specs.Masks.{has}
use Rattle.letters.specs.declared.Header.{Header}
use Rattle.letters.specs.declared.Letter.{Letter}
use Rattle.letters.specs.Packing.{join}
use Rattle.semantics.specs.Tables.{Row}
use Rattle.semantics.specs.TablesRead.{units_in, second_meant, row_from, read_tables}
use Rattle.semantics.specs.PackedTables.{second_written}
use Rattle.text.specs.Numerals.{numeral}
use Rattle.text.specs.Appending.{PlaceInRange, Appended}
use Rattle.text.proofs.Theory.Appending.{room_same, room_first, room_then, appended_same, appended_then}
use Rattle.report.specs.Lines.{Names, lines_of, line, letter_line, letter_lines, model_lines, start_lines, row_line, start_word, letters_word, values_word}
use Rattle.report.specs.Lines.{blank_word}
use Rattle.report.specs.Shown.{letter_or_copy, letters_in}
use Rattle.report.specs.Shown.{word_at, row_in}

-- ── one entry after the other ──
take_away : (i n : ℕ) → i < n → n - i ≡ suc (n - (i + 1))
take_away i n h = omega arith

nothing_left : (i n : ℕ) → n ≤ i → n - i ≡ 0
nothing_left i n h = omega arith

module _ (h : Header) (s : List ℕ) (n k : ℕ) where
  pub letters_next : k < n → letters_in h s k (n - k) ≡ letter_or_copy h s k ∷ letters_in h s (k + 1) (n - (k + 1))
  unfolding letters_in
  letters_next l = rw (take_away k n l)

  pub letters_none : n ≤ k → letters_in h s k (n - k) ≡ []
  unfolding letters_in
  letters_none l = rw (nothing_left k n l)

pub letters_length : (h : Header) (s : List ℕ) (k n : ℕ) → length (letters_in h s k n) ≡ n
unfolding letters_in
letters_length h s k zero = refl
letters_length h s k (suc n) = ap suc (letters_length h s (k + 1) n)

-- Units of k bytes that begin at o: unit i, of m.
module _ (k m i o : ℕ) (s : List ℕ) where
  pub units_next : i < m → units_in k (m - i) (drop (o + k * i) s) ≡ join (replicate k 8) (take k (drop (o + k * i) s)) ∷ units_in k (m - (i + 1))
      (drop (o + k * (i + 1)) s)
  unfolding units_in
  units_next l = rw (take_away i m l)
      (ap (λ (t : List ℕ). join (replicate k 8) (take k (drop (o + k * i) s)) ∷ units_in k (m - (i + 1)) t)
      (drop-drop k (o + k * i) s ∙ ap (λ (j : ℕ). drop j s) (further k o i)))
    where
      further : (k o i : ℕ) → o + k * i + k ≡ o + k * (i + 1)
      further k o i = rw (add-one i, mul-suc k i) (omega arith)

  pub units_none : m ≤ i → units_in k (m - i) (drop (o + k * i) s) ≡ []
  unfolding units_in
  units_none l = rw (nothing_left i m l)

pub units_count : (k m : ℕ) (s : List ℕ) → length (units_in k m s) ≡ m
unfolding units_in
units_count k zero s = refl
units_count k (suc m) s = ap suc (units_count k m (drop k s))

-- ── units byte by byte; bytes that are not there count as 0 ──
two : (s : List ℕ) → join (8 ∷ 8 ∷ []) (take 2 s) ≡ get_or s 0 0 * 256 + get_or s 1 0
two [] = refl
two (a ∷ []) = omega arith
two (a ∷ b ∷ s) = omega arith

module _ (s : List ℕ) (at : ℕ) where
  pub word_bytes : join (8 ∷ 8 ∷ []) (take 2 (drop at s)) ≡ get_or s at 0 * 256 + get_or s (at + 1) 0
  word_bytes = two (drop at s) ∙ rw (get_or-drop at s 0 0, get_or-drop at s 1 0, add-zero at)

-- ── the model's parts, as they are read ──
-- The second argument of a row that was read is written as it stood, and as 0 for a function of one argument.
pub second_read : (h : Header) (f a b : ℕ) → second_written h f (second_meant h f a b) ≡ second_written h f b
unfolding second_written second_meant
second_read h f a b = by_test (has h.binary f) (λ e. rw e) (λ e. rw e)

-- ── the lines of what is read, one after the other ──
module _ (F : Letter → List ℕ) (h : Header) (s : List ℕ) (n : ℕ) where
  pub letter_lines_start : lines_of F (letters_in h s 0 n) ≡ lines_of F (letters_in h s 0 (n - 0))
  letter_lines_start = ap (λ (m : ℕ). lines_of F (letters_in h s 0 m)) (sym (sub-zero n))

  pub letter_lines_next : (k : ℕ) → k < n → lines_of F (letters_in h s k (n - k)) ≡ F (letter_or_copy h s k)
      ++ lines_of F (letters_in h s (k + 1) (n - (k + 1)))
  unfolding lines_of
  letter_lines_next k l = ap (lines_of F) (letters_next h s n k l)

  pub letter_lines_none : (k : ℕ) → n ≤ k → lines_of F (letters_in h s k (n - k)) ≡ []
  unfolding lines_of
  letter_lines_none k l = ap (lines_of F) (letters_none h s n k l)

module _ (R : ℕ → List ℕ) (s : List ℕ) (o n : ℕ) where
  pub start_lines_start : start_lines R 0 (units_in 2 n (drop o s)) ≡ start_lines R 0 (units_in 2 (n - 0) (drop (o + 2 * 0) s))
  start_lines_start = ap₂ (λ (m j : ℕ). start_lines R 0 (units_in 2 m (drop j s))) (sym (sub-zero n)) (sym (add-zero o))

  pub start_lines_next : (i : ℕ) → i < n → start_lines R i (units_in 2 (n - i) (drop (o + 2 * i) s))
      ≡ line (start_word ∷ R i ∷ blank_word ∷ numeral (word_at s (o + 2 * i)) ∷ [])
      ++ start_lines R (i + 1) (units_in 2 (n - (i + 1)) (drop (o + 2 * (i + 1)) s))
  unfolding start_lines
  start_lines_next i l = ap (start_lines R i) (units_next 2 n i o s l)

  pub start_lines_none : (i : ℕ) → n ≤ i → start_lines R i (units_in 2 (n - i) (drop (o + 2 * i) s)) ≡ []
  unfolding start_lines
  start_lines_none i l = ap (start_lines R i) (units_none 2 n i o s l)

module _ (G : Row → List ℕ) (h : Header) (s : List ℕ) (o n : ℕ) where
  pub row_lines_start : lines_of G (map (row_from first_edition h) (units_in 5 n (drop o s))) ≡ lines_of G
      (map (row_from first_edition h) (units_in 5 (n - 0) (drop (o + 5 * 0) s)))
  row_lines_start = ap₂ (λ (m j : ℕ). lines_of G (map (row_from first_edition h) (units_in 5 m (drop j s)))) (sym (sub-zero n)) (sym (add-zero o))

  pub row_lines_next : (i : ℕ) → i < n → lines_of G (map (row_from first_edition h) (units_in 5 (n - i) (drop (o + 5 * i) s)))
      ≡ G (row_from first_edition h (row_in s (o + 5 * i))) ++ lines_of G (map (row_from first_edition h) (units_in 5 (n - (i + 1)) (drop (o + 5 * (i + 1)) s)))
  unfolding lines_of
  row_lines_next i l = ap (λ (ns : List ℕ). lines_of G (map (row_from first_edition h) ns)) (units_next 5 n i o s l)

  pub row_lines_none : (i : ℕ) → n ≤ i → lines_of G (map (row_from first_edition h) (units_in 5 (n - i) (drop (o + 5 * i) s))) ≡ []
  unfolding lines_of
  row_lines_none i l = ap (λ (ns : List ℕ). lines_of G (map (row_from first_edition h) ns)) (units_none 5 n i o s l)

-- ── the parts of a report ──
module _ (names : Names) (h : Header) (s : List ℕ) where
  pub execution_parts : (n : ℕ) → letter_lines names h (letters_in h s 0 n) ≡ line (letters_word ∷ numeral n ∷ []) ++ lines_of (letter_line names h)
      (letters_in h s 0 n)
  unfolding letter_lines
  execution_parts n = ap (λ (m : ℕ). line (letters_word ∷ numeral m ∷ []) ++ lines_of (letter_line names h) (letters_in h s 0 n)) (letters_length h s 0 n)

  module _ (o : ℕ) where
    words : units_in 2 (2 + h.registers) (drop o s) ≡ word_at s o ∷ word_at s (o + 2) ∷ units_in 2 h.registers (drop (o + 4) s)
    unfolding units_in
    words =
        ap (λ (m : ℕ). units_in 2 m (drop o s)) (two_more h.registers)
        ∙ (λ i. word_at s o ∷ join (8 ∷ 8 ∷ []) (take 2 (drop-drop 2 o s i)) ∷ units_in 2 h.registers
        ((ap (drop 2) (drop-drop 2 o s) ∙ drop-drop 2 (o + 2) s ∙ ap (λ (j : ℕ). drop j s) (four o)) i))
      where
        two_more : (n : ℕ) → 2 + n ≡ suc (suc n)
        two_more n = omega arith

        four : (o : ℕ) → o + 2 + 2 ≡ o + 4
        four o = omega arith

    behind : drop (2 * (2 + h.registers)) (drop o s) ≡ drop (o + 4 + 2 * h.registers) s
    behind = drop-drop (2 * (2 + h.registers)) o s ∙ ap (λ (j : ℕ). drop j s) (further o h.registers)
      where
        further : (o n : ℕ) → o + 2 * (2 + n) ≡ o + 4 + 2 * n
        further o n = omega arith

    abbrev pub values_part : List ℕ
    values_part = line (values_word ∷ numeral (word_at s o) ∷ [])

    abbrev pub starts_part : List ℕ
    starts_part = start_lines names.register 0 (units_in 2 h.registers (drop (o + 4) s))

    -- n rows
    abbrev pub rows_part : ℕ → List ℕ
    rows_part n = lines_of (row_line names.function h) (map (row_from first_edition h) (units_in 5 n (drop (o + 4 + 2 * h.registers) s)))

    pub model_parts : model_lines names h (read_tables first_edition h (drop o s)) ≡ values_part ++ (starts_part ++ rows_part (word_at s (o + 2)))
    unfolding model_lines read_tables
    model_parts = λ i. line (values_word ∷ numeral (get_or (words i) 0 0) ∷ [])
        ++ (start_lines names.register 0 (drop 2 (words i)) ++ lines_of (row_line names.function h)
        (map (row_from first_edition h) (units_in 5 (get_or (words i) 1 0) (behind i))))

    -- ── one part after the other ──
    abbrev rows_behind : List ℕ
    rows_behind = rows_part (word_at s (o + 2))

    abbrev whole_model : List ℕ
    whole_model = model_lines names h (read_tables first_edition h (drop o s))

    module _ {at : ℕ} (room : PlaceInRange at whole_model) where
      pub values_room : PlaceInRange at values_part
      values_room = room_first values_part (starts_part ++ rows_behind) (room_same model_parts room)

      module _ {entry middle : List ℕ} {k : ℕ} (values : Appended entry at values_part middle k) where
        behind_values : PlaceInRange k (starts_part ++ rows_behind)
        behind_values = room_then values_part (starts_part ++ rows_behind) (room_same model_parts room) values

        pub starts_room : PlaceInRange k starts_part
        starts_room = room_first starts_part rows_behind behind_values

        pub rows_room : {last : List ℕ} {next : ℕ} → Appended middle k starts_part last next → PlaceInRange next rows_behind
        rows_room starts = room_then starts_part rows_behind behind_values starts

    pub model_done : {entry middle last exit : List ℕ} {at k next end : ℕ} → Appended entry at values_part middle k → Appended middle k starts_part last next
        → Appended last next rows_behind exit end → Appended entry at whole_model exit end
    model_done values starts rows =
        appended_same (sym model_parts) (appended_then values_part (starts_part ++ rows_behind) values (appended_then starts_part rows_behind starts rows))
