-- On packed bytes, with anything behind them, what is read is what was packed: the report is that of the letters and of the tables.
use mathlib.Core.Path.{◌≡◌, refl, sym, ap, ap₂, ◌∙◌}
use Prim.Native.Nat.{ℕ, zero, suc, ◌+◌, ◌-◌, ◌*◌, ◌≤◌, ◌<◌}
use native.Mathlib.Omega.{arith}
use native.Mathlib.Nat.{add-zero, mul-suc}
use mathlib.Core.List.{List, [], ◌∷◌, ◌++◌, map}
use lib.ListN.{length, get_or, take, drop, replicate, length-append, length-map, length-drop}
use lib.Seq.{drop_at, drop-drop}
use borrow.Author.Tests.{le-leb}
use Rattle.letters.specs.declared.Header.{Header}
use Rattle.letters.specs.declared.Letter.{Letter}
use Rattle.letters.specs.declared.Letter.TheVariants.{Copy}
use Rattle.letters.specs.Packing.{join}
use Rattle.letters.specs.Editions.{first_edition}
use Rattle.letters.specs.Answers.{Answer, on_answer}
use Rattle.letters.specs.Letters.{HeaderFits}
use Rattle.letters.specs.Words.{header_word, letter_word}
use Rattle.letters.proofs.Theory.WordLaws.{first_roomy}
use Rattle.traces.specs.Traces.{AllFit, packing}
use Rattle.traces.specs.ReadingParts.{letter_at}
use Rattle.traces.proofs.Theory.TraceLaws.{bytes_length, reading_packing, letter-at}
use Rattle.semantics.specs.Tables.{Tables}
use Rattle.semantics.specs.TablesRead.{units_in, row_from, read_tables, Packable}
use Rattle.semantics.specs.PackedTables.{pack_tables}
use Rattle.semantics.proofs.Theory.PackedTablesLaws.{packed_length, read_packed}
use Rattle.std.specs.Prelude.{Ok}
use Rattle.report.specs.declared.ReportedVerdict.TheVariants.{Incoherent, Fail}
use Rattle.report.specs.Lines.{Printed, report}
use Rattle.report.proofs.Theory.ShownLaws.{units_count}
use Rattle.report.specs.Shown.{word_at}
use Rattle.report.specs.Shown.{names_of, letter_or_copy, letters_in, model_start, printed_of, report_of}

-- ── the front of a longer list ──
take_front : (k : ℕ) (s rest : List ℕ) → k ≤ length s → take k (s ++ rest) ≡ take k s
take_front zero [] [] h = refl
take_front zero [] (x ∷ rest) h = refl
take_front zero (x ∷ s) rest h = refl
take_front (suc k) [] rest h = absurd (omega arith)
take_front (suc k) (x ∷ s) rest h = ap (λ l. x ∷ l) (take_front k s rest (omega arith))

drop_front : (k : ℕ) (s rest : List ℕ) → k ≤ length s → drop k (s ++ rest) ≡ drop k s ++ rest
drop_front zero s rest h = refl
drop_front (suc k) [] rest h = absurd (omega arith)
drop_front (suc k) (x ∷ s) rest h = drop_front k s rest (omega arith)

take_within : (k m : ℕ) (s rest : List ℕ) → m + k ≤ length s → take k (drop m (s ++ rest)) ≡ take k (drop m s)
take_within k m s rest h = ap (take k) (drop_front m s rest (omega arith)) ∙ take_front k (drop m s) rest (omega (arith, length-drop m s))

units_front : (k m : ℕ) (s rest : List ℕ) → k * m ≤ length s → units_in k m (s ++ rest) ≡ units_in k m s
unfolding units_in
units_front k zero s rest h = refl
units_front k (suc m) s rest h =
    ap₂ (λ (x : ℕ) (l : List ℕ). x ∷ l) (ap (join (replicate k 8)) (take_front k s rest (first k m (length s) h)))
    (ap (units_in k m) (drop_front k s rest (first k m (length s) h)) ∙ units_front k m (drop k s) rest (rw (length-drop k s) (others k m (length s) h)))
  where
    first : (k m n : ℕ) → k * suc m ≤ n → k ≤ n
    first k m n h = omega (arith, mul-suc k m)

    others : (k m n : ℕ) → k * suc m ≤ n → k * m ≤ n - k
    others k m n h = omega (arith, mul-suc k m)

-- ── letters ──
letters_are : (h : Header) (s : List ℕ) (ls : List Letter) (k : ℕ) → ((i : ℕ) → i < length ls → letter_or_copy h s (k + i) ≡ get_or ls i (Copy 0 0))
    → letters_in h s k (length ls) ≡ ls
unfolding letters_in
letters_are h s [] k e = refl
letters_are h s (l ∷ ls) k e =
    ap₂ (λ (x : Letter) (r : List Letter). x ∷ r) (ap (letter_or_copy h s) (sym (add-zero k)) ∙ e 0 (omega arith))
    (letters_are h s ls (k + 1) (λ i g. ap (letter_or_copy h s) (shift k i) ∙ e (suc i) (omega arith)))
  where
    shift : (k i : ℕ) → k + 1 + i ≡ k + suc i
    shift k i = omega arith

module _ (h : Header) (ls : List Letter) (v : HeaderFits first_edition h) (f : AllFit h ls) (rest : List ℕ) where
  packed_size : length (packing first_edition h ls) ≡ model_start (length ls)
  unfolding packing
  packed_size = bytes_length first_edition first_roomy (header_word first_edition h ∷ map (letter_word first_edition h) ls)
      ∙ double (length (map (letter_word first_edition h) ls)) (length ls) (length-map ls (letter_word first_edition h))
    where
      double : (m n : ℕ) → m ≡ n → 2 * suc m ≡ 2 * n + 2
      double m n e = omega arith

  letter_front : (s : List ℕ) (k : ℕ) → 2 * (k + 2) ≤ length s → letter_at first_edition h (s ++ rest) k ≡ letter_at first_edition h s k
  unfolding letter_at
  letter_front s k l = rw (
    le-leb (2 * (k + 2)) (length s) l,
    le-leb (2 * (k + 2)) (length (s ++ rest)) (omega (arith, length-append s rest)),
    take_within 2
        (2 * (k + 1)) s rest (omega arith),
  )

  letter_is : (i : ℕ) → i < length ls → letter_or_copy h (packing first_edition h ls ++ rest) (0 + i) ≡ get_or ls i (Copy 0 0)
  unfolding letter_or_copy
  letter_is i l =
      ap (λ (a : Answer Letter). on_answer a (λ x. x) (λ _ _. Copy 0 0))
      (ap (letter_at first_edition h (packing first_edition h ls ++ rest)) (from_zero i)
      ∙ letter_front (packing first_edition h ls) i (omega (arith, packed_size))
      ∙ letter-at first_edition first_roomy (packing first_edition h ls) h ls i (Copy 0 0) (reading_packing first_edition first_roomy h ls v f) l)
    where
      from_zero : (i : ℕ) → 0 + i ≡ i
      from_zero i = omega arith

  -- The letters come back.
  pub packed_letters : letters_in h (packing first_edition h ls ++ rest) 0 (length ls) ≡ ls
  packed_letters = letters_are h (packing first_edition h ls ++ rest) ls 0 letter_is

  -- The report of an incoherent execution.
  pub incoherent_report : (registers functions : List ℕ) (pairs : ℕ)
      → report_of registers functions h (Ok (Incoherent pairs (length ls))) (packing first_edition h ls ++ rest) ≡ report (names_of registers functions) h
      (Printed.incoherent pairs ls)
  unfolding report_of printed_of
  incoherent_report registers functions pairs = ap (λ (l : List Letter). report (names_of registers functions) h (Printed.incoherent pairs l)) packed_letters

-- ── tables ──
module _ (h : Header) (t : Tables) (p : Packable first_edition h t) (rest : List ℕ) where
  size : length (pack_tables first_edition h t) ≡ 2 * (2 + h.registers) + 5 * length t.rows
  size = packed_length first_edition h t ∙ ap (λ (n : ℕ). 2 * (2 + n) + 5 * length t.rows) p.registers

  rows_count : get_or (units_in 2 (2 + h.registers) (pack_tables first_edition h t)) 1 0 ≡ length t.rows
  unfolding read_tables
  rows_count =
      let m : ℕ = get_or (units_in 2 (2 + h.registers) (pack_tables first_edition h t)) 1 0 in
      let behind : List ℕ = drop (2 * (2 + h.registers)) (pack_tables first_edition h t) in
      sym (units_count 5 m behind) ∙ sym (length-map (units_in 5 m behind) (row_from first_edition h))
      ∙ ap (λ (x : Tables). length x.rows) (read_packed first_edition h t p)

  -- The tables come back.
  pub packed_tables : read_tables first_edition h (pack_tables first_edition h t ++ rest) ≡ t
  unfolding read_tables
  packed_tables =
      (λ i. record {
        count = get_or (words i) 0 0;
        starts = drop 2 (words i);
        rows = map (row_from first_edition h) (units_in 5 (get_or (words i) 1 0) (behind i));
      })
      ∙ (λ i. record {
        count = get_or own 0 0;
        starts = drop 2 own;
        rows = map (row_from first_edition h) (rows i);
      })
      ∙ read_packed first_edition h t p
    where
      own : List ℕ
      own = units_in 2 (2 + h.registers) (pack_tables first_edition h t)

      words : units_in 2 (2 + h.registers) (pack_tables first_edition h t ++ rest) ≡ units_in 2 (2 + h.registers) (pack_tables first_edition h t)
      words = units_front 2 (2 + h.registers) (pack_tables first_edition h t) rest (omega (arith, size))

      behind : drop (2 * (2 + h.registers)) (pack_tables first_edition h t ++ rest) ≡ drop (2 * (2 + h.registers)) (pack_tables first_edition h t) ++ rest
      behind = drop_front (2 * (2 + h.registers)) (pack_tables first_edition h t) rest (omega (arith, size))

      rows : units_in 5 (get_or (units_in 2 (2 + h.registers) (pack_tables first_edition h t)) 1 0)
          (drop (2 * (2 + h.registers)) (pack_tables first_edition h t) ++ rest)
          ≡ units_in 5 (get_or (units_in 2 (2 + h.registers) (pack_tables first_edition h t)) 1 0)
          (drop (2 * (2 + h.registers)) (pack_tables first_edition h t))
      rows = units_front 5 (get_or (units_in 2 (2 + h.registers) (pack_tables first_edition h t)) 1 0)
          (drop (2 * (2 + h.registers)) (pack_tables first_edition h t)) rest
          (omega (arith, size, rows_count, length-drop (2 * (2 + h.registers)) (pack_tables first_edition h t)))

rows_read : (h : Header) (s : List ℕ) → length (read_tables first_edition h s).rows ≡ join (8 ∷ 8 ∷ []) (take 2 (drop 2 s))
unfolding read_tables units_in
rows_read h s =
    let m : ℕ = get_or (units_in 2 (2 + h.registers) s) 1 0 in
    let behind : List ℕ = drop (2 * (2 + h.registers)) s in
    length-map (units_in 5 m behind) (row_from first_edition h) ∙ units_count 5 m behind ∙ ap (λ (n : ℕ). get_or (units_in 2 n s) 1 0) (two_more h.registers)
  where
    two_more : (n : ℕ) → 2 + n ≡ suc (suc n)
    two_more n = omega arith

-- ── a trace and tables behind it ──
module _ (h : Header) (ls : List Letter) (t : Tables) (rest : List ℕ) (v : HeaderFits first_edition h) (f : AllFit h ls) (p : Packable first_edition h t) where
  tables_behind : read_tables first_edition h (drop (model_start (length ls)) (packing first_edition h ls ++ (pack_tables first_edition h t ++ rest))) ≡ t
  tables_behind =
      ap (read_tables first_edition h) (drop_at (packing first_edition h ls) (pack_tables first_edition h t ++ rest) (model_start (length ls))
      (packed_size h ls v f rest)) ∙ packed_tables h t p rest

  -- The count of rows comes back.
  pub packed_rows : word_at (packing first_edition h ls ++ (pack_tables first_edition h t ++ rest)) (model_start (length ls) + 2) ≡ length t.rows
  packed_rows =
      let s : List ℕ = packing first_edition h ls ++ (pack_tables first_edition h t ++ rest) in
      ap (λ (l : List ℕ). join (8 ∷ 8 ∷ []) (take 2 l)) (sym (drop-drop 2 (model_start (length ls)) s)) ∙ sym (rows_read h (drop (model_start (length ls)) s))
      ∙ ap (λ (x : Tables). length x.rows) tables_behind

  -- The report of a failing execution with its model.
  pub fail_report : (registers functions : List ℕ) (pairs : ℕ)
      → report_of registers functions h (Ok (Fail pairs (length ls))) (packing first_edition h ls ++ (pack_tables first_edition h t ++ rest)) ≡ report
      (names_of registers functions) h (Printed.fail pairs ls t)
  unfolding report_of printed_of
  fail_report registers functions pairs =
      ap₂ (λ (l : List Letter) (x : Tables). report (names_of registers functions) h (Printed.fail pairs l x))
      (packed_letters h ls v f (pack_tables first_edition h t ++ rest)) tables_behind
