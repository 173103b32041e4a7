-- What follows from the definitions of specs/Bound.antt.
use mathlib.Core.Path.{◌≡◌, refl, ap}
use Prim.Native.Nat.{ℕ, zero, suc, ◌+◌, ◌*◌, ◌/◌, ◌%◌, ◌^◌, ◌≤◌, ◌<◌}
use native.Mathlib.Omega.{arith}
use native.Mathlib.Nat.{mul-suc, mul-zero}
use mathlib.Core.List.{List, [], ◌∷◌, ◌++◌, map}
use lib.ListN.{length, get_or, drop, length-append}
use lib.Seq.{get_or-drop}
use Rattle.letters.specs.Editions.{first_edition}
use Rattle.base.proofs.Theory.Choice.{by_test}
use Rattle.base.specs.Masks.{has}
use Rattle.letters.specs.declared.Header.{Header}
use Rattle.letters.specs.declared.Letter.{Letter}
use Rattle.letters.specs.declared.Letter.TheVariants.{Copy, Apply, Equal, Unequal}
use Rattle.semantics.specs.TablesRead.{units_in, row_from, read_tables}
use Rattle.semantics.specs.PackedTables.{second_written}
use Rattle.text.specs.Numerals.{numeral}
use Rattle.text.proofs.Theory.Numerals.{numeral_length, long_number}
use Rattle.text.proofs.Theory.Names.{name_length}
use Rattle.text.specs.Appending.{PlaceInRange}
use Rattle.std.specs.Prelude.{Ok, Err}
use Rattle.letters.specs.Reasons.{number_of}
use Rattle.letters.specs.declared.reasons.Reason.{Reason}
use Rattle.letters.specs.declared.reasons.Reason.TheVariants.{TraceTooShort, TraceOddLength, HeaderMalformed, LetterMalformed, TraceTooLong, OutputTooSmall}
use Rattle.letters.specs.declared.reasons.Reason.TheVariants.{TextTooLong, TokenMalformed, GrammarViolated, DeclarationWrong, UseWrong, NestingTooDeep}
use Rattle.letters.specs.declared.reasons.Reason.TheVariants.{PointsTooMany, TableTooSmall, PrintTooLong, NoRoomForTests}
use Rattle.letters.specs.declared.reasons.Refused.{Refused}
use Rattle.report.specs.Shown.{Reported}
use Rattle.report.specs.declared.ReportedVerdict.TheVariants.{Pass, Incoherent, Fail}
use Rattle.report.specs.Lines.{Names, values_word, pass_word, incoherent_word, fail_word, line, lines_of, letter_line, start_lines, row_line}
use Rattle.report.specs.Lines.{verdict_lines, letter_lines, model_lines, refused_line, report}
use Rattle.report.specs.Shown.{names_of, letters_in, model_start, printed_of, report_of}
use Rattle.report.proofs.Theory.ShownLaws.{units_count, second_read, letters_length, word_bytes, execution_parts, model_parts}
use Rattle.report.specs.Shown.{word_at}
use Rattle.report.specs.Bound.{Limited, letter_number, row_number}

-- ── a refusal by a reason ──
pub number_small : (r : Reason) → number_of r < 256
number_small TraceTooShort = omega arith
number_small TraceOddLength = omega arith
number_small HeaderMalformed = omega arith
number_small LetterMalformed = omega arith
number_small TraceTooLong = omega arith
number_small OutputTooSmall = omega arith
number_small TextTooLong = omega arith
number_small TokenMalformed = omega arith
number_small GrammarViolated = omega arith
number_small DeclarationWrong = omega arith
number_small UseWrong = omega arith
number_small NestingTooDeep = omega arith
number_small PointsTooMany = omega arith
number_small TableTooSmall = omega arith
number_small PrintTooLong = omega arith
number_small NoRoomForTests = omega arith

-- What the type of its place says is all that the laws below ask of it.
pub reason_limited : (r : Refused) → r.place < 2 ^ 64 → Limited (Err record { number = number_of r.reason; place = r.place })
reason_limited r l = (number_small r.reason, l)

abbrev pub bound : Header → Reported → List ℕ → ℕ
bound h v s = 67 + 40 * letter_number v + 21 * h.registers + 28 * row_number v s

-- ── numbers ──
word_number : (n : ℕ) → n < 65536 → length (numeral n) ≤ 5
word_number n h = numeral_length 4 n (omega arith)

value_number : (n : ℕ) → n < 2048 → length (numeral n) ≤ 4
value_number n h = numeral_length 3 n (omega arith)

byte_number : (n : ℕ) → n < 256 → length (numeral n) ≤ 3
byte_number n h = numeral_length 2 n (omega arith)

lines_length : {A : Type 0} (f : A → List ℕ) (k : ℕ) → ((x : A) → length (f x) ≤ k) → (l : List A) → length (lines_of f l) ≤ k * length l
unfolding lines_of
lines_length f k b [] = omega (arith, mul-zero k)
lines_length f k b (x ∷ l) = omega (arith, b x, lines_length f k b l, length-append (f x) (lines_of f l), mul-suc k (length l))

lines_map : {A B : Type 0} (f : B → List ℕ) (g : A → B) (l : List A) → lines_of f (map g l) ≡ lines_of (λ x. f (g x)) l
unfolding lines_of
lines_map f g [] = refl
lines_map f g (x ∷ l) = ap (λ (r : List ℕ). f (g x) ++ r) (lines_map f g l)

word_small : (s : List ℕ) → ((i : ℕ) → get_or s i 0 < 256) → (at : ℕ) → word_at s at < 65536
word_small s b at = rw (word_bytes s at) (omega (arith, b at, b (at + 1)))

module _ (names : Names) (reg : (r : ℕ) → length (names.register r) ≤ 8) (fun : (f : ℕ) → length (names.function f) ≤ 8) (h : Header) where
  letter_length : (l : Letter) → length (letter_line names h l) ≤ 40
  unfolding letter_line line
  letter_length (Copy x y) = simp length-append (omega (arith, reg x, reg y))
  letter_length (Apply x f y z) = by_test (has h.binary f)
      (λ e. rw e (simp length-append (omega (arith, reg x, fun f, reg y, reg z))))
      λ e. rw e (simp length-append (omega (arith, reg x, fun f, reg y)))
  letter_length (Equal x y) = simp length-append (omega (arith, reg x, reg y))
  letter_length (Unequal x y) = simp length-append (omega (arith, reg x, reg y))

  second_small : (f b : ℕ) → b < 2048 → second_written h f b < 2048
  unfolding second_written
  second_small f b l = by_test (has h.binary f) (λ e. rw e l) (λ e. rw e (omega arith))

  module _ (n : ℕ) where
    first_small : (row_from first_edition h n).first < 2048
    unfolding row_from
    first_small = omega arith

    second-written : second_written h (row_from first_edition h n).function (row_from first_edition h n).second < 2048
    unfolding row_from
    second-written = rw (second_read h (n / 274877906944 % 4) (n / 134217728 % 2048) (n / 65536 % 2048))
        (second_small (n / 274877906944 % 4) (n / 65536 % 2048) (omega arith))

    result_small : (row_from first_edition h n).result < 2048
    unfolding row_from
    result_small = omega arith

    row_length : length (row_line names.function h (row_from first_edition h n)) ≤ 28
    unfolding row_line line
    row_length =
        let r = row_from first_edition h n in
        simp length-append (omega (
          arith,
          fun r.function,
          value_number r.first first_small,
          value_number (second_written h r.function r.second) second-written,
          value_number
              r.result result_small,
        ))

  values_length : (n : ℕ) → n < 65536 → length (line (values_word ∷ numeral n ∷ [])) ≤ 13
  unfolding line
  values_length n l = simp length-append (omega (arith, word_number n l))

  starts_length : (s : List ℕ) → ((i : ℕ) → get_or s i 0 < 256) → (r m : ℕ) → length (start_lines names.register r (units_in 2 m s)) ≤ 21 * m
  unfolding start_lines units_in line
  starts_length s b r zero = omega arith
  starts_length s b r (suc m) =
      simp length-append (omega (
        arith,
        reg r,
        word_number (word_at s 0) (word_small s b 0),
        starts_length (drop 2 s) (λ i. rw (get_or-drop 2 s i 0) (b (2 + i)))
            (r + 1) m,
      ))

  module _ (s : List ℕ) (b : (i : ℕ) → get_or s i 0 < 256) where
    verdict_length : (word : List ℕ) (pairs : ℕ) → pairs < 2 ^ 64 → length (verdict_lines word pairs) ≤ 36 + length word
    unfolding verdict_lines line
    verdict_length word pairs l = simp length-append (omega (arith, long_number pairs l))

    execution_length : (n : ℕ) → n < 65536 → length (letter_lines names h (letters_in h s 0 n)) ≤ 14 + 40 * n
    unfolding line
    execution_length n l =
        rw (execution_parts names h s n)
        (simp length-append (omega (
          arith,
          word_number n l,
          lines_length (letter_line names h) 40 letter_length
              (letters_in h s 0 n),
          letters_length h s 0 n,
        )))

    model_length : (o : ℕ) → length (model_lines names h (read_tables first_edition h (drop o s))) ≤ 13 + 21 * h.registers + 28 * word_at s (o + 2)
    model_length o =
        let ns : List ℕ = units_in 5 (word_at s (o + 2)) (drop (o + 4 + 2 * h.registers) s) in
        rw (model_parts names h s o, lines_map (row_line names.function h) (row_from first_edition h) ns)
        (simp length-append (omega (
          arith,
          values_length (word_at s o) (word_small s b o),
          starts_length (drop (o + 4) s) (λ i. rw (get_or-drop (o + 4) s i 0) (b (o + 4 + i))) 0 h.registers,
          lines_length (λ n. row_line names.function h (row_from first_edition h n)) 28 row_length ns,
          units_count 5 (word_at s (o + 2)) (drop (o + 4 + 2 * h.registers) s),
        )))

    refusal_length : (number place : ℕ) → number < 256 → place < 2 ^ 64 → length (refused_line number place) ≤ 36
    unfolding line
    refusal_length number place a c = simp length-append (omega (arith, byte_number number a, long_number place c))

    shown_length : (v : Reported) → Limited v → length (report names h (printed_of h v s)) ≤ bound h v s
    unfolding report printed_of
    shown_length (Ok (Pass pairs)) l = omega (arith, verdict_length pass_word pairs l)
    shown_length (Ok (Incoherent pairs n)) l = simp length-append (omega (arith, verdict_length incoherent_word pairs l.0, execution_length n l.1))
    shown_length (Ok (Fail pairs n)) l =
        simp length-append (omega (arith, verdict_length fail_word pairs l.0, execution_length n l.1, model_length (model_start n)))
    shown_length (Err r) l = omega (arith, refusal_length r.number r.place l.0 l.1)

-- ── the line of a refusal by itself ──

-- "refused ", " at ", an LF and two numerals of 64 bits
abbrev pub most_refused_line_bytes : ℕ
most_refused_line_bytes = 53

pub refused_few : {most : ℕ} → most_refused_line_bytes ≤ most → (number place : ℕ) → number < 2 ^ 64 → place < 2 ^ 64
    → length (refused_line number place) ≤ most
unfolding line
refused_few w number place h l = simp length-append (omega (arith, w, long_number number h, long_number place l))

-- ── the bound ──
module _ (registers functions : List ℕ) (reg : (r : ℕ) → get_or registers r 0 < 2 ^ 64) (fun : (f : ℕ) → get_or functions f 0 < 2 ^ 64)
    (h : Header) (s : List ℕ)
    (b : (i : ℕ) → get_or s i 0 < 256) where
  pub report_length : (v : Reported) → Limited v → length (report_of registers functions h v s) ≤ bound h v s
  unfolding report_of
  report_length v l = shown_length (names_of registers functions) (λ r. name_length 8 (get_or registers r 0) (reg r))
      (λ f. name_length 8 (get_or functions f 0) (fun f)) h s b v l

  -- The number of bytes is one that the machine has.
  pub report_room : (v : Reported) → Limited v → h.registers < 256 → PlaceInRange 0 (report_of registers functions h v s)
  report_room v l g = record { fits = omega (arith, report_length v l, letters_few v l, rows_few v) }
    where
      letters_few : (v : Reported) → Limited v → letter_number v < 65536
      letters_few (Ok (Pass pairs)) l = omega arith
      letters_few (Ok (Incoherent pairs n)) l = l.1
      letters_few (Ok (Fail pairs n)) l = l.1
      letters_few (Err r) l = omega arith

      rows_few : (v : Reported) → row_number v s < 65536
      rows_few (Ok (Pass pairs)) = omega arith
      rows_few (Ok (Incoherent pairs n)) = omega arith
      rows_few (Ok (Fail pairs n)) = word_small s b (model_start n + 2)
      rows_few (Err r) = omega arith

  -- With at most 341 letters, 349 rows and 8 registers, as the verdict program has them, 32,768 bytes suffice.
  pub report_fits : (v : Reported) → Limited v → letter_number v ≤ 341 → row_number v s ≤ 349 → h.registers ≤ 8
      → length (report_of registers functions h v s) ≤ 32768
  report_fits v l n m r = omega (arith, report_length v l)
