-- The writer's loops and its answer.
use mathlib.Core.Path.{◌≡◌, refl, sym, ap, ◌∙◌, subst}
use Prim.Native.Nat.{ℕ, ◌+◌, ◌*◌, ◌/◌, ◌%◌, ◌≤◌, ◌<◌}
use native.Mathlib.Omega.{arith}
use native.Mathlib.Nat.{zero-add}
use native.Mathlib.Numerals.{add-one, add-two}
use mathlib.Core.Bool.{true}
use mathlib.Core.List.{List, [], ◌∷◌, ◌++◌, map}
use lib.ListN.{length, get_or, drop, set, length-map, length-set, drop_of_length-le}
use lib.Seq.{drop-cons, sets, sets-eq}
use borrow.Author.Tests.{le-leb, lt-leb, eqb-true, eqb-false}
use lib.Dec.{eqb}
use Rattle.std.specs.Simd.{first_chunks}
use Rattle.traces.proofs.Counting.{whole_count, parts_count, last_part}
use Rattle.base.proofs.Theory.Choice.{by_test}
use Rattle.letters.specs.declared.Header.{Header}
use Rattle.letters.specs.declared.Letter.{Letter}
use Rattle.letters.specs.Packing.{split}
use Rattle.letters.specs.Editions.{first_edition}
use Rattle.letters.specs.Answers.{Answer, value, refusal, on_answer}
use Rattle.letters.specs.Letters.{HeaderFits}
use Rattle.letters.specs.Words.{header_word, letter_word}
use Rattle.letters.specs.Coding.{header_test}
use Rattle.letters.specs.Encoding.{encode_header, encode_letter}
use Rattle.letters.proofs.Theory.WordLaws.{chosen, header-test, fits-test, first_roomy}
use Rattle.traces.specs.Reading.{TraceReading, trace, chunks, letters_from}
use Rattle.traces.specs.ReadingParts.{counted}
use Rattle.traces.specs.Traces.{units, bytes_of, packing}
use Rattle.traces.proofs.Theory.Units.{unit_bytes, header_word_below, letter_word_below}
use Rattle.traces.proofs.Theory.TraceLaws.{Decoded, letters_decoded, decoded_length, parts_length, bytes_length}
use Rattle.traces.specs.Writing.{unpack_letter, unpacked_parts, unpacking, written_length, written_over, WroteTrace}
use Rattle.traces.proofs.Theory.WritingLaws.{unpack-letter}
use Rattle.letters.specs.Putting.{put_word}
use Rattle.traces.specs.Putting.{word_in, put_each, put_words}

-- ---- one letter

-- the word of a letter that is well formed
word-in : (h : Header) (x : List ℕ) (l : Letter) → HeaderFits first_edition h → unpack_letter h x ≡ value l
    → word_in first_edition h x ≡ value (letter_word first_edition h l)
unfolding word_in encode_letter
word-in h x l v q = rw (q, (header-test first_edition h).1 v, (fits-test h l).1 ((unpack-letter h x l).0 q).1)

-- ---- the loop over these codes, of which i are done

module _ {A B : Type 0} (put : List ℕ → ℕ → B → List ℕ) (n : ℕ) (decode : A → Answer B) (codes : List A) where
  turn : (i to : ℕ) (d : A) (out : List ℕ) → i < length codes
      → put_each put n decode out to (drop i codes)
      ≡ on_answer (decode (get_or codes i d)) (λ x. put_each put n decode (put out to x) (to + n) (drop (i + 1) codes)) λ _ _. out
  unfolding put_each
  turn i to d out l = rw (drop-cons codes i d l, add-one i)

  pub put_same : (others : List A) (out : List ℕ) (to : ℕ) → codes ≡ others → put_each put n decode out to codes ≡ put_each put n decode out to others
  put_same others out to e = ap (λ c. put_each put n decode out to c) e

  pub put_good : (i to next : ℕ) (d : A) (x : B) (out after r : List ℕ) → put_each put n decode out to (drop i codes) ≡ r → i < length codes
      → value x ≡ decode (get_or codes i d) → after ≡ put out to x → next ≡ to + n → put_each put n decode after next (drop (i + 1) codes) ≡ r
  put_good i to next d x out after r e l q p m = rw (p, m) (sym (turn i to d out l ∙ rw (← q)) ∙ e)

  pub put_bad : (i to a p : ℕ) (d : A) (out r : List ℕ) → put_each put n decode out to (drop i codes) ≡ r → i < length codes
      → refusal a p ≡ decode (get_or codes i d) → out ≡ r
  put_bad i to a p d out r e l q = sym (turn i to d out l ∙ rw (← q)) ∙ e

  pub put_ends : (i to : ℕ) (out r : List ℕ) → put_each put n decode out to (drop i codes) ≡ r → length codes ≤ i → out ≡ r
  unfolding put_each
  put_ends i to out r e l = sym (ap (λ c. put_each put n decode out to c) (drop_of_length-le codes l)) ∙ e

-- when every whole part has been put, what is left of the bytes is no letter
pub put_rest : (s : List ℕ) (pieces : List (List ℕ)) → pieces ≡ first_chunks 5 (length s / 5) s → (h : Header) (i to : ℕ) (out r : List ℕ) → i ≡ length pieces
    → put_words (word_in first_edition h) out to (drop i (unpacked_parts s)) ≡ r → out ≡ r
unfolding word_in
put_rest s pieces front h i to out r here e =
    let whole = whole_count s pieces front in
    let parts = parts_count s in
    by_test (eqb (length s % 5) 0)
    (λ t. let none = eqb-true (length s % 5) 0 t in
    put_ends put_word 2 (word_in first_edition h) (unpacked_parts s) i to out r e (omega arith))
    (λ t. let some = eqb-false (length s % 5) 0 t in
    put_bad put_word 2 (word_in first_edition h) (unpacked_parts s) i to 4 0 [] out r e (omega (arith, some))
    (rw (here, last_part s pieces front h [] some)))

-- ---- what all the turns leave

-- the stores of a word below 65536 are its bytes
stores : (out : List ℕ) (to w : ℕ) (rest : List ℕ) → w < 65536 → sets (put_word out to w) (to + 2) rest ≡ sets out to (split (8 ∷ 8 ∷ []) w ++ rest)
stores out to w rest l =
    let e : sets (put_word out to w) (to + 2) rest ≡ sets out to (w / 256 ∷ w % 256 ∷ rest) = rw (add-two to, add-one to) in
    e ∙ ap (λ s. sets out to (s ++ rest)) (sym (unit_bytes w l))

put_decoded : (h : Header) (out : List ℕ) (to : ℕ) (codes : List (List ℕ)) (ls : List Letter) → HeaderFits first_edition h → Decoded (unpack_letter h) codes ls
    → put_words (word_in first_edition h) out to codes ≡ sets out to (bytes_of first_edition (map (letter_word first_edition h) ls))
unfolding put_each units
put_decoded h out to [] [] v d = refl
put_decoded h out to [] (l ∷ ls) v d = absurd d
put_decoded h out to (x ∷ codes) [] v d = absurd d
put_decoded h out to (x ∷ codes) (l ∷ ls) v d =
    let w = letter_word first_edition h l in
    rw (word-in h x l v d.0) (put_decoded h (put_word out to w) (to + 2) codes ls v d.1
    ∙ stores out to w (bytes_of first_edition (map (letter_word first_edition h) ls)) (letter_word_below h v l ((unpack-letter h x l).0 d.0).1))

pub counted_trace : (r : TraceReading) (g : Header) (n : ℕ) → counted r ≡ value (g, n) → (ls : List Letter) × (r ≡ trace g ls) × (length ls ≡ n)
counted_trace (trace h ls) g n q =
    let p : ◌≡◌ {A = Header × ℕ} (h, length ls) (g, n) = cc in
    (ls, ap (λ x. trace x ls) (ap (λ (x : Header × ℕ). x.0) p), ap (λ (x : Header × ℕ). x.1) p)
counted_trace (TraceReading.refused a b) g n q = let z : ◌≡◌ {A = ℕ} 0 1 = cc in absurd (omega arith)

pub counted_refused : (r : TraceReading) (a b : ℕ) → counted r ≡ refusal a b → r ≡ TraceReading.refused a b
counted_refused (trace h ls) a b q = let z : ◌≡◌ {A = ℕ} 0 1 = cc in absurd (omega arith)
counted_refused (TraceReading.refused c d) a b q = let e : c ≡ a = cc in let f : d ≡ b = cc in rw (e, f)

pub put_length : (out : List ℕ) (to w : ℕ) → length (put_word out to w) ≡ length out
put_length out to w = length-set (set out to (w / 256)) (to + 1) (w % 256) ∙ length-set out to (w / 256)

-- ---- the writer's answer

header_refused : (h : Header) (s : List ℕ) → encode_header first_edition h ≡ refusal 3 0 → unpacking first_edition h s ≡ TraceReading.refused 3 0
unfolding encode_header unpacking
header_refused h s = by_test (header_test first_edition h) (λ t. rw t λ q. let z : ◌≡◌ {A = ℕ} 0 1 = cc in absurd (omega arith)) λ t. rw t λ q. refl

pub wrote_header : (h : Header) (s out : List ℕ) → encode_header first_edition h ≡ refusal 3 0
    → WroteTrace first_edition (unpacking first_edition h s) out out (refusal 3 0)
unfolding written_length written_over
wrote_header h s out q = rw (header_refused h s q) (record { answered = refl; bytes = refl })

-- the number of letters that were counted
pub counted_size : (h g : Header) (s : List ℕ) (n : ℕ) → counted (letters_from (unpack_letter h) h 1 (unpacked_parts s)) ≡ value (g, n) → n ≡ (length s + 4) / 5
unfolding unpacked_parts
counted_size h g s n q =
    let k = (length s + 4) / 5 in
    let t = counted_trace _ g n q in
    let d = letters_decoded (unpack_letter h) h 1 (chunks 5 k s) g t.0 t.1 in
    sym t.2 ∙ sym (decoded_length (unpack_letter h) h (chunks 5 k s) t.0 d.1) ∙ parts_length 5 k s

module _ (h : Header) (s out : List ℕ) (w : ℕ) (q : encode_header first_edition h ≡ value w) where
  good : (header_test first_edition h ≡ true) × (header_word first_edition h ≡ w)
  unfolding encode_header
  good = chosen (header_test first_edition h) (header_word first_edition h) w 3 0 q

  unpacked : unpacking first_edition h s ≡ letters_from (unpack_letter h) h 1 (unpacked_parts s)
  unfolding unpacking
  unpacked = rw good.0

  pub wrote_refused : (a b : ℕ) → counted (letters_from (unpack_letter h) h 1 (unpacked_parts s)) ≡ refusal a b
      → WroteTrace first_edition (unpacking first_edition h s) out out (refusal a b)
  unfolding written_length written_over
  wrote_refused a b p = rw (unpacked, counted_refused (letters_from (unpack_letter h) h 1 (unpacked_parts s)) a b p) (record { answered = refl; bytes = refl })

  module _ (g : Header) (n : ℕ) (p : counted (letters_from (unpack_letter h) h 1 (unpacked_parts s)) ≡ value (g, n)) where
    letters : List Letter
    letters = (counted_trace (letters_from (unpack_letter h) h 1 (unpacked_parts s)) g n p).0

    the_letters : (letters_from (unpack_letter h) h 1 (unpacked_parts s) ≡ trace g letters) × (length letters ≡ n)
    unfolding letters
    the_letters = let t = counted_trace (letters_from (unpack_letter h) h 1 (unpacked_parts s)) g n p in (t.1, t.2)

    decoded : (g ≡ h) × Decoded (unpack_letter h) (unpacked_parts s) letters
    decoded = letters_decoded (unpack_letter h) h 1 (unpacked_parts s) g letters the_letters.0

    is_trace : unpacking first_edition h s ≡ trace h letters
    is_trace = unpacked ∙ the_letters.0 ∙ ap (λ x. trace x letters) decoded.0

    size : length (packing first_edition h letters) ≡ 2 * n + 2
    unfolding packing
    size = bytes_length first_edition first_roomy (header_word first_edition h ∷ map (letter_word first_edition h) letters)
        ∙ rw (length-map letters (letter_word first_edition h), the_letters.1) (omega arith)

    laid : 2 * n + 2 ≤ length out
        → put_words (word_in first_edition h) (put_word out 0 w) 2 (unpacked_parts s) ≡ packing first_edition h letters ++ drop
        (length (packing first_edition h letters)) out
    unfolding packing units
    laid l =
        let v = (header-test first_edition h).0 good.0 in
        let rest = bytes_of first_edition (map (letter_word first_edition h) letters) in
        let below : w < 65536 = subst (λ (w : ℕ). w < 65536) good.1 (header_word_below h v) in
        let room : 0 + length (packing first_edition h letters) ≤ length out = omega (arith, size) in
        put_decoded h (put_word out 0 w) 2 (unpacked_parts s) letters v decoded.1
        ∙ stores out 0 w rest below
        ∙ ap (λ (w : ℕ). sets out 0 (split (8 ∷ 8 ∷ []) w ++ rest)) (sym good.1)
        ∙ sets-eq (packing first_edition h letters) out 0 room
        ∙ rw zero-add

    pub wrote_short : length out < 2 * n + 2 → WroteTrace first_edition (unpacking first_edition h s) out out (refusal 6 0)
    unfolding written_length written_over
    wrote_short l =
        let m = lt-leb (length (packing first_edition h letters)) (length out) (rw size l) in
        rw (is_trace) (record { answered = rw m; bytes = rw m })

    pub wrote_all : (exit : List ℕ) → 2 * n + 2 ≤ length out → exit ≡ put_words (word_in first_edition h) (put_word out 0 w) 2 (unpacked_parts s)
        → WroteTrace first_edition (unpacking first_edition h s) out exit (value (2 * n + 2))
    unfolding written_length written_over
    wrote_all exit l x =
        let m = le-leb (length (packing first_edition h letters)) (length out) (rw size l) in
        rw is_trace (record { answered = rw (m, size); bytes = rw m (x ∙ laid l) })
