-- The loops that read letters one by one and count them.
use Rattle.std.specs.Simd.{first_chunks}
use Rattle.std.proofs.lemmas.List.{take_all}
use lib.Seq.{drop-cons, drop-drop}
use mathlib.Core.Path.{◌≡◌, refl, sym, ap, ◌∙◌}
use Prim.Native.Nat.{ℕ, zero, suc, ◌/◌, ◌%◌, ◌+◌, ◌-◌, ◌*◌, ◌≤◌, ◌<◌}
use native.Mathlib.Omega.{arith}
use native.Mathlib.Nat.{add-zero, zero-add, mul-zero, mul-suc, add_comm}
use mathlib.Core.List.{List, [], ◌∷◌}
use lib.ListN.{length, get_or, take, drop, length-take, length-drop, drop_of_length-le}
use lib.Dec.{ltb}
use mathlib.Core.Bool.{Bool, true, false}
use borrow.Author.Tests.{ltb-false, eq-eqb, ne_eqb, lt-leb, le-leb}
use Rattle.base.specs.Choice.{pick}
use Rattle.base.proofs.Theory.Choice.{by_test}
use Rattle.traces.specs.Writing.{plain_letter, unpack_letter, unpacked_parts}
use Rattle.letters.specs.declared.Header.{Header}
use Rattle.letters.specs.declared.Letter.{Letter}
use Rattle.letters.specs.Editions.{first_edition}
use Rattle.letters.specs.Answers.{Answer, value, refusal, on_answer}
use Rattle.letters.specs.CodeAnswers.{letter_answer}
use Rattle.letters.specs.Packing.{join}
use Rattle.letters.specs.Coding.{decode_letter}
use Rattle.std.proofs.Common.{Option, Some, None, is_some}
use native.Mathlib.Numerals.{add-one}
use Rattle.traces.specs.Reading.{TraceReading, trace, prepend_letter, letters_from, chunks, letter_in, beginning, letter_count, letters_of, reading_where}
use Rattle.traces.specs.ReadingParts.{counted, letter_at}

module _ {A : Type 0} (decode : A → Answer Letter) (h : Header) where
  -- the letters of these codes counted on from n
  unfoldable pub count_from : ℕ → List A → Answer (Header × ℕ)
  count_from n [] = value (h, n)
  count_from n (x ∷ codes) = on_answer (decode x) (λ _. count_from (n + 1) codes) λ _ _. refusal 4 (n + 1)

abbrev shift : ℕ → Answer (Header × ℕ) → Answer (Header × ℕ)
shift n (value x) = value (x.0, n + x.1)
shift n (refusal number place) = refusal number place

shift_before : (n : ℕ) (l : Letter) (r : TraceReading) → shift n (counted (prepend_letter l r)) ≡ shift (n + 1) (counted r)
shift_before n l (trace h ls) = ap (λ (m : ℕ). value (h, m)) (omega arith)
shift_before n l (TraceReading.refused number place) = refl

shift_none : (x : Answer (Header × ℕ)) → shift 0 x ≡ x
shift_none (value x) = rw zero-add
shift_none (refusal number place) = refl

module _ {A : Type 0} (decode : A → Answer Letter) (h : Header) where
  counted_on : (n : ℕ) (codes : List A) → shift n (counted (letters_from decode h (n + 1) codes)) ≡ count_from decode h n codes
  unfolding count_from letters_from
  counted_on n [] = rw add-zero
  counted_on n (x ∷ codes) = by (letters_from decode h (n + 1 + 1) codes) (count_from decode h (n + 1) codes) (counted_on (n + 1) codes) (decode x)
    where
      by : (r : TraceReading) (c : Answer (Header × ℕ)) → shift (n + 1) (counted r) ≡ c → (a : Answer Letter)
          → shift n (counted (on_answer a (λ l. prepend_letter l r) λ _ _. TraceReading.refused 4 (n + 1))) ≡ on_answer a (λ _. c) λ _ _. refusal 4 (n + 1)
      by r c e (value l) = shift_before n l r ∙ e
      by r c e (refusal number place) = refl

-- the loop over these codes, of which n are read
module _ {A : Type 0} (decode : A → Answer Letter) (h : Header) (codes : List A) where
  pub count_begins : count_from decode h 0 codes ≡ counted (letters_from decode h 1 codes)
  count_begins = sym (counted_on decode h 0 codes) ∙ shift_none _

  turn : (n : ℕ) (d : A) → n < length codes
      → count_from decode h n (drop n codes)
      ≡ on_answer (decode (get_or codes n d)) (λ _. count_from decode h (n + 1) (drop (n + 1) codes)) λ _ _. refusal 4 (n + 1)
  unfolding count_from
  turn n d l = rw (drop-cons codes n d l, add-one n)

  pub count_good : (n : ℕ) (d : A) (read : Option Letter) → n < length codes → letter_answer read ≡ decode (get_or codes n d) → is_some read ≡ true
      → count_from decode h n (drop n codes) ≡ count_from decode h (n + 1) (drop (n + 1) codes)
  count_good n d (Some l) m e s = turn n d m ∙ rw (← e)
  count_good n d None m e s = let z : ◌≡◌ {A = ℕ} 0 1 = cc in absurd (omega arith)

  pub count_bad : (n : ℕ) (d : A) (read : Option Letter) → n < length codes → letter_answer read ≡ decode (get_or codes n d) → is_some read ≡ false
      → count_from decode h n (drop n codes) ≡ refusal 4 (n + 1)
  count_bad n d None m e s = turn n d m ∙ rw (← e)
  count_bad n d (Some l) m e s = let z : ◌≡◌ {A = ℕ} 0 1 = cc in absurd (omega arith)

  pub count_none : (n a p : ℕ) (d : A) → n < length codes → decode (get_or codes n d) ≡ refusal a p
      → count_from decode h n (drop n codes) ≡ refusal 4 (n + 1)
  count_none n a p d m e = turn n d m ∙ rw e

  pub count_ends : (n : ℕ) (r : Answer (Header × ℕ)) → count_from decode h n (drop n codes) ≡ r → n ≤ length codes → length codes ≤ n
      → value (h, length codes) ≡ r
  unfolding count_from
  count_ends n r e a b = let m : n ≡ length codes = omega arith in (rw (← m, drop_of_length-le codes b)) ∙ e

-- ---- the questions before the letters

begins_long : (s : List ℕ) (h : Header) → beginning first_edition s ≡ value h → 2 ≤ length s
unfolding beginning
begins_long s h = by_test (ltb (length s) 2) (λ t. rw t λ q. let z : ◌≡◌ {A = ℕ} 0 1 = cc in absurd (omega arith)) λ t q. ltb-false (length s) 2 t

-- what is learnt of a trace's beginning
module _ (too_many : ℕ → Bool) (s : List ℕ) where
  pub begun_refused : (number place : ℕ) → refusal number place ≡ beginning first_edition s
      → refusal number place ≡ counted (reading_where too_many first_edition s)
  unfolding reading_where
  begun_refused number place e = rw (← e)

  module _ (h : Header) (e : value h ≡ beginning first_edition s) where
    pub begun_long : 2 ≤ length s
    begun_long = begins_long s h (sym e)

    pub begun_over : too_many (letter_count first_edition s) ≡ true → refusal 5 0 ≡ counted (reading_where too_many first_edition s)
    unfolding reading_where
    begun_over t = rw (← e, t)

    pub begun_letters : too_many (letter_count first_edition s) ≡ false
        → counted (letters_of first_edition h s) ≡ counted (reading_where too_many first_edition s)
    unfolding reading_where
    begun_letters t = rw (← e, t)

pub same_limit : (f g : ℕ → Bool) (s : List ℕ) → f (letter_count first_edition s) ≡ g (letter_count first_edition s)
    → reading_where f first_edition s ≡ reading_where g first_edition s
unfolding reading_where
same_limit f g s e = ap (λ (t : Bool). on_answer (beginning first_edition s)
    (λ h. pick t (λ _. TraceReading.refused 5 0) λ _. letters_of first_edition h s) TraceReading.refused) e

-- ---- the pieces of a slice

-- the pieces of as_chunks are those of the definition
pub chunked : (n k : ℕ) (s : List ℕ) → chunks n k s ≡ first_chunks n k s
unfolding chunks
chunked n zero s = refl
chunked n (suc k) s = ap (λ (l : List (List ℕ)). take n s ∷ l) (chunked n k (drop n s))

-- the piece at a place
pub piece_at : (n k i : ℕ) (s d : List ℕ) → i < k → get_or (first_chunks n k s) i d ≡ take n (drop (n * i) s)
piece_at n zero i s d l = absurd (omega arith)
piece_at n (suc k) zero s d l = rw mul-zero refl
piece_at n (suc k) (suc i) s d l = piece_at n k i (drop n s) d (omega arith) ∙ rw (mul-suc n i, drop-drop (n * i) n s, add_comm n (n * i))

-- each has n entries
piece_length : (n k i : ℕ) (s d : List ℕ) → i < k → n * k ≤ length s → length (get_or (first_chunks n k s) i d) ≡ n
piece_length n zero i s d l m = absurd (omega arith)
piece_length n (suc k) zero s d l m = let b : n ≤ length s = omega (arith, mul-suc n k) in length-take n s ∙ omega arith
piece_length n (suc k) (suc i) s d l m = piece_length n k i (drop n s) d (omega arith) (omega (arith, length-drop n s, mul-suc n k))

pub pieces_length : (n k : ℕ) (s : List ℕ) → length (first_chunks n k s) ≡ k
pieces_length n zero s = refl
pieces_length n (suc k) s = ap suc (pieces_length n k (drop n s))

pub piece_of : (n i : ℕ) (s : List ℕ) (pieces : List (List ℕ)) (d : List ℕ) → pieces ≡ first_chunks n (length s / n) s → n * (length s / n) ≤ length s
    → i < length pieces → length (get_or pieces i d) ≡ n
piece_of n i s pieces d e m l = rw e (piece_length n (length s / n) i s d (omega (arith, ap length e, pieces_length n (length s / n) s)) m)

-- the units behind the header, as the code has them
pub units_chunked : (s : List ℕ) (pieces : List (List ℕ)) → 2 ≤ length s → (let rest = take (length s - 2) (drop 2 s) in
    pieces ≡ first_chunks 2 (length rest / 2) rest) → chunks 2 (length s / 2 - 1) (drop 2 s) ≡ pieces
units_chunked s pieces l e =
    let all : take (length s - 2) (drop 2 s) ≡ drop 2 s = take_all (length s - 2) (drop 2 s) (omega (arith, length-drop 2 s)) in
    let m : length (drop 2 s) / 2 ≡ length s / 2 - 1 = rw (length-drop 2 s) (omega arith) in
    rw (chunked 2 (length s / 2 - 1) (drop 2 s), e, all, m)

pub letters_chunked : (h : Header) (s : List ℕ) (pieces : List (List ℕ)) → 2 ≤ length s → (let rest = take (length s - 2) (drop 2 s) in
    pieces ≡ first_chunks 2 (length rest / 2) rest) → letters_of first_edition h s ≡ letters_from (letter_in first_edition h) h 1 pieces
unfolding letters_of
letters_chunked h s pieces l e = rw (units_chunked s pieces l e)

-- a unit's word
pub unit_word : (s : List ℕ) → length s ≡ 2 → join (8 ∷ 8 ∷ []) s ≡ get_or s 0 0 * 256 + get_or s 1 0
unit_word [] l = absurd (omega arith)
unit_word (x ∷ []) l = absurd (omega arith)
unit_word (x ∷ y ∷ []) l = omega arith
unit_word (x ∷ y ∷ z ∷ s) l = absurd (omega arith)

-- what the code learns of a unit
pub unit_read : (h : Header) (x : List ℕ) (w : ℕ) (read : Answer Letter) → length x ≡ 2 → w ≡ get_or x 0 0 * 256 + get_or x 1 0
    → read ≡ decode_letter first_edition h w → read ≡ letter_in first_edition h x
unit_read h x w read l e d = rw (unit_word x l, ← e) d

-- ---- unpacked letters, five bytes each

pub parts_count : (s : List ℕ) → length (unpacked_parts s) ≡ (length s + 4) / 5
unfolding unpacked_parts
parts_count s = ap length (chunked 5 ((length s + 4) / 5) s) ∙ pieces_length 5 ((length s + 4) / 5) s

pub part_at : (s : List ℕ) (i : ℕ) (d : List ℕ) → i < (length s + 4) / 5 → get_or (unpacked_parts s) i d ≡ take 5 (drop (5 * i) s)
unfolding unpacked_parts
part_at s i d l = rw (chunked 5 ((length s + 4) / 5) s) (piece_at 5 ((length s + 4) / 5) i s d l)

module _ (s : List ℕ) (pieces : List (List ℕ)) (e : pieces ≡ first_chunks 5 (length s / 5) s) where
  pub whole_count : length pieces ≡ length s / 5
  whole_count = ap length e ∙ pieces_length 5 (length s / 5) s

  -- a whole part
  pub same_part : (i : ℕ) (d d' : List ℕ) → i < length pieces → get_or pieces i d ≡ get_or (unpacked_parts s) i d'
  same_part i d d' l =
      let m : i < length s / 5 = omega (arith, whole_count) in
      rw e (piece_at 5 (length s / 5) i s d m) ∙ sym (part_at s i d' (omega arith))

  -- the last part, if it is not whole
  pub last_part : (h : Header) (d : List ℕ) → (length s % 5 ≡ 0 → ⊥) → unpack_letter h (get_or (unpacked_parts s) (length pieces) d) ≡ refusal 4 0
  unfolding unpack_letter
  last_part h d n =
      let p : get_or (unpacked_parts s) (length pieces) d ≡ take 5 (drop (5 * (length s / 5)) s) =
      rw whole_count (part_at s (length s / 5) d (omega arith)) in
      let l : length (take 5 (drop (5 * (length s / 5)) s)) ≡ length s % 5 =
      length-take 5 (drop (5 * (length s / 5)) s) ∙ rw (length-drop (5 * (length s / 5)) s) (omega arith) in
      rw (p, ne_eqb (length (take 5 (drop (5 * (length s / 5)) s))) 5 λ q. omega (arith, l))

-- the letter with five bytes
pub five_bytes : (h : Header) (s : List ℕ) → length s ≡ 5
    → unpack_letter h s ≡ plain_letter h (get_or s 0 0) (get_or s 1 0) (get_or s 2 0) (get_or s 3 0) (get_or s 4 0)
unfolding unpack_letter
five_bytes h s l = rw (eq-eqb (length s) 5 l)

-- ---- one letter of a trace

module _ (h : Header) (s : List ℕ) (k : ℕ) where
  pub no_letter : length s / 2 ≤ k + 1 → refusal 4 0 ≡ letter_at first_edition h s k
  unfolding letter_at
  no_letter l = rw (lt-leb (2 * (k + 2)) (length s) (omega arith))

  pub the_letter : (units : List (List ℕ)) (x y : List ℕ) (rest : List (List ℕ)) → units ≡ first_chunks 2 (length s / 2) s → units ≡ x ∷ rest
      → k < length rest → y ≡ get_or rest k y → (w : ℕ) (read : Option Letter) → w ≡ get_or y 0 0 * 256 + get_or y 1 0
      → letter_answer read ≡ decode_letter first_edition h w → letter_answer read ≡ letter_at first_edition h s k
  unfolding letter_at
  the_letter units x y rest e f l g w read v d =
      let n : length units ≡ length s / 2 = ap length e ∙ pieces_length 2 (length s / 2) s in
      let m : suc (length rest) ≡ length units = sym (ap length f) in
      let u : y ≡ take 2 (drop (2 * suc k) s) =
      g ∙ ap (λ (l : List (List ℕ)). get_or l (suc k) y) (sym f ∙ e) ∙ piece_at 2 (length s / 2) (suc k) s y (omega arith) in
      let two : length y ≡ 2 = ap length u ∙ length-take 2 (drop (2 * suc k) s) ∙ rw (length-drop (2 * suc k) s) (omega arith) in
      let q : suc k ≡ k + 1 = omega arith in
      rw (le-leb (2 * (k + 2)) (length s) (omega arith), ← q, ← u) (unit_read h y w (letter_answer read) two v d)
