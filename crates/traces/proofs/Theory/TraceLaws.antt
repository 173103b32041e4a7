-- Reading and packing are inverse on whole traces.
use mathlib.Core.Path.{◌≡◌, refl, sym, ap, ◌∙◌, subst}
use Prim.Native.Nat.{ℕ, zero, suc, ◌+◌, ◌-◌, ◌*◌, ◌/◌, ◌%◌, ◌^◌, ◌≤◌, ◌<◌}
use native.Mathlib.Omega.{arith}
use native.Mathlib.Nat.{mul-suc, mul-zero, one-mul, mul_comm, mul-mod_right, mul-div_right, div-add-mod, le-div_iff_mul-le}
use native.Mathlib.Numerals.{add-one}
use mathlib.Core.List.{List, [], ◌∷◌, ◌++◌, map}
use lib.Dec.{leb, ltb, eqb}
use lib.ListN.{length, get_or, take, drop, replicate, length-append, length-replicate, length-drop, length-map, take-append-drop}
use lib.Seq.{take_at, drop_at, drop-drop, get_or-drop}
use borrow.Author.Tests.{le-ltb, eq-eqb, le-leb, leb-true, ltb-false, eqb-true}
use Rattle.base.proofs.Theory.Choice.{by_test}
use Rattle.letters.specs.declared.Header.{Header}
use Rattle.letters.specs.declared.Letter.{Letter}
use Rattle.letters.specs.Letters.{Fits}
use Rattle.letters.specs.Packing.{total, Sized, join, split}
use Rattle.letters.proofs.Theory.Packing.{split_length, join_lt, split_join, join_split}
use Rattle.letters.specs.Editions.{Edition}
use Rattle.letters.specs.Answers.{Answer, value, refusal, on_answer}
use Rattle.letters.specs.Letters.{HeaderFits}
use Rattle.letters.specs.Words.{header_fields, header_word, letter_fields, letter_word}
use Rattle.letters.specs.Coding.{decode_header}
use Rattle.letters.specs.Roomy.{Roomy}
use Rattle.letters.proofs.Theory.WordLaws.{decode-header, decode-letter}
use Rattle.traces.specs.Reading.{TraceReading, trace, octets, chunks, prepend_letter, letters_from, beginning, letter_count, letter_in, letters_of}
use Rattle.traces.specs.Reading.{reading_where, reading}
use Rattle.traces.specs.ReadingParts.{letter_at}
use Rattle.traces.specs.Traces.{AllFit, units, bytes_of, packing}
use Rattle.traces.specs.Traces.{Bytes}

-- These codes are read as these letters, one by one.
abbrev pub Decoded : {A : Type 0} → (A → Answer Letter) → List A → List Letter → Type 0
Decoded decode [] [] = Unit {0}
Decoded decode [] (l ∷ ls) = ⊥
Decoded decode (x ∷ codes) [] = ⊥
Decoded decode (x ∷ codes) (l ∷ ls) = (decode x ≡ value l) × Decoded decode codes ls

-- A refusal is no trace.
pub not_trace : {a b : ℕ} {g : Header} {ls : List Letter} → TraceReading.refused a b ≡ trace g ls → ⊥
not_trace e = let z : ◌≡◌ {A = ℕ} 0 1 = cc in omega arith

-- ---- the reading of a list of codes

module _ {A : Type 0} (decode : A → Answer Letter) (h : Header) where
  first_letter : (n : ℕ) (x : A) (codes : List A)
      → letters_from decode h n (x ∷ codes) ≡ on_answer (decode x) (λ l. prepend_letter l (letters_from decode h (n + 1) codes)) λ _ _. TraceReading.refused 4 n
  unfolding letters_from
  first_letter n x codes = refl

  pub decoded_letters : (n : ℕ) (codes : List A) (ls : List Letter) → Decoded decode codes ls → letters_from decode h n codes ≡ trace h ls
  unfolding letters_from
  decoded_letters n [] [] d = refl
  decoded_letters n [] (l ∷ ls) d = absurd d
  decoded_letters n (x ∷ codes) [] d = absurd d
  decoded_letters n (x ∷ codes) (l ∷ ls) d = rw (first_letter, d.0, decoded_letters (n + 1) codes ls d.1)

  pub letters_decoded : (n : ℕ) (codes : List A) (g : Header) (ls : List Letter) → letters_from decode h n codes ≡ trace g ls
      → (g ≡ h) × Decoded decode codes ls
  unfolding letters_from
  letters_decoded n [] g [] e = (cc, tt)
  letters_decoded n [] g (l ∷ ls) e = let z : ◌≡◌ {A = ℕ} 0 1 = cc in absurd (omega arith)
  letters_decoded n (x ∷ codes) g ls e =
      by_answer (λ ls q. letters_decoded (n + 1) codes g ls q) (decode x) refl (letters_from decode h (n + 1) codes) refl (sym (first_letter n x codes) ∙ e)
    where
      by_reading : ((ls : List Letter) → letters_from decode h (n + 1) codes ≡ trace g ls → (g ≡ h) × Decoded decode codes ls)
          → (l : Letter) (ls : List Letter) (r : TraceReading) → decode x ≡ value l → letters_from decode h (n + 1) codes ≡ r → prepend_letter l r ≡ trace g ls
          → (g ≡ h) × Decoded decode (x ∷ codes) ls
      by_reading rest l [] (trace k ms) q p e = let z : ◌≡◌ {A = ℕ} 0 1 = cc in absurd (omega arith)
      by_reading rest l (m ∷ ls) (trace k ms) q p e = let d = rest ls (p ∙ cc) in (d.0, (q ∙ cc, d.1))
      by_reading rest l ls (TraceReading.refused a b) q p e = absurd (not_trace e)

      by_answer : ((ls : List Letter) → letters_from decode h (n + 1) codes ≡ trace g ls → (g ≡ h) × Decoded decode codes ls)
          → (a : Answer Letter) → decode x ≡ a → (r : TraceReading) → letters_from decode h (n + 1) codes ≡ r
          → on_answer a (λ l. prepend_letter l r) (λ _ _. TraceReading.refused 4 n) ≡ trace g ls
          → (g ≡ h) × Decoded decode (x ∷ codes) ls
      by_answer rest (value l) q r p e = by_reading rest l ls r q p e
      by_answer rest (refusal a b) q r p e = absurd (not_trace e)

  pub decoded_length : (codes : List A) (ls : List Letter) → Decoded decode codes ls → length codes ≡ length ls
  decoded_length [] [] d = refl
  decoded_length [] (l ∷ ls) d = absurd d
  decoded_length (x ∷ codes) [] d = absurd d
  decoded_length (x ∷ codes) (l ∷ ls) d = ap suc (decoded_length codes ls d.1)

-- ---- units

pub parts_length : (n k : ℕ) (s : List ℕ) → length (chunks n k s) ≡ k
unfolding chunks
parts_length n zero s = refl
parts_length n (suc k) s = ap suc (parts_length n k (drop n s))

pub octets_total : (n : ℕ) → total (replicate n 8) ≡ 8 * n
octets_total zero = refl
octets_total (suc n) = rw (octets_total n, mul-suc 8 n) (omega arith)

sized_octets : (k : ℕ) (s : List ℕ) → Bytes s → k ≤ length s → Sized (replicate k 8) (take k s)
sized_octets zero [] b l = tt
sized_octets zero (x ∷ s) b l = tt
sized_octets (suc k) [] b l = absurd (omega arith)
sized_octets (suc k) (x ∷ s) b l = (b 0, sized_octets k s (λ i. b (suc i)) (omega arith))

bytes_drop : (k : ℕ) (s : List ℕ) → Bytes s → Bytes (drop k s)
bytes_drop k s b i = rw (get_or-drop k s i 0) (b (k + i))

pub octets_length : (k n : ℕ) → length (split (replicate k 8) n) ≡ k
octets_length k n = split_length (replicate k 8) n ∙ length-replicate k 8

pub units_length : (k : ℕ) (ns : List ℕ) → length (units k ns) ≡ k * length ns
unfolding units
units_length k [] = sym (mul-zero k)
units_length k (n ∷ ns) = rw (length-append, octets_length k n, units_length k ns, mul-suc k (length ns)) (omega arith)

module _ (e : Edition) (r : Roomy e) where
  unit_length : (w : ℕ) → length (split (octets e) w) ≡ e.bytes
  unit_length w = octets_length e.bytes w

  pub bytes_length : (words : List ℕ) → length (bytes_of e words) ≡ e.bytes * length words
  bytes_length words = units_length e.bytes words

  unit_back : (w : ℕ) → w < 2 ^ (8 * e.bytes) → join (octets e) (split (octets e) w) ≡ w
  unit_back w l = join_split (octets e) w (rw (octets_total e.bytes) l)

  header_back : (h : Header) → HeaderFits e h → join (octets e) (split (octets e) (header_word e h)) ≡ header_word e h
  unfolding header_word
  header_back h v = unit_back _ (rw r.header_total at (join_lt e.header (header_fields e h) (r.header_sized h v)))

  letter_back : (h : Header) (l : Letter) → HeaderFits e h → Fits h l → join (octets e) (split (octets e) (letter_word e h l)) ≡ letter_word e h l
  unfolding letter_word
  letter_back h l v f = unit_back _ (rw r.letter_total at (join_lt e.letter (letter_fields h l) (r.letter_sized h l v f)))

  -- the letters' bytes are read as the letters
  packed_decoded : (h : Header) (ls : List Letter) → HeaderFits e h → AllFit h ls
      → Decoded (letter_in e h) (chunks e.bytes (length ls) (bytes_of e (map (letter_word e h) ls))) ls
  unfolding chunks units
  packed_decoded h [] v f = tt
  packed_decoded h (l ∷ ls) v f =
      rw (
        take_at (split (octets e) (letter_word e h l)) (bytes_of e (map (letter_word e h) ls)) e.bytes (unit_length _),
        drop_at
            (split (octets e) (letter_word e h l)) (bytes_of e (map (letter_word e h) ls)) e.bytes (unit_length _),
        letter_back h l v f.0,
      )
      ((decode-letter r h (letter_word e h l) l).1 (v, f.0, refl), packed_decoded h ls v f.1)

  -- A trace that was packed is read as itself.
  pub reading_packing : (h : Header) (ls : List Letter) → HeaderFits e h → AllFit h ls → reading e (packing e h ls) ≡ trace h ls
  unfolding reading_where beginning letters_of packing units
  reading_packing h ls v f =
      let rest = bytes_of e (map (letter_word e h) ls) in
      let first = split (octets e) (header_word e h) in
      let long : length (first ++ rest) ≡ e.bytes * suc (length ls) =
      bytes_length (header_word e h ∷ map (letter_word e h) ls) ∙ ap (λ n. e.bytes * suc n) (length-map ls (letter_word e h)) in
      let enough : e.bytes ≤ length (first ++ rest) = rw (long, mul-suc) (omega arith) in
      let whole : length (first ++ rest) % e.bytes ≡ 0 = rw long (mul-mod_right e.bytes (suc (length ls))) in
      let quotient : length (first ++ rest) / e.bytes ≡ suc (length ls) = rw long (mul-div_right (suc (length ls)) r.some) in
      let count : length (first ++ rest) / e.bytes - 1 ≡ length ls = rw quotient (omega arith) in
      rw (
        le-ltb (length (first ++ rest)) e.bytes enough,
        eq-eqb (length (first ++ rest) % e.bytes) 0 whole,
        take_at first rest e.bytes
            (unit_length _),
        header_back h v,
        (decode-header r (header_word e h) h).1 (v, refl),
        count,
        drop_at first rest e.bytes (unit_length _),
      )
      (decoded_letters (letter_in e h) h 1 (chunks e.bytes (length ls) rest) ls (packed_decoded h ls v f))

  -- ---- what a reading that is a trace tells

  pub record Read (s : List ℕ) (h : Header) (ls : List Letter) : Type 0 where
    pub enough : e.bytes ≤ length s
    pub whole : length s % e.bytes ≡ 0
    pub header : decode_header e (join (octets e) (take e.bytes s)) ≡ value h
    pub letters : Decoded (letter_in e h) (chunks e.bytes (letter_count e s) (drop e.bytes s)) ls

  pub read : (s : List ℕ) (h : Header) (ls : List Letter) → reading e s ≡ trace h ls → Read s h ls
  unfolding reading_where beginning letters_of
  read s h ls =
      by_test (ltb (length s) e.bytes) (λ t. rw t λ q. absurd (not_trace q))
      λ t. rw t (by_test (eqb (length s % e.bytes) 0)
      (λ u. rw u λ q. by_header (decode_header e (join (octets e) (take e.bytes s))) refl (ltb-false (length s) e.bytes t)
      (eqb-true (length s % e.bytes) 0 u) q)
      λ u. rw u λ q. absurd (not_trace q))
    where
      by_header : (a : Answer Header) → decode_header e (join (octets e) (take e.bytes s)) ≡ a → e.bytes ≤ length s → length s % e.bytes ≡ 0
          → on_answer a (λ g. letters_from (letter_in e g) g 1 (chunks e.bytes (letter_count e s) (drop e.bytes s))) TraceReading.refused ≡ trace h ls
          → Read s h ls
      by_header (refusal a b) d l w q = absurd (not_trace q)
      by_header (value g) d l w q =
          let x = letters_decoded (letter_in e g) g 1 (chunks e.bytes (letter_count e s) (drop e.bytes s)) h ls q in
          subst (λ g. decode_header e (join (octets e) (take e.bytes s)) ≡ value g
          → Decoded (letter_in e g) (chunks e.bytes (letter_count e s) (drop e.bytes s)) ls → Read s h ls) x.0
          (λ d y. record { enough = l; whole = w; header = d; letters = y }) d x.1

  -- the number of letters that were read
  pub read_count : (s : List ℕ) (h : Header) (ls : List Letter) → reading e s ≡ trace h ls → letter_count e s ≡ length ls
  read_count s h ls q =
      let codes = chunks e.bytes (letter_count e s) (drop e.bytes s) in
      sym (parts_length e.bytes (letter_count e s) (drop e.bytes s)) ∙ decoded_length (letter_in e h) h codes ls (read s h ls q).letters

  all_fit : (h : Header) (codes : List (List ℕ)) (ls : List Letter) → Decoded (letter_in e h) codes ls → AllFit h ls
  all_fit h [] [] d = tt
  all_fit h [] (l ∷ ls) d = absurd d
  all_fit h (x ∷ codes) [] d = absurd d
  all_fit h (x ∷ codes) (l ∷ ls) d = (((decode-letter r h _ l).0 d.0).1, all_fit h codes ls d.1)

  -- What is read is well formed.
  pub reading_fits : (s : List ℕ) (h : Header) (ls : List Letter) → reading e s ≡ trace h ls → HeaderFits e h × AllFit h ls
  reading_fits s h ls q = let x = read s h ls q in
      (((decode-header r _ h).0 x.header).0, all_fit h (chunks e.bytes (letter_count e s) (drop e.bytes s)) ls x.letters)

  -- the bytes of letters that were read from k units
  letters_bytes : (h : Header) (k : ℕ) (s : List ℕ) (ls : List Letter) → length s ≡ e.bytes * k → Bytes s → Decoded (letter_in e h) (chunks e.bytes k s) ls
      → bytes_of e (map (letter_word e h) ls) ≡ s
  unfolding chunks units
  letters_bytes h zero [] [] l b d = refl
  letters_bytes h zero (x ∷ s) [] l b d = absurd (omega (arith, mul-zero e.bytes))
  letters_bytes h zero s (x ∷ ls) l b d = absurd d
  letters_bytes h (suc k) s [] l b d = absurd d
  letters_bytes h (suc k) s (x ∷ ls) l b d =
      let n : length s ≡ e.bytes * k + e.bytes = l ∙ mul-suc e.bytes k in
      let w : letter_word e h x ≡ join (octets e) (take e.bytes s) = ((decode-letter r h _ x).0 d.0).2 in
      let v : split (octets e) (letter_word e h x) ≡ take e.bytes s =
      ap (split (octets e)) w ∙ split_join (octets e) (take e.bytes s) (sized_octets e.bytes s b (omega arith)) in
      let m : length (drop e.bytes s) ≡ e.bytes * k = length-drop e.bytes s ∙ omega arith in
      rw (v, letters_bytes h k (drop e.bytes s) ls m (bytes_drop e.bytes s b) d.1) (take-append-drop e.bytes s)

  -- Bytes that are read as a trace are the packing of that trace.
  pub packing_reading : (s : List ℕ) (h : Header) (ls : List Letter) → Bytes s → reading e s ≡ trace h ls → packing e h ls ≡ s
  unfolding packing units
  packing_reading s h ls b q =
      let x = read s h ls q in
      let k = letter_count e s in
      let one : 1 ≤ length s / e.bytes = (le-div_iff_mul-le r.some).1 (rw one-mul x.enough) in
      let long : length s ≡ e.bytes * (length s / e.bytes) = sym (div-add-mod (length s) e.bytes) ∙ rw x.whole (omega arith) in
      let units : length s / e.bytes ≡ suc k = omega arith in
      let n : length s ≡ e.bytes * k + e.bytes = long ∙ ap (λ m. e.bytes * m) units ∙ mul-suc e.bytes k in
      let m : length (drop e.bytes s) ≡ e.bytes * k = length-drop e.bytes s ∙ omega arith in
      let w : header_word e h ≡ join (octets e) (take e.bytes s) = ((decode-header r _ h).0 x.header).1 in
      let v : split (octets e) (header_word e h) ≡ take e.bytes s =
      ap (split (octets e)) w ∙ split_join (octets e) (take e.bytes s) (sized_octets e.bytes s b x.enough) in
      rw (v, letters_bytes h k (drop e.bytes s) ls m (bytes_drop e.bytes s b) x.letters) (take-append-drop e.bytes s)

  -- Bytes that are refused are the packing of no well-formed trace.
  pub refused_packing : (s : List ℕ) (number place : ℕ) → reading e s ≡ TraceReading.refused number place → (h : Header) (ls : List Letter) → HeaderFits e h
      → AllFit h ls → packing e h ls ≡ s → ⊥
  refused_packing s number place q h ls v f p =
      let t : reading e s ≡ trace h ls = subst (λ s. reading e s ≡ trace h ls) p (reading_packing h ls v f) in
      let z : ◌≡◌ {A = ℕ} 0 1 = cc in omega arith

  -- ---- one letter of a trace

  decoded_at : (h : Header) (n : ℕ) (s : List ℕ) (ls : List Letter) (k : ℕ) (none : Letter) → k < length ls → Decoded (letter_in e h) (chunks e.bytes n s) ls
      → letter_in e h (take e.bytes (drop (e.bytes * k) s)) ≡ value (get_or ls k none)
  unfolding chunks
  decoded_at h n s [] k none l d = absurd (omega arith)
  decoded_at h zero s (x ∷ ls) k none l d = absurd d
  decoded_at h (suc n) s (x ∷ ls) zero none l d = rw (mul-zero e.bytes) (rw (drop_zero s) d.0)
    where
      drop_zero : (s : List ℕ) → drop 0 s ≡ s
      drop_zero [] = refl
      drop_zero (x ∷ s) = refl
  decoded_at h (suc n) s (x ∷ ls) (suc k) none l d =
      let i = decoded_at h n (drop e.bytes s) ls k none (omega arith) d.1 in
      let m : e.bytes + e.bytes * k ≡ e.bytes * suc k = rw (mul-suc e.bytes k) (omega arith) in
      rw (drop-drop (e.bytes * k) e.bytes s, m) at i

  -- Letter k of a trace that is read is the letter there; there is none behind the last.
  pub letter-at : (s : List ℕ) (h : Header) (ls : List Letter) (k : ℕ) (none : Letter) → reading e s ≡ trace h ls → k < length ls
      → letter_at e h s k ≡ value (get_or ls k none)
  unfolding letter_at
  letter-at s h ls k none q l =
      let x = read s h ls q in
      let n = read_count s h ls q in
      let m : (k + 2) * e.bytes ≤ length s = (le-div_iff_mul-le r.some).0 (omega arith) in
      let i = decoded_at h (letter_count e s) (drop e.bytes s) ls k none l x.letters in
      let j : e.bytes + e.bytes * k ≡ e.bytes * (k + 1) = rw (add-one k, mul-suc e.bytes k) (omega arith) in
      rw (le-leb (e.bytes * (k + 2)) (length s) (rw (mul_comm e.bytes (k + 2)) m)) (rw (drop-drop (e.bytes * k) e.bytes s, j) at i)

  pub letter_behind : (s : List ℕ) (h : Header) (ls : List Letter) (k : ℕ) → reading e s ≡ trace h ls → length ls ≤ k → letter_at e h s k ≡ refusal 4 0
  unfolding letter_at
  letter_behind s h ls k q l =
      let x = read s h ls q in
      let n = read_count s h ls q in
      by_test (leb (e.bytes * (k + 2)) (length s))
      (λ t. let m : k + 2 ≤ length s / e.bytes = (le-div_iff_mul-le r.some).1 (rw (mul_comm (k + 2) e.bytes) (leb-true _ _ t)) in absurd (omega arith))
      λ t. rw t
