-- The unpacker's loop and its answer.
use mathlib.Core.Path.{◌≡◌, refl, sym, ap, ◌∙◌}
use Prim.Native.Nat.{ℕ, ◌+◌, ◌-◌, ◌*◌, ◌/◌, ◌≤◌, ◌<◌}
use native.Mathlib.Omega.{arith}
use native.Mathlib.Nat.{zero-add}
use native.Mathlib.Numerals.{add_five}
use mathlib.Core.List.{List, [], ◌∷◌, ◌++◌}
use lib.ListN.{length, drop}
use lib.Seq.{drop-drop, sets, sets-eq}
use borrow.Rule.Slice.PartMut.{put_mid}
use Rattle.std.proofs.Common.{append_assoc, take}
use borrow.Author.Tests.{le-leb, lt-leb}
use Rattle.letters.specs.declared.Header.{Header}
use Rattle.letters.specs.declared.Letter.{Letter}
use Rattle.letters.specs.declared.Letter.TheVariants.{Copy, Apply, Equal, Unequal}
use Rattle.letters.specs.Editions.{first_edition}
use Rattle.letters.specs.Answers.{value, refusal}
use Rattle.letters.proofs.Theory.WordLaws.{first_roomy}
use Rattle.traces.specs.Reading.{trace, chunks, letter_count, letter_in, reading}
use Rattle.traces.specs.ReadingParts.{counted}
use Rattle.traces.proofs.Theory.TraceLaws.{Decoded, Read, read, read_count}
use Rattle.traces.specs.Writing.{plain_fields, unpacked_bytes}
use Rattle.traces.proofs.Theory.WritingLaws.{unpacked_length}
use Rattle.traces.specs.Unpacking.{put_plain, put_unpacked, unpacked_count, unpacked_over, Unpacked}
use Rattle.traces.specs.Putting.{put_each}
use Rattle.traces.proofs.Putting.{counted_trace, counted_refused}

-- ---- one letter

-- a part of so many entries, replaced by these
pub part_sets : (a k : ℕ) (out fields : List ℕ) → k ≡ length fields → a + k ≤ length out → put_mid a k out fields ≡ sets out a fields
part_sets a k out fields e l =
    sym (sets-eq fields out a (omega arith) ∙ append_assoc (take a out) fields (drop (a + length fields) out)
    ∙ rw (← e, ← drop-drop k a out))

-- the stores of a letter, and then of what follows
plain_stores : (h : Header) (l : Letter) (out : List ℕ) (to : ℕ) (rest : List ℕ)
    → sets (put_plain h out to l) (to + 5) rest ≡ sets out to (plain_fields h l ++ rest)
plain_stores h (Copy x y) out to rest = rw (add_five to)
plain_stores h (Apply x f y z) out to rest = rw (add_five to)
plain_stores h (Equal x y) out to rest = rw (add_five to)
plain_stores h (Unequal x y) out to rest = rw (add_five to)

-- ---- all of them

put-plain : (h : Header) (out : List ℕ) (to : ℕ) (codes : List (List ℕ)) (ls : List Letter) → Decoded (letter_in first_edition h) codes ls
    → put_each (put_plain h) 5 (letter_in first_edition h) out to codes ≡ sets out to (unpacked_bytes h ls)
unfolding put_each
put-plain h out to [] [] d = refl
put-plain h out to [] (l ∷ ls) d = absurd d
put-plain h out to (x ∷ codes) [] d = absurd d
put-plain h out to (x ∷ codes) (l ∷ ls) d =
    rw d.0 (put-plain h (put_plain h out to l) (to + 5) codes ls d.1 ∙ plain_stores h l out to (unpacked_bytes h ls))

-- ---- the answer

module _ (s out : List ℕ) where
  pub unpack_refused : (a b : ℕ) → counted (reading first_edition s) ≡ refusal a b → Unpacked (reading first_edition s) out out (refusal a b)
  unfolding unpacked_count unpacked_over
  unpack_refused a b p = rw (counted_refused (reading first_edition s) a b p) (record { answered = refl; bytes = refl })

  module _ (h : Header) (n : ℕ) (p : counted (reading first_edition s) ≡ value (h, n)) where
    letters : List Letter
    letters = (counted_trace (reading first_edition s) h n p).0

    the_letters : (reading first_edition s ≡ trace h letters) × (length letters ≡ n)
    unfolding letters
    the_letters = let t = counted_trace (reading first_edition s) h n p in (t.1, t.2)

    known : Read first_edition first_roomy s h letters
    known = read first_edition first_roomy s h letters the_letters.0

    pub unpack_long : (2 ≤ length s) × (length s / 2 - 1 ≡ n)
    unpack_long = (known.enough, read_count first_edition first_roomy s h letters the_letters.0 ∙ the_letters.1)

    size : length (unpacked_bytes h letters) ≡ 5 * n
    size = unpacked_length h letters ∙ ap (λ (m : ℕ). 5 * m) the_letters.1

    pub unpack_short : length out / 5 < n → Unpacked (reading first_edition s) out out (refusal 6 0)
    unfolding unpacked_count unpacked_over
    unpack_short l =
        let m = lt-leb (length (unpacked_bytes h letters)) (length out) (rw size (omega arith)) in
        rw the_letters.0 (record { answered = rw m; bytes = rw m })

    pub unpack_all : (exit : List ℕ) → n ≤ length out / 5
        → exit ≡ put_unpacked h out s
        → Unpacked (reading first_edition s) out exit (value (h, n))
    unfolding unpacked_count unpacked_over
    unpack_all exit l x =
        let room : 0 + length (unpacked_bytes h letters) ≤ length out = rw size (omega arith) in
        let m = le-leb (length (unpacked_bytes h letters)) (length out) (rw zero-add at room) in
        let codes = chunks 2 (letter_count first_edition s) (drop 2 s) in
        let laid = put-plain h out 0 codes letters known.letters ∙ sets-eq (unpacked_bytes h letters) out 0 room in
        rw the_letters.0 (record { answered = rw (m, the_letters.1); bytes = rw m (x ∙ laid ∙ rw zero-add) })
