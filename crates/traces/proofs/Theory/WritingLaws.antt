-- Unpacked letters are read as themselves, and as nothing else.
use mathlib.Core.Path.{◌≡◌, refl, sym, ap, ◌∙◌, subst}
use mathlib.Core.Logic.{◌↔◌}
use Prim.Native.Nat.{ℕ, zero, suc, ◌+◌, ◌*◌, ◌/◌, ◌≤◌}
use native.Mathlib.Omega.{arith}
use mathlib.Core.Bool.{Bool, true, false, ◌&&◌, ◌||◌}
use mathlib.Core.List.{List, [], ◌∷◌, ◌++◌}
use lib.Dec.{leb, ltb, eqb}
use lib.ListN.{length, get_or, take, drop, length-append, length-take, length-drop, take-append-drop}
use lib.Seq.{take_at, drop_at}
use borrow.Author.Tests.{eqb-true, eqb-false, ltb-true}
use Rattle.base.specs.Choice.{pick}
use Rattle.base.proofs.Theory.Choice.{by_test}
use Rattle.base.specs.Masks.{has}
use Rattle.letters.specs.declared.Header.{Header}
use Rattle.letters.specs.declared.Letter.{Letter}
use Rattle.letters.specs.declared.Letter.TheVariants.{Copy, Apply, Equal, Unequal}
use Rattle.letters.specs.Letters.{Fits}
use Rattle.letters.specs.Editions.{Edition}
use Rattle.letters.specs.Answers.{value}
use Rattle.letters.specs.Letters.{HeaderFits}
use Rattle.letters.specs.Coding.{header_test, fits_test, letter_by}
use Rattle.letters.proofs.Theory.WordLaws.{and_true, chosen, header-test, fits-test}
use Rattle.letters.specs.Roomy.{Roomy}
use Rattle.traces.specs.Reading.{TraceReading, trace, chunks, reading}
use Rattle.traces.specs.Traces.{AllFit, packing}
use Rattle.traces.specs.Traces.{Bytes}
use Rattle.traces.proofs.Theory.TraceLaws.{Decoded, decoded_letters, letters_decoded, reading_packing, reading_fits, packing_reading}
use Rattle.traces.specs.Writing.{plain_fields, unpacked_bytes, plain_test, plain_letter, unpack_letter, unpacked_parts}
use Rattle.traces.specs.Writing.{unpacking, written_length, written_over, WroteTrace}

-- ---- one letter

-- the fields of the letter of a kind, where the unused ones are 0
plain_back : (h : Header) (k f x y z : ℕ) → plain_test h k f x z ≡ true → plain_fields h (letter_by h k f x y z) ≡ k ∷ f ∷ x ∷ y ∷ z ∷ []
unfolding plain_test letter_by
plain_back h k f x y z =
    by_test (eqb k 0)
    (λ a. rw a λ t.
    let b = and_true (eqb f 0) (eqb z 0) t in
    rw (eqb-true k 0 a, eqb-true f 0 b.0, eqb-true z 0 b.1))
    λ a. rw a (by_test (eqb k 1) (λ b. rw (b, eqb-true k 1 b) (second (has h.binary f)))
    λ b. rw b (by_test (ltb k 4)
    (λ c. rw c λ t.
    let d = and_true (eqb f 0) (eqb x 0) t in
    rw (eqb-true f 0 d.0, eqb-true x 0 d.1) (by_test (eqb k 2) (λ g. rw (g, eqb-true k 2 g))
    λ g. let three : k ≡ 3 = omega (arith, ltb-true k 4 c, eqb-false k 0 a, eqb-false k 1 b, eqb-false k 2 g) in rw three))
    λ c. rw c λ t. let n : ◌≡◌ {A = ℕ} 0 1 = cc in absurd (omega arith)))
  where
    second : (two : Bool) → (two || eqb z 0) ≡ true
        → 1 ∷ f ∷ x ∷ y ∷ pick two (λ _. pick two (λ _. z) λ _. y) (λ _. 0) ∷ [] ≡ 1 ∷ f ∷ x ∷ y ∷ z ∷ []
    second true t = refl
    second false t = rw (eqb-true z 0 t)

pub five : (s : List ℕ) → length s ≡ 5 → get_or s 0 0 ∷ get_or s 1 0 ∷ get_or s 2 0 ∷ get_or s 3 0 ∷ get_or s 4 0 ∷ [] ≡ s
five [] l = absurd (omega arith)
five (a ∷ []) l = absurd (omega arith)
five (a ∷ b ∷ []) l = absurd (omega arith)
five (a ∷ b ∷ c ∷ []) l = absurd (omega arith)
five (a ∷ b ∷ c ∷ d ∷ []) l = absurd (omega arith)
five (a ∷ b ∷ c ∷ d ∷ g ∷ []) l = refl
five (a ∷ b ∷ c ∷ d ∷ g ∷ i ∷ s) l = absurd (omega arith)

unpack_own : (h : Header) (l : Letter) → Fits h l → unpack_letter h (plain_fields h l) ≡ value l
unfolding unpack_letter plain_letter plain_test letter_by
unpack_own h (Copy x y) v = rw ((fits-test h (Copy x y)).1 v)
unpack_own h (Apply x f y z) v =
    by_test (has h.binary f) (λ t. rw (t, (fits-test h (Apply x f y z)).1 v))
    λ t. let e : y ≡ z = v.4 (rw t) in rw (t, e, (fits-test h (Apply x f z z)).1 (subst (λ n. Fits h (Apply x f n z)) e v))
unpack_own h (Equal x y) v = rw ((fits-test h (Equal x y)).1 v)
unpack_own h (Unequal x y) v = rw ((fits-test h (Unequal x y)).1 v)

-- Five bytes are read as l exactly if l is well formed and has those fields.
pub unpack-letter : (h : Header) (s : List ℕ) (l : Letter) → (unpack_letter h s ≡ value l) ↔ ((plain_fields h l ≡ s) × Fits h l)
unfolding unpack_letter plain_letter
unpack-letter h s l = (
  by_test (eqb (length s) 5)
      (λ t. rw t λ q.
      let k = get_or s 0 0 in let f = get_or s 1 0 in let x = get_or s 2 0 in let y = get_or s 3 0 in let z = get_or s 4 0 in
      let c = chosen (plain_test h k f x z && fits_test h (letter_by h k f x y z)) (letter_by h k f x y z) l 4 0 q in
      let a = and_true (plain_test h k f x z) (fits_test h (letter_by h k f x y z)) c.0 in (
        ap (plain_fields h) (sym c.1) ∙ plain_back h k f x y z a.0 ∙ five s (eqb-true (length s) 5 t),
        subst (Fits h) c.1 ((fits-test h (letter_by h k f x y z)).0 a.1),
      ))
      λ t. rw t λ q. let n : ◌≡◌ {A = ℕ} 0 1 = cc in absurd (omega arith),
  λ v. subst (λ s. unpack_letter h s ≡ value l) v.0 (unpack_own h l v.1),
)

pub plain_length : (h : Header) (l : Letter) → length (plain_fields h l) ≡ 5
plain_length h (Copy x y) = refl
plain_length h (Apply x f y z) = refl
plain_length h (Equal x y) = refl
plain_length h (Unequal x y) = refl

-- Whatever is read has all its five bytes.
pub unpack_whole : (h : Header) (s : List ℕ) (at : ℕ) (l : Letter) → unpack_letter h (take 5 (drop at s)) ≡ value l → at + 5 ≤ length s
unpack_whole h s at l q =
    let n : length (take 5 (drop at s)) ≡ 5 = ap length (sym ((unpack-letter h (take 5 (drop at s)) l).0 q).0) ∙ plain_length h l in
    let m = simp (length-take, length-drop) at n in
    omega arith

-- ---- letters

pub unpacked_length : (h : Header) (ls : List Letter) → length (unpacked_bytes h ls) ≡ 5 * length ls
unpacked_length h [] = refl
unpacked_length h (l ∷ ls) = rw (length-append, plain_length h l, unpacked_length h ls) (omega arith)

unpacked_decoded : (h : Header) (ls : List Letter) → AllFit h ls → Decoded (unpack_letter h) (chunks 5 (length ls) (unpacked_bytes h ls)) ls
unfolding chunks
unpacked_decoded h [] f = tt
unpacked_decoded h (l ∷ ls) f =
    rw (take_at (plain_fields h l) (unpacked_bytes h ls) 5 (plain_length h l), drop_at (plain_fields h l) (unpacked_bytes h ls) 5 (plain_length h l))
    ((unpack-letter h (plain_fields h l) l).1 (refl, f.0), unpacked_decoded h ls f.1)

-- Unpacked letters that are well formed are taken as they are.
pub unpacking_plain : (e : Edition) (h : Header) (ls : List Letter) → HeaderFits e h → AllFit h ls → unpacking e h (unpacked_bytes h ls) ≡ trace h ls
unfolding unpacking unpacked_parts
unpacking_plain e h ls v f =
    let k : (length (unpacked_bytes h ls) + 4) / 5 ≡ length ls = rw (unpacked_length h ls) (omega arith) in
    rw ((header-test e h).1 v, k) (decoded_letters (unpack_letter h) h 1 (chunks 5 (length ls) (unpacked_bytes h ls)) ls (unpacked_decoded h ls f))

decoded_plain : (h : Header) (k : ℕ) (s : List ℕ) (ls : List Letter) → length s ≤ 5 * k
    → Decoded (unpack_letter h) (chunks 5 k s) ls → AllFit h ls × (unpacked_bytes h ls ≡ s)
unfolding chunks
decoded_plain h zero [] [] l d = (tt, refl)
decoded_plain h zero (x ∷ s) [] l d = absurd (omega arith)
decoded_plain h zero s (a ∷ ls) l d = absurd d
decoded_plain h (suc k) s [] l d = absurd d
decoded_plain h (suc k) s (a ∷ ls) l d =
    let p = (unpack-letter h (take 5 s) a).0 d.0 in
    let m : length (drop 5 s) ≤ 5 * k = rw (length-drop 5 s) (omega arith) in
    let r = decoded_plain h k (drop 5 s) ls m d.1 in
    ((p.1, r.0), rw (p.0, r.1) (take-append-drop 5 s))

-- What is taken is well formed, and no byte of it is passed over.
pub plain_unpacking : (e : Edition) (h g : Header) (s : List ℕ) (ls : List Letter) → unpacking e h s ≡ trace g ls
    → (g ≡ h) × HeaderFits e h × AllFit h ls × (unpacked_bytes h ls ≡ s)
unfolding unpacking unpacked_parts
plain_unpacking e h g s ls =
    by_test (header_test e h)
    (λ t. rw t λ q.
    let d = letters_decoded (unpack_letter h) h 1 (chunks 5 ((length s + 4) / 5) s) g ls q in
    let p = decoded_plain h ((length s + 4) / 5) s ls (omega arith) d.1 in
    (d.0, (header-test e h).0 t, p.0, p.1))
    λ t. rw t λ q. let n : ◌≡◌ {A = ℕ} 0 1 = cc in absurd (omega arith)

-- ---- what was written is read again

-- After an answer of n bytes, the first n bytes of the output are read as the header and the letters that were given.
pub written_read : (e : Edition) → Roomy e → (h : Header) (s entry exit : List ℕ) (n : ℕ) → WroteTrace e (unpacking e h s) entry exit (value n)
    → (ls : List Letter) × (unpacked_bytes h ls ≡ s) × (reading e (take n exit) ≡ trace h ls)
unfolding written_length written_over
written_read e r h s entry exit n w = go (unpacking e h s) refl w.answered w.bytes
  where
    go : (x : TraceReading) → unpacking e h s ≡ x → value n ≡ written_length e (length entry) x → exit ≡ written_over e entry x
        → (ls : List Letter) × (unpacked_bytes h ls ≡ s) × (reading e (take n exit) ≡ trace h ls)
    go (TraceReading.refused a b) q p o = absurd (let z : ◌≡◌ {A = ℕ} 0 1 = cc in omega arith)
    go (trace g ls) q p o =
        let (i, v, f, u) = plain_unpacking e h g s ls q in
        let size = length (packing e g ls) in
        let (t, m) = chosen (leb size (length entry)) size n 6 0 (sym p) in
        let out : exit ≡ packing e g ls ++ drop size entry = rw t at o in
        let taken : take n exit ≡ packing e g ls = ap (take n) out ∙ take_at (packing e g ls) (drop size entry) n m in
        let back : reading e (packing e g ls) ≡ trace g ls = reading_packing e r g ls (subst (HeaderFits e) (sym i) v) (subst (λ k. AllFit k ls) (sym i) f) in
        (ls, u, ap (reading e) taken ∙ back ∙ ap (λ k. trace k ls) i)

-- ---- what was read is written again

-- The letters of bytes that are read as a trace, unpacked, are taken as they are, and are packed to those bytes.
pub read_written : (e : Edition) → Roomy e → (s : List ℕ) (h : Header) (ls : List Letter) → Bytes s → reading e s ≡ trace h ls
    → (unpacking e h (unpacked_bytes h ls) ≡ trace h ls) × (packing e h ls ≡ s)
read_written e r s h ls b q = let (v, f) = reading_fits e r s h ls q in (unpacking_plain e h ls v f, packing_reading e r s h ls b q)
