-- Decoding and encoding are inverse on words: a word is read as the one well-formed header or letter that packs to it, and refused if there is none.
use mathlib.Core.Path.{◌≡◌, refl, sym, ap, ◌∙◌, subst}
use mathlib.Core.Logic.{◌↔◌}
use Prim.Native.Nat.{ℕ, zero, suc, ◌/◌, ◌%◌, ◌^◌, ◌<◌}
use native.Mathlib.Omega.{arith}
use native.Mathlib.Nat.{mod-eq_of_lt, mod-lt, div-one, lt_of_lt_of_le}
use native.Mathlib.Numerals.{add-one}
use mathlib.Core.Bool.{Bool, true, false, ◌&&◌, ◌||◌}
use mathlib.Core.List.{[], ◌∷◌}
use lib.Dec.{leb, ltb, eqb}
use lib.ListN.{replicate}
use lib.Seq.{drop-append_seam}
use lib.Pow as pow
use borrow.Author.Tests.{lt-ltb, le-leb, eq-eqb, ltb-true, leb-true, eqb-true}
use Rattle.base.specs.Choice.{pick}
use Rattle.base.proofs.Theory.Choice.{by_test}
use Rattle.base.specs.Masks.{has}
use Rattle.letters.specs.declared.Header.{Header}
use Rattle.letters.specs.declared.Letter.{Letter}
use Rattle.letters.specs.declared.Letter.TheVariants.{Copy, Apply, Equal, Unequal}
use Rattle.letters.specs.Letters.{Fits}
use Rattle.letters.specs.Packing.{Sized, split}
use Rattle.letters.proofs.Theory.Packing.{join_lt, split_join}
use Rattle.letters.specs.Editions.{Edition, first_edition}
use Rattle.letters.specs.Answers.{Answer, value, refusal}
use Rattle.letters.specs.Letters.{HeaderFits}
use Rattle.letters.specs.Words.{bits_from, arity_field, header_fields, header_word, letter_fields, letter_word}
use Rattle.letters.specs.Coding.{mask_of, header_test, apply_test, fits_test, named_header, decode_header, letter_by, named_letter, decode_letter}
use Rattle.letters.specs.Encoding.{encode_header, encode_letter}
use Rattle.letters.specs.Roomy.{Roomy}

-- ---- tests

pub and_true : (a b : Bool) → (a && b) ≡ true → (a ≡ true) × (b ≡ true)
and_true true b e = (refl, e)
and_true false b e = let z : ◌≡◌ {A = ℕ} 0 1 = cc in absurd (omega arith)

and_four : (a b c d : Bool) → (a && (b && (c && d))) ≡ true → (a ≡ true) × (b ≡ true) × (c ≡ true) × (d ≡ true)
and_four a b c d e =
    let p = and_true a (b && (c && d)) e in
    let q = and_true b (c && d) p.1 in
    let r = and_true c d q.1 in
    (p.0, q.0, r.0, r.1)

-- what a choice between a value and a refusal says
pub chosen : {A : Type 0} (t : Bool) (a b : A) (n p : ℕ) → pick t (λ _. value a) (λ _. refusal n p) ≡ value b → (t ≡ true) × (a ≡ b)
chosen true a b n p e = (refl, cc)
chosen false a b n p e = let z : ◌≡◌ {A = ℕ} 0 1 = cc in absurd (omega arith)

unchosen : {A : Type 0} (t : Bool) (a : A) (n p : ℕ) → (t ≡ true → ⊥) → pick t (λ _. value a) (λ _. refusal n p) ≡ refusal n p
unchosen true a n p f = absurd (f refl)
unchosen false a n p f = refl

not_both : {A : Type 0} {x : Answer A} {a : A} {n p : ℕ} → x ≡ refusal n p → x ≡ value a → ⊥
not_both u v = let z : ◌≡◌ {A = ℕ} 0 1 = cc in omega arith

pub header-test : (e : Edition) (h : Header) → (header_test e h ≡ true) ↔ HeaderFits e h
unfolding header_test
header-test e h = (
  λ t.
      let a = and_four (leb 1 h.registers) (leb h.registers e.registers) (leb h.functions e.functions) (ltb h.binary (2 ^ h.functions)) t in
      record { some = leb-true _ _ a.0; registers = leb-true _ _ a.1; functions = leb-true _ _ a.2; binary = ltb-true _ _ a.3 },
  λ v. rw (le-leb _ _ v.some, le-leb _ _ v.registers, le-leb _ _ v.functions, lt-ltb _ _ v.binary),
)

two_below : (n x y : ℕ) → ((ltb x n && ltb y n) ≡ true) ↔ ((x < n) × (y < n))
two_below n x y =
    (λ t. let a = and_true (ltb x n) (ltb y n) t in (ltb-true x n a.0, ltb-true y n a.1), λ v. rw (lt-ltb x n v.0, lt-ltb y n v.1))

-- the second argument is the first where the function takes one
same_arguments : (two : Bool) (y z : ℕ) → ((two || eqb y z) ≡ true) ↔ (◌≡◌ {A = ℕ} (pick two (λ _. 2) (λ _. 1)) 1 → y ≡ z)
same_arguments true y z = (λ t e. absurd (omega arith), λ f. refl)
same_arguments false y z = (λ t e. eqb-true y z t, λ f. eq-eqb y z (f refl))

pub fits-test : (h : Header) (l : Letter) → (fits_test h l ≡ true) ↔ Fits h l
unfolding fits_test apply_test
fits-test h (Copy x y) = two_below h.registers x y
fits-test h (Equal x y) = two_below h.registers x y
fits-test h (Unequal x y) = two_below h.registers x y
fits-test h (Apply x f y z) =
    let n = h.registers in
    let last = has h.binary f || eqb y z in (
      λ t.
          let a = and_four (ltb x n) (ltb f h.functions) (ltb y n) (ltb z n && last) t in
          let b = and_true (ltb z n) last a.3 in
          (ltb-true x n a.0, ltb-true f h.functions a.1, ltb-true y n a.2, ltb-true z n b.0, (same_arguments (has h.binary f) y z).0 b.1),
      λ v.
          rw (lt-ltb x n v.0, lt-ltb f h.functions v.1, lt-ltb y n v.2, lt-ltb z n v.3) ((same_arguments (has h.binary f) y z).1 v.4),
    )

-- ---- arity bits

-- a mask is that of its bits
mask_low : (f k m : ℕ) → mask_of (bits_from f k m) ≡ m / 2 ^ f % 2 ^ k
mask_low f zero m = omega arith
mask_low f (suc k) m =
    let next : m / 2 ^ suc f ≡ m / 2 ^ f / 2 = sym (pow.shr-shr m f 1 ∙ ap (λ n. m / 2 ^ n) (add-one f)) in
    rw (mask_low (suc f) k m, next, ← add-one k, pow.mod-pow-add (m / 2 ^ f) k 1) (omega arith)

bits_sized : (f k m : ℕ) → Sized (replicate k 1) (bits_from f k m)
bits_sized f zero m = tt
bits_sized f (suc k) m = (mod-lt (m / 2 ^ f) (omega arith), bits_sized (suc f) k m)

pub first_roomy : Roomy first_edition
first_roomy = record {
  some = omega arith;
  header_total = refl;
  letter_total = refl;
  header_sized = λ h v. (omega arith, (omega arith, (join_lt (replicate 4 1) (bits_from 0 4 h.binary) (bits_sized 0 4 h.binary), (omega arith, tt))));
  letter_sized = sized;
}
  where
    second : (t : Bool) (z : ℕ) → z < 8 → pick t (λ _. z) (λ _. 0) < 8
    second true z l = l
    second false z l = omega arith

    sized : (h : Header) (l : Letter) → HeaderFits first_edition h → Fits h l → Sized first_edition.letter (letter_fields h l)
    sized h (Copy x y) v w = (omega arith, (omega arith, (omega arith, (omega arith, (omega arith, (omega arith, tt))))))
    sized h (Apply x f y z) v w = (omega arith, (omega arith, (omega arith, (omega arith, (second (has h.binary f) z (omega arith), (omega arith, tt))))))
    sized h (Equal x y) v w = (omega arith, (omega arith, (omega arith, (omega arith, (omega arith, (omega arith, tt))))))
    sized h (Unequal x y) v w = (omega arith, (omega arith, (omega arith, (omega arith, (omega arith, (omega arith, tt))))))

-- ---- headers

module _ {e : Edition} (r : Roomy e) where
  -- the fields of a header's word name the header
  named-header : (h : Header) → HeaderFits e h → named_header e (split e.header (header_word e h)) ≡ h
  unfolding named_header header_word
  named-header h v =
      let k = e.functions in
      let s : split (replicate k 1) (arity_field e h) ≡ bits_from 0 k h.binary =
      split_join (replicate k 1) (bits_from 0 k h.binary) (bits_sized 0 k h.binary) in
      let l : h.binary < 2 ^ k = lt_of_lt_of_le v.binary (pow.pow_mono v.functions) in
      let b : mask_of (split (replicate k 1) (arity_field e h)) ≡ h.binary =
      ap mask_of s ∙ mask_low 0 k h.binary ∙ rw (div-one h.binary) (mod-eq_of_lt l) in
      rw (
        split_join e.header (header_fields e h) (r.header_sized h v),
        drop-append_seam e.lead
            (h.registers ∷ h.functions ∷ arity_field e h ∷ 0 ∷ []),
        b,
      )

  -- A word is read as h exactly if h is well formed and packs to it.
  pub decode-header : (w : ℕ) (h : Header) → (decode_header e w ≡ value h) ↔ (HeaderFits e h × (header_word e h ≡ w))
  unfolding decode_header
  decode-header w h =
      let x = named_header e (split e.header w) in (
        λ q.
            let c = chosen (header_test e x && eqb (header_word e x) w) x h 3 0 q in
            let b = and_true (header_test e x) (eqb (header_word e x) w) c.0 in
            (subst (HeaderFits e) c.1 ((header-test e x).0 b.0), ap (header_word e) (sym c.1) ∙ eqb-true (header_word e x) w b.1),
        λ v.
            let n : named_header e (split e.header w) ≡ h = ap (λ u. named_header e (split e.header u)) (sym v.1) ∙ named-header h v.0 in
            rw (n, (header-test e h).1 v.0, eq-eqb (header_word e h) w v.1),
      )

  -- It is refused exactly if no well-formed header packs to it.
  pub decode_header_refused : (w : ℕ) → (decode_header e w ≡ refusal 3 0) ↔ ((h : Header) → HeaderFits e h → header_word e h ≡ w → ⊥)
  unfolding decode_header
  decode_header_refused w =
      let x = named_header e (split e.header w) in (
        λ q h v g. not_both q ((decode-header w h).1 (v, g)),
        λ f. unchosen (header_test e x && eqb (header_word e x) w) x 3 0 λ q. let d = (decode-header w x).0 (rw q) in f x d.0 d.1,
      )

  -- Encoding and decoding are inverse.
  pub encode_decode_header : (h : Header) (w : ℕ) → (encode_header e h ≡ value w) ↔ (decode_header e w ≡ value h)
  unfolding encode_header
  encode_decode_header h w = (
    λ q. let c = chosen (header_test e h) (header_word e h) w 3 0 q in (decode-header w h).1 ((header-test e h).0 c.0, c.1),
    λ q. let d = (decode-header w h).0 q in rw ((header-test e h).1 d.0, d.1),
  )

-- ---- letters

-- a letter's own fields name the letter
named_fields : (h : Header) (l : Letter) → Fits h l → named_letter h (letter_fields h l) ≡ l
unfolding named_letter letter_by
named_fields h (Copy x y) v = refl
named_fields h (Apply x f y z) v = by_test (has h.binary f) (λ t. rw t) λ t. rw t (ap (λ (n : ℕ). Apply x f y n) (v.4 (rw t)))
named_fields h (Equal x y) v = refl
named_fields h (Unequal x y) v = refl

module _ {e : Edition} (r : Roomy e) (h : Header) where
  named-letter : (l : Letter) → HeaderFits e h → Fits h l → named_letter h (split e.letter (letter_word e h l)) ≡ l
  unfolding letter_word
  named-letter l v w = ap (named_letter h) (split_join e.letter (letter_fields h l) (r.letter_sized h l v w)) ∙ named_fields h l w

  -- A word is read as l exactly if l is well formed and packs to it.
  pub decode-letter : (w : ℕ) (l : Letter) → (decode_letter e h w ≡ value l) ↔ (HeaderFits e h × Fits h l × (letter_word e h l ≡ w))
  unfolding decode_letter
  decode-letter w l =
      let x = named_letter h (split e.letter w) in (
        λ q.
            let c = chosen ((header_test e h && fits_test h x) && eqb (letter_word e h x) w) x l 4 0 q in
            let b = and_true (header_test e h && fits_test h x) (eqb (letter_word e h x) w) c.0 in
            let a = and_true (header_test e h) (fits_test h x) b.0 in (
              (header-test e h).0 a.0,
              subst (Fits h) c.1 ((fits-test h x).0 a.1),
              ap (letter_word e h) (sym c.1)
                  ∙ eqb-true (letter_word e h x) w b.1,
            ),
        λ v.
            let n : named_letter h (split e.letter w) ≡ l = ap (λ u. named_letter h (split e.letter u)) (sym v.2) ∙ named-letter l v.0 v.1 in
            rw (n, (header-test e h).1 v.0, (fits-test h l).1 v.1, eq-eqb (letter_word e h l) w v.2),
      )

  -- It is refused exactly if no well-formed letter packs to it.
  pub decode_letter_refused : (w : ℕ) → (decode_letter e h w ≡ refusal 4 0) ↔ ((l : Letter) → HeaderFits e h → Fits h l → letter_word e h l ≡ w → ⊥)
  unfolding decode_letter
  decode_letter_refused w =
      let x = named_letter h (split e.letter w) in (
        λ q l v f g. not_both q ((decode-letter w l).1 (v, f, g)),
        λ f. unchosen ((header_test e h && fits_test h x) && eqb (letter_word e h x) w) x 4 0 λ q. let d = (decode-letter w x).0 (rw q) in f x d.0 d.1 d.2,
      )

  -- Encoding and decoding are inverse.
  pub encode_decode_letter : (l : Letter) (w : ℕ) → (encode_letter e h l ≡ value w) ↔ (decode_letter e h w ≡ value l)
  unfolding encode_letter
  encode_decode_letter l w = (
    λ q.
        let c = chosen (header_test e h && fits_test h l) (letter_word e h l) w 4 0 q in
        let a = and_true (header_test e h) (fits_test h l) c.0 in
        (decode-letter w l).1 ((header-test e h).0 a.0, (fits-test h l).0 a.1, c.1),
    λ q. let d = (decode-letter w l).0 q in rw ((header-test e h).1 d.0, (fits-test h l).1 d.1, d.2),
  )
