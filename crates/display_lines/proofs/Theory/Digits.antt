-- The hexadecimal digits of a word, as two names.
use mathlib.Core.Path.{◌≡◌, refl, sym, ap, ◌∙◌, subst}
use mathlib.Core.List.{List, [], ◌∷◌, ◌++◌}
use Prim.Native.Nat.{ℕ, zero, suc, ◌+◌, ◌*◌, ◌/◌, ◌%◌, ◌^◌, ◌≤◌, ◌<◌, ◌-◌}
use native.Mathlib.Omega.{arith}
use native.Mathlib.Nat.{pow-zero, pow-suc, pow-succ', pow-le-pow_right, div-div-eq-div-mul, div-one, zero-add, suc-add}
use lib.Dec.{ltb}
use lib.ListN.{length, get_or, take, drop, drop_of_length-le}
use lib.Seq.{drop-cons, take_all}
use Rattle.io.specs.Digits.{hex_digit_ascii, last_digits, IsDigitCount}
use Rattle.files.proofs.Theory.Digits.{width_kept}
use Rattle.base.proofs.Theory.Choice.{by_test}
use Rattle.tokens.specs.Bytes.{spelling}
use Rattle.tokens.proofs.Theory.Keys.{TokenBytes}
use Rattle.text.specs.Names.{name_text}
use Rattle.text.proofs.Theory.Names.{name_back}
use Rattle.display_lines.specs.Lines.{hex_base, word_digits}
use Rattle.display_lines.specs.Fields.{name_digits, half_word}

glyph_byte : (d : ℕ) → d < hex_base → (0 < hex_digit_ascii d) × (hex_digit_ascii d < 256)
glyph_byte d h = by_test (ltb d 10) (λ t. rw t (omega arith, omega arith)) λ t. rw t (omega arith, omega arith)

-- ── one digit more ──
part_of : (b k n : ℕ) → n / b / b ^ k ≡ n / b ^ suc k
part_of b k n = div-div-eq-div-mul n b (b ^ k) ∙ ap (λ (d : ℕ). n / d) (sym (pow-succ' b k))

digits_first : (b k n : ℕ) → last_digits b (suc k) n ≡ hex_digit_ascii (n / b ^ k % b) ∷ last_digits b k n
digits_first b zero n = ap (λ (m : ℕ). hex_digit_ascii (m % b) ∷ []) (sym (div-one n) ∙ ap (λ (d : ℕ). n / d) (sym (pow-zero b)))
digits_first b (suc k) n =
    ap (λ (s : List ℕ). s ++ (hex_digit_ascii (n % b) ∷ []))
    (digits_first b k (n / b) ∙ ap (λ (m : ℕ). hex_digit_ascii (m % b) ∷ last_digits b k (n / b)) (part_of b k n))

digits_bytes : (k n : ℕ) → TokenBytes (last_digits hex_base k n)
digits_bytes zero n = tt
digits_bytes (suc k) n =
    let (p, q) = glyph_byte (n / hex_base ^ k % hex_base) (rest_small (n / hex_base ^ k)) in
    subst TokenBytes (sym (digits_first hex_base k n)) (p, q, digits_bytes k n)
  where
    rest_small : (m : ℕ) → m % hex_base < hex_base
    rest_small m = omega arith

-- ── a name from the end of some bytes ──
-- The bytes from i on, as the number of a name.
pub record NameFrom (bytes : List ℕ) (i name : ℕ) : Type 0 where
  pub first : name_digits ≤ i
  pub last : i ≤ word_digits
  pub name_is : name ≡ spelling (drop i bytes)
  pub within : name < 256 ^ (word_digits - i)

pub named_none : (bytes : List ℕ) → word_digits ≡ length bytes → NameFrom bytes word_digits 0
named_none bytes h = record {
  first = omega arith;
  last = omega arith;
  name_is = rw (drop_of_length-le bytes {i = word_digits} (omega (arith, h))) refl;
  within = omega arith;
}

-- One more digit still fits.
pub named_small : {bytes : List ℕ} {i name : ℕ} → NameFrom bytes i name → name_digits < i → name < 72057594037927936
named_small {bytes} {i} {name} s h =
    let l : 256 ^ (word_digits - i) ≤ 256 ^ 7 = pow-le-pow_right (let z : 0 < 256 = omega arith in z) (let z : word_digits - i ≤ 7 = omega arith in z) in
    under name (256 ^ (word_digits - i)) s.within l
  where
    under : (n p : ℕ) → n < p → p ≤ 256 ^ 7 → n < 72057594037927936
    under n p a b = omega arith

pub named_more : {bytes : List ℕ} {i name : ℕ} → NameFrom bytes i name → name_digits < i → word_digits ≡ length bytes → get_or bytes (i - 1) 0 < 256
    → NameFrom bytes (i - 1) (get_or bytes (i - 1) 0 + 256 * name)
named_more {bytes} {i} {name} s h l d = record {
  first = omega arith;
  last = omega (arith, s.last);
  name_is = ap (λ (n : ℕ). get_or bytes (i - 1) 0 + 256 * n) (s.name_is ∙ ap (λ (k : ℕ). spelling (drop k bytes)) behind)
      ∙ sym (ap spelling (drop-cons bytes (i - 1) 0 (omega (arith, s.last, l))));
  within = rw (places, pow-suc 256 (word_digits - i)) (under name (256 ^ (word_digits - i)) s.within);
}
  where
    behind : i ≡ suc (i - 1)
    behind = omega arith

    places : word_digits - (i - 1) ≡ suc (word_digits - i)
    places = omega (arith, s.last)

    under : (n p : ℕ) → n < p → get_or bytes (i - 1) 0 + 256 * n < p * 256
    under n p a = omega arith

last_behind : (j k n : ℕ) → drop j (last_digits hex_base (j + k) n) ≡ last_digits hex_base k n
last_behind zero k n = rw zero-add refl
last_behind (suc j) k n = rw (suc-add, digits_first hex_base (j + k) n) (last_behind j k n)

-- The digits of a number as `io::hex` writes them: the last ones are those of the name.
pub named_whole : {bytes : List ℕ} {i name : ℕ} (number count : ℕ) → NameFrom bytes i name → i ≤ name_digits → word_digits ≡ length bytes → number < 2 ^ 64
    → IsDigitCount hex_base word_digits number count → take count bytes ≡ last_digits hex_base count number
    → name ≡ spelling (last_digits hex_base name_digits number)
named_whole {bytes} {i} {name} number count s h l n w e =
    let whole : count ≡ word_digits = width_kept word_digits number count n w.0 w.2 in
    let all : bytes ≡ last_digits hex_base word_digits number =
    sym (take_all count bytes (omega (arith, whole, l))) ∙ e ∙ ap (λ (k : ℕ). last_digits hex_base k number) whole in
    let here : i ≡ name_digits = omega (arith, s.first) in
    s.name_is ∙ ap (λ (k : ℕ). spelling (drop k bytes)) here ∙ ap (λ (b : List ℕ). spelling (drop name_digits b)) all
    ∙ ap spelling (last_behind name_digits name_digits number)

-- ── the two halves of a word ──
halves : (w : ℕ) → last_digits hex_base word_digits w ≡ last_digits hex_base name_digits (w / half_word) ++ last_digits hex_base name_digits w
halves w = ap (λ (n : ℕ). last_digits hex_base name_digits n ++ last_digits hex_base name_digits w) (half w)
  where
    half : (w : ℕ) → w / 16 / 16 / 16 / 16 / 16 / 16 / 16 / 16 ≡ w / half_word
    half w = omega arith

-- They are printed as two names.
pub word_form : (w : ℕ) → last_digits hex_base word_digits w ++ (10 ∷ [])
    ≡ name_text (spelling (last_digits hex_base name_digits (w / half_word))) ++ (name_text (spelling (last_digits hex_base name_digits w)) ++ (10 ∷ []))
word_form w = ap (λ (s : List ℕ). s ++ (10 ∷ [])) (halves w)
    ∙ sym (λ i. name_back (last_digits hex_base name_digits (w / half_word)) (digits_bytes name_digits (w / half_word)) i
    ++ (name_back (last_digits hex_base name_digits w) (digits_bytes name_digits w) i ++ (10 ∷ [])))
