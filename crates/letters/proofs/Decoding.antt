-- Decoding a letter by its fields: a word is refused where a field that its letter uses lies outside the header's counts, or one that it does not use is not 0.
use mathlib.Core.Path.{◌≡◌, refl, sym, ap, subst, ◌∙◌}
use Prim.Native.Nat.{ℕ, ◌/◌, ◌%◌, ◌≤◌, ◌<◌}
use native.Mathlib.Omega.{arith}
use mathlib.Core.Bool.{Bool, true, false}
use mathlib.Core.List.{List, [], ◌∷◌}
use lib.ListN.{get_or}
use Rattle.base.specs.Choice.{pick}
use Rattle.base.proofs.Theory.Choice.{by_test}
use Rattle.base.specs.Masks.{has}
use Rattle.letters.specs.declared.Header.{Header}
use Rattle.letters.specs.declared.Letter.{Letter}
use Rattle.letters.specs.declared.Letter.TheVariants.{Copy, Apply, Equal, Unequal}
use Rattle.letters.specs.Letters.{Fits}
use Rattle.letters.specs.Answers.{value, refusal}
use Rattle.letters.specs.Packing.{join, split}
use Rattle.letters.proofs.Theory.Packing.{join_split, split_join}
use Rattle.letters.specs.Editions.{first_edition}
use Rattle.letters.specs.Letters.{HeaderFits}
use Rattle.letters.specs.Coding.{header_test, decode_letter}
use Rattle.letters.specs.Words.{letter_fields, letter_word}
use Rattle.letters.proofs.Theory.WordLaws.{header-test, first_roomy, decode-letter, decode_letter_refused}

-- What every kind of letter asks: "used registers and functions lie below the header's counts", and "spare and unused fields are 0", which is a register of
-- every header.
pub record Counted (h : Header) (w : ℕ) : Type 0 where
  pub header : header_test first_edition h ≡ true
  pub spare : w % 8 ≡ 0
  pub target : w / 512 % 8 < h.registers
  pub first : w / 64 % 8 < h.registers
  pub second : w / 8 % 8 < h.registers

-- what the tests of the code say
pub counted : {h : Header} {w : ℕ} → true ≡ header_test first_edition h → w % 8 ≡ 0 → w / 512 % 8 < h.registers → w / 64 % 8 < h.registers
    → w / 8 % 8 < h.registers → Counted h w
counted t s x y z = record { header = sym t; spare = s; target = x; first = y; second = z }

-- What holds of the fields of every packed letter.
pub record Proper (h : Header) (k f x y z s : ℕ) : Type 0 where
  pub spare : s ≡ 0
  pub target : x < h.registers
  pub first : y < h.registers
  pub second : z < h.registers
  pub function : k ≡ 1 → f < h.functions
  pub alone : k ≡ 1 → has h.binary f ≡ false → z ≡ 0
  pub plain : (k ≡ 1 → ⊥) → f ≡ 0
  pub copied : k ≡ 0 → z ≡ 0
  pub tested : (k ≡ 0 → ⊥) → (k ≡ 1 → ⊥) → x ≡ 0

abbrev ProperFields : Header → List ℕ → Type 0
ProperFields h fields = Proper h (get_or fields 0 0) (get_or fields 1 0) (get_or fields 2 0) (get_or fields 3 0) (get_or fields 4 0) (get_or fields 5 0)

proper_two : (h : Header) (x f y z : ℕ) (t : Bool) → has h.binary f ≡ t → 1 ≤ h.registers → Fits h (Apply x f y z) → Proper h 1 f x y (pick t (λ _. z)
    (λ _. 0)) 0
proper_two h x f y z true e o v = record {
  spare = refl;
  target = v.0;
  first = v.2;
  second = v.3;
  function = λ q. v.1;
  alone = λ q b. let c : ◌≡◌ {A =
      ℕ} 0 1 = cc in absurd (omega arith);
  plain = λ n. absurd (n refl);
  copied = λ q. absurd (omega arith);
  tested = λ n m. absurd (m refl);
}
proper_two h x f y z false e o v = record {
  spare = refl;
  target = v.0;
  first = v.2;
  second = o;
  function = λ q. v.1;
  alone = λ q b. refl;
  plain = λ n.
      absurd (n refl);
  copied = λ q. refl;
  tested = λ n m. absurd (m refl);
}

proper : (h : Header) (l : Letter) → HeaderFits first_edition h → Fits h l → ProperFields h (letter_fields h l)
proper h (Copy x y) o v = record {
  spare = refl;
  target = v.0;
  first = v.1;
  second = o.some;
  function = λ q. absurd (omega arith);
  alone = λ q b. refl;
  plain = λ n. refl;
  copied = λ q. refl;
  tested = λ n m. absurd (n refl);
}
proper h (Apply x f y z) o v = proper_two h x f y z (has h.binary f) refl o.some v
proper h (Equal x y) o v = record {
  spare = refl;
  target = o.some;
  first = v.0;
  second = v.1;
  function = λ q. absurd (omega arith);
  alone = λ q b. absurd
      (omega arith);
  plain = λ n. refl;
  copied = λ q. absurd (omega arith);
  tested = λ n m. refl;
}
proper h (Unequal x y) o v = record {
  spare = refl;
  target = o.some;
  first = v.0;
  second = v.1;
  function = λ q. absurd (omega arith);
  alone = λ q b.
      absurd (omega arith);
  plain = λ n. refl;
  copied = λ q. absurd (omega arith);
  tested = λ n m. refl;
}

-- The fields of a word, as the code reads them.
abbrev pub FieldsProper : Header → ℕ → Type 0
FieldsProper h w = Proper h (w / 16384 % 4) (w / 4096 % 4) (w / 512 % 8) (w / 64 % 8) (w / 8 % 8) (w / 1 % 8)

abbrev fields_of : ℕ → List ℕ
fields_of w = w / 16384 % 4 ∷ w / 4096 % 4 ∷ w / 512 % 8 ∷ w / 64 % 8 ∷ w / 8 % 8 ∷ w / 1 % 8 ∷ []

-- refused, if the fields are none of a packed letter
pub refuse : (h : Header) (w : ℕ) → w < 65536 → (FieldsProper h w → ⊥) → refusal 4 0 ≡ decode_letter first_edition h w
unfolding letter_word
refuse h w small n = sym ((decode_letter_refused first_roomy h w).1 λ l o v e.
    let fields = sym (split_join first_edition.letter (letter_fields h l) (first_roomy.letter_sized h l o v)) in
    n (subst (ProperFields h) (fields ∙ ap (split first_edition.letter) e) (proper h l o v)))

-- read, if its fields are those of a letter that fits
read : (h : Header) (w : ℕ) → w < 65536 → (l : Letter) → Counted h w → Fits h l → letter_fields h l ≡ fields_of w → value l ≡ decode_letter first_edition h w
unfolding letter_word
read h w small l t v e =
    let word = ap (join first_edition.letter) e ∙ join_split first_edition.letter w small in
    sym ((decode-letter first_roomy h w l).1 ((header-test first_edition h).0 t.header, v, word))

pub clash : {b : Bool} → b ≡ true → b ≡ false → ⊥
clash t f = let z : ◌≡◌ {A = ℕ} 0 1 = cc in omega arith

six : {a b c d e f a' b' c' d' e' f' : ℕ} → a ≡ a' → b ≡ b' → c ≡ c' → d ≡ d' → e ≡ e' → f ≡ f' → a ∷ b ∷ c ∷ d ∷ e ∷ f ∷ [] ≡ a' ∷ b' ∷ c' ∷ d' ∷ e' ∷ f' ∷ []
six p q r s t u = rw (p, q, r, s, t, u)

picked : (t : Bool) (a b : ℕ) → t ≡ true → pick t (λ _. a) (λ _. b) ≡ a
picked true a b e = refl
picked false a b e = absurd (clash e refl)

unpicked : (t : Bool) (a b : ℕ) → t ≡ false → pick t (λ _. a) (λ _. b) ≡ b
unpicked false a b e = refl
unpicked true a b e = absurd (clash refl e)

-- a kind that is none of the others
last_kind : (k : ℕ) → k < 4 → (k ≡ 0 → ⊥) → (k ≡ 1 → ⊥) → (k ≡ 2 → ⊥) → k ≡ 3
last_kind k h a b d = omega (arith, a, b, d)

-- a function of two arguments
two_given : (t : Bool) (a b : ℕ) → t ≡ true → ◌≡◌ {A = ℕ} (pick t (λ _. 2) (λ _. 1)) 1 → a ≡ b
two_given true a b e q = absurd (omega arith)
two_given false a b e q = absurd (clash e refl)

-- no letter is well formed under a header that is not
pub under_none : (h : Header) (w : ℕ) → false ≡ header_test first_edition h → refusal 4 0 ≡ decode_letter first_edition h w
unfolding decode_letter
under_none h w e = rw (← e)

-- The letters that a word with such fields is read as.
module _ (h : Header) (w : ℕ) (small : w < 65536) (c : Counted h w) where
  read_two : w / 16384 % 4 ≡ 1 → w / 4096 % 4 < h.functions → has h.binary (w / 4096 % 4) ≡ true
      → value (Apply (w / 512 % 8) (w / 4096 % 4) (w / 64 % 8) (w / 8 % 8)) ≡ decode_letter first_edition h w
  read_two k f t = read h w small (Apply _ _ _ _) c (c.target, f, c.first, c.second, two_given _ _ _ t)
      (six (sym k) refl refl refl (picked _ _ _ t) (omega (arith, c.spare)))

  read_one : w / 16384 % 4 ≡ 1 → w / 4096 % 4 < h.functions → has h.binary (w / 4096 % 4) ≡ false → w / 8 % 8 ≡ 0
      → value (Apply (w / 512 % 8) (w / 4096 % 4) (w / 64 % 8) (w / 64 % 8)) ≡ decode_letter first_edition h w
  read_one k f t z = read h w small (Apply _ _ _ _) c (c.target, f, c.first, c.first, λ e. refl)
      (six (sym k) refl refl refl (unpicked _ _ _ t ∙ sym z) (omega (arith, c.spare)))

  pub read_application : w / 16384 % 4 ≡ 1 → w / 4096 % 4 < h.functions → (has h.binary (w / 4096 % 4) ≡ false → w / 8 % 8 ≡ 0)
      → (q : ℕ) → q ≡ pick (has h.binary (w / 4096 % 4)) (λ _. w / 8 % 8) (λ _. w / 64 % 8)
      → value (Apply (w / 512 % 8) (w / 4096 % 4) (w / 64 % 8) q) ≡ decode_letter first_edition h w
  read_application k f z q m = by_test (has h.binary (w / 4096 % 4))
      (λ t. ap (λ i. value (Apply (w / 512 % 8) (w / 4096 % 4) (w / 64 % 8) i)) (m ∙ picked _ _ _ t) ∙ read_two k f t)
      (λ t. ap (λ i. value (Apply (w / 512 % 8) (w / 4096 % 4) (w / 64 % 8) i)) (m ∙ unpicked _ _ _ t) ∙ read_one k f t (z t))

  pub read_copy : w / 16384 % 4 ≡ 0 → w / 4096 % 4 ≡ 0 → w / 8 % 8 ≡ 0 → value (Copy (w / 512 % 8) (w / 64 % 8)) ≡ decode_letter first_edition h w
  read_copy k f z = read h w small (Copy _ _) c (c.target, c.first) (six (sym k) (sym f) refl refl (sym z) (omega (arith, c.spare)))

  pub read_equal : w / 16384 % 4 ≡ 2 → w / 4096 % 4 ≡ 0 → w / 512 % 8 ≡ 0 → value (Equal (w / 64 % 8) (w / 8 % 8)) ≡ decode_letter first_edition h w
  read_equal k f x = read h w small (Equal _ _) c (c.first, c.second) (six (sym k) (sym f) (sym x) refl refl (omega (arith, c.spare)))

  pub read_unequal : (w / 16384 % 4 ≡ 0 → ⊥) → (w / 16384 % 4 ≡ 1 → ⊥) → (w / 16384 % 4 ≡ 2 → ⊥) → w / 4096 % 4 ≡ 0 → w / 512 % 8 ≡ 0
      → value (Unequal (w / 64 % 8) (w / 8 % 8)) ≡ decode_letter first_edition h w
  read_unequal a b d f x =
      let k : w / 16384 % 4 ≡ 3 = last_kind _ (omega arith) a b d in
      read h w small (Unequal _ _) c (c.first, c.second) (six (sym k) (sym f) (sym x) refl refl (omega (arith, c.spare)))
