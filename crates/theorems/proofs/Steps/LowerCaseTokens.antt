-- The tokens of a text and those of the same text in lower case.
use mathlib.Core.Path.{◌≡◌, refl, sym, ap, ◌∙◌}
use Prim.Native.Nat.{ℕ, zero, suc, ◌+◌, ◌*◌, ◌≤◌, ◌<◌}
use native.Mathlib.Omega.{arith}
use mathlib.Core.Bool.{Bool, true, false, not, ◌||◌}
use mathlib.Core.List.{List, [], ◌∷◌}
use lib.Dec.{leb, eqb}
use lib.ListN.{length, get_or, drop, length-map}
use lib.Seq.{slice, ext_get_or}
use borrow.Author.Tests.{ne_eqb, le-leb, lt-leb, leb-true}
use Rattle.base.specs.Choice.{pick}
use Rattle.base.proofs.Theory.Choice.{by_test}
use Rattle.letters.proofs.Theory.WordLaws.{and_true}
use Rattle.tokens.specs.Bytes.{blank, lower, capital, lowered, lower_case, letter, digit, inner, symbol, mark, gap, name_length, longest_name, width}
use Rattle.tokens.specs.Tokens.{token, token_at, place_behind, place_of, spellings}
use Rattle.tokens.specs.declared.Token.{Token}
use Rattle.tokens.proofs.Theory.BytesLaws.{lowered_at, lower_drop, lower_slice}
use Rattle.tokens.proofs.Theory.TokensLaws.{behind_both, spelling_at, spellings_length}
use Rattle.refusals.specs.FirstNo.{key_of}

-- ---- a byte in lower case

-- by cases: a capital, or not
by_capital : {A : Type 0} (b : ℕ) → (capital b ≡ true → 65 ≤ b → b ≤ 90 → A) → (capital b ≡ false → A) → A
by_capital b f g = by_test (capital b) (λ t. let u = and_true (leb 65 b) (leb b 90) t in f t (leb-true 65 b u.0) (leb-true b 90 u.1)) g

-- what takes each capital for its lower-case letter takes each byte for itself in lower case
case_kept : {A : Type 0} (f : ℕ → A) → ((b : ℕ) → 65 ≤ b → b ≤ 90 → f (b + 32) ≡ f b) → (b : ℕ) → f (lowered b) ≡ f b
case_kept f h b = by_capital b (λ t l m. rw t (h b l m)) λ t. rw t

module _ (b : ℕ) (l : 65 ≤ b) (h : b ≤ 90) where
  lowered_capital : lowered b ≡ b + 32
  lowered_capital = rw (le-leb 65 b l, le-leb b 90 h)

  lowered_lower : lowered (b + 32) ≡ b + 32
  lowered_lower = rw (le-leb 65 (b + 32) (omega arith), lt-leb (b + 32) 90 (omega arith))

  -- so both are letters
  no_letter : (d : ℕ) → lowered d ≡ b + 32 → letter d ≡ false → ⊥
  no_letter d e f =
      let t : lower (b + 32) ≡ true = rw (le-leb 97 (b + 32) (omega arith), le-leb (b + 32) 122 (omega arith)) in
      let x : true ≡ false = sym t ∙ ap lower (sym e) ∙ f in
      let y : ◌≡◌ {A = ℕ} 0 1 = cc in omega arith

lowered_twice : (b : ℕ) → lowered (lowered b) ≡ lowered b
lowered_twice = case_kept lowered λ b l h. lowered_lower b l h ∙ sym (lowered_capital b l h)

lowered_other : (b : ℕ) → letter b ≡ false → lowered b ≡ b
lowered_other b e = by_capital b (λ t l h. absurd (no_letter b l h b (lowered_capital b l h) e)) λ t. rw t

-- a byte that is no letter is equal to itself alone
pub other_alone : (b c : ℕ) → letter b ≡ false → lowered b ≡ lowered c → b ≡ c
other_alone b c e h = sym (lowered_other b e) ∙ h ∙ lowered_other c (ap lower (sym h) ∙ e)

-- a byte is a sign c, which is no letter
sign_kept : (c : ℕ) → letter c ≡ false → (b : ℕ) → eqb (lowered b) c ≡ eqb b c
sign_kept c e = case_kept (λ b. eqb b c) λ b l h.
    let other : (d : ℕ) → lowered d ≡ b + 32 → d ≡ c → ⊥ = λ d u w. no_letter b l h d u (ap letter w ∙ e) in
    ne_eqb (b + 32) c (other (b + 32) (lowered_lower b l h)) ∙ sym (ne_eqb b c (other b (lowered_capital b l h)))

digit_kept : (b : ℕ) → digit (lowered b) ≡ digit b
digit_kept = case_kept digit λ b l h.
    rw (le-leb 48 b (omega arith), le-leb 48 (b + 32) (omega arith), lt-leb b 57 (omega arith), lt-leb (b + 32) 57 (omega arith))

inner_kept : (b : ℕ) → inner (lowered b) ≡ inner b
inner_kept b i = lower (lowered_twice b i) || digit_kept b i || sign_kept 95 refl b i

blank_kept : (b : ℕ) → blank (lowered b) ≡ blank b
blank_kept b i = sign_kept 32 refl b i || sign_kept 9 refl b i || sign_kept 13 refl b i || sign_kept 10 refl b i

mark_kept : (b : ℕ) → mark (lowered b) ≡ mark b
mark_kept b i = sign_kept 58 refl b i || sign_kept 33 refl b i

symbol_kept : (b : ℕ) → symbol (lowered b) ≡ symbol b
symbol_kept b i =
    sign_kept 49 refl b i || sign_kept 50 refl b i || sign_kept 61 refl b i || sign_kept 59 refl b i || sign_kept 44 refl b i || sign_kept 40 refl b i
    || sign_kept 41 refl b i || sign_kept 123 refl b i || sign_kept 125 refl b i || sign_kept 47 refl b i

-- ---- a text in lower case

lower_twice : (s : List ℕ) → lower_case (lower_case s) ≡ lower_case s
lower_twice [] = refl
lower_twice (b ∷ s) = λ i. lowered_twice b i ∷ lower_twice s i

gap_lower : (c : Bool) (s : List ℕ) → gap c (lower_case s) ≡ gap c s
unfolding gap
gap_lower true [] = refl
gap_lower false [] = refl
gap_lower true (b ∷ s) = ap (λ c. suc (gap c (lower_case s))) (ap (λ c. not c) (sign_kept 10 refl b)) ∙ ap suc (gap_lower (not (eqb b 10)) s)
gap_lower false (b ∷ s) = λ i.
    pick (sign_kept 35 refl b i) (λ _. suc (gap_lower true s i)) λ _. pick (blank_kept b i) (λ _. suc (gap_lower false s i)) λ _. 0

run_lower : (s : List ℕ) → name_length (lower_case s) ≡ name_length s
unfolding name_length
run_lower [] = refl
run_lower (b ∷ s) = λ i. pick (inner_kept b i) (λ _. suc (run_lower s i)) λ _. 0

width_lower : (s : List ℕ) → width (lower_case s) ≡ width s
unfolding width
width_lower [] = refl
width_lower (b ∷ s) = λ i.
    pick (lower (lowered_twice b i)) (λ _. pick (leb (run_lower (b ∷ s) i) longest_name) (λ _. run_lower (b ∷ s) i) λ _. 0)
    λ _. pick (mark_kept b i) (λ _. pick (equal_sign i) (λ _. 2) λ _. pick (sign_kept 33 refl b i) (λ _. 1) λ _. 0)
    λ _. pick (symbol_kept b i) (λ _. 1) λ _. 0
  where
    equal_sign : eqb (get_or (lower_case s) 0 0) 61 ≡ eqb (get_or s 0 0) 61
    equal_sign = ap (λ c. eqb c 61) (lowered_at s 0) ∙ sign_kept 61 refl (get_or s 0 0)

-- ---- its tokens

-- the same token, spelled in lower case
abbrev pub lower_token : Token → Token
lower_token t = token t.key t.key t.start t.end

pub token_lower : (s : List ℕ) (at : ℕ) → token_at (lower_case s) at ≡ lower_token (token_at s at)
unfolding token_at
token_lower s at =
    let p = at + gap false (drop at s) in
    let e = p + width (drop p s) in
    let bytes = slice p e s in
    rw (lower_drop at s, gap_lower false (drop at s), lower_drop p s, width_lower (drop p s), length-map s lowered, lower_slice p e s, lower_twice bytes)
    (by_test (leb (length s) p) (λ t. rw t) λ t. rw t (by_test (eqb (width (drop p s)) 0) (λ u. rw u) λ u. rw u))

module _ (s : List ℕ) where
  pub key_lower : (at : ℕ) → (token_at (lower_case s) at).key ≡ (token_at s at).key
  key_lower at = ap (λ t. t.key) (token_lower s at)

  pub start_lower : (at : ℕ) → (token_at (lower_case s) at).start ≡ (token_at s at).start
  start_lower at = ap (λ t. t.start) (token_lower s at)

  pub end_lower : (at : ℕ) → (token_at (lower_case s) at).end ≡ (token_at s at).end
  end_lower at = ap (λ t. t.end) (token_lower s at)

  pub spelling_lower : (at : ℕ) → (token_at (lower_case s) at).spelling ≡ (token_at s at).key
  spelling_lower at = ap (λ t. t.spelling) (token_lower s at)

  pub behind_lower : (at n : ℕ) → place_behind (lower_case s) at n ≡ place_behind s at n
  behind_lower at zero = refl
  behind_lower at (suc n) = end_lower (place_behind (lower_case s) at n) ∙ ap (λ k. (token_at s k).end) (behind_lower at n)

  pub key_of_lower : (i : ℕ) → key_of (lower_case s) i ≡ key_of s i
  key_of_lower i = key_lower (place_of (lower_case s) i) ∙ ap (λ k. (token_at s k).key) (behind_lower 0 i)

  -- names that are declared from token `first` on, each the `step`-th behind the one before, are spelled in lower case as their keys
  pub spellings_lower : (first step : ℕ) (names : List ℕ)
      → ((k : ℕ) → k < length names → (token_at s (place_of s (first + step * k))).key ≡ get_or names k 0)
      → spellings (lower_case s) (place_of (lower_case s) first) step (length names) ≡ names
  spellings_lower first step names h =
      let at = place_of (lower_case s) first in
      let n = spellings_length (lower_case s) at step (length names) in
      ext_get_or 0 (spellings (lower_case s) at step (length names)) names n λ k l.
      spelling_at (lower_case s) at step (length names) k (omega arith)
      ∙ spelling_lower (place_behind (lower_case s) at (step * k))
      ∙ ap (λ e. (token_at s e).key) (behind_both (lower_case s) 0 first (step * k) ∙ behind_lower 0 (first + step * k))
      ∙ h k (omega arith)
