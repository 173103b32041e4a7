-- Names are held and compared by their keys: two tokens have the same key exactly if they have the same bytes in lower case.
use mathlib.Core.Path.{◌≡◌, refl, sym, ap, ◌∙◌, subst}
use mathlib.Core.Logic.{◌↔◌}
use mathlib.Core.Bool.{Bool, true, false, ◌&&◌}
use mathlib.Core.List.{List, [], ◌∷◌}
use Prim.Native.Nat.{ℕ, zero, suc, ◌+◌, ◌≤◌, ◌<◌}
use native.Mathlib.Omega.{arith}
use native.Mathlib.Decide.{dec_lt}
use lib.Dec.{leb, eqb}
use lib.ListN.{length, get_or, take, drop}
use lib.Seq.{slice}
use borrow.Author.Tests.{eqb-true, eq-eqb, ne_eqb, le-leb, lt-leb, leb-true}
use Rattle.base.proofs.Theory.Choice.{by_test}
use Rattle.base.specs.Bytes.{little_endian}
use Rattle.tokens.specs.Bytes.{capital, lowered, lower_case, letter, inner, negation, mark, symbol, gap, name_length, width, key, spelling}
use Rattle.tokens.specs.Tokens.{token_at, bytes_at}
use Rattle.tokens.specs.Words.{same_name}

-- Bytes that a token can have: none is 0.
abbrev pub TokenBytes : List ℕ → Type 0
TokenBytes [] = Unit {0}
TokenBytes (b ∷ s) = (0 < b) × (b < 256) × TokenBytes s

-- ── laws ──
number_injective : (s r : List ℕ) → TokenBytes s → TokenBytes r → little_endian s ≡ little_endian r → s ≡ r
number_injective [] [] p q e = refl
number_injective [] (b ∷ r) p (l, m, q) e = absurd (omega arith)
number_injective (b ∷ s) [] (l, m, p) q e = absurd (omega arith)
number_injective (b ∷ s) (c ∷ r) (l, m, p) (l', m', q) e =
    let h : b ≡ c = omega arith in
    let g : little_endian s ≡ little_endian r = omega arith in
    λ i. h i ∷ number_injective s r p q g i

-- A byte in lower case is a byte.
lowered_byte : (b : ℕ) → 0 < b → b < 256 → (0 < lowered b) × (lowered b < 256)
lowered_byte b l m = by_test (capital b) (λ t. rw t (omega arith, let z = leb-true b 90 (and_right (leb 65 b) (leb b 90) t) in omega arith)) λ t. rw t (l, m)
  where
    and_right : (x y : Bool) → x && y ≡ true → y ≡ true
    and_right true y h = h
    and_right false true h = refl
    and_right false false h = h

pub lower_bytes : (s : List ℕ) → TokenBytes s → TokenBytes (lower_case s)
lower_bytes [] p = tt
lower_bytes (b ∷ s) (l, m, p) = let (i, j) = lowered_byte b l m in (i, j, lower_bytes s p)

-- The same key exactly if the same bytes in lower case.
pub same_key : (s r : List ℕ) → TokenBytes s → TokenBytes r → (key s ≡ key r) ↔ (lower_case s ≡ lower_case r)
same_key s r p q = (number_injective (lower_case s) (lower_case r) (lower_bytes s p) (lower_bytes r q), ap little_endian)

-- ── the bytes of a token ──
byte_by : (f : ℕ → Bool) → f 0 ≡ false → ((b : ℕ) → 256 ≤ b → f b ≡ false) → (b : ℕ) → f b ≡ true → (0 < b) × (b < 256)
byte_by f low high b t = (
  elim (dec_lt 0 b) [ yes l ↦ l | no n ↦ absurd (differ (sym low ∙ ap f (zero_is b n) ∙ t)) ],
  elim (dec_lt b 256) [ yes l ↦ l | no n ↦ absurd (differ (sym (high b (omega arith)) ∙ t)) ],
)
  where
    zero_is : (b : ℕ) → ¬ (0 < b) → 0 ≡ b
    zero_is b n = omega arith

    differ : false ≡ true → ⊥
    differ e = let z : ◌≡◌ {A = ℕ} 0 1 = cc in omega arith

other : (b c : ℕ) → 256 ≤ b → c < 256 → eqb b c ≡ false
other b c l h = ne_eqb b c λ e. omega arith

inner_byte : (b : ℕ) → inner b ≡ true → (0 < b) × (b < 256)
inner_byte = byte_by inner refl high
  where
    high : (b : ℕ) → 256 ≤ b → inner b ≡ false
    high b l =
        rw (
          le-leb 65 b (omega arith),
          lt-leb b 90 (omega arith),
          le-leb 97 b (omega arith),
          lt-leb b 122 (omega arith),
          le-leb 48 b (omega arith),
          lt-leb b 57 (omega arith),
          other b 95 l (omega arith),
        ) refl

mark_byte : (b : ℕ) → mark b ≡ true → (0 < b) × (b < 256)
mark_byte = byte_by mark refl high
  where
    high : (b : ℕ) → 256 ≤ b → mark b ≡ false
    high b l = rw (other b 58 l (omega arith), other b 33 l (omega arith)) refl

symbol_byte : (b : ℕ) → symbol b ≡ true → (0 < b) × (b < 256)
symbol_byte = byte_by symbol refl high
  where
    high : (b : ℕ) → 256 ≤ b → symbol b ≡ false
    high b l =
        rw (
          other b 49 l (omega arith),
          other b 50 l (omega arith),
          other b 61 l (omega arith),
          other b 59 l (omega arith),
          other b 44 l (omega arith),
          other b 40 l (omega arith),
          other b 41 l (omega arith),
          other b 123 l (omega arith),
          other b 125 l (omega arith),
          other b 47 l (omega arith),
        ) refl

run_bytes : (l : List ℕ) (w : ℕ) → w ≤ name_length l → TokenBytes (take w l)
unfolding name_length
run_bytes [] zero = λ h. tt
run_bytes [] (suc w) = λ h. absurd (omega arith)
run_bytes (b ∷ l) zero = λ h. tt
run_bytes (b ∷ l) (suc w) = by_test (inner b)
    (λ t. rw t λ h. let (p, q) = inner_byte b t in (p, q, run_bytes l w (omega arith)))
    (λ t. rw t λ h. absurd (omega arith))

width_bytes : (l : List ℕ) → TokenBytes (take (width l) l)
unfolding width
width_bytes [] = tt
width_bytes (b ∷ s) = by_test (letter b)
    (λ t. rw t (by_test (leb (name_length (b ∷ s)) 8) (λ u. rw u (run_bytes (b ∷ s) (name_length (b ∷ s)) (omega arith))) (λ u. rw u tt)))
    λ t. rw t (by_test (mark b)
    (λ u. rw u (by_test (eqb (get_or s 0 0) 61) (λ v. rw v (pair s v (mark_byte b u)))
    λ v. rw v (by_test (negation b) (λ x. rw x (let (p, q) = mark_byte b u in (p, q, tt))) (λ x. rw x tt))))
    λ u. rw u (by_test (symbol b) (λ v. rw v (let (p, q) = symbol_byte b v in (p, q, tt))) (λ v. rw v tt)))
  where
    pair : (s : List ℕ) → eqb (get_or s 0 0) 61 ≡ true → (0 < b) × (b < 256) → TokenBytes (take 2 (b ∷ s))
    pair [] v h = absurd (let z = eqb-true 0 61 v in omega arith)
    pair (c ∷ s) v h = let z = eqb-true c 61 v in (h.0, h.1, (omega arith, omega arith, tt))

-- a part of a text is the front of what is left where the part begins
pub slice_take : (p w : ℕ) (s : List ℕ) → slice p (p + w) s ≡ take w (drop p s)
slice_take zero w s = ap (λ n. take n s) (let e : 0 + w ≡ w = omega arith in e)
slice_take (suc p) w s = ap (λ n. drop (suc p) (take n s)) (let e : suc p + w ≡ suc (p + w) = omega arith in e) ∙ go s (λ s. slice_take p w s)
  where
    nothing : (n : ℕ) → ◌≡◌ {A = List ℕ} [] (take n [])
    nothing zero = refl
    nothing (suc n) = refl

    go : (s : List ℕ) → ((s : List ℕ) → slice p (p + w) s ≡ take w (drop p s)) → drop (suc p) (take (suc (p + w)) s) ≡ take w (drop (suc p) s)
    go [] ih = nothing w
    go (x ∷ s) ih = ih s

-- A token is held as the key and the spelling of its bytes.
pub record TokenHeld (s : List ℕ) (at : ℕ) : Type 0 where
  pub key_is : (token_at s at).key ≡ key (bytes_at s at)
  pub spelling_is : (token_at s at).spelling ≡ spelling (bytes_at s at)
  pub bytes : TokenBytes (bytes_at s at)

held : (s : List ℕ) (at : ℕ) → 2 ≤ (token_at s at).key
    → ((token_at s at).key ≡ key (bytes_at s at)) × ((token_at s at).spelling ≡ spelling (bytes_at s at)) × TokenBytes (bytes_at s at)
unfolding token_at
held s at =
    let p = at + gap false (drop at s) in
    by_test (leb (length s) p) (λ t. rw t λ h. absurd (omega arith))
    λ t. rw t (by_test (eqb (width (drop p s)) 0) (λ u. rw u λ h. absurd (omega arith))
    λ u. rw u λ h. (refl, refl, subst TokenBytes (sym (slice_take p (width (drop p s)) s)) (width_bytes (drop p s))))

pub token_held : (s : List ℕ) (at : ℕ) → 2 ≤ (token_at s at).key → TokenHeld s at
token_held s at h = let (e, f, p) = held s at h in record { key_is = e; spelling_is = f; bytes = p }

-- Two tokens, of one text or of two, are taken for the same exactly if their bytes are the same in lower case.
pub same_token : (s r : List ℕ) (at there : ℕ) → 2 ≤ (token_at s at).key → 2 ≤ (token_at r there).key
    → (same_name (token_at s at).key (token_at r there).key ≡ true) ↔ (lower_case (bytes_at s at) ≡ lower_case (bytes_at r there))
same_token s r at there h g =
    let S = token_held s at h in
    let R = token_held r there g in (
      λ t. (same_key (bytes_at s at) (bytes_at r there) S.bytes R.bytes).0
          (sym S.key_is ∙ eqb-true (token_at s at).key (token_at r there).key t ∙ R.key_is),
      λ same. eq-eqb (token_at s at).key (token_at r there).key (S.key_is ∙ ap little_endian same ∙ sym R.key_is),
    )
