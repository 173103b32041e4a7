-- What the numbers 0 and 1 of a token say: 0 is the end of the text, which stands at its length, and 1 is a place where there is no token.
use mathlib.Core.Path.{◌≡◌, refl, ap, ◌∙◌}
use Prim.Native.Nat.{ℕ, zero, suc, ◌+◌, ◌≤◌, ◌<◌}
use native.Mathlib.Omega.{arith}
use mathlib.Core.Bool.{false}
use mathlib.Core.List.{List, ◌∷◌}
use lib.Dec.{leb, eqb}
use lib.ListN.{length, get_or, drop}
use lib.Seq.{drop-cons, slice, slice-cons}
use borrow.Author.Tests.{leb-false, eqb-true, eqb-false}
use Rattle.base.proofs.Theory.Choice.{by_test}
use Rattle.tokens.specs.Bytes.{gap, width, key}
use Rattle.tokens.specs.Tokens.{token_at}
use Rattle.tokens.proofs.Theory.BytesLaws.{lowered_above}
use Rattle.tokens.proofs.Theory.TokensLaws.{token_within}

-- a byte that a token begins with
first_byte : (b : ℕ) (s : List ℕ) → (width (b ∷ s) ≡ 0 → ⊥) → 2 ≤ b
unfolding width
first_byte zero s h = absurd (h refl)
first_byte (suc zero) s h = absurd (h refl)
first_byte (suc (suc b)) s h = omega arith

-- the number of a token
key_real : (s : List ℕ) (p : ℕ) → p < length s → (width (drop p s) ≡ 0 → ⊥) → 2 ≤ key (slice p (p + width (drop p s)) s)
key_real s p h n =
    let b = first_byte (get_or s p 0) (drop (suc p) s) (λ z. n (ap width (drop-cons s p 0 h) ∙ z)) in
    let (w, x) = token_within s p (width (drop p s)) refl h in
    let e = ap key (slice-cons p (p + width (drop p s)) s 0 (some (width (drop p s)) n) w) in
    omega (arith, lowered_above (get_or s p 0))
  where
    some : (w : ℕ) → (w ≡ 0 → ⊥) → p < p + w
    some zero n = absurd (n refl)
    some (suc w) n = omega arith

pub end_place : (s : List ℕ) (at : ℕ) → (token_at s at).key ≡ 0 → (token_at s at).start ≡ length s
unfolding token_at
end_place s at =
    let p = at + gap false (drop at s) in
    by_test (leb (length s) p) (λ t. rw t λ _. refl)
    λ t. rw t (by_test (eqb (width (drop p s)) 0) (λ u. rw u λ h. absurd (omega arith))
    λ u. rw u λ h. absurd (let k = key_real s p (leb-false (length s) p t) (eqb-false (width (drop p s)) 0 u) in omega arith))

pub no_token_place : (s : List ℕ) (at : ℕ) → (token_at s at).key ≡ 1 → ((token_at s at).start < length s) × (width (drop (token_at s at).start s) ≡ 0)
unfolding token_at
no_token_place s at =
    let p = at + gap false (drop at s) in
    by_test (leb (length s) p) (λ t. rw t λ h. absurd (omega arith))
    λ t. rw t (by_test (eqb (width (drop p s)) 0) (λ u. rw u λ h. (leb-false (length s) p t, eqb-true (width (drop p s)) 0 u))
    λ u. rw u λ h. absurd (let k = key_real s p (leb-false (length s) p t) (eqb-false (width (drop p s)) 0 u) in omega arith))
