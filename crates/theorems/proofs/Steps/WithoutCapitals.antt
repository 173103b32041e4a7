-- A text without capital letters has the tokens that document 01 alone gives it, and its names are spelled as their keys.
use mathlib.Core.Path.{◌≡◌, refl, sym, ap, subst, ◌∙◌}
use Prim.Native.Nat.{ℕ, suc, ◌+◌}
use native.Mathlib.Omega.{arith}
use mathlib.Core.Bool.{false, ◌||◌}
use mathlib.Core.List.{List, [], ◌∷◌}
use lib.Dec.{leb, eqb}
use lib.ListN.{length, get_or, drop}
use lib.Seq.{slice}
use Rattle.base.specs.Choice.{pick}
use Rattle.base.proofs.Theory.Choice.{by_test}
use Rattle.tokens.specs.Bytes.{lower, capital, lowered, lower_case, digit, symbol, negation, mark, gap, name_length, longest_name, width}
use Rattle.tokens.specs.Tokens.{token_at}
use Rattle.tokens.proofs.Theory.BytesLaws.{lowered_at, lower_drop, lower_slice}
use Rattle.grammar.specs.Grammar.{Macro}
use Rattle.refusals.specs.Order.{Refusal}
use Rattle.refusals.specs.Accepted.{Accepted}
use Rattle.refusals.proofs.Theory.Accepted.{accepted_once}
use Rattle.theorems.specs.LowerCase.{in_lower_case, WithoutCapitals}
use Rattle.theorems.specs.Original.{original_name_length, original_width, original_token_at, RefusalBy, AcceptedBy, OriginalRefusal, OriginalAccepted}
use Rattle.theorems.proofs.Steps.ByTokens.{refusal_by, by_refusal, accepted_by, by_accepted}
use Rattle.theorems.proofs.Steps.LowerCase.{accepted_lower}

-- It is in lower case.
pub without_capitals : (s : List ℕ) → WithoutCapitals s → lower_case s ≡ s
without_capitals [] h = refl
without_capitals (b ∷ s) h = λ i. plain i ∷ without_capitals s (λ j l. h (suc j) (omega arith)) i
  where
    plain : lowered b ≡ b
    plain = rw (h 0 (omega arith))

-- And a text that is in lower case has no capitals.
pub no_capitals : (s : List ℕ) → lower_case s ≡ s → WithoutCapitals s
no_capitals s e i l =
    let same : lowered (get_or s i 0) ≡ get_or s i 0 = sym (lowered_at s i) ∙ ap (λ t. get_or t i 0) e in
    by_test (capital (get_or s i 0)) (λ t. let more : lowered (get_or s i 0) ≡ get_or s i 0 + 32 = rw t in absurd (omega (arith, same, more))) λ t. t

original_run : (s : List ℕ) → lower_case s ≡ s → name_length s ≡ original_name_length s
unfolding name_length original_name_length
original_run [] h = refl
original_run (b ∷ s) h =
    let e : lowered b ≡ b = cc in
    let f : lower_case s ≡ s = cc in
    λ i. pick (lower (e i) || digit b || eqb b 95) (λ _. suc (original_run s f i)) λ _. 0

original-width : (s : List ℕ) → lower_case s ≡ s → width s ≡ original_width s
unfolding width original_width
original-width [] h = refl
original-width (b ∷ s) h =
    let e : lowered b ≡ b = cc in
    let n = original_run (b ∷ s) h in
    λ i. pick (lower (e i)) (λ _. pick (leb (n i) longest_name) (λ _. n i) λ _. 0)
    λ _. pick (mark b) (λ _. pick (eqb (get_or s 0 0) 61) (λ _. 2) λ _. pick (negation b) (λ _. 1) λ _. 0)
    λ _. pick (symbol b) (λ _. 1) λ _. 0

pub original_token : (s : List ℕ) → WithoutCapitals s → (at : ℕ) → token_at s at ≡ original_token_at s at
unfolding token_at original_token_at
original_token s h at =
    let e = without_capitals s h in
    let p = at + gap false (drop at s) in
    let w = original-width (drop p s) (sym (lower_drop p s) ∙ ap (drop p) e) in
    let n = p + original_width (drop p s) in
    let bytes : lower_case (slice p n s) ≡ slice p n s = sym (lower_slice p n s) ∙ ap (slice p n) e in
    rw (w, bytes)

-- so its lines print the names' keys
pub original_spellings : (s : List ℕ) → WithoutCapitals s → {m : Macro} → Accepted s m → m ≡ in_lower_case m
original_spellings s h {m} A = accepted_once s A (subst (λ r. Accepted r (in_lower_case m)) (without_capitals s h) (accepted_lower s A))

-- ---- so it is read as before request 1

module _ (s : List ℕ) (h : WithoutCapitals s) where
  same_tokens : token_at s ≡ original_token_at s
  same_tokens = λ i at. original_token s h at i

  pub refused_before : {n p : ℕ} → Refusal s n p → OriginalRefusal s n p
  refused_before {n} {p} R = subst (λ t. RefusalBy (length s) t n p) same_tokens (refusal_by s R)

  pub refused_still : {n p : ℕ} → OriginalRefusal s n p → Refusal s n p
  refused_still {n} {p} R = by_refusal s (subst (λ t. RefusalBy (length s) t n p) (sym same_tokens) R)

  pub accepted_before : {m : Macro} → Accepted s m → OriginalAccepted s m × (m ≡ in_lower_case m)
  accepted_before {m} A = (subst (λ t. AcceptedBy (length s) t m) same_tokens (accepted_by s A), original_spellings s h A)

  pub accepted_still : {m : Macro} → OriginalAccepted s m → m ≡ in_lower_case m → Accepted s m
  accepted_still {m} A e =
      let B = by_accepted s (subst (λ t. AcceptedBy (length s) t m) (sym same_tokens) A) in
      subst (Accepted s) (original_spellings s h B ∙ sym e) B
