-- The numbers of letters: what stands for a number that 64 bits do not hold, and the first letter at which a test fails.
use mathlib.Core.Path.{◌≡◌, refl, sym, ◌∙◌, ap}
use mathlib.Core.Bool.{Bool, true, false, not}
use Prim.Native.Nat.{ℕ, zero, suc, ◌+◌, ◌≤◌, ◌<◌}
use native.Mathlib.Omega.{arith}
use lib.Dec.{ltb, eqb}
use borrow.Author.Tests.{lt-ltb, le-ltb, ltb-true, ltb-false, ne_eqb}
use Rattle.base.proofs.Theory.Choice.{by_test}
use Rattle.letters.specs.declared.Header.{Header}
use Rattle.semantics.specs.Terms.{Trace, begin, ◌▸◌}
use Rattle.semantics.specs.Judgement.{size}
use Rattle.semantics.specs.Judge.{first_failing}
use Rattle.streaming.specs.Run.{last, capped, next_number, first_of}

last_positive : 0 < last
unfolding last
last_positive = ltb-true 0 18446744073709551615 refl

pub capped_within : (n : ℕ) → n ≤ last → capped n ≡ n
unfolding capped
capped_within n h = by_test (ltb n last) (λ t. rw t) (λ t. rw t (let l = ltb-false n last t in omega arith))

capped_beyond : (n : ℕ) → last ≤ n → capped n ≡ last
unfolding capped
capped_beyond n h = rw (le-ltb n last h)

pub capped_none : capped 0 ≡ 0
capped_none = capped_within 0 (omega arith)

capped_some : (n : ℕ) → eqb (capped (suc n)) 0 ≡ false
capped_some n = ne_eqb (capped (suc n)) 0 (λ e. by_test (ltb (suc n) last)
    (λ t. let l = ltb-true (suc n) last t in let q = capped_within (suc n) (omega arith) in omega arith)
    (λ t. let l = ltb-false (suc n) last t in let q = capped_beyond (suc n) l in let p = last_positive in omega arith))

next_within : (n : ℕ) → n < last → next_number n ≡ n + 1
unfolding next_number
next_within n h = rw (lt-ltb n last h)

next_beyond : (n : ℕ) → last ≤ n → next_number n ≡ n
unfolding next_number
next_beyond n h = rw (le-ltb n last h)

pub next_capped : (n : ℕ) → next_number (capped n) ≡ capped (suc n)
next_capped n = by_test (ltb n last)
    (λ t. let l = ltb-true n last t in
    ap next_number (capped_within n (omega arith)) ∙ next_within n l ∙ (let e : n + 1 ≡ suc n = omega arith in e)
    ∙ sym (capped_within (suc n) (omega arith)))
    (λ t. let l = ltb-false n last t in ap next_number (capped_beyond n l) ∙ next_beyond last (omega arith) ∙ sym (capped_beyond (suc n) (omega arith)))

-- the first letter so far, and one letter more
pub first_capped : (k n : ℕ) (b : Bool)
    → first_of (capped k) (not b) (capped (suc n)) ≡ capped (elim k [ zero ↦ elim b [ true ↦ 0 | false ↦ suc n ] | suc j ↦ suc j ])
unfolding first_of
first_capped zero n true = rw capped_none
first_capped zero n false = rw capped_none
first_capped (suc k) n b = rw (capped_some k)

-- nothing new is named
pub first_same : (k n : ℕ) (b : Bool) → (k ≡ 0 → b ≡ false) → first_of (capped k) b n ≡ capped k
unfolding first_of
first_same zero n b e = rw (capped_none, e refl)
first_same (suc k) n b e = rw (capped_some k)

module _ (p : Trace → Bool) where
  -- a test that has failed nowhere holds
  pub fails_nowhere : ((h : Header) → p (begin h) ≡ true) → (ρ : Trace) → first_failing p ρ ≡ 0 → p ρ ≡ true
  fails_nowhere q (begin h) e = q h
  fails_nowhere q (ρ ▸ a) e = go (first_failing p ρ) (p (ρ ▸ a)) refl e
    where
      go : (k : ℕ) (b : Bool) → p (ρ ▸ a) ≡ b → ◌≡◌ {A = ℕ} (elim k [ zero ↦ elim b [ true ↦ 0 | false ↦ suc (size ρ) ] | suc j ↦ suc j ]) 0 → p (ρ ▸ a) ≡ true
      go zero true e z = e
      go zero false e z = absurd (omega arith)
      go (suc k) b e z = absurd (omega arith)

  pub fails_within : (ρ : Trace) → first_failing p ρ ≤ size ρ
  fails_within (begin h) = omega arith
  fails_within (ρ ▸ a) = go (first_failing p ρ) (p (ρ ▸ a)) (fails_within ρ)
    where
      go : (k : ℕ) (b : Bool) → k ≤ size ρ → elim k [ zero ↦ elim b [ true ↦ 0 | false ↦ suc (size ρ) ] | suc j ↦ suc j ] ≤ suc (size ρ)
      go zero true h = omega arith
      go zero false h = omega arith
      go (suc k) b h = omega arith
