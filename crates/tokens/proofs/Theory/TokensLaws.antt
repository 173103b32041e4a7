-- The laws of the token at a place.
use mathlib.Core.Path.{◌≡◌, refl, sym, ap, ◌∙◌}
use Prim.Native.Nat.{ℕ, zero, suc, ◌+◌, ◌*◌, ◌-◌, ◌≤◌, ◌<◌}
use native.Mathlib.Omega.{arith}
use native.Mathlib.Numerals.{add-one}
use native.Mathlib.Nat.{mul-zero, mul-suc}
use mathlib.Core.Bool.{false}
use mathlib.Core.List.{List, [], ◌∷◌, ◌++◌, append_assoc, append-nil}
use lib.Dec.{leb, eqb}
use lib.ListN.{length, get_or, take, drop, set, length-drop, length-set}
use lib.Seq.{slice, take_all}
use borrow.Author.Tests.{ne_eqb, le-leb, lt-leb, leb-false, eqb-false}
use Rattle.base.proofs.Theory.Choice.{by_test}
use Rattle.tokens.specs.Bytes.{gap, width}
use Rattle.tokens.proofs.Theory.BytesLaws.{width_le}
use Rattle.tokens.specs.Tokens.{token, NumbersOf, token_at, place_behind, spellings}
use Rattle.tokens.specs.declared.Token.{Token}
use Rattle.tokens.specs.declared.TokenNumbers.{TokenNumbers}

pub token_within : (s : List ℕ) (p w : ℕ) → w ≡ width (drop p s) → p < length s → (p + w ≤ length s) × (w ≤ 8)
token_within s p w e h = let f = width_le (drop p s) in let g = length-drop p s in (omega arith, omega arith)

module _ (s : List ℕ) (at p : ℕ) where
  pub token_end : p ≡ at + gap false (drop at s) → length s ≤ p → token 0 0 (length s) (length s) ≡ token_at s at
  unfolding token_at
  token_end e h = rw (← e, le-leb _ _ h)

  module _ (w : ℕ) (e : p ≡ at + gap false (drop at s)) (h : p < length s) (f : w ≡ width (drop p s)) where
    pub token_wrong : w ≡ 0 → token 1 1 p p ≡ token_at s at
    unfolding token_at
    token_wrong g = rw (← e, lt-leb _ _ h, ← f, g)

    pub token_read : (w ≡ 0 → ⊥) → (n : TokenNumbers) → NumbersOf (slice p (p + w) s) n → token n.key n.spelling p (p + w) ≡ token_at s at
    unfolding token_at
    token_read g n N = rw (← e, lt-leb _ _ h, ← f, ne_eqb _ _ g) λ i. token (N.key_is i) (N.spelling_is i) p (p + w)

-- a token lies behind the place where it was looked for, and within the text
pub token_advance : (s : List ℕ) (at : ℕ) → 2 ≤ (token_at s at).key → (at < (token_at s at).end) × ((token_at s at).end ≤ length s)
unfolding token_at
token_advance s at =
    let p = at + gap false (drop at s) in
    by_test (leb (length s) p) (λ t. rw t λ h. absurd (omega arith))
    λ t. rw t (by_test (eqb (width (drop p s)) 0) (λ u. rw u λ h. absurd (omega arith))
    λ u. rw u λ h. let w = token_within s p (width (drop p s)) refl (leb-false (length s) p t) in let n = eqb-false (width (drop p s)) 0 u in
    (positive (width (drop p s)) n, w.0))
  where
    positive : (w : ℕ) → (w ≡ 0 → ⊥) → at < at + gap false (drop at s) + w
    positive zero n = absurd (n refl)
    positive (suc w) n = omega arith

-- where the text has not ended there is a byte left
pub token_before_end : (s : List ℕ) (at : ℕ) → ((token_at s at).key ≡ 0 → ⊥) → at < length s
unfolding token_at
token_before_end s at =
    let p = at + gap false (drop at s) in
    by_test (leb (length s) p) (λ t. rw t λ h. absurd (h refl)) λ t h. omega (arith, leb-false (length s) p t)

-- ---- the tokens of a text, one after the other

module _ (s : List ℕ) where
  -- one token more
  pub behind_more : (from i at : ℕ) (t : Token) → at ≡ place_behind s from i → t ≡ token_at s at → t.end ≡ place_behind s from (i + 1)
  behind_more from i at t e f = ap (λ t. t.end) f ∙ ap (λ n. (token_at s n).end) e ∙ ap (place_behind s from) (sym (add-one i))

  -- behind n tokens and m more
  pub behind_both : (from n m : ℕ) → place_behind s (place_behind s from n) m ≡ place_behind s from (n + m)
  behind_both from n zero = ap (place_behind s from) (let e : n ≡ n + 0 = omega arith in e)
  behind_both from n (suc m) =
      let e : suc (n + m) ≡ n + suc m = omega arith in ap (λ at. (token_at s at).end) (behind_both from n m) ∙ ap (place_behind s from) e

  -- token k of those that are spelled
  pub spelling_at : (at step n k : ℕ) → k < n → get_or (spellings s at step n) k 0 ≡ (token_at s (place_behind s at (step * k))).spelling
  unfolding spellings
  spelling_at at step zero k h = absurd (omega arith)
  spelling_at at step (suc n) zero h = ap (λ i. (token_at s (place_behind s at i)).spelling) (sym (mul-zero step))
  spelling_at at step (suc n) (suc k) h =
      spelling_at (place_behind s at step) step n k (omega arith)
      ∙ ap (λ at. (token_at s at).spelling) (behind_both at step (step * k))
      ∙ ap (λ i. (token_at s (place_behind s at i)).spelling) (let e : step + step * k ≡ step * suc k = omega (arith, mul-suc step k) in e)

  pub spellings_length : (at step n : ℕ) → length (spellings s at step n) ≡ n
  unfolding spellings
  spellings_length at step zero = refl
  spellings_length at step (suc n) = ap suc (spellings_length (place_behind s at step) step n)

-- ---- spellings that are stored one by one, the first i so far

pub record StoredSpellings (s : List ℕ) (from step size : ℕ) (at i : ℕ) (out : List ℕ) : Type 0 where
  pub few : i ≤ size
  pub kept : length out ≡ size
  pub others : take i out ++ spellings s at step (size - i) ≡ spellings s from step size

nothing : (l : List ℕ) → take 0 l ≡ []
nothing [] = refl
nothing (x ∷ l) = refl

stored_front : (l : List ℕ) (i v : ℕ) → i < length l → take (suc i) (set l i v) ≡ take i l ++ v ∷ []
stored_front [] i v h = absurd (omega arith)
stored_front (x ∷ l) zero v h = ap (λ r. v ∷ r) (nothing l)
stored_front (x ∷ l) (suc i) v h = ap (λ r. x ∷ r) (stored_front l i v (omega arith))

module _ (s : List ℕ) (from step size : ℕ) where
  pub none_stored : (out : List ℕ) → length out ≡ size → StoredSpellings s from step size from 0 out
  none_stored out e = record {
    few = omega arith;
    kept = e;
    others = ap (λ l. l ++ spellings s from step (size - 0)) (nothing out) ∙ ap (spellings s from step) (let z : size - 0 ≡ size = omega arith in z);
  }

  pub one_stored : (at i : ℕ) (out : List ℕ) (t : Token) (next : ℕ) → i < length out → StoredSpellings s from step size at i out
      → t ≡ token_at s at → next ≡ place_behind s at step → StoredSpellings s from step size next (i + 1) (set out i t.spelling)
  unfolding spellings
  one_stored at i out t next l S e f = record {
    few = omega (arith, S.kept);
    kept = length-set out i t.spelling ∙ S.kept;
    others =
        (λ j. take (add-one i j) (set out i t.spelling) ++ spellings s (f j) step (size - (i + 1)))
        ∙ ap (λ l. l ++ spellings s (place_behind s at step) step (size - (i + 1))) (stored_front out i t.spelling l)
        ∙ append_assoc (take i out) (t.spelling ∷ []) (spellings s (place_behind s at step) step (size - (i + 1)))
        ∙ ap (λ v. take i out ++ v ∷ spellings s (place_behind s at step) step (size - (i + 1))) (ap (λ t. t.spelling) e)
        ∙ ap (λ n. take i out ++ spellings s at step n) (let z : suc (size - (i + 1)) ≡ size - i = omega (arith, S.kept) in z)
        ∙ S.others;
  }

  pub all_stored : (at i : ℕ) (out : List ℕ) → length out ≤ i → StoredSpellings s from step size at i out → out ≡ spellings s from step size
  unfolding spellings
  all_stored at i out l S =
      sym (take_all i out l)
      ∙ sym (append-nil (take i out))
      ∙ ap (λ n. take i out ++ spellings s at step n) (let z : 0 ≡ size - i = omega (arith, S.kept) in z)
      ∙ S.others
