-- What the writer finds in a text: the first token that is known by a number.
use mathlib.Core.Path.{◌≡◌, refl, sym, ap, ◌∙◌, subst}
use mathlib.Core.Logic.{◌⊎◌, inl, inr}
use Prim.Native.Nat.{ℕ, suc, ◌+◌, ◌≤◌, ◌<◌}
use native.Mathlib.Omega.{arith}
use mathlib.Core.Bool.{Bool, true, false}
use mathlib.Core.List.{List}
use lib.ListN.{length, drop}
use Rattle.macros.proofs.Theory.Numbers.{three}
use Rattle.tokens.specs.Words.{is_name}
use Rattle.tokens.specs.Words as word
use Rattle.tokens.specs.Bytes.{gap}
use Rattle.tokens.specs.Tokens.{token, token_at, place_behind}
use Rattle.tokens.specs.declared.Token.{Token}
use Rattle.tokens.proofs.Theory.TokensLaws.{token_advance, token_end}
use Rattle.refusals.proofs.Theory.Basics.{clash}
use Rattle.layout_writer.specs.Tokens.{token_behind, IsFirst, FirstSpelled, PrintedAs}

-- ---- the first token that is known by k

-- No token before the place `at` is known by k, and all before it are tokens.
pub record LookedThrough (s : List ℕ) (from k at : ℕ) : Type 0 where
  pub index : ℕ
  pub place : at ≡ place_behind s from index
  pub real : (j : ℕ) → j < index → word.wrong < (token_behind s from j).key
  pub others : (j : ℕ) → j < index → (token_behind s from j).key ≡ k → ⊥

pub looked_none : (s : List ℕ) (from k : ℕ) → LookedThrough s from k from
looked_none s from k = record { index = 0; place = refl; real = λ j h. absurd (omega arith); others = λ j h. absurd (omega arith) }

-- a fact of each number below i and of i
below_next : (P : ℕ → Type 0) (i : ℕ) → ((j : ℕ) → j < i → P j) → P i → (j : ℕ) → j < suc i → P j
below_next P i h p j l = elim (three j i) [ inl u ↦ h j u | inr (inl u) ↦ subst P (sym u) p | inr (inr u) ↦ absurd (omega arith) ]

module _ (s : List ℕ) (from k at : ℕ) (t : Token) (e : t ≡ token_at s at) (L : LookedThrough s from k at) where
  key_here : (token_behind s from L.index).key ≡ t.key
  key_here = ap (λ p. (token_at s p).key) (sym L.place) ∙ ap (λ x. x.key) (sym e)

  pub looked_on : (t.key ≡ k → ⊥) → word.wrong < t.key → LookedThrough s from k t.end
  looked_on h l = record {
    index = suc L.index;
    place = ap (λ x. x.end) e ∙ ap (λ p. (token_at s p).end) L.place;
    real = below_next (λ j. word.wrong < (token_behind s from j).key) L.index L.real (subst (λ n. word.wrong < n) (sym key_here) l);
    others = below_next (λ j. (token_behind s from j).key ≡ k → ⊥) L.index L.others λ f. h (sym key_here ∙ f);
  }

  -- where the search has come to, a first token is not before
  here_or_behind : (i : ℕ) → IsFirst s from k i → (i ≡ L.index) ⊎ (L.index < i)
  here_or_behind i F = elim (three i L.index) [ inl u ↦ absurd (L.others i u F.known) | inr (inl u) ↦ inl u | inr (inr u) ↦ inr u ]

  pub looked_found : t.key ≡ k → FirstSpelled s from k t.spelling
  looked_found h = record {
    first = λ i F. elim (here_or_behind i F) [
      | inl u ↦ ap (λ x. x.spelling) e ∙ ap (λ p. (token_at s p).spelling) (L.place ∙ ap (place_behind s from) (sym u))
      | inr u ↦ absurd (F.others L.index u (key_here ∙ h))
    ];
  }

  pub looked_in_vain : (t.key ≡ k → ⊥) → t.key ≤ word.wrong → (w : ℕ) → FirstSpelled s from k w
  looked_in_vain h l w = record {
    first = λ i F. elim (here_or_behind i F) [
      | inl u ↦ absurd (h (sym key_here ∙ ap (λ n. (token_behind s from n).key) (sym u) ∙ F.known))
      | inr u ↦ absurd (let z = F.real L.index u in omega (arith, key_here))
    ];
  }

-- behind the last byte stands the end, which is known and spelled alike
pub text_ended : (s : List ℕ) (at : ℕ) → length s ≤ at → token word.end word.end (length s) (length s) ≡ token_at s at
text_ended s at h = token_end s at (at + gap false (drop at s)) refl (omega arith)

pub looked_to_end : (s : List ℕ) (from k at : ℕ) → length s ≤ at → LookedThrough s from k at → FirstSpelled s from k k
looked_to_end s from k at h L = record {
  first = λ i F. elim (here_or_behind s from k at (token_at s at) refl L i F) [
    | inl u ↦ sym F.known ∙ ap (λ n. (token_behind s from n).key) u ∙ key_end ∙ spelling_end
        ∙ ap (λ p. (token_at s p).spelling) (L.place ∙ ap (place_behind s from) (sym u))
    | inr u ↦ absurd (let z = F.real L.index u in omega (arith, key_end))
  ];
}
  where
    key_end : (token_behind s from L.index).key ≡ word.end
    key_end = ap (λ p. (token_at s p).key) (sym L.place) ∙ ap (λ t. t.key) (sym (text_ended s at h))

    spelling_end : word.end ≡ (token_at s at).spelling
    spelling_end = ap (λ t. t.spelling) (text_ended s at h)

-- the next place lies behind the token, and within the text
pub goes_further : (s : List ℕ) (at : ℕ) (t : Token) → t ≡ token_at s at → word.wrong < t.key → (at < t.end) × (t.end ≤ length s)
goes_further s at t e l =
    let (a, b) = token_advance s at (subst (λ x. 2 ≤ x.key) e l) in (omega (arith, ap (λ x. x.end) e), omega (arith, ap (λ x. x.end) e))

-- ---- a token as it is printed

module _ (s : List ℕ) (from k : ℕ) (r : Bool) (e : r ≡ is_name k) where
  pub name_printed : (w : ℕ) → r ≡ true → FirstSpelled s from k w → PrintedAs s from k w
  name_printed w t F = record { name = λ _. F; other = λ f. absurd (clash t (e ∙ f)) }

  pub other_printed : r ≡ false → PrintedAs s from k k
  other_printed f = record { name = λ t. absurd (clash t (sym e ∙ f)); other = λ _. refl }
