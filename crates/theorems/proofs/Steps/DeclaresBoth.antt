-- `vars cap CAP;` before request 1: its tokens, one after the other, are those of `vars cap @@@;`, which has no capitals.
use mathlib.Core.Path.{◌≡◌, refl, sym, ap, ◌∙◌}
use Prim.Native.Nat.{ℕ, zero, suc}
use native.Mathlib.Omega.{arith}
use mathlib.Core.List.{List, [], ◌∷◌}
use Rattle.letters.specs.MacroRefusalNumbers.{token_malformed}
use Rattle.macros.specs.Points.{size_statement}
use Rattle.tokens.specs.Bytes.{gap, name_length, width}
use Rattle.tokens.specs.Tokens.{token_at}
use Rattle.tokens.specs.declared.Token.{Token}
use Rattle.grammar.specs.Reading.{index_of, condition, ended_condition, arguments_t, right_hand_side, assignment, block, register_names, arity_of, entries}
use Rattle.grammar.proofs.Theory.Reading.{read_text, read_macro}
use Rattle.refusals.specs.Order.{Refusal}
use Rattle.refusals.proofs.Theory.Order.{refused_refusal}
use Rattle.theorems.specs.Original.{original_name_length, original_width, original_token_at, place_by, FirstNoBy, RefusalBy, OriginalRefusal}
use Rattle.theorems.proofs.Steps.WithoutCapitals.{no_capitals, refused_before}
use Rattle.theorems.proofs.Steps.ByTokens.{first_same}

abbrev pub declares_both : List ℕ
declares_both = 118 ∷ 97 ∷ 114 ∷ 115 ∷ 32 ∷ 99 ∷ 97 ∷ 112 ∷ 32 ∷ 67 ∷ 65 ∷ 80 ∷ 59 ∷ []

abbrev plain : List ℕ
plain = 118 ∷ 97 ∷ 114 ∷ 115 ∷ 32 ∷ 99 ∷ 97 ∷ 112 ∷ 32 ∷ 64 ∷ 64 ∷ 64 ∷ 59 ∷ []

plain_refused : Refusal plain token_malformed 9
unfolding read_macro read_text token_at gap width name_length register_names index_of entries arity_of block condition ended_condition assignment right_hand_side
    arguments_t size_statement
plain_refused = refused_refusal plain token_malformed 9 refl

-- 8 comes from a token
first_of : {size n p : ℕ} {next : ℕ → Token} → RefusalBy size next n p → n ≡ token_malformed → FirstNoBy size next n p
first_of (RefusalBy.long h) e = absurd (omega arith)
first_of (RefusalBy.at_token h F) e = F
first_of (RefusalBy.points m h S O k) e = absurd (omega arith)

-- behind two tokens stands what is none, at byte 9, and reading goes no further
stays : (next : ℕ → Token) → (next 0).end ≡ 4 → (next 4).end ≡ 8 → (next 8).end ≡ 9 → (next 9).end ≡ 9 → (i : ℕ) → place_by 13 next (suc (suc (suc i))) ≡ 9
stays next a b c d zero = ap (λ p. (next (next p).end).end) a ∙ ap (λ p. (next p).end) b ∙ c
stays next a b c d (suc i) = ap (λ p. (next p).end) (stays next a b c d i) ∙ d

same : (i : ℕ) → original_token_at plain (place_by 13 (original_token_at plain) i) ≡ original_token_at declares_both (place_by 13 (original_token_at declares_both) i)
unfolding original_token_at original_width original_name_length gap
same zero = refl
same (suc zero) = refl
same (suc (suc zero)) = refl
same (suc (suc (suc i))) =
    ap (original_token_at plain) (stays (original_token_at plain) refl refl refl refl i)
    ∙ sym (ap (original_token_at declares_both) (stays (original_token_at declares_both) refl refl refl refl i))

pub refused_by_8_before : OriginalRefusal declares_both token_malformed 9
refused_by_8_before =
    let R = refused_before plain (no_capitals plain refl) plain_refused in
    let first = first_same 13 13 (original_token_at plain) (original_token_at declares_both) (λ i. ap (λ t. t.key) (same i)) λ i. ap (λ t. t.start) (same i) in
    RefusalBy.at_token (omega arith) (first (first_of R refl))
