-- What a text is refused by, or accepted as, is settled by its length and its tokens.
use mathlib.Core.Path.{◌≡◌, refl, sym, ap, subst, ◌∙◌}
use Prim.Native.Nat.{ℕ, zero, suc}
use mathlib.Core.List.{List, [], ◌∷◌, ◌++◌}
use lib.ListN.{length}
use Rattle.tokens.specs.Tokens.{token_at, place_of}
use Rattle.tokens.specs.declared.Token.{Token}
use Rattle.grammar.specs.Grammar.{Macro, sentence}
use Rattle.grammar.specs.Spelled.{Spells, Spelled, InOrder, spelled_registers, spelled_functions}
use Rattle.refusals.specs.FirstNo.{key_of, tokens_before, NoAt, FirstNo}
use Rattle.refusals.specs.Questions.{No}
use Rattle.refusals.specs.Order.{Refusal}
use Rattle.refusals.specs.Accepted.{Accepted}
use Rattle.theorems.specs.LowerCase.{spelled_as}
use Rattle.theorems.specs.Original.{place_by, key_by, tokens_by, NoBy, FirstNoBy, SpellsBy, SpelledBy, RefusalBy, AcceptedBy}

-- no question of order looks at spellings
pub order_respelled : (rs fs : List ℕ) (m : Macro) → InOrder m → InOrder (spelled_as rs fs m)
order_respelled rs fs m O = record {
  registers = O.registers;
  some = O.some;
  few = O.few;
  functions = O.functions;
  apart = O.apart;
  arities = O.arities;
  fewer = O.fewer;
  tests = O.tests;
  room = O.room;
  uses = O.uses;
  depth = O.depth;
}

-- ---- the reading of a text, by its tokens

module _ (s : List ℕ) where
  pub place-by : (i : ℕ) → place_of s i ≡ place_by (length s) (token_at s) i
  place-by zero = refl
  place-by (suc i) = ap (λ p. (token_at s p).end) (place-by i)

  pub key-by : (i : ℕ) → key_of s i ≡ key_by (length s) (token_at s) i
  key-by i = ap (λ p. (token_at s p).key) (place-by i)

  before_by : (i : ℕ) → tokens_before s i ≡ tokens_by (length s) (token_at s) i
  before_by zero = refl
  before_by (suc i) = λ j. before_by i j ++ key-by i j ∷ []

  no_by : (n i : ℕ) → NoAt s n i ≡ NoBy (length s) (token_at s) n i
  no_by n i = λ j. No n (before_by i j) (key-by i j) (key-by (suc i) j)

  to_no : (n i : ℕ) → NoAt s n i → NoBy (length s) (token_at s) n i
  to_no n i = subst (λ X. X) (no_by n i)

  from_no : (n i : ℕ) → NoBy (length s) (token_at s) n i → NoAt s n i
  from_no n i = subst (λ X. X) (sym (no_by n i))

  pub first_by : {n p : ℕ} → FirstNo s n p → FirstNoBy (length s) (token_at s) n p
  first_by {n} F = record {
    index = F.index;
    reached = λ j l e. F.reached j l (key-by j ∙ e);
    place = F.place ∙ ap (λ p. (token_at s p).start) (place-by F.index);
    no = to_no n F.index F.no;
    lowest = λ m l x. F.lowest m l (from_no m F.index x);
    first = λ m j l x. F.first m j l (from_no m j x);
  }

  pub by_first : {n p : ℕ} → FirstNoBy (length s) (token_at s) n p → FirstNo s n p
  by_first {n} F = record {
    index = F.index;
    reached = λ j l e. F.reached j l (sym (key-by j) ∙ e);
    place = F.place ∙ ap (λ p. (token_at s p).start) (sym (place-by F.index));
    no = from_no n F.index F.no;
    lowest = λ m l x. F.lowest m l (to_no m F.index x);
    first = λ m j l x. F.first m j l (to_no m j x);
  }

  spells_by : {at e : ℕ} {ks : List ℕ} → Spells s at ks e → SpellsBy (length s) (token_at s) at ks e
  spells_by Spells.none = SpellsBy.none
  spells_by (Spells.more h l p) = SpellsBy.more h l (spells_by p)

  by_spells : {at e : ℕ} {ks : List ℕ} → SpellsBy (length s) (token_at s) at ks e → Spells s at ks e
  by_spells SpellsBy.none = Spells.none
  by_spells (SpellsBy.more h l p) = Spells.more h l (by_spells p)

  spelled_by : {m : Macro} → Spelled s m → SpelledBy (length s) (token_at s) m
  spelled_by S = record { place = S.place; tokens = spells_by S.tokens; ended = S.ended }

  -- the macro with its names spelled as the text has them
  abbrev respelled : Macro → Macro
  respelled m =
      spelled_as (spelled_registers s (length m.registers)) (spelled_functions s (length m.registers) m.first_test (length m.functions)) m

  order : (m : Macro) → InOrder m → InOrder (respelled m)
  order m = order_respelled (respelled m).register_spellings (respelled m).function_spellings m

  by_spelled : (m : Macro) → SpelledBy (length s) (token_at s) m → Spelled s (respelled m)
  unfolding sentence
  by_spelled m S = record {
    place = S.place;
    tokens = by_spells S.tokens;
    ended = S.ended;
    register_spellings = refl;
    function_spellings = refl;
  }

  pub refusal_by : {n p : ℕ} → Refusal s n p → RefusalBy (length s) (token_at s) n p
  refusal_by (Refusal.long h) = RefusalBy.long h
  refusal_by (Refusal.token h F) = RefusalBy.at_token h (first_by F)
  refusal_by (Refusal.points m h S O k) = RefusalBy.points m h (spelled_by S) O k

  pub by_refusal : {n p : ℕ} → RefusalBy (length s) (token_at s) n p → Refusal s n p
  by_refusal (RefusalBy.long h) = Refusal.long h
  by_refusal (RefusalBy.at_token h F) = Refusal.token h (by_first F)
  by_refusal (RefusalBy.points m h S O k) = Refusal.points (respelled m) h (by_spelled m S) (order m O) k

  pub accepted_by : {m : Macro} → Accepted s m → AcceptedBy (length s) (token_at s) m
  accepted_by A = record { short = A.short; spelled = spelled_by A.spelled; in_order = A.in_order; few = A.few }

  pub by_accepted : {m : Macro} → AcceptedBy (length s) (token_at s) m → Accepted s (respelled m)
  by_accepted {m} A = record {
    short = A.short;
    spelled = by_spelled m A.spelled;
    in_order = order m A.in_order;
    few = A.few;
  }

-- ---- texts whose tokens are known by the same numbers and begin at the same places, one after the other

module _ (size size' : ℕ) (next next' : ℕ → Token) (keys : (i : ℕ) → key_by size next i ≡ key_by size' next' i)
    (starts : (i : ℕ) → (next (place_by size next i)).start ≡ (next' (place_by size' next' i)).start) where
  tokens_same : (i : ℕ) → tokens_by size next i ≡ tokens_by size' next' i
  tokens_same zero = refl
  tokens_same (suc i) = λ j. tokens_same i j ++ keys i j ∷ []

  no_same : (n i : ℕ) → NoBy size next n i ≡ NoBy size' next' n i
  no_same n i = λ j. No n (tokens_same i j) (keys i j) (keys (suc i) j)

  pub first_same : {n p : ℕ} → FirstNoBy size next n p → FirstNoBy size' next' n p
  first_same {n} F = record {
    index = F.index;
    reached = λ j l e. F.reached j l (keys j ∙ e);
    place = F.place ∙ starts F.index;
    no = subst (λ X. X) (no_same n F.index) F.no;
    lowest = λ m l x. F.lowest m l (subst (λ X. X) (sym (no_same m F.index)) x);
    first = λ m j l x. F.first m j l (subst (λ X. X) (sym (no_same m j)) x);
  }
