-- The turns of the writer's loop over the tokens of a text.
use mathlib.Core.Path.{◌≡◌, refl, sym, ap, ◌∙◌, subst}
use Prim.Native.Nat.{ℕ, ◌+◌, ◌*◌, ◌^◌, ◌≤◌, ◌<◌}
use native.Mathlib.Omega.{arith}
use mathlib.Core.Bool.{Bool, true, false, ◌&&◌}
use mathlib.Core.List.{List, [], ◌∷◌, ◌++◌, append_assoc}
use lib.Dec.{eqb}
use lib.ListN.{length, length-append}
use borrow.Author.Tests.{eqb-true, eq-eqb}
use Rattle.base.specs.Choice.{pick}
use Rattle.letters.proofs.Theory.WordLaws.{and_true}
use Rattle.tokens.specs.Bytes.{longest_name}
use Rattle.tokens.specs.Words as word
use Rattle.tokens.specs.Tokens.{token_at, place_behind}
use Rattle.tokens.specs.declared.Token.{Token}
use Rattle.tokens.proofs.Theory.TokensLaws.{token_advance}
use Rattle.text.specs.Appending.{Appended, PlaceInRange}
use Rattle.text.specs.Names.{name_text}
use Rattle.text.proofs.Theory.Appending.{LeftToAppend, left_all, left_next, left_none, left_same}
use Rattle.text.proofs.Theory.Names.{name_length}
use Rattle.grammar.specs.Limits.{longest_text}
use Rattle.grammar.specs.Grammar.{Macro, sentence}
use Rattle.grammar.specs.Spelled.{Spells}
use Rattle.refusals.specs.Accepted.{Accepted}
use Rattle.refusals.proofs.Theory.Basics.{clash}
use Rattle.layout_theory.specs.Layout.{without_empty_elses, is_word, ends_line, space, line_feed, blank_before, line_end, spaced, print_tokens, house_layout}
use Rattle.layout_theory.proofs.Theory.Pairs.{Pairwise}
use Rattle.layout_theory.proofs.Theory.Dropping.{Shortened, sentence_shortened}
use Rattle.layout_writer.specs.Tokens.{PrintedAs, empty_block_at}
use Rattle.layout_writer.proofs.Theory.Finding.{text_ended, goes_further}
use Rattle.layout_writer.proofs.Theory.Declaring.{names_from, OnlyPrintedAs, tokens_printed}

-- Of the print `all`, what the tokens of the text from `at` on give is left. The flag says that the token printed last is a word.
pub record LeftToPrint (s all entry : List ℕ) (at : ℕ) (follows : Bool) (now : List ℕ) (size : ℕ) : Type 0 where
  pub tokens : List ℕ
  pub kept : List ℕ
  pub printed : List ℕ
  pub place : ℕ
  pub spells : Spells s at tokens place
  pub ended : (token_at s place).key ≡ word.end
  pub shortened : Shortened tokens kept
  pub pairs : Pairwise (OnlyPrintedAs s) kept printed
  pub left : LeftToAppend entry 0 all (spaced follows printed) now size

pub print_all : (s entry : List ℕ) (m : Macro) → Accepted s m → LeftToPrint s (house_layout m) entry 0 false entry 0
unfolding house_layout
print_all s entry m A = record {
  tokens = sentence m;
  kept = sentence (without_empty_elses m);
  printed = print_tokens m;
  place = A.spelled.place;
  spells = A.spelled.tokens;
  ended = A.spelled.ended;
  shortened = sentence_shortened m A.in_order;
  pairs = tokens_printed s m A;
  left = left_all entry 0 (house_layout m);
}

-- the tokens of a block without statements: `{` and `}`
abbrev pub empty_block : ℕ
empty_block = 2

-- what a token tells of the text
pub small : (s : List ℕ) (at : ℕ) (t : Token) → t ≡ token_at s at → t.key ≤ word.wrong → (token_at s at).key ≤ word.wrong
small s at t e h = omega (arith, ap (λ x. x.key) e)

-- what is put for a token
abbrev pub put_text : Bool → ℕ → List ℕ
put_text follows w = blank_before follows w ++ (name_text w ++ line_end w)

module _ (s all entry : List ℕ) (at : ℕ) (follows : Bool) (now : List ℕ) (size : ℕ) where
  -- ---- no token is left

  pub print_done : (token_at s at).key ≤ word.wrong → LeftToPrint s all entry at follows now size → Appended entry 0 all now size
  unfolding spaced
  print_done h L = go L.spells L.shortened L.pairs L.left
    where
      go : {place : ℕ} {ks vs ws : List ℕ} → Spells s at ks place → Shortened ks vs → Pairwise (OnlyPrintedAs s) vs ws
          → LeftToAppend entry 0 all (spaced follows ws) now size → Appended entry 0 all now size
      go (Spells.more e l p) S P left = absurd (omega arith)
      go Spells.none Shortened.none Pairwise.none left = left_none left

  pub print_ended : length s ≤ at → LeftToPrint s all entry at follows now size → Appended entry 0 all now size
  print_ended h L = print_done (let z = ap (λ t. t.key) (text_ended s at h) in omega arith) L

  module _ (t : Token) (e : t ≡ token_at s at) (real : word.wrong < t.key) (r : Bool) (test : r ≡ (eqb t.key word.else_key && empty_block_at s t.end)) where
    key_is : (token_at s at).key ≡ t.key
    key_is = ap (λ x. x.key) (sym e)

    end_is : (token_at s at).end ≡ t.end
    end_is = ap (λ x. x.end) (sym e)

    -- an else without statements stands here, as the keys of three tokens say
    passed : r ≡ true → (t.key ≡ word.else_key) × ((token_at s t.end).key ≡ word.lbrace_key)
        × ((token_at s (token_at s t.end).end).key ≡ word.rbrace_key)
    passed f =
        let (a, b) = and_true (eqb t.key word.else_key) (empty_block_at s t.end) (sym test ∙ f) in
        let (c, d) = and_true (eqb (token_at s t.end).key word.lbrace_key) (eqb (token_at s (token_at s t.end).end).key word.rbrace_key) b in
        (eqb-true t.key word.else_key a, eqb-true _ word.lbrace_key c, eqb-true _ word.rbrace_key d)

    -- ---- an else without statements

    pub print_dropped : (behind : ℕ) → behind ≡ place_behind s t.end empty_block → r ≡ true → LeftToPrint s all entry at follows now size
        → LeftToPrint s all entry behind follows now size
    print_dropped behind q f L =
        subst (λ x. LeftToPrint s all entry x follows now size) (sym q) (go L.spells L.ended L.shortened L.pairs L.left)
      where
        go : {place : ℕ} {ks vs ws : List ℕ} → Spells s at ks place → (token_at s place).key ≡ word.end → Shortened ks vs → Pairwise (OnlyPrintedAs s) vs ws
            → LeftToAppend entry 0 all (spaced follows ws) now size → LeftToPrint s all entry (place_behind s t.end empty_block) follows now size
        go Spells.none ended S P left = absurd (omega (arith, ended, key_is))
        go (Spells.more a l p) ended (Shortened.other n S) P left = absurd (n (sym a ∙ key_is ∙ (passed f).0))
        go (Spells.more a l (Spells.more b m (Spells.more c k p))) ended (Shortened.filled n S) P left =
            absurd (n (sym c ∙ ap (λ x. (token_at s (token_at s x).end).key) end_is ∙ (passed f).2))
        go {place} {ws = ws} (Spells.more a l (Spells.more b m (Spells.more c k p))) ended (Shortened.dropped {ks} {ws = vs} S) P left = record {
          tokens = ks;
          kept = vs;
          printed = ws;
          place = place;
          spells = subst (λ x. Spells s (token_at s (token_at s x).end).end ks place) end_is p;
          ended = ended;
          shortened = S;
          pairs = P;
          left = left;
        }

    -- ---- a token is printed

    module _ (f : r ≡ false) (from : ℕ) (F : from ≡ names_from s) (w : ℕ) (P : PrintedAs s from t.key w)
        (exit : List ℕ) (next : ℕ) (put : Appended now size (put_text follows w) exit next) (word_put : Bool) (g : word_put ≡ is_word w) where
      goes_on : {ks vs ws : List ℕ} {v place : ℕ} → (token_at s place).key ≡ word.end → Spells s (token_at s at).end ks place → Shortened ks vs
          → Pairwise (OnlyPrintedAs s) vs ws → OnlyPrintedAs s t.key v → LeftToAppend entry 0 all (spaced follows (v ∷ ws)) now size
          → LeftToPrint s all entry t.end word_put exit next
      unfolding spaced
      goes_on {ks} {vs} {ws} {v} {place} ended p S Q only left =
          let same : w ≡ v = only.only w (subst (λ n. PrintedAs s n t.key w) F P) in
          let whole : blank_before follows v ++ (name_text v ++ (line_end v ++ spaced (is_word v) ws)) ≡ put_text follows w ++ spaced word_put ws =
          ap (λ l. blank_before follows v ++ l) (sym (append_assoc (name_text v) (line_end v) (spaced (is_word v) ws)))
          ∙ sym (append_assoc (blank_before follows v) (name_text v ++ line_end v) (spaced (is_word v) ws))
          ∙ λ i. put_text follows (sym same i) ++ spaced ((ap is_word (sym same) ∙ sym g) i) ws in
          record {
            tokens = ks;
            kept = vs;
            printed = ws;
            place = place;
            spells = subst (λ x. Spells s x ks place) end_is p;
            ended = ended;
            shortened = S;
            pairs = Q;
            left = left_next (put_text follows w) (spaced word_put ws) (left_same whole left) put;
          }

      pub print_put : LeftToPrint s all entry at follows now size → LeftToPrint s all entry t.end word_put exit next
      print_put L = go L.spells L.ended L.shortened L.pairs L.left
        where
          only : {k v : ℕ} → (token_at s at).key ≡ k → OnlyPrintedAs s k v → OnlyPrintedAs s t.key v
          only {k} {v} a o = subst (λ n. OnlyPrintedAs s n v) (sym a ∙ key_is) o

          empty_else : (token_at s at).key ≡ word.else_key → (token_at s (token_at s at).end).key ≡ word.lbrace_key
              → (token_at s (token_at s (token_at s at).end).end).key ≡ word.rbrace_key → r ≡ true
          empty_else a b c = test ∙ rw (
            eq-eqb t.key word.else_key (sym key_is ∙ a),
            eq-eqb _ word.lbrace_key (ap (λ x. (token_at s x).key) (sym end_is) ∙ b),
            eq-eqb _ word.rbrace_key (ap (λ x. (token_at s (token_at s x).end).key) (sym end_is) ∙ c),
          ) refl

          go : {place : ℕ} {ks vs ws : List ℕ} → Spells s at ks place → (token_at s place).key ≡ word.end → Shortened ks vs → Pairwise (OnlyPrintedAs s) vs ws
              → LeftToAppend entry 0 all (spaced follows ws) now size → LeftToPrint s all entry t.end word_put exit next
          go Spells.none ended S Q left = absurd (omega (arith, ended, key_is))
          go (Spells.more a l (Spells.more b m (Spells.more c k p))) ended (Shortened.dropped S) Q left = absurd (clash (empty_else a b c) f)
          go (Spells.more a l p) ended (Shortened.filled n S) (Pairwise.more o Q) left = goes_on ended p S Q (only a o) left
          go (Spells.more a l p) ended (Shortened.other n S) (Pairwise.more o Q) left = goes_on ended p S Q (only a o) left

-- ---- places and lengths

-- the most bytes that are put for a token: a blank, a name and an LF
abbrev pub most_put : ℕ
most_put = longest_name + 2

-- So far at most `most_put` bytes were put for each byte of the text.
pub record WithinBounds (s : List ℕ) (at size : ℕ) : Type 0 where
  pub text : length s ≤ longest_text
  pub place : at ≤ length s
  pub few : size ≤ most_put * at

put_length : (follows : Bool) (w : ℕ) → w < 2 ^ 64 → length (put_text follows w) ≤ most_put
put_length follows w h =
    omega (
      arith,
      length-append (blank_before follows w) (name_text w ++ line_end w),
      length-append (name_text w) (line_end w),
      name_length longest_name w h,
      blank_length (follows && is_word w),
      line-length (ends_line w),
    )
  where
    blank_length : (b : Bool) → length (pick b (λ _. space ∷ []) λ _. []) ≤ 1
    blank_length true = omega arith
    blank_length false = omega arith

    line-length : (b : Bool) → length (pick b (λ _. line_feed ∷ []) λ _. []) ≤ 1
    line-length true = omega arith
    line-length false = omega arith

module _ (s : List ℕ) (at size : ℕ) (B : WithinBounds s at size) where
  pub put_room : (follows : Bool) (w : ℕ) → w < 2 ^ 64 → PlaceInRange size (put_text follows w)
  put_room follows w h = record { fits = omega (arith, put_length follows w h, B.text, B.place, B.few) }

  module _ (t : Token) (e : t ≡ token_at s at) (real : word.wrong < t.key) where
    further : (at < t.end) × (t.end ≤ length s)
    further = goes_further s at t e real

    pub put_within : (follows : Bool) (w : ℕ) → w < 2 ^ 64 → (now exit : List ℕ) (next : ℕ) → Appended now size (put_text follows w) exit next
        → WithinBounds s t.end next
    put_within follows w h now exit next a = record {
      text = B.text;
      place = further.1;
      few = omega (arith, a.place, put_length follows w h, B.few, further.0);
    }

    -- behind an else without statements
    pub drop_within : (r : Bool) → r ≡ (eqb t.key word.else_key && empty_block_at s t.end) → r ≡ true
        → (behind : ℕ) → behind ≡ place_behind s t.end empty_block → (at < behind) × WithinBounds s behind size
    drop_within r test f behind q =
        let (a, b) = and_true (eqb t.key word.else_key) (empty_block_at s t.end) (sym test ∙ f) in
        let (c, d) = and_true (eqb (token_at s t.end).key word.lbrace_key) (eqb (token_at s (token_at s t.end).end).key word.rbrace_key) b in
        let opens = token_advance s t.end (rw (eqb-true (token_at s t.end).key word.lbrace_key c) (omega arith)) in
        let closes = token_advance s (token_at s t.end).end (rw (eqb-true (token_at s (token_at s t.end).end).key word.rbrace_key d) (omega arith)) in
        let past : at < behind = omega (arith, q, further.0, opens.0, closes.0) in
        (past, record { text = B.text; place = omega (arith, q, closes.1); few = omega (arith, B.few) })
