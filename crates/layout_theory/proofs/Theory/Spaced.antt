-- The tokens of a spaced list of tokens are that list (SPEC 8.2, 8.6).
use mathlib.Core.Path.{◌≡◌, refl, sym, ap, ◌∙◌, subst}
use Prim.Native.Nat.{ℕ, suc, ◌+◌, ◌<◌}
use native.Mathlib.Omega.{arith}
use mathlib.Core.Bool.{Bool, true, false, ◌&&◌, ◌||◌}
use mathlib.Core.List.{List, [], ◌∷◌, ◌++◌, append_assoc}
use lib.Dec.{leb, eqb}
use lib.ListN.{length, get_or, take, drop, length-append, length-drop}
use lib.Seq.{drop-drop, drop-append_seam, take-append_seam}
use borrow.Author.Tests.{eqb-true, ne_eqb}
use Rattle.base.specs.Choice.{pick}
use Rattle.base.proofs.Theory.Choice.{by_test}
use Rattle.tokens.specs.Bytes.{blank, letter, digit, inner, symbol, negation, mark, gap, name_length, longest_name, width, key, spelling}
use Rattle.tokens.specs.Words as word
use Rattle.tokens.specs.Tokens.{token, token_at}
use Rattle.tokens.proofs.Theory.Keys.{slice_take}
use Rattle.tokens.proofs.Theory.TokensLaws.{token_end, token_read}
use Rattle.text.specs.Names.{name_text}
use Rattle.text.proofs.Theory.Names.{name_law}
use Rattle.grammar.specs.Spelled.{Spells}
use Rattle.refusals.proofs.Theory.Basics.{clash}
use Rattle.layout_theory.specs.Layout.{first_byte, is_word, ends_line, space, line_feed, blank_before, line_end, spaced}
use Rattle.layout_theory.proofs.Theory.Pairs.{BeginsOther, Pairwise}

-- ---- tokens as bytes

-- Bytes that are one token by themselves.
pub record OneToken (b : List ℕ) : Type 0 where
  pub some : 0 < length b
  pub whole : width b ≡ length b

-- The number w holds a token: `name_text` gives the token's bytes back.
pub record PrintedToken (w : ℕ) : Type 0 where
  pub one : OneToken (name_text w)
  pub back : spelling (name_text w) ≡ w
  pub real : word.wrong < key (name_text w)

-- The token that w holds is known by the key k.
pub record HeldAs (k w : ℕ) : Type 0 where
  pub printed : PrintedToken w
  pub known : key (name_text w) ≡ k

-- Each of the numbers holds a token.
abbrev pub AllPrinted : List ℕ → Type 0
AllPrinted [] = Unit {0}
AllPrinted (w ∷ ws) = PrintedToken w × AllPrinted ws

-- Behind each `!` stands a token that is not `=`: they would be one token (SPEC 8.2).
abbrev pub Unjoined : List ℕ → Type 0
Unjoined [] = Unit {0}
Unjoined (w ∷ ws) = (w ≡ word.not_key → BeginsOther word.equal_key ws) × Unjoined ws

-- ---- what stands behind a token

-- letters, digits and _ go on to what is none of them
run_append : (b rest : List ℕ) → name_length b ≡ length b → inner (get_or rest 0 0) ≡ false → name_length (b ++ rest) ≡ length b
unfolding name_length
run_append [] [] = λ e f. refl
run_append [] (y ∷ rest) = λ e f. rw f
run_append (x ∷ b) rest = by_test (inner x)
    (λ t. rw t λ e f. ap suc (run_append b rest (let z : name_length b ≡ length b = omega arith in z) f))
    λ t. rw t λ e f. absurd (omega arith)

module _ (x : ℕ) (b rest : List ℕ) where
  -- the token ends where it did, if no byte behind it can go on with a name, and no `=` with a `!`
  width_append : width (x ∷ b) ≡ suc (length b) → (letter x ≡ true → inner (get_or rest 0 0) ≡ false)
      → (x ∷ b ≡ word.not_key ∷ [] → eqb (get_or rest 0 0) 61 ≡ false) → width (x ∷ (b ++ rest)) ≡ suc (length b)
  unfolding width
  width_append = by_test (letter x)
      (λ t. rw t (by_test (leb (name_length (x ∷ b)) longest_name)
      (λ u. rw u λ e f g. let n = run_append (x ∷ b) rest e (f refl) in rw (n, ← e, u))
      λ u. rw u λ e f g. absurd (omega arith)))
      λ t. rw t (by_test (mark x)
      (λ u. rw u λ e f. sign b e)
      λ u. rw u (by_test (symbol x) (λ v. rw v λ e f g. e) λ v. rw v λ e f g. absurd (omega arith)))
    where
      sign : (b : List ℕ) → pick (eqb (get_or b 0 0) 61) (λ _. 2) (λ _. pick (negation x) (λ _. 1) λ _. 0) ≡ suc (length b)
          → (x ∷ b ≡ word.not_key ∷ [] → eqb (get_or rest 0 0) 61 ≡ false)
          → pick (eqb (get_or (b ++ rest) 0 0) 61) (λ _. 2) (λ _. pick (negation x) (λ _. 1) λ _. 0) ≡ suc (length b)
      sign [] = by_test (negation x) (λ t e g. rw (g (ap (λ y. y ∷ []) (eqb-true x word.not_key t))) e) λ t. rw t λ e g. absurd (omega arith)
      sign (y ∷ b) = λ e g. e

-- ---- the first byte of a token

module _ (x : ℕ) (b : List ℕ) (e : width (x ∷ b) ≡ suc (length b)) where
  -- it is no byte with which no token begins
  begins_not : (c : ℕ) → width (c ∷ b) ≡ 0 → eqb x c ≡ false
  begins_not c f = ne_eqb x c λ g. let z = ap (λ y. width (y ∷ b)) g in absurd (omega arith)

  begins_no_comment : eqb x 35 ≡ false
  unfolding width
  begins_no_comment = begins_not 35 refl

  begins_no_blank : blank x ≡ false
  unfolding width
  begins_no_blank = rw (begins_not space refl, begins_not 9 refl, begins_not 13 refl, begins_not line_feed refl)

  -- the first byte goes on with no name if it is no letter and no digit
  begins_apart : letter x || digit x ≡ false → inner x ≡ false
  unfolding width
  begins_apart f = neither (letter x) (digit x) (eqb x 95) f (begins_not 95 refl)
    where
      neither : (p q r : Bool) → p || q ≡ false → r ≡ false → p || q || r ≡ false
      neither true q r f g = f
      neither false true r f g = f
      neither false false r f g = g

-- a token is held as a number whose lowest byte comes first
first-byte : (w : ℕ) → get_or (name_text w) 0 0 ≡ first_byte w
first-byte w = by_test (eqb w 0)
    (λ t. rw (name_law w, t) (let e = eqb-true w 0 t in omega arith))
    λ t. rw (name_law w, t)

-- a token that ends a line is no word
line_end_sign : (w : ℕ) → is_word w ≡ true → line_end w ≡ []
line_end_sign w h = rw (other word.semicolon_key refl, other word.lbrace_key refl, other word.rbrace_key refl)
  where
    other : (c : ℕ) → is_word c ≡ false → eqb w c ≡ false
    other c f = ne_eqb w c λ e. clash (ap is_word (sym e) ∙ h) f

-- ---- behind a word

-- Behind a word stands a blank, a sign or the end of the text, and so the word ends there.
behind_word : (ws : List ℕ) → AllPrinted ws → inner (get_or (spaced true ws) 0 0) ≡ false
unfolding spaced
behind_word [] P = refl
behind_word (w ∷ ws) (p, P) = by_test (is_word w) (λ t. rw t) λ t. rw t (sign (line_end w ++ spaced false ws) (name_text w) refl t)
  where
    sign : (rest b : List ℕ) → name_text w ≡ b → is_word w ≡ false → inner (get_or (b ++ rest) 0 0) ≡ false
    sign rest [] e f = absurd (let z = p.one.some in let y = ap length e in omega arith)
    sign rest (x ∷ b) e f =
        let z : width (x ∷ b) ≡ suc (length b) = rw e at p.one.whole in
        begins_apart x b z (ap (λ y. letter y || digit y) (ap (λ l. get_or l 0 0) (sym e) ∙ first-byte w) ∙ f)

-- ---- behind `!`

-- a token that begins with `=` is that sign
equal_alone : (x : ℕ) (b : List ℕ) → width (x ∷ b) ≡ suc (length b) → eqb x 61 ≡ true → x ∷ b ≡ word.equal_key ∷ []
unfolding width
equal_alone x b e t = alone b (ap (λ y. width (y ∷ b)) (sym (eqb-true x 61 t)) ∙ e)
  where
    alone : (b : List ℕ) → width (word.equal_key ∷ b) ≡ suc (length b) → x ∷ b ≡ word.equal_key ∷ []
    alone [] f = ap (λ y. y ∷ []) (eqb-true x 61 t)
    alone (y ∷ b) f = absurd (omega arith)

-- So no byte `=` stands behind `!`.
behind_negation : (ws : List ℕ) → AllPrinted ws → BeginsOther word.equal_key ws → eqb (get_or (spaced false ws) 0 0) 61 ≡ false
unfolding spaced
behind_negation [] P h = refl
behind_negation (w ∷ ws) (p, P) h = by_test (eqb (get_or (name_text w ++ (line_end w ++ spaced (is_word w) ws)) 0 0) 61)
    (λ t. absurd (h (equal_sign (line_end w ++ spaced (is_word w) ws) (name_text w) refl t))) λ t. t
  where
    equal_sign : (rest b : List ℕ) → name_text w ≡ b → eqb (get_or (b ++ rest) 0 0) 61 ≡ true → w ≡ word.equal_key
    equal_sign rest [] e t = absurd (let z = p.one.some in let y = ap length e in omega arith)
    equal_sign rest (x ∷ b) e t =
        let z : width (x ∷ b) ≡ suc (length b) = rw e at p.one.whole in
        sym p.back ∙ ap spelling (e ∙ equal_alone x b z t)

-- ---- the token at a place

-- Bytes before a token that are no part of it; none begins a comment.
abbrev AllBlank : List ℕ → Type 0
AllBlank [] = Unit {0}
AllBlank (b ∷ g) = (eqb b 35 ≡ false) × (blank b ≡ true) × AllBlank g

blank_line_end : (w : ℕ) → AllBlank (line_end w)
blank_line_end w = by_test (ends_line w) (λ t. rw t (refl, refl, tt)) λ t. rw t tt

blank-before : (follows : Bool) (w : ℕ) → AllBlank (blank_before follows w)
blank-before follows w = by_test (follows && is_word w) (λ t. rw t (refl, refl, tt)) λ t. rw t tt

blank_both : (g h : List ℕ) → AllBlank g → AllBlank h → AllBlank (g ++ h)
blank_both [] h a b = b
blank_both (x ∷ g) h (e, f, a) b = (e, f, blank_both g h a b)

gap_over : (g r : List ℕ) → AllBlank g → gap false (g ++ r) ≡ length g + gap false r
unfolding gap
gap_over [] r a = omega arith
gap_over (x ∷ g) r (e, f, a) = rw (e, f) (omega (arith, gap_over g r a))

gap_token : (b rest : List ℕ) → OneToken b → gap false (b ++ rest) ≡ 0
unfolding gap
gap_token [] rest o = absurd (let z = o.some in omega arith)
gap_token (x ∷ b) rest o = rw (begins_no_comment x b o.whole, begins_no_blank x b o.whole)

-- what may stand behind the bytes of a token: if it begins with a letter, no byte that goes on with a name; if it is `!`, no `=`
record EndsThere (b rest : List ℕ) : Type 0 where
  apart : letter (get_or b 0 0) ≡ true → inner (get_or rest 0 0) ≡ false
  unequal : b ≡ word.not_key ∷ [] → eqb (get_or rest 0 0) 61 ≡ false

token_ends : (w : ℕ) (ws : List ℕ) → PrintedToken w → AllPrinted ws → (w ≡ word.not_key → BeginsOther word.equal_key ws)
    → EndsThere (name_text w) (line_end w ++ spaced (is_word w) ws)
token_ends w ws p P u = record {
  apart = λ t.
      let h = or_left (letter (first_byte w)) (digit (first_byte w)) (ap letter (sym (first-byte w)) ∙ t) in
      ap (λ l. inner (get_or (l ++ spaced (is_word w) ws) 0 0)) (line_end_sign w h)
      ∙ ap (λ follows. inner (get_or (spaced follows ws) 0 0)) h
      ∙ behind_word ws P;
  unequal = λ e.
      let h = sym p.back ∙ ap spelling e in
      ap (λ k. eqb (get_or (line_end k ++ spaced (is_word k) ws) 0 0) 61) h ∙ behind_negation ws P (u h);
}
  where
    or_left : (p q : Bool) → p ≡ true → p || q ≡ true
    or_left true q e = refl
    or_left false q e = absurd (clash e refl)

width_kept : (b rest : List ℕ) → OneToken b → EndsThere b rest → width (b ++ rest) ≡ length b
width_kept [] rest o f = absurd (let z = o.some in omega arith)
width_kept (x ∷ b) rest o f = width_append x b rest o.whole f.apart f.unequal

-- The token behind blanks: its two numbers, where it begins and ends, and what is left behind it.
module _ (s : List ℕ) (at : ℕ) (g b rest : List ℕ) (e : drop at s ≡ g ++ (b ++ rest)) (a : AllBlank g) (o : OneToken b) (f : EndsThere b rest) where
  left : drop (at + length g) s ≡ b ++ rest
  left = sym (drop-drop (length g) at s) ∙ ap (drop (length g)) e ∙ drop-append_seam g (b ++ rest)

  token_there : token_at s at ≡ token (key b) (spelling b) (at + length g) (at + length g + length b)
  token_there =
      let n = ap length left in
      let h : at + length g < length s = omega (arith, length-append b rest, length-drop (at + length g) s, o.some) in
      let w : length b ≡ width (drop (at + length g) s) = sym (ap width left ∙ width_kept b rest o f) in
      let p : at + length g ≡ at + gap false (drop at s) = rw e (omega (arith, gap_over g (b ++ rest) a, gap_token b rest o)) in
      let front : take (length b) (drop (at + length g) s) ≡ b = ap (take (length b)) left ∙ take-append_seam b rest in
      let bytes = slice_take (at + length g) (length b) s ∙ front in
      sym (token_read s at (at + length g) (length b) p h w (λ z. absurd (let y = o.some in omega arith))
      (record { key = key b; spelling = spelling b }) (record { key_is = ap key (sym bytes); spelling_is = ap spelling (sym bytes) }))

  token_behind : drop (at + length g + length b) s ≡ rest
  token_behind = sym (drop-drop (length b) (at + length g) s) ∙ ap (drop (length b)) left ∙ drop-append_seam b rest

-- ---- the tokens of a text as they are spelled

-- The tokens of the text s from one place to another are the listed ones, as they are spelled (SPEC 8.2, 8.4).
pub data SpellsAs (s : List ℕ) : ℕ → List ℕ → ℕ → Type 0 where
  none : {at : ℕ} → SpellsAs s at [] at
  more : {at e w : ℕ} {ws : List ℕ} → (token_at s at).spelling ≡ w → (token_at s at).key ≡ key (name_text w) → word.wrong < key (name_text w)
      → SpellsAs s (token_at s at).end ws e → SpellsAs s at (w ∷ ws) e

-- so they are, by their keys, those that the listed ones are known by
pub spells_keys : (s : List ℕ) {at e : ℕ} {ks ws : List ℕ} → Pairwise HeldAs ks ws → SpellsAs s at ws e → Spells s at ks e
spells_keys s Pairwise.none SpellsAs.none = Spells.none
spells_keys s {at} (Pairwise.more r p) (SpellsAs.more e f l q) =
    Spells.more (f ∙ r.known) (subst (λ k. word.wrong < k) r.known l) (spells_keys s {at = (token_at s at).end} p q)

pub all_printed : {ks ws : List ℕ} → Pairwise HeldAs ks ws → AllPrinted ws
all_printed Pairwise.none = tt
all_printed (Pairwise.more r p) = (r.printed, all_printed p)

-- ---- the tokens of a spaced list

-- From a place on the text s is spelled by the tokens ws, and then it ends.
pub record SpelledWhole (s : List ℕ) (at : ℕ) (ws : List ℕ) : Type 0 where
  pub place : ℕ
  pub tokens : SpellsAs s at ws place
  pub ended : (token_at s place).key ≡ word.end

module _ (s : List ℕ) where
  -- What is left of the text is blanks, or the end of a line, and then the spaced tokens.
  spaced_from : (at : ℕ) (g : List ℕ) (follows : Bool) (ws : List ℕ) → AllPrinted ws → Unjoined ws → AllBlank g → drop at s ≡ g ++ spaced follows ws
      → SpelledWhole s at ws
  unfolding spaced gap
  spaced_from at g follows [] P U a e = record {
    place = at;
    tokens = SpellsAs.none;
    ended =
        let p : at + length g ≡ at + gap false (drop at s) = rw e (omega (arith, gap_over g [] a)) in
        let n = ap length e in
        ap (λ t. t.key) (sym (token_end s at (at + length g) p (omega (arith, length-append g [], length-drop at s))));
  }
  spaced_from at g follows (w ∷ ws) (p, P) (u, U) a e =
      let before = g ++ blank_before follows w in
      let rest = line_end w ++ spaced (is_word w) ws in
      let split : drop at s ≡ before ++ (name_text w ++ rest) = e ∙ sym (append_assoc g (blank_before follows w) (name_text w ++ rest)) in
      let blanks = blank_both g (blank_before follows w) a (blank-before follows w) in
      let E = token_ends w ws p P u in
      let there = token_there s at before (name_text w) rest split blanks p.one E in
      let behind = token_behind s at before (name_text w) rest split blanks p.one E in
      let R = spaced_from (token_at s at).end (line_end w) (is_word w) ws P U (blank_line_end w) (ap (λ t. drop t.end s) there ∙ behind) in
      record {
        place = R.place;
        tokens = SpellsAs.more (ap (λ t. t.spelling) there ∙ p.back) (ap (λ t. t.key) there) p.real R.tokens;
        ended = R.ended;
      }

-- The tokens of a spaced list of tokens are that list.
pub spaced_spelled : (ws : List ℕ) → AllPrinted ws → Unjoined ws → SpelledWhole (spaced false ws) 0 ws
spaced_spelled ws P U = spaced_from (spaced false ws) 0 [] false ws P U tt refl
