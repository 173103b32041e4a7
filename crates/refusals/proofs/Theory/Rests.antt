-- What may follow the tokens so far, by the grammar alone, token by token; and that this is right: tokens begin a sentence exactly if they can be taken
-- one after the other.
use mathlib.Core.Path.{◌≡◌, refl, sym, ap, subst, ◌∙◌}
use mathlib.Core.Logic.{◌⊎◌, inl, inr}
use Prim.Native.Nat.{ℕ}
use native.Mathlib.Omega.{arith}
use mathlib.Core.Bool.{Bool, true, false, ◌&&◌, ◌||◌}
use mathlib.Core.List.{List, [], ◌∷◌, ◌++◌, append-nil}
use lib.Dec.{eqb}
use borrow.Author.Tests.{eqb-true, eq-eqb}
use Rattle.base.specs.Choice.{pick}
use Rattle.tokens.specs.Words.{is_name}
use Rattle.tokens.specs.Words as word
use Rattle.tokens.proofs.Theory.WordsLaws.{not_word}
use Rattle.grammar.proofs.Theory.Sound.{pick_case}
use Rattle.letters.proofs.Theory.WordLaws.{and_true}
use Rattle.refusals.proofs.Theory.Basics.{head_same, tail_same, not_nil, clash, or_case}
use Rattle.refusals.specs.Sentences.{Name, NamedCondition, NamedStatement, NamedElse, NamedBlock, ◌followed_by◌, Entry, NamedMacro, condition_then}
use Rattle.refusals.specs.Sentences.{statement_then, else_then, block_then, names_then, entry_then, entries_then, line_then, named_sentence, Sentence}
use Rattle.refusals.specs.Sentences.{Viable}

-- What is still to come.
pub data Rest : Type 0 where
  -- one token, and the rest
  token : ℕ → Rest → Rest
  -- a name; `1` or `2`; and the rest
  name digit : Rest → Rest
  -- a condition; what is behind its first name where that has no `!`; and the rest
  condition tested : Rest → Rest
  -- behind `a := b`, and all to `;`; behind `f(b`, and all to `)`; and the rest
  value arguments : Rest → Rest
  -- the names of a line, and all that follows; whether there is one already
  names : Bool → Rest
  -- the entries of a line, and the rest; whether there is one already
  entries : Bool → Rest → Rest
  -- behind the line of registers, and behind the line of functions
  line last_line : Rest
  -- statements and `}`, and the rest; statements to the end of the text. Whether an `else` may stand in front.
  inside : Bool → Rest → Rest
  outside : Bool → Rest

-- What is left when a token is taken; stuck where it does not fit.
pub data Took : Type 0 where
  took : Rest → Took
  stuck : Took

-- k as the first token of a statement: r is left behind it, q behind the first block of an `if`
abbrev pub begin : Bool → ℕ → Rest → Rest → Took
begin e k r q =
    pick (is_name k) (λ _. took (token word.becomes_key (name (value r))))
    λ _. pick (eqb k word.skip_key) (λ _. took (token word.semicolon_key r))
    λ _. pick (eqb k word.assume_key || eqb k word.assert_key) (λ _. took (condition (token word.semicolon_key r)))
    λ _. pick (eqb k word.if_key) (λ _. took (condition (token word.lbrace_key (inside false q))))
    λ _. pick (eqb k word.while_key) (λ _. took (condition (token word.lbrace_key (inside false r))))
    λ _. pick (eqb k word.else_key && e) (λ _. took (token word.lbrace_key (inside false r))) λ _. stuck

-- k as the first token behind the line of functions
abbrev pub begin_last : ℕ → Took
begin_last k = pick (eqb k word.tests_key) (λ _. took (entries false (outside false))) λ _. begin false k (outside false) (outside true)

abbrev pub take : Rest → ℕ → Took
take (token j r) k = pick (eqb k j) (λ _. took r) λ _. stuck
take (name r) k = pick (is_name k) (λ _. took r) λ _. stuck
take (digit r) k = pick (eqb k word.one_key || eqb k word.two_key) (λ _. took r) λ _. stuck
take (condition r) k =
    pick (is_name k) (λ _. took (tested r))
    λ _. pick (eqb k word.not_key) (λ _. took (name (token word.lparen_key (name (arguments r))))) λ _. stuck
take (tested r) k =
    pick (eqb k word.equal_key || eqb k word.unequal_key) (λ _. took (name r))
    λ _. pick (eqb k word.lparen_key) (λ _. took (name (arguments r))) λ _. stuck
take (value r) k =
    pick (eqb k word.semicolon_key) (λ _. took r)
    λ _. pick (eqb k word.lparen_key) (λ _. took (name (arguments (token word.semicolon_key r)))) λ _. stuck
take (arguments r) k =
    pick (eqb k word.rparen_key) (λ _. took r) λ _. pick (eqb k word.comma_key) (λ _. took (name (token word.rparen_key r))) λ _. stuck
take (names e) k = pick (is_name k) (λ _. took (names true)) λ _. pick (eqb k word.semicolon_key && e) (λ _. took line) λ _. stuck
take (entries e r) k =
    pick (is_name k) (λ _. took (token word.slash_key (digit (entries true r)))) λ _. pick (eqb k word.semicolon_key && e) (λ _. took r) λ _. stuck
take line k = pick (eqb k word.funs_key) (λ _. took (entries false last_line)) λ _. begin_last k
take last_line k = begin_last k
take (inside e r) k = pick (eqb k word.rbrace_key) (λ _. took r) λ _. begin e k (inside false r) (inside true r)
take (outside e) k = begin e k (outside false) (outside true)

abbrev pub start : Rest
start = token word.vars_key (names false)

-- whether the text may end here
abbrev pub complete : Rest → Bool
complete (token j r) = false
complete (name r) = false
complete (digit r) = false
complete (condition r) = false
complete (tested r) = false
complete (value r) = false
complete (arguments r) = false
complete (names e) = false
complete (entries e r) = false
complete line = true
complete last_line = true
complete (inside e r) = false
complete (outside e) = true

-- ---- the token lists that a rest stands for

data Arguments : Type 0 where
  last : Arguments
  second : Name → Arguments

data Value : Type 0 where
  register : Value
  applied : Name → Arguments → Value

-- `= b`, `!= b`, or `(b` and all to `)`
data Tested : Type 0 where
  against : Bool → Name → Tested
  called : Name → Arguments → Tested

abbrev arguments_then : Arguments → List ℕ → List ℕ
arguments_then last ws = word.rparen_key ∷ ws
arguments_then (second c) ws = word.comma_key ∷ c.key ∷ word.rparen_key ∷ ws

abbrev value_then : Value → List ℕ → List ℕ
value_then register ws = word.semicolon_key ∷ ws
value_then (applied b v) ws = word.lparen_key ∷ b.key ∷ arguments_then v (word.semicolon_key ∷ ws)

abbrev sign_token : Bool → ℕ
sign_token true = word.equal_key
sign_token false = word.unequal_key

abbrev tested_then : Tested → List ℕ → List ℕ
tested_then (against q b) ws = sign_token q ∷ b.key ∷ ws
tested_then (called b v) ws = word.lparen_key ∷ b.key ∷ arguments_then v ws

abbrev digit_token : Bool → ℕ
digit_token true = word.one_key
digit_token false = word.two_key

-- an `else` in front only where it may be
abbrev Allowed : Bool → NamedElse → Type 0
Allowed true o = Unit {0}
Allowed false NamedElse.absent = Unit {0}
Allowed false (NamedElse.present b) = ⊥

-- "at least one in each list"
abbrev Some : {A : Type 0} → Bool → List A → Type 0
Some true bs = Unit {0}
Some false [] = ⊥
Some false (a ∷ bs) = Unit {0}

-- perhaps an else, statements, and then what T says
abbrev Body : Bool → (List ℕ → Type 0) → List ℕ → Type 0
Body e T ws = (o : NamedElse) × (b : NamedBlock) × (vs : List ℕ) × Allowed e o × (ws ≡ else_then o (block_then b vs)) × T vs

abbrev Nothing : List ℕ → Type 0
Nothing ws = ws ≡ []

abbrev LastLine : List ℕ → Type 0
LastLine ws = (fs : List Entry) × (vs : List ℕ) × (ws ≡ line_then word.tests_key fs vs) × Body false Nothing vs

abbrev Line : List ℕ → Type 0
Line ws = (fs : List Entry) × (vs : List ℕ) × (ws ≡ line_then word.funs_key fs vs) × LastLine vs

abbrev Means : Rest → List ℕ → Type 0
Means (token j r) ws = (vs : List ℕ) × (ws ≡ j ∷ vs) × Means r vs
Means (name r) ws = (a : Name) × (vs : List ℕ) × (ws ≡ a.key ∷ vs) × Means r vs
Means (digit r) ws = (q : Bool) × (vs : List ℕ) × (ws ≡ digit_token q ∷ vs) × Means r vs
Means (condition r) ws = (c : NamedCondition) × (vs : List ℕ) × (ws ≡ condition_then c vs) × Means r vs
Means (tested r) ws = (v : Tested) × (vs : List ℕ) × (ws ≡ tested_then v vs) × Means r vs
Means (value r) ws = (v : Value) × (vs : List ℕ) × (ws ≡ value_then v vs) × Means r vs
Means (arguments r) ws = (v : Arguments) × (vs : List ℕ) × (ws ≡ arguments_then v vs) × Means r vs
Means (names e) ws = (ks : List Name) × (vs : List ℕ) × Some e ks × (ws ≡ names_then ks (word.semicolon_key ∷ vs)) × Line vs
Means (entries e r) ws = (fs : List Entry) × (vs : List ℕ) × Some e fs × (ws ≡ entries_then fs (word.semicolon_key ∷ vs)) × Means r vs
Means line ws = Line ws
Means last_line ws = LastLine ws
Means (inside e r) ws = Body e (λ vs. (us : List ℕ) × (vs ≡ word.rbrace_key ∷ us) × Means r us) ws
Means (outside e) ws = Body e Nothing ws

-- ---- taking a token, backwards: what is left, with the token in front of it

took_same : {r q : Rest} → took r ≡ took q → r ≡ q
took_same h = cc

-- what is left, under its other name
left : (ws : List ℕ) {r q : Rest} → took r ≡ took q → Means q ws → Means r ws
left ws h m = subst (λ r. Means r ws) (sym (took_same h)) m

not_took : {r : Rest} → stuck ≡ took r → ⊥
not_took h = let z : ◌≡◌ {A = ℕ} 0 1 = cc in omega arith

allowed_absent : (e : Bool) → Allowed e NamedElse.absent
allowed_absent true = tt
allowed_absent false = tt

-- a body that has no else in front
plainly : (T : List ℕ → Type 0) (ws : List ℕ) → Body false T ws → (b : NamedBlock) × (vs : List ℕ) × (ws ≡ block_then b vs) × T vs
plainly T ws (NamedElse.absent, b, vs, a, h, t) = (b, vs, h, t)
plainly T ws (NamedElse.present x, b, vs, a, h, t) = absurd a

-- a statement in front of a body
prefixed : (T : List ℕ → Type 0) (e : Bool) (c : NamedStatement) (ws vs : List ℕ) → ws ≡ statement_then c vs → Body false T vs → Body e T ws
prefixed T e c ws vs h m = let (b, us, g, t) = plainly T vs m in (NamedElse.absent, c followed_by b, us, allowed_absent e, h ∙ ap (statement_then c) g, t)

abbrev test_of : Name → Tested → NamedCondition
test_of a (against true b) = NamedCondition.equal a b
test_of a (against false b) = NamedCondition.unequal a b
test_of t (called a last) = NamedCondition.holds t a
test_of t (called a (second b)) = NamedCondition.holds_two t a b

test_tokens : (a : Name) (v : Tested) (ws : List ℕ) → condition_then (test_of a v) ws ≡ a.key ∷ tested_then v ws
test_tokens a (against true b) ws = refl
test_tokens a (against false b) ws = refl
test_tokens t (called a last) ws = refl
test_tokens t (called a (second b)) ws = refl

abbrev negation_of : Name → Name → Arguments → NamedCondition
negation_of t a last = NamedCondition.fails t a
negation_of t a (second b) = NamedCondition.fails_two t a b

negation_tokens : (t a : Name) (v : Arguments) (ws : List ℕ)
    → condition_then (negation_of t a v) ws ≡ word.not_key ∷ t.key ∷ word.lparen_key ∷ a.key ∷ arguments_then v ws
negation_tokens t a last ws = refl
negation_tokens t a (second b) ws = refl

abbrev assigned : Name → Name → Value → NamedStatement
assigned a b register = NamedStatement.copy a b
assigned a f (applied b last) = NamedStatement.apply a f b
assigned a f (applied b (second c)) = NamedStatement.apply_two a f b c

assigned_tokens : (a b : Name) (v : Value) (ws : List ℕ) → statement_then (assigned a b v) ws ≡ a.key ∷ word.becomes_key ∷ b.key ∷ value_then v ws
assigned_tokens a b register ws = refl
assigned_tokens a f (applied b last) ws = refl
assigned_tokens a f (applied b (second c)) ws = refl

allowed_true : (e : Bool) (o : NamedElse) → e ≡ true → Allowed e o
allowed_true true o h = tt
allowed_true false o h = absurd (clash h refl)

-- `{`, a block, `}`, and the rest
braced : (r : Rest) (ws : List ℕ) → Means (token word.lbrace_key (inside false r)) ws
    → (b : NamedBlock) × (vs : List ℕ) × (ws ≡ word.lbrace_key ∷ block_then b (word.rbrace_key ∷ vs)) × Means r vs
braced r ws (x, h, (NamedElse.absent, b, y, a, g, (z, f, m))) = (b, z, rw (h, g, f), m)
braced r ws (x, h, (NamedElse.present c, b, y, a, g, (z, f, m))) = absurd a

module _ (T : List ℕ → Type 0) (r q : Rest) (into : (ws : List ℕ) → Means r ws → Body false T ws) (into_else : (ws : List ℕ) → Means q ws → Body true T ws)
    (e : Bool) (k : ℕ) where
  name_put : (ws : List ℕ) → is_name k ≡ true → Means (token word.becomes_key (name (value r))) ws → Body e T (k ∷ ws)
  name_put ws t (x, h, (b, y, g, (v, z, f, m))) = let a : Name = record { key = k; real = t } in
      prefixed T e (assigned a b v) (k ∷ ws) z (rw (h, g, f) (sym (assigned_tokens a b v z))) (into z m)

  skip_put : (ws : List ℕ) → k ≡ word.skip_key → Means (token word.semicolon_key r) ws → Body e T (k ∷ ws)
  skip_put ws t (x, h, m) = prefixed T e NamedStatement.skip (k ∷ ws) x (rw (t, h)) (into x m)

  tested_put : (ws : List ℕ) → (k ≡ word.assume_key) ⊎ (k ≡ word.assert_key)
      → (c : NamedCondition) × (vs : List ℕ) × (ws ≡ condition_then c vs) × Means (token word.semicolon_key r) vs → Body e T (k ∷ ws)
  tested_put ws (inl t) (c, x, h, (y, g, m)) = prefixed T e (NamedStatement.assume c) (k ∷ ws) y (rw (t, h, g)) (into y m)
  tested_put ws (inr t) (c, x, h, (y, g, m)) = prefixed T e (NamedStatement.assert c) (k ∷ ws) y (rw (t, h, g)) (into y m)

  if_put : (ws : List ℕ) (c : NamedCondition) (b : NamedBlock) (x y : List ℕ) → k ≡ word.if_key → ws ≡ condition_then c x
      → x ≡ word.lbrace_key ∷ block_then b (word.rbrace_key ∷ y) → Body true T y → Body e T (k ∷ ws)
  if_put ws c b x y t h g (o, d, z, a, f, m) =
      prefixed T e (NamedStatement.if c b o) (k ∷ ws) (block_then d z) (rw (t, h, g, f)) (NamedElse.absent, d, z, tt, refl, m)

  else_put : (ws : List ℕ) (b : NamedBlock) (y : List ℕ) → k ≡ word.else_key → e ≡ true → ws ≡ word.lbrace_key ∷ block_then b (word.rbrace_key ∷ y)
      → (d : NamedBlock) × (vs : List ℕ) × (y ≡ block_then d vs) × T vs → Body e T (k ∷ ws)
  else_put ws b y t u h (d, z, g, m) = (NamedElse.present b, d, z, allowed_true e (NamedElse.present b) u, rw (t, h, g), m)

  begun : (l : Rest) (ws : List ℕ) → begin e k r q ≡ took l → Means l ws → Body e T (k ∷ ws)
  begun l ws h m =
      pick_case (is_name k) _ _ _ h (λ t g. name_put ws t (left ws g m))
      λ _ h. pick_case (eqb k word.skip_key) _ _ _ h (λ t g. skip_put ws (eqb-true k word.skip_key t) (left ws g m))
      λ _ h. pick_case (eqb k word.assume_key || eqb k word.assert_key) _ _ _ h
      (λ t g. tested_put ws (assume_or_assert (or_case (eqb k word.assume_key) (eqb k word.assert_key) t))
      (left ws g m))
      λ _ h. pick_case (eqb k word.if_key) _ _ _ h
      (λ t g. let (c, x, i, n) = left ws g m in
      let (b, y, j, w) = braced q x n in if_put ws c b x y (eqb-true k word.if_key t) i j (into_else y w))
      λ _ h. pick_case (eqb k word.while_key) _ _ _ h
      (λ t g. let (c, x, i, n) = left ws g m in
      let (b, y, j, w) = braced r x n in
      prefixed T e (NamedStatement.while c b) (k ∷ ws) y (spelled_while c b ws x y (eqb-true k word.while_key t) i j) (into y w))
      λ _ h. pick_case (eqb k word.else_key && e) _ _ _ h
      (λ t g. let (b, y, j, w) = braced r ws (left ws g m) in
      let (f, u) = and_true (eqb k word.else_key) e t in else_put ws b y (eqb-true k word.else_key f) u j (plainly T y (into y w)))
      λ _ h. absurd (not_took h)
    where
      assume_or_assert : (eqb k word.assume_key ≡ true) ⊎ (eqb k word.assert_key ≡ true) → (k ≡ word.assume_key) ⊎ (k ≡ word.assert_key)
      assume_or_assert (inl u) = inl (eqb-true k word.assume_key u)
      assume_or_assert (inr u) = inr (eqb-true k word.assert_key u)

      spelled_while : (c : NamedCondition) (b : NamedBlock) (ws x y : List ℕ) → k ≡ word.while_key → ws ≡ condition_then c x
          → x ≡ word.lbrace_key ∷ block_then b (word.rbrace_key ∷ y) → k ∷ ws ≡ statement_then (NamedStatement.while c b) y
      spelled_while c b ws x y t h g = rw (t, h, g)

sign_of : (k : ℕ) → eqb k word.equal_key || eqb k word.unequal_key ≡ true → (q : Bool) × (k ≡ sign_token q)
sign_of k h = go (or_case (eqb k word.equal_key) (eqb k word.unequal_key) h)
  where
    go : (eqb k word.equal_key ≡ true) ⊎ (eqb k word.unequal_key ≡ true) → (q : Bool) × (k ≡ sign_token q)
    go (inl t) = (true, eqb-true k word.equal_key t)
    go (inr t) = (false, eqb-true k word.unequal_key t)

digit_of : (k : ℕ) → eqb k word.one_key || eqb k word.two_key ≡ true → (q : Bool) × (k ≡ digit_token q)
digit_of k h = go (or_case (eqb k word.one_key) (eqb k word.two_key) h)
  where
    go : (eqb k word.one_key ≡ true) ⊎ (eqb k word.two_key ≡ true) → (q : Bool) × (k ≡ digit_token q)
    go (inl t) = (true, eqb-true k word.one_key t)
    go (inr t) = (false, eqb-true k word.two_key t)

some_true : {A : Type 0} (e : Bool) (bs : List A) → e ≡ true → Some e bs
some_true true bs h = tt
some_true false bs h = absurd (clash h refl)

some_one : {A : Type 0} (e : Bool) (b : A) (bs : List A) → Some e (b ∷ bs)
some_one true b bs = tt
some_one false b bs = tt

abbrev entry_of : Bool → Name → Entry
entry_of true f = Entry.one f
entry_of false f = Entry.two f

entry_tokens : (q : Bool) (f : Name) (ws : List ℕ) → entry_then (entry_of q f) ws ≡ f.key ∷ word.slash_key ∷ digit_token q ∷ ws
entry_tokens true f ws = refl
entry_tokens false f ws = refl

-- each with its token in front of what is left
named_put : (k : ℕ) (r : Rest) (ws : List ℕ) → is_name k ≡ true → Means (tested r) ws → Means (condition r) (k ∷ ws)
named_put k r ws t (v, x, h, m) = let a : Name = record { key = k; real = t } in (test_of a v, x, rw h (sym (test_tokens a v x)), m)

negated_put : (k : ℕ) (r : Rest) (ws : List ℕ) → k ≡ word.not_key → Means (name (token word.lparen_key (name (arguments r)))) ws → Means (condition r) (k ∷ ws)
negated_put k r ws t (a, x, h, (y, g, (b, z, f, (v, u, e, m)))) = (negation_of a b v, u, rw (t, h, g, f, e) (sym (negation_tokens a b v u)), m)

against_put : (k : ℕ) (r : Rest) (ws : List ℕ) → (q : Bool) × (k ≡ sign_token q) → Means (name r) ws → Means (tested r) (k ∷ ws)
against_put k r ws (q, t) (b, x, h, m) = (against q b, x, rw (t, h), m)

called_put : (k : ℕ) (r : Rest) (ws : List ℕ) → k ≡ word.lparen_key → Means (name (arguments r)) ws → Means (tested r) (k ∷ ws)
called_put k r ws t (b, x, h, (v, y, g, m)) = (called b v, y, rw (t, h, g), m)

value_put : (k : ℕ) (r : Rest) (ws : List ℕ) → k ≡ word.lparen_key → Means (name (arguments (token word.semicolon_key r))) ws → Means (value r) (k ∷ ws)
value_put k r ws t (b, x, h, (v, y, g, (z, f, m))) = (applied b v, z, rw (t, h, g, f), m)

second_put : (k : ℕ) (r : Rest) (ws : List ℕ) → k ≡ word.comma_key → Means (name (token word.rparen_key r)) ws → Means (arguments r) (k ∷ ws)
second_put k r ws t (c, x, h, (y, g, m)) = (second c, y, rw (t, h, g), m)

names_put : (e : Bool) (k : ℕ) (ws : List ℕ) → is_name k ≡ true → Means (names true) ws → Means (names e) (k ∷ ws)
names_put e k ws t (ks, x, o, h, m) = let a : Name = record { key = k; real = t } in (a ∷ ks, x, some_one e a ks, ap (λ l. k ∷ l) h, m)

entries_put : (e : Bool) (k : ℕ) (r : Rest) (ws : List ℕ) → is_name k ≡ true → Means (token word.slash_key (digit (entries true r))) ws
    → Means (entries e r) (k ∷ ws)
entries_put e k r ws t (x, h, (q, y, g, (fs, z, o, f, m))) =
    let a : Name = record { key = k; real = t } in
    (entry_of q a ∷ fs, z, some_one e (entry_of q a) fs, rw (h, g, f) (sym (entry_tokens q a (entries_then fs (word.semicolon_key ∷ z)))), m)

-- a line that begins with the word j
line_put : (j k : ℕ) (r : Rest) (ws : List ℕ) → k ≡ j → Means (entries false r) ws
    → (fs : List Entry) × (vs : List ℕ) × (k ∷ ws ≡ line_then j fs vs) × Means r vs
line_put j k r ws t ([], x, o, h, m) = absurd o
line_put j k r ws t (f ∷ fs, x, o, h, m) = (f ∷ fs, x, rw (t, h), m)

last_line_put : (k : ℕ) (l : Rest) (ws : List ℕ) → begin_last k ≡ took l → Means l ws → LastLine (k ∷ ws)
last_line_put k l ws h m =
    pick_case (eqb k word.tests_key) _ _ _ h (λ t g. line_put word.tests_key k (outside false) ws (eqb-true k word.tests_key t) (left ws g m))
    λ _ g. ([], k ∷ ws, refl, begun Nothing (outside false) (outside true) (λ _ n. n) (λ _ n. n) false k l ws g m)

-- The token that was taken, in front of what is left, is what was to come.
take_put : (r : Rest) (k : ℕ) (l : Rest) (ws : List ℕ) → take r k ≡ took l → Means l ws → Means r (k ∷ ws)
take_put (token j r) k l ws h m = pick_case (eqb k j) _ _ _ h (λ t g. (ws, ap (λ k. k ∷ ws) (eqb-true k j t), left ws g m)) λ _ g. absurd (not_took g)
take_put (name r) k l ws h m = pick_case (is_name k) _ _ _ h (λ t g. (record { key = k; real = t }, ws, refl, left ws g m)) λ _ g. absurd (not_took g)
take_put (digit r) k l ws h m =
    pick_case (eqb k word.one_key || eqb k word.two_key) _ _ _ h (λ t g. let (q, i) = digit_of k t in (q, ws, ap (λ k. k ∷ ws) i, left ws g m))
    λ _ g. absurd (not_took g)
take_put (condition r) k l ws h m =
    pick_case (is_name k) _ _ _ h (λ t g. named_put k r ws t (left ws g m))
    λ _ h. pick_case (eqb k word.not_key) _ _ _ h (λ t g. negated_put k r ws (eqb-true k word.not_key t) (left ws g m)) λ _ g. absurd (not_took g)
take_put (tested r) k l ws h m =
    pick_case (eqb k word.equal_key || eqb k word.unequal_key) _ _ _ h (λ t g. against_put k r ws (sign_of k t) (left ws g m))
    λ _ h. pick_case (eqb k word.lparen_key) _ _ _ h (λ t g. called_put k r ws (eqb-true k word.lparen_key t) (left ws g m)) λ _ g. absurd (not_took g)
take_put (value r) k l ws h m =
    pick_case (eqb k word.semicolon_key) _ _ _ h (λ t g. (register, ws, ap (λ k. k ∷ ws) (eqb-true k word.semicolon_key t), left ws g m))
    λ _ h. pick_case (eqb k word.lparen_key) _ _ _ h (λ t g. value_put k r ws (eqb-true k word.lparen_key t) (left ws g m)) λ _ g. absurd (not_took g)
take_put (arguments r) k l ws h m =
    pick_case (eqb k word.rparen_key) _ _ _ h (λ t g. (last, ws, ap (λ k. k ∷ ws) (eqb-true k word.rparen_key t), left ws g m))
    λ _ h. pick_case (eqb k word.comma_key) _ _ _ h (λ t g. second_put k r ws (eqb-true k word.comma_key t) (left ws g m)) λ _ g. absurd (not_took g)
take_put (names e) k l ws h m =
    pick_case (is_name k) _ _ _ h (λ t g. names_put e k ws t (left ws g m))
    λ _ h. pick_case (eqb k word.semicolon_key && e) _ _ _ h
    (λ t g. let (f, u) = and_true (eqb k word.semicolon_key) e t in ([], ws, some_true e [] u, ap (λ k. k ∷ ws) (eqb-true k word.semicolon_key f), left ws g m))
    λ _ g. absurd (not_took g)
take_put (entries e r) k l ws h m =
    pick_case (is_name k) _ _ _ h (λ t g. entries_put e k r ws t (left ws g m))
    λ _ h. pick_case (eqb k word.semicolon_key && e) _ _ _ h
    (λ t g. let (f, u) = and_true (eqb k word.semicolon_key) e t in ([], ws, some_true e [] u, ap (λ k. k ∷ ws) (eqb-true k word.semicolon_key f), left ws g m))
    λ _ g. absurd (not_took g)
take_put line k l ws h m =
    pick_case (eqb k word.funs_key) _ _ _ h (λ t g. line_put word.funs_key k last_line ws (eqb-true k word.funs_key t) (left ws g m))
    λ _ g. ([], k ∷ ws, refl, last_line_put k l ws g m)
take_put last_line k l ws h m = last_line_put k l ws h m
take_put (inside e r) k l ws h m =
    pick_case (eqb k word.rbrace_key) _ _ _ h
    (λ t g. (NamedElse.absent, NamedBlock.empty, k ∷ ws, allowed_absent e, refl, (ws, ap (λ k. k ∷ ws) (eqb-true k word.rbrace_key t), left ws g m)))
    λ _ g. begun (λ vs. (us : List ℕ) × (vs ≡ word.rbrace_key ∷ us) × Means r us) (inside false r) (inside true r) (λ _ n. n) (λ _ n. n) e k l ws g m
take_put (outside e) k l ws h m = begun Nothing (outside false) (outside true) (λ _ n. n) (λ _ n. n) e k l ws h m

-- ---- taking a token, forwards: what is to come begins with a token that can be taken

abbrev Taken : Took → List ℕ → Type 0
Taken t ws = (r : Rest) × (t ≡ took r) × Means r ws

shift : (f : ℕ → Took) (k j : ℕ) (ws us : List ℕ) → k ∷ ws ≡ j ∷ us → Taken (f j) us → Taken (f k) ws
shift f k j ws us h d = subst (λ j. Taken (f j) ws) (sym (head_same h)) (subst (λ us. Taken (f j) us) (sym (tail_same h)) d)

-- f takes the first token of a body: as begin does, or stops as T says
module _ (T : List ℕ → Type 0) (r q : Rest) (out : (ws : List ℕ) → Body false T ws → Means r ws) (out_else : (ws : List ℕ) → Body true T ws → Means q ws)
    (f : ℕ → Took)
    (stop : (k : ℕ) (ws : List ℕ) → T (k ∷ ws) → Taken (f k) ws) where
  abbrev Agrees : Bool → Type 0
  Agrees e = (j : ℕ) → eqb j word.rbrace_key ≡ false → eqb j word.funs_key ≡ false → eqb j word.tests_key ≡ false → f j ≡ begin e j r q

  name_taken : (e : Bool) → Agrees e → (x : Name) → f x.key ≡ took (token word.becomes_key (name (value r)))
  name_taken e agree x =
      agree x.key (not_word x.key word.rbrace_key refl x.real) (not_word x.key word.funs_key refl x.real)
      (not_word x.key word.tests_key refl x.real)
      ∙ rw x.real

  body_taken : (e : Bool) → Agrees e → (o : NamedElse) (b : NamedBlock) (k : ℕ) (ws vs : List ℕ)
      → Allowed e o → k ∷ ws ≡ else_then o (block_then b vs) → T vs → Taken (f k) ws
  body_taken e agree NamedElse.absent NamedBlock.empty k ws vs a h t = stop k ws (subst T (sym h) t)
  body_taken e agree NamedElse.absent (NamedStatement.skip followed_by b) k ws vs a h t =
      shift f k word.skip_key ws _ h (token word.semicolon_key r, agree word.skip_key refl refl refl, (_, refl, out _ (NamedElse.absent, b, vs, tt, refl, t)))
  body_taken e agree NamedElse.absent (NamedStatement.copy x y followed_by b) k ws vs a h t =
      shift f k x.key ws _ h (
        token word.becomes_key (name (value r)),
        name_taken e agree x,
        (_, refl, (y, _, refl, (register, _, refl, out _ (NamedElse.absent, b, vs, tt, refl, t)))),
      )
  body_taken e agree NamedElse.absent (NamedStatement.apply x g y followed_by b) k ws vs a h t =
      shift f k x.key ws _ h (
        token word.becomes_key (name (value r)),
        name_taken e agree x,
        (_, refl, (g, _, refl, (applied y last, _, refl, out _ (NamedElse.absent, b, vs, tt, refl, t)))),
      )
  body_taken e agree NamedElse.absent (NamedStatement.apply_two x g y z followed_by b) k ws vs a h t =
      shift f k x.key ws _ h (
        token word.becomes_key (name (value r)),
        name_taken e agree x,
        (_, refl, (g, _, refl, (applied y (second z), _, refl, out _ (NamedElse.absent, b, vs, tt, refl, t)))),
      )
  body_taken e agree NamedElse.absent (NamedStatement.assume c followed_by b) k ws vs a h t =
      shift f k word.assume_key ws _ h (
        condition (token word.semicolon_key r),
        agree word.assume_key refl refl refl,
        (c, _, refl, (_, refl, out _ (NamedElse.absent, b, vs, tt, refl, t))),
      )
  body_taken e agree NamedElse.absent (NamedStatement.assert c followed_by b) k ws vs a h t =
      shift f k word.assert_key ws _ h (
        condition (token word.semicolon_key r),
        agree word.assert_key refl refl refl,
        (c, _, refl, (_, refl, out _ (NamedElse.absent, b, vs, tt, refl, t))),
      )
  body_taken e agree NamedElse.absent (NamedStatement.if c x o followed_by b) k ws vs a h t =
      shift f k word.if_key ws _ h (
        condition (token word.lbrace_key (inside false q)),
        agree word.if_key refl refl refl,
        (c, _, refl, (_, refl, (NamedElse.absent, x, _, tt, refl, (_, refl, out_else _ (o, b, vs, tt, refl, t))))),
      )
  body_taken e agree NamedElse.absent (NamedStatement.while c x followed_by b) k ws vs a h t =
      shift f k word.while_key ws _ h (
        condition (token word.lbrace_key (inside false r)),
        agree word.while_key refl refl refl,
        (c, _, refl, (_, refl, (NamedElse.absent, x, _, tt, refl, (_, refl, out _ (NamedElse.absent, b, vs, tt, refl, t))))),
      )
  body_taken true agree (NamedElse.present x) b k ws vs a h t =
      shift f k word.else_key ws _ h (
        token word.lbrace_key (inside false r),
        agree word.else_key refl refl refl,
        (_, refl, (NamedElse.absent, x, _, tt, refl, (_, refl, out _ (NamedElse.absent, b, vs, tt, refl, t)))),
      )
  body_taken false agree (NamedElse.present x) b k ws vs a h t = absurd a

outer_taken : (e : Bool) (k : ℕ) (ws : List ℕ) → Body e Nothing (k ∷ ws) → Taken (take (outside e) k) ws
outer_taken e k ws (o, b, vs, a, h, t) =
    body_taken Nothing (outside false) (outside true) (λ _ m. m) (λ _ m. m) (take (outside e)) (λ k ws n. absurd (not_nil n)) e
    (λ j x y z. refl) o b k ws vs a h t

inner_taken : (e : Bool) (r : Rest) (k : ℕ) (ws : List ℕ) → Means (inside e r) (k ∷ ws) → Taken (take (inside e r) k) ws
inner_taken e r k ws (o, b, vs, a, h, t) =
    body_taken (λ vs. (us : List ℕ) × (vs ≡ word.rbrace_key ∷ us) × Means r us) (inside false r) (inside true r) (λ _ m. m) (λ _ m. m) (take (inside e r))
    (λ k ws (us, n, m). shift (take (inside e r)) k word.rbrace_key ws us n (r, refl, m)) e (λ j x y z. rw x) o b k ws vs a h t

entry_taken : (e : Bool) (r : Rest) (f : Entry) (fs : List Entry) (vs : List ℕ) → Means r vs → (k : ℕ) (ws : List ℕ)
    → k ∷ ws ≡ entries_then (f ∷ fs) (word.semicolon_key ∷ vs) → Taken (take (entries e r) k) ws
entry_taken e r (Entry.one f) fs vs m k ws h =
    shift (take (entries e r)) k f.key ws _ h
    (token word.slash_key (digit (entries true r)), rw f.real, (_, refl, (true, _, refl, (fs, vs, tt, refl, m))))
entry_taken e r (Entry.two f) fs vs m k ws h =
    shift (take (entries e r)) k f.key ws _ h
    (token word.slash_key (digit (entries true r)), rw f.real, (_, refl, (false, _, refl, (fs, vs, tt, refl, m))))

-- f takes the first token behind the line of functions
module _ (f : ℕ → Took) (agree : (j : ℕ) → eqb j word.funs_key ≡ false → f j ≡ begin_last j) where
  last_line_taken : (k : ℕ) (ws : List ℕ) → LastLine (k ∷ ws) → Taken (f k) ws
  last_line_taken k ws ([], xs, g, (o, b, vs, a, h, t)) =
      body_taken Nothing (outside false) (outside true) (λ _ m. m) (λ _ m. m) f (λ k ws n. absurd (not_nil n)) false (λ j x y z. agree j y ∙ rw z) o b k ws vs a
      (g ∙ h) t
  last_line_taken k ws (e ∷ es, vs, h, m) =
      shift f k word.tests_key ws _ h (entries false (outside false), agree word.tests_key refl, (e ∷ es, vs, tt, refl, m))

line_taken : (k : ℕ) (ws : List ℕ) → Line (k ∷ ws) → Taken (take line k) ws
line_taken k ws ([], xs, g, m) = last_line_taken (take line) (λ j x. rw x) k ws (subst LastLine (sym g) m)
line_taken k ws (f ∷ fs, vs, h, m) = shift (take line) k word.funs_key ws _ h (entries false last_line, refl, (f ∷ fs, vs, tt, refl, m))

condition_taken : (c : NamedCondition) (r : Rest) (vs : List ℕ) → Means r vs → (k : ℕ) (ws : List ℕ) → k ∷ ws ≡ condition_then c vs
    → Taken (take (condition r) k) ws
condition_taken (NamedCondition.equal a b) r vs m k ws h =
    shift (take (condition r)) k a.key ws _ h (tested r, rw a.real, (against true b, vs, refl, m))
condition_taken (NamedCondition.unequal a b) r vs m k ws h =
    shift (take (condition r)) k a.key ws _ h (tested r, rw a.real, (against false b, vs, refl, m))
condition_taken (NamedCondition.holds t a) r vs m k ws h =
    shift (take (condition r)) k t.key ws _ h (tested r, rw t.real, (called a last, vs, refl, m))
condition_taken (NamedCondition.holds_two t a b) r vs m k ws h =
    shift (take (condition r)) k t.key ws _ h (tested r, rw t.real, (called a (second b), vs, refl, m))
condition_taken (NamedCondition.fails t a) r vs m k ws h =
    shift (take (condition r)) k word.not_key ws _ h
    (name (token word.lparen_key (name (arguments r))), refl, (t, _, refl, (_, refl, (a, _, refl, (last, vs, refl, m)))))
condition_taken (NamedCondition.fails_two t a b) r vs m k ws h =
    shift (take (condition r)) k word.not_key ws _ h
    (name (token word.lparen_key (name (arguments r))), refl, (t, _, refl, (_, refl, (a, _, refl, (second b, vs, refl, m)))))

token_taken : (r : Rest) (k : ℕ) (ws : List ℕ) → Means r (k ∷ ws) → Taken (take r k) ws
token_taken (token j r) k ws (vs, h, m) = shift (take (token j r)) k j ws vs h (r, rw (eq-eqb j j refl), m)
token_taken (name r) k ws (a, vs, h, m) = shift (take (name r)) k a.key ws vs h (r, rw a.real, m)
token_taken (digit r) k ws (true, vs, h, m) = shift (take (digit r)) k word.one_key ws vs h (r, refl, m)
token_taken (digit r) k ws (false, vs, h, m) = shift (take (digit r)) k word.two_key ws vs h (r, refl, m)
token_taken (condition r) k ws (c, vs, h, m) = condition_taken c r vs m k ws h
token_taken (tested r) k ws (against true b, vs, h, m) = shift (take (tested r)) k word.equal_key ws _ h (name r, refl, (b, vs, refl, m))
token_taken (tested r) k ws (against false b, vs, h, m) = shift (take (tested r)) k word.unequal_key ws _ h (name r, refl, (b, vs, refl, m))
token_taken (tested r) k ws (called b v, vs, h, m) = shift (take (tested r)) k word.lparen_key ws _ h (name (arguments r), refl, (b, _, refl, (v, vs, refl, m)))
token_taken (value r) k ws (register, vs, h, m) = shift (take (value r)) k word.semicolon_key ws vs h (r, refl, m)
token_taken (value r) k ws (applied b v, vs, h, m) =
    shift (take (value r)) k word.lparen_key ws _ h (name (arguments (token word.semicolon_key r)), refl, (b, _, refl, (v, _, refl, (vs, refl, m))))
token_taken (arguments r) k ws (last, vs, h, m) = shift (take (arguments r)) k word.rparen_key ws vs h (r, refl, m)
token_taken (arguments r) k ws (second c, vs, h, m) =
    shift (take (arguments r)) k word.comma_key ws _ h (name (token word.rparen_key r), refl, (c, _, refl, (vs, refl, m)))
token_taken (names true) k ws ([], vs, o, h, m) = shift (take (names true)) k word.semicolon_key ws vs h (line, refl, m)
token_taken (names false) k ws ([], vs, o, h, m) = absurd o
token_taken (names e) k ws (a ∷ ks, vs, o, h, m) = shift (take (names e)) k a.key ws _ h (names true, rw a.real, (ks, vs, tt, refl, m))
token_taken (entries true r) k ws ([], vs, o, h, m) = shift (take (entries true r)) k word.semicolon_key ws vs h (r, refl, m)
token_taken (entries false r) k ws ([], vs, o, h, m) = absurd o
token_taken (entries e r) k ws (f ∷ fs, vs, o, h, m) = entry_taken e r f fs vs m k ws h
token_taken line k ws m = line_taken k ws m
token_taken last_line k ws m = last_line_taken (take last_line) (λ j x. refl) k ws m
token_taken (inside e r) k ws m = inner_taken e r k ws m
token_taken (outside e) k ws m = outer_taken e k ws m

-- ---- the end of the text

statement_some : (c : NamedStatement) (ws : List ℕ) → [] ≡ statement_then c ws → ⊥
statement_some NamedStatement.skip ws h = not_nil (sym h)
statement_some (NamedStatement.copy a b) ws h = not_nil (sym h)
statement_some (NamedStatement.apply a f b) ws h = not_nil (sym h)
statement_some (NamedStatement.apply_two a f b c) ws h = not_nil (sym h)
statement_some (NamedStatement.assume c) ws h = not_nil (sym h)
statement_some (NamedStatement.assert c) ws h = not_nil (sym h)
statement_some (NamedStatement.if c b e) ws h = not_nil (sym h)
statement_some (NamedStatement.while c b) ws h = not_nil (sym h)

inside_some : (o : NamedElse) (b : NamedBlock) (vs us : List ℕ) → [] ≡ else_then o (block_then b vs) → vs ≡ word.rbrace_key ∷ us → ⊥
inside_some NamedElse.absent NamedBlock.empty vs us h g = not_nil (sym (h ∙ g))
inside_some NamedElse.absent (c followed_by b) vs us h g = statement_some c (block_then b vs) h
inside_some (NamedElse.present x) b vs us h g = not_nil (sym h)

arguments_some : (v : Arguments) (ws : List ℕ) → [] ≡ arguments_then v ws → ⊥
arguments_some last ws h = not_nil (sym h)
arguments_some (second c) ws h = not_nil (sym h)

tested_some : (v : Tested) (ws : List ℕ) → [] ≡ tested_then v ws → ⊥
tested_some (against q b) ws h = not_nil (sym h)
tested_some (called b v) ws h = not_nil (sym h)

condition_some : (c : NamedCondition) (ws : List ℕ) → [] ≡ condition_then c ws → ⊥
condition_some (NamedCondition.equal a b) ws h = not_nil (sym h)
condition_some (NamedCondition.unequal a b) ws h = not_nil (sym h)
condition_some (NamedCondition.holds t a) ws h = not_nil (sym h)
condition_some (NamedCondition.fails t a) ws h = not_nil (sym h)
condition_some (NamedCondition.holds_two t a b) ws h = not_nil (sym h)
condition_some (NamedCondition.fails_two t a b) ws h = not_nil (sym h)

value_some : (v : Value) (ws : List ℕ) → [] ≡ value_then v ws → ⊥
value_some register ws h = not_nil (sym h)
value_some (applied b v) ws h = not_nil (sym h)

names_some : (ks : List Name) (ws : List ℕ) → [] ≡ names_then ks (word.semicolon_key ∷ ws) → ⊥
names_some [] ws h = not_nil (sym h)
names_some (a ∷ ks) ws h = not_nil (sym h)

entries_some : (fs : List Entry) (ws : List ℕ) → [] ≡ entries_then fs (word.semicolon_key ∷ ws) → ⊥
entries_some [] ws h = not_nil (sym h)
entries_some (Entry.one f ∷ fs) ws h = not_nil (sym h)
entries_some (Entry.two f ∷ fs) ws h = not_nil (sym h)

ended_complete : (r : Rest) → Means r [] → complete r ≡ true
ended_complete (token j r) (vs, h, m) = absurd (not_nil (sym h))
ended_complete (name r) (a, vs, h, m) = absurd (not_nil (sym h))
ended_complete (digit r) (q, vs, h, m) = absurd (not_nil (sym h))
ended_complete (condition r) (c, vs, h, m) = absurd (condition_some c vs h)
ended_complete (tested r) (v, vs, h, m) = absurd (tested_some v vs h)
ended_complete (value r) (v, vs, h, m) = absurd (value_some v vs h)
ended_complete (arguments r) (v, vs, h, m) = absurd (arguments_some v vs h)
ended_complete (names e) (ks, vs, o, h, m) = absurd (names_some ks vs h)
ended_complete (entries e r) (fs, vs, o, h, m) = absurd (entries_some fs vs h)
ended_complete line m = refl
ended_complete last_line m = refl
ended_complete (inside e r) (o, b, vs, a, h, (us, g, m)) = absurd (inside_some o b vs us h g)
ended_complete (outside e) m = refl

complete_ended : (r : Rest) → complete r ≡ true → Means r []
complete_ended (token j r) h = absurd (clash h refl)
complete_ended (name r) h = absurd (clash h refl)
complete_ended (digit r) h = absurd (clash h refl)
complete_ended (condition r) h = absurd (clash h refl)
complete_ended (tested r) h = absurd (clash h refl)
complete_ended (value r) h = absurd (clash h refl)
complete_ended (arguments r) h = absurd (clash h refl)
complete_ended (names e) h = absurd (clash h refl)
complete_ended (entries e r) h = absurd (clash h refl)
complete_ended line h = ([], [], refl, ([], [], refl, (NamedElse.absent, NamedBlock.empty, [], tt, refl, refl)))
complete_ended last_line h = ([], [], refl, (NamedElse.absent, NamedBlock.empty, [], tt, refl, refl))
complete_ended (inside e r) h = absurd (clash h refl)
complete_ended (outside e) h = (NamedElse.absent, NamedBlock.empty, [], allowed_absent e, refl, refl)

-- Every rest can be completed; where a name is due, `a` will do.
abbrev letter_a : Name
letter_a = record { key = 97; real = refl }

some_names : (e : Bool) → (ks : List Name) × Some e ks
some_names true = ([], tt)
some_names false = (letter_a ∷ [], tt)

some_entries : (e : Bool) → (fs : List Entry) × Some e fs
some_entries true = ([], tt)
some_entries false = (Entry.one letter_a ∷ [], tt)

finished : (r : Rest) → (ws : List ℕ) × Means r ws
finished (token j r) = let (ws, m) = finished r in (j ∷ ws, (ws, refl, m))
finished (name r) = let (ws, m) = finished r in (97 ∷ ws, (letter_a, ws, refl, m))
finished (digit r) = let (ws, m) = finished r in (word.one_key ∷ ws, (true, ws, refl, m))
finished (condition r) = let (ws, m) = finished r in (97 ∷ word.equal_key ∷ 97 ∷ ws, (NamedCondition.equal letter_a letter_a, ws, refl, m))
finished (tested r) = let (ws, m) = finished r in (word.equal_key ∷ 97 ∷ ws, (against true letter_a, ws, refl, m))
finished (value r) = let (ws, m) = finished r in (word.semicolon_key ∷ ws, (register, ws, refl, m))
finished (arguments r) = let (ws, m) = finished r in (word.rparen_key ∷ ws, (last, ws, refl, m))
finished (names e) = let (ks, o) = some_names e in
    (names_then ks (word.semicolon_key ∷ []), (ks, [], o, refl, ([], [], refl, ([], [], refl, (NamedElse.absent, NamedBlock.empty, [], tt, refl, refl)))))
finished (entries e r) = let (ws, m) = finished r in let (fs, o) = some_entries e in (entries_then fs (word.semicolon_key ∷ ws), (fs, ws, o, refl, m))
finished line = ([], ([], [], refl, ([], [], refl, (NamedElse.absent, NamedBlock.empty, [], tt, refl, refl))))
finished last_line = ([], ([], [], refl, (NamedElse.absent, NamedBlock.empty, [], tt, refl, refl)))
finished (inside e r) = let (ws, m) = finished r in (word.rbrace_key ∷ ws, (NamedElse.absent, NamedBlock.empty, _, allowed_absent e, refl, (ws, refl, m)))
finished (outside e) = ([], (NamedElse.absent, NamedBlock.empty, [], allowed_absent e, refl, refl))

-- ---- tokens one after the other

abbrev pub on_took : Took → (Rest → Took) → Took
on_took (took r) f = f r
on_took stuck f = stuck

unfoldable pub run : Rest → List ℕ → Took
run r [] = took r
run r (k ∷ ks) = on_took (take r k) λ q. run q ks

pub run_more : (r : Rest) (ks : List ℕ) (k : ℕ) → run r (ks ++ k ∷ []) ≡ on_took (run r ks) λ q. take q k
unfolding run
run_more r [] k = one_more (take r k)
  where
    one_more : (t : Took) → on_took t (λ q. took q) ≡ t
    one_more (took r) = refl
    one_more stuck = refl
run_more r (j ∷ ks) k = go (take r j) λ q. run_more q ks k
  where
    go : (t : Took) → ((q : Rest) → run q (ks ++ k ∷ []) ≡ on_took (run q ks) λ p. take p k)
        → on_took t (λ q. run q (ks ++ k ∷ [])) ≡ on_took (on_took t λ q. run q ks) λ p. take p k
    go (took q) ih = ih q
    go stuck ih = refl

run_put : (ks : List ℕ) (r l : Rest) (ws : List ℕ) → run r ks ≡ took l → Means l ws → Means r (ks ++ ws)
unfolding run
run_put [] r l ws h m = left ws h m
run_put (k ∷ ks) r l ws h m = go (take r k) refl h (λ q g. run_put ks q l ws g m)
  where
    go : (t : Took) → take r k ≡ t → on_took t (λ q. run q ks) ≡ took l → ((q : Rest) → run q ks ≡ took l → Means q (ks ++ ws)) → Means r (k ∷ (ks ++ ws))
    go (took q) i g ih = take_put r k q (ks ++ ws) i (ih q g)
    go stuck i g ih = absurd (not_took g)

run_taken : (ks : List ℕ) (r : Rest) (ws : List ℕ) → Means r (ks ++ ws) → (l : Rest) × (run r ks ≡ took l) × Means l ws
unfolding run
run_taken [] r ws m = (r, refl, m)
run_taken (k ∷ ks) r ws m = let (q, h, n) = token_taken r k (ks ++ ws) m in let (l, g, o) = run_taken ks q ws n in (l, rw h g, o)

-- ---- sentences

start_sentence : (ws : List ℕ) → Means start ws → Sentence ws
start_sentence ws (x, h, ([], y, o, g, m)) = absurd o
start_sentence ws (x, h, (a ∷ ks, y, o, g, (fs, z, f, (gs, v, d, (NamedElse.absent, b, us, p, i, j))))) =
    record { macro = record { first = a; others = ks; functions = fs; tests = gs; body = b }; spelled = rw (h, g, f, d, i, j) }
start_sentence ws (x, h, (a ∷ ks, y, o, g, (fs, z, f, (gs, v, d, (NamedElse.present c, b, us, p, i, j))))) = absurd p

sentence_start : (m : NamedMacro) → Means start (named_sentence m)
sentence_start m = (
  _,
  refl,
  (m.first ∷ m.others, _, tt, refl, (m.functions, _, refl, (m.tests, _, refl, (NamedElse.absent, m.body, [], tt, refl, refl)))),
)

-- What can be taken begins a sentence, and what begins one can be taken.
pub run_viable : (ks : List ℕ) (r : Rest) → run start ks ≡ took r → Viable ks
run_viable ks r h = let (ws, m) = finished r in let S = start_sentence (ks ++ ws) (run_put ks start r ws h m) in
    record { macro = S.macro; further = ws; spelled = S.spelled }

pub viable_run : (ks : List ℕ) → Viable ks → (r : Rest) × (run start ks ≡ took r)
viable_run ks F = let (r, h, m) = run_taken ks start F.further (subst (Means start) F.spelled (sentence_start F.macro)) in (r, h)

-- It is a sentence exactly if the text may end there.
pub run_sentence : (ks : List ℕ) (r : Rest) → run start ks ≡ took r → complete r ≡ true → Sentence ks
run_sentence ks r h c = start_sentence ks (subst (Means start) (append-nil ks) (run_put ks start r [] h (complete_ended r c)))

pub sentence_run : (ks : List ℕ) (r : Rest) → run start ks ≡ took r → Sentence ks → complete r ≡ true
sentence_run ks r h S =
    let (l, g, m) = run_taken ks start [] (subst (Means start) (S.spelled ∙ sym (append-nil ks)) (sentence_start S.macro)) in
    ap complete (took_same (sym h ∙ g)) ∙ ended_complete l m

pub viable_nothing : Viable []
unfolding run
viable_nothing = run_viable [] start refl

-- Whether tokens begin a sentence can be decided.
pub viable_decided : (ks : List ℕ) → Viable ks ⊎ (Viable ks → ⊥)
viable_decided ks = go (run start ks) refl
  where
    go : (t : Took) → run start ks ≡ t → Viable ks ⊎ (Viable ks → ⊥)
    go (took r) h = inl (run_viable ks r h)
    go stuck h = inr λ v. let (r, g) = viable_run ks v in not_took (sym h ∙ g)
