-- What a reader of statements leaves.
use Rattle.std.specs.Prelude.{◌≡◌, ℕ, suc, ◌+◌, ◌*◌, ◌-◌, ◌≤◌, ◌<◌, true, false, List, [], ◌∷◌, ◌++◌, map, ltb, leb, length, get_or, set}
use Rattle.std.specs.Prelude.{Option, Some, None}
use Rattle.base.specs.Choice.{pick}
use Rattle.letters.specs.declared.Letter.{Letter}
use Rattle.letters.specs.declared.reasons.Refused.{Refused}
use Rattle.macros.specs.Points.{compile_else, compile_block}
use Rattle.tokens.specs.declared.Token.{Token}
use Rattle.tokens.specs.Tokens.{token_at}
use Rattle.tokens.specs.Words as word
use Rattle.grammar.specs.Limits.{most_points}
use Rattle.grammar.specs.Tree.{Statement, Else, Block, if, while}
use Rattle.grammar.specs.Expanded.{expanded_statement, expanded_else, expanded_block}
use Rattle.grammar.specs.Reading.{Got, got, exhausted, and_then, condition, braces_t, else_t, block, statement}
use Rattle.phrases.specs.Codes.{refused_as}
use Rattle.phrases.specs.declared.Condition.{Condition}
use Rattle.blocks.specs.Held.{point, held_point, Progress, progress, HoldsPoints, unknown, too_many, unused_point}
use Rattle.blocks.specs.declared.PointKind.{PointKind}
use Rattle.blocks.specs.declared.PointKind.TheVariants.{Step}
use Rattle.blocks.specs.declared.PointEntry.{PointEntry}
use Rattle.blocks.specs.declared.points.Points.{Points}

-- Read, on to the place e, with the points ps more; in front of them and behind them stand the points that were lent.
-- Free is one thing: what the table holds once there are more than the most points, of which no macro is made.
pub record Fine (st r : Progress) (ps : List PointEntry) (e : ℕ) : Type 0 where
  pub ok : r.ok ≡ true
  pub refusal : r.refusal ≡ None
  pub at : r.at ≡ e
  pub low : st.count + length ps ≤ most_points → r.count ≡ st.count + length ps
  pub high : most_points < st.count + length ps → r.count ≡ too_many
  pub laid : (old ds : List PointEntry) → HoldsPoints old st ds → length ds + length ps ≤ most_points → HoldsPoints old r (ds ++ ps)

-- Refused. Free is one thing: what the table holds, which no one reads beside a refusal.
pub record RefusedAs (r : Progress) (e : Refused) : Type 0 where
  pub ok : r.ok ≡ false
  pub refusal : r.refusal ≡ Some e
  pub at : r.at ≡ 0
  pub count : r.count ≡ 0

-- The state r, reached from st, is what was read; `code` gives its points, numbered from a number on.
abbrev pub ReadAs : {A : Type 0} → (A → ℕ → List PointEntry) → Progress → Progress → Got A → Type 0
ReadAs code st r (got a e) = Fine st r (code a st.count) e
ReadAs code st r (Got.refused n p) = RefusedAs r (refused_as n p)
ReadAs code st r exhausted = ⊥

-- a point of which it is not yet known what follows
abbrev pub waiting : PointKind → Letter → PointEntry
waiting k l = point k l unknown 0

-- the point numbered `base` that applies a named test: the test's point follows
abbrev pub applying : Letter → ℕ → PointEntry
applying a base = point Step a (base + 1) 0

-- the point that performs a letter before the test, if there is one
abbrev pub leading : Option Letter → ℕ → List PointEntry
leading None base = []
leading (Some a) base = applying a base ∷ []

-- the points of a condition as the code holds it, of which the test's is of kind k
abbrev pub condition_points : PointKind → Condition → ℕ → List PointEntry
condition_points k c base = leading c.application base ++ waiting k c.test ∷ []

-- the points ps were added to a table, wherever reading stands
abbrev pub Adds : Points → Points → List PointEntry → Type 0
Adds old new ps = (at e : ℕ) → Fine (progress at old) (progress e new) ps e

-- ---- the points of what was read, where what follows is not yet known

-- behind n declared registers (Expanded.antt)
unfoldable pub statement_code : ℕ → Statement → ℕ → List PointEntry
statement_code n c base = map held_point (compile_block (expanded_statement n c) base unknown)

unfoldable pub else_code : ℕ → Else → ℕ → List PointEntry
else_code n o base = map held_point (compile_else (expanded_else n o) base unknown)

unfoldable pub block_code : ℕ → Block → ℕ → List PointEntry
block_code n b base = map held_point (compile_block (expanded_block n b) base unknown)

-- ---- changes to the table

-- where the points in a range begin; at what follows if there are none
abbrev pub begins : ℕ → ℕ → ℕ → ℕ
begins from to follow = pick (ltb from to) (λ _. from) λ _. follow

-- a change to what follows, where the count of points goes past n and not past the most
abbrev pub changed_to : {A : Type 0} → ℕ → ℕ → A → A → A
changed_to count n new old = pick (ltb most_points count) (λ _. old) λ _. pick (leb count n) (λ _. old) λ _. new

-- point n, followed by a and b
abbrev pub forked : List PointEntry → ℕ → ℕ → ℕ → List PointEntry
forked ps n a b = set ps n (point (get_or ps n unused_point).kind (get_or ps n unused_point).letter a b)

-- ---- what each reader of statements ensures

module _ (s rs fs ns : List ℕ) (m d : ℕ) where
  -- calls enough for the bytes left
  abbrev pub Enough : ℕ → ℕ → Type 0
  Enough at k = 2 * (length s - at) ≤ k

  -- the block reader that a statement calls, with k calls left
  abbrev pub inner_block : ℕ → ℕ → ℕ → Got Block
  inner_block k e a = block s rs fs ns m k e a

  -- the braces and the else that begin at a place
  abbrev pub braces_at : ℕ → ℕ → Got Block
  braces_at k at = braces_t s rs fs ns m (inner_block k) d (token_at s at)

  abbrev pub else_at : ℕ → ℕ → Got Else
  else_at k at = else_t s rs fs ns m (inner_block k) d at (token_at s at)

  -- an if and a while, behind the word
  abbrev pub if_at : ℕ → ℕ → Got Statement
  if_at k at = and_then (condition s rs fs ns m at) λ c a. and_then (braces_at k a) λ b e. and_then (else_at k e) λ o f. got (if c b o) f

  abbrev pub while_at : ℕ → ℕ → Got Statement
  while_at k at = and_then (condition s rs fs ns m at) λ c a. and_then (braces_at k a) λ b e. got (while c b) e

  pub record BlockRead (st r : Progress) : Type 0 where
    pub outcome : (k : ℕ) → Enough st.at k → ReadAs (block_code (length rs)) st r (block s rs fs ns m (suc k) d st.at)

  pub record StatementRead (st r : Progress) : Type 0 where
    pub outcome : (k : ℕ) → Enough st.at (suc k) → ReadAs (statement_code (length rs)) st r (statement s rs fs ns m (suc k) d st.at)

  pub record BracesRead (st r : Progress) : Type 0 where
    pub outcome : (k : ℕ) → Enough st.at k → ReadAs (block_code (length rs)) st r (braces_at k st.at)

  pub record ElseRead (st r : Progress) : Type 0 where
    pub outcome : (k : ℕ) → Enough st.at k → ReadAs (else_code (length rs)) st r (else_at k st.at)

  pub record ConditionalRead (st r : Progress) : Type 0 where
    pub outcome : (k : ℕ) → Enough st.at k → ReadAs (statement_code (length rs)) st r (if_at k st.at)

  pub record RepeatRead (st r : Progress) : Type 0 where
    pub outcome : (k : ℕ) → Enough st.at k → ReadAs (statement_code (length rs)) st r (while_at k st.at)

-- the statement at a place whose token t begins no statement with a block in it
pub record PlainRead (s rs fs ns : List ℕ) (m : ℕ) (t : Token) (st r : Progress) : Type 0 where
  pub read : (d : ℕ) → t ≡ token_at s st.at → (t.key ≡ word.if_key → ⊥) → (t.key ≡ word.while_key → ⊥) → StatementRead s rs fs ns m d st r
