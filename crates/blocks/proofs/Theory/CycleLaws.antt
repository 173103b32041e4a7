-- The returns of the block reader and the statement reader, each by a law.
use mathlib.Core.Path.{◌≡◌, refl, sym, ap, subst, ◌∙◌}
use Prim.Native.Nat.{ℕ, zero, suc, ◌+◌, ◌*◌, ◌-◌, ◌≤◌, ◌<◌}
use native.Mathlib.Omega.{arith}
use mathlib.Core.Bool.{Bool, true, false}
use mathlib.Core.List.{List, [], ◌∷◌, ◌++◌, map, append_assoc, append-nil}
use mathlib.Core.Option as math
use mathlib.Core.Option.{none, some}
use lib.Dec.{eqb, leb}
use lib.ListN.{length, length-append}
use borrow.Author.Tests.{eq-eqb, ne_eqb, leb-true, leb-false, eqb-true, lt-ltb, le-ltb}
use Rattle.base.proofs.Theory.Choice.{by_test}
use Rattle.base.specs.Each.{each}
use Rattle.letters.specs.MacroRefusalNumbers.{nesting_too_deep}
use Rattle.grammar.specs.Limits.{most_points}
use Rattle.grammar.specs.Tree.{Condition, letter_of, Statement, skip, assign, assume, assert, present, Block, empty, ◌then◌}
use Rattle.grammar.specs.Expanded.{application, expanded_statement, expanded_else, expanded_block}
use Rattle.letters.specs.declared.Letter.{Letter}
use Rattle.macros.specs.Tree as macro
use Rattle.macros.specs.Points.{size_else, size_block, entry, compile, compile_else}
use Rattle.tokens.specs.declared.Token.{Token}
use Rattle.tokens.specs.Tokens.{token_at}
use Rattle.tokens.proofs.Theory.TokensLaws.{token_advance, token_before_end}
use Rattle.tokens.specs.Words.{is_name}
use Rattle.tokens.specs.Words as word
use Rattle.grammar.specs.Reading.{Got, got, exhausted, and_then, expect, ended, condition, ended_condition, assignment, braces_t, block, statement}
use Rattle.grammar.specs.Reading.{closing}
use Rattle.grammar.proofs.Theory.Advance.{condition_on, statement_on, braces_on}
use Rattle.grammar.proofs.Theory.Enough.{IsAnswer, expect_answers}
use Rattle.std.proofs.Common.{Result, Ok, Err, Some}
use Rattle.std.specs.Result.{IsErr, IsErrAnd}
use Rattle.std.proofs.lemmas.Result.{err_from_is_err_and}
use Rattle.letters.specs.declared.reasons.Refused.{Refused}
use Rattle.grammar.specs.Tree.{Assignment}
use Rattle.phrases.specs.Codes.{refused_as, unfit, read_as, without_value, lettered, test_of, posed, held_condition, asked}
use Rattle.phrases.specs.declared.Condition as held
use Rattle.phrases.proofs.Theory.Answers.{coded_on}
use Rattle.blocks.specs.Held.{point, unknown, too_many, Progress, progress, outcome, points_over, HoldsPoints, redirected, within}
use Rattle.blocks.specs.Outcome.{Fine, RefusedAs, ReadAs, Adds, Enough, inner_block, braces_at, else_at, if_at, while_at}
use Rattle.blocks.specs.Outcome.{waiting, begins, condition_points, statement_code, else_code, block_code, forked}
use Rattle.blocks.proofs.Theory.Outcome.{joined, branched, looped, lead, condition_code}
use Rattle.blocks.specs.Outcome.{PlainRead, BlockRead, StatementRead, BracesRead, ElseRead, ConditionalRead, RepeatRead}
use Rattle.blocks.specs.declared.PointKind.{PointKind}
use Rattle.blocks.specs.declared.PointKind.TheVariants.{Step, Check, Fork}
use Rattle.blocks.specs.declared.points.Points.{Points}
use Rattle.blocks.proofs.Theory.OutcomeLaws.{fine_moved, fine_count, fine_some, fine_then, fine_changed, outcome_fine, outcome_refused}
use Rattle.blocks.proofs.Theory.OutcomeLaws.{changed_none, changed_some}
use Rattle.blocks.proofs.Theory.TableLaws.{over_forked, over_range}
use Rattle.blocks.proofs.Theory.Redirect.{else_held, block_held, else_held_length, block_held_length, statement_length, block_length, behind, behind_size}
use Rattle.blocks.proofs.Theory.Redirect.{code_none, code_some, branch_held, loop_held, assume_code, assert_code, if_code, while_code, turned_code}
use Rattle.blocks.specs.declared.PointEntry.{PointEntry}

-- ---- the outcome of a phrase

-- what leaves by a `?` is the refusal that came in
pub exit : {A B : Type 0} {r : Result A Refused} {w : Result B Refused} {e : Refused} → r ≡ Err e → IsErr w × IsErrAnd w (λ d. d ≡ e) → w ≡ Err e
exit {w = w} i o = let (d, p, q) = err_from_is_err_and w o.1 in p ∙ ap Err q

-- a state by the answer that it came with
pub well : {r : Result ℕ Refused} {e : ℕ} (ps : Points) → r ≡ Ok e → outcome r ps ≡ progress e ps
well ps i = ap (λ r. outcome r ps) i

-- what holds of the answer's state holds of the place's, and what holds beside a refusal holds where it leaves by a `?`
pub arrives : {r : Result ℕ Refused} {e : ℕ} (P : Progress → Type 0) (ps : Points) → r ≡ Ok e → P (outcome r ps) → P (progress e ps)
arrives P ps i h = subst P (well ps i) h

pub leaves : {r : Result ℕ Refused} (w : Result ℕ Refused) {e : Refused} (P : Progress → Type 0) (ps : Points) → r ≡ Err e → IsErr w × IsErrAnd w (λ d. d ≡ e)
    → P (outcome r ps) → P (outcome w ps)
leaves w P ps i o h = subst P (ap (λ r. outcome r ps) (i ∙ sym (exit {w = w} i o))) h

pub ill : {r : Result ℕ Refused} {e : Refused} (ps : Points) → r ≡ Err e → (outcome r ps).ok ≡ false
ill ps i = ap (λ r. (outcome r ps).ok) i

pub exit_ill : {A : Type 0} {r : Result A Refused} (w : Result ℕ Refused) {e : Refused} (ps : Points) → r ≡ Err e → IsErr w × IsErrAnd w (λ d. d ≡ e)
    → (outcome w ps).ok ≡ false
exit_ill w ps i o = ill ps (exit {w = w} i o)

pub refused_with : (ps : Points) {e d : Refused} → e ≡ d → RefusedAs (outcome (Err e) ps) d
refused_with ps i = record { ok = refl; refusal = ap Some i; at = refl; count = refl }

-- a refusal of a phrase is the outcome of its reading
pub refused_outcome : {A X : Type 0} (f : A → ℕ → X) (code : A → ℕ → List PointEntry) (g : Got A) (st : Progress) (ps : Points) {r : Result X Refused}
    (w : Result ℕ Refused) {e : Refused} → IsAnswer g → r ≡ read_as f g → r ≡ Err e → IsErr w × IsErrAnd w (λ d. d ≡ e) → ReadAs code st (outcome w ps) g
refused_outcome f code (got a p) st ps w x i j o = absurd (cc)
refused_outcome f code (Got.refused n p) st ps w {e = e} x i j o =
    let z : e ≡ refused_as n p = cc in rw (exit j o) (refused_with ps z)
refused_outcome f code exhausted st ps w x i j o = absurd (x refl)

-- an assignment that was read, with its point
pub assigned_outcome : (g : Got Assignment) (a : ℕ) (old new : Points) {r : Result (Letter × ℕ) Refused} {l : Letter} {e : ℕ} → r ≡ lettered letter_of g
    → r ≡ Ok (l, e) → Adds old new (waiting Step l ∷ []) → ReadAs (λ x _. waiting Step (letter_of x) ∷ []) (progress a old) (progress e new) g
assigned_outcome g a old new {e = e} i j f =
    let (x, w, h) = coded_on letter_of g i j in
    rw w (subst (λ l. Fine (progress a old) (progress e new) (waiting Step l ∷ []) e) h (f a e))

-- and a condition with its points
pub posed_outcome : (n : ℕ) (k : PointKind) (g : Got Condition) (a : ℕ) (old new : Points) {r : Result (held.Condition × ℕ) Refused} {c :
    held.Condition} {e : ℕ}
    → r ≡ asked n g → r ≡ Ok (c, e) → Adds old new (condition_points k c old.count) → ReadAs (condition_code k n) (progress a old) (progress e new) g
posed_outcome n k g a old new {e = e} i j f =
    let (x, w, h) = coded_on (held_condition n) g i j in
    rw w (subst (λ ps. Fine (progress a old) (progress e new) ps e)
    (ap (λ c. condition_points k c old.count) h ∙ same (application n x) (test_of n x)) (f a e))
  where
    same : (o : math.Option Letter) (t : Letter) → condition_points k (posed o t) old.count ≡ lead o old.count ++ waiting k t ∷ []
    same none t = refl
    same (some b) t = refl

passed_outcome : (g : Got (Unit {0})) (a : ℕ) (ps : Points) {r : Result ℕ Refused} → IsAnswer g → r ≡ without_value g
    → ReadAs (λ _ _. []) (progress a ps) (outcome r ps) g
passed_outcome (got v e) a ps x i = rw i (fine_moved ps a e)
passed_outcome (Got.refused m o) a ps x i = rw i (refused_with ps refl)
passed_outcome exhausted a ps x i = absurd (x refl)

-- what was read, made into something with the same points
outcome_map : {A B : Type 0} (code : A → ℕ → List PointEntry) (code' : B → ℕ → List PointEntry) (st r : Progress) (g : Got A) (f : A → B)
    → ((a : A) → code' (f a) st.count ≡ code a st.count) → ReadAs code st r g → ReadAs code' st r (and_then g λ a e. got (f a) e)
outcome_map code code' st r (got a e) f k o = subst (λ ps. Fine st r ps e) (sym (k a)) o
outcome_map code code' st r (Got.refused n p) f k o = o
outcome_map code code' st r exhausted f k o = o

-- what was read behind something with no point
outcome_behind : {A : Type 0} (code : A → ℕ → List PointEntry) (st q r : Progress) (g : Got A) (a : ℕ) → q.count ≡ st.count → Fine st q [] a
    → ReadAs code q r g → ReadAs code st r g
outcome_behind code st q r (got x e) a n f o = fine_then f (subst (λ c. Fine q r (code x c) e) n o)
outcome_behind code st q r (Got.refused m p) a n f o = o
outcome_behind code st q r exhausted a n f o = o

pub moved_count : {st r : Progress} {e : ℕ} → st.count ≤ too_many → Fine st r [] e → r.count ≡ st.count
moved_count {st} {r} h f = by_test (leb (st.count + 0) most_points) (λ t. let l = leb-true (st.count + 0) most_points t in omega (arith, f.low l))
    λ t. let l = leb-false (st.count + 0) most_points t in omega (arith, f.high l)

-- ---- blocks, statement by statement

-- a block and then another
unfoldable pub followed : Block → Block → Block
followed empty x = x
followed (c then b) x = c then followed b x

followed_behind : (b : Block) (c : Statement) (x : Block) → followed (behind b c) x ≡ followed b (c then x)
unfolding followed behind
followed_behind empty c x = refl
followed_behind (y then b) c x = ap (λ z. y then z) (followed_behind b c x)

followed_empty : (b : Block) → followed b empty ≡ b
unfolding followed
followed_empty empty = refl
followed_empty (c then b) = ap (λ z. c then z) (followed_empty b)

onward_got : (x : Got Block) → and_then x (λ b e. got (followed empty b) e) ≡ x
unfolding followed
onward_got (got b e) = refl
onward_got (Got.refused n p) = refl
onward_got exhausted = refl

onward_behind : (x : Got Block) (b : Block) (c : Statement)
    → and_then (and_then x λ y e. got (c then y) e) (λ y e. got (followed b y) e) ≡ and_then x (λ y e. got (followed (behind b c) y) e)
onward_behind (got y e) b c = ap (λ z. got z e) (sym (followed_behind b c y))
onward_behind (Got.refused n p) b c = refl
onward_behind exhausted b c = refl

-- the table after a statement behind a block
joined_holds : (i : ℕ) (b : Block) (c : Statement) (cur₀ cur one : Progress) (a e : ℕ) → Fine cur₀ cur (block_code i b cur₀.count) a
    → Fine cur one (statement_code i c cur.count) e → Fine cur₀ (joined one cur₀.count cur.count) (block_code i (behind b c) cur₀.count) e
unfolding joined
joined_holds i b c cur₀ cur one a e F G =
    let base = cur₀.count in
    let pb = block_code i b base in
    let pc = statement_code i c cur.count in
    let n = length-append pb pc in
    let m = block_length i (behind b c) base in let m₁ = behind_size i b c in let m₂ = block_length i b base in let m₃ = statement_length i c cur.count in
    fine_changed {ps = pb ++ pc} cur.count (each (within base cur.count cur.count) one.points) (block_code i (behind b c) base) (fine_then F G)
    (omega arith)
    λ old ds H l Q.
    let low : cur.count ≡ base + size_block (expanded_block i b) = F.low (omega arith) ∙ ap (λ n. base + n) m₂ in
    let all = length-append ds (pb ++ pc) in
    let count = Q.count in let start = H.count in
    let turn = each (within base cur.count cur.count) in
    by_test (eqb (size_block (expanded_statement i c)) 0)
    (λ t.
    let z : size_block (expanded_statement i c) ≡ 0 = eqb-true (size_block (expanded_statement i c)) 0 t in
    subst (λ x. HoldsPoints old x (ds ++ block_code i (behind b c) base)) (changed_none one cur.count (turn one.points) (omega arith) (omega arith))
    (subst (λ ps. HoldsPoints old one (ds ++ ps)) (sym (code_none i b c base z ∙ ap (λ n. pb ++ statement_code i c n) (sym low))) Q))
    λ t.
    let z : 0 < size_block (expanded_statement i c) = some (size_block (expanded_statement i c)) t in
    subst (λ x. HoldsPoints old x (ds ++ block_code i (behind b c) base)) (changed_some one cur.count (turn one.points) (omega arith) (omega arith))
    (record {
      size = H.size;
      count = let k = length-append ds (block_code i (behind b c) base) in omega arith;
      points =
          ap turn Q.points
          ∙ over_range old ds pb pc base cur.count cur.count (omega arith) (omega arith)
          ∙ ap (λ n. points_over old (ds ++ (map (redirected n) pb ++ pc))) low
          ∙ ap (λ n. points_over old (ds ++ (map (redirected (base + size_block (expanded_block i b))) pb ++ statement_code i c n))) low
          ∙ ap (λ ps. points_over old (ds ++ ps)) (sym (code_some i b c base z (omega arith)));
    })
  where
    some : (n : ℕ) → eqb n 0 ≡ false → 0 < n
    some zero h = let z : ◌≡◌ {A = ℕ} 0 1 = cc in absurd (omega arith)
    some (suc n) h = omega arith

-- m₀ is the number of the first test
module _ (s rs fs ns : List ℕ) (m₀ d : ℕ) where
  -- with k calls the block that begins at cur₀ is a block b, which cur has read, and then what begins at cur
  abbrev Begun : Progress → Progress → ℕ → Type 0
  Begun cur₀ cur k = (b : Block) × (j : ℕ) × Enough s rs fs ns m₀ d cur.at j
      × (block s rs fs ns m₀ (suc k) d cur₀.at ≡ and_then (block s rs fs ns m₀ (suc j) d cur.at) λ x e. got (followed b x) e)
      × Fine cur₀ cur (block_code (length rs) b cur₀.count) cur.at

  -- The block from cur₀ on, as far as cur: a beginning of it is read.
  pub record BlockReached (from : ℕ) (cur₀ cur : Progress) : Type 0 where
    pub counted : cur.count ≤ too_many
    pub origin : from ≡ cur₀.count
    pub on : cur₀.at ≤ cur.at
    pub sofar : (k : ℕ) → Enough s rs fs ns m₀ d cur₀.at k → Begun cur₀ cur k

  pub reached_start : (st cur : Progress) → st.count ≤ too_many → Fine st cur [] st.at → BlockReached st.count cur cur
  unfolding block_code compile expanded_block
  reached_start st cur h f = record {
    counted = fine_count f;
    origin = sym (moved_count h f);
    on = omega arith;
    sofar = λ k l. (empty, k, l, sym (onward_got (block s rs fs ns m₀ (suc k) d cur.at)), here);
  }
    where
      here : Fine cur cur [] cur.at
      here = record {
        ok = f.ok;
        refusal = f.refusal;
        at = refl;
        low = λ l. omega arith;
        high = λ l. let c = fine_count f in omega arith;
        laid = λ old ds H l. subst (HoldsPoints old cur) (sym (append-nil ds)) H;
      }

  module _ (from : ℕ) (cur₀ cur : Progress) (R : BlockReached from cur₀ cur) (t : Token) (e : t ≡ token_at s cur.at) where
    -- the end of the block
    block_done : (st : Progress) → st.count ≤ too_many → Fine st cur₀ [] st.at → closing s rs fs ns m₀ t.key ≡ true → BlockRead s rs fs ns m₀ d st cur
    unfolding block
    block_done st h f c = record {
      outcome = λ k l.
          let (b, j, m, q, F) = R.sofar k (subst (λ n. Enough s rs fs ns m₀ d n k) (sym f.at) l) in
          let n = moved_count h f in
          let last : block s rs fs ns m₀ (suc j) d cur.at ≡ got empty cur.at = rw (ap (λ t. closing s rs fs ns m₀ t.key) (sym e) ∙ c) in
          let whole : block s rs fs ns m₀ (suc k) d st.at ≡ got b cur.at =
          ap (block s rs fs ns m₀ (suc k) d) (sym f.at)
          ∙ q
          ∙ ap (λ x. and_then x λ x e. got (followed b x) e) last
          ∙ ap (λ b. got b cur.at) (followed_empty b) in
          subst (ReadAs (block_code (length rs)) st cur) (sym whole) (fine_then f (subst (λ n. Fine cur₀ cur (block_code (length rs) b n) cur.at) n F));
    }

    pub block_brace : (st : Progress) → st.count ≤ too_many → Fine st cur₀ [] st.at → t.key ≡ word.rbrace_key → BlockRead s rs fs ns m₀ d st cur
    block_brace st h f k = block_done st h f (ap (λ n. closing s rs fs ns m₀ n) k)

    pub block_end : (st : Progress) → st.count ≤ too_many → Fine st cur₀ [] st.at → t.key ≡ 0 → BlockRead s rs fs ns m₀ d st cur
    block_end st h f k = block_done st h f (ap (λ n. closing s rs fs ns m₀ n) k)

    module _ (one : Progress) (S : StatementRead s rs fs ns m₀ d cur one) where
      -- where a statement that was read ends
      statement_at : one.ok ≡ true → (cur.at < one.at) × (cur.at < length s) × (one.count ≤ too_many)
      statement_at h =
          let k = 2 * (length s - cur.at) in
          let (c, a, g, f) = outcome_fine (statement_code (length rs)) cur one (statement s rs fs ns m₀ (suc k) d cur.at) (S.outcome k (omega arith)) h in
          let (x, y) = statement_on s rs fs ns m₀ (suc k) d cur.at c a g in
          (omega (arith, f.at), y, fine_count f)

      module _ (no_brace : t.key ≡ word.rbrace_key → ⊥) (no_end : t.key ≡ 0 → ⊥) where
        -- one step of the block
        stepped : ℕ → Got Block
        stepped k = and_then (statement s rs fs ns m₀ k d cur.at) λ c a. and_then (block s rs fs ns m₀ k d a) λ b e. got (c then b) e

        opened : (k : ℕ) → block s rs fs ns m₀ (suc k) d cur.at ≡ stepped k
        unfolding block stepped
        opened k = rw (ap (λ t. closing s rs fs ns m₀ t.key) (sym e) ∙ not_closed)
          where
            not_closed : closing s rs fs ns m₀ t.key ≡ false
            not_closed = rw (ne_eqb t.key word.rbrace_key no_brace, ne_eqb t.key 0 no_end)

        pub reached_turn : one.ok ≡ true → (r : Progress) → r ≡ joined one from cur.count
            → (length s - r.at < length s - cur.at) × BlockReached from cur₀ r
        unfolding joined stepped
        reached_turn h r u =
            let (x, y, z) = statement_at h in
            let ra : r.at ≡ one.at = ap (λ r. r.at) u in
            let rc : r.count ≡ one.count = ap (λ r. r.count) u in
            let n = R.on in
            (omega arith, record { counted = omega arith; origin = R.origin; on = omega arith; sofar = λ k l. go k ra (R.sofar k l) })
          where
            go : (k : ℕ) → r.at ≡ one.at → Begun cur₀ cur k → Begun cur₀ r k
            go k ra (b, zero, m, q, F) = let (x, y, z) = statement_at h in absurd (omega arith)
            go k ra (b, suc j, m, q, F) =
                let (x, y, z) = statement_at h in
                let (c, a, g, f) = outcome_fine (statement_code (length rs)) cur one (statement s rs fs ns m₀ (suc j) d cur.at) (S.outcome j m) h in
                let place : a ≡ r.at = sym (ra ∙ f.at) in
                let behind_one = joined_holds (length rs) b c cur₀ cur one cur.at a F f in (
                  behind b c,
                  j,
                  omega (arith, f.at),
                  q
                      ∙ ap (λ x. and_then x λ x e. got (followed b x) e) (opened (suc j))
                      ∙ ap (λ x. and_then (and_then x λ c a. and_then (block s rs fs ns m₀ (suc j) d a) λ b e. got (c then b) e) λ x e. got (followed b x) e) g
                      ∙ onward_behind (block s rs fs ns m₀ (suc j) d a) b c
                      ∙ ap (λ n. and_then (block s rs fs ns m₀ (suc j) d n) λ x e. got (followed (behind b c) x) e) place,
                  subst (λ x. Fine cur₀ x (block_code (length rs) (behind b c) cur₀.count) r.at)
                      (ap (λ n. joined one n cur.count) (sym R.origin) ∙ sym u)
                      (subst (λ n. Fine cur₀ (joined one cur₀.count cur.count) (block_code (length rs) (behind b c) cur₀.count) n) place behind_one),
                )

        pub block_refused : (st : Progress) → Fine st cur₀ [] st.at → one.ok ≡ false → BlockRead s rs fs ns m₀ d st one
        unfolding stepped
        block_refused st f h = record { outcome = λ k l. go k (R.sofar k (subst (λ n. Enough s rs fs ns m₀ d n k) (sym f.at) l)) }
          where
            go : (k : ℕ) → Begun cur₀ cur k → ReadAs (block_code (length rs)) st one (block s rs fs ns m₀ (suc k) d st.at)
            go k (b, zero, m, q, F) = let y = token_before_end s cur.at (λ z. no_end (ap (λ t. t.key) e ∙ z)) in absurd (omega arith)
            go k (b, suc j, m, q, F) =
                let whole = ap (block s rs fs ns m₀ (suc k) d) (sym f.at) ∙ q ∙ ap (λ x. and_then x λ x e. got (followed b x) e) (opened (suc j)) in
                subst (ReadAs (block_code (length rs)) st one) (sym whole)
                (outcome_refused (block_code (length rs)) (block_code (length rs)) st st one (stepped (suc j)) _
                (outcome_refused (statement_code (length rs)) (block_code (length rs)) cur st one (statement s rs fs ns m₀ (suc j) d cur.at) _
                (S.outcome j m) h) h)

-- where a token ends
pub token_on : (s : List ℕ) (at : ℕ) (t : Token) → t ≡ token_at s at → 2 ≤ t.key → (at < t.end) × (t.end ≤ length s)
token_on s at t e h = subst (λ t. (2 ≤ t.key) → (at < t.end) × (t.end ≤ length s)) (sym e) (token_advance s at) h

-- ---- statements

module _ (s rs fs ns : List ℕ) (m₀ : ℕ) (t : Token) (st : Progress) where
  pub plain_skip : (h : Result ℕ Refused) (ps : Points) (a : ℕ) → st ≡ progress a ps → t.key ≡ word.skip_key
      → h ≡ without_value (expect s word.semicolon_key t.end) → PlainRead s rs fs ns m₀ t st (outcome h ps)
  unfolding statement statement_code compile expanded_statement entry size_block
  plain_skip h ps a z i p = record {
    read = λ d e m n. record {
      outcome = λ k l. rw (← e, eq-eqb _ word.skip_key i)
          (outcome_map (λ _ _. []) (statement_code (length rs)) st (outcome h ps) (expect s word.semicolon_key t.end) (λ _. skip) (λ _. refl)
          (rw z (passed_outcome (expect s word.semicolon_key t.end) a ps (expect_answers s word.semicolon_key t.end) p)));
    };
  }

  pub plain_assume : (r : Progress) → t.key ≡ word.assume_key → ReadAs (condition_code Step (length rs)) st r (ended_condition s rs fs ns m₀ t.end)
      → PlainRead s rs fs ns m₀ t st r
  unfolding statement
  plain_assume r i q = record {
    read = λ d e m n. record {
      outcome = λ k l. rw (← e, ap (λ k. eqb k word.skip_key) i, eq-eqb _ word.assume_key i)
          (outcome_map (condition_code Step (length rs)) (statement_code (length rs)) st r (ended_condition s rs fs ns m₀ t.end) assume
          (λ c. assume_code (length rs) c st.count) q);
    };
  }

  pub plain_assert : (r : Progress) → t.key ≡ word.assert_key → ReadAs (condition_code Check (length rs)) st r (ended_condition s rs fs ns m₀ t.end)
      → PlainRead s rs fs ns m₀ t st r
  unfolding statement
  plain_assert r i q = record {
    read = λ d e m n. record {
      outcome = λ k l. rw (← e, ap (λ k. eqb k word.skip_key) i, ap (λ k. eqb k word.assume_key) i, eq-eqb _ word.assert_key i)
          (outcome_map (condition_code Check (length rs)) (statement_code (length rs)) st r (ended_condition s rs fs ns m₀ t.end) assert
          (λ c. assert_code (length rs) c st.count) q);
    };
  }

  module _ (n₁ : t.key ≡ word.skip_key → ⊥) (n₂ : t.key ≡ word.assume_key → ⊥) (n₃ : t.key ≡ word.assert_key → ⊥) (b : Bool) (i : b ≡ is_name t.key) where
    pub plain_assign : (r : Progress) → b ≡ true → ReadAs (λ x _. waiting Step (letter_of x) ∷ []) st r (assignment s rs fs ns m₀ st.at)
        → PlainRead s rs fs ns m₀ t st r
    unfolding statement statement_code compile expanded_statement entry size_block
    plain_assign r j q = record {
      read = λ d e n₄ n₅. record {
        outcome = λ k l.
            rw (
              ← e,
              ← i,
              ne_eqb _ word.skip_key n₁,
              ne_eqb _ word.assume_key n₂,
              ne_eqb _ word.assert_key n₃,
              ne_eqb _ word.if_key n₄,
              ne_eqb _ word.while_key n₅,
              j,
            )
            (outcome_map (λ a _. waiting Step (letter_of a) ∷ []) (statement_code (length rs)) st r (assignment s rs fs ns m₀ st.at) assign (λ _. refl) q);
      };
    }

    pub plain_unfit : (u : Refused) (ps : Points) → b ≡ false → u ≡ unfit t → PlainRead s rs fs ns m₀ t st (outcome (Err u) ps)
    unfolding statement
    plain_unfit u ps j p = record {
      read = λ d e n₄ n₅. record {
        outcome = λ k l.
            rw (
              ← e,
              ← i,
              ne_eqb _ word.skip_key n₁,
              ne_eqb _ word.assume_key n₂,
              ne_eqb _ word.assert_key n₃,
              ne_eqb _ word.if_key n₄,
              ne_eqb _ word.while_key n₅,
              j,
            )
            (refused_with ps p);
      };
    }

module _ (s rs fs ns : List ℕ) (m₀ d : ℕ) (st : Progress) (t : Token) (e : t ≡ token_at s st.at) where
  -- the word, and what stands behind it
  module _ (v : st.count ≤ too_many) (p r : Progress) (f : Fine st p [] t.end) where
    pub statement_if : t.key ≡ word.if_key → ConditionalRead s rs fs ns m₀ d p r → StatementRead s rs fs ns m₀ d st r
    unfolding statement
    statement_if i C = record {
      outcome = λ k l.
          let (x, y) = token_on s st.at t e (omega arith) in
          rw (← e, ap (λ k. eqb k word.skip_key) i, ap (λ k. eqb k word.assume_key) i, ap (λ k. eqb k word.assert_key) i, eq-eqb _ word.if_key i)
          (outcome_behind (statement_code (length rs)) st p r (if_at s rs fs ns m₀ d k t.end) t.end (moved_count v f) f
          (subst (λ n. ReadAs (statement_code (length rs)) p r (if_at s rs fs ns m₀ d k n)) f.at (C.outcome k (let z = f.at in omega arith))));
    }

    pub statement_while : t.key ≡ word.while_key → RepeatRead s rs fs ns m₀ d p r → StatementRead s rs fs ns m₀ d st r
    unfolding statement
    statement_while i C = record {
      outcome = λ k l.
          let (x, y) = token_on s st.at t e (omega arith) in
          rw (
            ← e,
            ap (λ k. eqb k word.skip_key) i,
            ap (λ k. eqb k word.assume_key) i,
            ap (λ k. eqb k word.assert_key) i,
            ap
                (λ k. eqb k word.if_key) i,
            eq-eqb _ word.while_key i,
          )
          (outcome_behind (statement_code (length rs)) st p r (while_at s rs fs ns m₀ d k t.end) t.end (moved_count v f) f
          (subst (λ n. ReadAs (statement_code (length rs)) p r (while_at s rs fs ns m₀ d k n)) f.at (C.outcome k (let z = f.at in omega arith))));
    }

  -- ---- braces

  pub braces_deep : (u : Refused) (ps : Points) → t.key ≡ word.lbrace_key → d ≡ 0 → u ≡ refused_as nesting_too_deep t.start
      → BracesRead s rs fs ns m₀ d st (outcome (Err u) ps)
  braces_deep u ps h z o = record { outcome = λ k l. rw (z, ← e, eq-eqb _ word.lbrace_key h) (refused_with ps o) }

  pub braces_unfit : (u : Refused) (ps : Points) → (t.key ≡ word.lbrace_key → ⊥) → u ≡ unfit t → BracesRead s rs fs ns m₀ d st (outcome (Err u) ps)
  braces_unfit u ps n p = record { outcome = λ k l. go k d }
    where
      go : (k d : ℕ) → ReadAs (block_code (length rs)) st (outcome (Err u) ps) (braces_t s rs fs ns m₀ (inner_block s rs fs ns m₀ d k) d (token_at s st.at))
      go k zero = rw (← e, ne_eqb _ word.lbrace_key n) (refused_with ps p)
      go k (suc d) = rw (← e, ne_eqb _ word.lbrace_key n) (refused_with ps p)

  module _ (h : t.key ≡ word.lbrace_key) (n : d ≡ 0 → ⊥) (v : st.count ≤ too_many) (p q : Progress) (f : Fine st p [] t.end)
      (B : BlockRead s rs fs ns m₀ (d - 1) p q) where
    abbrev brace : (st.at < t.end) × (t.end ≤ length s)
    brace = token_on s st.at t e (subst (λ n. 2 ≤ n) (sym h) (omega arith))

    -- the block inside, at the calls that the braces have
    block_inside : (k : ℕ) → Enough s rs fs ns m₀ d st.at k → ReadAs (block_code (length rs)) st q (block s rs fs ns m₀ k (d - 1) t.end)
    block_inside zero l = let (x, y) = brace in absurd (omega arith)
    block_inside (suc k) l =
        let (x, y) = brace in
        outcome_behind (block_code (length rs)) st p q (block s rs fs ns m₀ (suc k) (d - 1) t.end) t.end (moved_count v f) f
        (subst (λ n. ReadAs (block_code (length rs)) p q (block s rs fs ns m₀ (suc k) (d - 1) n)) f.at (B.outcome k (let z = f.at in omega arith)))

    opened_brace : (k c : ℕ) → d ≡ suc c
        → braces_at s rs fs ns m₀ d k st.at ≡ and_then (block s rs fs ns m₀ k (d - 1) t.end) λ b e. ended s word.rbrace_key b e
    opened_brace k c z = let y : suc c - 1 ≡ c = omega arith in rw (z, ← e, eq-eqb _ word.lbrace_key h, y)

    pub braces_refused : q.ok ≡ false → BracesRead s rs fs ns m₀ d st q
    braces_refused i = record {
      outcome = λ k l.
          let z : d ≡ suc (d - 1) = omega arith in
          rw (opened_brace k (d - 1) z) (outcome_refused (block_code (length rs)) (block_code (length rs)) st st q (block s rs fs ns m₀ k (d - 1) t.end) _
          (block_inside k l) i);
    }

    pub braces_read : (x : ℕ) (ps : Points) → q ≡ progress x ps → (o : Result ℕ Refused) → o ≡ without_value (expect s word.rbrace_key x)
        → BracesRead s rs fs ns m₀ d st (outcome o ps)
    braces_read x ps i o g = record {
      outcome = λ k l.
          let z : d ≡ suc (d - 1) = omega arith in
          let (b, m, w, j) = outcome_fine (block_code (length rs)) st q (block s rs fs ns m₀ k (d - 1) t.end) (block_inside k l) (ap (λ q. q.ok) i) in
          let y : x ≡ m = sym (ap (λ q. q.at) i) ∙ j.at in
          rw (opened_brace k (d - 1) z, w)
          (go b m (subst (λ q. Fine st q (block_code (length rs) b st.count) m) i j) (expect s word.rbrace_key m) (expect_answers s word.rbrace_key m)
          (g ∙ ap (λ n. without_value (expect s word.rbrace_key n)) y));
    }
      where
        go : (b : Block) (m : ℕ) → Fine st (progress x ps) (block_code (length rs) b st.count) m → (y : Got (Unit {0})) → IsAnswer y → o ≡ without_value y
            → ReadAs (block_code (length rs)) st (outcome o ps) (and_then y λ _ e. got b e)
        go b m f (got v e) a g =
            rw g (subst (λ ps'. Fine st (progress e ps) ps' e) (append-nil (block_code (length rs) b st.count)) (fine_then f (fine_moved ps x e)))
        go b m f (Got.refused n v) a g = rw g (refused_with ps refl)
        go b m f exhausted a g = absurd (a refl)

    pub block_count : q.ok ≡ true → q.count ≤ too_many
    block_count i =
        let k = 2 * (length s - st.at) in
        let (b, m, w, j) = outcome_fine (block_code (length rs)) st q (block s rs fs ns m₀ k (d - 1) t.end) (block_inside k (omega arith)) i in
        fine_count j

  -- ---- else

  pub else_absent : (r : Progress) → (t.key ≡ word.else_key → ⊥) → Fine st r [] st.at → ElseRead s rs fs ns m₀ d st r
  unfolding else_code compile_else expanded_else
  else_absent r h f = record { outcome = λ k l. rw (← e, ne_eqb _ word.else_key h) f }

  pub else_present : (p r : Progress) → t.key ≡ word.else_key → st.count ≤ too_many → Fine st p [] t.end → BracesRead s rs fs ns m₀ d p r
      → ElseRead s rs fs ns m₀ d st r
  unfolding else_code compile_else block_code expanded_else
  else_present p r h v f B = record {
    outcome = λ k l.
        let (x, y) = token_on s st.at t e (subst (λ n. 2 ≤ n) (sym h) (omega arith)) in
        rw (← e, eq-eqb _ word.else_key h)
        (outcome_map (block_code (length rs)) (else_code (length rs)) st r (braces_at s rs fs ns m₀ d k t.end) present (λ _. refl)
        (outcome_behind (block_code (length rs)) st p r (braces_at s rs fs ns m₀ d k t.end) t.end (moved_count v f) f
        (subst (λ n. ReadAs (block_code (length rs)) p r (braces_at s rs fs ns m₀ d k n)) f.at (B.outcome k (let z = f.at in omega arith)))));
  }

-- where braces that were read end
pub braces-at : (s rs fs ns : List ℕ) (m₀ d : ℕ) (p y : Progress) → BracesRead s rs fs ns m₀ d p y → y.ok ≡ true
    → (p.at < y.at) × (y.count ≤ too_many)
braces-at s rs fs ns m₀ d p y B h =
    let k = 2 * (length s - p.at) in
    let (b, m, g, f) = outcome_fine (block_code (length rs)) p y (braces_at s rs fs ns m₀ d k p.at) (B.outcome k (omega arith)) h in
    let (x, z) = braces_on s rs fs ns m₀ k d p.at b m g in
    (omega (arith, f.at), fine_count f)

-- ---- behind `if` and `while`

begins_entry : (from n follow : ℕ) → begins from (from + n) follow ≡ entry n from follow
unfolding entry
begins_entry from zero follow = rw (le-ltb from (from + 0) (omega arith))
begins_entry from (suc n) follow = rw (lt-ltb from (from + suc n) (omega arith))

-- Behind the points ls stands the point of a test, number `st.count + length ls`, and behind it what is to follow: the table once that is read.
module _ (l : Letter) (ls : List PointEntry) (st p : Progress) (a : ℕ) (F : Fine st p (ls ++ waiting Fork l ∷ []) a) where
  abbrev base : ℕ
  base = st.count

  abbrev test_at : ℕ
  test_at = base + length ls

  abbrev w : PointEntry
  w = waiting Fork l

  -- the points of the test and those before it, where they fit
  test_low : test_at < most_points → (p.count ≡ test_at + 1) × (p.count - 1 ≡ test_at)
  test_low h = let n = length-append ls (w ∷ []) in let c : p.count ≡ test_at + 1 = F.low (omega arith) ∙ omega arith in (c, omega arith)

  regroup : (ds ps : List PointEntry) → ds ++ ((ls ++ w ∷ []) ++ ps) ≡ (ds ++ ls) ++ w ∷ ps
  regroup ds ps = ap (λ l. ds ++ l) (append_assoc ls (w ∷ []) ps) ∙ sym (append_assoc ds ls (w ∷ ps))

  -- a while
  looped_fine : (b : macro.Block) (y : Progress) (e : ℕ) → Fine p y (block_held b p.count unknown) e
      → Fine st (looped y (p.count - 1) base) (ls ++ loop_held l b test_at base) e
  unfolding looped
  looped_fine b y e G =
      let pb = block_held b p.count unknown in
      let n₁ = length-append (ls ++ w ∷ []) pb in let n₂ = length-append ls (w ∷ []) in let n₃ = length-append ls (loop_held l b test_at base) in
      let n₄ = block_held_length b p.count unknown in let n₅ = block_held_length b (test_at + 1) base in
      fine_changed {ps = (ls ++ w ∷ []) ++ pb} (p.count - 1) _ (ls ++ loop_held l b test_at base) (fine_then F G) (omega arith)
      λ old ds H h Q.
      let (low, at_test) = test_low (let c = H.count in omega arith) in
      let count = Q.count in let start = H.count in
      let size = length-append ds ((ls ++ w ∷ []) ++ pb) in let front = length-append ds ls in
      let end : y.count ≡ test_at + 1 + size_block b = omega arith in
      let turn = each (within (test_at + 1) y.count base) in
      let begin = begins (test_at + 1) y.count base in
      let turned = map (redirected base) pb in
      let body : turned ≡ block_held b (test_at + 1) base =
      ap (λ n. map (redirected base) (block_held b n unknown)) low ∙ turned_code b (test_at + 1) base (omega arith) in
      subst (λ n. HoldsPoints old (looped y n base) (ds ++ (ls ++ loop_held l b test_at base))) (sym at_test)
      (subst (λ x. HoldsPoints old x (ds ++ (ls ++ loop_held l b test_at base))) (changed_some y test_at _ (omega arith) (omega arith))
      (record {
        size = H.size;
        count = let k = length-append ds (ls ++ loop_held l b test_at base) in omega arith;
        points =
            ap (λ ps. forked (turn ps) test_at begin unknown) (Q.points ∙ ap (points_over old) (regroup ds pb ∙ apart (ds ++ ls) pb))
            ∙ ap (λ ps. forked ps test_at begin unknown)
            (over_range old ((ds ++ ls) ++ w ∷ []) pb [] (test_at + 1) y.count base (let k = length-append (ds ++ ls) (w ∷ []) in omega arith) (omega arith)
            ∙ ap (points_over old) (sym (apart (ds ++ ls) turned)))
            ∙ ap (λ n. forked (points_over old ((ds ++ ls) ++ w ∷ turned)) n begin unknown) (let k : test_at ≡ length (ds ++ ls) = omega arith in k)
            ∙ over_forked old (ds ++ ls) turned w begin unknown
            ∙ (λ i. points_over old ((ds ++ ls)
            ++ point Fork l ((ap (λ n. begins (test_at + 1) n base) end ∙ begins_entry (test_at + 1) (size_block b) base) i) unknown ∷ body i))
            ∙ ap (points_over old) (append_assoc ds ls (loop_held l b test_at base));
      }))
    where
      apart : (ds ps : List PointEntry) → ds ++ w ∷ ps ≡ (ds ++ w ∷ []) ++ (ps ++ [])
      apart ds ps = ap (λ l. ds ++ w ∷ l) (sym (append-nil ps)) ∙ sym (append_assoc ds (w ∷ []) (ps ++ []))

  -- an if
  branched_fine : (b : macro.Block) (o : macro.Else) (y z : Progress) (e n : ℕ) → Fine p y (block_held b p.count unknown) e
      → Fine y z (else_held o y.count unknown) n → Fine st (branched z (p.count - 1) y.count) (ls ++ branch_held l b o test_at) n
  unfolding branched
  branched_fine b o y z e n G E =
      let pb = block_held b p.count unknown in
      let pe = else_held o y.count unknown in
      let n₁ = length-append ((ls ++ w ∷ []) ++ pb) pe in let n₂ = length-append (ls ++ w ∷ []) pb in let n₃ = length-append ls (w ∷ []) in
      let n₄ = block_held_length b p.count unknown in let n₅ = else_held_length o y.count unknown in
      let n₆ = block_held_length b (test_at + 1) unknown in let n₇ = else_held_length o (test_at + 1 + size_block b) unknown in
      let n₈ = length-append ls (branch_held l b o test_at) in
      let n₉ = length-append (block_held b (test_at + 1) unknown) (else_held o (test_at + 1 + size_block b) unknown) in
      fine_changed {ps = ((ls ++ w ∷ []) ++ pb) ++ pe} (p.count - 1) _ (ls ++ branch_held l b o test_at) (fine_then (fine_then F G) E) (omega arith)
      λ old ds H h Q.
      let (low, at_test) = test_low (let c = H.count in omega arith) in
      let mid : y.count ≡ test_at + 1 + size_block b = G.low (omega arith) ∙ (λ i. low i + n₄ i) in
      let count = Q.count in let start = H.count in
      let size = length-append ds (((ls ++ w ∷ []) ++ pb) ++ pe) in let front = length-append ds ls in
      let end : z.count ≡ test_at + 1 + size_block b + size_else o = omega arith in
      let holds_at = begins (test_at + 1) y.count unknown in
      let fails_at = begins y.count z.count unknown in
      let yes_at : holds_at ≡ entry (size_block b) (test_at + 1) unknown =
      ap (λ n. begins (test_at + 1) n unknown) mid ∙ begins_entry (test_at + 1) (size_block b) unknown in
      let no_at : fails_at ≡ entry (size_else o) (test_at + 1 + size_block b) unknown =
      (λ j. begins (mid j) (end j) unknown) ∙ begins_entry (test_at + 1 + size_block b) (size_else o) unknown in
      subst (λ n. HoldsPoints old (branched z n y.count) (ds ++ (ls ++ branch_held l b o test_at))) (sym at_test)
      (subst (λ x. HoldsPoints old x (ds ++ (ls ++ branch_held l b o test_at))) (changed_some z test_at _ (omega arith) (omega arith))
      (record {
        size = H.size;
        count = let k = length-append ds (ls ++ branch_held l b o test_at) in omega arith;
        points =
            ap (λ ps. forked ps test_at holds_at fails_at)
            (Q.points ∙ ap (λ ps. points_over old (ds ++ ps)) (append_assoc (ls ++ w ∷ []) pb pe) ∙ ap (points_over old) (regroup ds (pb ++ pe)))
            ∙ ap (λ n. forked (points_over old ((ds ++ ls) ++ w ∷ (pb ++ pe))) n holds_at fails_at) (let k : test_at ≡ length (ds ++ ls) = omega arith in k)
            ∙ over_forked old (ds ++ ls) (pb ++ pe) w holds_at fails_at
            ∙ (λ i. points_over old ((ds ++ ls) ++ point Fork l (yes_at i) (no_at i) ∷ (block_held b (low i) unknown ++ else_held o (mid i) unknown)))
            ∙ ap (points_over old) (append_assoc ds ls (branch_held l b o test_at));
      }))

module _ (s rs fs ns : List ℕ) (m₀ : ℕ) (st p : Progress) (tested_outcome : ReadAs (condition_code Fork (length rs)) st p (condition s rs fs ns m₀ st.at)) where
  -- the condition that was read
  told : p.ok ≡ true → (c : Condition) × (a : ℕ) × (condition s rs fs ns m₀ st.at ≡ got c a)
      × Fine st p (condition_code Fork (length rs) c st.count) a
  told ok = outcome_fine (condition_code Fork (length rs)) st p (condition s rs fs ns m₀ st.at) tested_outcome ok

  pub condition_at : p.ok ≡ true → (st.at < p.at) × (st.at < length s) × (p.count ≤ too_many) × (0 < p.count)
  condition_at ok =
      let (c, a, w, f) = told ok in let (x, y) = condition_on s rs fs ns m₀ st.at c a w in
      let n = length-append (lead (application (length rs) c) st.count) (waiting Fork (test_of (length rs) c) ∷ []) in
      (omega (arith, f.at), y, fine_count f, fine_some f (omega arith))

  module _ (d : ℕ) where
    pub conditional_refused : p.ok ≡ false → ConditionalRead s rs fs ns m₀ d st p
    conditional_refused h = record {
      outcome = λ k l. outcome_refused (condition_code Fork (length rs)) (statement_code (length rs)) st st p (condition s rs fs ns m₀ st.at) _
          tested_outcome h;
    }

    pub repeat_refused : p.ok ≡ false → RepeatRead s rs fs ns m₀ d st p
    repeat_refused h = record {
      outcome = λ k l. outcome_refused (condition_code Fork (length rs)) (statement_code (length rs)) st st p (condition s rs fs ns m₀ st.at) _
          tested_outcome h;
    }

    module _ (ok : p.ok ≡ true) (y : Progress) (B : BracesRead s rs fs ns m₀ d p y) where
      -- the braces, at the place behind the condition
      braced : (k a : ℕ) → Enough s rs fs ns m₀ d st.at k → p.at ≡ a → ReadAs (block_code (length rs)) p y (braces_at s rs fs ns m₀ d k a)
      braced k a h q =
          let (x, z, w, v) = condition_at ok in
          subst (λ n. ReadAs (block_code (length rs)) p y (braces_at s rs fs ns m₀ d k n)) q (B.outcome k (omega arith))

      pub repeat_braces : y.ok ≡ false → RepeatRead s rs fs ns m₀ d st y
      repeat_braces n = record {
        outcome = λ k h.
            let (c, a, w, F) = told ok in
            rw w (outcome_refused (block_code (length rs)) (statement_code (length rs)) p st y (braces_at s rs fs ns m₀ d k a) _ (braced k a h F.at) n);
      }

      pub repeat_read : y.ok ≡ true → (r : Progress) → r ≡ looped y (p.count - 1) st.count → RepeatRead s rs fs ns m₀ d st r
      unfolding block_code
      repeat_read n r q = record {
        outcome = λ k h.
            let (c, a, w, F) = told ok in
            let (b, m, v, G) = outcome_fine (block_code (length rs)) p y (braces_at s rs fs ns m₀ d k a) (braced k a h F.at) n in
            let ls = lead (application (length rs) c) st.count in
            rw (w, v, q, while_code (length rs) c b st.count)
            (looped_fine (test_of (length rs) c) ls st p a F (expanded_block (length rs) b) y m G);
      }

      pub conditional_braces : y.ok ≡ false → ConditionalRead s rs fs ns m₀ d st y
      conditional_braces n = record {
        outcome = λ k h.
            let (c, a, w, F) = told ok in
            rw w (outcome_refused (block_code (length rs)) (statement_code (length rs)) p st y (braces_at s rs fs ns m₀ d k a) _ (braced k a h F.at) n);
      }

      module _ (n : y.ok ≡ true) (z : Progress) (E : ElseRead s rs fs ns m₀ d y z) where
        otherwised : (k m : ℕ) → Enough s rs fs ns m₀ d st.at k → y.at ≡ m → ReadAs (else_code (length rs)) y z (else_at s rs fs ns m₀ d k m)
        otherwised k m h q =
            let (x, v) = braces-at s rs fs ns m₀ d p y B n in let (x', v', w', u') = condition_at ok in
            subst (λ n. ReadAs (else_code (length rs)) y z (else_at s rs fs ns m₀ d k n)) q (E.outcome k (omega arith))

        pub conditional_else : z.ok ≡ false → ConditionalRead s rs fs ns m₀ d st z
        conditional_else x = record {
          outcome = λ k h.
              let (c, a, w, F) = told ok in
              let (b, m, v, G) = outcome_fine (block_code (length rs)) p y (braces_at s rs fs ns m₀ d k a) (braced k a h F.at) n in
              rw (w, v) (outcome_refused (else_code (length rs)) (statement_code (length rs)) y st z (else_at s rs fs ns m₀ d k m) _ (otherwised k m h G.at) x);
        }

        pub conditional_read : z.ok ≡ true → (r : Progress) → r ≡ branched z (p.count - 1) y.count → ConditionalRead s rs fs ns m₀ d st r
        unfolding block_code else_code
        conditional_read x r q = record {
          outcome = λ k h.
              let (c, a, w, F) = told ok in
              let (b, m, v, G) = outcome_fine (block_code (length rs)) p y (braces_at s rs fs ns m₀ d k a) (braced k a h F.at) n in
              let (o, f, v', E') = outcome_fine (else_code (length rs)) y z (else_at s rs fs ns m₀ d k m) (otherwised k m h G.at) x in
              let ls = lead (application (length rs) c) st.count in
              rw (w, v, v', q, if_code (length rs) c b st.count o)
              (branched_fine (test_of (length rs) c) ls st p a F (expanded_block (length rs) b) (expanded_else (length rs) o) y z m f G E');
        }
