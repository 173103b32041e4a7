-- What follows a part of a macro may be filled in later: the points with 256 for what follows, and f put for 256, are the points with f for what follows.
use mathlib.Core.Path.{◌≡◌, refl, sym, ap, ◌∙◌}
use Prim.Native.Nat.{ℕ, zero, suc, ◌+◌, ◌≤◌, ◌<◌}
use native.Mathlib.Omega.{arith}
use mathlib.Core.List.{List, ◌∷◌, ◌++◌, map, append-nil}
use mathlib.Core.Option.{Option, none, some}
use lib.ListN.{length, length-map}
use Rattle.grammar.specs.Limits.{most_points}
use borrow.Author.Tests.{ne_eqb}
use Rattle.macros.specs.Tree.{test, Statement, skip, perform, assert, if, while, while_after, Else, absent, present, Block, empty, ◌then◌}
use Rattle.macros.specs.Points.{size_statement, size_else, size_block, entry, compile, compile_else, compile_block}
use Rattle.macros.proofs.Theory.Points.{compile_else_length, compile_block_length}
use Rattle.letters.specs.declared.Letter.{Letter}
use Rattle.grammar.specs.Tree as written
use Rattle.grammar.specs.Expanded.{◌before◌, application, comparison, after, loop, expanded_statement, expanded_else, expanded_block}
use Rattle.grammar.proofs.Theory.Expanded.{size_before, compile_before}
use Rattle.phrases.specs.Codes.{test_of}
use Rattle.blocks.specs.Held.{point, held_point, unknown, backpatched, redirected}
use Rattle.blocks.specs.declared.PointKind.TheVariants.{Step, Check, Fork}
use Rattle.blocks.specs.Outcome.{applying, statement_code, block_code}
use Rattle.blocks.proofs.Theory.Outcome.{lead, condition_code}
use Rattle.blocks.proofs.Theory.TableLaws.{map-append}
use Rattle.blocks.specs.declared.PointEntry.{PointEntry}

-- the points as the code holds them, with any number for what follows
abbrev pub statement_held : Statement → ℕ → ℕ → List PointEntry
statement_held c base g = map held_point (compile c base g)

abbrev pub else_held : Else → ℕ → ℕ → List PointEntry
else_held o base g = map held_point (compile_else o base g)

abbrev pub block_held : Block → ℕ → ℕ → List PointEntry
block_held b base g = map held_point (compile_block b base g)

pub turned_low : (f n : ℕ) → n < most_points → backpatched f n ≡ n
turned_low f n h = rw (ne_eqb n unknown λ e. omega arith)

-- a place where n points begin, if they lie below 256
turned_entry : (f g n base : ℕ) → base + n ≤ most_points → backpatched f (entry n base g) ≡ entry n base (backpatched f g)
unfolding entry
turned_entry f g zero base h = refl
turned_entry f g (suc n) base h = turned_low f base (omega arith)

mutual
  unfolding compile size_statement

  pub redirect_statement : (f g : ℕ) (c : Statement) (base : ℕ) → base + size_statement c ≤ most_points
      → map (redirected f) (statement_held c base g) ≡ statement_held c base (backpatched f g)
  redirect_statement f g skip base h = refl
  redirect_statement f g (perform a) base h = refl
  redirect_statement f g (assert c) base h = refl
  redirect_statement f g (if c b e) base h =
      let n = size_block b in let m = size_else e in
      λ i. point Fork (test c) (turned_entry f g n (base + 1) (omega arith) i) (turned_entry f g m (base + 1 + n) (omega arith) i) ∷
      (ap (map (redirected f)) (map-append held_point (compile_block b (base + 1) g) (compile_else e (base + 1 + n) g))
      ∙ map-append (redirected f) (block_held b (base + 1) g) (else_held e (base + 1 + n) g)
      ∙ ap (λ l. l ++ map (redirected f) (else_held e (base + 1 + n) g)) (redirect_block f g b (base + 1) (omega arith))
      ∙ ap (λ l. block_held b (base + 1) (backpatched f g) ++ l) (redirect_else f g e (base + 1 + n) (omega arith))
      ∙ sym (map-append held_point (compile_block b (base + 1) (backpatched f g)) (compile_else e (base + 1 + n) (backpatched f g)))) i
  redirect_statement f g (while c b) base h =
      let n = size_block b in let low = turned_low f base (omega arith) in
      λ i. point Fork (test c) ((turned_entry f base n (base + 1) (omega arith) ∙ ap (entry n (base + 1)) low) i) (backpatched f g) ∷
      (redirect_block f base b (base + 1) (omega arith) ∙ ap (block_held b (base + 1)) low) i
  redirect_statement f g (while_after a c b) base h =
      let n = size_block b in let low = turned_low f base (omega arith) in
      λ i. point Step a (turned_low f (base + 1) (omega arith) i) 0 ∷
      point Fork (test c) ((turned_entry f base n (base + 2) (omega arith) ∙ ap (entry n (base + 2)) low) i) (backpatched f g) ∷
      (redirect_block f base b (base + 2) (omega arith) ∙ ap (block_held b (base + 2)) low) i

  pub redirect_else : (f g : ℕ) (e : Else) (base : ℕ) → base + size_else e ≤ most_points
      → map (redirected f) (else_held e base g) ≡ else_held e base (backpatched f g)
  redirect_else f g absent base h = refl
  redirect_else f g (present b) base h = redirect_block f g b base h

  pub redirect_block : (f g : ℕ) (b : Block) (base : ℕ) → base + size_block b ≤ most_points
      → map (redirected f) (block_held b base g) ≡ block_held b base (backpatched f g)
  redirect_block f g empty base h = refl
  redirect_block f g (c then b) base h =
      let n = size_block b in let m = base + size_statement c in
      ap (map (redirected f)) (map-append held_point (compile c base (entry n m g)) (compile_block b m g))
      ∙ map-append (redirected f) (statement_held c base (entry n m g)) (block_held b m g)
      ∙ ap (λ l. l ++ map (redirected f) (block_held b m g))
      (redirect_statement f (entry n m g) c base (omega arith) ∙ ap (statement_held c base) (turned_entry f g n m (omega arith)))
      ∙ ap (λ l. statement_held c base (entry n m (backpatched f g)) ++ l) (redirect_block f g b m (omega arith))
      ∙ sym (map-append held_point (compile c base (entry n m (backpatched f g))) (compile_block b m (backpatched f g)))

-- ---- the points of what was read

pub else_held_length : (e : Else) (base g : ℕ) → length (else_held e base g) ≡ size_else e
else_held_length e base g = length-map (compile_else e base g) held_point ∙ compile_else_length e base g

pub block_held_length : (b : Block) (base g : ℕ) → length (block_held b base g) ≡ size_block b
block_held_length b base g = length-map (compile_block b base g) held_point ∙ compile_block_length b base g

pub statement_length : (n : ℕ) (c : written.Statement) (base : ℕ) → length (statement_code n c base) ≡ size_block (expanded_statement n c)
unfolding statement_code
statement_length n c base = block_held_length (expanded_statement n c) base unknown

pub block_length : (n : ℕ) (b : written.Block) (base : ℕ) → length (block_code n b base) ≡ size_block (expanded_block n b)
unfolding block_code
block_length n b base = block_held_length (expanded_block n b) base unknown

-- where some points begin
entry_some : (n b follow : ℕ) → 0 < n → entry n b follow ≡ b
unfolding entry
entry_some zero b follow h = absurd (omega arith)
entry_some (suc n) b follow h = refl

entry_none : (b follow : ℕ) → entry 0 b follow ≡ follow
unfolding entry
entry_none b follow = refl

-- ---- statements one behind the other

-- a statement behind a block
unfoldable pub behind : written.Block → written.Statement → written.Block
behind written.empty c = written.◌then◌ c written.empty
behind (written.◌then◌ x b) c = written.◌then◌ x (behind b c)

before_empty : (a : Block) → (a before empty) ≡ a
before_empty empty = refl
before_empty (s then a) = ap (λ a. s then a) (before_empty a)

before_assoc : (a b c : Block) → ((a before b) before c) ≡ (a before (b before c))
before_assoc empty b c = refl
before_assoc (s then a) b c = ap (λ a. s then a) (before_assoc a b c)

expanded_behind : (n : ℕ) (b : written.Block) (c : written.Statement) → expanded_block n (behind b c) ≡ (expanded_block n b before expanded_statement n c)
unfolding behind expanded_block
expanded_behind n written.empty c = before_empty (expanded_statement n c)
expanded_behind n (written.◌then◌ x b) c =
    ap (λ a. expanded_statement n x before a) (expanded_behind n b c)
    ∙ sym (before_assoc (expanded_statement n x) (expanded_block n b) (expanded_statement n c))

pub behind_size : (n : ℕ) (b : written.Block) (c : written.Statement)
    → size_block (expanded_block n (behind b c)) ≡ size_block (expanded_block n b) + size_block (expanded_statement n c)
behind_size n b c = ap size_block (expanded_behind n b c) ∙ size_before (expanded_block n b) (expanded_statement n c)

module _ (n : ℕ) (b : written.Block) (c : written.Statement) (base : ℕ) where
  -- the number of the statement's first point
  abbrev next : ℕ
  next = base + size_block (expanded_block n b)

  code_behind : block_code n (behind b c) base
      ≡ block_held (expanded_block n b) base (entry (size_block (expanded_statement n c)) next unknown) ++ statement_code n c next
  unfolding block_code statement_code
  code_behind =
      ap (λ a. block_held a base unknown) (expanded_behind n b c)
      ∙ ap (map held_point) (compile_before (expanded_block n b) (expanded_statement n c) base unknown)
      ∙ map-append held_point (compile_block (expanded_block n b) base _) (compile_block (expanded_statement n c) next unknown)

  -- a statement with no point changes nothing
  pub code_none : size_block (expanded_statement n c) ≡ 0 → block_code n (behind b c) base ≡ block_code n b base ++ statement_code n c next
  unfolding block_code
  code_none z =
      code_behind
      ∙ ap (λ g. block_held (expanded_block n b) base g ++ statement_code n c next) (ap (λ k. entry k next unknown) z ∙ entry_none next unknown)

  -- a statement with a point follows what stands before it
  pub code_some : 0 < size_block (expanded_statement n c) → next ≤ most_points
      → block_code n (behind b c) base ≡ map (redirected next) (block_code n b base) ++ statement_code n c next
  unfolding block_code
  code_some h l =
      code_behind
      ∙ ap (λ g. block_held (expanded_block n b) base g ++ statement_code n c next) (entry_some (size_block (expanded_statement n c)) next unknown h)
      ∙ ap (λ k. k ++ statement_code n c next) (sym (redirect_block next unknown (expanded_block n b) base l))

-- ---- the points of a condition, and of what it begins

-- a statement with a point, perhaps behind a letter
after_code : (n : ℕ) (o : Option Letter) (s : Statement) (base : ℕ) → 0 < size_statement s
    → block_held (after n o s) base unknown ≡ lead o base ++ statement_held s (base + length (lead o base)) unknown
unfolding compile_block size_block
after_code n none s base h =
    let e : base ≡ base + 0 = omega arith in
    ap (map held_point) (append-nil (compile s base _)) ∙ (λ i. statement_held s (e i) (entry_none (base + size_statement s) unknown i))
after_code n (some a) s base h =
    λ i. point Step a (entry_some (size_statement s + 0) (base + 1) unknown (omega arith) i) 0 ∷
    (ap (map held_point) (append-nil (compile s (base + 1) _)) ∙ ap (statement_held s (base + 1)) (entry_none (base + 1 + size_statement s) unknown)) i

pub assume_code : (n : ℕ) (c : written.Condition) (base : ℕ) → statement_code n (written.assume c) base ≡ condition_code Step n c base
unfolding statement_code expanded_statement compile size_statement
assume_code n c base = after_code n (application n c) (perform (test (comparison n c))) base (omega arith)

pub assert_code : (n : ℕ) (c : written.Condition) (base : ℕ) → statement_code n (written.assert c) base ≡ condition_code Check n c base
unfolding statement_code expanded_statement compile size_statement
assert_code n c base = after_code n (application n c) (assert (comparison n c)) base (omega arith)

-- a fork at the number `test`, and its blocks
abbrev pub branch_held : Letter → Block → Else → ℕ → List PointEntry
branch_held l b e test =
    point Fork l (entry (size_block b) (test + 1) unknown) (entry (size_else e) (test + 1 + size_block b) unknown) ∷
    (block_held b (test + 1) unknown ++ else_held e (test + 1 + size_block b) unknown)

-- a fork at the number `test`, and its block, which `back` follows
abbrev pub loop_held : Letter → Block → ℕ → ℕ → List PointEntry
loop_held l b test back = point Fork l (entry (size_block b) (test + 1) back) unknown ∷ block_held b (test + 1) back

module _ (n : ℕ) (c : written.Condition) (b : written.Block) (base : ℕ) where
  -- the points before the test's
  abbrev pub before_test : List PointEntry
  before_test = lead (application n c) base

  pub if_code : (e : written.Else) → statement_code n (written.if c b e) base
      ≡ before_test ++ branch_held (test_of n c) (expanded_block n b) (expanded_else n e) (base + length before_test)
  unfolding statement_code expanded_statement compile size_statement
  if_code e =
      let t = base + length before_test in
      after_code n (application n c) (if (comparison n c) (expanded_block n b) (expanded_else n e)) base (omega arith)
      ∙ ap (λ l. before_test ++ point Fork (test_of n c) (entry (size_block (expanded_block n b)) (t + 1) unknown)
      (entry (size_else (expanded_else n e)) (t + 1 + size_block (expanded_block n b)) unknown) ∷ l)
      (map-append held_point (compile_block (expanded_block n b) (t + 1) unknown)
      (compile_else (expanded_else n e) (t + 1 + size_block (expanded_block n b)) unknown))

  pub while_code : statement_code n (written.while c b) base ≡ before_test ++ loop_held (test_of n c) (expanded_block n b) (base + length before_test) base
  unfolding statement_code expanded_statement compile size_statement entry
  while_code = go (application n c)
    where
      go : (o : Option Letter) → block_held (loop n o (comparison n c) (expanded_block n b) then empty) base unknown
          ≡ lead o base ++ loop_held (test_of n c) (expanded_block n b) (base + length (lead o base)) base
      go none = let e : base ≡ base + 0 = omega arith in
          ap (map held_point) (append-nil (compile (while (comparison n c) (expanded_block n b)) base _))
          ∙ (λ i. point Fork (test_of n c) (entry (size_block (expanded_block n b)) (e i + 1) base) unknown ∷
          block_held (expanded_block n b) (e i + 1) base)
      go (some a) = let e : base + 2 ≡ base + 1 + 1 = omega arith in
          ap (map held_point) (append-nil (compile (while_after a (comparison n c) (expanded_block n b)) base _))
          ∙ (λ i. applying a base ∷ point Fork (test_of n c) (entry (size_block (expanded_block n b)) (e i) base) unknown ∷
          block_held (expanded_block n b) (e i) base)

-- the points of the block of a while, which `back` follows
pub turned_code : (b : Block) (base back : ℕ) → base + size_block b ≤ most_points → map (redirected back) (block_held b base unknown) ≡ block_held b base back
turned_code b base back h = redirect_block back unknown b base h
