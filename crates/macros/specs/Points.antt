-- The points of a macro (SPEC 9.3, 9.4; document 01: "A point is an assignment, assume, assert, if or while").
-- They are numbered from 0 in the order of the text. The number after the last one stands for the end.
use Rattle.std.specs.Prelude.{List, [], ◌∷◌, ◌++◌, ℕ, zero, suc, ◌+◌}
use Rattle.std.proofs.Math.Option.{Option, none, some}
use Rattle.std.proofs.Math.ListN.{get_elem?}
use Rattle.letters.specs.declared.Letter.{Letter}
use Rattle.semantics.specs.Terms.{Trace}
use Rattle.macros.specs.Order.{Branch, first, second, Path}
use Rattle.macros.specs.Walk.{at, failure, Move, no_move, move, Stand, walk}
use Rattle.macros.specs.Tree.{Condition, test, opposite, Statement, skip, perform, assert, if, while, while_after, Else, absent, present, Block, empty}
use Rattle.macros.specs.Tree.{◌then◌}

-- A point, with the numbers of the points that follow it.
pub data Point : Type 0 where
  step : Letter → ℕ → Point  -- an assignment or an assume
  check : Condition → ℕ → Point  -- an assert: the point that follows where it holds
  fork : Condition → ℕ → ℕ → Point  -- an if or a while: the points that follow where the condition holds, and where its opposite does

-- How many points there are.
unfoldable mutual
  pub size_statement : Statement → ℕ
  size_statement skip = 0
  size_statement (perform a) = 1
  size_statement (assert c) = 1
  size_statement (if c b e) = suc (size_block b + size_else e)
  size_statement (while c b) = suc (size_block b)
  size_statement (while_after a c b) = suc (suc (size_block b))

  pub size_else : Else → ℕ
  size_else absent = 0
  size_else (present b) = size_block b

  pub size_block : Block → ℕ
  size_block empty = 0
  size_block (s then b) = size_statement s + size_block b

-- Where a part of n points begins, numbered from b on: at b, or at what follows if it has none.
unfoldable pub entry : ℕ → ℕ → ℕ → ℕ
entry zero b follow = follow
entry (suc n) b follow = b

-- The points of a part, numbered from b on. After it, `follow` comes. After the body of a while, the while comes again, from its first point on:
-- "Each named test is two points, a while returning to the first" (document 02, request 4).
unfoldable mutual
  pub compile : Statement → ℕ → ℕ → List Point
  compile skip b follow = []
  compile (perform a) b follow = step a follow ∷ []
  compile (assert c) b follow = check c follow ∷ []
  compile (if c t e) b follow =
      fork c (entry (size_block t) (b + 1) follow) (entry (size_else e) (b + 1 + size_block t) follow) ∷
      (compile_block t (b + 1) follow ++ compile_else e (b + 1 + size_block t) follow)
  compile (while c t) b follow = fork c (entry (size_block t) (b + 1) b) follow ∷ compile_block t (b + 1) b
  compile (while_after a c t) b follow = step a (b + 1) ∷ fork c (entry (size_block t) (b + 2) b) follow ∷ compile_block t (b + 2) b

  pub compile_else : Else → ℕ → ℕ → List Point
  compile_else absent b follow = []
  compile_else (present t) b follow = compile_block t b follow

  pub compile_block : Block → ℕ → ℕ → List Point
  compile_block empty b follow = []
  compile_block (s then t) b follow = compile s b (entry (size_block t) (b + size_statement s) follow) ++ compile_block t (b + size_statement s) follow

-- The points of a whole macro, and the first point to be performed (SPEC 9.3).
abbrev pub points : Block → List Point
points m = compile_block m 0 (size_block m)

abbrev pub entrance : Block → ℕ
entrance m = entry (size_block m) 0 (size_block m)

-- The branches of a point, the condition as written first; at an assert, the failing letter (SPEC 9.4).
abbrev pub moves : Point → Branch → Move ℕ
moves (step a n) first = move a (at n)
moves (step a n) second = no_move
moves (check c n) first = move (opposite c) failure
moves (check c n) second = move (test c) (at n)
moves (fork c i j) first = move (test c) (at i)
moves (fork c i j) second = move (opposite c) (at j)

abbrev pub moved : Option Point → Branch → Move ℕ
moved none b = no_move
moved (some x) b = moves x b

-- The branches of point k of a table. There are none past its end (SPEC 9.4).
abbrev pub moves_at : List Point → ℕ → Branch → Move ℕ
moves_at ps k b = moved (get_elem? ps k) b

-- The walk through the points of a macro from a start along a path (SPEC 9.4).
abbrev pub run : Trace → Block → Path → Stand ℕ
run start m p = walk (moves_at (points m)) (entrance m) start p
