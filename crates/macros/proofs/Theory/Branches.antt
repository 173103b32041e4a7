-- A program performed letter by letter, and the theorem that this gives Definition 2's executions; a macro's are those of the macro written out.
-- "At a branch the condition as written comes first; at an assert, the failing letter."
use mathlib.Core.Path.{◌≡◌, refl, sym, ap, ◌∙◌, subst}
use mathlib.Core.Logic.{◌↔◌}
use Rattle.semantics.specs.Terms.{Trace, ◌▸◌}
use Rattle.macros.specs.Plain.{Condition, test, opposite, Statement, skip, perform, assert, if, while, Else, absent, present, Block, empty, ◌then◌}
use Rattle.macros.specs.Tree as tree
use Rattle.macros.specs.WrittenOut.{written_out}
use Rattle.macros.specs.Executions.{Outcome, done, failed, Exec, ExecElse, ExecBlock, Partial, Complete, Failing, Begins}
use Rattle.macros.proofs.Theory.Executions.{completes_block, block_begins}
use Rattle.macros.specs.Executions
use Rattle.macros.specs.Order.{Branch, first, second, Path, root, ◌▹◌}
use Rattle.macros.specs.Walk.{Place, at, failure, Move, no_move, move, Stand, nowhere, stand, take_move, take_branch, walk}
use Rattle.macros.proofs.Theory.Walk.{walk_keeps, walk_begins, shorter}

-- One block after another.
infixr 30 ◌before◌
abbrev pub ◌before◌ : Block → Block → Block
empty before k = k
(s then b) before k = s then (b before k)

-- An absent else is an empty one.
abbrev pub else_block : Else → Block
else_block absent = empty
else_block (present b) = b

-- What is left to perform, from its first point on: a skip performs nothing.
abbrev pub due : Block → Block
due empty = empty
due (skip then k) = due k
due (perform a then k) = perform a then k
due (assert c then k) = assert c then k
due (if c b e then k) = if c b e then k
due (while c b then k) = while c b then k

-- The branches where the block is left to perform: the letter, and what is left after it.
abbrev pub branches : Block → Branch → Move Block
branches empty d = no_move
branches (skip then k) d = branches k d
branches (perform a then k) first = move a (at (due k))
branches (perform a then k) second = no_move
branches (assert c then k) first = move (opposite c) failure
branches (assert c then k) second = move (test c) (at (due k))
branches (if c b e then k) first = move (test c) (at (due (b before k)))
branches (if c b e then k) second = move (opposite c) (at (due (else_block e before k)))
branches (while c b then k) first = move (test c) (at (due (b before (while c b then k))))
branches (while c b then k) second = move (opposite c) (at (due k))

-- The program performed from a start along a path.
abbrev pub perform_along : Trace → Block → Path → Stand Block
perform_along start m p = walk branches (due m) start p

-- ── every execution is such a walk ──
abbrev Arrives : Trace → Block → Outcome → Block → Trace → Type 0
Arrives start m done k π = (p : Path) × (perform_along start m p ≡ stand (at (due k)) π)
Arrives start m failed k π = (p : Path) × (perform_along start m p ≡ stand failure π)

module _ (start : Trace) (m : Block) where
  goes : (p : Path) {k : Block} {ρ : Trace} (b : Branch) → perform_along start m p ≡ stand (at k) ρ → perform_along start m (p ▹ b) ≡ take_move ρ (branches k b)
  goes p b e = ap (λ z. take_branch branches z b) e

  mutual
    exec_walk : {s : Statement} {ρ π : Trace} {o : Outcome} → Exec s ρ π o → (k : Block) (p : Path) → perform_along start m p ≡ stand (at (due (s then k))) ρ
        → Arrives start m o k π
    exec_walk Executions.nothing k p e = (p, e)
    exec_walk Executions.letter k p e = (p ▹ first, goes p first e)
    exec_walk (Executions.fails {ρ} x) k p e = (p ▹ first, goes p first e ∙ ap (λ a. stand failure (ρ ▸ a)) (sym x))
    exec_walk (Executions.holds {ρ} x) k p e = (p ▹ second, goes p second e ∙ ap (λ a. stand (at (due k)) (ρ ▸ a)) (sym x))
    exec_walk (Executions.first x) k p e = block_walk x k (p ▹ first) (goes p first e)
    exec_walk (Executions.second x) k p e = else_walk x k (p ▹ second) (goes p second e)
    exec_walk (Executions.leaves {ρ} x) k p e = (p ▹ second, goes p second e ∙ ap (λ a. stand (at (due k)) (ρ ▸ a)) (sym x))
    exec_walk (Executions.turns {c} {b} x y) k p e =
        let (q, i) = block_walk x (while c b then k) (p ▹ first) (goes p first e) in
        exec_walk y k q i
    exec_walk (Executions.breaks {c} {b} x) k p e = block_walk x (while c b then k) (p ▹ first) (goes p first e)

    else_walk : {f : Else} {ρ π : Trace} {o : Outcome} → ExecElse f ρ π o → (k : Block) (p : Path)
        → perform_along start m p ≡ stand (at (due (else_block f before k))) ρ
        → Arrives start m o k π
    else_walk Executions.none k p e = (p, e)
    else_walk (Executions.some x) k p e = block_walk x k p e

    block_walk : {b : Block} {ρ π : Trace} {o : Outcome} → ExecBlock b ρ π o → (k : Block) (p : Path)
        → perform_along start m p ≡ stand (at (due (b before k))) ρ → Arrives start m o k π
    block_walk Executions.stop k p e = (p, e)
    block_walk (Executions.both {b} x y) k p e =
        let (q, i) = exec_walk x (b before k) p e in
        block_walk y k q i
    block_walk (Executions.ends {b} x) k p e = exec_walk x (b before k) p e

-- ── every such walk is an execution, once what is left is executed ──
due_exec : (b : Block) {ρ π : Trace} {o : Outcome} → ExecBlock (due b) ρ π o → ExecBlock b ρ π o
due_exec empty x = x
due_exec (skip then k) x = Executions.both Executions.nothing (due_exec k x)
due_exec (perform a then k) x = x
due_exec (assert c then k) x = x
due_exec (if c b e then k) x = x
due_exec (while c b then k) x = x

else_exec : (e : Else) {ρ π : Trace} {o : Outcome} → ExecBlock (else_block e) ρ π o → ExecElse e ρ π o
else_exec absent Executions.stop = Executions.none
else_exec (present b) x = Executions.some x

-- an execution of b and then k, cut between the two, or ended in b
data Cut (b k : Block) (ρ π : Trace) : Outcome → Type 0 where
  within : ExecBlock b ρ π failed → Cut b k ρ π failed
  between : {τ : Trace} {o : Outcome} → ExecBlock b ρ τ done → ExecBlock k τ π o → Cut b k ρ π o

cut : (b k : Block) {ρ π : Trace} {o : Outcome} → ExecBlock (b before k) ρ π o → Cut b k ρ π o
cut empty k x = between Executions.stop x
cut (s then b) k (Executions.ends x) = within (Executions.ends x)
cut (s then b) k (Executions.both x y) = go x (cut b k y)
  where
    go : {ρ τ π : Trace} {o : Outcome} → Exec s ρ τ done → Cut b k τ π o → Cut (s then b) k ρ π o
    go x (within y) = within (Executions.both x y)
    go x (between y z) = between (Executions.both x y) z

-- the first branch of an if, its second branch, and a turn of a loop
module _ {c : Condition} {b k : Block} {ρ π : Trace} where
  take_first : {e : Else} {o : Outcome} → Cut b k (ρ ▸ test c) π o → ExecBlock (if c b e then k) ρ π o
  take_first (within x) = Executions.ends (Executions.first x)
  take_first (between x y) = Executions.both (Executions.first x) y

  take_second : {e : Else} {o : Outcome} → Cut (else_block e) k (ρ ▸ opposite c) π o → ExecBlock (if c b e then k) ρ π o
  take_second {e} (within x) = Executions.ends (Executions.second (else_exec e x))
  take_second {e} (between x y) = Executions.both (Executions.second (else_exec e x)) y

  once_more : {τ : Trace} {o : Outcome} → ExecBlock b (ρ ▸ test c) τ done → ExecBlock (while c b then k) τ π o → ExecBlock (while c b then k) ρ π o
  once_more x (Executions.ends y) = Executions.ends (Executions.turns x y)
  once_more x (Executions.both y z) = Executions.both (Executions.turns x y) z

  take_turn : {o : Outcome} → Cut b (while c b then k) (ρ ▸ test c) π o → ExecBlock (while c b then k) ρ π o
  take_turn (within x) = Executions.ends (Executions.breaks x)
  take_turn (between x y) = once_more x y

pub before_empty : (b : Block) → b before empty ≡ b
before_empty empty = refl
before_empty (s then b) = ap (λ k. s then k) (before_empty b)

module _ (start : Trace) (m : Block) where
  -- where a walk stands, the program is executed but for what is left
  abbrev Executed : Stand Block → Type 0
  Executed nowhere = Unit {0}
  Executed (stand (at k) ρ) = (π : Trace) (o : Outcome) → ExecBlock k ρ π o → ExecBlock m start π o
  Executed (stand failure ρ) = ExecBlock m start ρ failed

  executed_branch : (k : Block) (ρ : Trace) (d : Branch) → Executed (stand (at k) ρ) → Executed (take_move ρ (branches k d))
  executed_branch empty ρ d x = tt
  executed_branch (skip then k) ρ d x = executed_branch k ρ d (λ π o y. x π o (Executions.both Executions.nothing y))
  executed_branch (perform a then k) ρ first x = λ π o y. x π o (Executions.both Executions.letter (due_exec k y))
  executed_branch (perform a then k) ρ second x = tt
  executed_branch (assert c then k) ρ first x = x (ρ ▸ opposite c) failed (Executions.ends (Executions.fails refl))
  executed_branch (assert c then k) ρ second x = λ π o y. x π o (Executions.both (Executions.holds refl) (due_exec k y))
  executed_branch (if c b e then k) ρ first x = λ π o y. x π o (take_first (cut b k (due_exec (b before k) y)))
  executed_branch (if c b e then k) ρ second x = λ π o y. x π o (take_second (cut (else_block e) k (due_exec (else_block e before k) y)))
  executed_branch (while c b then k) ρ first x = λ π o y. x π o (take_turn (cut b (while c b then k) (due_exec (b before (while c b then k)) y)))
  executed_branch (while c b then k) ρ second x = λ π o y. x π o (Executions.both (Executions.leaves refl) (due_exec k y))

  executed : (p : Path) → Executed (perform_along start m p)
  executed p = walk_keeps branches Executed tt executed_branch (due m) start (λ π o x. due_exec m x) p

  arrived : {o : Outcome} {ρ : Trace} → ExecBlock m start ρ o → Arrives start m o empty ρ
  arrived x = block_walk start m x empty root (ap (λ k. stand (at (due k)) start) (sym (before_empty m)))

-- ── the executions of a macro are the walks through the macro written out ──
module _ (start : Trace) (m : tree.Block) (ρ : Trace) where
  abbrev expansion : Block
  expansion = written_out m

  -- those that run through the whole macro: nothing is left
  pub complete_walk : Complete start m ρ ↔ ((p : Path) × (perform_along start (written_out m) p ≡ stand (at empty) ρ))
  complete_walk = (λ x. arrived start expansion x, λ (p, e). subst (Executed start expansion) e (executed start expansion p) ρ done Executions.stop)

  -- those that end at a failure
  pub failing_walk : Failing start m ρ ↔ ((p : Path) × (perform_along start (written_out m) p ≡ stand failure ρ))
  failing_walk = (λ x. arrived start expansion x, λ (p, e). subst (Executed start expansion) e (executed start expansion p))

  -- and the partial ones
  pub partial_walk : Partial start m ρ ↔ ((p : Path) × (l : Place Block) × (perform_along start (written_out m) p ≡ stand l ρ))
  partial_walk = (λ x. into x.outcome x.execution x.runs x.from_start x.begins, λ (p, l, e). onto p l e)
    where
      into : (o : Outcome) (π : Trace) → ExecBlock expansion start π o → Begins start ρ → Begins ρ π
          → (p : Path) × (l : Place Block) × (perform_along start expansion p ≡ stand l ρ)
      into done π x s b = let (p, i) = arrived start expansion x in shorter branches (due expansion) start b s p (at empty) i
      into failed π x s b = let (p, i) = arrived start expansion x in shorter branches (due expansion) start b s p failure i

      onto : (p : Path) (l : Place Block) → perform_along start expansion p ≡ stand l ρ → Partial start m ρ
      onto p failure e = record {
        execution = ρ;
        outcome = failed;
        runs = subst (Executed start expansion) e (executed start expansion p);
        from_start = walk_begins branches (due expansion) start p failure ρ e;
        begins = Executions.whole;
      }
      onto p (at k) e =
          let (π, x) = completes_block k ρ in
          record {
            execution = π;
            outcome = done;
            runs = subst (Executed start expansion) e (executed start expansion p) π done x;
            from_start = walk_begins branches (due expansion) start p (at k) ρ e;
            begins = block_begins x;
          }
