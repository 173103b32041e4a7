-- Demand 2, its half about macros: "Macros are read by document 01's grammar and have exactly the executions of Definition 2." (SPEC 8, 9.2)
-- It is one claim about a text and what `syntax::read` answers for it, or `syntax::compiled`, in numbers. The words are those of the source document.
use Rattle.std.specs.Prelude.{◌≡◌, ◌↔◌, List, ◌++◌, ℕ, ◌%◌, ltb, get_or}
use Rattle.base.specs.Choice.{pick}
use Rattle.letters.specs.declared.Letter.{Letter}
use Rattle.semantics.specs.Terms.{begin, trace_of}
use Rattle.macros.specs.Plain.{Block}
use Rattle.macros.specs.WrittenOut.{written_out}
use Rattle.macros.specs.Executions.{Outcome, done, failed}
use Rattle.macros.specs.Words.{WordBlock}
use Rattle.macros.specs.Order.{Branch, first, second, Path}
use Rattle.macros.specs.Walk.{Place, at, failure, Move, no_move, stand, walk}
use Rattle.grammar.specs.Grammar.{Macro, expanded}
use Rattle.syntax.specs.declared.MacroRead.{MacroRead}
use Rattle.syntax.specs.declared.CompiledMacro as struct
use Rattle.grammar.specs.Limits.{most_points}
use Rattle.refusals.specs.Accepted.{Accepted}
use Rattle.blocks.specs.Held.{unused_point}
use Rattle.exploration.specs.Moves.{move_of}
use Rattle.exploration.specs.HeldPoints.{meant}

-- The number of a branch in the code, 0 the first.
abbrev pub branch_number : Branch → ℕ
branch_number first = 0
branch_number second = 1

module _ (program : struct.CompiledMacro) where
  -- The branches of point k of the table, as `choose` takes them. At the end, number `count`, there are none.
  abbrev pub branches_at : ℕ → Branch → Move ℕ
  branches_at k b = pick (ltb k program.count) (λ _. meant (move_of (get_or program.points (k % most_points) unused_point) (branch_number b))) λ _. no_move

  -- The letters w are performed from point 0 on, and lead to the place l.
  abbrev pub Performed : List Letter → Place ℕ → Type 0
  Performed w l = (p : Path) × (walk branches_at 0 (begin program.header) p ≡ stand l (trace_of program.header w))

-- The letters that are performed are exactly Definition 2's words of the body (SPEC 9.2).
pub record HasExecutions (program : struct.CompiledMacro) (body : Block) : Type 0 where
  -- "Complete executions": those that come to the end (SPEC 9.2)
  pub complete : (w : List Letter) → Performed program w (at program.count) ↔ WordBlock body w done
  -- "`assert C` is an if on C's opposite whose first branch ends the execution at a failure" (SPEC 9.2)
  pub failing : (w : List Letter) → Performed program w failure ↔ WordBlock body w failed
  -- "A partial execution is any beginning of one, empty or whole included." (SPEC 9.2)
  pub partial : (w : List Letter) → ((l : Place ℕ) × Performed program w l) ↔ ((v : List Letter) × (o : Outcome) × WordBlock body (w ++ v) o)

pub record Demand2Macros (text : List ℕ) (answer : MacroRead) : Type 0 where
  -- a text of the grammar is read, and no other one (SPEC 8, 11.3)
  pub reads : (m : Macro) → Accepted text m → answer.refusal ≡ 0
  pub grammatical : answer.refusal ≡ 0 → (m : Macro) × Accepted text m
  -- and what was read has the executions of the macro, named tests written out (SPEC 9.1, 9.2)
  pub executes : (m : Macro) → Accepted text m → HasExecutions answer.program (written_out (expanded m))
