-- Definition 2's executions, and those of a macro (SPEC 9.2; source document 000, Definition 2; document 01: "Executions are Definition 2's").
use Rattle.std.specs.Prelude.{◌≡◌}
use Rattle.letters.specs.declared.Letter.{Letter}
use Rattle.semantics.specs.Terms.{Trace, ◌▸◌}
pub use Rattle.semantics.specs.Prefixes.{Begins, whole, before}
use Rattle.macros.specs.Plain.{Condition, test, opposite, Statement, skip, perform, assert, if, while, Else, absent, present, Block, empty, ◌then◌}
use Rattle.macros.specs.Tree as tree
use Rattle.macros.specs.WrittenOut.{written_out}

-- An execution runs through the whole, or it ends at a failure.
pub data Outcome : Type 0 where
  done failed : Outcome

-- Definition 2: π is ρ, and after it the letters of an execution of the statement, of an else, of a block.
-- "`assert C` is an if on C's opposite whose first branch ends the execution at a failure." (SPEC 9.2)
-- After a failure nothing is executed. An absent else is an empty one.
mutual
  pub data Exec : Statement → Trace → Trace → Outcome → Type 0 where
    nothing : {ρ : Trace} → Exec skip ρ ρ done
    letter : {a : Letter} {ρ : Trace} → Exec (perform a) ρ (ρ ▸ a) done
    fails : {c : Condition} {a : Letter} {ρ : Trace} → a ≡ opposite c → Exec (assert c) ρ (ρ ▸ a) failed
    holds : {c : Condition} {a : Letter} {ρ : Trace} → a ≡ test c → Exec (assert c) ρ (ρ ▸ a) done
    first : {c : Condition} {b : Block} {e : Else} {ρ π : Trace} {o : Outcome} → ExecBlock b (ρ ▸ test c) π o → Exec (if c b e) ρ π o
    second : {c : Condition} {b : Block} {e : Else} {ρ π : Trace} {o : Outcome} → ExecElse e (ρ ▸ opposite c) π o → Exec (if c b e) ρ π o
    leaves : {c : Condition} {b : Block} {a : Letter} {ρ : Trace} → a ≡ opposite c → Exec (while c b) ρ (ρ ▸ a) done
    turns : {c : Condition} {b : Block} {ρ π τ : Trace} {o : Outcome} → ExecBlock b (ρ ▸ test c) π done → Exec (while c b) π τ o → Exec (while c b) ρ τ o
    breaks : {c : Condition} {b : Block} {ρ π : Trace} → ExecBlock b (ρ ▸ test c) π failed → Exec (while c b) ρ π failed

  pub data ExecElse : Else → Trace → Trace → Outcome → Type 0 where
    none : {ρ : Trace} → ExecElse absent ρ ρ done
    some : {b : Block} {ρ π : Trace} {o : Outcome} → ExecBlock b ρ π o → ExecElse (present b) ρ π o

  pub data ExecBlock : Block → Trace → Trace → Outcome → Type 0 where
    stop : {ρ : Trace} → ExecBlock empty ρ ρ done
    both : {s : Statement} {b : Block} {ρ π τ : Trace} {o : Outcome} → Exec s ρ π done → ExecBlock b π τ o → ExecBlock (s then b) ρ τ o
    ends : {s : Statement} {b : Block} {ρ π : Trace} → Exec s ρ π failed → ExecBlock (s then b) ρ π failed

-- "A macro's executions are those of this expansion" (document 02, request 4; SPEC 9.1, 9.2): the words of Definition 2 for the macro written out, from a
-- start: `begin h` for a macro with the header h. Whole ones, and those that end at a failure.
abbrev pub Complete : Trace → tree.Block → Trace → Type 0
Complete start m ρ = ExecBlock (written_out m) start ρ done

abbrev pub Failing : Trace → tree.Block → Trace → Type 0
Failing start m ρ = ExecBlock (written_out m) start ρ failed

-- "A partial execution is any beginning of one, empty or whole included." (SPEC 9.2) The empty one is the start.
pub record Partial (start : Trace) (m : tree.Block) (ρ : Trace) : Type 0 where
  pub execution : Trace
  pub outcome : Outcome
  pub runs : ExecBlock (written_out m) start execution outcome
  pub from_start : Begins start ρ
  pub begins : Begins ρ execution
