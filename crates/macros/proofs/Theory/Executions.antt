-- What follows from the definitions of specs/Executions.antt.
use mathlib.Core.Path.{refl}
use Rattle.semantics.specs.Terms.{Trace, ◌▸◌}
use Rattle.macros.specs.Plain.{test, opposite, Statement, skip, perform, assert, if, while, Else, absent, present, Block, empty, ◌then◌}
use Rattle.macros.specs.Executions.{done, Exec, ExecElse, ExecBlock, Outcome}
use Rattle.semantics.specs.Prefixes.{Begins, whole, before}
use Rattle.semantics.proofs.Theory.Prefixes.{begins_join}

-- ── laws ──
-- Every statement can be executed to its end.
mutual
  pub completes : (s : Statement) (ρ : Trace) → (π : Trace) × Exec s ρ π done
  completes skip ρ = (ρ, Exec.nothing)
  completes (perform a) ρ = (ρ ▸ a, Exec.letter)
  completes (assert c) ρ = (ρ ▸ test c, Exec.holds refl)
  completes (if c b e) ρ = let (π, x) = completes_else e (ρ ▸ opposite c) in (π, Exec.second x)
  completes (while c b) ρ = (ρ ▸ opposite c, Exec.leaves refl)

  completes_else : (e : Else) (ρ : Trace) → (π : Trace) × ExecElse e ρ π done
  completes_else absent ρ = (ρ, ExecElse.none)
  completes_else (present b) ρ = let (π, x) = completes_block b ρ in (π, ExecElse.some x)

  pub completes_block : (b : Block) (ρ : Trace) → (π : Trace) × ExecBlock b ρ π done
  completes_block empty ρ = (ρ, ExecBlock.stop)
  completes_block (s then b) ρ =
      let (π, x) = completes s ρ in
      let (τ, y) = completes_block b π in
      (τ, ExecBlock.both x y)

-- An execution goes on from the trace that it is given.
mutual
  pub exec_begins : {s : Statement} {ρ π : Trace} {o : Outcome} → Exec s ρ π o → Begins ρ π
  exec_begins Exec.nothing = whole
  exec_begins Exec.letter = before whole
  exec_begins (Exec.fails x) = before whole
  exec_begins (Exec.holds x) = before whole
  exec_begins (Exec.first x) = begins_join (before whole) (block_begins x)
  exec_begins (Exec.second x) = begins_join (before whole) (else_begins x)
  exec_begins (Exec.leaves x) = before whole
  exec_begins (Exec.turns x y) = begins_join (before whole) (begins_join (block_begins x) (exec_begins y))
  exec_begins (Exec.breaks x) = begins_join (before whole) (block_begins x)

  pub else_begins : {e : Else} {ρ π : Trace} {o : Outcome} → ExecElse e ρ π o → Begins ρ π
  else_begins ExecElse.none = whole
  else_begins (ExecElse.some x) = block_begins x

  pub block_begins : {b : Block} {ρ π : Trace} {o : Outcome} → ExecBlock b ρ π o → Begins ρ π
  block_begins ExecBlock.stop = whole
  block_begins (ExecBlock.both x y) = begins_join (exec_begins x) (block_begins y)
  block_begins (ExecBlock.ends x) = exec_begins x
