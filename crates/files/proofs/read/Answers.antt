use native.Mathlib.Omega.{arith}
use mathlib.Core.Path.{sym, ◌∙◌}
use Prim.Native.Nat.{◌+◌, ◌<◌}
use Rattle.files.proofs.Theory.InputLaws.{SoFar, so_far_more, received, received_full}
use Rattle.files.proofs.read.Goals as goal
use Rattle.files.proofs.read.Goals.{In-Continue}

-- the read gave bytes
more : (g : _) (c : In-Continue g) → SoFar c.args.buffer.now (c.loop-done.done + c.in-Continue.n) c.read_once-once.new.buffer × (0 < c.in-Continue.n)
more g c =
    let l = c.loop-done in
    let once = c.read_once-once in
    so_far_more c.args.buffer.now l.buffer once.new.piece once.new.buffer l.done once.result l.invariant.0 once.ensures c.in-Continue.n
    (sym c.after.ensures ∙ c.in-Continue.is)

pub overflow_add-done : goal.overflow_add-done
overflow_add-done g c = omega (arith, (more g c).0.within)

pub loop-done-smaller : goal.loop-done-smaller
loop-done-smaller g c =
    let m = more g c in omega (arith, m.0.length_kept, m.0.within, m.1, c.loop-done.invariant.0.length_kept)

pub loop-done-preserved : goal.loop-done-preserved
loop-done-preserved g c = ((more g c).0, omega (arith, c.loop-done.invariant.1))

pub returns-in-Break : goal.returns-in-Break
returns-in-Break g c =
    let l = c.loop-done in
    let once = c.read_once-once in
    received c.args.buffer.now l.buffer once.new.piece once.new.buffer l.done once.result l.invariant.0 once.ensures c.in-Break.input
    (sym c.after.ensures ∙ c.in-Break.is) (omega (arith, l.invariant.0.length_kept, c.loop-done-test.true))

pub returns : goal.returns
returns g c =
    let l = c.loop-done in
    received_full c.args.buffer.now l.buffer l.done l.invariant.0 (omega (arith, l.invariant.0.length_kept, c.loop-done-test.false))
