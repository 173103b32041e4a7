use Rattle.std.proofs.Common.{◌+◌, ◌-◌, ◌*◌, length}
use Rattle.blocks.specs.Held.{progress}
use Rattle.blocks.proofs.Theory.CycleLaws as law
use Rattle.blocks.proofs.+block_braces_conditional_otherwise_repeat_statement.Given as goal

abbrev pub decreases-block : goal.decreases-block
decreases-block l = 2 * (length l.scope.now.text.now - l.from) + 1

abbrev pub decreases-braces : goal.decreases-braces
decreases-braces l = 2 * (length l.scope.now.text.now - l.at)

abbrev pub decreases-conditional : goal.decreases-conditional
decreases-conditional l = 2 * (length l.scope.now.text.now - l.at)

abbrev pub decreases-otherwise : goal.decreases-otherwise
decreases-otherwise l = 2 * (length l.scope.now.text.now - l.at)

abbrev pub decreases-repeat : goal.decreases-repeat
decreases-repeat l = 2 * (length l.scope.now.text.now - l.at)

abbrev pub decreases-statement : goal.decreases-statement
decreases-statement l = 2 * (length l.scope.now.text.now - l.at)

abbrev pub invariant-block-loop-t : goal.invariant-block-loop-t
invariant-block-loop-t l =
    let a = l.scope in
    law.BlockReached a.text.now a.registers.now a.functions.now a.arities.now a.first_test l.depth l.first (progress l.initial.at l.initial.points)
    (progress l.at l.points)

abbrev pub decreases-block-loop-t : goal.decreases-block-loop-t
decreases-block-loop-t l = length l.scope.text.now - l.at
