use Rattle.std.proofs.Common.{arith, rules}
use Rattle.closure.specs.Limits.{most_terms, signature_chains}
use Rattle.closure.proofs.Theory.Clashing.{zeros}
use Rattle.model_writer.proofs.Theory.Listing.{formed_part, listed_start, listed_turn, listed_end}
use Rattle.model_writer.proofs.list.Goals as goal
use Rattle.model_writer.proofs.list.Goals.{then-new_row, else-new_row}

pub loop-i-init : goal.loop-i-init
loop-i-init c = listed_start _ _ _ c.requires (search rules) (zeros signature_chains) (record { long = search rules; zero = zeros most_terms })

pub new_row-requires : goal.new_row-requires
new_row-requires c = let h = c.loop-i-test.true in let l = c.loop-i.invariant.least in
    (formed_part _ c.requires.formed (omega arith) (omega arith), l, c.loop-i.invariant.indexed)

pub loop-i-preserved : goal.loop-i-preserved
loop-i-preserved c = listed_turn _ _ _ _ _ _ _ _ c.loop-i.invariant c.loop-i-test.true c.requires.formed.within c.new_row.ensures _
    (elim c.if-new_row.branch [ then-new_row w ↦ rw w.if-new_row.true w.r-is | else-new_row w ↦ rw w.if-new_row.false (omega (arith, w.r-is)) ])

pub returns : goal.returns
returns c = listed_end _ _ _ _ _ c.loop-i.invariant c.loop-i-test.false
