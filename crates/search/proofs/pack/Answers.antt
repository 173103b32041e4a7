use Rattle.std.proofs.Common.{arith, ap, ◌∙◌, ◌+◌, ◌/◌, [], ◌∷◌}
use Rattle.search.specs.Trails.{trail_of}
use Rattle.search.specs.Tracing.{traced}
use Rattle.search.proofs.Theory.TracingLaws.{none_written, letter_before, header_before, trail_first, trail_turn, trail_whole}
use Rattle.search.proofs.pack.Goals as goal

pub loop-j-init : goal.loop-j-init
loop-j-init c =
    let a = c.args in
    let r = c.letter_at.result in
    record {
      below = omega arith;
      room = omega arith;
      within = omega arith;
      rest = r ∷ [];
      stands = c.put.ensures.bytes ∙ letter_before a.header c.letter_word.result [] [] (none_written a.header) r c.letter_word.ensures;
      trail = trail_first a.points.now a.table.now a.d r c.letter_at.ensures;
    }

pub loop-j-preserved : goal.loop-j-preserved
loop-j-preserved c =
    let a = c.args in
    let l = c.loop-j in
    let o = c.requires.older l.j (omega arith) (omega arith) in
    let pe = c.parent_at-parent.ensures in
    let r = c.letter_at-letter.result in
    record {
      below = omega (arith, o, pe);
      room = omega (arith, o, pe);
      within = omega arith;
      rest = r ∷ l.invariant.rest;
      stands = c.put-in-loop-j.ensures.bytes
          ∙ letter_before a.header c.letter_word-in-loop-j.result l.invariant.rest _ l.invariant.stands r c.letter_word-in-loop-j.ensures;
      trail = trail_turn a.points.now a.table.now (a.d / 2 + 1) c.requires.older l.j c.parent_at-parent.result c.branch_at.result r l.invariant.rest
          (trail_of a.points.now a.table.now a.d) (omega arith) (omega arith) pe c.branch_at.ensures c.letter_at-letter.ensures l.invariant.trail;
    }

pub returns : goal.returns
returns c =
    let a = c.args in
    let l = c.loop-j in
    record {
      trace = c.put-2.ensures.bytes ∙ header_before a.header c.header_word.result l.invariant.rest _ l.invariant.stands c.header_word.ensures
          ∙ ap (traced a.header) (trail_whole a.points.now a.table.now l.j l.invariant.rest (trail_of a.points.now a.table.now a.d) (omega arith)
          l.invariant.trail);
      start = omega arith;
    }
