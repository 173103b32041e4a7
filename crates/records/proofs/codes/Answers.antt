use Rattle.std.proofs.Common.{rules, arith, refl, sym, ◌∙◌, ◌+◌, ◌*◌}
use Rattle.window.proofs.Theory.Table.{swept_none}
use Rattle.records.proofs.Turns.{codes_past, codes_turn, code-bytes, swept_moved, swept_zeros}
use Rattle.records.proofs.codes.Goals as goal

pub loop-j-init : goal.loop-j-init
loop-j-init c = swept_none _ _ _

pub loop-j-preserved-then-is_blank : goal.loop-j-preserved-then-is_blank
loop-j-preserved-then-is_blank c =
    codes_past c.args.res.now c.args.ever.now c.loop-j.codes c.loop-j.j _ _ (omega arith) (search rules) refl c.is_blank.ensures c.if-is_blank.true
    c.loop-j.invariant

pub loop-k-init : goal.loop-k-init
loop-k-init c = swept_moved _ _ (4 * c.loop-j.j) (4 * c.loop-j.j + 0) _ (omega arith) c.loop-j.invariant

pub loop-k-preserved : goal.loop-k-preserved
loop-k-preserved c =
    codes_turn c.args.res.now c.args.ever.now c.loop-k.codes c.loop-j.j c.loop-k.k _ _ (omega arith) (omega arith) refl c.code_byte.ensures
    c.loop-k.invariant

pub loop-j-preserved : goal.loop-j-preserved
loop-j-preserved c = swept_moved _ _ (4 * c.loop-j.j + c.loop-k.k) (4 * (c.loop-j.j + 1)) _ (omega arith) c.loop-k.invariant

pub returns : goal.returns
returns c = swept_zeros _ 128 (4 * c.loop-j.j) c.loop-j.codes c.loop-j.invariant (omega arith) ∙ sym (code-bytes c.args.res.now c.args.ever.now)
