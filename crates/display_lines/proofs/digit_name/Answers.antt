use Rattle.std.proofs.Common.{rules, arith}
use Rattle.display_lines.proofs.Theory.Digits.{named_none, named_small, named_more, named_whole}
use Rattle.display_lines.proofs.digit_name.Goals as goal

pub overflow_add-name : goal.overflow_add-name
overflow_add-name c =
    let small = named_small c.loop-i.invariant c.loop-i-test.true in
    let byte = c.loop-i-test.element_fits.fits in
    record { fits = omega (arith, small, byte) }

pub loop-i-init : goal.loop-i-init
loop-i-init c = named_none c.hex.new.out (search rules)

pub loop-i-preserved : goal.loop-i-preserved
loop-i-preserved c = named_more c.loop-i.invariant c.loop-i-test.true (search rules) (omega (arith, c.loop-i-test.element_fits.fits))

pub returns : goal.returns
returns c =
    named_whole c.args.number c.hex.result c.loop-i.invariant c.loop-i-test.false (search rules) c.ranges.number.fits
    c.hex.ensures.len c.hex.ensures.digits
