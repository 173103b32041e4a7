use Rattle.syntax.proofs.Theory.Top as law
use Rattle.syntax.proofs.read_tests.Goals as goal

pub returns-in_err-all : goal.returns-in_err-all
returns-in_err-all c =
    let a = c.args in
    law.tests_refused a.text.now a.rs a.fs c.requires.0 c.requires.1 c.tests_line.ensures c.in_err-all.was c.from_residual.ensures

pub invariant_of-declared : goal.invariant_of-declared
invariant_of-declared c =
    let a = c.args in
    let (F, l, room) = law.tests_kept a.text.now a.rs a.fs c.requires.0 c.requires.1 c.tests_line.ensures c.in_ok-all.was in
    record { registers_padded = c.requires.0; functions_padded = F; counted = l; room = room }

pub returns : goal.returns
returns c =
    let a = c.args in
    law.tests_read a.text.now a.rs a.fs c.requires.0 c.requires.1 c.tests_line.ensures c.in_ok-all.was c.read_body.ensures
