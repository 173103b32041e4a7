use Rattle.syntax.proofs.Theory.Top as law
use Rattle.syntax.proofs.read_rest.Goals as goal

pub returns-in_err-fs : goal.returns-in_err-fs
returns-in_err-fs c = law.rest_refused c.args.text.now c.args.rs c.functions_line.ensures c.in_err-fs.was c.from_residual.ensures

pub read_tests-requires : goal.read_tests-requires
read_tests-requires c = (c.requires, law.line_kept c.args.text.now c.args.rs c.functions_line.ensures c.in_ok-fs.was)

pub returns : goal.returns
returns c = law.rest_read c.args.text.now c.args.rs c.functions_line.ensures c.in_ok-fs.was c.read_tests.ensures
