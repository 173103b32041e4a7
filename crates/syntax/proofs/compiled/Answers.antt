use Rattle.syntax.proofs.Theory.Top as law
use Rattle.syntax.proofs.Theory.Reads.{reads_in_numbers}
use Rattle.syntax.proofs.compiled.Goals as goal

pub returns-then-text-gt-LONGEST_TEXT : goal.returns-then-text-gt-LONGEST_TEXT
returns-then-text-gt-LONGEST_TEXT c = reads_in_numbers _ (law.read_long _ c.if-text-gt-LONGEST_TEXT.true c.at.ensures)

pub returns-in_err-a : goal.returns-in_err-a
returns-in_err-a c = reads_in_numbers _ (law.read_vars _ c.if-text-gt-LONGEST_TEXT.false c.expect.ensures c.in_err-a.was c.from_residual.ensures)

pub returns-in_err-rs : goal.returns-in_err-rs
returns-in_err-rs c =
    reads_in_numbers _ (law.read_refused _ _ c.read_registers.ensures
    (law.macro_begun _ c.if-text-gt-LONGEST_TEXT.false c.expect.ensures c.in_ok-a.was) c.in_err-rs.was c.from_residual-in_err-rs.ensures)

pub read_rest-requires : goal.read_rest-requires
read_rest-requires c = law.names_kept _ _ c.read_registers.ensures c.in_ok-rs.was

pub returns : goal.returns
returns c =
    reads_in_numbers _ (law.read_rest _ _ c.read_registers.ensures
    (law.macro_begun _ c.if-text-gt-LONGEST_TEXT.false c.expect.ensures c.in_ok-a.was) c.in_ok-rs.was c.read_rest.ensures)
