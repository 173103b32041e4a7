use Rattle.std.proofs.Common.{◌≡◌, drop}
use Rattle.text.specs.Templates.{filled_in}
use Rattle.text.proofs.Theory.Appending.{LeftToAppend}
use Rattle.text.proofs.Writer.put_line.Given as goal

abbrev pub invariant-loop-byte : goal.invariant-loop-byte
invariant-loop-byte l =
    (l.self.out.ghost_name ≡ l.fn.self.out.ghost_name)
    × LeftToAppend l.fn.self.out.now l.fn.self.at (filled_in l.template l.fields) (filled_in (drop l.byte-index l.template) l.fields) l.self.out.now l.self.at
