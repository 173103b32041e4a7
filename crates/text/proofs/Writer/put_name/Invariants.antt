use Rattle.std.proofs.Common.{◌≡◌}
use Rattle.text.specs.Names.{name_text}
use Rattle.text.proofs.Theory.Appending.{LeftToAppend}
use Rattle.text.proofs.Writer.put_name.Given as goal

abbrev pub invariant-loop-rest : goal.invariant-loop-rest
invariant-loop-rest l =
    (l.self.out.ghost_name ≡ l.fn.self.out.ghost_name)
    × LeftToAppend l.fn.self.out.now l.fn.self.at (name_text l.name) (name_text l.rest) l.self.out.now l.self.at

abbrev pub decreases-loop-rest : goal.decreases-loop-rest
decreases-loop-rest l = l.rest
