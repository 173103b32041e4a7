-- The digits of the bytes so far are appended.
use Rattle.std.proofs.Common.{◌≡◌, drop}
use Rattle.text.proofs.Theory.Appending.{LeftToAppend}
use Rattle.model_lines.specs.Prints.{hex_text}
use Rattle.model_lines.proofs.put_hex.Given as goal

abbrev pub invariant-loop-byte : goal.invariant-loop-byte
invariant-loop-byte l =
    (l.writer.out.ghost_name ≡ l.fn.writer.out.ghost_name)
    × LeftToAppend l.fn.writer.out.now l.fn.writer.at (hex_text l.bytes) (hex_text (drop l.byte-index l.bytes)) l.writer.out.now l.writer.at
