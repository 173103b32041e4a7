use Rattle.std.proofs.Common.{arith, length, ◌≡◌, ◌%◌, Option, Some, None, refl}
use borrow.Author.Tests.{lt-ltb, le-ltb, eq-eqb, ne_eqb}
use Rattle.letters.specs.declared.Header.{Header}
use Rattle.letters.specs.declared.reasons.Reason.TheVariants.{HeaderMalformed}
use Rattle.letters.specs.CodeAnswers.{header_answer}
use Rattle.letters.specs.Reasons.{as_answer}
use Rattle.std.specs.Option.{ok_or}
use Rattle.traces.specs.Reading.{beginning}
use Rattle.traces.proofs.Theory.Units.{unit_at}
use Rattle.traces.proofs.read_beginning.Goals as goal

pub returns-then-bytes-lt-UNIT_BYTES : goal.returns-then-bytes-lt-UNIT_BYTES
unfolding beginning
returns-then-bytes-lt-UNIT_BYTES c = rw (c.at.ensures, lt-ltb (length c.args.bytes.now) 2 c.if-bytes-lt-UNIT_BYTES.true)

pub returns-then-bytes-ne0 : goal.returns-then-bytes-ne0
unfolding beginning
returns-then-bytes-ne0 c =
    rw (c.at-then-bytes-ne0.ensures, le-ltb (length c.args.bytes.now) 2 (omega arith), ne_eqb (length c.args.bytes.now % 2) 0 c.if-bytes-ne0.true)

or_malformed : (d : Option Header) → as_answer (ok_or d (record { reason = HeaderMalformed; place = 0 })) ≡ header_answer d
or_malformed (Some h) = refl
or_malformed None = refl

pub returns : goal.returns
unfolding beginning
returns c =
    let s = c.args.bytes.now in
    rw (
      c.ok_or.ensures.value,
      c.at-2.ensures,
      or_malformed c.decode_header.result,
      le-ltb (length s) 2 (omega arith),
      eq-eqb (length s % 2) 0 (omega arith),
      unit_at s 0 (omega arith),
      ← c.word.ensures,
      c.decode_header.ensures,
    )
