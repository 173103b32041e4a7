use Rattle.std.proofs.Common.{arith, ℕ, [], ◌∷◌, ◌/◌, ◌%◌, sym}
use Rattle.text.specs.Numerals.{digit_byte, numeral}
use Rattle.text.proofs.Theory.Numerals.{numeral_one, numeral_more}
use Rattle.text.proofs.Theory.Appending.{room_same, room_first, room_then, appended_same, appended_then}
use Rattle.text.proofs.Writer.+put_number.Goals as goal
use Rattle.text.proofs.Writer.+put_number.Goals.{then-number-ge10, else-number-ge10}

pub put_number-requires : goal.put_number-requires
put_number-requires t c =
    let n : ℕ = c.args.number in (
      omega (arith, c.decreases, c.if-number-ge10.true),
      room_first (numeral (n / 10)) (digit_byte (n % 10) ∷ []) (room_same (numeral_more n c.if-number-ge10.true) c.requires),
    )

pub put_byte-requires : goal.put_byte-requires
put_byte-requires t c =
    let n : ℕ = c.args.number in elim c.if-number-ge10.branch [
      | then-number-ge10 w ↦ rw w.self-is (room_then (numeral (n / 10)) (digit_byte (n % 10) ∷ []) (room_same (numeral_more n w.if-number-ge10.true) c.requires)
          w.put_number.ensures.appended)
      | else-number-ge10 w ↦ rw w.self-is (room_same (numeral_one n w.if-number-ge10.false) c.requires)
    ]

pub returns-clause-appended : goal.returns-clause-appended
returns-clause-appended t c =
    let n : ℕ = c.args.number in elim c.if-number-ge10.branch [
      | then-number-ge10 w ↦
          appended_same (sym (numeral_more n w.if-number-ge10.true)) (appended_then (numeral (n / 10)) (digit_byte (n % 10) ∷ [])
          w.put_number.ensures.appended (rw w.self-is at c.put_byte.ensures.appended))
      | else-number-ge10 w ↦ appended_same (sym (numeral_one n w.if-number-ge10.false)) (rw w.self-is at c.put_byte.ensures.appended)
    ]
