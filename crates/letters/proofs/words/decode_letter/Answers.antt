-- A word is refused where a field lies outside the header's counts or one that its letter does not use is not 0, and read otherwise.
use Rattle.std.proofs.Common.{arith, sym, ◌∙◌}
use Rattle.letters.proofs.Decoding.{clash, counted, refuse, under_none, read_application, read_copy, read_equal, read_unequal}
use Rattle.letters.proofs.words.decode_letter.Goals as goal
use Rattle.letters.proofs.words.decode_letter.Goals.{then-not-header_fits-via-then-not-header_fits}
use Rattle.letters.proofs.words.decode_letter.Goals.{then-not-header_fits-via-else-not-header_fits+then-word-ne0}
use Rattle.letters.proofs.words.decode_letter.Goals.{else-second-ne0-2-via-then-second-ne0-2+else-not-takes_two}
use Rattle.letters.proofs.words.decode_letter.Goals.{else-second-ne0-2-via-else-second-ne0-2}

pub returns-then-not-header_fits : goal.returns-then-not-header_fits
returns-then-not-header_fits c = elim c.then-not-header_fits.branch [
  | then-not-header_fits-via-then-not-header_fits w ↦ under_none c.args.h c.args.word (sym w.if-not-header_fits.true ∙ c.header_fits.ensures)
  | then-not-header_fits-via-else-not-header_fits+then-word-ne0 w ↦ refuse c.args.h c.args.word (omega arith) λ p. omega (arith, p.spare)
]

pub returns-then-h-target : goal.returns-then-h-target
returns-then-h-target c = refuse c.args.h c.args.word (omega arith) λ p. grind (arith, c.then-h-target.either, p.target, p.first, p.second)

pub returns-then-function-ne0 : goal.returns-then-function-ne0
returns-then-function-ne0 c = refuse c.args.h c.args.word (omega arith) λ p.
    grind (arith, c.then-function-ne0.either, p.copied c.in-0.is, p.plain (λ q. omega (arith, q, c.in-0.is)))

pub returns-then-h-function : goal.returns-then-h-function
returns-then-h-function c = refuse c.args.h c.args.word (omega arith) λ p. omega (arith, p.function c.in-1.is)

pub returns-then-not-takes_two : goal.returns-then-not-takes_two
returns-then-not-takes_two c = refuse c.args.h c.args.word (omega arith) λ p.
    omega (arith, p.alone c.in-1.is (sym c.if-not-takes_two.ensures))

pub returns-then-function-ne0-2 : goal.returns-then-function-ne0-2
returns-then-function-ne0-2 c = refuse c.args.h c.args.word (omega arith) λ p.
    grind (arith, c.then-function-ne0-2.either, p.plain (λ q. omega arith), p.tested (λ q. omega arith) (λ q. omega arith))

pub returns-else-second-ne0 : goal.returns-else-second-ne0
returns-else-second-ne0 c = read_copy c.args.h c.args.word (omega arith)
    (counted c.if-not-header_fits.ensures c.if-word-ne0.false c.if-h-target.false c.if-h-first.false c.if-h-second.false)
    c.in-0.is (omega arith) (omega arith)

pub returns-else-second-ne0-2 : goal.returns-else-second-ne0-2
returns-else-second-ne0-2 c = read_application c.args.h c.args.word (omega arith)
    (counted c.if-not-header_fits.ensures c.if-word-ne0.false c.if-h-target.false c.if-h-first.false c.if-h-second.false)
    c.in-1.is c.if-h-function.false
    (λ t. elim c.else-second-ne0-2.branch [
      | else-second-ne0-2-via-then-second-ne0-2+else-not-takes_two w ↦ absurd (clash (sym w.takes_two.ensures ∙ w.if-not-takes_two.false) t)
      | else-second-ne0-2-via-else-second-ne0-2 w ↦ w.if-second-ne0-2.false
    ])
    _ c.by_arity-second.ensures

pub returns-then-kind-eq-EQUAL : goal.returns-then-kind-eq-EQUAL
returns-then-kind-eq-EQUAL c = read_equal c.args.h c.args.word (omega arith)
    (counted c.if-not-header_fits.ensures c.if-word-ne0.false c.if-h-target.false c.if-h-first.false c.if-h-second.false)
    c.if-kind-eq-EQUAL.true (omega arith) (omega arith)

pub returns-else-kind-eq-EQUAL : goal.returns-else-kind-eq-EQUAL
returns-else-kind-eq-EQUAL c = read_unequal c.args.h c.args.word (omega arith)
    (counted c.if-not-header_fits.ensures c.if-word-ne0.false c.if-h-target.false c.if-h-first.false c.if-h-second.false)
    (λ q. omega arith) (λ q. omega arith) c.if-kind-eq-EQUAL.false (omega arith) (omega arith)
