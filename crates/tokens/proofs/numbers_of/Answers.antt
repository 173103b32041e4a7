use Rattle.std.proofs.Common.{arith, rules, ℕ, ◌-◌, ◌≤◌, List, length}
use Rattle.std.proofs.lemmas.List.{length-map}
use Rattle.tokens.specs.Bytes.{lowered, lower_case}
use Rattle.tokens.proofs.Theory.BytesLaws.{key_none, key_fits, key_turn, key_done, lowered_at, key_slice}
use Rattle.tokens.proofs.numbers_of.Goals as goal

within : (s : List ℕ) {n : ℕ} → n ≤ length s → n ≤ length (lower_case s)
within s h = omega (arith, length-map s lowered)

pub loop-at-init : goal.loop-at-init
loop-at-init c = (key_none _ _ _ c.requires.0, key_none _ _ _ c.requires.0)

pub overflow_mul-key : goal.overflow_mul-key
overflow_mul-key c =
    let h = key_fits _ _ _ _ _ 0 c.requires.2 c.loop-at-test.true (omega arith) c.loop-at.invariant.0 in record { fits = omega arith }

pub overflow_add-key : goal.overflow_add-key
overflow_add-key c = record { fits = key_fits _ _ _ _ _ c.from.result c.requires.2 c.loop-at-test.true (search rules) c.loop-at.invariant.0 }

pub overflow_mul-spelling : goal.overflow_mul-spelling
overflow_mul-spelling c =
    let h = key_fits _ _ _ _ _ 0 c.requires.2 c.loop-at-test.true (omega arith) c.loop-at.invariant.1 in record { fits = omega arith }

pub overflow_add-spelling : goal.overflow_add-spelling
overflow_add-spelling c = record { fits = key_fits _ _ _ _ _ c.from-in-loop-at.result c.requires.2 c.loop-at-test.true (search rules) c.loop-at.invariant.1 }

pub loop-at-preserved : goal.loop-at-preserved
loop-at-preserved c =
    let text = c.args.text.now in
    let low = lowered_at text (c.loop-at.at - 1) in (
      key_turn _ _ _ _ _ c.from.result (within text c.requires.1) c.loop-at-test.true (search rules) (cc) c.loop-at.invariant.0,
      key_turn _ _ _ _ _ c.from-in-loop-at.result c.requires.1 c.loop-at-test.true (search rules) (cc) c.loop-at.invariant.1,
    )

pub returns : goal.returns
returns c =
    let args = c.args in
    let kept = c.loop-at.invariant in
    record {
      key_is = key_slice args.text.now args.start args.end _ (key_done _ _ _ _ _ c.loop-at-test.false kept.0);
      spelling_is = key_done _ _ _ _ _ c.loop-at-test.false kept.1;
    }
