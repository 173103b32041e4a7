use mathlib.Core.Path.{ap, ◌∙◌}
use mathlib.Core.Bool.{false}
use lib.Dec.{ltb}
use borrow.Author.Tests.{le-ltb}
use native.Mathlib.Omega.{arith}
use Rattle.letters.specs.Editions.{first_edition}
use Rattle.traces.specs.Reading.{letter_count}
use Rattle.traces.specs.ReadingParts.{counted}
use Rattle.traces.proofs.Counting.{same_limit}
use Rattle.traces.proofs.read_trace.Goals as goal

-- No trace has more letters than a number of 64 bits counts.
pub returns : goal.returns
returns c =
    let s = c.args.bytes.now in
    c.read_trace_within.ensures ∙ ap counted
    (same_limit (ltb 18446744073709551615) (λ _. false) s (le-ltb 18446744073709551615 (letter_count first_edition s) (omega arith)))
