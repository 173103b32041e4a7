-- What is answered, and what the output holds, where the search has ended.
use Rattle.std.specs.Prelude.{◌≡◌, List, ℕ, Result, Ok, Err, length}
use Rattle.letters.specs.declared.Header.{Header}
use Rattle.letters.specs.Editions.{Edition}
use Rattle.semantics.specs.Terms.{begin}
use Rattle.verdict_theory.specs.Verdict.{VerdictAnswer, pass, full, breaking, failing, showing, Delivered}
use Rattle.verdict_theory.specs.AnswerPacking.{packed}
use Rattle.blocks.specs.declared.PointEntry.{PointEntry}
use Rattle.exploration.specs.declared.Stop.{Stop}
use Rattle.exploration.specs.declared.Stop.TheVariants.{Full, Breaking, Failing}
use Rattle.search.specs.Trails.{trail_of}

-- What is answered, and what the output then holds, where the search has ended with the table u.
abbrev pub SearchAnswered : Header → List PointEntry → Edition → List ℕ → Result ℕ Stop → List ℕ → VerdictAnswer → List ℕ → Type 0
SearchAnswered h sp edition output (Err Full) u answer output' = (answer ≡ full) × (output' ≡ output)
SearchAnswered h sp edition output (Ok k) u answer output' = (answer ≡ pass k) × (output' ≡ output)
SearchAnswered h sp edition output (Err (Breaking k d)) u answer output' =
    Delivered (packed edition (begin h) breaking (trail_of sp u d)) (showing breaking k (length (trail_of sp u d))) output answer output'
SearchAnswered h sp edition output (Err (Failing k d)) u answer output' =
    Delivered (packed edition (begin h) failing (trail_of sp u d)) (showing failing k (length (trail_of sp u d))) output answer output'
