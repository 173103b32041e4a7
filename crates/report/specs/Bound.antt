-- How long a report can be: so that a buffer of a fixed size is never too small.
use Rattle.std.specs.Prelude.{Ok, Err, ℕ, ◌+◌, ◌^◌, ◌<◌, List}
use Rattle.semantics.specs.PackedTables.{word_bytes}
use Rattle.report.specs.declared.ReportedVerdict.TheVariants.{Pass, Incoherent, Fail}
use Rattle.report.specs.Shown.{Reported, model_start, word_at, word_values}

-- What the types of the numbers of a verdict or a refusal say.
abbrev pub Limited : Reported → Type 0
Limited (Ok (Pass pairs)) = pairs < 2 ^ 64
Limited (Ok (Incoherent pairs n)) = (pairs < 2 ^ 64) × (n < word_values)
Limited (Ok (Fail pairs n)) = (pairs < 2 ^ 64) × (n < word_values)
Limited (Err r) = (r.number < 256) × (r.place < 2 ^ 64)

-- The letters and the rows that a verdict shows.
abbrev pub letter_number : Reported → ℕ
letter_number (Ok (Pass pairs)) = 0
letter_number (Ok (Incoherent pairs n)) = n
letter_number (Ok (Fail pairs n)) = n
letter_number (Err r) = 0

abbrev pub row_number : Reported → List ℕ → ℕ
row_number (Ok (Pass pairs)) s = 0
row_number (Ok (Incoherent pairs n)) s = 0
row_number (Ok (Fail pairs n)) s = word_at s (model_start n + word_bytes)
row_number (Err r) s = 0
