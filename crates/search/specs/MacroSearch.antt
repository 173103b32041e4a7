-- The search over a macro that was read, as the code holds it.
use Rattle.std.specs.Prelude.{◌≡◌, List, ℕ, Result, length}
use Rattle.letters.specs.Editions.{first_edition}
use Rattle.letters.specs.declared.reasons.Refused.{Refused}
use Rattle.letters.specs.Capacity.{capacity_of}
use Rattle.syntax.specs.declared.CompiledMacro as struct
use Rattle.syntax.specs.Answer.{held_macro}
use Rattle.exploration.specs.declared.Stop.{Stop}
use Rattle.search.specs.declared.Verdict as answer
use Rattle.exploration.specs.Exploring.{search_of}
use Rattle.exploration.specs.Given.{Given}
use Rattle.search.specs.Searched.{SearchAnswered}
use Rattle.search.specs.Answering.{answer_of}

-- The struct holds a macro that was read.
abbrev pub HoldsMacro : struct.CompiledMacro → Type 0
HoldsMacro program = (given : Given) × (held_macro given.macro ≡ program)

-- How the search over the macro ends in a lent table, and what the table then holds.
abbrev pub search_on : struct.CompiledMacro → List ℕ → Result ℕ Stop × List ℕ
search_on program t = search_of program.header program.points program.count (capacity_of first_edition (length t)) t

-- What is answered, and what the output then holds.
abbrev pub Tells : struct.CompiledMacro → List ℕ → List ℕ → Result answer.Verdict Refused → List ℕ → Type 0
Tells program t output r output' =
    SearchAnswered program.header program.points first_edition output (search_on program t).0 (search_on program t).1 (answer_of r) output'
