-- The reasons of the code and the numbers of the specification (SPEC 11.2 to 11.4), and what a Result of the code answers.
use Rattle.std.specs.Prelude.{ℕ, ◌-◌, List, [], ◌∷◌, get_or, Result, Ok, Err}
use Rattle.letters.specs.declared.reasons.Reason.{Reason}
use Rattle.letters.specs.declared.reasons.Reason.TheVariants.{TraceTooShort, TraceOddLength, HeaderMalformed, LetterMalformed, TraceTooLong, OutputTooSmall}
use Rattle.letters.specs.declared.reasons.Reason.TheVariants.{TextTooLong, TokenMalformed, GrammarViolated, DeclarationWrong, UseWrong, NestingTooDeep}
use Rattle.letters.specs.declared.reasons.Reason.TheVariants.{PointsTooMany, TableTooSmall, PrintTooLong, NoRoomForTests}
use Rattle.letters.specs.declared.reasons.Refused.{Refused}
use Rattle.letters.specs.Answers.{Answer, value, refusal}
use Rattle.letters.specs.RefusalNumbers.{trace_too_short, trace_odd_length, header_malformed, letter_malformed, trace_too_long, output_too_small}
use Rattle.letters.specs.MacroRefusalNumbers.{text_too_long, token_malformed, grammar_violated, declaration_wrong, use_wrong, nesting_too_deep}
use Rattle.letters.specs.MacroRefusalNumbers.{points_too_many, table_too_small, print_too_long, no_room_for_tests}

-- the number of a reason
abbrev pub number_of : Reason → ℕ
number_of TraceTooShort = trace_too_short
number_of TraceOddLength = trace_odd_length
number_of HeaderMalformed = header_malformed
number_of LetterMalformed = letter_malformed
number_of TraceTooLong = trace_too_long
number_of OutputTooSmall = output_too_small
number_of TextTooLong = text_too_long
number_of TokenMalformed = token_malformed
number_of GrammarViolated = grammar_violated
number_of DeclarationWrong = declaration_wrong
number_of UseWrong = use_wrong
number_of NestingTooDeep = nesting_too_deep
number_of PointsTooMany = points_too_many
number_of TableTooSmall = table_too_small
number_of PrintTooLong = print_too_long
number_of NoRoomForTests = no_room_for_tests

-- the reasons in the order of their numbers, from 1
abbrev pub reasons : List Reason
reasons =
    TraceTooShort ∷ TraceOddLength ∷ HeaderMalformed ∷ LetterMalformed ∷ TraceTooLong ∷ OutputTooSmall ∷ TextTooLong ∷ TokenMalformed
    ∷ GrammarViolated ∷ DeclarationWrong ∷ UseWrong ∷ NestingTooDeep ∷ PointsTooMany ∷ TableTooSmall ∷ PrintTooLong ∷ NoRoomForTests ∷ []

-- the reason that a number from 1 to 16 stands for
abbrev pub reason_of : ℕ → Reason
reason_of n = get_or reasons (n - 1) NoRoomForTests

-- what a Result of the code answers: a value, or the number of a reason and a place
abbrev pub as_answer : {A : Type 0} → Result A Refused → Answer A
as_answer (Ok a) = value a
as_answer (Err r) = refusal (number_of r.reason) r.place
