-- The limits of the whole-trace engine (SPEC 1.3; document 01: "Registers: 1 to 8. Functions: 0 to 4"; "The whole-trace engine takes at most 1,024 letters").
use Rattle.std.specs.Prelude.{ℕ, ◌+◌, ◌*◌}
use Rattle.letters.specs.Editions.{most_letters, most_registers, most_functions}

-- The computed terms: one for each letter at most, and the registers' initial constants.
abbrev pub most_terms : ℕ
most_terms = most_letters + most_registers

-- The chains of the index. No promise rests on how applications spread over them.
abbrev pub signature_chains : ℕ
signature_chains = 1021

-- What the classes of the arguments count in a signature, whose function counts 1. A class is below 1,032 and so below 1,056: different signatures have
-- different numbers.
abbrev pub signature_second_factor : ℕ
signature_second_factor = most_functions

abbrev pub signature_first_factor : ℕ
signature_first_factor = 1056 * signature_second_factor
