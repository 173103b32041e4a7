-- The widths and limits of an edition of packed traces, models and pairs (SPEC 1.3, 2.2, 2.3, 7.4, 10.6; document 01).
-- The widths of fields and the most registers and functions stand here alone.
use Rattle.std.specs.Prelude.{ℕ, List, [], ◌∷◌}

pub record Edition : Type 0 where
  -- the most registers and functions that a header may have
  pub registers : ℕ
  pub functions : ℕ
  -- the bytes of a unit: a header or a letter
  pub bytes : ℕ
  -- the widths of a header's fields: those of `lead`, then registers, functions, arity, spare
  pub header : List ℕ
  -- the values of the fields that every header begins with
  pub lead : List ℕ
  -- the widths of a letter's fields: kind, function, target, first, second, spare
  pub letter : List ℕ
  -- the widths of the fields of a model's row: the function, each of its three values, spare
  pub row_function : ℕ
  pub row_value : ℕ
  pub row_spare : ℕ
  -- the bytes of a pair in a lent table
  pub pair_bytes : ℕ

-- "Registers: 1 to 8. Functions: 0 to 4." (SPEC 1.3) "Pair number k lies in bytes 192 times k onward." (SPEC 10.6)
-- "Header, 16 bits: registers 4, functions 3, arity 4, spare 5. Letter, 16 bits: kind 2, function 2, target 3, first 3, second 3, spare 3." (SPEC 2.2, 2.3)
-- "Rows of 40 bits: function 2, argument 11, argument 11 (0 for one argument), result 11, spare 5." (SPEC 7.4)
abbrev pub first_edition : Edition
first_edition = record {
  registers = 8;
  functions = 4;
  bytes = 2;
  header = 4 ∷ 3 ∷ 4 ∷ 5 ∷ [];
  lead = [];
  letter = 2 ∷ 2 ∷ 3 ∷ 3 ∷ 3 ∷ 3 ∷ [];
  row_function = 2;
  row_value = 11;
  row_spare = 5;
  pair_bytes = 192;
}

-- "The whole-trace engine takes at most 1,024 letters; the monitor has no limit." (SPEC 1.3)
abbrev pub most_letters : ℕ
most_letters = 1024

-- "Registers: 1 to 8. Functions: 0 to 4." (SPEC 1.3) Those of the edition, by name.
abbrev pub most_registers : ℕ
most_registers = first_edition.registers

abbrev pub most_functions : ℕ
most_functions = first_edition.functions
