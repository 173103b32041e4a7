-- The layout of a window: for how many registers and functions it has entries. The definitions and laws hold for every layout of
-- ρ registers and φ functions; the code, and what is built on it, has the first edition's.
use Rattle.std.specs.Prelude.{ℕ, ◌*◌}
use Rattle.letters.specs.Editions.{first_edition}

abbrev pub registers : ℕ
registers = first_edition.registers

abbrev pub functions : ℕ
functions = first_edition.functions

-- the entries of a table by pairs of registers, by functions and registers, and of the table of results
abbrev pub register_pairs : ℕ
register_pairs = registers * registers

abbrev pub lines : ℕ
lines = functions * registers

abbrev pub results : ℕ
results = functions * registers * registers

-- how many bits a word of flags has
abbrev pub word_bits : ℕ
word_bits = 64
