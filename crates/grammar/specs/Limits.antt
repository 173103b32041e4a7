-- The limits of a macro's text (SPEC 1.3; document 01). Those of its registers and functions are the edition's (Rattle.letters.specs.Editions).
use Rattle.std.specs.Prelude.{ℕ}

-- "A macro has at most 4,096 bytes and 256 points." (SPEC 1.3)
abbrev pub longest_text : ℕ
longest_text = 4096

abbrev pub most_points : ℕ
most_points = 256

-- "Braces nest at most 16 deep." (SPEC 1.3, 8.5)
abbrev pub deepest_nesting : ℕ
deepest_nesting = 16

-- "the hidden register `result`", "the hidden register `truth`" (document 02, request 4): so many follow the declared ones where tests are declared.
abbrev pub hidden_registers : ℕ
hidden_registers = 2
