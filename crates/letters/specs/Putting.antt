-- How a word gets into the output.
use Rattle.std.specs.Prelude.{ℕ, ◌+◌, ◌/◌, ◌%◌, List, set}

-- a word of two bytes at a place (SPEC 2.1)
abbrev pub put_word : List ℕ → ℕ → ℕ → List ℕ
put_word out at w = set (set out at (w / 256)) (at + 1) (w % 256)
