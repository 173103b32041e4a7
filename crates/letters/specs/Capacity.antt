-- N, the number of pairs that a lent table holds (SPEC 10.6; document 01).
use Rattle.std.specs.Prelude.{ℕ, ◌/◌, min}
use Rattle.letters.specs.Editions.{Edition}

-- "The table holds N pairs: the lesser of 1,024 and the lent bytes divided by 192, rounded down." (SPEC 1.3, 10.6)
abbrev pub most_pairs : ℕ
most_pairs = 1024

-- N of a table of so many bytes (SPEC 10.6).
unfoldable pub capacity_of : Edition → ℕ → ℕ
capacity_of e bytes = min most_pairs (bytes / e.pair_bytes)
