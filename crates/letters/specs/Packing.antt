-- Fields packed into a number, most significant bit first, over any widths (SPEC 2.1; document 01: "Fields are packed most significant bit first").
use Rattle.std.specs.Prelude.{ℕ, ◌+◌, ◌*◌, ◌/◌, ◌%◌, ◌^◌, ◌<◌, List, [], ◌∷◌}

-- the bits of all the fields together
abbrev pub total : List ℕ → ℕ
total [] = 0
total (k ∷ widths) = k + total widths

-- Each value lies below 2 to its width, and there is a value for each width.
abbrev pub Sized : List ℕ → List ℕ → Type 0
Sized [] [] = Unit {0}
Sized [] (v ∷ values) = ⊥
Sized (k ∷ widths) [] = ⊥
Sized (k ∷ widths) (v ∷ values) = (v < 2 ^ k) × Sized widths values

-- the number that values of these widths make, the first value in the most significant bits (SPEC 2.1)
abbrev pub join : List ℕ → List ℕ → ℕ
join [] values = 0
join (k ∷ widths) [] = 0
join (k ∷ widths) (v ∷ values) = v * 2 ^ total widths + join widths values

-- the values of the fields of these widths in a number
abbrev pub split : List ℕ → ℕ → List ℕ
split [] n = []
split (k ∷ widths) n = n / 2 ^ total widths % 2 ^ k ∷ split widths n
