-- Lines with fields: in a template the bytes 0 to 3 (ASCII) stand for the names of four fields, and 4 to 7 for their numerals.
use Rattle.std.specs.Prelude.{ℕ, ◌-◌, List, [], ◌∷◌, ◌++◌, ltb, get_or}
use Rattle.base.specs.Choice.{pick}
use Rattle.text.specs.Numerals.{numeral}
use Rattle.text.specs.Names.{name_text}

-- What a byte of a template stands for.
unfoldable pub part : ℕ → List ℕ → List ℕ
part c fields =
    pick (ltb c 48) (λ _. c ∷ []) λ _. pick (ltb c 52) (λ _. name_text (get_or fields (c - 48) 0)) λ _.
    pick (ltb c 56) (λ _. numeral (get_or fields (c - 52) 0)) λ _. c ∷ []

-- The template with the fields in their places.
unfoldable pub filled_in : List ℕ → List ℕ → List ℕ
filled_in [] fields = []
filled_in (c ∷ template) fields = part c fields ++ filled_in template fields
