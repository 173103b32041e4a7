-- One code for each entry of the table of results: 0 if the application was never computed, 1 if it was and no register holds its result,
-- and else 2 + the name of the class that holds it. "A class is named by its lowest-numbered register" (SPEC 5.1; document 01).
use Rattle.std.specs.Prelude.{ℕ, zero, suc, ◌+◌, ◌*◌, ◌/◌, ◌%◌, List, [], ◌∷◌, ◌++◌, eqb, get_or, take, drop, replicate}
use Rattle.base.specs.Choice.{pick}
use Rattle.base.specs.Masks.{bit}
use Rattle.base.specs.LeastAndSize.{least_in}
use Rattle.letters.specs.Packing.{join, split}

-- The code of an entry that the class `mask` of n registers holds, or no register if it is 0; `computed` is 1 if it was ever computed, and else 0.
unfoldable pub code_of : ℕ → ℕ → ℕ → ℕ
code_of n mask computed = pick (eqb mask 0) (λ _. computed) λ _. 2 + least_in n mask

-- The code of entry i, where line j of `ever` has one bit for each of n entries.
abbrev pub code_at : ℕ → List ℕ → List ℕ → ℕ → ℕ
code_at n result ever i = code_of n (get_or result i 0) (bit (get_or ever (i / n) 0) (i % n))

-- The class that a code stands for: none for 0 and 1, and then the classes by name.
unfoldable pub class_of_code : List ℕ → ℕ → ℕ
class_of_code class c = get_or (0 ∷ 0 ∷ class) c 0

-- Whether a code says that the application was ever computed: 1 or 0.
unfoldable pub computed_of : ℕ → ℕ
computed_of c = pick (eqb c 0) (λ _. 0) λ _. 1

-- The number with the bits f i, f (i + 1) and so on, k of them, the lowest first.
unfoldable pub assembled : (ℕ → ℕ) → ℕ → ℕ → ℕ
assembled f i zero = 0
assembled f i (suc k) = f i + 2 * assembled f (suc i) k

-- ---- several codes in one number, the first in the most significant bits

-- n numbers, each made of g codes of k bits.
unfoldable pub gathered : ℕ → ℕ → ℕ → List ℕ → List ℕ
gathered g k zero codes = []
gathered g k (suc n) codes = join (replicate g k) (take g codes) ∷ gathered g k n (drop g codes)

-- The codes in these numbers.
unfoldable pub scattered : ℕ → ℕ → List ℕ → List ℕ
scattered g k [] = []
scattered g k (n ∷ ns) = split (replicate g k) n ++ scattered g k ns
