-- How many registers are hidden behind the declared ones.
use mathlib.Core.Path.{◌≡◌}
use Prim.Native.Nat.{ℕ, ◌+◌}
use mathlib.Core.List.{List, [], ◌∷◌, ◌++◌}
use lib.ListN.{length, length-append}
use lib.Dec.{ltb}
use Rattle.base.proofs.Theory.Choice.{by_test}
use Rattle.tokens.specs.Words as word
use Rattle.grammar.specs.Grammar.{hidden}
use Rattle.syntax.specs.Top.{hidden_count}

-- the hidden registers are so many
pub hidden_length : (l : List ℕ) (m k : ℕ) → length (l ++ hidden m k) ≡ length l + hidden_count m k
hidden_length l m k = by_test (ltb m k) (λ t. rw t (length-append l (word.result_key ∷ word.truth_key ∷ []))) λ t. rw t (length-append l [])
