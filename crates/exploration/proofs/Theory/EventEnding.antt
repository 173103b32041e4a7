-- How a search ends that does not end without a point.
use mathlib.Core.Path.{◌≡◌, sym, ap, ◌∙◌, subst}
use mathlib.Core.Logic.{◌≢◌}
use mathlib.Core.List.{List}
use Prim.Native.Nat.{ℕ, ◌*◌, ◌≤◌}
use lib.Dec.{eqb}
use lib.ListN.{length}
use Rattle.letters.specs.Capacity.{most_pairs}
use Rattle.base.proofs.Theory.Choice.{by_test}
use Rattle.records.specs.Records.{record_bytes}
use Rattle.std.specs.Prelude.{Result, Ok}
use Rattle.exploration.specs.declared.Stop.{Stop}
use Rattle.exploration.specs.Exploring.{search_of}
use Rattle.exploration.specs.Given.{Given}
use Rattle.exploration.proofs.Theory.Given.{header, end, held}
use Rattle.exploration.proofs.Theory.Explored.{SearchEnded}
use Rattle.exploration.proofs.Theory.Ending.{search_ended, search_empty}

module _ (given : Given) (n : ℕ) (t : List ℕ) (most : n ≤ most_pairs) (room : record_bytes * n ≤ length t) where
  abbrev ending : Result ℕ Stop × List ℕ
  ending = search_of (header given) (held given) (end given) n t

  -- A search that ends otherwise than without a point.
  pub search_event : (r : Result ℕ Stop) → (search_of (header given) (held given) (end given) n t).0 ≡ r → ◌≢◌ {A = Result ℕ Stop} r (Ok 0)
      → SearchEnded given n r (search_of (header given) (held given) (end given) n t).1
  search_event r e other = by_test (eqb (end given) 0)
      (λ f. absurd (other (sym e ∙ ap (λ x. x.0) (search_empty given n t most room f))))
      (λ f. subst (λ r. SearchEnded given n r ending.1) e (search_ended given n t most room f))
