-- What follows from the definitions of specs/Searched.antt.
use mathlib.Core.Path.{◌≡◌, sym, subst}
use mathlib.Core.List.{List}
use Prim.Native.Nat.{ℕ, ◌*◌, ◌≤◌}
use lib.Dec.{eqb}
use lib.ListN.{length}
use borrow.Author.Tests.{eqb-true}
use Rattle.letters.specs.Capacity.{most_pairs}
use Rattle.base.proofs.Theory.Choice.{by_test}
use Rattle.letters.specs.Editions.{Edition}
use Rattle.semantics.specs.Terms.{begin}
use Rattle.semantics.specs.Models.{Feasible}
use Rattle.verdict_theory.specs.Verdict.{VerdictAnswer, breaking, failing, IsVerdict}
use Rattle.records.specs.Records.{record_bytes}
use Rattle.std.specs.Prelude.{Result, Ok, Err}
use Rattle.exploration.specs.declared.Stop.{Stop}
use Rattle.exploration.specs.declared.Stop.TheVariants.{Full, Breaking, Failing}
use Rattle.exploration.specs.Exploring.{search_of}
use Rattle.exploration.specs.Given.{Given}
use Rattle.exploration.proofs.Theory.Given.{header, body, end, held}
use Rattle.exploration.proofs.Theory.Explored.{SearchEnded}
use Rattle.exploration.proofs.Theory.Ending.{search_ended, search_empty}
use Rattle.search.proofs.Theory.Concluded.{concluded_full, concluded_pass, concluded_empty, concluded_event}
use Rattle.search.specs.Searched.{SearchAnswered}

module _ (given : Given) (n : ℕ) where
  module _ (edition : Edition) (output : List ℕ) where
    abbrev Right : VerdictAnswer → List ℕ → Type 0
    Right a o = IsVerdict Feasible (begin (header given)) (body given) edition n output a o

    -- an answer and an output that are known
    same_right : {a b : VerdictAnswer} {o p : List ℕ} → (a ≡ b) × (o ≡ p) → Right b p → Right a o
    same_right {a} {b} {o} {p} (e, f) r = subst (λ x. Right x o) (sym e) (subst (Right b) (sym f) r)

    ended_told : (r : Result ℕ Stop) (u : List ℕ) → SearchEnded given n r u → (answer : VerdictAnswer) (output' : List ℕ)
        → SearchAnswered (header given) (held given) edition output r u answer output' → Right answer output'
    ended_told (Err Full) u y answer output' e = same_right e (concluded_full given edition n output y)
    ended_told (Ok k) u y answer output' e = same_right e (concluded_pass given edition n output k u y)
    ended_told (Err (Breaking k d)) u y answer output' z = concluded_event given n breaking k d u y edition output answer output' z
    ended_told (Err (Failing k d)) u y answer output' z = concluded_event given n failing k d u y edition output answer output' z

  module _ (t : List ℕ) (most : n ≤ most_pairs) (room : record_bytes * n ≤ length t) where
    abbrev ending : Result ℕ Stop × List ℕ
    ending = search_of (header given) (held given) (end given) n t

    -- The whole search.
    pub search_verdict : (edition : Edition) (output : List ℕ) (answer : VerdictAnswer) (output' : List ℕ)
        → SearchAnswered (header given) (held given) edition output (search_of (header given) (held given) (end given) n t).0
        (search_of (header given) (held given) (end given) n t).1 answer output'
        → IsVerdict Feasible (begin (header given)) (body given) edition n output answer output'
    search_verdict edition output answer output' = by_test (eqb (end given) 0)
        (λ e. rw (search_empty given n t most room e) λ y. same_right edition output y
        (concluded_empty given edition n output (eqb-true (end given) 0 e)))
        (λ e y. ended_told edition output ending.0 ending.1 (search_ended given n t most room e) answer output' y)
