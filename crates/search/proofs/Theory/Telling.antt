-- What is told of a search is the verdict.
use mathlib.Core.Path.{◌≡◌, sym, subst}
use mathlib.Core.List.{List}
use Prim.Native.Nat.{ℕ}
use native.Mathlib.Omega.{arith}
use lib.ListN.{length}
use Rattle.letters.specs.Editions.{first_edition}
use Rattle.letters.specs.Capacity.{capacity_of}
use Rattle.letters.specs.declared.reasons.Refused.{Refused}
use Rattle.std.specs.Prelude.{Result}
use Rattle.letters.proofs.Theory.CapacityLaws.{capacity_fits}
use Rattle.semantics.specs.Terms.{begin}
use Rattle.semantics.specs.Models.{Feasible}
use Rattle.syntax.specs.declared.CompiledMacro as struct
use Rattle.syntax.specs.Answer.{held_macro}
use Rattle.verdict_theory.specs.Verdict.{IsVerdict}
use Rattle.verdict_theory.specs.Demand3.{pairs_in}
use Rattle.exploration.specs.Given.{Given}
use Rattle.exploration.proofs.Theory.Given.{header, body}
use Rattle.search.specs.declared.Verdict as answer
use Rattle.search.specs.Answering.{answer_of}
use Rattle.search.specs.MacroSearch.{Tells}
use Rattle.search.proofs.Theory.MacroSearch.{capacity_most}
use Rattle.search.proofs.Theory.Searched.{search_verdict}

module _ (program : struct.CompiledMacro) (given : Given) (holds : held_macro given.macro ≡ program) (t : List ℕ) where
  pub tells_verdict : (output : List ℕ) (r : Result answer.Verdict Refused) (output' : List ℕ) → Tells program t output r output'
      → IsVerdict Feasible (begin (header given)) (body given) first_edition (pairs_in first_edition t) output (answer_of r) output'
  unfolding held_macro capacity_of
  tells_verdict output r output' y =
      search_verdict given (capacity_of first_edition (length t)) t (capacity_most (length t))
      (capacity_fits first_edition (omega arith) (length t)) first_edition output (answer_of r) output'
      (subst (λ p. Tells p t output r output') (sym holds) y)
