-- The search from a move on.
use mathlib.Core.Path.{◌≡◌, subst}
use mathlib.Core.Logic.{◌⊎◌, inl, inr}
use mathlib.Core.List.{List}
use Prim.Native.Nat.{ℕ, zero, suc, ◌+◌, ◌≤◌, ◌<◌}
use native.Mathlib.Omega.{arith}
use Rattle.letters.specs.Editions.{Edition}
use Rattle.macros.proofs.Theory.Numbers.{less_or}
use Rattle.macros.specs.Order.{Branch}
use Rattle.verdict_theory.proofs.Theory.Listing.{turn, turn_from, turn_next, Searching}
use Rattle.verdict_theory.specs.Verdict.{pass}
use Rattle.verdict_theory.proofs.Theory.Pairs.{Setting, Pair, starting, stepping}
use Rattle.verdict_theory.proofs.Theory.Answers.{answers_pass}
use Rattle.verdict_theory.proofs.Theory.EventAnswer as answer
use Rattle.verdict_theory.proofs.Theory.OneMove as moves

module _ (x : Setting) (edition : Edition) (n : ℕ) (output : List ℕ) (same : (s t : Pair x) → Dec (s ≡ t)) where
  abbrev Answered : Type 0
  Answered = answer.Answered x edition n output

  abbrev Onward : ℕ → Type 0
  Onward = moves.Onward x edition n output same

  -- the search from move number d on
  pub search_from : (fuel d : ℕ) → n + n < fuel + d → Onward d → (i : ℕ) (b : Branch) → d ≡ turn i b → Answered
  search_from zero d f y i b e = let w = y.within in let u = y.fits in absurd (omega arith)
  search_from (suc fuel) d f y i b e =
      go (λ z. let (j, c, g) = turn_next i b in search_from fuel (suc (turn i b)) (omega arith) z j c g) (less_or i y.listing.count)
    where
      go : (Onward (suc (turn i b)) → Answered) → (i < y.listing.count) ⊎ (y.listing.count ≤ i) → Answered
      go ih (inl l) = elim (moves.one_move x edition n output same y.listing i b (subst (Searching (starting x) (stepping x) y.listing) e y.searching) l y.fits)
          [ inl a ↦ a | inr z ↦ ih z ]
      go ih (inr l) =
          let k : y.listing.count + y.listing.count ≤ turn i b = turn_from i y.listing.count b l in
          let g : d ≡ y.listing.count + y.listing.count = (let w = y.within in omega arith) in (
            pass y.listing.count,
            output,
            answers_pass x edition n output y.listing (subst (Searching (starting x) (stepping x) y.listing) g y.searching) y.fits,
          )
