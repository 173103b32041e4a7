-- The search as a function: a verdict exists.
use mathlib.Core.Path.{◌≡◌, refl}
use mathlib.Core.Logic.{◌⊎◌, inl, inr}
use mathlib.Core.List.{List}
use mathlib.Core.Option.{Option, none, some}
use Prim.Native.Nat.{ℕ, suc, ◌+◌, ◌≤◌, ◌<◌}
use native.Mathlib.Omega.{arith}
use Rattle.letters.specs.Editions.{Edition}
use Rattle.macros.proofs.Theory.Numbers.{less_or}
use Rattle.macros.specs.Order.{first}
use Rattle.verdict_theory.proofs.Theory.Listing.{Listing}
use Rattle.verdict_theory.proofs.Theory.Listing.{begins_none, begins_one, listed_more}
use Rattle.verdict_theory.specs.Verdict.{full}
use Rattle.verdict_theory.proofs.Theory.Pairs.{Setting, Pair, starting, stepping}
use Rattle.verdict_theory.proofs.Theory.Answers.{answers_full}
use Rattle.verdict_theory.proofs.Theory.EventAnswer as answer
use Rattle.verdict_theory.proofs.Theory.SearchFrom as searching

module _ (x : Setting) (edition : Edition) (n : ℕ) (output : List ℕ) (same : (s t : Pair x) → Dec (s ≡ t)) where
  abbrev Answered : Type 0
  Answered = answer.Answered x edition n output

  -- A verdict.
  pub search_answer : Answered
  search_answer = go (starting x) refl
    where
      none_listed : Listing (Pair x)
      none_listed = record { count = 0; state = λ j. (0, x.fresh); parent = λ j. 0; branch = λ j. first }

      one_listed : Pair x → Listing (Pair x)
      one_listed s = record { count = 1; state = λ j. s; parent = λ j. 0; branch = λ j. first }

      begin_at : (s : Pair x) → starting x ≡ some s → (0 < n) ⊎ (n ≤ 0) → Answered
      begin_at s e (inl l) = searching.search_from x edition n output same (suc (n + n)) 0 (omega arith)
          (record {
            listing = one_listed s;
            searching = begins_one (starting x) (stepping x) (one_listed s) s e refl refl;
            fits = omega arith;
            within =
                omega arith;
          }) 0 first refl
      begin_at s e (inr l) = (
        full,
        output,
        answers_full x edition n output
            (listed_more (starting x) (stepping x) (one_listed s) 0 n (begins_one (starting x) (stepping x) (one_listed s) s e refl refl) (omega arith)),
      )

      go : (o : Option (Pair x)) → starting x ≡ o → Answered
      go none e = searching.search_from x edition n output same (suc (n + n)) 0 (omega arith)
          (record { listing = none_listed; searching = begins_none (starting x) (stepping x) none_listed e refl; fits = omega arith; within = omega arith }) 0
          first refl
      go (some s) e = begin_at s e (less_or 0 n)
