-- One move of the search.
use mathlib.Core.Path.{◌≡◌, refl, subst}
use mathlib.Core.Logic.{◌⊎◌, inl, inr, ◌≢◌}
use mathlib.Core.List.{List}
use Prim.Native.Nat.{ℕ, zero, suc, ◌+◌, ◌≤◌, ◌<◌}
use native.Mathlib.Omega.{arith}
use Rattle.letters.specs.Editions.{Edition}
use Rattle.macros.proofs.Theory.Numbers.{less_or}
use Rattle.macros.specs.Order.{Branch, Before}
use Rattle.verdict_theory.specs.Count.{More}
use Rattle.verdict_theory.proofs.Theory.System.{stop, event, next, Leads, LeadAlike, Meets}
use Rattle.verdict_theory.proofs.Theory.Listing.{Listing, turn, turn_above, Searching, extend as extend_listing, extends}
use Rattle.verdict_theory.proofs.Theory.Listing.{passes, meets, grows, new_more}
use Rattle.verdict_theory.specs.Verdict.{full}
use Rattle.verdict_theory.proofs.Theory.Pairs.{Setting, Pair, starting, stepping}
use Rattle.verdict_theory.proofs.Theory.Moves.{Step}
use Rattle.verdict_theory.proofs.Theory.Answers.{answers_full}
use Rattle.verdict_theory.proofs.Theory.EventAnswer as answer

-- a state that is listed below k, or none
find : {S : Type 0} (same : (x y : S) → Dec (x ≡ y)) (f : ℕ → S) (s : S) (k : ℕ) → ((j : ℕ) × (j < k) × (f j ≡ s)) ⊎ ((j : ℕ) → j < k → f j ≢ s)
find same f s zero = inr (λ j l. absurd (omega arith))
find same f s (suc k) = go (find same f s k) (same (f k) s)
  where
    go : ((j : ℕ) × (j < k) × (f j ≡ s)) ⊎ ((j : ℕ) → j < k → f j ≢ s) → Dec (f k ≡ s) → ((j : ℕ) × (j < suc k) × (f j ≡ s)) ⊎ ((j : ℕ) → j < suc k → f j ≢ s)
    go (inl (j, l, e)) d = inl (j, omega arith, e)
    go (inr u) (yes e) = inl (k, omega arith, e)
    go (inr u) (no v) = inr (λ j l. elim (less_or j k) [ inl w ↦ u j w | inr w ↦ λ e. v (let g : j ≡ k = omega arith in subst (λ x. f x ≡ s) g e) ])

module _ (x : Setting) (edition : Edition) (n : ℕ) (output : List ℕ) (same : (s t : Pair x) → Dec (s ≡ t)) where
  abbrev Answered : Type 0
  Answered = answer.Answered x edition n output

  -- one move: an answer, or the listing before the next move
  pub record Onward (d : ℕ) : Type 0 where
    pub listing : Listing (Pair x)
    pub searching : Searching (starting x) (stepping x) listing d
    pub fits : listing.count ≤ n
    pub within : d ≤ listing.count + listing.count

  pub one_move : (t : Listing (Pair x)) (i : ℕ) (b : Branch) → Searching (starting x) (stepping x) t (turn i b) → i < t.count → t.count ≤ n
      → Answered ⊎ Onward (suc (turn i b))
  one_move t i b v l u = go (stepping x (t.state i) b) refl
    where
      above : turn i b < t.count + t.count
      above = turn_above i t.count b l

      new : (s : Pair x) → stepping x (t.state i) b ≡ next s → ((j : ℕ) → j < t.count → t.state j ≢ s) → (t.count < n) ⊎ (n ≤ t.count)
          → Answered ⊎ Onward (suc (turn i b))
      new s e w (inl f) =
          let y = extends t s i b in
          inr (record {
            listing = extend_listing t s i b;
            searching = grows (starting x) (stepping x) t i b s (extend_listing t s i b) v l e w y;
            fits = omega (arith, y.count);
            within = omega (arith, y.count, above);
          })
      new s e w (inr f) =
          let g : t.count ≡ n = omega arith in
          inl (
            full,
            output,
            answers_full x edition n output
                (subst (More Before (Leads (starting x) (stepping x)) (LeadAlike (starting x) (stepping x)) (Meets (starting x) (stepping x))) g
                (new_more (starting x) (stepping x) t i b s v l e w)),
          )

      seen : (s : Pair x) → stepping x (t.state i) b ≡ next s → ((j : ℕ) × (j < t.count) × (t.state j ≡ s)) ⊎ ((j : ℕ) → j < t.count → t.state j ≢ s)
          → Answered ⊎ Onward (suc (turn i b))
      seen s e (inl (j, k, f)) = inr (record
          { listing = t; searching = meets (starting x) (stepping x) t i b s j v e k f; fits = u; within = omega (arith, above) })
      seen s e (inr w) = new s e w (less_or t.count n)

      go : (r : Step x.Window) → stepping x (t.state i) b ≡ r → Answered ⊎ Onward (suc (turn i b))
      go stop e = inr (record { listing = t; searching = passes (starting x) (stepping x) t i b v e; fits = u; within = omega (arith, above) })
      go (event k) e = inl (answer.at_event x edition n output t i b v l u k e)
      go (next s) e = seen s e (find same t.state s t.count)
