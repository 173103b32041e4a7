-- The answer where the search meets an event.
use mathlib.Core.Path.{◌≡◌, ap, ◌∙◌}
use mathlib.Core.List.{List}
use Prim.Native.Nat.{ℕ, ◌≤◌, ◌<◌}
use lib.ListN.{length}
use Rattle.semantics.specs.Terms.{Trace}
use Rattle.letters.specs.Editions.{Edition}
use Rattle.semantics.specs.Models.{Feasible}
use Rattle.macros.specs.Order.{Branch, Path, ◌▹◌}
use Rattle.macros.specs.Walk.{Place, failure, stand}
use Rattle.macros.proofs.Theory.Walk.{walk_begins}
use Rattle.macros.specs.Points.{points, entrance, moves_at, run}
use Rattle.verdict_theory.proofs.Theory.System.{event}
use Rattle.verdict_theory.proofs.Theory.Listing.{Listing, turn, path, Searching}
use Rattle.verdict_theory.proofs.Theory.Listing.{event_first}
use Rattle.verdict_theory.proofs.Theory.Since.{since}
use Rattle.verdict_theory.specs.Verdict.{VerdictAnswer, Kind, breaking, failing, showing, IsVerdict}
use Rattle.verdict_theory.specs.AnswerPacking.{packed}
use Rattle.verdict_theory.proofs.Theory.Pairs.{Setting, Pair, starting, stepping, leads, meets_breaking, meets_failing}
use Rattle.verdict_theory.proofs.Theory.Answers.{answers_event}
use Rattle.verdict_theory.proofs.Theory.Fitted.{fitted}

module _ (x : Setting) (edition : Edition) (n : ℕ) (output : List ℕ) where
  abbrev pub Answered : Type 0
  Answered = (a : VerdictAnswer) × (output' : List ℕ) × IsVerdict Feasible x.start x.body edition n output a output'

  met_at : (kind : Kind) (p : Path) → leads x p ≡ event kind → (ρ : Trace) × (l : Place ℕ) × (run x.start x.body p ≡ stand l ρ)
  met_at breaking p e = let (ρ, l, u, b) = meets_breaking x p e in (ρ, l, u)
  met_at failing p e = let (ρ, u, c, f) = meets_failing x p e in (ρ, failure, u)

  pub at_event : (t : Listing (Pair x)) (i : ℕ) (b : Branch) → Searching (starting x) (stepping x) t (turn i b) → i < t.count → t.count ≤ n → (kind : Kind)
      → stepping x (t.state i) b ≡ event kind
      → Answered
  at_event t i b v l u kind e =
      let (ρ, k, w) = met_at kind (path t i ▹ b) (event_first (starting x) (stepping x) t i b v l kind e).happens in
      let (ls, f) = since (walk_begins (moves_at (points x.body)) (entrance x.body) x.start (path t i ▹ b) k ρ w) in
      let (a, o, g) = fitted (packed edition x.start kind ls) (showing kind t.count (length ls)) output in
      (a, o, answers_event x edition n output t i b v l u kind e k ls (w ∙ ap (stand k) f) a o g)
