-- What a move of the search leads to.
use mathlib.Core.Bool.{Bool, true, false}
use mathlib.Core.List.{List}
use mathlib.Core.Option.{Option, none, some}
use Prim.Native.Nat.{ℕ}
use lib.Dec.{ltb}
use Rattle.letters.specs.declared.Letter.{Letter}
use Rattle.macros.specs.Order.{Branch}
use Rattle.macros.specs.Walk.{Place, at, failure, Move, no_move, move}
use Rattle.macros.specs.Points.{Point, moves_at}
use Rattle.verdict_theory.proofs.Theory.System.{BranchResult, stop, event, next}
use Rattle.verdict_theory.specs.Verdict.{Kind, breaking, failing}

abbrev pub Step : Type 0 → Type 0
Step W = BranchResult (ℕ × W) Kind

module _ {W : Type 0} (perform : W → Letter → Option W) (infeasible : W → Bool) (n : ℕ) where
  -- a point that is reached with the window w: a pair, unless it is the end
  abbrev pub reach : ℕ → W → Step W
  reach k w = elim (ltb k n) [ true ↦ next (k, w) | false ↦ stop ]

  -- "Infeasible executions are followed too." At a failure they are no event.
  abbrev pub reached : Place ℕ → W → Step W
  reached (at k) w = reach k w
  reached failure w = elim (infeasible w) [ true ↦ stop | false ↦ event failing ]

  abbrev pub performed : Place ℕ → Option W → Step W
  performed l none = event breaking
  performed l (some w) = reached l w

  abbrev pub moving : W → Move ℕ → Step W
  moving w no_move = stop
  moving w (move a l) = performed l (perform w a)

  -- What a branch at a pair leads to, the macro's points being ps.
  abbrev pub pair_moves : List Point → ℕ × W → Branch → Step W
  pair_moves ps s b = moving s.1 (moves_at ps s.0 b)
