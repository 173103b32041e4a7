-- What follows from the definitions of specs/Given.antt.
use mathlib.Core.Path.{◌≡◌, refl, sym, ap, ◌∙◌}
use mathlib.Core.List.{List, map}
use Prim.Native.Nat.{ℕ, ◌-◌, ◌%◌, ◌<◌}
use native.Mathlib.Omega.{arith}
use lib.ListN.{length, get_or}
use Rattle.letters.specs.declared.Header.{Header}
use Rattle.grammar.specs.Limits.{most_points}
use Rattle.semantics.specs.Terms.{begin}
use Rattle.macros.proofs.Theory.Runs.{within_list}
use Rattle.macros.specs.Tree.{Block}
use Rattle.macros.specs.Points as points
use Rattle.macros.specs.Points.{size_block, moved, moves_at}
use Rattle.macros.proofs.Theory.Points.{compile_block_length}
use Rattle.macros.proofs.Theory.Fitting.{FitsMove, points_fit}
use Rattle.macros.specs.Order.{Branch}
use Rattle.grammar.specs.Grammar.{header_of, expanded}
use Rattle.grammar.proofs.Theory.Expanded.{expanded_fits}
use Rattle.grammar.proofs.Theory.Hidden.{registers_within}
use Rattle.blocks.specs.declared.PointEntry.{PointEntry}
use Rattle.blocks.specs.Held.{unused_point, held_point, point_table}
use Rattle.verdict_theory.proofs.Theory.Pairs.{Setting}
use Rattle.window.specs.declared.Window.{Window}
use Rattle.window.specs.Perform.{fresh_of}
use Rattle.window.specs.Step.{IsWindow}
use Rattle.exploration.specs.Moves.{move_of}
use Rattle.exploration.proofs.Theory.Store.{branch_numbered}
use Rattle.exploration.specs.HeldPoints.{meant}
use Rattle.exploration.proofs.Theory.HeldPoints.{branch_meant, held_at}
use Rattle.exploration.proofs.Theory.Watching.{performing, infeasible_in, watches}
use Rattle.exploration.specs.Given.{Given}

-- a place within a list
module _ (given : Given) where
  abbrev pub header : Header
  header = header_of given.macro

  abbrev pub body : Block
  body = expanded given.macro

  -- the number of the end: that of the points
  abbrev pub end : ℕ
  end = size_block (expanded given.macro)

  -- the points as the reader holds them
  abbrev pub held : List PointEntry
  held = point_table (map held_point (points.points (expanded given.macro)))

  -- the window at the start
  abbrev pub fresh : Window
  fresh = fresh_of (header_of given.macro).registers

  abbrev pub setting : Setting
  setting = record {
    header = header_of given.macro;
    start = begin (header_of given.macro);
    formed = (tt, refl);
    coherent = tt;
    body = expanded given.macro;
    proper = expanded_fits given.macro given.in_order;
    Window = Window;
    Tracks = IsWindow;
    fresh = fresh_of (header_of given.macro).registers;
    perform = performing;
    infeasible = infeasible_in;
    monitor = watches (header_of given.macro) (registers_within given.macro given.in_order) given.in_order.fewer;
  }

  -- the branches that are held are the macro's
  pub branch_held : (k b : ℕ) → k < end → meant (move_of (get_or held (k % most_points) unused_point) b) ≡ moves_at (points.points body) k (branch_numbered b)
  branch_held k b l =
      let (x, e) = within_list (points.points body) k (omega (arith, compile_block_length body 0 end)) in
      let f : k % most_points ≡ k = omega (arith, given.few) in
      ap (λ y. meant (move_of y b)) (ap (λ z. get_or held z unused_point) f
      ∙ held_at (points.points body) (most_points - length (map held_point (points.points body))) k x e)
      ∙ branch_meant x b ∙ ap (λ o. moved o (branch_numbered b)) (sym e)

  -- their letters fit
  pub moves_fit : (k : ℕ) (b : Branch) → FitsMove (header_of given.macro) (moves_at (points.points (expanded given.macro)) k b)
  moves_fit = points_fit header body (expanded_fits given.macro given.in_order)
