-- Examples: two loops and their executions, traces that are none, and the points of three macros.
use mathlib.Core.Path.{◌≡◌, refl, sym, ap, ◌∙◌}
use mathlib.Core.Logic.{inl, inr}
use mathlib.Core.List.{[], ◌∷◌}
use Prim.Native.Nat.{ℕ}
use native.Mathlib.Omega.{arith}
use Rattle.letters.specs.declared.Letter.{Letter}
use Rattle.letters.specs.declared.Letter.TheVariants.{Copy, Apply, Equal, Unequal}
use Rattle.semantics.specs.Terms.{Trace, ◌▸◌}
use Rattle.macros.specs.Tree.{equal, unequal, skip, perform, assert, if, while, while_after, present, Block, empty, ◌then◌}
use Rattle.macros.specs.WrittenOut.{statement_before, written_out}
use Rattle.macros.specs.Executions.{Partial, Complete, Failing, Exec, ExecBlock, whole, before}
use Rattle.macros.proofs.Theory.Executions.{block_begins}
use Rattle.macros.specs.Order.{Branch, first, second, Path, root, ◌▹◌, Before}
use Rattle.macros.specs.Walk.{Place, at, failure, move, stand}
use Rattle.macros.proofs.Theory.Walk.{last, no_letters}
use Rattle.macros.specs.Points.{size_statement, entry, compile, step, check, fork, points, entrance, moves_at, run}
use Rattle.macros.proofs.Theory.Runs.{partial_is, run_once}

-- vars x y; funs n/1; while x != y { x := n(x); } assert x = y;
abbrev chase : Block
chase = while (unequal 0 1) (perform (Apply 0 0 0 0) then empty) then assert (equal 0 1) then empty

module _ (start : Trace) where
  -- no turn of the loop, one turn, and two turns
  no_turn : Complete start chase (start ▸ Equal 0 1 ▸ Equal 0 1)
  unfolding statement_before
  no_turn = ExecBlock.both (Exec.leaves refl) (ExecBlock.both (Exec.holds refl) ExecBlock.stop)

  one_turn : Complete start chase (start ▸ Unequal 0 1 ▸ Apply 0 0 0 0 ▸ Equal 0 1 ▸ Equal 0 1)
  unfolding statement_before
  one_turn = ExecBlock.both (Exec.turns (ExecBlock.both Exec.letter ExecBlock.stop) (Exec.leaves refl)) (ExecBlock.both (Exec.holds refl) ExecBlock.stop)

  two_turns : Complete start chase (start ▸ Unequal 0 1 ▸ Apply 0 0 0 0 ▸ Unequal 0 1 ▸ Apply 0 0 0 0 ▸ Equal 0 1 ▸ Equal 0 1)
  unfolding statement_before
  two_turns = ExecBlock.both (Exec.turns (ExecBlock.both Exec.letter ExecBlock.stop)
      (Exec.turns (ExecBlock.both Exec.letter ExecBlock.stop) (Exec.leaves refl))) (ExecBlock.both (Exec.holds refl) ExecBlock.stop)

  -- the assertion fails after one turn
  fails_after_one : Failing start chase (start ▸ Unequal 0 1 ▸ Apply 0 0 0 0 ▸ Equal 0 1 ▸ Unequal 0 1)
  unfolding statement_before
  fails_after_one = ExecBlock.both (Exec.turns (ExecBlock.both Exec.letter ExecBlock.stop) (Exec.leaves refl)) (ExecBlock.ends (Exec.fails refl))

  -- the empty execution is a partial one
  nothing_yet : Partial start chase start
  nothing_yet = record { execution = start ▸ Equal 0 1 ▸ Equal 0 1; outcome = _; runs = no_turn; from_start = whole; begins = block_begins no_turn }

  -- the loop's body without its test is none
  not_the_body : ¬ Partial start chase (start ▸ Apply 0 0 0 0)
  unfolding size_statement entry compile
  not_the_body x =
      let (p, l, e) = (partial_is start chase (start ▸ Apply 0 0 0 0)).0 x in
      let z = last (moves_at (points chase)) (entrance chase) start p l start (Apply 0 0 0 0) e whole in
      let f = no_letters (moves_at (points chase)) (entrance chase) start z.path (at z.place) z.stood in
      go z.place l z.branch (here z.path z.place f z.stood) z.moved
    where
      here : (q : Path) (k : ℕ) → q ≡ root → run start chase q ≡ stand (at k) start → k ≡ 0
      here q k f s = let g : stand (at 0) start ≡ stand (at k) start = ap (run start chase) (sym f) ∙ s in cc

      at_first : (d : Branch) (l : Place ℕ) → moves_at (points chase) 0 d ≡ move (Apply 0 0 0 0) l → ⊥
      at_first first l e = let z : ◌≡◌ {A = ℕ} 0 1 = cc in omega arith
      at_first second l e = let z : ◌≡◌ {A = ℕ} 0 1 = cc in omega arith

      go : (k : ℕ) (l : Place ℕ) (d : Branch) → k ≡ 0 → moves_at (points chase) k d ≡ move (Apply 0 0 0 0) l → ⊥
      go k l d e f = at_first d l (ap (λ n. moves_at (points chase) n d) (sym e) ∙ f)

  -- ── points ──
  chase_points : points chase ≡ fork (unequal 0 1) 1 2 ∷ step (Apply 0 0 0 0) 0 ∷ check (equal 0 1) 3 ∷ []
  unfolding size_statement entry compile
  chase_points = refl

  chase_fails : run start chase (root ▹ first ▹ first ▹ second ▹ first) ≡ stand failure (start ▸ Unequal 0 1 ▸ Apply 0 0 0 0 ▸ Equal 0 1 ▸ Unequal 0 1)
  unfolding size_statement entry compile
  chase_fails = refl

  chase_ends : run start chase (root ▹ second ▹ second) ≡ stand (at 3) (start ▸ Equal 0 1 ▸ Equal 0 1)
  unfolding size_statement entry compile
  chase_ends = refl

-- if x = y { } else { skip; while x = y { } x := y; } y := x;
abbrev nest : Block
nest = if (equal 0 1) empty (present (skip then while (equal 0 1) empty then perform (Copy 0 1) then empty)) then perform (Copy 1 0) then empty

nest_points : points nest ≡ fork (equal 0 1) 3 1 ∷ fork (equal 0 1) 1 2 ∷ step (Copy 0 1) 3 ∷ step (Copy 1 0) 4 ∷ []
unfolding size_statement entry compile
nest_points = refl

-- vars x y; tests hot/1; while hot(x) { x := y; } Registers 2 and 3 are the result of a test and what it is held against.
abbrev heat : Block
heat = while_after (Apply 2 0 0 0) (equal 2 3) (perform (Copy 0 1) then empty) then empty

-- the letter before each test, written out: before the loop, and at the end of its body
heat_written : written_out heat
    ≡ written_out (perform (Apply 2 0 0 0) then while (equal 2 3) (perform (Copy 0 1) then perform (Apply 2 0 0 0) then empty) then empty)
unfolding statement_before
heat_written = refl

-- "Each named test is two points, a while returning to the first" (document 02, request 4)
heat_points : points heat ≡ step (Apply 2 0 0 0) 1 ∷ fork (equal 2 3) 2 3 ∷ step (Copy 0 1) 0 ∷ []
unfolding size_statement entry compile
heat_points = refl

module _ (start : Trace) where
  -- one turn of the loop
  heat_turn : Complete start heat (start ▸ Apply 2 0 0 0 ▸ Equal 2 3 ▸ Copy 0 1 ▸ Apply 2 0 0 0 ▸ Unequal 2 3)
  unfolding statement_before
  heat_turn =
      ExecBlock.both Exec.letter
      (ExecBlock.both (Exec.turns (ExecBlock.both Exec.letter (ExecBlock.both Exec.letter ExecBlock.stop)) (Exec.leaves refl)) ExecBlock.stop)

  -- once through the body, the application comes again
  abbrev heated : Trace
  heated = start ▸ Apply 2 0 0 0 ▸ Equal 2 3 ▸ Copy 0 1

  applied_again : (a : Letter) → Partial start heat (heated ▸ a) → a ≡ Apply 2 0 0 0
  unfolding size_statement entry compile
  applied_again a x =
      let (p, l, e) = (partial_is start heat (heated ▸ a)).0 x in
      let z = last (moves_at (points heat)) (entrance heat) start p l heated a e (before (before (before whole))) in
      at_first z.branch l (ap (λ n. moves_at (points heat) n z.branch) (sym (here z.path z.place z.stood)) ∙ z.moved)
    where
      here : (q : Path) (k : ℕ) → run start heat q ≡ stand (at k) heated → k ≡ 0
      here q k s =
          let f = run_once start heat heated q (root ▹ first ▹ first ▹ first) (at k) (at 0) s refl in
          let g : stand (at 0) heated ≡ stand (at k) heated = ap (run start heat) (sym f) ∙ s in
          cc

      at_first : (d : Branch) (l : Place ℕ) → moves_at (points heat) 0 d ≡ move a l → a ≡ Apply 2 0 0 0
      at_first first l e = cc
      at_first second l e = absurd (let z : ◌≡◌ {A = ℕ} 0 1 = cc in omega arith)

  -- and not a test at once
  not_at_once : ¬ Partial start heat (heated ▸ Equal 2 3)
  not_at_once x =
      let e = applied_again (Equal 2 3) x in
      let z : ◌≡◌ {A = ℕ} 0 1 = cc in
      omega arith

-- ── order: shorter first, then by branch, from the front ──
shorter_first : Before (root ▹ second) (root ▹ first ▹ first)
shorter_first = inl (omega arith)

by_branch : Before (root ▹ first ▹ second) (root ▹ second ▹ first)
by_branch = inr (refl, inl (inr (refl, tt)))
