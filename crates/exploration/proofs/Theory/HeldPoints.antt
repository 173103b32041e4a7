-- What follows from the definitions of specs/HeldPoints.antt.
use mathlib.Core.Path.{◌≡◌, refl, sym, ap, ◌∙◌, subst}
use mathlib.Core.List.{List, [], ◌∷◌, ◌++◌, map}
use mathlib.Core.Option.{Option, none, some}
use Prim.Native.Nat.{ℕ, zero, suc, ◌≤◌}
use native.Mathlib.Omega.{arith}
use lib.ListN.{get_or, get_elem?, replicate}
use borrow.Author.Tests.{ne_eqb}
use Rattle.letters.specs.declared.Header.{Header}
use Rattle.macros.specs.Tree.{Condition, equal, unequal, test, opposite, Block, ProperBlock}
use Rattle.macros.specs.Walk.{at, failure, move}
use Rattle.macros.specs.Points as points
use Rattle.macros.specs.Points.{moves, moved, moves_at}
use Rattle.macros.proofs.Theory.Fitting.{FitsMove, points_fit}
use Rattle.blocks.specs.Held.{held_point, unused_point}
use Rattle.window.specs.Perform.{WithinPacking}
use Rattle.window.proofs.Theory.Step.{fits_within}
use Rattle.exploration.specs.declared.PointMove as enum
use Rattle.exploration.specs.declared.PointMove.TheVariants.{Nothing, Goes, Fails}
use Rattle.exploration.specs.Moves.{opposite_of, move_of, letter_of}
use Rattle.exploration.specs.LetterBounds.{AllWithin}
use Rattle.exploration.proofs.Theory.Store.{branch_numbered}
use Rattle.exploration.specs.HeldPoints.{meant}

opposite_is : (c : Condition) → opposite_of (test c) ≡ opposite c
unfolding opposite_of
opposite_is (equal x y) = refl
opposite_is (unequal x y) = refl

pub branch_meant : (x : points.Point) (b : ℕ) → meant (move_of (held_point x) b) ≡ moves x (branch_numbered b)
unfolding move_of
branch_meant (points.step a n) zero = refl
branch_meant (points.step a n) (suc b) = rw (ne_eqb (suc b) 0 λ e. omega arith) refl
branch_meant (points.check c n) zero = ap (λ a. move a failure) (opposite_is c)
branch_meant (points.check c n) (suc b) = rw (ne_eqb (suc b) 0 λ e. omega arith) refl
branch_meant (points.fork c i j) zero = refl
branch_meant (points.fork c i j) (suc b) = rw (ne_eqb (suc b) 0 λ e. omega arith) (ap (λ a. move a (at j)) (opposite_is c))

-- ── the points in the table ──
unused_at : (n k : ℕ) → get_or (replicate n unused_point) k unused_point ≡ unused_point
unused_at zero k = refl
unused_at (suc n) zero = refl
unused_at (suc n) (suc k) = unused_at n k

pub held_at : (ps : List points.Point) (n k : ℕ) (x : points.Point) → get_elem? ps k ≡ some x
    → get_or (map held_point ps ++ replicate n unused_point) k unused_point ≡ held_point x
held_at [] n k x e = absurd (let z : ◌≡◌ {A = ℕ} 0 1 = cc in omega arith)
held_at (y ∷ ps) n zero x e = let f : y ≡ x = cc in ap held_point f
held_at (y ∷ ps) n (suc k) x e = held_at ps n k x e

held_past : (ps : List points.Point) (n k : ℕ) → get_elem? ps k ≡ none → get_or (map held_point ps ++ replicate n unused_point) k unused_point ≡ unused_point
held_past [] n k e = unused_at n k
held_past (y ∷ ps) n zero e = absurd (let z : ◌≡◌ {A = ℕ} 0 1 = cc in omega arith)
held_past (y ∷ ps) n (suc k) e = held_past ps n k e

-- ── their letters lie within the packing ──
copy_within : (b : ℕ) → WithinPacking (letter_of (move_of unused_point b))
unfolding move_of
copy_within zero = (omega arith, omega arith)
copy_within (suc b) = rw (ne_eqb (suc b) 0 λ e. omega arith) (omega arith, omega arith)

module _ (h : Header) (registers : h.registers ≤ 8) (functions : h.functions ≤ 4) where
  meant_within : (o : enum.PointMove) → FitsMove h (meant o) → WithinPacking (letter_of o)
  meant_within Nothing f = (omega arith, omega arith)
  meant_within (Goes a k) f = fits_within h a registers functions f
  meant_within (Fails a) f = fits_within h a registers functions f

  pub all_within : (m : Block) → ProperBlock m h → (n : ℕ) → AllWithin (map held_point (points.points m) ++ replicate n unused_point)
  all_within m p n k b = go (get_elem? (points.points m) k) refl
    where
      go : (o : Option points.Point) → get_elem? (points.points m) k ≡ o
          → WithinPacking (letter_of (move_of (get_or (map held_point (points.points m) ++ replicate n unused_point) k unused_point) b))
      go none e = subst (λ x. WithinPacking (letter_of (move_of x b))) (sym (held_past (points.points m) n k e)) (copy_within b)
      go (some x) e =
          let f : FitsMove h (moves_at (points.points m) k (branch_numbered b)) = points_fit h m p k (branch_numbered b) in
          let g : FitsMove h (meant (move_of (held_point x) b)) = subst (FitsMove h) (ap (λ o. moved o (branch_numbered b)) e ∙ sym (branch_meant x b)) f in
          subst (λ x. WithinPacking (letter_of (move_of x b))) (sym (held_at (points.points m) n k x e)) (meant_within (move_of (held_point x) b) g)
