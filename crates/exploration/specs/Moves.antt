-- The branches of a point as the reader stores it. SPEC 9.4; document 01: "At a branch the condition as written comes first; at an assert, the failing letter."
use Rattle.std.specs.Prelude.{ℕ, eqb}
use Rattle.base.specs.Choice.{pick}
use Rattle.letters.specs.declared.Letter.{Letter}
use Rattle.letters.specs.declared.Letter.TheVariants.{Copy, Apply, Equal, Unequal}
use Rattle.blocks.specs.declared.PointKind.{PointKind}
use Rattle.blocks.specs.declared.PointKind.TheVariants.{Step, Check, Fork}
use Rattle.blocks.specs.declared.PointEntry.{PointEntry}
use Rattle.exploration.specs.declared.PointMove.{PointMove}
use Rattle.exploration.specs.declared.PointMove.TheVariants.{Nothing, Goes, Fails}

-- The letter that tests the opposite.
unfoldable pub opposite_of : Letter → Letter
opposite_of (Copy x y) = Copy x y
opposite_of (Apply x f y z) = Apply x f y z
opposite_of (Equal x y) = Unequal x y
opposite_of (Unequal x y) = Equal x y

-- What branch b of a point performs, 0 the first, by the point's kind.
abbrev pub moves_by : PointKind → PointEntry → ℕ → PointMove
moves_by Step x b = pick (eqb b 0) (λ _. Goes x.letter x.first) λ _. Nothing
moves_by Check x b = pick (eqb b 0) (λ _. Fails (opposite_of x.letter)) λ _. Goes x.letter x.first
moves_by Fork x b = pick (eqb b 0) (λ _. Goes x.letter x.first) λ _. Goes (opposite_of x.letter) x.second

unfoldable pub move_of : PointEntry → ℕ → PointMove
move_of x b = moves_by x.kind x b

-- The letter of a branch; where there is none, a copy that is never asked for.
abbrev pub letter_of : PointMove → Letter
letter_of Nothing = Copy 0 0
letter_of (Goes a k) = a
letter_of (Fails a) = a
