-- The letters of an execution, read along the parents in the table.
use Rattle.std.specs.Prelude.{ℕ, zero, suc, ◌/◌, ◌%◌, List, [], ◌∷◌}
use Rattle.letters.specs.declared.Letter.{Letter}
use Rattle.blocks.specs.declared.PointEntry.{PointEntry}
use Rattle.table.specs.Table.{parent_at, branch_at}
use Rattle.exploration.specs.Moves.{move_of, letter_of}
use Rattle.exploration.specs.Exploring.{point_of}

-- The letter that branch b performs at pair i.
unfoldable pub letter_of_branch : List PointEntry → List ℕ → ℕ → ℕ → Letter
letter_of_branch sp t i b = letter_of (move_of (point_of sp t i) b)

-- The letters up to pair j, and then those of `rest`. f is at least j.
unfoldable pub trail_to : List PointEntry → List ℕ → ℕ → ℕ → List Letter → List Letter
trail_to sp t zero j rest = rest
trail_to sp t (suc f) zero rest = rest
trail_to sp t (suc f) (suc j) rest = trail_to sp t f (parent_at t (suc j)) (letter_of_branch sp t (parent_at t (suc j)) (branch_at t (suc j)) ∷ rest)

-- The letters of the execution that move number d ends.
unfoldable pub trail_of : List PointEntry → List ℕ → ℕ → List Letter
trail_of sp t d = trail_to sp t (d / 2) (d / 2) (letter_of_branch sp t (d / 2) (d % 2) ∷ [])
