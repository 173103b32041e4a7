-- How the code holds the points of a macro (SPEC 9.3).
use Rattle.std.specs.Prelude.{ℕ, ◌+◌, ◌-◌, ◌≡◌, Bool, true, false, List, ◌++◌, eqb, ltb, length, drop, replicate, Option, Some, None, Result, Ok, Err}
use Rattle.base.specs.Choice.{pick}
use Rattle.letters.specs.declared.Letter.{Letter}
use Rattle.letters.specs.declared.Letter.TheVariants.{Copy}
use Rattle.letters.specs.declared.reasons.Refused.{Refused}
use Rattle.macros.specs.Tree.{test}
use Rattle.macros.specs.Points as points
use Rattle.grammar.specs.Limits.{most_points}
use Rattle.blocks.specs.declared.PointKind.{PointKind}
use Rattle.blocks.specs.declared.PointKind.TheVariants.{Step, Check, Fork}
use Rattle.blocks.specs.declared.PointEntry.{PointEntry}
use Rattle.blocks.specs.declared.points.Points.{Points}

-- The kinds of a point, as numbers: an assignment or an assume; an assert; an if or a while.
abbrev pub step_kind : ℕ
step_kind = 0

abbrev pub check_kind : ℕ
check_kind = 1

abbrev pub fork_kind : ℕ
fork_kind = 2

abbrev pub kind_number : PointKind → ℕ
kind_number Step = step_kind
kind_number Check = check_kind
kind_number Fork = fork_kind

-- the kind that a number stands for: what is no step and no check forks
abbrev pub kind_of : ℕ → PointKind
kind_of n = pick (eqb n step_kind) (λ _. Step) λ _. pick (eqb n check_kind) (λ _. Check) λ _. Fork

abbrev pub point : PointKind → Letter → ℕ → ℕ → PointEntry
point k l a b = record { kind = k; letter = l; first = a; second = b }

-- A point by its kind, its letter (of a condition: its test, as written) and the points that follow.
abbrev pub held_point : points.Point → PointEntry
held_point (points.step l n) = point Step l n 0
held_point (points.check c n) = point Check (test c) n 0
held_point (points.fork c m n) = point Fork (test c) m n

-- what stands in the table where there is no point
abbrev pub unused_point : PointEntry
unused_point = point Step (Copy 0 0) 0 0

-- the table that holds the points ds
abbrev pub point_table : List PointEntry → List PointEntry
point_table ds = ds ++ replicate (most_points - length ds) unused_point

-- ---- while a text is read

-- How far reading has come, with the points that the table holds. Beside a refusal the place and the count are 0.
pub record Progress : Type 0 where
  pub ok : Bool
  pub refusal : Option Refused
  pub at : ℕ
  pub count : ℕ
  pub points : List PointEntry

-- at a place
abbrev pub progress : ℕ → Points → Progress
progress at ps = record { ok = true; refusal = None; at = at; count = ps.count; points = ps.entries }

-- at the place that was answered, or refused
abbrev pub outcome : Result ℕ Refused → Points → Progress
outcome (Ok at) ps = progress at ps
outcome (Err e) ps = record { ok = false; refusal = Some e; at = 0; count = 0; points = ps.entries }

-- the points ds in front, and behind them what stood in the table before
abbrev pub points_over : List PointEntry → List PointEntry → List PointEntry
points_over old ds = ds ++ drop (length ds) old

-- The points ds were read; behind them the arrays stand as they were lent.
pub record HoldsPoints (old : List PointEntry) (st : Progress) (ds : List PointEntry) : Type 0 where
  pub size : length old ≡ most_points
  pub count : st.count ≡ length ds
  pub points : st.points ≡ points_over old ds

-- While a text is read, this stands for what follows and is not yet known. It is the number of no point.
abbrev pub unknown : ℕ
unknown = most_points

-- f put in its place
abbrev pub backpatched : ℕ → ℕ → ℕ
backpatched f n = pick (eqb n unknown) (λ _. f) λ _. n

-- the count of points once there are more than the most
abbrev pub too_many : ℕ
too_many = most_points + 1

-- a point with f for what follows and is not yet known
abbrev pub redirected : ℕ → PointEntry → PointEntry
redirected f p = point p.kind p.letter (backpatched f p.first) (backpatched f p.second)

-- the same of point i, if it is in the range
abbrev pub within : ℕ → ℕ → ℕ → ℕ → PointEntry → PointEntry
within from to f i p = pick (ltb i from) (λ _. p) λ _. pick (ltb i to) (λ _. redirected f p) λ _. p
