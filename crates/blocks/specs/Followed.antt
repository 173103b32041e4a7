-- Of which points it is known what follows, while a text is read.
use Rattle.std.specs.Prelude.{◌≢◌, ℕ, ◌<◌, List, get_or}
use Rattle.letters.specs.declared.Letter.TheVariants.{Copy}
use Rattle.grammar.specs.Limits.{most_points}
use Rattle.blocks.specs.declared.PointKind.TheVariants.{Step}
use Rattle.blocks.specs.declared.PointEntry.{PointEntry}

-- what stands where there is no point (Held.antt: `unused_point`)
abbrev pub blank_point : PointEntry
blank_point = record { kind = Step; letter = Copy 0 0; first = 0; second = 0 }

-- What follows a point is known (Held.antt: `unknown`).
abbrev pub Followed : PointEntry → Type 0
Followed p = (p.first ≢ most_points) × (p.second ≢ most_points)

-- What follows the points below n is known.
abbrev pub FollowedBelow : ℕ → List PointEntry → Type 0
FollowedBelow n ps = (i : ℕ) → i < n → Followed (get_or ps i blank_point)
