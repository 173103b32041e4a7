-- Branches and the order of executions (SPEC 9.4, 10.1; document 01: "shorter first, then by branch").
use Rattle.std.specs.Prelude.{◌≡◌, ◌⊎◌, ℕ, suc, ◌<◌}

-- At a point with one letter, that letter is the first branch (SPEC 9.4).
pub data Branch : Type 0 where
  first : Branch
  second : Branch

-- The branches that an execution takes, letter by letter.
infixl 40 ◌▹◌
pub data Path : Type 0 where
  root : Path
  ◌▹◌ : Path → Branch → Path

-- The number of letters.
abbrev pub steps : Path → ℕ
steps root = 0
steps (p ▹ b) = suc (steps p)

abbrev pub BranchBefore : Branch → Branch → Type 0
BranchBefore first first = ⊥
BranchBefore first second = Unit {0}
BranchBefore second c = ⊥

-- Of two paths with as many letters: at the first branch where they part, p takes the earlier one.
abbrev pub LexicallyBefore : Path → Path → Type 0
LexicallyBefore root q = ⊥
LexicallyBefore (p ▹ b) root = ⊥
LexicallyBefore (p ▹ b) (q ▹ c) = LexicallyBefore p q ⊎ ((p ≡ q) × BranchBefore b c)

-- Shorter first, then by branch (SPEC 10.1).
abbrev pub Before : Path → Path → Type 0
Before p q = (steps p < steps q) ⊎ ((steps p ≡ steps q) × LexicallyBefore p q)
