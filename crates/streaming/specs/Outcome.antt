-- How a call of the monitor ends, and the monitor after it.
use Rattle.std.specs.Prelude.{ℕ}
use Rattle.streaming.specs.declared.Monitor.{Monitor}

-- It was taken, or it was refused by this number; the place is 0.
pub data StepOutcome : Type 0 where
  Taken : StepOutcome
  Refused : ℕ → StepOutcome

pub record Stepped : Type 0 where
  pub outcome : StepOutcome
  pub monitor : Monitor
