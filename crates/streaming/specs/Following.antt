-- When a monitor, and a run over a trace, is that of a trace (SPEC 6.2, 6.3).
use Rattle.std.specs.Prelude.{◌≡◌}
use Rattle.semantics.specs.Terms.{Trace, state}
use Rattle.semantics.specs.Facts.{WellFormed}
use Rattle.semantics.specs.Judge.{coherent}
use Rattle.semantics.specs.FirstLetters.{coherent_part, incoherent_letter, infeasible_letter}
use Rattle.window.specs.Step.{IsWindow}
use Rattle.streaming.specs.declared.Monitor.{Monitor}
use Rattle.semantics.specs.Judgement.{size}
use Rattle.streaming.specs.Run.{capped}
use Rattle.streaming.specs.declared.Run.{Run}
use Rattle.streaming.specs.declared.RunAnswer.TheVariants.{Judged}

-- The monitor after a trace, running or stopped: it holds the window of the longest coherent beginning.
pub record Follows (ρ : Trace) (m : Monitor) : Type 0 where
  pub formed : WellFormed ρ
  pub header : m.header ≡ (state ρ).header
  pub running : m.running ≡ coherent ρ
  pub holds : IsWindow (state (coherent_part ρ)) m.window

-- The run after a trace: the monitor follows it, and the letters are counted and named, up to the last number of 64 bits (SPEC 6.3, 6.5).
pub record RunFollows (ρ : Trace) (r : Run) : Type 0 where
  pub monitor : Follows ρ r.monitor
  pub letters : r.letters ≡ capped (size ρ)
  pub verdict : r.verdict ≡ Judged (capped (incoherent_letter ρ)) (capped (infeasible_letter ρ))
