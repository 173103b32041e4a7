-- What the monitor's step does on the window of a trace.
use mathlib.Core.Path.{◌≡◌, refl, sym, ◌∙◌, subst}
use mathlib.Core.Logic.{◌↔◌}
use mathlib.Core.Bool.{true, false}
use Prim.Native.Nat.{◌≤◌}
use lib.Dec.{T}
use Rattle.base.proofs.Theory.Choice.{by_test}
use Rattle.letters.specs.declared.Header.{Header}
use Rattle.letters.specs.declared.Letter.{Letter}
use Rattle.letters.specs.Letters.{Fits}
use Rattle.letters.specs.Editions.{first_edition}
use Rattle.semantics.proofs.Theory.Booleans.{of_true, of_false, is_true, is_false}
use Rattle.semantics.specs.Terms.{Trace, begin, ◌▸◌, state}
use Rattle.semantics.specs.Facts.{WellFormed}
use Rattle.semantics.proofs.Theory.Facts.{state_valid}
use Rattle.semantics.specs.Coherence.{Coherent}
use Rattle.semantics.specs.Judge.{coherent}
use Rattle.semantics.proofs.Theory.Judge.{coherent_is}
use Rattle.semantics.specs.FirstLetters.{coherent_part}
use Rattle.semantics.proofs.Theory.JudgementLaws.{part_whole, part_shorter}
use Rattle.window.specs.Perform.{WithinPacking, judge_of}
use Rattle.window.specs.Step.{IsWindow}
use Rattle.window.proofs.Theory.Step.{holds_fresh, judged, performed}
use Rattle.streaming.specs.Monitor.{fresh_monitor, moved_of}
use Rattle.streaming.proofs.Theory.MonitorLaws.{moved_stopped, moved_coherent, moved_incoherent}
use Rattle.streaming.specs.declared.Monitor.{Monitor}
use Rattle.streaming.specs.Following.{Follows}

-- A running monitor that holds the window of a trace: all six parts.
pub record Runs (ρ : Trace) (m : Monitor) : Type 0 where
  pub formed : WellFormed ρ
  pub coherent : Coherent ρ
  pub header : m.header ≡ (state ρ).header
  pub running : m.running ≡ true
  pub holds : IsWindow (state ρ) m.window

-- What `next` has to be after a further letter. "An incoherent letter only stops the monitor: it and all later letters move neither window
-- nor infeasible mark."
pub record Steps (ρ : Trace) (a : Letter) (m next : Monitor) : Type 0 where
  pub header : next.header ≡ m.header
  pub running : T next.running ↔ Coherent (ρ ▸ a)
  pub holds : Coherent (ρ ▸ a) → IsWindow (state (ρ ▸ a)) next.window
  pub still : ¬ Coherent (ρ ▸ a) → next.window ≡ m.window

pub steps : (ρ : Trace) (m : Monitor) → Runs ρ m → (a : Letter) → WithinPacking a → Fits (state ρ).header a → Steps ρ a m (moved_of m a)
steps ρ m r a wi f = by_test (judge_of m.window a)
    (λ t. let l = (judged (state ρ) (state_valid ρ r.formed) m.window r.holds a wi f).0 (of_true t) in
    subst (Steps ρ a m) (sym (moved_coherent m a r.running t)) (record {
      header = refl;
      running = ((λ _. (r.coherent, l)), (λ _. tt));
      holds = λ _. performed (state ρ) (state_valid ρ r.formed) m.window r.holds a wi f l;
      still = λ n. absurd (n (r.coherent, l));
    }))
    (λ t. let n : ¬ Coherent (ρ ▸ a) = (λ k. of_false t ((judged (state ρ) (state_valid ρ r.formed) m.window r.holds a wi f).1 k.1)) in
    subst (Steps ρ a m) (sym (moved_incoherent m a r.running t)) (record {
      header = refl;
      running = ((λ k. absurd k), (λ k. absurd (n k)));
      holds = λ k. absurd (n k);
      still = λ _. refl;
    }))

pub follows_start : (h : Header) → h.registers ≤ first_edition.registers → Follows (begin h) (fresh_monitor h)
follows_start h b = record {
  formed = tt;
  header = refl;
  running = refl;
  holds = subst (λ π. IsWindow (state π) (fresh_monitor h).window) (sym (part_whole (begin h) tt)) (holds_fresh h b);
}

module _ (ρ : Trace) (m : Monitor) (F : Follows ρ m) (a : Letter) (wi : WithinPacking a) (f : Fits (state ρ).header a) where
  formed : WellFormed (ρ ▸ a)
  formed = (F.formed, f)

  -- where the monitor still runs
  runs : m.running ≡ true → Runs ρ m
  runs r = let t = of_true (sym F.running ∙ r) in record {
    formed = F.formed;
    coherent = (coherent_is ρ F.formed).0 t;
    header = F.header;
    running = r;
    holds = subst (λ π. IsWindow (state π) m.window) (part_whole ρ t) F.holds;
  }

  goes_on : (next : Monitor) → Steps ρ a m next → coherent (ρ ▸ a) ≡ true → Follows (ρ ▸ a) next
  goes_on next s k = let c = (coherent_is (ρ ▸ a) formed).0 (of_true k) in record {
    formed = formed;
    header = s.header ∙ F.header;
    running = is_true next.running (s.running.1 c) ∙ sym k;
    holds = subst (λ π. IsWindow (state π) next.window) (sym (part_whole (ρ ▸ a) (of_true k))) (s.holds c);
  }

  ends : (next : Monitor) → next.header ≡ m.header → next.window ≡ m.window → next.running ≡ false → coherent (ρ ▸ a) ≡ false → Follows (ρ ▸ a) next
  ends next h e r k = record {
    formed = formed;
    header = h ∙ F.header;
    running = r ∙ sym k;
    holds = subst (λ π. IsWindow (state π) next.window) (sym (part_shorter ρ a (of_false k))) (subst (IsWindow (state (coherent_part ρ))) (sym e) F.holds);
  }

  stops : (next : Monitor) → Steps ρ a m next → coherent (ρ ▸ a) ≡ false → Follows (ρ ▸ a) next
  stops next s k = let n : ¬ Coherent (ρ ▸ a) = (λ c. of_false k ((coherent_is (ρ ▸ a) formed).1 c)) in
      ends next s.header (s.still n) (is_false next.running (λ t. n (s.running.0 t))) k

  pub follows_moved : Follows (ρ ▸ a) (moved_of m a)
  follows_moved = by_test m.running
      (λ r. let s = steps ρ m (runs r) a wi f in by_test (coherent (ρ ▸ a)) (goes_on (moved_of m a) s) (stops (moved_of m a) s))
      (λ r. let n : ¬ Coherent ρ = (λ c. of_false (sym F.running ∙ r) ((coherent_is ρ F.formed).1 c)) in
      subst (Follows (ρ ▸ a)) (sym (moved_stopped m a r)) (ends m refl refl r (is_false (coherent (ρ ▸ a)) (λ t. n ((coherent_is (ρ ▸ a) formed).0 t).0))))
