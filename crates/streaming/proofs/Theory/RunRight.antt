-- The run over a trace's words answers for the trace.
use mathlib.Core.Path.{◌≡◌, refl, sym, ◌∙◌, ap, ap₂, subst}
use mathlib.Core.Logic.{◌↔◌}
use mathlib.Core.Bool.{Bool, true, false, not, ◌&&◌}
use Prim.Native.Nat.{ℕ, suc}
use lib.Dec.{T}
use Rattle.base.proofs.Theory.Choice.{by_test}
use Rattle.letters.specs.declared.Header.{Header}
use Rattle.letters.specs.declared.Letter.{Letter}
use Rattle.letters.specs.Answers.{value, refusal}
use Rattle.letters.specs.Editions.{first_edition}
use Rattle.letters.specs.Coding.{decode_header, decode_letter}
use Rattle.letters.proofs.Theory.WordLaws.{first_roomy, decode-header, decode-letter}
use Rattle.semantics.proofs.Theory.Booleans.{of_true, of_false}
use Rattle.semantics.specs.Terms.{Trace, begin, ◌▸◌, state}
use Rattle.semantics.proofs.Theory.Facts.{state_valid}
use Rattle.semantics.specs.Models.{Feasible}
use Rattle.semantics.specs.Judgement.{size}
use Rattle.semantics.specs.Judge.{coherent, feasible, first_failing}
use Rattle.semantics.proofs.Theory.Judge.{feasible_is}
use Rattle.semantics.specs.FirstLetters.{coherent_part, incoherent_letter, infeasible_letter}
use Rattle.semantics.proofs.Theory.JudgementLaws.{part_whole, part_shorter, part_formed}
use Rattle.window.proofs.Theory.Step.{fits_within}
use Rattle.streaming.specs.Monitor.{moved_of}
use Rattle.streaming.proofs.Theory.MonitorLaws.{start_taken, advance_taken, advance_refused}
use Rattle.streaming.specs.Run.{run_with, capped, next_number, first_of, judged_run, begun_run, taken_run}
use Rattle.streaming.proofs.Theory.NumberLaws.{capped_none, next_capped, first_capped, first_same, fails_nowhere}
use Rattle.streaming.specs.Following.{Follows}
use Rattle.streaming.proofs.Theory.StepRight.{follows_start, follows_moved}
use Rattle.streaming.specs.declared.Monitor.{Monitor}
use Rattle.streaming.specs.declared.Run.{Run}
use Rattle.streaming.specs.declared.RunAnswer.TheVariants.{Judged, Refused}
use Rattle.streaming.specs.Following.{RunFollows}

-- ---- the numbers

abbrev feasible_trace : Trace → Bool
feasible_trace π = feasible (state π)

incoherent_more : (ρ : Trace) (a : Letter)
    → first_of (capped (incoherent_letter ρ)) (not (coherent (ρ ▸ a))) (capped (suc (size ρ))) ≡ capped (incoherent_letter (ρ ▸ a))
unfolding incoherent_letter
incoherent_more ρ a = first_capped (first_failing coherent ρ) (size ρ) (coherent (ρ ▸ a))

-- one letter more of a coherent trace, and one that is not
infeasible_whole : (ρ : Trace) (a : Letter) → coherent_part (ρ ▸ a) ≡ ρ ▸ a → coherent_part ρ ≡ ρ
    → first_of (capped (infeasible_letter ρ)) (not (feasible_trace (coherent_part (ρ ▸ a)))) (capped (suc (size ρ))) ≡ capped (infeasible_letter (ρ ▸ a))
unfolding infeasible_letter
infeasible_whole ρ a e d =
    ap₂ (λ (π κ : Trace). first_of (capped (first_failing feasible_trace κ)) (not (feasible_trace π)) (capped (suc (size ρ)))) e d
    ∙ first_capped (first_failing feasible_trace ρ) (size ρ) (feasible_trace (ρ ▸ a)) ∙ ap (λ (π : Trace). capped (first_failing feasible_trace π)) (sym e)

infeasible_shorter : (ρ : Trace) (a : Letter) → coherent_part (ρ ▸ a) ≡ coherent_part ρ
    → first_of (capped (infeasible_letter ρ)) (not (feasible_trace (coherent_part (ρ ▸ a)))) (capped (suc (size ρ))) ≡ capped (infeasible_letter (ρ ▸ a))
unfolding infeasible_letter
infeasible_shorter ρ a e =
    ap (λ (π : Trace). first_of (capped (first_failing feasible_trace (coherent_part ρ))) (not (feasible_trace π)) (capped (suc (size ρ)))) e
    ∙ first_same (first_failing feasible_trace (coherent_part ρ)) (capped (suc (size ρ))) (not (feasible_trace (coherent_part ρ)))
    (λ z. ap not (fails_nowhere feasible_trace (λ h. refl) (coherent_part ρ) z)) ∙ ap (λ (π : Trace). capped (first_failing feasible_trace π)) (sym e)

infeasible_more : (ρ : Trace) (a : Letter)
    → first_of (capped (infeasible_letter ρ)) (not (feasible_trace (coherent_part (ρ ▸ a)))) (capped (suc (size ρ))) ≡ capped (infeasible_letter (ρ ▸ a))
infeasible_more ρ a = by_test (coherent (ρ ▸ a))
    (λ t. infeasible_whole ρ a (part_whole (ρ ▸ a) (of_true t)) (part_whole ρ (and_first (coherent ρ) _ t)))
    (λ t. infeasible_shorter ρ a (part_shorter ρ a (of_false t)))
  where
    and_first : (a b : Bool) → (a && b) ≡ true → T a
    and_first true b e = tt
    and_first false b e = of_true e

-- the window's mark is that of the trace
marked : (b c : Bool) (X : Type 0) → T b ↔ (¬ X) → T c ↔ X → b ≡ not c
marked true true X p q = absurd (p.0 tt (q.0 tt))
marked true false X p q = refl
marked false true X p q = refl
marked false false X p q = absurd (p.1 q.1)

mark_is : (ρ : Trace) (m : Monitor) → Follows ρ m → m.window.infeasible ≡ not (feasible_trace (coherent_part ρ))
mark_is ρ m f =
    marked m.window.infeasible (feasible_trace (coherent_part ρ)) (Feasible (state (coherent_part ρ))) f.holds.tracks.infeasible
    (feasible_is (state (coherent_part ρ)) (state_valid (coherent_part ρ) (part_formed ρ f.formed)))

-- ---- one letter

taken_judged : (r : Run) (word i k : ℕ) (a : Letter) → r.verdict ≡ Judged i k → decode_letter first_edition r.monitor.header word ≡ value a
    → taken_run r word ≡ judged_run (moved_of r.monitor a) (next_number r.letters) i k
unfolding taken_run
taken_judged r word i k a v e = rw (v, advance_taken r.monitor word a e)

pub taken_refused : (r : Run) (word i k number place : ℕ) → r.verdict ≡ Judged i k → decode_letter first_edition r.monitor.header word ≡ refusal number place
    → taken_run r word ≡ run_with r.monitor r.letters (Refused number (next_number r.letters))
unfolding taken_run
taken_refused r word i k number place v e = rw (v, advance_refused r.monitor word number place e)

-- a run that has refused stays as it is
pub taken_ended : (r : Run) (word number place : ℕ) → r.verdict ≡ Refused number place → taken_run r word ≡ r
unfolding taken_run
taken_ended r word number place v = rw v

judged_follows : (ρ : Trace) (a : Letter) (m : Monitor) (n i k : ℕ) → Follows (ρ ▸ a) m → n ≡ capped (suc (size ρ)) → i ≡ capped (incoherent_letter ρ)
    → k ≡ capped (infeasible_letter ρ)
    → RunFollows (ρ ▸ a) (judged_run m n i k)
unfolding judged_run
judged_follows ρ a m n i k f e p q = record {
  monitor = f;
  letters = e;
  verdict = rw (f.running, mark_is (ρ ▸ a) m f, e, p, q) (ap₂ Judged (incoherent_more ρ a) (infeasible_more ρ a));
}

pub run_start : (word : ℕ) (h : Header) → decode_header first_edition word ≡ value h → RunFollows (begin h) (begun_run word)
unfolding begun_run incoherent_letter infeasible_letter coherent_part
run_start word h e = rw (start_taken word h e) (record {
  monitor = follows_start h ((decode-header first_roomy word h).0 e).0.registers;
  letters = sym capped_none;
  verdict = rw capped_none;
})

pub run_more : (ρ : Trace) (r : Run) → RunFollows ρ r → (word : ℕ) (a : Letter) → decode_letter first_edition (state ρ).header word ≡ value a
    → RunFollows (ρ ▸ a) (taken_run r word)
run_more ρ r f word a e =
    let (h, fits, _) = (decode-letter first_roomy (state ρ).header word a).0 e in
    let d : decode_letter first_edition r.monitor.header word ≡ value a = ap (λ (g : Header). decode_letter first_edition g word) f.monitor.header ∙ e in
    subst (RunFollows (ρ ▸ a)) (sym (taken_judged r word _ _ a f.verdict d))
    (judged_follows ρ a _ _ _ _ (follows_moved ρ r.monitor f.monitor a (fits_within (state ρ).header a h.registers h.functions fits) fits)
    (ap next_number f.letters ∙ next_capped (size ρ)) refl refl)
