-- The lines that are written are those of the answer.
use mathlib.Core.Path.{◌≡◌, refl, sym, subst}
use mathlib.Core.List.{List, [], ◌∷◌, ◌++◌}
use Prim.Native.Nat.{ℕ, ◌^◌, ◌≤◌, ◌<◌}
use native.Mathlib.Omega.{arith}
use lib.Dec.{eqb}
use lib.ListN.{length, take, length-append}
use lib.Seq.{length-take-le}
use borrow.Author.Tests.{ne_eqb}
use Rattle.base.proofs.Theory.Choice.{by_test}
use Rattle.letters.specs.Answers.{Answer}
use Rattle.text.proofs.Theory.Numerals.{long_number}
use Rattle.text.specs.Templates.{part, filled_in}
use Rattle.text.specs.Appending.{Appended, PlaceInRange}
use Rattle.text.proofs.Theory.Appending.{appended_length, room_first, room_then}
use Rattle.report.specs.Lines.{line, refused_line}
use Rattle.report.proofs.Theory.Bound.{refused_few}
use Rattle.model_lines.specs.Prints.{infeasible_line}
use Rattle.streaming.specs.Run.{run_answer}
use Rattle.streaming.specs.declared.RunAnswer.{RunAnswer}
use Rattle.streaming.specs.declared.RunAnswer.TheVariants.{Judged, Refused}
use Rattle.monitor_lines.specs.Prints.{incoherent_line, or_none, coherence_line, feasibility_line}
use Rattle.monitor_lines.specs.Prints.{answer_lines, most_monitor_line_bytes, PrintsMonitorLines}
use Rattle.monitor_lines.specs.Prints.{letter_text}

module _ (none : List ℕ) (some : ℕ → List ℕ) where
  pub none_text : (letter : ℕ) → letter ≡ 0 → or_none none some letter ≡ none
  unfolding or_none
  none_text letter e = rw e

  pub some_text : (letter : ℕ) → (letter ≡ 0 → ⊥) → or_none none some letter ≡ some letter
  unfolding or_none
  some_text letter h = rw (ne_eqb letter 0 h)

-- "coherent", "incoherent 4"
pub coherence_form : (n : ℕ) → coherence_line n ≡ letter_text (99 ∷ 111 ∷ 104 ∷ 101 ∷ 114 ∷ 101 ∷ 110 ∷ 116 ∷ 10 ∷ [])
    (105 ∷ 110 ∷ 99 ∷ 111 ∷ 104 ∷ 101 ∷ 114 ∷ 101 ∷ 110 ∷ 116 ∷ 32 ∷ 52 ∷ 10 ∷ []) n
unfolding or_none incoherent_line line filled_in part
coherence_form n = refl

-- "feasible", "infeasible 4"
pub feasibility_form : (n : ℕ) → feasibility_line n ≡ letter_text (102 ∷ 101 ∷ 97 ∷ 115 ∷ 105 ∷ 98 ∷ 108 ∷ 101 ∷ 10 ∷ [])
    (105 ∷ 110 ∷ 102 ∷ 101 ∷ 97 ∷ 115 ∷ 105 ∷ 98 ∷ 108 ∷ 101 ∷ 32 ∷ 52 ∷ 10 ∷ []) n
unfolding or_none infeasible_line line filled_in part
feasibility_form n = refl

-- ── lengths ──
coherence_few : (n : ℕ) → n < 2 ^ 64 → length (coherence_line n) ≤ 32
unfolding or_none incoherent_line line
coherence_few n h = by_test (eqb n 0) (λ t. rw t (omega arith)) λ t. rw t (simp length-append (omega (arith, long_number n h)))

feasibility_few : (n : ℕ) → n < 2 ^ 64 → length (feasibility_line n) ≤ 32
unfolding or_none infeasible_line line
feasibility_few n h = by_test (eqb n 0) (λ t. rw t (omega arith)) λ t. rw t (simp length-append (omega (arith, long_number n h)))

judged_few : (k n : ℕ) → k < 2 ^ 64 → n < 2 ^ 64 → length (coherence_line k ++ feasibility_line n) ≤ most_monitor_line_bytes
judged_few k n h l = omega (arith, coherence_few k h, feasibility_few n l, length-append (coherence_line k) (feasibility_line n))

few_room : {text : List ℕ} → length text ≤ most_monitor_line_bytes → PlaceInRange 0 text
few_room h = record { fits = omega (arith, h) }

-- ── the two lines of a trace that is judged ──
module _ (k n : ℕ) (h : k < 2 ^ 64) (l : n < 2 ^ 64) where
  pub coherence_room : PlaceInRange 0 (coherence_line k)
  coherence_room = room_first (coherence_line k) (feasibility_line n) (few_room (judged_few k n h l))

  module _ {entry middle : List ℕ} {next : ℕ} (a : Appended entry 0 (coherence_line k) middle next) where
    pub feasibility_room : PlaceInRange next (feasibility_line n)
    feasibility_room = room_then (coherence_line k) (feasibility_line n) (few_room (judged_few k n h l)) a

  pub judged_prints : (v : RunAnswer) {entry exit : List ℕ} {size : ℕ} → v ≡ Judged k n → Appended entry 0 (coherence_line k ++ feasibility_line n) exit size
      → PrintsMonitorLines (run_answer v) entry size exit
  unfolding answer_lines
  judged_prints v {entry} {exit} {size} e a = subst (λ (w : RunAnswer). PrintsMonitorLines (run_answer w) entry size exit)
      (sym e) record { few = judged_few k n h l; appended = a }

-- ── the line of a refusal ──
module _ (number place : ℕ) (h : number < 2 ^ 64) (l : place < 2 ^ 64) where
  pub refused_prints : (v : RunAnswer) {entry exit : List ℕ} {size : ℕ} → v ≡ Refused number place → Appended entry 0 (refused_line number place) exit size
      → PrintsMonitorLines (run_answer v) entry size exit
  unfolding answer_lines
  refused_prints v {entry} {exit} {size} e a = subst (λ (w : RunAnswer). PrintsMonitorLines (run_answer w) entry size exit)
      (sym e) record { few = refused_few (omega arith) number place h l; appended = a }

-- ── in a buffer that is large enough, all lines are there ──
module _ {answer : Answer (ℕ × ℕ)} {entry exit : List ℕ} {size : ℕ} (p : PrintsMonitorLines answer entry size exit)
    (room : most_monitor_line_bytes ≡ length entry) where
  pub prints_within : size ≤ length exit
  prints_within = omega (arith, p.few, p.appended.place, appended_length p.appended, room)

  pub prints_length : size ≡ length (take size exit)
  prints_length = sym (length-take-le size exit prints_within)
