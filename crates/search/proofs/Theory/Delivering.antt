-- The answer for an event, and what the output then holds: the packed trace, and on fail the shown model behind it.
use mathlib.Core.Path.{◌≡◌, refl, sym, ap, ◌∙◌, subst}
use mathlib.Core.Logic.{inl, inr}
use mathlib.Core.Bool.{false}
use mathlib.Core.List.{List, [], ◌∷◌, ◌++◌, append_assoc, map}
use Prim.Native.Nat.{ℕ, suc, ◌-◌, ◌*◌, ◌≤◌, ◌<◌}
use native.Mathlib.Omega.{arith}
use lib.Dec.{leb, ltb}
use lib.ListN.{length, drop, length-append, length-drop, length-map}
use lib.Seq.{drop-drop}
use borrow.Author.Tests.{le-ltb, eq-eqb, leb-true, leb-false}
use Rattle.base.specs.Choice.{pick}
use Rattle.base.proofs.Theory.Choice.{by_test}
use Rattle.letters.specs.declared.Header.{Header}
use Rattle.letters.specs.declared.Letter.{Letter}
use Rattle.letters.specs.Editions.{first_edition, most_letters}
use Rattle.letters.specs.Letters.{HeaderFits}
use Rattle.letters.specs.Words.{header_word, letter_word}
use Rattle.letters.proofs.Theory.WordLaws.{first_roomy}
use Rattle.letters.specs.Answers.{on_answer}
use Rattle.traces.specs.Reading.{trace, TraceReading, beginning, letter_count, letters_of, reading_where}
use Rattle.traces.specs.ReadingParts.{reading_within}
use Rattle.traces.specs.Traces.{AllFit, packing}
use Rattle.letters.specs.RefusalNumbers.{output_too_small, trace_too_long}
use Rattle.traces.proofs.Theory.TraceLaws.{reading_packing, bytes_length}
use Rattle.semantics.specs.Terms.{Trace, begin, ◌▸◌, extend, trace_of, State, state}
use Rattle.semantics.specs.Facts.{WellFormed}
use Rattle.semantics.specs.Models.{Feasible}
use Rattle.semantics.specs.PackedTables.{pack_tables}
use Rattle.semantics.specs.ShownTables.{tables_of}
use Rattle.semantics.specs.FirstLetters.{first_infeasible}
use Rattle.semantics.proofs.Theory.JudgementLaws.{first_infeasible_unique}
use Rattle.model_writer.specs.Answer.{ShowResult, shown_answer, ModelAnswer, model_bytes, fitted, laid_in, answer_to, output_after, Showed}
use Rattle.model_writer.specs.Answer as answer
use Rattle.verdict_theory.specs.Verdict.{VerdictAnswer, unfit, breaking, failing, Delivered}
use Rattle.verdict_theory.specs.AnswerPacking.{packed}

header_stays : (ρ : Trace) (ls : List Letter) → (state (extend ρ ls)).header ≡ (state ρ).header
header_stays ρ [] = refl
header_stays ρ (a ∷ ls) = header_stays (ρ ▸ a) ls

module _ (h : Header) (ls : List Letter) (output : List ℕ) (a : VerdictAnswer) where
  abbrev s : List ℕ
  s = packing first_edition h ls

  -- ── incoherent: the trace alone ──
  pub delivered_trace : length (packing first_edition h ls) ≤ length output
      → Delivered (packed first_edition (begin h) breaking ls) a output a (packing first_edition h ls ++ drop (length (packing first_edition h ls)) output)
  unfolding packed
  delivered_trace l = inl (l, refl, refl)

  pub refused_trace : length output < length (packing first_edition h ls) → Delivered (packed first_edition (begin h) breaking ls) a output unfit output
  unfolding packed
  refused_trace l = inr (l, refl, refl)

  -- on fail the trace alone may be too long already
  pub refused_failing : length output < length (packing first_edition h ls) → Delivered (packed first_edition (begin h) failing ls) a output unfit output
  unfolding packed
  refused_failing l = inr (simp length-append (omega arith), refl, refl)

  -- ── fail: the model behind it ──
  module _ (v : HeaderFits first_edition h) (fit : AllFit h ls) (few : length ls ≤ most_letters) (formed : WellFormed (trace_of h ls))
      (feasible : Feasible (state (trace_of h ls))) where
    abbrev σ : State
    σ = state (trace_of h ls)

    long : length s ≡ 2 * suc (length ls)
    unfolding packing
    long = bytes_length first_edition first_roomy (header_word first_edition h ∷ map (letter_word first_edition h) ls)
        ∙ ap (λ n. 2 * suc n) (length-map ls (letter_word first_edition h))

    read_within : reading_within most_letters first_edition s ≡ trace h ls
    unfolding reading_where
    read_within = same (le-ltb most_letters (letter_count first_edition s) (omega (arith, long))) ∙ reading_packing first_edition first_roomy h ls v fit
      where
        same : ltb most_letters (letter_count first_edition s) ≡ false
            → reading_where (ltb most_letters) first_edition s ≡ reading_where (λ _. false) first_edition s
        same e = λ i. on_answer (beginning first_edition s)
            (λ g. pick (e i) (λ _. TraceReading.refused trace_too_long 0) λ _. letters_of first_edition g s) TraceReading.refused

    possible : first_infeasible (trace_of h ls) ≡ 0
    possible = sym (first_infeasible_unique (trace_of h ls) formed 0 feasible)

    abbrev out : List ℕ
    out = drop (length (packing first_edition h ls)) output

    module _ (r : ShowResult) (out' : List ℕ) (w : Showed (packing first_edition h ls) (drop (length (packing first_edition h ls)) output) r out') where
      told : shown_answer r ≡ fitted (model_bytes σ) (length out)
      unfolding answer_to
      told = w.answer ∙ ap (λ x. answer_to x (length out)) read_within ∙ rw (eq-eqb (first_infeasible (trace_of h ls)) 0 possible) refl

      left : out' ≡ laid_in (model_bytes σ) out
      unfolding output_after
      left = w.output ∙ ap (λ x. output_after x out) read_within ∙ rw (eq-eqb (first_infeasible (trace_of h ls)) 0 possible) refl

      bytes_are : packed first_edition (begin h) failing ls ≡ s ++ model_bytes σ
      unfolding packed model_bytes
      bytes_are = ap (λ g. s ++ pack_tables first_edition g (tables_of σ)) (sym (header_stays (begin h) ls))

      room : length out ≡ length output - length s
      room = length-drop (length s) output

      -- where no model is written the output stays
      pub behind_kept : ((k : ℕ) → shown_answer r ≡ ModelAnswer.model k → ⊥) → out' ≡ out
      behind_kept n = by_test (leb (length (model_bytes σ)) (length out)) (λ y. absurd (n (length (model_bytes σ)) (told ∙ rw y refl))) (λ y. left ∙ rw y refl)

      pub delivered_model : (k : ℕ) → length (packing first_edition h ls) ≤ length output → shown_answer r ≡ ModelAnswer.model k
          → Delivered (packed first_edition (begin h) failing ls) a output a (packing first_edition h ls ++ out')
      delivered_model k l e = by_test (leb (length (model_bytes σ)) (length out))
          (λ y.
          let q = leb-true (length (model_bytes σ)) (length out) y in
          let z : out' ≡ model_bytes σ ++ drop (length (model_bytes σ)) out = left ∙ rw y refl in
          subst (λ bs. Delivered bs a output a (s ++ out')) (sym bytes_are) (inl (
            simp length-append (omega (arith, room)),
            refl,
            ap (λ t. s ++ t) z ∙ sym (append_assoc s (model_bytes σ) (drop (length (model_bytes σ)) out))
                ∙ ap (λ t. (s ++ model_bytes σ) ++ t)
                (drop-drop (length (model_bytes σ)) (length s) output ∙ ap (λ n. drop n output) (sym (length-append s (model_bytes σ)))),
          )))
          (λ y. absurd (differ (sym e ∙ told ∙ rw y refl)))
        where
          differ : ModelAnswer.model k ≡ answer.refusal output_too_small 0 → ⊥
          differ f = let z : ◌≡◌ {A = ℕ} 0 1 = cc in omega arith

      pub refused_model : length (packing first_edition h ls) ≤ length output → ((k : ℕ) → shown_answer r ≡ ModelAnswer.model k → ⊥)
          → Delivered (packed first_edition (begin h) failing ls) a output unfit output
      refused_model l n = by_test (leb (length (model_bytes σ)) (length out))
          (λ y. absurd (n (length (model_bytes σ)) (told ∙ rw y refl)))
          (λ y.
          let q = leb-false (length (model_bytes σ)) (length out) y in
          subst (λ bs. Delivered bs a output unfit output) (sym bytes_are) (inr (simp length-append (omega (arith, room)), refl, refl)))
