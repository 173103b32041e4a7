-- The lines that the monitor's calls lead to say what they have to say of the trace.
use mathlib.Core.Path.{◌≡◌, refl, sym, ap, ◌∙◌}
use mathlib.Core.List.{List, [], ◌∷◌}
use Prim.Native.Nat.{ℕ, zero, suc, ◌+◌, ◌*◌}
use native.Mathlib.Omega.{arith}
use lib.ListN.{length}
use Rattle.letters.specs.declared.Header.{Header}
use Rattle.letters.specs.declared.Letter.{Letter}
use Rattle.letters.specs.Answers.{value}
use Rattle.letters.specs.Editions.{first_edition}
use Rattle.letters.specs.Packing.{join}
use Rattle.letters.specs.Coding.{decode_header, decode_letter}
use Rattle.letters.proofs.Theory.WordLaws.{first_roomy, decode-header, decode-letter}
use Rattle.traces.specs.Reading.{trace, chunks, letter_in, letter_count, reading}
use Rattle.traces.proofs.Theory.TraceLaws.{Decoded, read}
use Rattle.semantics.specs.Terms.{Trace, begin, ◌▸◌, state}
use Rattle.semantics.specs.Judgement.{size}
use Rattle.semantics.proofs.Theory.Booleans.{is_true, is_false}
use Rattle.window.proofs.Theory.Exact.{count_of_longest}
use Rattle.unequal_flags.proofs.Theory.Exact.{word_exact, word_of_longest}
use Rattle.streaming.specs.Monitor.{start_of, advance}
use Rattle.streaming.specs.Meanings.{Monitors}
use Rattle.streaming.proofs.Theory.Meanings.{starts, advances}
use Rattle.streaming.specs.declared.Monitor.{Monitor}
use Rattle.report.specs.Lines.{incoherent_word, coherent_word}
use Rattle.display_lines.specs.Lines.{fresh_word, state_line}
use Rattle.display_lines.specs.Display.{displayed_word, monitor_line, judged_line, lines_after, trace_lines, display_lines}
use Rattle.display_lines.specs.Says.{ShowsState, JudgesLast, SaysLetters, SaysTrace, SaysDisplay}

-- ── one line ──
module _ (ρ : Trace) (m : Monitor) (t : Monitors ρ m) (n : ℕ) (e : n ≡ size ρ) where
  shown : (said : List ℕ) → ShowsState ρ said (monitor_line said n m)
  unfolding monitor_line
  shown said = record {
    classes = m.window.classes;
    word = displayed_word m.window;
    counts = λ π l. count_of_longest ρ π t.follows.formed l m.window t.follows.holds;
    flags = λ π l. word_of_longest ρ π t.follows.formed l m.window t.follows.holds (displayed_word m.window)
        (λ σ v h. word_exact σ v m.window h);
    line_is = ap (λ (k : ℕ). state_line said k m.window.classes (displayed_word m.window)) e;
  }

  judged_last : JudgesLast ρ (judged_line n m)
  unfolding judged_line monitor_line
  judged_last = record {
    coherent = λ c. rw (is_true m.running (t.running.1 c)) (shown coherent_word);
    incoherent = λ c. rw (is_false m.running (λ r. c (t.running.0 r))) (shown incoherent_word);
  }

-- ── one letter more ──
unit_two : (x y : ℕ) → join (8 ∷ 8 ∷ []) (x ∷ y ∷ []) ≡ x * 256 + y
unit_two x y = omega arith

monitors_more : (ρ : Trace) (m : Monitor) → Monitors ρ m → (w : ℕ) (a : Letter) → decode_letter first_edition (state ρ).header w ≡ value a
    → Monitors (ρ ▸ a) (advance m w).monitor
monitors_more ρ m t w a e =
    let (_, f, q) = (decode-letter first_roomy (state ρ).header w a).0 e in
    ((advances m w (advance m w) refl).taken ρ t a f q).1

letters_said : (k : ℕ) (s : List ℕ) (letters : List Letter) (ρ : Trace) (m : Monitor) (n : ℕ) → length s ≡ 2 * k → Monitors ρ m → n ≡ size ρ
    → Decoded (letter_in first_edition (state ρ).header) (chunks 2 k s) letters → SaysLetters ρ letters (lines_after n m s)
unfolding chunks lines_after
letters_said zero [] [] ρ m n l t e d = refl
letters_said zero [] (a ∷ letters) ρ m n l t e d = absurd d
letters_said zero (x ∷ s) letters ρ m n l t e d = absurd (omega arith)
letters_said (suc k) [] letters ρ m n l t e d = absurd (omega arith)
letters_said (suc k) (x ∷ []) letters ρ m n l t e d = absurd (omega arith)
letters_said (suc k) (x ∷ y ∷ s) [] ρ m n l t e d = absurd d
letters_said (suc k) (x ∷ y ∷ s) (a ∷ letters) ρ m n l t e d =
    let w = x * 256 + y in
    let next = (advance m w).monitor in
    let q : decode_letter first_edition (state ρ).header w ≡ value a = ap (decode_letter first_edition (state ρ).header) (sym (unit_two x y)) ∙ d.0 in
    let after : Monitors (ρ ▸ a) next = monitors_more ρ m t w a q in
    let count : n + 1 ≡ size (ρ ▸ a) = omega arith in (
      judged_line (n + 1) next,
      lines_after (n + 1) next s,
      refl,
      judged_last (ρ ▸ a) next after (n + 1) count,
      letters_said k s letters (ρ ▸ a) next (n + 1) (omega arith) after count d.1,
    )

-- ── a whole trace ──
trace_said : (s : List ℕ) (h : Header) (letters : List Letter) → reading first_edition s ≡ trace h letters → SaysTrace h letters (trace_lines s)
unfolding trace_lines
trace_said [] h letters e = let x = read first_edition first_roomy [] h letters e in absurd (omega (arith, x.enough))
trace_said (x ∷ []) h letters e = let r = read first_edition first_roomy (x ∷ []) h letters e in absurd (omega (arith, r.enough))
trace_said (x ∷ y ∷ s) h letters e =
    let r = read first_edition first_roomy (x ∷ y ∷ s) h letters e in
    let w = x * 256 + y in
    let m = (start_of w).monitor in
    let q : decode_header first_edition w ≡ value h = ap (decode_header first_edition) (sym (unit_two x y)) ∙ r.header in
    let (v, p) = (decode-header first_roomy w h).0 q in
    let t : Monitors (begin h) m = ((starts w (start_of w) refl).taken h v p).1 in
    let l : length s ≡ 2 * letter_count first_edition (x ∷ y ∷ s) = omega (arith, r.whole) in
    record {
      first = monitor_line fresh_word 0 m;
      rest = lines_after 0 m s;
      whole = refl;
      fresh = shown (begin h) m t 0 refl fresh_word;
      each = letters_said (letter_count first_edition (x ∷ y ∷ s)) s letters (begin h) m 0 l t refl r.letters;
    }

pub display_says : (s : List ℕ) → SaysDisplay s (display_lines s)
unfolding display_lines
display_says s = record {
  refused = λ number place e. rw e refl;
  judged = λ h letters e. rw e (trace_said s h letters e);
}
