-- What is written becomes the program's lines.
use mathlib.Core.Path.{◌≡◌, refl, sym, ap, ◌∙◌}
use mathlib.Core.List.{List, [], ◌∷◌, ◌++◌}
use Prim.Native.Nat.{ℕ, suc, ◌+◌, ◌-◌, ◌*◌, ◌^◌, ◌≤◌, ◌<◌}
use native.Mathlib.Omega.{arith}
use lib.Dec.{leb}
use lib.ListN.{length, get_or, take, drop, length-append, length-drop}
use lib.Seq.{length-take-le, drop-cons}
use borrow.Author.Tests.{le-leb, lt-leb}
use Rattle.base.proofs.Theory.Choice.{by_test}
use Rattle.letters.specs.declared.Header.{Header}
use Rattle.letters.specs.Answers.{value}
use Rattle.letters.specs.Editions.{first_edition}
use Rattle.traces.specs.Reading.{TraceReading, trace, reading}
use Rattle.traces.specs.ReadingParts.{counted}
use Rattle.letters.specs.Reasons.{as_answer}
use Rattle.std.specs.Prelude.{Result, Ok, Err}
use Rattle.letters.specs.declared.reasons.Refused.{Refused}
use Rattle.letters.specs.Reasons.{number_of}
use Rattle.letters.proofs.Theory.WordLaws.{first_roomy}
use Rattle.traces.proofs.Theory.TraceLaws.{read}
use Rattle.text.specs.Appending.{Appended}
use Rattle.text.proofs.Theory.Appending.{LeftToAppend, left_all, left_next, left_none, left_same, appended_same, appended_then, stored_between}
use Rattle.report.specs.Lines.{refused_line}
use Rattle.report.proofs.Theory.Bound.{refused_few}
use Rattle.streaming.specs.Monitor.{start_of, advance}
use Rattle.streaming.specs.declared.Monitor.{Monitor}
use Rattle.streaming.specs.Outcome.{Stepped}
use Rattle.display_lines.specs.Lines.{fresh_word}
use Rattle.display_lines.specs.Display.{monitor_line, judged_line, lines_after, trace_lines, display_lines}
use Rattle.display_lines.specs.Prints.{most_trace_bytes, longest_line, most_display_lines, most_display_line_bytes, PrintsDisplayLines}
use Rattle.display_lines.proofs.Theory.Saying.{display_says}

-- ── the lines behind a letter ──
module _ (bytes : List ℕ) (i : ℕ) (n : ℕ) (m : Monitor) where
  pub lines_next : 1 < length bytes - i → (w : ℕ) → w ≡ get_or bytes i 0 * 256 + get_or bytes (i + 1) 0
      → lines_after n m (drop i bytes)
      ≡ judged_line (n + 1) (advance m w).monitor ++ lines_after (n + 1) (advance m w).monitor (drop (i + 2) bytes)
  unfolding lines_after
  lines_next h w e =
      let one : suc i ≡ i + 1 = omega arith in
      let two : suc (i + 1) ≡ i + 2 = omega arith in
      let s : drop i bytes ≡ get_or bytes i 0 ∷ get_or bytes (i + 1) 0 ∷ drop (i + 2) bytes =
      drop-cons bytes i 0 (omega arith) ∙ ap (λ (k : ℕ). get_or bytes i 0 ∷ drop k bytes) one
      ∙ ap (λ (l : List ℕ). get_or bytes i 0 ∷ l) (drop-cons bytes (i + 1) 0 (omega arith) ∙ ap (λ (k : ℕ). get_or bytes (i + 1) 0 ∷ drop k bytes) two) in
      rw (e, s) refl

  -- A last byte without its other half has no line.
  pub lines_none : length bytes - i ≤ 1 → lines_after n m (drop i bytes) ≡ []
  unfolding lines_after
  lines_none h = none (drop i bytes) (omega (arith, length-drop i bytes))
    where
      none : (s : List ℕ) → length s ≤ 1 → lines_after n m s ≡ []
      none [] l = refl
      none (x ∷ []) l = refl
      none (x ∷ y ∷ s) l = absurd (omega arith)

-- ── letter after letter ──
-- So many letters have their lines; those of the letters from byte i on are left.
pub record LettersSoFar (out₀ : List ℕ) (at : ℕ) (s : List ℕ) (m₀ : Monitor) (out : List ℕ) (m : Monitor) (next letters i : ℕ) : Type 0 where
  pub left : LeftToAppend out₀ at (lines_after 0 m₀ (drop first_edition.bytes s)) (lines_after letters m (drop i s)) out next
  pub count : 2 * letters + 2 ≡ i
  pub within : i ≤ length s
  pub few : next ≤ longest_line * letters + longest_line

module _ {out₀ : List ℕ} {at : ℕ} {s : List ℕ} {m₀ : Monitor} where
  pub letters_none : at ≤ longest_line → first_edition.bytes ≤ length s → LettersSoFar out₀ at s m₀ out₀ m₀ at 0 first_edition.bytes
  letters_none h l = record { left = left_all _ _ _; count = refl; within = l; few = omega arith }

  module _ {out : List ℕ} {m : Monitor} {next letters i : ℕ} (x : LettersSoFar out₀ at s m₀ out m next letters i) where
    pub letters_more : 1 < length s - i → (w : ℕ) → w ≡ get_or s i 0 * 256 + get_or s (i + 1) 0 → (r : Stepped) → r ≡ advance m w → {exit : List ℕ} {end : ℕ}
        → Appended out next (judged_line (letters + 1) r.monitor) exit end → end ≤ next + longest_line
        → LettersSoFar out₀ at s m₀ exit r.monitor end (letters + 1) (i + 2)
    letters_more h w e r q a f =
        let line = judged_line (letters + 1) r.monitor in
        let rest = lines_after (letters + 1) r.monitor (drop (i + 2) s) in
        let n : lines_after letters m (drop i s) ≡ line ++ rest =
        lines_next s i letters m h w e
        ∙ ap (λ (t : Stepped). judged_line (letters + 1) t.monitor ++ lines_after (letters + 1) t.monitor (drop (i + 2) s)) (sym q) in
        record {
          left = left_next line rest (left_same n x.left) a;
          count = omega (arith, x.count);
          within = omega (arith, x.within);
          few = omega (arith, x.few);
        }

    module _ (short : length s ≤ most_trace_bytes) where
      pub letters_room : 1 < length s - i → (next ≤ most_display_line_bytes) × (letters + 1 < most_display_lines)
      letters_room h = (omega (arith, x.few, x.count), omega (arith, x.count))

      pub letters_done : length s - i ≤ 1 → Appended out₀ at (lines_after 0 m₀ (drop first_edition.bytes s)) out next × (next ≤ most_display_line_bytes)
      letters_done h = (left_none (left_same (lines_none s i letters m h) x.left), omega (arith, x.few, x.count, x.within))

-- ── the line before the first letter, and those after each ──
pub trace_printed : (s : List ℕ) {entry middle exit : List ℕ} {next size : ℕ} (w : ℕ) → w ≡ get_or s 0 0 * 256 + get_or s 1 0 → (r : Stepped) → r ≡ start_of w
    → Appended entry 0 (monitor_line fresh_word 0 r.monitor) middle next
    → Appended middle next (lines_after 0 r.monitor (drop first_edition.bytes s)) exit size → Appended entry 0 (trace_lines s) exit size
unfolding trace_lines
trace_printed s w e r q a b =
    let lines : Stepped → List ℕ = λ t. monitor_line fresh_word 0 t.monitor ++ lines_after 0 t.monitor (drop first_edition.bytes s) in
    appended_same (ap lines (q ∙ ap start_of e)) (appended_then _ _ a b)

-- ── what the reader says ──
module _ (s : List ℕ) (r : Result (Header × ℕ) Refused) (a : as_answer r ≡ counted (reading first_edition s)) where
  pub lines_judged : (h : Header) (n : ℕ) → r ≡ Ok (h, n) → display_lines s ≡ trace_lines s
  unfolding display_lines
  lines_judged h n e = rw (← a, e) refl

  pub lines_refused : (e : Refused) → r ≡ Err e → display_lines s ≡ refused_line (number_of e.reason) e.place
  unfolding display_lines
  lines_refused f e = rw (← a, e) refl

  -- A trace that is read has a header.
  pub header_there : (h : Header) (n : ℕ) → r ≡ Ok (h, n) → first_edition.bytes ≤ length s
  header_there h n e = go (reading first_edition s) refl (sym (ap as_answer e) ∙ a)
    where
      go : (q : TraceReading) → reading first_edition s ≡ q → value (h, n) ≡ counted q → first_edition.bytes ≤ length s
      go (trace g letters) p x = (read first_edition first_roomy s g letters p).enough
      go (TraceReading.refused number place) p x = absurd (let z : ◌≡◌ {A = ℕ} 0 1 = cc in omega arith)

-- ── in a buffer ──
module _ (s entry : List ℕ) where
  pub small_kept : length entry < most_display_line_bytes → PrintsDisplayLines s entry 0 entry
  small_kept l = let t = lt-leb most_display_line_bytes (length entry) l in
      record { lines = display_lines s; says = display_says s; few = omega arith; given = rw t refl; stands = rw t refl }

  module _ (room : most_display_line_bytes ≤ length entry) (exit : List ℕ) (size : ℕ) (few : size ≤ most_display_line_bytes) where
    pub all_printed : Appended entry 0 (display_lines s) exit size → PrintsDisplayLines s entry size exit
    all_printed a =
        let t = le-leb most_display_line_bytes (length entry) room in
        let l = display_lines s in
        let n : 0 + length l ≡ length l = omega arith in
        let f : exit ≡ l ++ drop (0 + length l) entry = a.bytes ∙ stored_between entry 0 l (omega (arith, a.place)) in
        record {
          lines = l;
          says = display_says s;
          few = few;
          given = rw t (a.place ∙ n);
          stands = rw t (f ∙ ap (λ (k : ℕ). l ++ drop k entry) n);
        }

-- The line of a refusal is far shorter.
pub refusal_few : (number place size : ℕ) {entry exit : List ℕ} → number < 2 ^ 64 → place < 2 ^ 64 → Appended entry 0 (refused_line number place) exit size
    → size ≤ most_display_line_bytes
refusal_few number place size h l a =
    let f : length (refused_line number place) ≤ most_display_line_bytes = refused_few (omega arith) number place h l in
    omega (arith, a.place)

-- ── what is given lies within the buffer ──
module _ {s entry exit : List ℕ} {size : ℕ} (x : PrintsDisplayLines s entry size exit) where
  pub prints_within : size ≤ length exit
  prints_within = by_test (leb most_display_line_bytes (length entry))
      (λ t.
      let g : size ≡ length x.lines = x.given ∙ rw t refl in
      let e : exit ≡ x.lines ++ drop (length x.lines) entry = x.stands ∙ rw t refl in
      omega (arith, ap length e, length-append x.lines (drop (length x.lines) entry)))
      (λ t. let g : size ≡ 0 = x.given ∙ rw t refl in omega arith)

  pub prints_length : size ≡ length (take size exit)
  prints_length = sym (length-take-le size exit prints_within)
