-- Request 6, how many classes are alive, sentence by sentence.
use mathlib.Core.Path.{◌≡◌, refl, sym, ap, ◌∙◌, subst}
use mathlib.Core.Logic.{◌↔◌}
use mathlib.Core.Bool.{true, false}
use mathlib.Core.List.{List, [], ◌∷◌}
use Prim.Native.Nat.{ℕ, ◌≤◌, ◌<◌}
use native.Mathlib.Omega.{arith}
use lib.Dec.{ltb, T}
use borrow.Author.Tests.{ltb-false}
use Rattle.base.proofs.Theory.Choice.{by_test}
use Rattle.letters.specs.declared.Header.{Header}
use Rattle.letters.specs.declared.Letter.{Letter}
use Rattle.letters.specs.Answers.{Answer, value, refusal, on_answer}
use Rattle.letters.specs.Coding.{decode_letter}
use Rattle.letters.specs.Editions.{first_edition}
use Rattle.letters.specs.Letters.{HeaderFits, Fits}
use Rattle.letters.specs.Words.{header_word, letter_word}
use Rattle.letters.proofs.Theory.WordLaws.{first_roomy, decode-letter}
use Rattle.semantics.specs.Terms.{Trace, begin, ◌▸◌, State, start, state}
use Rattle.semantics.specs.Coherence.{CoherentLetter}
use Rattle.semantics.specs.Facts.{WellFormed, Valid}
use Rattle.semantics.specs.Judgement.{Longest}
use Rattle.semantics.specs.SameWindow.{SameWindow}
use Rattle.semantics.specs.View.{Tracks}
use Rattle.semantics.proofs.Theory.Facts.{state_valid}
use Rattle.window.specs.Classes.{ClassCount}
use Rattle.window.specs.Counting.{count_at_start, counted_classes}
use Rattle.window.specs.Performing.{WithinLayout, fresh_in_layout, perform_in_layout, with_tables}
use Rattle.window.specs.Perform.{judge_of}
use Rattle.window.specs.Step.{IsWindow}
use Rattle.window.specs.Stepping.{IsWindowInLayout}
use Rattle.window.specs.Viewing.{view, Inside}
use Rattle.window.specs.declared.Window.{Window}
use Rattle.window.proofs.Theory.Stepping.{holds_fresh, performed}
use Rattle.window.proofs.Theory.Exact.{count_exact_in, count_of_longest, count_unique, counted_is, count_follows}
use Rattle.records.specs.Formats.{Format, encoded_in_format, content_of}
use Rattle.records.specs.Records.{encoded}
use Rattle.stored.proofs.Theory.SamePair.{same_pair}
use Rattle.streaming.specs.Monitor.{idle_of, start_of, moved_of, advance}
use Rattle.streaming.specs.Meanings.{Monitors}
use Rattle.streaming.specs.declared.Monitor.{Monitor}
use Rattle.streaming.proofs.Theory.Meanings.{starts, advances}
use Rattle.theorems.specs.MonitorWords.{after_words, taken_letters}

-- ---- "From a fresh window on, it equals the count of classes there and after every letter, refused and incoherent ones included."

-- The monitor after these words, from one that is the monitor of a trace.
monitors_words : (words : List ℕ) (ρ : Trace) (m : Monitor) → Monitors ρ m → Monitors (taken_letters ρ words) (after_words m words)
unfolding taken_letters after_words
monitors_words [] ρ m t = t
monitors_words (word ∷ words) ρ m t = go (monitors_words words) (decode_letter first_edition (state ρ).header word) refl
  where
    go : ((κ : Trace) (k : Monitor) → Monitors κ k → Monitors (taken_letters κ words) (after_words k words)) → (r : Answer Letter)
        → decode_letter first_edition (state ρ).header word ≡ r
        → Monitors (on_answer r (λ a. taken_letters (ρ ▸ a) words) λ _ _. taken_letters ρ words) (after_words (advance m word).monitor words)
    go again (value a) e =
        let (_, fits, same) = (decode-letter first_roomy (state ρ).header word a).0 e in
        again (ρ ▸ a) (advance m word).monitor ((advances m word (advance m word) refl).taken ρ t a fits same).1
    go again (refusal number place) e =
        let none : (a : Letter) → Fits (state ρ).header a → letter_word first_edition (state ρ).header a ≡ word → ⊥ =
        (λ a fits same. let q = sym e ∙ (decode-letter first_roomy (state ρ).header word a).1 (t.fits, fits, same) in
        subst T (ap (λ r. on_answer r (λ _. false) λ _ _. true) q) tt) in
        let still = ((advances m word (advance m word) refl).refused ρ t none).1 in
        again ρ (advance m word).monitor (subst (Monitors ρ) (sym still) t)

-- Of a monitor that is started with a header and then given any words, the number is that of the longest coherent beginning of the letters taken.
pub the_number_is_exact_after_any_words : (h : Header) → HeaderFits first_edition h → (words : List ℕ) (π : Trace)
    → Longest (taken_letters (begin h) words) π
    → ClassCount (state π) (after_words (start_of (header_word first_edition h)).monitor words).window.classes
the_number_is_exact_after_any_words h fits words π l =
    let m = (start_of (header_word first_edition h)).monitor in
    let t = monitors_words words (begin h) m ((starts (header_word first_edition h) (start_of (header_word first_edition h)) refl).taken h fits refl).1 in
    count_of_longest (taken_letters (begin h) words) π t.follows.formed l (after_words m words).window t.follows.holds

-- Its steps, for every number of registers ρ and of functions φ that a window has room for: a header alone has as many classes as registers;
module _ (ρ φ : ℕ) where
  pub the_number_of_a_fresh_window_is_exact : (h : Header) → h.registers ≤ ρ
      → ((fresh_in_layout ρ φ h.registers).classes ≡ h.registers) × ClassCount (start h) (fresh_in_layout ρ φ h.registers).classes
  unfolding count_at_start
  the_number_of_a_fresh_window_is_exact h b = (
    by_test (ltb h.registers ρ) (λ t. rw t) (λ t. let l = ltb-false h.registers ρ t in let e : ρ ≡ h.registers = omega arith in rw t e),
    count_exact_in ρ φ (start h) (state_valid (begin h) tt) (fresh_in_layout ρ φ h.registers) (holds_fresh ρ φ h b),
  )

  -- a coherent letter, which is performed, leaves the number of the longer trace;
  pub the_number_after_a_coherent_letter_is_exact : (π : Trace) (a : Letter) → WellFormed π → WithinLayout ρ φ a → (f : Fits (state π).header a)
      → CoherentLetter (state π) a → (w : Window) → IsWindowInLayout ρ φ (state π) w → ClassCount (state (π ▸ a)) (perform_in_layout ρ φ w a).classes
  the_number_after_a_coherent_letter_is_exact π a f b t c w h =
      count_exact_in ρ φ (state (π ▸ a)) (state_valid (π ▸ a) (f, t)) (perform_in_layout ρ φ w a) (performed ρ φ (state π) (state_valid π f) w h a b t c)

-- an incoherent letter and a refused one leave the window, of whatever monitor, and so do the letters behind an incoherent one;
pub an_incoherent_letter_leaves_the_window : (m : Monitor) (word : ℕ) (a : Letter) → decode_letter first_edition m.header word ≡ value a
    → judge_of m.window a ≡ false → (advance m word).monitor.window ≡ m.window
unfolding advance moved_of
an_incoherent_letter_leaves_the_window m word a d e = by_test m.running (λ t. rw (d, t, e)) (λ t. rw (d, t))

pub the_letters_behind_it_leave_the_window : (m : Monitor) (word : ℕ) (a : Letter) → decode_letter first_edition m.header word ≡ value a
    → m.running ≡ false → (advance m word).monitor.window ≡ m.window
unfolding advance moved_of
the_letters_behind_it_leave_the_window m word a d e = rw (d, e)

pub a_refused_letter_leaves_the_monitor : (m : Monitor) (word number place : ℕ) → decode_letter first_edition m.header word ≡ refusal number place
    → (advance m word).monitor ≡ m
unfolding advance
a_refused_letter_leaves_the_monitor m word number place e = rw e

-- and what comes with a refused start has no classes.
pub a_refused_start_has_none : idle_of.window.classes ≡ 0
unfolding count_at_start
a_refused_start_has_none = refl

-- ---- what "the count of classes" is

-- A state has one number of classes.
pub there_is_no_other : (σ : State) (n m : ℕ) → ClassCount σ n → ClassCount σ m → n ≡ m
there_is_no_other = count_unique

-- What a window of a state has to keep is that number, and nothing else.
pub a_window_keeps_that_number : (ρ φ : ℕ) (σ : State) → Valid σ → (w : Window) → Tracks σ (view ρ φ w) → Inside ρ σ.header.registers (view ρ φ w)
    → (w.classes ≡ counted_classes ρ w.class) ↔ ClassCount σ w.classes
a_window_keeps_that_number = counted_is

-- ---- "It follows from the classes, so two pairs are the same pair exactly when they were before."

pub it_follows_from_the_classes : (ρ φ : ℕ) (σ τ : State) (w w' : Window) → IsWindowInLayout ρ φ σ w → IsWindowInLayout ρ φ τ w' → w.class ≡ w'.class
    → w.classes ≡ w'.classes
it_follows_from_the_classes = count_follows

-- The number is no part of a record, in whatever format;
pub a_record_has_no_number : (f : Format) (point : ℕ) (w : Window) (n : ℕ)
    → encoded_in_format f point (with_tables w w.class w.unequal w.result w.ever w.mark n) ≡ encoded_in_format f point w
unfolding encoded_in_format content_of
a_record_has_no_number f point w n = refl

-- and records are compared by the six parts, as they were: `encoded`, `SameWindow` and this theorem have the text that they had.
pub pairs_are_compared_by_the_six_parts : (σ τ : State) → Valid σ → Valid τ → (w w' : Window) → IsWindow σ w → IsWindow τ w'
    → (p q : ℕ) → p < 65536 → q < 65536 → (encoded p w ≡ encoded q w') ↔ ((p ≡ q) × SameWindow σ τ)
pairs_are_compared_by_the_six_parts = same_pair
