-- What is said of a trace settles the lines: two texts that say it are one.
use mathlib.Core.Path.{◌≡◌, sym, ap, ◌∙◌}
use mathlib.Core.List.{List, [], ◌∷◌, ◌++◌}
use Prim.Native.Nat.{ℕ}
use lib.Dec.{leb}
use lib.ListN.{length, drop}
use Rattle.base.specs.Choice.{pick}
use Rattle.base.proofs.Theory.Choice.{by_test}
use Rattle.letters.specs.declared.Header.{Header}
use Rattle.letters.specs.declared.Letter.{Letter}
use Rattle.letters.specs.Editions.{first_edition}
use Rattle.letters.proofs.Theory.WordLaws.{first_roomy}
use Rattle.traces.specs.Reading.{TraceReading, trace, reading}
use Rattle.traces.specs.Traces.{AllFit}
use Rattle.traces.proofs.Theory.TraceLaws.{reading_fits}
use Rattle.semantics.specs.Terms.{Trace, begin, ◌▸◌, state}
use Rattle.semantics.specs.Facts.{WellFormed}
use Rattle.semantics.specs.Coherence.{Coherent}
use Rattle.semantics.specs.Judge.{coherent}
use Rattle.semantics.specs.Judgement.{size}
use Rattle.semantics.specs.FirstLetters.{coherent_part}
use Rattle.semantics.proofs.Theory.Booleans.{of_true, of_false}
use Rattle.semantics.proofs.Theory.Judge.{coherent_is}
use Rattle.semantics.proofs.Theory.JudgementLaws.{longest_is}
use Rattle.window.proofs.Theory.Exact.{count_unique}
use Rattle.unequal_flags.proofs.Theory.Properties.{word_unique}
use Rattle.display_lines.specs.Lines.{state_line}
use Rattle.display_lines.specs.Says.{ShowsState, JudgesLast, SaysLetters, SaysTrace, SaysDisplay}
use Rattle.display_lines.specs.Prints.{most_display_line_bytes, PrintsDisplayLines}

module _ (ρ : Trace) (f : WellFormed ρ) (a b : List ℕ) where
  -- A trace has one line: one number of classes and one word.
  state_once : (said : List ℕ) → ShowsState ρ said a → ShowsState ρ said b → a ≡ b
  state_once said x y =
      let π = coherent_part ρ in
      let l = longest_is ρ f in
      let n = count_unique (state π) x.classes y.classes (x.counts π l) (y.counts π l) in
      let w = word_unique (state π) x.word y.word (x.flags π l) (y.flags π l) in
      x.line_is ∙ (λ i. state_line said (size ρ) (n i) (w i)) ∙ sym y.line_is

  judged_once : JudgesLast ρ a → JudgesLast ρ b → a ≡ b
  judged_once x y = by_test (coherent ρ)
      (λ t. let c = (coherent_is ρ f).0 (of_true t) in state_once _ (x.coherent c) (y.coherent c))
      (λ t. let c : ¬ Coherent ρ = λ k. of_false t ((coherent_is ρ f).1 k) in state_once _ (x.incoherent c) (y.incoherent c))

letters_once : (letters : List Letter) (ρ : Trace) → WellFormed ρ → AllFit (state ρ).header letters → (a b : List ℕ) → SaysLetters ρ letters a
    → SaysLetters ρ letters b → a ≡ b
letters_once [] ρ f h a b x y = x ∙ sym y
letters_once (l ∷ letters) ρ f (p, q) a b (first, rest, e, x, r) (first', rest', e', x', r') =
    let one = judged_once (ρ ▸ l) (f, p) first first' x x' in
    let more = letters_once letters (ρ ▸ l) (f, p) q rest rest' r r' in
    e ∙ (λ i. one i ++ more i) ∙ sym e'

pub one_display_said : (s a b : List ℕ) → SaysDisplay s a → SaysDisplay s b → a ≡ b
one_display_said s a b x y = by (reading first_edition s) (λ i. reading first_edition s)
  where
    both : (h : Header) (letters : List Letter) → AllFit h letters → SaysTrace h letters a → SaysTrace h letters b → a ≡ b
    both h letters f p q =
        let one = state_once (begin h) tt p.first q.first _ p.fresh q.fresh in
        let more = letters_once letters (begin h) tt f p.rest q.rest p.each q.each in
        p.whole ∙ (λ i. one i ++ more i) ∙ sym q.whole

    by : (r : TraceReading) → reading first_edition s ≡ r → a ≡ b
    by (TraceReading.refused number place) e = x.refused number place e ∙ sym (y.refused number place e)
    by (trace h letters) e = both h letters (reading_fits first_edition first_roomy s h letters e).1 (x.judged h letters e) (y.judged h letters e)

-- So they settle what is given, and every byte of a lent buffer.
pub one_display_printed : (s entry : List ℕ) (n m : ℕ) (exit exit' : List ℕ) → PrintsDisplayLines s entry n exit → PrintsDisplayLines s entry m exit'
    → (n ≡ m) × (exit ≡ exit')
one_display_printed s entry n m exit exit' x y =
    let e = one_display_said s x.lines y.lines x.says y.says in
    let room = leb most_display_line_bytes (length entry) in (
      x.given ∙ ap (λ (l : List ℕ). pick room (λ _. length l) λ _. 0) e ∙ sym y.given,
      x.stands ∙ ap (λ (l : List ℕ). pick room (λ _. l ++ drop (length l) entry) λ _. entry) e ∙ sym y.stands,
    )
