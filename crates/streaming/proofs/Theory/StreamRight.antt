-- The run over a trace's bytes, all at once or one by one, meets demand 2.
use mathlib.Core.Path.{◌≡◌, refl, sym, ◌∙◌, ap, ap₂, subst}
use mathlib.Core.Bool.{Bool, true, false, ◌&&◌}
use Prim.Native.Nat.{ℕ, zero, suc, ◌+◌, ◌-◌, ◌*◌, ◌/◌, ◌%◌, ◌≤◌}
use native.Mathlib.Omega.{arith}
use mathlib.Core.List.{List, [], ◌∷◌, ◌++◌}
use lib.Dec.{eqb}
use lib.ListN.{length}
use borrow.Author.Tests.{le-ltb, eq-eqb, ne_eqb, eqb-true, eqb-false}
use Rattle.base.specs.Choice.{pick}
use Rattle.base.proofs.Theory.Choice.{by_test}
use Rattle.letters.specs.declared.Header.{Header}
use Rattle.letters.specs.declared.Letter.{Letter}
use Rattle.letters.specs.Answers.{Answer, value, refusal, on_answer}
use Rattle.letters.specs.Packing.{join, split}
use Rattle.letters.specs.Editions.{first_edition}
use Rattle.letters.specs.Words.{header_word, letter_word}
use Rattle.letters.specs.Coding.{header_test, fits_test, named_header, named_letter, decode_header, decode_letter}
use Rattle.letters.proofs.Theory.WordLaws.{first_roomy}
use Rattle.traces.specs.Reading.{TraceReading, trace, octets, chunks, prepend_letter, letters_from}
use Rattle.traces.specs.Reading.{beginning, letter_count, letter_in, letters_of, reading_where}
use Rattle.traces.specs.Reading.{reading}
use Rattle.traces.specs.Traces.{AllFit}
use Rattle.letters.specs.RefusalNumbers.{header_malformed, letter_malformed, trace_odd_length, trace_too_short}
use Rattle.traces.proofs.Theory.TraceLaws.{letters_decoded, parts_length, reading_fits}
use Rattle.semantics.specs.Terms.{Trace, begin, ◌▸◌, state, extend, trace_of}
use Rattle.semantics.specs.Facts.{WellFormed}
use Rattle.semantics.specs.Judgement.{size}
use Rattle.semantics.specs.Judge.{coherent, feasible}
use Rattle.semantics.specs.FirstLetters.{coherent_part, incoherent_letter, infeasible_letter}
use Rattle.semantics.proofs.Theory.JudgementLaws.{judgement_is}
use Rattle.streaming.specs.Monitor.{idle_of}
use Rattle.streaming.proofs.Theory.MonitorLaws.{start_refused}
use Rattle.streaming.specs.Run.{run_with, last, capped, next_number, begun_run, taken_run, run_answer}
use Rattle.streaming.proofs.Theory.NumberLaws.{capped_within, capped_none, next_capped, fails_within}
use Rattle.streaming.specs.Stream.{stream_with, empty_stream, pushed_of, finished_of, pushed_all, judged_bytes}
use Rattle.streaming.specs.Demand2.{Demand2}
use Rattle.streaming.specs.Following.{RunFollows}
use Rattle.streaming.proofs.Theory.RunRight.{run_start, run_more, taken_refused, taken_ended}
use Rattle.streaming.specs.declared.Run.{Run}
use Rattle.streaming.specs.declared.Stream.{Stream}
use Rattle.streaming.specs.declared.RunAnswer.TheVariants.{Refused}
use Rattle.streaming.specs.declared.Phase.TheVariants.{Even}
use Rattle.streaming.specs.Run.{capped_answer}

-- ---- the answer that demand 2 asks for, computed

abbrev pub exact_of : TraceReading → Answer (ℕ × ℕ)
exact_of (trace h letters) = value (incoherent_letter (trace_of h letters), infeasible_letter (trace_of h letters))
exact_of (TraceReading.refused number place) = refusal number place

all_formed : (ρ : Trace) (letters : List Letter) → WellFormed ρ → AllFit (state ρ).header letters → WellFormed (extend ρ letters)
all_formed ρ [] w f = w
all_formed ρ (a ∷ letters) w f = all_formed (ρ ▸ a) letters (w, f.0) f.1

pub demand_exact : (bytes : List ℕ) → Demand2 bytes (exact_of (reading first_edition bytes))
demand_exact bytes = record {
  refuses = λ number place e. ap exact_of e;
  judges = λ h letters e.
      let w = all_formed (begin h) letters tt (reading_fits first_edition first_roomy bytes h letters e).1 in
      (incoherent_letter (trace_of h letters), infeasible_letter (trace_of h letters), judgement_is (trace_of h letters) w, ap exact_of e);
}

-- the same for letters behind a trace
abbrev exact_after : Trace → TraceReading → Answer (ℕ × ℕ)
exact_after ρ (trace h letters) = value (incoherent_letter (extend ρ letters), infeasible_letter (extend ρ letters))
exact_after ρ (TraceReading.refused number place) = refusal number place

exact_before : (ρ : Trace) (a : Letter) (r : TraceReading) → exact_after (ρ ▸ a) r ≡ exact_after ρ (prepend_letter a r)
exact_before ρ a (trace h letters) = refl
exact_before ρ a (TraceReading.refused number place) = refl

exact_begin : (h : Header) (n : ℕ) (codes : List (List ℕ))
    → exact_after (begin h) (letters_from (letter_in first_edition h) h n codes) ≡ exact_of (letters_from (letter_in first_edition h) h n codes)
exact_begin h n codes = by (letters_from (letter_in first_edition h) h n codes) refl
  where
    by : (r : TraceReading) → letters_from (letter_in first_edition h) h n codes ≡ r → exact_after (begin h) r ≡ exact_of r
    by (TraceReading.refused number place) e = refl
    by (trace g letters) e =
        ap (λ (k : Header). value (incoherent_letter (trace_of k letters), infeasible_letter (trace_of k letters)))
        (sym (letters_decoded (letter_in first_edition h) h n codes g letters e).0)

-- ---- the numbers of letters are at most as many as the letters

abbrev Numbers : ℕ → Answer (ℕ × ℕ) → Type 0
Numbers m (value named) = (named.0 ≤ m) × (named.1 ≤ m)
Numbers m (refusal number place) = place ≤ m

numbers_exact : (m : ℕ) (a : Answer (ℕ × ℕ)) → m ≤ last → Numbers m a → capped_answer a ≡ a
numbers_exact m (value named) l n = ap₂ (λ (i k : ℕ). value (i, k)) (capped_within named.0 (omega arith)) (capped_within named.1 (omega arith))
numbers_exact m (refusal number place) l n = ap (refusal number) (capped_within place (omega arith))

part_within : (ρ : Trace) → size (coherent_part ρ) ≤ size ρ
unfolding coherent_part
part_within (begin h) = omega arith
part_within (ρ ▸ a) = by_test (coherent (ρ ▸ a)) (λ t. rw t (omega arith)) (λ t. rw t (omega (arith, part_within ρ)))

named_within : (ρ : Trace) → (incoherent_letter ρ ≤ size ρ) × (infeasible_letter ρ ≤ size ρ)
unfolding incoherent_letter infeasible_letter
named_within ρ = (fails_within coherent ρ, omega (arith, fails_within (λ π. feasible (state π)) (coherent_part ρ), part_within ρ))

module _ {A : Type 0} (decode : A → Answer Letter) (h : Header) where
  letters_numbers : (codes : List A) (ρ : Trace) (n : ℕ) → n ≡ size ρ + 1 → Numbers (size ρ + length codes) (exact_after ρ (letters_from decode h n codes))
  unfolding letters_from
  letters_numbers [] ρ n e = (omega (arith, (named_within ρ).0), omega (arith, (named_within ρ).1))
  letters_numbers (x ∷ codes) ρ n e = by (decode x) (λ a. letters_numbers codes (ρ ▸ a) (n + 1) (omega arith))
    where
      more : (a : Letter) (r : TraceReading) → Numbers (size (ρ ▸ a) + length codes) (exact_after (ρ ▸ a) r)
          → Numbers (size ρ + suc (length codes)) (exact_after ρ (prepend_letter a r))
      more a (trace g letters) (p, q) = (omega arith, omega arith)
      more a (TraceReading.refused number place) p = omega arith

      by : (d : Answer Letter) → ((a : Letter) → Numbers (size (ρ ▸ a) + length codes) (exact_after (ρ ▸ a) (letters_from decode h (n + 1) codes)))
          → Numbers (size ρ + suc (length codes))
          (exact_after ρ (on_answer d (λ l. prepend_letter l (letters_from decode h (n + 1) codes)) λ _ _. TraceReading.refused letter_malformed n))
      by (value a) i = more a (letters_from decode h (n + 1) codes) (i a)
      by (refusal number place) i = omega arith

-- ---- the refusals of words

letter-malformed : (h : Header) (w number place : ℕ) → decode_letter first_edition h w ≡ refusal number place → number ≡ letter_malformed
unfolding decode_letter
letter-malformed h w number place e = let l = named_letter h (split first_edition.letter w) in
    by ((header_test first_edition h && fits_test h l) && eqb (letter_word first_edition h l) w) l e
  where
    by : (t : Bool) (l : Letter) → pick t (λ _. value l) (λ _. refusal letter_malformed 0) ≡ refusal number place → number ≡ letter_malformed
    by true l q = let z : ◌≡◌ {A = ℕ} 0 1 = cc in absurd (omega arith)
    by false l q = cc

header_place : (w number place : ℕ) → decode_header first_edition w ≡ refusal number place → place ≡ 0
unfolding decode_header
header_place w number place e = let h = named_header first_edition (split first_edition.header w) in
    by (header_test first_edition h && eqb (header_word first_edition h) w) h e
  where
    by : (t : Bool) (h : Header) → pick t (λ _. value h) (λ _. refusal header_malformed 0) ≡ refusal number place → place ≡ 0
    by true h q = let z : ◌≡◌ {A = ℕ} 0 1 = cc in absurd (omega arith)
    by false h q = cc

pub begun_refused : (w number place : ℕ) → decode_header first_edition w ≡ refusal number place → begun_run w ≡ run_with idle_of 0 (Refused number 0)
unfolding begun_run
begun_refused w number place e = rw (start_refused w number place e)

-- ---- the reading, by the bytes' number

unit_two : (x y : ℕ) → join (8 ∷ 8 ∷ []) (x ∷ y ∷ []) ≡ x * 256 + y
unit_two x y = omega arith

reading_odd : (x y : ℕ) (s : List ℕ) → length s % 2 ≡ 1 → reading first_edition (x ∷ y ∷ s) ≡ TraceReading.refused trace_odd_length 0
unfolding reading_where beginning
reading_odd x y s e = rw (le-ltb (length (x ∷ y ∷ s)) 2 (omega arith), ne_eqb (length (x ∷ y ∷ s) % 2) 0 (λ d. omega arith))

reading_even : (x y : ℕ) (s : List ℕ) (k : ℕ) → length s ≡ 2 * k
    → reading first_edition (x ∷ y ∷ s) ≡ on_answer (decode_header first_edition (x * 256 + y))
    (λ h. letters_from (letter_in first_edition h) h 1 (chunks 2 k s)) TraceReading.refused
unfolding reading_where beginning letters_of
reading_even x y s k e =
    let count : length (x ∷ y ∷ s) / 2 - 1 ≡ k = omega arith in
    rw (le-ltb (length (x ∷ y ∷ s)) 2 (omega arith), eq-eqb (length (x ∷ y ∷ s) % 2) 0 (omega arith), unit_two x y, count)

-- ---- the words of the letters, one after the other

unfoldable taken_all : Run → List (List ℕ) → Run
taken_all r [] = r
taken_all r (x ∷ codes) = taken_all (taken_run r (join (octets first_edition) x)) codes

ended_all : (r : Run) (number place : ℕ) → r.verdict ≡ Refused number place → (codes : List (List ℕ)) → taken_all r codes ≡ r
unfolding taken_all
ended_all r number place v [] = refl
ended_all r number place v (x ∷ codes) =
    ap (λ t. taken_all t codes) (taken_ended r (join (octets first_edition) x) number place v) ∙ ended_all r number place v codes

pushed_even : (k : ℕ) (s : List ℕ) (r : Run) → length s ≡ 2 * k → pushed_all (stream_with Even 0 r) s ≡ stream_with Even 0 (taken_all r (chunks 2 k s))
unfolding pushed_all pushed_of chunks taken_all
pushed_even zero [] r l = refl
pushed_even zero (x ∷ s) r l = absurd (omega arith)
pushed_even (suc k) [] r l = absurd (omega arith)
pushed_even (suc k) (x ∷ []) r l = absurd (omega arith)
pushed_even (suc k) (x ∷ y ∷ s) r l =
    ap (λ w. pushed_all (stream_with Even 0 (taken_run r w)) s) (sym (unit_two x y))
    ∙ pushed_even k s (taken_run r (join (octets first_edition) (x ∷ y ∷ []))) (omega arith)

finished_odd : (s : List ℕ) (r : Run) → length s % 2 ≡ 1 → finished_of (pushed_all (stream_with Even 0 r) s) ≡ Refused trace_odd_length 0
unfolding pushed_all pushed_of finished_of
finished_odd [] r e = absurd (omega arith)
finished_odd (x ∷ []) r e = refl
finished_odd (x ∷ y ∷ s) r e = finished_odd s (taken_run r (x * 256 + y)) (omega arith)

finished_even : (r : Run) → finished_of (stream_with Even 0 r) ≡ r.verdict
unfolding finished_of
finished_even r = refl

-- the first two bytes
answer_long : (x y : ℕ) (s : List ℕ) → judged_bytes (x ∷ y ∷ s) ≡ finished_of (pushed_all (stream_with Even 0 (begun_run (x * 256 + y))) s)
unfolding judged_bytes pushed_all pushed_of
answer_long x y s = refl

answer_none : run_answer (judged_bytes []) ≡ capped_answer (exact_of (reading first_edition []))
unfolding judged_bytes pushed_all finished_of reading_where beginning
answer_none = rw capped_none

answer_one : (x : ℕ) → run_answer (judged_bytes (x ∷ [])) ≡ capped_answer (exact_of (reading first_edition (x ∷ [])))
unfolding judged_bytes pushed_all pushed_of finished_of reading_where beginning
answer_one x = rw capped_none

letters_right : (h : Header) (codes : List (List ℕ)) (ρ : Trace) (r : Run) (n : ℕ) → RunFollows ρ r → (state ρ).header ≡ h → n ≡ size ρ + 1
    → run_answer (taken_all r codes).verdict ≡ capped_answer (exact_after ρ (letters_from (letter_in first_edition h) h n codes))
unfolding letters_from taken_all
letters_right h [] ρ r n f g e = ap run_answer f.verdict
letters_right h (x ∷ codes) ρ r n f g e =
    by (letter_in first_edition h x) refl (λ a k. letters_right h codes (ρ ▸ a) (taken_run r (join (octets first_edition) x)) (n + 1) k g (omega arith))
  where
    w : ℕ
    w = join (octets first_edition) x

    rest : TraceReading
    rest = letters_from (letter_in first_edition h) h (n + 1) codes

    next : next_number r.letters ≡ capped n
    next = ap next_number f.letters ∙ next_capped (size ρ) ∙ ap capped (let d : suc (size ρ) ≡ n = omega arith in d)

    by : (d : Answer Letter) → decode_letter first_edition h (join (octets first_edition) x) ≡ d
        → ((a : Letter) → RunFollows (ρ ▸ a) (taken_run r (join (octets first_edition) x))
        → run_answer (taken_all (taken_run r (join (octets first_edition) x)) codes).verdict
        ≡ capped_answer (exact_after (ρ ▸ a) (letters_from (letter_in first_edition h) h (n + 1) codes)))
        → run_answer (taken_all (taken_run r (join (octets first_edition) x)) codes).verdict
        ≡ capped_answer (exact_after ρ (on_answer d (λ l. prepend_letter l (letters_from (letter_in first_edition h) h (n + 1) codes))
        λ _ _. TraceReading.refused letter_malformed n))
    by (value a) d i =
        i a (run_more ρ r f w a (ap (λ (k : Header). decode_letter first_edition k w) g ∙ d))
        ∙ ap capped_answer (exact_before ρ a rest)
    by (refusal number place) d i =
        let t = taken_refused r w _ _ number place f.verdict (ap (λ (k : Header). decode_letter first_edition k w) (f.monitor.header ∙ g) ∙ d) in
        ap (λ (q : Run). run_answer (taken_all q codes).verdict) t
        ∙ ap (λ (q : Run). run_answer q.verdict) (ended_all _ number (next_number r.letters) refl codes)
        ∙ ap₂ (λ (i k : ℕ). refusal i k) (letter-malformed h w number place d) next

words_right : (w : ℕ) (codes : List (List ℕ)) (d : Answer Header) → decode_header first_edition w ≡ d
    → run_answer (taken_all (begun_run w) codes).verdict ≡ capped_answer
    (exact_of (on_answer d (λ h. letters_from (letter_in first_edition h) h 1 codes) TraceReading.refused))
words_right w codes (value h) e = letters_right h codes (begin h) (begun_run w) 1 (run_start w h e) refl refl ∙ ap capped_answer (exact_begin h 1 codes)
words_right w codes (refusal number place) e =
    ap (λ (q : Run). run_answer (taken_all q codes).verdict) (begun_refused w number place e)
    ∙ ap (λ (q : Run). run_answer q.verdict) (ended_all (run_with idle_of 0 (Refused number 0)) number 0 refl codes)
    ∙ ap (refusal number) (sym (ap capped (header_place w number place e) ∙ capped_none))

-- For any bytes: the answer is the one that demand 2 asks for, where the last number of 64 bits stands for itself and for all greater ones.
pub answer_capped : (bytes : List ℕ) → run_answer (judged_bytes bytes) ≡ capped_answer (exact_of (reading first_edition bytes))
answer_capped [] = answer_none
answer_capped (x ∷ []) = answer_one x
answer_capped (x ∷ y ∷ s) = by_test (eqb (length s % 2) 0)
    (λ t. let h = eqb-true (length s % 2) 0 t in
    let l : length s ≡ 2 * (length s / 2) = omega arith in
    ap run_answer (answer_long x y s ∙ ap finished_of (pushed_even (length s / 2) s (begun_run (x * 256 + y)) l) ∙ finished_even _)
    ∙ words_right (x * 256 + y) (chunks 2 (length s / 2) s) (decode_header first_edition (x * 256 + y)) refl
    ∙ ap (λ (q : TraceReading). capped_answer (exact_of q)) (sym (reading_even x y s (length s / 2) l)))
    (λ t. let h = eqb-false (length s % 2) 0 t in
    let l : length s % 2 ≡ 1 = omega arith in
    ap run_answer (answer_long x y s ∙ finished_odd s (begun_run (x * 256 + y)) l) ∙ ap (refusal trace_odd_length) (sym capped_none)
    ∙ ap (λ (q : TraceReading). capped_answer (exact_of q)) (sym (reading_odd x y s l)))

reading_numbers : (bytes : List ℕ) → letter_count first_edition bytes ≤ last
    → capped_answer (exact_of (reading first_edition bytes)) ≡ exact_of (reading first_edition bytes)
unfolding reading_where beginning
reading_numbers [] b = ap (refusal trace_too_short) capped_none
reading_numbers (x ∷ []) b = ap (refusal trace_too_short) capped_none
reading_numbers (x ∷ y ∷ s) b = by_test (eqb (length s % 2) 0)
    (λ t. let h = eqb-true (length s % 2) 0 t in
    let l : length s ≡ 2 * (length s / 2) = omega arith in
    let m : length s / 2 ≤ last = omega arith in
    subst (λ (q : TraceReading). capped_answer (exact_of q) ≡ exact_of q) (sym (reading_even x y s (length s / 2) l))
    (by (length s / 2) m (decode_header first_edition (x * 256 + y)) refl))
    (λ t. let h = eqb-false (length s % 2) 0 t in
    subst (λ (q : TraceReading). capped_answer (exact_of q) ≡ exact_of q) (sym (reading_odd x y s (omega arith))) (ap (refusal trace_odd_length) capped_none))
  where
    by : (k : ℕ) → k ≤ last → (d : Answer Header) → decode_header first_edition (x * 256 + y) ≡ d
        → capped_answer (exact_of (on_answer d (λ h. letters_from (letter_in first_edition h) h 1 (chunks 2 k s)) TraceReading.refused)) ≡ exact_of
        (on_answer d (λ h. letters_from (letter_in first_edition h) h 1 (chunks 2 k s)) TraceReading.refused)
    by k m (value h) e =
        numbers_exact k _ m (subst (Numbers k) (exact_begin h 1 (chunks 2 k s))
        (subst (λ (j : ℕ). Numbers j (exact_after (begin h) (letters_from (letter_in first_edition h) h 1 (chunks 2 k s))))
        (let z : 0 + length (chunks 2 k s) ≡ k = omega (arith, parts_length 2 k s) in z)
        (letters_numbers (letter_in first_edition h) h (chunks 2 k s) (begin h) 1 refl)))
    by k m (refusal number place) e =
        ap (refusal number) (ap capped (header_place (x * 256 + y) number place e) ∙ capped_none ∙ sym (header_place (x * 256 + y) number place e))

-- Of any trace of fewer than 2^64 letters the answer meets demand 2.
pub demand_met : (bytes : List ℕ) → letter_count first_edition bytes ≤ last → Demand2 bytes (run_answer (judged_bytes bytes))
demand_met bytes b = subst (Demand2 bytes) (sym (answer_capped bytes ∙ reading_numbers bytes b)) (demand_exact bytes)

-- ---- the stream

-- Bytes may come in parts of any lengths.
pub pushed_append : (s : Stream) (first second : List ℕ) → pushed_all s (first ++ second) ≡ pushed_all (pushed_all s first) second
unfolding pushed_all
pushed_append s [] second = refl
pushed_append s (x ∷ first) second = pushed_append (pushed_of s x) first second

-- The stream over all bytes answers what the run answers.
pub stream_answers : (bytes : List ℕ) → finished_of (pushed_all empty_stream bytes) ≡ judged_bytes bytes
unfolding judged_bytes
stream_answers bytes = refl
