-- The loop over the words of a trace, two bytes a word, and the bytes around it.
use Rattle.std.specs.Simd.{first_chunks}
use Rattle.traces.proofs.Counting.{piece_at, pieces_length}
use mathlib.Core.Path.{◌≡◌, refl, sym, ap, ap₂, ◌∙◌, subst}
use Prim.Native.Nat.{ℕ, suc, ◌+◌, ◌-◌, ◌*◌, ◌/◌, ◌%◌, ◌≤◌, ◌<◌}
use native.Mathlib.Omega.{arith}
use mathlib.Core.Bool.{Bool, true, false, not, ◌&&◌}
use mathlib.Core.List.{List, [], ◌∷◌}
use lib.ListN.{length, get_or, drop, length-drop}
use lib.Dec.{T}
use lib.Seq.{drop-cons, get_or-take, get_or-drop}
use Rattle.letters.specs.declared.Header.{Header}
use Rattle.letters.specs.declared.Letter.{Letter}
use Rattle.letters.specs.Answers.{value, refusal}
use Rattle.letters.specs.Editions.{first_edition}
use Rattle.letters.specs.Coding.{decode_letter}
use Rattle.letters.specs.RefusalNumbers.{letter_malformed}
use Rattle.window.specs.Perform.{judge_of}
use Rattle.window.specs.declared.Window.{Window}
use Rattle.streaming.specs.declared.Monitor.{Monitor}
use Rattle.streaming.specs.Outcome as outcome
use Rattle.streaming.specs.declared.Phase.{Phase}
use Rattle.streaming.specs.declared.Phase.TheVariants.{Empty, One, Even, Odd}
use Rattle.streaming.specs.declared.Run.{Run}
use Rattle.streaming.specs.declared.Stream.{Stream}
use Rattle.streaming.specs.declared.RunAnswer.TheVariants.{Judged, Refused}
use Rattle.streaming.specs.Monitor.{stepped, moved_of}
use Rattle.streaming.specs.Run.{next_number, first_of, run_with, run_of, performed_of, judged_run, taken_run}
use Rattle.streaming.specs.Stream.{at_letter, stream_with, pushed_of, taken_all, pushed_all}
use Rattle.streaming.proofs.Laws.{step_none, step_some, take_ended, take_taken, take_refused}

-- ---- a letter

-- a letter is performed if the monitor runs and the letter is coherent, and else the monitor stands
moved_parts : (h : Header) (w : Window) (b j fine : Bool) (a : Letter) (w' : Window) → j ≡ judge_of w a → fine ≡ (b && j) → w' ≡ performed_of w fine a
    → ◌≡◌ {A = Monitor} (record { header = h; window = w'; running = fine }) (moved_of (record { header = h; window = w; running = b }) a)
unfolding moved_of performed_of
moved_parts h w true true fine a w' e p q = rw (q, p, ← e)
moved_parts h w true false fine a w' e p q = rw (q, p, ← e)
moved_parts h w false j fine a w' e p q = rw (q, p)

module _ (h : Header) (w : Window) (b : Bool) (n one two number word : ℕ) (c : number ≡ next_number n) where
  -- the run after a letter
  run_letter : (a : Letter) (j fine : Bool) (w' : Window) (one' two' : ℕ) → value a ≡ decode_letter first_edition h word → j ≡ judge_of w a
      → fine ≡ (b && j) → w' ≡ performed_of w fine a → one' ≡ first_of one (not fine) number
      → two' ≡ first_of two w'.infeasible number → run_of h w' fine number (Judged one' two') ≡ taken_run (run_of h w b n (Judged one two)) word
  unfolding judged_run
  run_letter a j fine w' one' two' e p q r s t =
      let m : Monitor = record { header = h; window = w; running = b } in
      let next : Monitor = record { header = h; window = w'; running = fine } in
      take_taken (run_of h w b n (Judged one two)) word one two refl number c (stepped outcome.Taken next)
      (step_some m word a next e (moved_parts h w b j fine a w' p q r)) (run_of h w' fine number (Judged one' two')) refl (rw (s, t))

  -- the run that ends at a word that is no letter
  run_malformed : refusal letter_malformed 0 ≡ decode_letter first_edition h word
      → run_of h w b n (Refused letter_malformed number) ≡ taken_run (run_of h w b n (Judged one two)) word
  run_malformed e =
      let m : Monitor = record { header = h; window = w; running = b } in
      take_refused (run_of h w b n (Judged one two)) word one two refl number c (stepped (outcome.Refused letter_malformed) m)
      (step_none m word e) letter_malformed refl

-- ---- letter after letter

-- a run that has refused stays as it is
taken_ended : (run : Run) (number place : ℕ) → run.verdict ≡ Refused number place → (bytes : List ℕ) → taken_all run bytes ≡ run
unfolding taken_all
taken_ended run number place g [] = refl
taken_ended run number place g (x ∷ []) = refl
taken_ended run number place g (x ∷ y ∷ bytes) =
    ap (λ r. taken_all r bytes) (sym (take_ended run (x * 256 + y) number place g)) ∙ taken_ended run number place g bytes

taken_short : (run : Run) (bytes : List ℕ) → length bytes ≤ 1 → taken_all run bytes ≡ run
unfolding taken_all
taken_short run [] l = refl
taken_short run (x ∷ []) l = refl
taken_short run (x ∷ y ∷ bytes) l = absurd (omega arith)

taken_word : (run : Run) (bytes : List ℕ) (i : ℕ) → i + 1 < length bytes
    → taken_all run (drop i bytes) ≡ taken_all (taken_run run (get_or bytes i 0 * 256 + get_or bytes (i + 1) 0)) (drop (i + 2) bytes)
unfolding taken_all
taken_word run bytes i l =
    let one : suc i ≡ i + 1 = omega arith in
    let two : suc (i + 1) ≡ i + 2 = omega arith in
    ap (taken_all run) (drop-cons bytes i 0 (omega arith) ∙ ap (λ k. get_or bytes i 0 ∷ drop k bytes) one
    ∙ ap (λ l. get_or bytes i 0 ∷ l) (drop-cons bytes (i + 1) 0 l ∙ ap (λ k. get_or bytes (i + 1) 0 ∷ drop k bytes) two))

-- the two halves of a word
half : (bytes : List ℕ) (words : List (List ℕ)) (i k : ℕ) (d : List ℕ) → words ≡ first_chunks 2 (length bytes / 2) bytes → i < length words → k < 2
    → get_or (get_or words i d) k 0 ≡ get_or bytes (2 * i + k) 0
half bytes words i k d e l m =
    let n : length words ≡ length bytes / 2 = ap length e ∙ pieces_length 2 (length bytes / 2) bytes in
    ap (λ x. get_or x k 0) (rw e (piece_at 2 (length bytes / 2) i bytes d (omega arith)))
    ∙ get_or-take 2 (drop (2 * i) bytes) k 0 m ∙ get_or-drop (2 * i) bytes k 0

module _ (bytes : List ℕ) (words : List (List ℕ)) (front : words ≡ first_chunks 2 (length bytes / 2) bytes) (run : Run) (i : ℕ) (whole : Run)
    (inv : taken_all run (drop (2 * i) bytes) ≡ whole) where
  -- one turn of the loop
  pub taken_next : (next : Run) (word : ℕ) (d : List ℕ) → i < length words → word ≡ get_or (get_or words i d) 0 0 * 256 + get_or (get_or words i d) 1 0
      → next ≡ taken_run run word → taken_all next (drop (2 * (i + 1)) bytes) ≡ whole
  taken_next next word d l k e =
      let n : length words ≡ length bytes / 2 = ap length front ∙ pieces_length 2 (length bytes / 2) bytes in
      let high = half bytes words i 0 d front l (omega arith) in
      let low = half bytes words i 1 d front l (omega arith) in
      let first : 2 * i + 0 ≡ 2 * i = omega arith in
      let after : 2 * (i + 1) ≡ 2 * i + 2 = omega arith in
      let w : word ≡ get_or bytes (2 * i) 0 * 256 + get_or bytes (2 * i + 1) 0 = k ∙ rw (high, low, first) in
      ap₂ (λ t m. taken_all t (drop m bytes)) (e ∙ ap (taken_run run) w) after ∙ sym (taken_word run bytes (2 * i) (omega arith)) ∙ inv

  -- the end of the loop
  pub taken_last : length words ≤ i → run ≡ whole
  taken_last l =
      let n : length words ≡ length bytes / 2 = ap length front ∙ pieces_length 2 (length bytes / 2) bytes in
      sym (taken_short run (drop (2 * i) bytes) (omega (arith, length-drop (2 * i) bytes))) ∙ inv

module _ (h : Header) (w : Window) (b : Bool) (n one two : ℕ) (bytes : List ℕ) (words : List (List ℕ))
    (front : words ≡ first_chunks 2 (length bytes / 2) bytes) (i : ℕ) (whole : Run)
    (inv : taken_all (run_of h w b n (Judged one two)) (drop (2 * i) bytes) ≡ whole) where
  -- one turn of the loop on slots
  pub taken_more : (number word : ℕ) (d : List ℕ) (a : Letter) (j : Bool) (w' : Window) (one' two' : ℕ) → i < length words
      → word ≡ get_or (get_or words i d) 0 0 * 256 + get_or (get_or words i d) 1 0
      → value a ≡ decode_letter first_edition h word → number ≡ next_number n → j ≡ judge_of w a
      → w' ≡ performed_of w (b && j) a → one' ≡ first_of one (not (b && j)) number
      → two' ≡ first_of two w'.infeasible number → taken_all (run_of h w' (b && j) number (Judged one' two')) (drop (2 * (i + 1)) bytes) ≡ whole
  taken_more number word d a j w' one' two' l k e c p q r s =
      taken_next bytes words front (run_of h w b n (Judged one two)) i whole inv (run_of h w' (b && j) number (Judged one' two')) word d l k
      (run_letter h w b n one two number word c a j (b && j) w' one' two' e p refl q r s)

  -- the end at a word that is no letter
  pub taken_malformed : (number word : ℕ) (d : List ℕ) → i < length words → word ≡ get_or (get_or words i d) 0 0 * 256 + get_or (get_or words i d) 1 0
      → refusal letter_malformed 0 ≡ decode_letter first_edition h word → number ≡ next_number n
      → run_of h w b n (Refused letter_malformed number) ≡ whole
  taken_malformed number word d l k e c =
      let run = run_of h w b n (Refused letter_malformed number) in
      sym (taken_ended run letter_malformed number refl (drop (2 * (i + 1)) bytes))
      ∙ taken_next bytes words front (run_of h w b n (Judged one two)) i whole inv run word d l k (run_malformed h w b n one two number word c e)

  -- the end of the loop
  pub taken_done : length words ≤ i → run_of h w b n (Judged one two) ≡ whole
  taken_done l = taken_last bytes words front (run_of h w b n (Judged one two)) i whole inv l

-- a run is what its parts are
pub taken_parts : (run : Run) (one two : ℕ) (l : List ℕ) → run.verdict ≡ Judged one two
    → taken_all (run_with run.monitor run.letters (Judged one two)) l ≡ taken_all run l
taken_parts run one two l g = ap (λ v. taken_all (run_with run.monitor run.letters v) l) (sym g)

pub taken_refused : (run : Run) (number place : ℕ) (l : List ℕ) → run.verdict ≡ Refused number place → run ≡ taken_all run l
taken_refused run number place l g = sym (taken_ended run number place g l)

-- ---- the bytes from the start of a letter on

no : ◌≡◌ {A = Bool} false true → ⊥
no z = subst T (sym z) tt

begins : (p : Phase) → at_letter p ≡ true → p ≡ Even
begins Empty e = absurd (no e)
begins One e = absurd (no e)
begins Even e = refl
begins Odd e = absurd (no e)

even : (r : Run) (bytes : List ℕ) → length bytes % 2 ≡ 0 → pushed_all (stream_with Even 0 r) bytes ≡ stream_with Even 0 (taken_all r bytes)
unfolding pushed_all pushed_of taken_all
even r [] l = refl
even r (x ∷ []) l = absurd (omega arith)
even r (x ∷ y ∷ bytes) l = even (taken_run r (x * 256 + y)) bytes (omega arith)

odd : (r : Run) (bytes : List ℕ) → length bytes % 2 ≡ 1
    → pushed_all (stream_with Even 0 r) bytes ≡ pushed_of (stream_with Even 0 (taken_all r bytes)) (get_or bytes (length bytes - 1) 0)
unfolding pushed_all pushed_of taken_all
odd r [] l = absurd (omega arith)
odd r (x ∷ []) l = refl
odd r (x ∷ y ∷ bytes) l =
    let e : suc (suc (length bytes - 1)) ≡ suc (suc (length bytes)) - 1 = omega arith in
    odd (taken_run r (x * 256 + y)) bytes (omega arith) ∙ ap (λ k. stream_with Odd (get_or (x ∷ y ∷ bytes) k 0) (taken_all (taken_run r (x * 256 + y)) bytes)) e

-- what the half of a word was is forgotten
from_letter : (s : Stream) (bytes : List ℕ) → s.phase ≡ Even → 0 < length bytes → pushed_all s bytes ≡ pushed_all (stream_with Even 0 s.run) bytes
unfolding pushed_all pushed_of
from_letter s [] e l = absurd (omega arith)
from_letter s (x ∷ bytes) e l = rw e

module _ (s : Stream) (bytes : List ℕ) (run : Run) (e : at_letter s.phase ≡ true) (l : 0 < length bytes) (d : run ≡ taken_all s.run bytes) where
  -- the stream after the whole words
  pub letters_whole : stream_with s.phase 0 run ≡ stream_with Even 0 run
  letters_whole = ap (λ p. stream_with p 0 run) (begins s.phase e)

  pub letters_even : (length bytes % 2 ≡ 1 → ⊥) → stream_with s.phase 0 run ≡ pushed_all s bytes
  letters_even k = letters_whole ∙ sym (from_letter s bytes (begins s.phase e) l ∙ even s.run bytes (omega arith) ∙ ap (stream_with Even 0) (sym d))

  pub letters_odd : (next : Stream) → length bytes % 2 ≡ 1 → next ≡ pushed_of (stream_with s.phase 0 run) (get_or bytes (length bytes - 1) 0)
      → next ≡ pushed_all s bytes
  letters_odd next k g =
      g ∙ ap (λ t. pushed_of t (get_or bytes (length bytes - 1) 0)) letters_whole
      ∙ sym (from_letter s bytes (begins s.phase e) l ∙ odd s.run bytes (omega arith)
      ∙ ap (λ r. pushed_of (stream_with Even 0 r) (get_or bytes (length bytes - 1) 0)) (sym d))
