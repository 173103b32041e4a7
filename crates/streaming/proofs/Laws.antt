-- What the functions return, from what their calls ensure.
use mathlib.Core.Path.{◌≡◌, sym, ap, ◌∙◌, subst}
use Prim.Native.Nat.{ℕ, suc, ◌+◌, ◌-◌, ◌*◌, ◌/◌, ◌≤◌, ◌<◌}
use native.Mathlib.Omega.{arith}
use mathlib.Core.Bool.{true}
use mathlib.Core.List.{List, ◌∷◌}
use lib.ListN.{length, get_or, drop, drop_of_length-le}
use lib.Seq.{drop-cons}
use Rattle.letters.specs.declared.Header.{Header}
use Rattle.letters.specs.declared.Letter.{Letter}
use Rattle.letters.specs.Answers.{Answer, value, refusal, on_answer}
use Rattle.letters.specs.Editions.{first_edition}
use Rattle.letters.specs.Coding.{decode_header, decode_letter}
use Rattle.letters.proofs.Theory.WordLaws.{first_roomy, decode-letter}
use Rattle.letters.specs.RefusalNumbers.{header_malformed, letter_malformed}
use Rattle.window.specs.Perform.{WithinPacking, fresh_of}
use Rattle.window.proofs.Theory.Step.{fits_within}
use Rattle.window.specs.declared.Window.{Window}
use Rattle.streaming.specs.declared.Monitor.{Monitor}
use Rattle.streaming.specs.Outcome as outcome
use Rattle.streaming.specs.Outcome.{Stepped}
use Rattle.streaming.specs.declared.Run.{Run}
use Rattle.streaming.specs.declared.RunAnswer.{RunAnswer}
use Rattle.streaming.specs.declared.RunAnswer.TheVariants.{Judged, Refused}
use Rattle.streaming.specs.declared.Phase.{Phase}
use Rattle.streaming.specs.declared.Phase.TheVariants.{One, Even, Odd}
use Rattle.streaming.specs.declared.Stream.{Stream}
use Rattle.streaming.specs.Monitor.{stepped, idle_of, start_of, moved_of, advance}
use Rattle.streaming.specs.Run.{last, run_answer, run_with, next_number, judged_run, begun_run, taken_run}
use Rattle.streaming.specs.Demand2.{Demand2}
use Rattle.streaming.proofs.Theory.StreamRight.{demand_met}
use Rattle.streaming.specs.Stream.{judged_bytes, stream_with, pushed_in, pushed_of, finished_in, finished_of, pushed_all}

module _ (word : ℕ) where
  pub start_none : refusal header_malformed 0 ≡ decode_header first_edition word → stepped (outcome.Refused header_malformed) idle_of ≡ start_of word
  unfolding start_of
  start_none e = rw (← e)

  pub start_some : (h : Header) (w : Window) → value h ≡ decode_header first_edition word → w ≡ fresh_of h.registers
      → stepped outcome.Taken (record { header = h; window = w; running = true }) ≡ start_of word
  unfolding start_of
  start_some h w e f = rw (← e, f)

module _ (m : Monitor) (word : ℕ) where
  pub step_none : refusal letter_malformed 0 ≡ decode_letter first_edition m.header word → stepped (outcome.Refused letter_malformed) m ≡ advance m word
  unfolding advance
  step_none e = rw (← e)

  pub step_some : (a : Letter) (next : Monitor) → value a ≡ decode_letter first_edition m.header word → next ≡ moved_of m a
      → stepped outcome.Taken next ≡ advance m word
  unfolding advance
  step_some a next e f = rw (← e, f)

  -- a refused step leaves the monitor as it was
  pub refused_stays : (next : Monitor) (number : ℕ) → stepped (outcome.Refused number) next ≡ advance m word → next ≡ m
  unfolding advance
  refused_stays next number e = by (decode_letter first_edition m.header word) e
    where
      by : (d : Answer Letter)
          → stepped (outcome.Refused number) next ≡ on_answer d (λ a. stepped outcome.Taken (moved_of m a)) (λ n _. stepped (outcome.Refused n) m)
          → next ≡ m
      by (value a) q = let o : outcome.Refused number ≡ outcome.Taken = ap (λ (s : Stepped). s.outcome) q in cc
      by (refusal n place) q = ap (λ (s : Stepped). s.monitor) q

-- a letter that was decoded is within the packing
pub step_within : (h : Header) (word : ℕ) (a : Letter) → value a ≡ decode_letter first_edition h word → WithinPacking a
step_within h word a e =
    let (v, f, _) = (decode-letter first_roomy h word a).0 (sym e) in
    fits_within h a v.registers v.functions f

module _ (word : ℕ) (s : Stepped) (e : s ≡ start_of word) where
  pub begun_taken : s.outcome ≡ outcome.Taken → run_with s.monitor 0 (Judged 0 0) ≡ begun_run word
  unfolding begun_run
  begun_taken o = rw (← e, o)

  pub begun_refused : (number : ℕ) → s.outcome ≡ outcome.Refused number → run_with s.monitor 0 (Refused number 0) ≡ begun_run word
  unfolding begun_run
  begun_refused number o = rw (← e, o)

module _ (run : Run) (word : ℕ) where
  pub take_ended : (number place : ℕ) → run.verdict ≡ Refused number place → run ≡ taken_run run word
  unfolding taken_run
  take_ended number place g = rw g

  module _ (i k : ℕ) (g : run.verdict ≡ Judged i k) (n : ℕ) (e : n ≡ next_number run.letters) (s : Stepped) (q : s ≡ advance run.monitor word) where
    pub take_taken : (r : Run) → s.outcome ≡ outcome.Taken → r ≡ judged_run s.monitor n i k → r ≡ taken_run run word
    unfolding taken_run
    take_taken r o d = rw (g, ← q, o, ← e) d

    pub take_refused : (number : ℕ) → s.outcome ≡ outcome.Refused number → run_with run.monitor run.letters (Refused number n) ≡ taken_run run word
    unfolding taken_run
    take_refused number o = rw (g, ← q, o, ← e)

-- ---- bytes

module _ (s : Stream) where
  pub push_at : (byte : ℕ) (p : Phase) → s.phase ≡ p → pushed_in p s byte ≡ pushed_of s byte
  unfolding pushed_of
  push_at byte p e = rw e

  pub push_one : (byte w : ℕ) (r : Run) → s.phase ≡ One → w ≡ s.high * 256 + byte → r ≡ begun_run w → stream_with Even 0 r ≡ pushed_of s byte
  push_one byte w r e f g = ap (stream_with Even 0) (g ∙ ap begun_run f) ∙ push_at byte One e

  pub push_odd : (byte w : ℕ) (r : Run) → s.phase ≡ Odd → w ≡ s.high * 256 + byte → r ≡ taken_run s.run w → stream_with Even 0 r ≡ pushed_of s byte
  push_odd byte w r e f g = ap (stream_with Even 0) (g ∙ ap (taken_run s.run) f) ∙ push_at byte Odd e

  pub finish_at : (p : Phase) → s.phase ≡ p → finished_in p s ≡ finished_of s
  unfolding finished_of
  finish_at p e = rw e

-- one turn of the loop over the bytes
pub pushed_more : (bytes : List ℕ) (i : ℕ) (s next whole : Stream) → i < length bytes → pushed_all s (drop i bytes) ≡ whole
    → next ≡ pushed_of s (get_or bytes i 0)
    → pushed_all next (drop (i + 1) bytes) ≡ whole
unfolding pushed_all
pushed_more bytes i s next whole l e d =
    let n : suc i ≡ i + 1 = omega arith in
    ap (λ t. pushed_all t (drop (i + 1) bytes)) d ∙ sym (ap (pushed_all s) (drop-cons bytes i 0 l ∙ ap (λ k. get_or bytes i 0 ∷ drop k bytes) n)) ∙ e

pub pushed_done : (bytes : List ℕ) (i : ℕ) (s whole : Stream) → length bytes ≤ i → pushed_all s (drop i bytes) ≡ whole → s ≡ whole
unfolding pushed_all
pushed_done bytes i s whole l e = sym (ap (pushed_all s) (drop_of_length-le bytes l)) ∙ e

-- a slice has fewer than 2^64 letters
count_within : (n : ℕ) → n ≤ 18446744073709551615 → n / 2 - 1 ≤ last
unfolding last
count_within n l = omega arith

pub run_meets : (bytes : List ℕ) (r : RunAnswer) → length bytes ≤ 18446744073709551615 → r ≡ judged_bytes bytes → Demand2 bytes (run_answer r)
run_meets bytes r l e = subst (λ (v : RunAnswer). Demand2 bytes (run_answer v)) (sym e) (demand_met bytes (count_within (length bytes) l))
