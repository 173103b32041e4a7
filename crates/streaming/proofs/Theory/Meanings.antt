-- What follows from the definitions of specs/Meanings.antt.
use mathlib.Core.Path.{◌≡◌, refl, sym, ap, ◌∙◌, subst}
use mathlib.Core.Logic.{◌↔◌}
use Prim.Native.Nat.{ℕ}
use mathlib.Core.List.{List, [], ◌∷◌}
use lib.Dec.{T}
use Rattle.letters.specs.declared.Header.{Header}
use Rattle.letters.specs.declared.Letter.{Letter}
use Rattle.letters.specs.Letters.{Fits}
use Rattle.letters.specs.Answers.{value, refusal}
use Rattle.letters.specs.Editions.{first_edition}
use Rattle.letters.specs.Letters.{HeaderFits}
use Rattle.letters.specs.Words.{letter_word}
use Rattle.letters.specs.Coding.{decode_letter}
use Rattle.letters.proofs.Theory.WordLaws.{first_roomy, decode-header, decode_header_refused, decode-letter, decode_letter_refused}
use Rattle.traces.specs.Reading.{reading}
use Rattle.letters.specs.RefusalNumbers.{header_malformed, letter_malformed}
use Rattle.semantics.specs.Terms.{Trace, begin, ◌▸◌, state}
use Rattle.semantics.specs.Models.{Feasible}
use Rattle.semantics.specs.Coherence.{Coherent}
use Rattle.semantics.specs.Judgement.{size}
use Rattle.semantics.proofs.Theory.Judge.{coherent_is}
use Rattle.semantics.specs.FirstLetters.{coherent_part}
use Rattle.semantics.proofs.Theory.JudgementLaws.{longest_is, longest_unique}
use Rattle.window.proofs.Theory.Step.{fits_within}
use Rattle.streaming.specs.Monitor.{outcome_answer, stepped, idle_of, fresh_monitor, start_of, moved_of, advance}
use Rattle.streaming.proofs.Theory.MonitorLaws.{start_taken, start_refused, advance_taken, advance_refused, idle_refuses}
use Rattle.streaming.specs.Following.{Follows}
use Rattle.streaming.proofs.Theory.StepRight.{follows_start, follows_moved}
use Rattle.streaming.specs.Run.{run_answer, next_number, begun_run, taken_run}
use Rattle.streaming.proofs.Theory.NumberLaws.{next_capped}
use Rattle.streaming.specs.Following.{RunFollows}
use Rattle.streaming.proofs.Theory.RunRight.{run_start, run_more, taken_refused, taken_ended}
use Rattle.streaming.specs.Stream.{empty_stream, pushed_of, finished_of, pushed_all, judged_bytes}
use Rattle.streaming.specs.Demand2.{Demand2}
use Rattle.streaming.proofs.Theory.Demand2.{demand_unique}
use Rattle.streaming.proofs.Theory.StreamRight.{exact_of, begun_refused, demand_exact, answer_capped, demand_met, pushed_append, stream_answers}
use Rattle.streaming.specs.Run.{capped_answer}
use Rattle.streaming.specs.declared.Monitor.{Monitor}
use Rattle.streaming.specs.Outcome as outcome
use Rattle.streaming.specs.declared.Run.{Run}
use Rattle.streaming.specs.Outcome.{Stepped}
use Rattle.streaming.specs.declared.Stream.{Stream}
use Rattle.streaming.specs.declared.RunAnswer.{RunAnswer}
use Rattle.streaming.specs.Meanings.{Monitors, RefusesAll, Starts, Advances, RunBegins, RunTakes, Streams, StreamStarts, StreamPushes, StreamFinishes}

pub monitors : (ρ : Trace) (m : Monitor) → HeaderFits first_edition (state ρ).header → Follows ρ m → Monitors ρ m
monitors ρ m v f = record {
  fits = v;
  follows = f;
  running = subst (λ b. T b ↔ Coherent ρ) (sym f.running) (coherent_is ρ f.formed);
  infeasible = λ π l.
      subst (λ (κ : Trace). T m.window.infeasible ↔ (¬ Feasible (state κ))) (longest_unique ρ (coherent_part ρ) π (longest_is ρ f.formed) l)
      f.holds.tracks.infeasible;
}

pub starts : (word : ℕ) (r : Stepped) → r ≡ start_of word → Starts word r
starts word r e = record {
  computed = e;
  taken = λ h v w.
      let q : r ≡ stepped outcome.Taken (fresh_monitor h) = e ∙ start_taken word h ((decode-header first_roomy word h).1 (v, w)) in
      subst (λ (s : Stepped). (outcome_answer s.outcome ≡ value tt) × Monitors (begin h) s.monitor) (sym q)
      (refl, monitors (begin h) (fresh_monitor h) v (follows_start h v.registers));
  refused = λ none.
      let q : r ≡ stepped (outcome.Refused header_malformed) idle_of =
      e ∙ start_refused word header_malformed 0 ((decode_header_refused first_roomy word).1 none) in
      subst (λ (s : Stepped). (outcome_answer s.outcome ≡ refusal header_malformed 0) × RefusesAll s.monitor) (sym q) (refl, idle_refuses);
}

module _ (ρ : Trace) (h : Header) (g : h ≡ (state ρ).header) (v : HeaderFits first_edition (state ρ).header) (word : ℕ) where
  -- what a word is under the header of a trace
  letter_known : (a : Letter) → Fits (state ρ).header a → letter_word first_edition (state ρ).header a ≡ word → decode_letter first_edition h word ≡ value a
  letter_known a f w = ap (λ k. decode_letter first_edition k word) g ∙ (decode-letter first_roomy (state ρ).header word a).1 (v, f, w)

  letter_none : ((a : Letter) → Fits (state ρ).header a → letter_word first_edition (state ρ).header a ≡ word → ⊥)
      → decode_letter first_edition h word ≡ refusal letter_malformed 0
  letter_none none = ap (λ k. decode_letter first_edition k word) g ∙ (decode_letter_refused first_roomy (state ρ).header word).1 (λ a _. none a)

pub advances : (m : Monitor) (word : ℕ) (r : Stepped) → r ≡ advance m word → Advances m word r
advances m word r e = record {
  computed = e;
  taken = λ ρ t a f w.
      let v = t.fits in
      let q : r ≡ stepped outcome.Taken (moved_of m a) = e ∙ advance_taken m word a (letter_known ρ m.header t.follows.header v word a f w) in
      subst (λ (s : Stepped). (outcome_answer s.outcome ≡ value tt) × Monitors (ρ ▸ a) s.monitor) (sym q)
      (refl, monitors (ρ ▸ a) (moved_of m a) v (follows_moved ρ m t.follows a (fits_within (state ρ).header a v.registers v.functions f) f));
  refused = λ ρ t none.
      let q : r ≡ stepped (outcome.Refused letter_malformed) m =
      e ∙ advance_refused m word letter_malformed 0 (letter_none ρ m.header t.follows.header t.fits word none) in
      subst (λ (s : Stepped). (outcome_answer s.outcome ≡ refusal letter_malformed 0) × (s.monitor ≡ m)) (sym q) (refl, refl);
}

pub run_begins : (word : ℕ) (r : Run) → r ≡ begun_run word → RunBegins word r
run_begins word r e = record {
  computed = e;
  taken = λ h v w. subst (RunFollows (begin h)) (sym e) (run_start word h ((decode-header first_roomy word h).1 (v, w)));
  refused = λ none. ap (λ (q : Run). run_answer q.verdict) (e ∙ begun_refused word header_malformed 0 ((decode_header_refused first_roomy word).1 none));
}

pub run_takes : (run : Run) (word : ℕ) (r : Run) → r ≡ taken_run run word → RunTakes run word r
run_takes run word r e = record {
  computed = e;
  taken = λ ρ v f a fits w. subst (RunFollows (ρ ▸ a)) (sym e) (run_more ρ run f word a (letter_known ρ (state ρ).header refl v word a fits w));
  refused = λ ρ v f none.
      let d = letter_none ρ run.monitor.header f.monitor.header v word none in
      ap (λ (q : Run). run_answer q.verdict) (e ∙ taken_refused run word _ _ letter_malformed 0 f.verdict d)
      ∙ ap (refusal letter_malformed) (ap next_number f.letters ∙ next_capped (size ρ));
  ended = λ number place v. e ∙ taken_ended run word number place v;
}

pub stream_starts : (r : Stream) → r ≡ empty_stream → StreamStarts r
unfolding pushed_all
stream_starts r e = record { computed = e; streams = record { pushed = e } }

pub pushes : (s : Stream) (bytes : List ℕ) (r : Stream) → r ≡ pushed_all s bytes → StreamPushes s bytes r
pushes s bytes r e = record {
  computed = e;
  streams = λ earlier t. record { pushed = e ∙ ap (λ (q : Stream). pushed_all q bytes) t.pushed ∙ sym (pushed_append empty_stream earlier bytes) };
}

pub pushes_byte : (s : Stream) (byte : ℕ) (r : Stream) → r ≡ pushed_of s byte → StreamPushes s (byte ∷ []) r
unfolding pushed_all
pushes_byte s byte r e = pushes s (byte ∷ []) r e

pub pushes_one : (s : Stream) (byte : ℕ) (r : Stream) → StreamPushes s (byte ∷ []) r → r ≡ pushed_of s byte
unfolding pushed_all
pushes_one s byte r p = p.computed

pub finishes : (s : Stream) (r : RunAnswer) → r ≡ finished_of s → StreamFinishes s r
finishes s r e = record {
  computed = e;
  meets = λ bytes t l. subst (λ v. Demand2 bytes (run_answer v)) (sym (answered bytes t)) (demand_met bytes l);
  beyond = λ bytes t exact d.
      ap run_answer (answered bytes t) ∙ answer_capped bytes
      ∙ ap capped_answer (demand_unique bytes (exact_of (reading first_edition bytes)) exact (demand_exact bytes) d);
}
  where
    answered : (bytes : List ℕ) → Streams bytes s → r ≡ judged_bytes bytes
    answered bytes t = e ∙ ap finished_of t.pushed ∙ stream_answers bytes
