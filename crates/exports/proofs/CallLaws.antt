-- What the calls that write and read traces and those of the monitor leave, from what their own calls ensure.
use mathlib.Core.Path.{◌≡◌, refl, sym, ap, ◌∙◌, subst}
use native.Mathlib.Omega.{arith}
use Prim.Native.Nat.{ℕ, ◌≤◌, ◌<◌}
use mathlib.Core.Bool.{Bool, true, false}
use mathlib.Core.List.{List, [], ◌∷◌, ◌++◌}
use lib.Dec.{ltb, eqb}
use lib.ListN.{length, get_or, drop, set}
use borrow.Author.Tests.{le-ltb, eq-eqb, ltb-false}
use Rattle.base.specs.Choice.{pick}
use Rattle.letters.specs.declared.Header.{Header}
use Rattle.std.specs.Prelude.{Result}
use Rattle.letters.specs.declared.reasons.Refused.{Refused}
use Rattle.letters.specs.Answers.{value, refusal}
use Rattle.letters.specs.Reasons.{as_answer}
use Rattle.letters.specs.Editions.{first_edition}
use Rattle.letters.proofs.Theory.WordLaws.{first_roomy, decode_header_refused}
use Rattle.traces.specs.Reading.{reading}
use Rattle.letters.specs.RefusalNumbers.{header_malformed, letter_malformed}
use Rattle.traces.specs.Writing.{unpacking, WroteTrace}
use Rattle.traces.specs.Unpacking.{Unpacked}
use Rattle.semantics.specs.Terms.{Trace, State, state}
use Rattle.semantics.specs.Facts.{Valid}
use Rattle.semantics.specs.FirstLetters.{coherent_part}
use Rattle.window.specs.Step.{IsWindow}
use Rattle.window.specs.declared.Window.{Window}
use Rattle.semantics.proofs.Theory.Facts.{state_valid}
use Rattle.semantics.proofs.Theory.JudgementLaws.{part_formed, longest_is, longest_unique}
use Rattle.streaming.specs.Monitor.{outcome_answer, idle_of, advance}
use Rattle.streaming.proofs.Theory.MonitorLaws.{start_refused}
use Rattle.streaming.specs.Run.{run_answer}
use Rattle.streaming.specs.Stream.{pushed_all, finished_of}
use Rattle.streaming.specs.Meanings.{Monitors, Starts, Advances, Streams, StreamStarts, StreamPushes, StreamFinishes}
use Rattle.streaming.proofs.Theory.Meanings.{finishes}
use Rattle.streaming.specs.declared.Monitor.{Monitor}
use Rattle.streaming.specs.Outcome as outcome
use Rattle.streaming.specs.Outcome.{Stepped}
use Rattle.streaming.specs.declared.Stream.{Stream}
use Rattle.streaming.specs.declared.RunAnswer.{RunAnswer}
use Rattle.records.specs.Records.{flag}
use Rattle.states.specs.States.{monitor_size, stream_size, stream_then, monitor_in, stream_in, KeepsMonitor, KeepsStream}
use Rattle.exports.specs.Numbers.{run_numbers}
use Rattle.exports.specs.TraceCalls.{written_numbers, read_numbers, Writes, ReadsTrace}
use Rattle.exports.specs.MonitorCalls.{monitor_kind, stream_kind, no_state, no_state_numbers, holds_state, monitor_numbers}
use Rattle.exports.specs.MonitorCalls.{stepped_numbers, kept_over}
use Rattle.exports.specs.MonitorCalls.{KeepsStep, HoldsMonitor, StartsMonitor, StepsMonitor, AsksMonitor}
use Rattle.exports.specs.MonitorCalls.{HoldsStream, StartsStream, PushesStream, FinishesStream}
use Rattle.exports.proofs.Laws.{too_short}

-- ---- numbers

-- numbers that were stored over the front of an answer
stored_over : (n : ℕ) (numbers stored answer answer' : List ℕ) → stored ≡ numbers → length stored ≡ n
    → answer' ≡ stored ++ drop (length stored) answer → answer' ≡ numbers ++ drop n answer
stored_over n numbers stored answer answer' same full e = e ∙ rw full (ap (λ l. l ++ drop n answer) same)

-- one number stored
one_stored : (answer : List ℕ) (v : ℕ) → 1 ≤ length answer → set answer 0 v ≡ v ∷ drop 1 answer
one_stored [] v l = absurd (omega arith)
one_stored (x ∷ answer) v l = refl

-- ---- traces

module _ (h : Header) (fields out answer : List ℕ) where
  pub writes_short : length answer < 3 → Writes h fields out answer out answer
  writes_short s = record { short = λ _. (refl, refl); written = λ room. absurd (too_short s room) }

  pub writes_stored : (out' stored answer' : List ℕ) (w : Result ℕ Refused) → WroteTrace first_edition (unpacking first_edition h fields) out out' (as_answer w)
      → stored ≡ written_numbers (as_answer w) → length stored ≡ 3 → 3 ≤ length answer → answer' ≡ stored ++ drop (length stored) answer
      → Writes h fields out answer out' answer'
  writes_stored out' stored answer' w d same full room e = record {
    short = λ s. absurd (too_short s room);
    written = λ _. (d.bytes, stored_over 3 _ stored answer answer' (same ∙ ap written_numbers d.answered) full e);
  }

module _ (trace out answer : List ℕ) where
  pub reads_short : length answer < 6 → ReadsTrace trace out answer out answer
  reads_short s = record { short = λ _. (refl, refl); read = λ room. absurd (too_short s room) }

  pub reads_stored : (out' stored answer' : List ℕ) (r : Result (Header × ℕ) Refused) → Unpacked (reading first_edition trace) out out' (as_answer r)
      → stored ≡ read_numbers (as_answer r) → length stored ≡ 6 → 6 ≤ length answer → answer' ≡ stored ++ drop (length stored) answer
      → ReadsTrace trace out answer out' answer'
  reads_stored out' stored answer' r d same full room e = record {
    short = λ s. absurd (too_short s room);
    read = λ _. (d.bytes, stored_over 6 _ stored answer answer' (same ∙ ap read_numbers d.answered) full e);
  }

-- ---- states

-- two answers of one test
true_false : {b : Bool} → b ≡ true → b ≡ false → ⊥
true_false p q = let z : ◌≡◌ {A = ℕ} 0 1 = cc in omega arith

-- a state of this kind that is long enough
held : (kind size : ℕ) (s : List ℕ) → size ≤ length s → get_or s 0 0 ≡ kind → holds_state kind size s ≡ true
unfolding holds_state
held kind size s l e = rw (le-ltb (length s) size l) (eq-eqb (get_or s 0 0) kind e)

pub held_long : (kind size : ℕ) (s : List ℕ) → holds_state kind size s ≡ true → size ≤ length s
unfolding holds_state
held_long kind size s = go (ltb (length s) size) refl
  where
    go : (t : Bool) → ltb (length s) size ≡ t → pick t (λ _. false) (λ _. eqb (get_or s 0 0) kind) ≡ true → size ≤ length s
    go true e q = absurd (true_false refl (sym q))
    go false e q = ltb-false (length s) size e

-- ---- the monitor

pub keeps_taken : (r : Stepped) (entry exit : List ℕ) → r.outcome ≡ outcome.Taken → KeepsMonitor monitor_kind r.monitor entry exit
    → KeepsStep r entry exit
unfolding kept_over
keeps_taken r entry exit o k = record { bytes = rw o k.bytes; back = λ _. (k.kept, k.back) }

pub keeps_refused : (r : Stepped) (entry : List ℕ) (number : ℕ) → r.outcome ≡ outcome.Refused number → KeepsStep r entry entry
unfolding kept_over
keeps_refused r entry number o = record {
  bytes = rw o;
  back = λ t. absurd (let z : ◌≡◌ {A = ℕ} 0 1 = cc in omega arith);
}

-- What a call leaves, from what was stored.
module _ (r : Stepped) (entry exit answer answer' : List ℕ) (k : KeepsStep r entry exit) (e : answer' ≡ stepped_numbers r ++ drop 4 answer) where
  -- taken: the state, and the numbers of the monitor in it
  holds_after : (ρ : Trace) → (outcome_answer r.outcome ≡ value tt) × Monitors ρ r.monitor
      → HoldsMonitor ρ exit × (answer' ≡ monitor_numbers 0 (monitor_in exit) ++ drop 4 answer)
  unfolding stepped_numbers
  holds_after ρ (t, m) =
      let (kind, back) = k.back t in (
        record { kind = kind; monitors = subst (Monitors ρ) (sym back) m },
        e ∙ rw (t, back),
      )

  -- refused: the state stays
  refused_after : (number place : ℕ) (m : Monitor) → outcome_answer r.outcome ≡ refusal number place → r.monitor ≡ m
      → (exit ≡ entry) × (answer' ≡ monitor_numbers number m ++ drop 4 answer)
  unfolding stepped_numbers kept_over
  refused_after number place m o same = (k.bytes ∙ rw o, e ∙ rw (o, same))

module _ (word : ℕ) (entry answer : List ℕ) where
  pub start_short : length answer < 4 → StartsMonitor word entry answer entry answer
  start_short s = record {
    short = λ _. (refl, refl);
    none = λ room. absurd (too_short s room);
    started = λ room. absurd (too_short s room);
    holds = λ room. absurd (too_short s room);
    refused = λ room. absurd (too_short s room);
  }

  pub start_none : (answer' stored : List ℕ) → 4 ≤ length answer → length entry < monitor_size → stored ≡ no_state_numbers → length stored ≡ 4
      → answer' ≡ stored ++ drop (length stored) answer → StartsMonitor word entry answer entry answer'
  start_none answer' stored room less same full e = record {
    short = λ s. absurd (too_short s room);
    none = λ _ _. (refl, stored_over 4 _ stored answer answer' same full e);
    started = λ _ l. absurd (too_short less l);
    holds = λ _ l. absurd (too_short less l);
    refused = λ _ l. absurd (too_short less l);
  }

  pub start_done : (exit stored answer' : List ℕ) (r : Stepped) → 4 ≤ length answer → monitor_size ≤ length entry → Starts word r → KeepsStep r entry exit
      → stored ≡ stepped_numbers r → length stored ≡ 4 → answer' ≡ stored ++ drop (length stored) answer
      → StartsMonitor word entry answer exit answer'
  unfolding flag
  start_done exit stored answer' r room long d k same full e =
      let numbers : answer' ≡ stepped_numbers r ++ drop 4 answer = stored_over 4 _ stored answer answer' same full e in
      record {
        short = λ s. absurd (too_short s room);
        none = λ _ less. absurd (too_short less long);
        started = λ _ _. (k.bytes ∙ ap (λ s. kept_over s entry) d.computed, numbers ∙ ap (λ s. stepped_numbers s ++ drop 4 answer) d.computed);
        holds = λ _ _ h v w. holds_after r entry exit answer answer' k numbers _ (d.taken h v w);
        refused = λ _ _ none.
            refused_after r entry exit answer answer' k numbers header_malformed 0 idle_of (d.refused none).0
            (ap (λ (s : Stepped). s.monitor) (d.computed ∙ start_refused word header_malformed 0 ((decode_header_refused first_roomy word).1 none)));
      }

  pub step_short : length answer < 4 → StepsMonitor word entry answer entry answer
  step_short s = record {
    short = λ _. (refl, refl);
    none = λ room. absurd (too_short s room);
    stepped = λ room. absurd (too_short s room);
    holds = λ room. absurd (too_short s room);
    refused = λ room. absurd (too_short s room);
  }

  pub step_none : (answer' stored : List ℕ) → 4 ≤ length answer → holds_state monitor_kind monitor_size entry ≡ false
      → stored ≡ no_state_numbers → length stored ≡ 4
      → answer' ≡ stored ++ drop (length stored) answer → StepsMonitor word entry answer entry answer'
  step_none answer' stored room lacks same full e = record {
    short = λ s. absurd (too_short s room);
    none = λ _ _. (refl, stored_over 4 _ stored answer answer' same full e);
    stepped = λ _ y. absurd (true_false y lacks);
    holds = λ _ long ρ t. absurd (true_false (held monitor_kind monitor_size entry long t.kind) lacks);
    refused = λ _ long ρ t. absurd (true_false (held monitor_kind monitor_size entry long t.kind) lacks);
  }

  pub step_done : (exit stored answer' : List ℕ) (m : Monitor) (r : Stepped) → 4 ≤ length answer → holds_state monitor_kind monitor_size entry ≡ true
      → m ≡ monitor_in entry → Advances m word r → KeepsStep r entry exit
      → stored ≡ stepped_numbers r → length stored ≡ 4 → answer' ≡ stored ++ drop (length stored) answer → StepsMonitor word entry answer exit answer'
  step_done exit stored answer' m r room yes_held same_monitor d k same full e =
      let q : r ≡ advance (monitor_in entry) word = d.computed ∙ ap (λ n. advance n word) same_monitor in
      let numbers : answer' ≡ stepped_numbers r ++ drop 4 answer = stored_over 4 _ stored answer answer' same full e in
      let before : (ρ : Trace) → HoldsMonitor ρ entry → Monitors ρ m = (λ ρ t. subst (Monitors ρ) (sym same_monitor) t.monitors) in
      record {
        short = λ s. absurd (too_short s room);
        none = λ _ lacks. absurd (true_false yes_held lacks);
        stepped = λ _ _. (k.bytes ∙ ap (λ s. kept_over s entry) q, numbers ∙ ap (λ s. stepped_numbers s ++ drop 4 answer) q);
        holds = λ _ _ ρ t a f w. holds_after r entry exit answer answer' k numbers _ (d.taken ρ (before ρ t) a f w);
        refused = λ _ _ ρ t none.
            let (o, stays) = d.refused ρ (before ρ t) none in
            refused_after r entry exit answer answer' k numbers letter_malformed 0 _ o (stays ∙ same_monitor);
      }

-- ---- a number of the monitor's window

module _ (number : Window → ℕ) (NumberOf : State → ℕ → Type 0) (entry answer : List ℕ) where
  pub asked_short : length answer < 2 → AsksMonitor number NumberOf entry answer answer
  asked_short s = record {
    short = λ _. refl;
    none = λ room. absurd (too_short s room);
    asked = λ room. absurd (too_short s room);
    means = λ room. absurd (too_short s room);
  }

  pub asked_none : (stored answer' : List ℕ) → 2 ≤ length answer → holds_state monitor_kind monitor_size entry ≡ false → stored ≡ no_state ∷ 0 ∷ []
      → length stored ≡ 2 → answer' ≡ stored ++ drop (length stored) answer → AsksMonitor number NumberOf entry answer answer'
  asked_none stored answer' room lacks same full e = record {
    short = λ s. absurd (too_short s room);
    none = λ _ _. stored_over 2 _ stored answer answer' same full e;
    asked = λ _ y. absurd (true_false y lacks);
    means = λ _ long ρ π t. absurd (true_false (held monitor_kind monitor_size entry long t.kind) lacks);
  }

  pub asked_done : (stored answer' : List ℕ) (m : Monitor) (told : ℕ) → 2 ≤ length answer → holds_state monitor_kind monitor_size entry ≡ true
      → m ≡ monitor_in entry → told ≡ number m.window
      → ((σ : State) → Valid σ → IsWindow σ m.window → NumberOf σ told) → stored ≡ 0 ∷ told ∷ []
      → length stored ≡ 2 → answer' ≡ stored ++ drop (length stored) answer → AsksMonitor number NumberOf entry answer answer'
  asked_done stored answer' m told room yes_held same_monitor made means same full e =
      let numbers : answer' ≡ 0 ∷ told ∷ drop 2 answer = stored_over 2 _ stored answer answer' same full e in
      record {
        short = λ s. absurd (too_short s room);
        none = λ _ lacks. absurd (true_false yes_held lacks);
        asked = λ _ _. numbers ∙ ap (λ k. 0 ∷ k ∷ drop 2 answer) (made ∙ ap (λ (n : Monitor). number n.window) same_monitor);
        means = λ _ _ ρ π t l.
            let follows = t.monitors.follows in
            let window = subst (λ (n : Monitor). IsWindow (state (coherent_part ρ)) n.window) (sym same_monitor) follows.holds in (
              told,
              numbers,
              subst (λ κ. NumberOf (state κ) told) (longest_unique ρ (coherent_part ρ) π (longest_is ρ follows.formed) l)
                  (means (state (coherent_part ρ)) (state_valid (coherent_part ρ) (part_formed ρ follows.formed)) window),
            );
      }

-- ---- the stream

-- the state after storing a stream
holds_stream : (bytes : List ℕ) (s : Stream) (entry exit : List ℕ) → KeepsStream stream_kind s entry exit → Streams bytes s → HoldsStream bytes exit
holds_stream bytes s entry exit k t = record { kind = k.kept; streams = subst (Streams bytes) (sym k.back) t }

module _ (entry answer : List ℕ) where
  pub stream_short : length answer < 1 → StartsStream entry answer entry answer
  stream_short s = record {
    short = λ _. (refl, refl);
    none = λ room. absurd (too_short s room);
    started = λ room. absurd (too_short s room);
    holds = λ room. absurd (too_short s room);
  }

  pub stream_none : 1 ≤ length answer → length entry < stream_size → StartsStream entry answer entry (set answer 0 no_state)
  stream_none room less = record {
    short = λ s. absurd (too_short s room);
    none = λ _ _. (refl, one_stored answer no_state room);
    started = λ _ l. absurd (too_short less l);
    holds = λ _ l. absurd (too_short less l);
  }

  pub stream_started : (exit : List ℕ) (s : Stream) → 1 ≤ length answer → stream_size ≤ length entry → StreamStarts s → KeepsStream stream_kind s entry exit
      → StartsStream entry answer exit (set answer 0 0)
  stream_started exit s room long d k = record {
    short = λ s. absurd (too_short s room);
    none = λ _ less. absurd (too_short less long);
    started = λ _ _. (k.bytes ∙ ap (λ (q : Stream). stream_then stream_kind q (drop stream_size entry)) d.computed, one_stored answer 0 room);
    holds = λ _ _. holds_stream [] s entry exit k d.streams;
  }

module _ (bytes entry answer : List ℕ) where
  pub push_short : length answer < 1 → PushesStream bytes entry answer entry answer
  push_short s = record {
    short = λ _. (refl, refl);
    none = λ room. absurd (too_short s room);
    pushed = λ room. absurd (too_short s room);
    holds = λ room. absurd (too_short s room);
  }

  pub push_none : 1 ≤ length answer → holds_state stream_kind stream_size entry ≡ false → PushesStream bytes entry answer entry (set answer 0 no_state)
  push_none room lacks = record {
    short = λ s. absurd (too_short s room);
    none = λ _ _. (refl, one_stored answer no_state room);
    pushed = λ _ y. absurd (true_false y lacks);
    holds = λ _ long earlier t. absurd (true_false (held stream_kind stream_size entry long t.kind) lacks);
  }

  pub push_done : (exit : List ℕ) (s next : Stream) → 1 ≤ length answer → holds_state stream_kind stream_size entry ≡ true → s ≡ stream_in entry
      → StreamPushes s bytes next → KeepsStream stream_kind next entry exit → PushesStream bytes entry answer exit (set answer 0 0)
  push_done exit s next room yes_held same d k = record {
    short = λ s. absurd (too_short s room);
    none = λ _ lacks. absurd (true_false yes_held lacks);
    pushed = λ _ _. (
      k.bytes ∙ ap (λ (q : Stream). stream_then stream_kind q (drop stream_size entry)) (d.computed ∙ ap (λ (q : Stream). pushed_all q bytes) same),
      one_stored answer 0 room,
    );
    holds = λ _ _ earlier t. holds_stream (earlier ++ bytes) next entry exit k (d.streams earlier (subst (Streams earlier) (sym same) t.streams));
  }

-- demand 2, whatever the answer has room for
answered : (entry : List ℕ) → StreamFinishes (stream_in entry) (finished_of (stream_in entry))
answered entry = finishes (stream_in entry) (finished_of (stream_in entry)) refl

module _ (entry answer : List ℕ) where
  pub finish_short : length answer < 4 → FinishesStream entry answer answer
  finish_short s = record {
    short = λ _. refl;
    none = λ room. absurd (too_short s room);
    finished = λ room. absurd (too_short s room);
    meets = λ bytes t. (answered entry).meets bytes t.streams;
    beyond = λ bytes t. (answered entry).beyond bytes t.streams;
  }

  pub finish_none : (stored answer' : List ℕ) → 4 ≤ length answer → holds_state stream_kind stream_size entry ≡ false
      → stored ≡ no_state_numbers → length stored ≡ 4
      → answer' ≡ stored ++ drop (length stored) answer → FinishesStream entry answer answer'
  finish_none stored answer' room lacks same full e = record {
    short = λ s. absurd (too_short s room);
    none = λ _ _. stored_over 4 _ stored answer answer' same full e;
    finished = λ _ y. absurd (true_false y lacks);
    meets = λ bytes t. (answered entry).meets bytes t.streams;
    beyond = λ bytes t. (answered entry).beyond bytes t.streams;
  }

  pub finish_done : (stored answer' : List ℕ) (s : Stream) (v : RunAnswer) → 4 ≤ length answer → holds_state stream_kind stream_size entry ≡ true
      → s ≡ stream_in entry → StreamFinishes s v → stored ≡ run_numbers (run_answer v) → length stored ≡ 4
      → answer' ≡ stored ++ drop (length stored) answer → FinishesStream entry answer answer'
  finish_done stored answer' s v room yes_held same_stream d same full e = record {
    short = λ s. absurd (too_short s room);
    none = λ _ lacks. absurd (true_false yes_held lacks);
    finished = λ _ _. stored_over 4 _ stored answer answer' (same ∙ ap (λ w. run_numbers (run_answer w)) (d.computed ∙ ap finished_of same_stream)) full e;
    meets = λ bytes t. (answered entry).meets bytes t.streams;
    beyond = λ bytes t. (answered entry).beyond bytes t.streams;
  }
