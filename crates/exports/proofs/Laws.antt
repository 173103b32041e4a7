-- What the proofs of several functions use: an answer that is too short or has its numbers stored, and the numbers of each answer.
use mathlib.Core.Path.{◌≡◌, refl, ap, ◌∙◌, subst}
use native.Mathlib.Omega.{arith}
use Prim.Native.Nat.{ℕ, ◌≤◌, ◌<◌}
use mathlib.Core.List.{List, [], ◌∷◌, ◌++◌}
use lib.ListN.{length, drop}
use borrow.Author.Tests.{lt-ltb, le-ltb}
use Rattle.streaming.specs.Run.{run_answer}
use Rattle.streaming.specs.Stream.{judged_bytes}
use Rattle.streaming.specs.declared.RunAnswer.{RunAnswer}
use Rattle.letters.specs.Editions.{first_edition, most_letters}
use Rattle.traces.specs.ReadingParts.{reading_within}
use Rattle.model_writer.specs.Answer.{ShowResult, shown_answer, answer_to, output_after, Means, Showed}
use Rattle.std.specs.Prelude.{Result, Ok, Err}
use Rattle.letters.specs.declared.reasons.Refused as reasons
use Rattle.letters.specs.Reasons.{number_of}
use Rattle.syntax.specs.Reads.{Reads}
use Rattle.syntax.specs.declared.MacroRead.{MacroRead}
use Rattle.exports.specs.Numbers.{laid_over, run_numbers, monitored, model_numbers, modelled, model_output, ModelMeans, ReadsMacro}
use Rattle.exports.specs.Held.{held_numbers}
use Rattle.exports.proofs.Theory.Held.{held_accepted, held_refused}
use Rattle.semantics.specs.Models.{Feasible}
use Rattle.verdict_theory.specs.Demand3.{Demand3}
use Rattle.search.specs.Answering as search
use Rattle.search.specs.declared.Verdict as searched
use Rattle.search.specs.declared.Verdict.TheVariants as found
use Rattle.exports.specs.Judging.{verdict_numbers, Judging}

-- ---- An answer

pub too_short : {n m : ℕ} → n < m → m ≤ n → ⊥
too_short short room = omega arith

pub laid_short : (n : ℕ) (numbers answer : List ℕ) → length answer < n → answer ≡ laid_over n numbers answer
unfolding laid_over
laid_short n numbers answer short = rw (lt-ltb (length answer) n short) refl

pub laid_stored : (n : ℕ) (numbers stored answer answer' : List ℕ) → stored ≡ numbers → length stored ≡ n → n ≤ length answer
    → answer' ≡ stored ++ drop (length stored) answer → answer' ≡ laid_over n numbers answer
unfolding laid_over
laid_stored n numbers stored answer answer' same full room e = rw (le-ltb (length answer) n room) (e ∙ rw full (ap (λ l. l ++ drop n answer) same))

-- ---- The monitor

pub monitored_short : (trace answer : List ℕ) → length answer < 4 → answer ≡ monitored trace answer
unfolding monitored
monitored_short trace answer short = laid_short 4 _ answer short

pub monitored_stored : (trace stored answer answer' : List ℕ) (v : RunAnswer) → v ≡ judged_bytes trace → stored ≡ run_numbers (run_answer v) → length stored ≡ 4
    → 4 ≤ length answer → answer' ≡ stored ++ drop (length stored) answer
    → answer' ≡ monitored trace answer
unfolding monitored
monitored_stored trace stored answer answer' v e same = laid_stored 4 _ stored answer answer' (same ∙ ap (λ w. run_numbers (run_answer w)) e)

-- ---- The shown model

pub modelled_short : (trace : List ℕ) (room : ℕ) (answer : List ℕ) → length answer < 4 → answer ≡ modelled trace room answer
unfolding modelled
modelled_short trace room answer short = laid_short 4 _ answer short

pub modelled_stored : (trace : List ℕ) (room : ℕ) (stored answer answer' : List ℕ) (s : ShowResult)
    → shown_answer s ≡ answer_to (reading_within most_letters first_edition trace) room → stored ≡ model_numbers (shown_answer s) → length stored ≡ 4
    → 4 ≤ length answer → answer' ≡ stored ++ drop (length stored) answer → answer' ≡ modelled trace room answer
unfolding modelled
modelled_stored trace room stored answer answer' s e same = laid_stored 4 _ stored answer answer' (same ∙ ap model_numbers e)

pub output_short : (trace out answer : List ℕ) → length answer < 4 → out ≡ model_output trace out answer
unfolding model_output
output_short trace out answer short = rw (lt-ltb (length answer) 4 short) refl

pub output_shown : (trace out out' answer : List ℕ) → 4 ≤ length answer → out' ≡ output_after (reading_within most_letters first_edition trace) out
    → out' ≡ model_output trace out answer
unfolding model_output
output_shown trace out out' answer room e = rw (le-ltb (length answer) 4 room) e

pub model_means : {trace out out' : List ℕ} {s : ShowResult} → Showed trace out s out' → ModelMeans trace out out'
model_means {trace} {out} {out'} w = subst (λ a. Means trace out a out') w.answer w.means

-- ---- The reader

pub read_short : (text answer : List ℕ) → length answer < 5 → ReadsMacro text answer answer
read_short text answer short = record { accepted = λ m a. laid_short 5 _ answer short; refused = λ number place r. laid_short 5 _ answer short }

pub read_stored : (text stored answer answer' : List ℕ) (a : MacroRead) → Reads text a → stored ≡ held_numbers a → length stored ≡ 5 → 5 ≤ length answer
    → answer' ≡ stored ++ drop (length stored) answer → ReadsMacro text answer answer'
read_stored text stored answer answer' a reads same full room e = record {
  accepted = λ m k. laid_stored 5 _ stored answer answer' (same ∙ held_accepted text a reads m k) full room e;
  refused = λ number place r. laid_stored 5 _ stored answer answer' (same ∙ held_refused text a reads number place r) full room e;
}

-- ---- The verdict on a macro

pub numbers_pass : (v : Result searched.Verdict reasons.Refused) (pairs : ℕ) → v ≡ Ok (found.Pass pairs)
    → 0 ∷ 0 ∷ 0 ∷ pairs ∷ 0 ∷ [] ≡ verdict_numbers (search.answer_of v)
unfolding verdict_numbers
numbers_pass v pairs e = rw e refl

pub numbers_fail : (v : Result searched.Verdict reasons.Refused) (pairs letters : ℕ) → v ≡ Ok (found.Fail pairs letters)
    → 0 ∷ 0 ∷ 1 ∷ pairs ∷ letters ∷ [] ≡ verdict_numbers (search.answer_of v)
unfolding verdict_numbers
numbers_fail v pairs letters e = rw e refl

pub numbers_incoherent : (v : Result searched.Verdict reasons.Refused) (pairs letters : ℕ) → v ≡ Ok (found.Incoherent pairs letters)
    → 0 ∷ 0 ∷ 2 ∷ pairs ∷ letters ∷ [] ≡ verdict_numbers (search.answer_of v)
unfolding verdict_numbers
numbers_incoherent v pairs letters e = rw e refl

pub numbers_unjudged : (v : Result searched.Verdict reasons.Refused) (e : reasons.Refused) (number : ℕ) → v ≡ Err e → number ≡ number_of e.reason
    → number ∷ e.place ∷ 0 ∷ 0 ∷ 0 ∷ [] ≡ verdict_numbers (search.answer_of v)
unfolding verdict_numbers
numbers_unjudged v e number q g = rw (q, g) refl

pub judging_short : (text table output answer : List ℕ) → length answer < 5 → Judging text table output answer table output answer
judging_short text table output answer short = record { short = λ _. (refl, refl, refl); judged = λ room. absurd (too_short short room) }

pub judging_stored : (text table output answer table' output' stored answer' : List ℕ) (v : Result searched.Verdict reasons.Refused)
    → Demand3 Feasible text table output (search.answer_of v) table' output'
    → stored ≡ verdict_numbers (search.answer_of v) → length stored ≡ 5 → 5 ≤ length answer → answer' ≡ stored ++ drop (length stored) answer
    → Judging text table output answer table' output' answer'
judging_stored text table output answer table' output' stored answer' v demand same full room e = record {
  short = λ short. absurd (too_short short room);
  judged = λ _. (search.answer_of v, demand, e ∙ rw full (ap (λ l. l ++ drop 5 answer) same));
}
