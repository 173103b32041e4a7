-- From the text of a macro to its verdict.
use mathlib.Core.Path.{◌≡◌, refl, sym, ap, ◌∙◌}
use mathlib.Core.List.{List}
use Prim.Native.Nat.{ℕ}
use native.Mathlib.Omega.{arith}
use mathlib.Core.Logic.{◌≢◌}
use lib.ListN.{length, replicate}
use Rattle.std.specs.Prelude.{Result, Ok, Err}
use Rattle.letters.specs.Reasons.{number_of}
use Rattle.letters.specs.declared.reasons.Refused.{Refused}
use Rattle.grammar.specs.Grammar.{Macro}
use Rattle.grammar.proofs.Theory.Reading.{read_macro}
use Rattle.refusals.specs.Accepted.{Accepted}
use Rattle.refusals.specs.Order.{Refusal}
use Rattle.refusals.proofs.Theory.Order.{refusal_number}
use Rattle.syntax.specs.declared.MacroRead as reading
use Rattle.refusals.proofs.Theory.Accepted.{accepted_read}
use Rattle.syntax.specs.declared.CompiledMacro.{CompiledMacro}
use Rattle.syntax.specs.Answer.{no_macro, held_macro, held_answer}
use Rattle.syntax.specs.Reads.{Reads}
use Rattle.syntax.proofs.Theory.Reads.{reads, numbered_macro, numbered_refusal}
use Rattle.verdict_theory.specs.Verdict.{refused}
use Rattle.semantics.specs.Models.{Feasible}
use Rattle.verdict_theory.specs.Demand3.{Demand3}
use Rattle.search.specs.declared.Verdict.{Verdict}
use Rattle.search.specs.Answering.{answer_of}
use Rattle.search.specs.MacroSearch.{HoldsMacro, Tells}
use Rattle.search.proofs.Theory.Telling.{tells_verdict}

-- The text was read, with this answer in numbers.
module _ (text : List ℕ) (read : reading.MacroRead) (told : Reads text read) where
  not_refused : {n p : ℕ} → read.refusal ≡ 0 → Refusal text n p → ⊥
  not_refused {n} {p} e r =
      let (a, b) = refusal_number n p r in
      let i = (told.refuses n p r).0 in
      omega arith

  not_accepted : {m : Macro} → read.refusal ≢ 0 → Accepted text m → ⊥
  not_accepted {m} e a = e (told.accepts m a).0

  pub readable : read.refusal ≡ 0 → HoldsMacro read.program
  readable e = let (m, a, h) = told.accepted e in (record { macro = m; in_order = a.in_order; few = a.few }, sym h)

  module _ (table output : List ℕ) where
    -- refused before the search
    pub judged_refused : read.refusal ≢ 0 → Demand3 Feasible text table output (refused read.refusal read.place) table output
    judged_refused e = record {
      unread = λ n p r. let (i, j, k) = told.refuses n p r in ((λ h. refused (i h) (j h)), refl, refl);
      verdict = λ m a. absurd (not_accepted e a);
      zeroed = λ m a. absurd (not_accepted e a);
    }

    -- after the search
    pub judged_macro : read.refusal ≡ 0 → (r : Result Verdict Refused) (table' output' : List ℕ) → Tells read.program table output r output'
        → table' ≡ replicate (length table) 0
        → Demand3 Feasible text table output (answer_of r) table' output'
    judged_macro e r table' output' y z = record {
      unread = λ n p q. absurd (not_refused e q);
      verdict = λ m a.
          tells_verdict read.program (record { macro = m; in_order = a.in_order; few = a.few }) (sym (told.accepts m a).2) table output r output' y;
      zeroed = λ m a. z;
    }

-- The text was read, with this Result, from which the answer in numbers is made.
module _ (text : List ℕ) (read : Result CompiledMacro Refused) (told : read ≡ held_answer (read_macro text)) where
  -- refused before the search
  module _ {d : Refused} (was : read ≡ Err d) where
    refused_as : Reads text (record { refusal = number_of d.reason; place = d.place; program = no_macro })
    refused_as = reads text _ (numbered_refusal text told was (number_of d.reason) refl no_macro refl)

    unaccepted : (m : Macro) → Accepted text m → ⊥
    unaccepted m a = let (f, h) = accepted_read text m a in
        let z : Ok (held_macro m) ≡ Err d = sym (told ∙ ap held_answer h) ∙ was in absurd (cc)

    pub answered_refused : (table output : List ℕ) → Demand3 Feasible text table output (answer_of (Err d)) table output
    answered_refused table output = record {
      unread = λ n p r. let (i, j, k) = refused_as.refuses n p r in ((λ h. refused (i h) (j h)), refl, refl);
      verdict = λ m a. absurd (unaccepted m a);
      zeroed = λ m a. absurd (unaccepted m a);
    }

  -- after the search
  module _ {program : CompiledMacro} (was : read ≡ Ok program) where
    accepted_as : Reads text (record { refusal = 0; place = 0; program = program })
    accepted_as = reads text _ (numbered_macro text told was)

    pub answered_readable : HoldsMacro program
    answered_readable = readable text _ accepted_as refl

    pub answered_macro : (table output : List ℕ) (r : Result Verdict Refused) (table' output' : List ℕ) → Tells program table output r output'
        → table' ≡ replicate (length table) 0
        → Demand3 Feasible text table output (answer_of r) table' output'
    answered_macro table output r table' output' y z = judged_macro text _ accepted_as table output refl r table' output' y z
