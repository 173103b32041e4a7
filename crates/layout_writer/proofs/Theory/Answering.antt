-- The writer's answer: a refusal of the reader, the number of a print that is too long, or the print.
use mathlib.Core.Path.{◌≡◌, refl, ap, ◌∙◌}
use mathlib.Core.Logic.{inl, inr}
use Prim.Native.Nat.{ℕ, ◌+◌, ◌≤◌, ◌<◌}
use native.Mathlib.Omega.{arith}
use mathlib.Core.Bool.{true}
use mathlib.Core.List.{List, [], ◌++◌}
use lib.ListN.{length, drop}
use Rattle.letters.specs.MacroRefusalNumbers.{print_too_long}
use Rattle.text.proofs.Theory.Appending.{stored_between}
use Rattle.grammar.specs.Limits.{longest_text}
use Rattle.grammar.specs.Grammar.{Macro}
use Rattle.refusals.specs.Accepted.{Accepted}
use Rattle.refusals.proofs.Theory.Accepted.{never_both}
use Rattle.std.specs.Prelude.{Result, Ok, Err}
use Rattle.letters.specs.Reasons.{number_of}
use Rattle.letters.specs.declared.reasons.Reason.{Reason}
use Rattle.letters.specs.declared.reasons.Reason.TheVariants.{TraceTooShort, TraceOddLength, HeaderMalformed, LetterMalformed, TraceTooLong, OutputTooSmall}
use Rattle.letters.specs.declared.reasons.Reason.TheVariants.{TextTooLong, TokenMalformed, GrammarViolated, DeclarationWrong, UseWrong, NestingTooDeep}
use Rattle.letters.specs.declared.reasons.Reason.TheVariants.{PointsTooMany, TableTooSmall, PrintTooLong, NoRoomForTests}
use Rattle.letters.specs.declared.reasons.Refused.{Refused}
use Rattle.grammar.proofs.Theory.Reading.{read_macro}
use Rattle.syntax.specs.declared.CompiledMacro.{CompiledMacro}
use Rattle.syntax.specs.Answer.{no_macro, held_answer}
use Rattle.syntax.proofs.Theory.Reads.{reads, numbered_macro, numbered_refusal}
use Rattle.syntax.specs.Reads.{Reads}
use Rattle.syntax.specs.declared.MacroRead.{MacroRead}
use Rattle.layout_theory.specs.Layout.{house_layout, longest_print}
use Rattle.layout_theory.specs.Writing.{LayoutAnswer, printed, refused, print_fits, answer_for, buffer_for, WritesLayout}
use Rattle.layout_theory.proofs.Theory.Settled.{PrintPasses, passes_unfit, short_fits}
use Rattle.layout_writer.specs.Tokens.{LaysOut}

module _ (s entry : List ℕ) (read : MacroRead) (R : Reads s read) where
  pub refusal_answered : (read.refusal ≡ 0 → ⊥) → WritesLayout s entry (refused read.refusal read.place) entry
  refusal_answered h = record {
    unread = λ n p r. let (e, f, g) = R.refuses n p r in (λ i. refused (e i) (f i), refl);
    answered = λ m A. absurd (h (R.accepts m A).0);
    bytes = λ m A. absurd (h (R.accepts m A).0);
  }

  module _ (h : read.refusal ≡ 0) where
    pub text_short : length s ≤ longest_text
    text_short = (R.accepted h).1.short

    -- the print was measured in a buffer that has no bytes
    module _ (none : List ℕ) (size : ℕ) (L : LaysOut s [] size none) where
      measured : (m : Macro) → Accepted s m → length (house_layout m) ≡ size
      measured m A = omega (arith, (L.print m A).place)

      answer : (r : LayoutAnswer) (exit : List ℕ)
          → ((m : Macro) → Accepted s m → r ≡ answer_for m entry) → ((m : Macro) → Accepted s m → exit ≡ buffer_for m entry)
          → WritesLayout s entry r exit
      answer r exit a b = record { unread = λ n p q. absurd (never_both s (R.accepted h).1 q); answered = a; bytes = b }

      passes : ((m : Macro) → Accepted s m → PrintPasses (house_layout m) entry) → WritesLayout s entry (refused print_too_long 0) entry
      passes f = answer (refused print_too_long 0) entry (λ m A. rw (passes_unfit (house_layout m) entry (f m A)))
          λ m A. rw (passes_unfit (house_layout m) entry (f m A))

      pub passes_limit : longest_print < size → WritesLayout s entry (refused print_too_long 0) entry
      passes_limit l = passes λ m A. inr (omega (arith, measured m A))

      pub passes_buffer : length entry < size → WritesLayout s entry (refused print_too_long 0) entry
      passes_buffer l = passes λ m A. inl (omega (arith, measured m A))

      pub print_answered : size ≤ longest_print → size ≤ length entry → (next : ℕ) (exit : List ℕ) → LaysOut s entry next exit
          → WritesLayout s entry (printed next) exit
      print_answered l k next exit P = answer (printed next) exit
          (λ m A. rw (fits m A) (ap printed (let e : next ≡ length (house_layout m) = omega (arith, (P.print m A).place) in e)))
          λ m A. rw (fits m A) (stands m A)
        where
          fits : (m : Macro) → Accepted s m → print_fits (house_layout m) entry ≡ true
          fits m A = short_fits (house_layout m) entry (omega (arith, measured m A)) (omega (arith, measured m A))

          stands : (m : Macro) → Accepted s m → exit ≡ house_layout m ++ drop (length (house_layout m)) entry
          stands m A =
              let print = house_layout m in
              (P.print m A).bytes ∙ stored_between entry 0 print (omega (arith, measured m A))
              ∙ ap (λ n. print ++ drop n entry) (let e : 0 + length print ≡ length print = omega arith in e)

-- ---- the same of the Result that reading gives

module _ (s entry : List ℕ) (r : Result CompiledMacro Refused) (e : r ≡ held_answer (read_macro s)) where
  real_reason : (d : Reason) → number_of d ≡ 0 → ⊥
  real_reason TraceTooShort z = omega arith
  real_reason TraceOddLength z = omega arith
  real_reason HeaderMalformed z = omega arith
  real_reason LetterMalformed z = omega arith
  real_reason TraceTooLong z = omega arith
  real_reason OutputTooSmall z = omega arith
  real_reason TextTooLong z = omega arith
  real_reason TokenMalformed z = omega arith
  real_reason GrammarViolated z = omega arith
  real_reason DeclarationWrong z = omega arith
  real_reason UseWrong z = omega arith
  real_reason NestingTooDeep z = omega arith
  real_reason PointsTooMany z = omega arith
  real_reason TableTooSmall z = omega arith
  real_reason PrintTooLong z = omega arith
  real_reason NoRoomForTests z = omega arith

  pub refusal_passed : {d : Refused} → r ≡ Err d → WritesLayout s entry (refused (number_of d.reason) d.place) entry
  refusal_passed {d} h =
      refusal_answered s entry _ (reads s _ (numbered_refusal s e h (number_of d.reason) refl no_macro refl)) (real_reason d.reason)

  abbrev read_as : CompiledMacro → MacroRead
  read_as p = record { refusal = 0; place = 0; program = p }

  pub macro_read : {p : CompiledMacro} → r ≡ Ok p → Reads s (read_as p)
  macro_read {p} h = reads s (read_as p) (numbered_macro s e h)
