-- What follows from the definitions of specs/Reads.antt.
use mathlib.Core.Path.{◌≡◌, refl, sym, ap, ◌∙◌, subst}
use mathlib.Core.Logic.{◌≢◌}
use Prim.Native.Nat.{ℕ}
use native.Mathlib.Omega.{arith}
use mathlib.Core.List.{List}
use lib.Dec.{eqb}
use borrow.Author.Tests.{eqb-true, eqb-false}
use Rattle.base.proofs.Theory.Choice.{by_test}
use Rattle.grammar.specs.Grammar.{Macro}
use Rattle.grammar.specs.Reading.{Got, got, exhausted}
use Rattle.grammar.proofs.Theory.Reading.{read_macro}
use Rattle.grammar.proofs.Theory.Enough.{read_answers}
use Rattle.refusals.specs.Order.{Refusal}
use Rattle.refusals.proofs.Theory.Order.{refused_refusal, refusal_refused, refusal_number, refusal_at_most}
use Rattle.refusals.specs.Accepted.{Accepted}
use Rattle.refusals.proofs.Theory.Accepted.{read_accepted, accepted_read}
use Rattle.syntax.specs.declared.MacroRead.{MacroRead}
use Rattle.std.proofs.Common.{Result, Ok, Err, ◌≤◌}
use Rattle.letters.specs.Reasons.{number_of}
use Rattle.letters.specs.declared.reasons.Refused.{Refused}
use Rattle.letters.proofs.Theory.ReasonLaws.{number_of-reason_of}
use Rattle.phrases.specs.Codes.{refused_as}
use Rattle.syntax.specs.declared.CompiledMacro.{CompiledMacro}
use Rattle.syntax.specs.Answer.{held_macro, no_macro, held_answer, held_reading, in_numbers, text_read}
use Rattle.syntax.proofs.Theory.Answer.{text_read_macro}
use Rattle.syntax.specs.Reads.{Reads}

module _ (text : List ℕ) (r : MacroRead) (e : r ≡ held_reading (read_macro text)) where
  as_got : (m : Macro) (f : ℕ) → read_macro text ≡ got m f → (r.refusal ≡ 0) × (r.place ≡ 0) × (r.program ≡ held_macro m)
  unfolding held_reading
  as_got m f h = let g = e ∙ ap held_reading h in (ap (λ r. r.refusal) g, ap (λ r. r.place) g, ap (λ r. r.program) g)

  as_refused : (n p : ℕ) → read_macro text ≡ Got.refused n p → (r.refusal ≡ n) × (r.place ≡ p) × (r.program ≡ no_macro)
  unfolding held_reading
  as_refused n p h = let g = e ∙ ap held_reading h in (ap (λ r. r.refusal) g, ap (λ r. r.place) g, ap (λ r. r.program) g)

  -- The definition gives what the contract says.
  pub reads : Reads text r
  reads = record {
    accepts = λ m a. let (f, h) = accepted_read text m a in as_got m f h;
    accepted = accepted_as (read_macro text) refl;
    refuses = λ n p q. as_refused n p (refusal_refused text n p q);
    refused = refused_as (read_macro text) refl;
  }
    where
      accepted_as : (g : Got Macro) → read_macro text ≡ g → r.refusal ≡ 0 → (m : Macro) × Accepted text m × (r.program ≡ held_macro m)
      accepted_as (got m f) h z = (m, read_accepted text m f h, (as_got m f h).2)
      accepted_as (Got.refused n p) h z = let (a, b) = refusal_number n p (refused_refusal text n p h) in absurd (let i = (as_refused n p h).0 in omega arith)
      accepted_as exhausted h z = absurd (read_answers text h)

      refused_as : (g : Got Macro) → read_macro text ≡ g → r.refusal ≢ 0 → Refusal text r.refusal r.place
      refused_as (got m f) h z = absurd (z (as_got m f h).0)
      refused_as (Got.refused n p) h z =
          let (a, b, c) = as_refused n p h in
          subst (λ k. Refusal text k r.place) (sym a) (subst (Refusal text n) (sym b) (refused_refusal text n p h))
      refused_as exhausted h z = absurd (read_answers text h)

-- the answer with a number for the reason of a refusal
module _ (text : List ℕ) {r : Result CompiledMacro Refused} (e : r ≡ held_answer (read_macro text)) where
  pub numbered_macro : {p : CompiledMacro} → r ≡ Ok p → record { refusal = 0; place = 0; program = p } ≡ held_reading (read_macro text)
  unfolding held_reading
  numbered_macro {p} h = go (read_macro text) e
    where
      go : (g : Got Macro) → r ≡ held_answer g → record { refusal = 0; place = 0; program = p } ≡ held_reading g
      go (got m f) e = let z : p ≡ held_macro m = cc in λ i. record { refusal = 0; place = 0; program = z i }
      go (Got.refused n q) e = absurd (cc)
      go exhausted e = absurd (cc)

  pub numbered_refusal : {d : Refused} → r ≡ Err d → (n : ℕ) → n ≡ number_of d.reason → (p : CompiledMacro) → p ≡ no_macro
      → record { refusal = n; place = d.place; program = p } ≡ held_reading (read_macro text)
  unfolding held_reading
  numbered_refusal {d} h n i p j = go (read_macro text) refl e
    where
      go : (g : Got Macro) → read_macro text ≡ g → r ≡ held_answer g → record { refusal = n; place = d.place; program = p } ≡ held_reading g
      go (got m f) w e = absurd (cc)
      go (Got.refused k q) w e =
          let z : d ≡ refused_as k q = cc in
          let (a, b) = refusal_number k q (refused_refusal text k q w) in
          let most : k ≤ 16 = refusal_at_most k q (refused_refusal text k q w) in
          let number : n ≡ k = i ∙ ap (λ d. number_of d.reason) z ∙ number_of-reason_of k (omega arith) most in
          λ t. record { refusal = number t; place = (ap (λ d. d.place) z) t; program = j t }
      go exhausted w e = absurd (read_answers text w)

  -- The Result that holds what the grammar reads has the contract of `compiled`.
  pub reads_in_numbers : (r ≡ held_answer (text_read text)) × Reads text (in_numbers r)
  reads_in_numbers = (e ∙ ap held_answer (sym (text_read_macro text)), go r refl)
    where
      go : (q : Result CompiledMacro Refused) → r ≡ q → Reads text (in_numbers q)
      go (Ok p) h = reads text _ (numbered_macro h)
      go (Err d) h = reads text _ (numbered_refusal h (number_of d.reason) refl no_macro refl)

-- what `compiled` answers is what the grammar reads
pub by_grammar : (text : List ℕ) {r : Result CompiledMacro Refused} → r ≡ held_answer (text_read text) → r ≡ held_answer (read_macro text)
by_grammar text e = e ∙ ap held_answer (text_read_macro text)

-- There is one answer at most.
pub reads_once : (text : List ℕ) (r q : MacroRead) → Reads text r → Reads text q → r ≡ q
reads_once text r q x y = by_test (eqb r.refusal 0)
    (λ t.
    let (m, a, k) = x.accepted (eqb-true r.refusal 0 t) in
    let (b, c, d) = x.accepts m a in
    let (b', c', d') = y.accepts m a in
    same (b ∙ sym b') (c ∙ sym c') (d ∙ sym d'))
    (λ t.
    let z = x.refused (eqb-false r.refusal 0 t) in
    let (b, c, d) = x.refuses r.refusal r.place z in
    let (b', c', d') = y.refuses r.refusal r.place z in
    same (sym b') (sym c') (d ∙ sym d'))
  where
    same : r.refusal ≡ q.refusal → r.place ≡ q.place → r.program ≡ q.program → r ≡ q
    same e f g = λ i. record { refusal = e i; place = f i; program = g i }
