-- The answer that is given means what it should: from the bytes of a trace to a model in which all its tests hold.
use mathlib.Core.Path.{◌≡◌, refl, sym, ◌∙◌, ap, subst}
use mathlib.Core.List.{List, reverse}
use Prim.Native.Nat.{ℕ, zero, suc, ◌≤◌}
use native.Mathlib.Omega.{arith}
use lib.Dec.{eqb, leb, ltb}
use lib.ListN.{length, drop}
use lib.Seq.{take_at, drop_at}
use borrow.Author.Tests.{ne_eqb, leb-true, leb-false, ltb-false}
use Rattle.base.specs.Choice.{pick}
use Rattle.base.proofs.Theory.Choice.{by_test}
use Rattle.letters.specs.declared.Header.{Header}
use Rattle.letters.specs.declared.Letter.{Letter}
use Rattle.letters.specs.Editions.{Edition, first_edition, most_letters, most_functions, most_registers}
use Rattle.letters.specs.Answers as letters
use Rattle.letters.proofs.Theory.WordLaws.{first_roomy}
use Rattle.traces.specs.Reading.{TraceReading, trace, reading, reading_where, beginning, letters_of, letter_in, letter_count, chunks}
use Rattle.traces.specs.ReadingParts.{reading_within}
use Rattle.closure.specs.Limits.{most_terms}
use Rattle.letters.specs.RefusalNumbers.{trace_too_long}
use Rattle.traces.proofs.Theory.TraceLaws.{not_trace, reading_fits, letters_decoded, decoded_length, parts_length}
use Rattle.semantics.specs.Terms.{Trace, State, begin, state, trace_of}
use Rattle.semantics.proofs.Theory.TraceLaws.{extend_header, extend_size, terms_length, all_formed}
use Rattle.semantics.proofs.Theory.Facts.{state_valid}
use Rattle.semantics.specs.Judgement.{FailsAt}
use Rattle.semantics.specs.Models.{Satisfies, Feasible}
use Rattle.semantics.proofs.Theory.Tables.{InRange, model_of}
use Rattle.semantics.specs.Numbering.{IsShown}
use Rattle.semantics.specs.ShownTables.{tables_of}
use Rattle.semantics.proofs.Theory.Shown.{in_range}
use Rattle.semantics.proofs.Theory.Shown.{shown-model}
use Rattle.semantics.proofs.Theory.ShownPacked.{shown_packable, applications_fit}
use Rattle.semantics.proofs.Theory.ShownUnique.{tables_are}
use Rattle.semantics.specs.TablesRead.{read_tables}
use Rattle.semantics.specs.PackedTables.{pack_tables}
use Rattle.semantics.proofs.Theory.PackedTablesLaws.{read_packed}
use Rattle.semantics.specs.FirstLetters.{first_infeasible}
use Rattle.semantics.proofs.Theory.JudgementLaws.{first_infeasible_is, failed, feasible_closed}
use Rattle.model_writer.specs.Answer.{ShowResult, ModelAnswer, shown_answer, model_bytes, fitted, laid_in, answer_to, output_after}
use Rattle.model_writer.specs.Answer.{IsTrace, ShownFor, ModelIn, LetterNamed, RefusedFor, Means, Showed}
use Rattle.semantics.proofs.Theory.Tables.{described_by}

abbrev FeasibleTrace : Trace → Type 0
FeasibleTrace π = Feasible (state π)

-- ── a trace that was read within a limit ──
module _ (limit : ℕ) (e : Edition) (s : List ℕ) (h : Header) (ls : List Letter) where
  within : reading_within limit e s ≡ trace h ls → (reading e s ≡ trace h ls) × (length ls ≤ limit)
  unfolding reading_where letters_of
  within q = go (beginning e s) q
    where
      go : (a : letters.Answer Header)
          → letters.on_answer a (λ g. pick (ltb limit (letter_count e s)) (λ _. TraceReading.refused trace_too_long 0)
          λ _. letters_of e g s) TraceReading.refused
          ≡ trace h ls
          → (letters.on_answer a (λ g. letters_of e g s) TraceReading.refused ≡ trace h ls) × (length ls ≤ limit)
      go (letters.refusal a b) q = absurd (not_trace q)
      go (letters.value g) q = by_test (ltb limit (letter_count e s))
          (λ t. absurd (not_trace (rw t at q)))
          (λ t. let r : letters_of e g s ≡ trace h ls = rw t at q in
          let d = letters_decoded (letter_in e g) g 1 (chunks e.bytes (letter_count e s) (drop e.bytes s)) h ls r in
          let l = decoded_length (letter_in e g) g (chunks e.bytes (letter_count e s) (drop e.bytes s)) ls d.1 in
          let p = parts_length e.bytes (letter_count e s) (drop e.bytes s) in
          let b = ltb-false limit (letter_count e s) t in
          (r, omega arith))

-- ── of the bytes of a trace ──
module _ (s : List ℕ) (h : Header) (ls : List Letter) (q : reading_within most_letters first_edition s ≡ trace h ls) where
  abbrev σ : State
  σ = state (trace_of h ls)

  pub is_trace : IsTrace s h ls
  is_trace =
      let (r, few) = within most_letters first_edition s h ls q in
      let (v, f) = reading_fits first_edition first_roomy s h ls r in
      record { read = r; few = few; header = v; formed = all_formed (begin h) ls tt f }

  same_header : σ.header ≡ h
  same_header = extend_header (begin h) ls

  is_shown : ShownFor h ls (tables_of σ)
  is_shown =
      subst (λ (g : Header). IsShown g.registers (reverse σ.terms) σ.equals (tables_of σ)) same_header
      (tables_are (trace_of h ls) is_trace.formed)

  -- the bytes are those of the shown tables under the trace's header
  bytes_are : model_bytes σ ≡ pack_tables first_edition h (tables_of σ)
  unfolding model_bytes
  bytes_are = ap (λ (g : Header). pack_tables first_edition g (tables_of σ)) same_header

  -- they read back to these
  read_back : read_tables first_edition h (model_bytes σ) ≡ tables_of σ
  unfolding model_bytes
  read_back =
      let t = is_trace in
      let functions : σ.header.functions ≤ most_functions = rw same_header t.header.functions in
      let registers : σ.header.registers ≤ most_registers = rw same_header t.header.registers in
      let few : length σ.terms ≤ most_terms = omega (arith, t.few, terms_length (trace_of h ls), extend_size (begin h) ls) in
      let valid = state_valid (trace_of h ls) t.formed in
      let packable = shown_packable first_edition σ valid (applications_fit (trace_of h ls) t.formed) refl functions (omega arith) (omega arith) in
      ap (λ (g : Header). read_tables first_edition g (model_bytes σ)) (sym same_header) ∙ read_packed first_edition σ.header (tables_of σ) packable

  described : Feasible σ → (i : InRange (tables_of σ)) × Satisfies (model_of (tables_of σ) i) σ.equals σ.unequals
  unfolding tables_of
  described f = (in_range σ.header.registers (reverse σ.terms) σ.equals, shown-model σ (state_valid (trace_of h ls) is_trace.formed) f)

  model_in : Feasible σ → ModelIn (model_bytes σ) h ls
  model_in f =
      let (i, y) = subst (λ t. (i : InRange t) × Satisfies (model_of t i) σ.equals σ.unequals) (sym read_back) (described f) in
      record {
        is_shown = subst (ShownFor h ls) (sym read_back) is_shown;
        model = model_of (read_tables first_edition h (model_bytes σ)) i;
        described = described_by (read_tables first_edition h (model_bytes σ)) i;
        satisfies = y;
      }

  -- ── and the output ──
  module _ (out : List ℕ) where
    feasible_means : Feasible σ → Means s out (fitted (model_bytes σ) (length out)) (laid_in (model_bytes σ) out)
    feasible_means f = by_test (leb (length (model_bytes σ)) (length out))
        (λ t. rw t (record {
          header = h;
          letters = ls;
          is_trace = is_trace;
          fits = leb-true (length (model_bytes σ)) (length out) t;
          holds = rw (take_at (model_bytes σ) (drop (length (model_bytes σ)) out) (length (model_bytes σ)) refl) (model_in f);
          behind = drop_at (model_bytes σ) (drop (length (model_bytes σ)) out) (length (model_bytes σ)) refl;
        }))
        (λ t. rw t (RefusedFor.unfit is_trace f is_shown (rw bytes_are at (leb-false (length (model_bytes σ)) (length out) t)), refl))

    infeasible_means : (k : ℕ) → first_infeasible (trace_of h ls) ≡ suc k → LetterNamed s out (suc k) out
    infeasible_means k e =
        let first : FailsAt FeasibleTrace (trace_of h ls) (suc k) = rw e at (first_infeasible_is (trace_of h ls) is_trace.formed) in
        let none : ¬ Feasible σ = failed FeasibleTrace feasible_closed (trace_of h ls) (suc k) first in
        record { header = h; letters = ls; is_trace = is_trace; first = first; none = none; kept = refl }

    trace_means : (k : ℕ) → first_infeasible (trace_of h ls) ≡ k
        → Means s out (pick (eqb k 0) (λ _. fitted (model_bytes σ) (length out)) λ _. ModelAnswer.infeasible k)
        (pick (eqb k 0) (λ _. laid_in (model_bytes σ) out) λ _. out)
    trace_means zero e = feasible_means (rw e at (first_infeasible_is (trace_of h ls) is_trace.formed))
    trace_means (suc k) e = rw (ne_eqb (suc k) 0 λ z. omega arith) (infeasible_means k e)

-- ── of any bytes ──
module _ (s out : List ℕ) where
  reading_means : (x : TraceReading) → reading_within most_letters first_edition s ≡ x → Means s out (answer_to x (length out)) (output_after x out)
  unfolding answer_to output_after
  reading_means (TraceReading.refused number place) q = (RefusedFor.unread q, refl)
  reading_means (trace h ls) q = trace_means s h ls q out (first_infeasible (trace_of h ls)) refl

  -- What the definitions answer means what it should.
  pub answer_means : Means s out (answer_to (reading_within most_letters first_edition s) (length out))
      (output_after (reading_within most_letters first_edition s) out)
  answer_means = reading_means (reading_within most_letters first_edition s) refl

  pub showed : (r : ShowResult) (out' : List ℕ) → shown_answer r ≡ answer_to (reading_within most_letters first_edition s) (length out)
      → out' ≡ output_after (reading_within most_letters first_edition s) out → Showed s out r out'
  showed r out' e f = record { answer = e; output = f; means = rw (e, f) answer_means }
