-- The line that is written is that of the trace.
use mathlib.Core.Path.{◌≡◌, refl, sym, ap, ◌∙◌, subst}
use mathlib.Core.List.{List, [], ◌∷◌, ◌++◌, reverse}
use Prim.Native.Nat.{ℕ, ◌+◌, ◌*◌, ◌/◌, ◌%◌, ◌^◌, ◌≤◌, ◌<◌}
use native.Mathlib.Omega.{arith}
use native.Mathlib.Numerals.{add-one}
use lib.Dec.{eqb}
use lib.ListN.{length, get_or, take, drop, length-append, length-reverse, drop_of_length-le}
use lib.Seq.{drop-cons, take_at, length-take-le}
use borrow.Author.Tests.{le-leb}
use Rattle.io.specs.Digits.{hex_digit_ascii, last_digits, IsDigitCount}
use Rattle.files.proofs.Theory.Digits.{width_kept}
use Rattle.base.proofs.Theory.Choice.{by_test}
use Rattle.letters.specs.declared.Header.{Header}
use Rattle.letters.specs.declared.Letter.{Letter}
use Rattle.letters.specs.Editions.{first_edition, most_letters}
use Rattle.traces.specs.Reading.{TraceReading, trace}
use Rattle.traces.specs.ReadingParts.{reading_within}
use Rattle.semantics.specs.Terms.{State, begin, state, trace_of}
use Rattle.semantics.proofs.Theory.TraceLaws.{extend_size, extend_header, terms_length}
use Rattle.semantics.specs.ShownTables.{shown_value, tables_of}
use Rattle.semantics.specs.ShownTables.{shown_tables}
use Rattle.semantics.proofs.Theory.ShownPacked.{rows_length, starts_length}
use Rattle.semantics.proofs.Theory.PackedTablesLaws.{packed_length}
use Rattle.semantics.specs.FirstLetters.{first_infeasible}
use Rattle.text.proofs.Theory.Numerals.{long_number}
use Rattle.text.specs.Templates.{part, filled_in}
use Rattle.text.specs.Appending.{Appended, PlaceInRange}
use Rattle.report.specs.Lines.{line, refused_line}
use Rattle.report.proofs.Theory.Bound.{refused_few}
use Rattle.std.specs.Prelude.{Ok, Err}
use Rattle.letters.specs.declared.reasons.Refused.{Refused}
use Rattle.letters.specs.Reasons.{number_of}
use Rattle.model_writer.specs.declared.Shown.TheVariants.{Model, Infeasible}
use Rattle.model_writer.specs.Answer as answer
use Rattle.model_writer.specs.Answer.{ShowResult, shown_answer, model_bytes, answer_to, output_after, Showed}
use Rattle.model_writer.proofs.Theory.AnswerLaws.{model_within}
use Rattle.model_writer.proofs.Theory.Means.{is_trace}
use Rattle.model_lines.specs.Prints.{octet_text, hex_text, model_word, model_line, infeasible_line, read_line, line_for, line_of, most_model_line_bytes}
use Rattle.model_lines.specs.Prints.{PrintsModelLine}
use Rattle.model_lines.specs.Written.{most_model, ModelWithin, WroteLine}

-- ── lines as templates with their fields ──
-- the first two of some bytes
front_two : (digits : List ℕ) (a b : ℕ) → take 2 digits ≡ a ∷ b ∷ [] → a ∷ b ∷ [] ≡ get_or digits 0 0 ∷ get_or digits 1 0 ∷ []
front_two [] a b e = cc
front_two (x ∷ []) a b e = cc
front_two (x ∷ y ∷ rest) a b e = sym e

-- the digits of a byte as `io::hex` writes them
pub octet_digits : (byte count : ℕ) (digits : List ℕ) → byte < 256 → IsDigitCount 16 2 byte count → take count digits ≡ last_digits 16 count byte
    → octet_text byte ≡ get_or digits 0 0 ∷ get_or digits 1 0 ∷ []
unfolding octet_text
octet_digits byte count digits h l e =
    let two = width_kept 2 byte count h l.0 l.2 in
    let high : byte / 16 ≡ byte / 16 % 16 = omega arith in
    ap (λ (d : ℕ). hex_digit_ascii d ∷ hex_digit_ascii (byte % 16) ∷ []) high
    ∙ front_two digits _ _ (subst (λ (k : ℕ). take k digits ≡ last_digits 16 k byte) two e)

-- "infeasible 4"
pub infeasible_form : (n : ℕ) → infeasible_line n ≡ filled_in (105 ∷ 110 ∷ 102 ∷ 101 ∷ 97 ∷ 115 ∷ 105 ∷ 98 ∷ 108 ∷ 101 ∷ 32 ∷ 52 ∷ 10 ∷ []) (n ∷ 0 ∷ 0 ∷ 0 ∷ [])
unfolding infeasible_line line filled_in part
infeasible_form n = refl

-- "model "
pub model_form : model_word ≡ filled_in model_word (0 ∷ 0 ∷ 0 ∷ 0 ∷ [])
unfolding filled_in part
model_form = refl

-- a line feed
pub feed_form : 10 ∷ [] ≡ filled_in (10 ∷ []) (0 ∷ 0 ∷ 0 ∷ 0 ∷ [])
unfolding filled_in part
feed_form = refl

pub model_parts : (bytes : List ℕ) → model_line bytes ≡ model_word ++ (hex_text bytes ++ (10 ∷ []))
unfolding model_line line
model_parts bytes = refl

-- ── the digits, one byte after the other ──
pub hex_next : (bytes : List ℕ) (i : ℕ) → i < length bytes → hex_text (drop i bytes) ≡ octet_text (get_or bytes i 0) ++ hex_text (drop (i + 1) bytes)
unfolding hex_text
hex_next bytes i h = rw (add-one, drop-cons bytes i 0 h)

pub hex_none : (bytes : List ℕ) (i : ℕ) → length bytes ≤ i → hex_text (drop i bytes) ≡ []
unfolding hex_text
hex_none bytes i h = rw (drop_of_length-le bytes h)

hex_length : (bytes : List ℕ) → length (hex_text bytes) ≡ 2 * length bytes
unfolding hex_text octet_text
hex_length [] = refl
hex_length (b ∷ bytes) = let i = hex_length bytes in omega arith

-- ── lengths ──
pub model_few : (bytes : List ℕ) → length bytes ≤ most_model → length (model_line bytes) ≤ most_model_line_bytes
unfolding model_line line
model_few bytes h = simp length-append (omega (arith, hex_length bytes))

pub infeasible_few : (n : ℕ) → n < 2 ^ 64 → length (infeasible_line n) ≤ most_model_line_bytes
unfolding infeasible_line line
infeasible_few n h = simp length-append (omega (arith, long_number n h))

pub few_room : {text : List ℕ} → length text ≤ most_model_line_bytes → PlaceInRange 0 text
few_room h = record { fits = omega (arith, h) }

module _ (entry out exit : List ℕ) (r : ShowResult) (size : ℕ) where
  pub wrote_model : (n : ℕ) → r ≡ Ok (Model n) → ModelWithin r (length out)
      → Appended entry 0 (model_line (take n out)) exit size → WroteLine entry r out size exit
  unfolding line_of
  wrote_model n e h a = subst (λ (q : ShowResult). WroteLine entry q out size exit)
      (sym e) record { few = model_few (take n out) (omega (arith, held.0, held.1, length-take-le n out held.0)); appended = a }
    where
      held : (n ≤ length out) × (length out ≤ most_model)
      held = subst (λ (q : ShowResult). ModelWithin q (length out)) e h

  pub wrote_infeasible : (n : ℕ) → r ≡ Ok (Infeasible n) → n < 2 ^ 64 → Appended entry 0 (infeasible_line n) exit size → WroteLine entry r out size exit
  unfolding line_of
  wrote_infeasible n e h a = subst (λ (q : ShowResult). WroteLine entry q out size exit) (sym e) record { few = infeasible_few n h; appended = a }

  pub wrote_refused : (x : Refused) → r ≡ Err x → number_of x.reason < 2 ^ 64 → x.place < 2 ^ 64
      → Appended entry 0 (refused_line (number_of x.reason) x.place) exit size → WroteLine entry r out size exit
  unfolding line_of
  wrote_refused x e h l a = subst (λ (q : ShowResult). WroteLine entry q out size exit) (sym e)
      record { few = refused_few (omega arith) (number_of x.reason) x.place h l; appended = a }

pub model_held : (r : ShowResult) (n room : ℕ) → r ≡ Ok (Model n) → ModelWithin r room → (n ≤ room) × (room ≤ most_model)
model_held r n room e h = subst (λ (q : ShowResult). ModelWithin q room) e h

pub model_room : (n : ℕ) (out : List ℕ) → n ≤ length out → length out ≤ most_model → PlaceInRange 0 (model_line (take n out))
model_room n out h l = few_room (model_few (take n out) (omega (arith, length-take-le n out h)))

pub showed_held : (s entry exit : List ℕ) (r : ShowResult) → Showed s entry r exit → length exit ≡ length entry → length entry ≤ most_model
    → ModelWithin r (length exit)
showed_held s entry exit (Ok (Model n)) x e l = (omega (arith, model_within s entry exit (Ok (Model n)) n x refl, e), omega (arith, e, l))
showed_held s entry exit (Ok (Infeasible k)) x e l = tt
showed_held s entry exit (Err q) x e l = tt

-- ── every model fits ──
module _ (s : List ℕ) (h : Header) (ls : List Letter) (e : reading_within most_letters first_edition s ≡ trace h ls) where
  abbrev σ : State
  σ = state (trace_of h ls)

  terms_few : length σ.terms ≤ 1032
  terms_few = omega (
    arith,
    terms_length (trace_of h ls),
    ap (λ (g : Header). g.registers) (extend_header (begin h) ls),
    extend_size (begin h) ls,
    (is_trace s h ls e).header.registers,
    (is_trace s h ls e).few,
  )

  rows_few : length (tables_of (state (trace_of h ls))).rows ≤ 1032
  unfolding tables_of shown_tables
  rows_few = omega (arith, rows_length (reverse σ.terms) σ.equals, length-reverse σ.terms, terms_few)

  starts_few : length (tables_of (state (trace_of h ls))).starts ≤ 8
  unfolding tables_of shown_tables
  starts_few = omega (
    arith,
    starts_length (shown_value σ) 0 σ.header.registers,
    ap (λ (g : Header). g.registers) (extend_header (begin h) ls),
    (is_trace s h ls e).header.registers,
  )

  model_fits : length (model_bytes (state (trace_of h ls))) ≤ most_model
  unfolding model_bytes
  model_fits = omega (arith, packed_length first_edition σ.header (tables_of σ), rows_few, starts_few)

-- ── the line of the answer is that of the trace ──
refused-line : (r : ShowResult) (a b : ℕ) (out : List ℕ) → shown_answer r ≡ answer.refusal a b → line_of r out ≡ refused_line a b
unfolding line_of
refused-line (Ok (Model n)) a b out e = absurd (let z : ◌≡◌ {A = ℕ} 0 1 = cc in omega arith)
refused-line (Ok (Infeasible k)) a b out e = absurd (let z : ◌≡◌ {A = ℕ} 0 1 = cc in omega arith)
refused-line (Err q) a b out e = cc

infeasible-line : (r : ShowResult) (k : ℕ) (out : List ℕ) → shown_answer r ≡ answer.infeasible k → line_of r out ≡ infeasible_line k
unfolding line_of
infeasible-line (Ok (Model n)) k out e = absurd (let z : ◌≡◌ {A = ℕ} 0 1 = cc in omega arith)
infeasible-line (Ok (Infeasible j)) k out e = cc
infeasible-line (Err q) k out e = absurd (let z : ◌≡◌ {A = ℕ} 0 1 = cc in omega arith)

model-line : (r : ShowResult) (bytes rest out : List ℕ) → shown_answer r ≡ answer.model (length bytes) → out ≡ bytes ++ rest → line_of r out ≡ model_line bytes
unfolding line_of
model-line (Ok (Model n)) bytes rest out e f = let l : n ≡ length bytes = cc in ap model_line (ap (take n) f ∙ take_at bytes rest n (sym l))
model-line (Ok (Infeasible j)) bytes rest out e f = absurd (let z : ◌≡◌ {A = ℕ} 0 1 = cc in omega arith)
model-line (Err q) bytes rest out e f = absurd (let z : ◌≡◌ {A = ℕ} 0 1 = cc in omega arith)

module _ (s entry exit : List ℕ) (r : ShowResult) (x : Showed s entry r exit) (room : most_model ≡ length entry) where
  pub answer_line : line_of r exit ≡ line_for s
  unfolding answer_to output_after read_line
  answer_line = go (reading_within most_letters first_edition s) refl x.answer x.output
    where
      go : (y : TraceReading) → reading_within most_letters first_edition s ≡ y → shown_answer r ≡ answer_to y (length entry) → exit ≡ output_after y entry
          → line_of r exit ≡ read_line y
      go (TraceReading.refused a b) q e f = refused-line r a b exit e
      go (trace h ls) q e f =
          let bytes = model_bytes (state (trace_of h ls)) in
          let u = le-leb (length bytes) (length entry) (omega (arith, model_fits s h ls q, room)) in
          by_test (eqb (first_infeasible (trace_of h ls)) 0)
          (λ t. rw t (model-line r bytes (drop (length bytes) entry) exit (rw (t, u) at e) (rw (t, u) at f)))
          λ t. rw t (infeasible-line r (first_infeasible (trace_of h ls)) exit (rw t at e))

  pub prints : (before : List ℕ) (size : ℕ) (after : List ℕ) → WroteLine before r exit size after → PrintsModelLine s before size after
  prints before size after w = record {
    few = subst (λ (l : List ℕ). length l ≤ most_model_line_bytes) answer_line w.few;
    appended = subst (λ (l : List ℕ). Appended before 0 l after size) answer_line w.appended;
  }
