-- From demand 3 to the lines: the report of what the search answers is what the program has to print.
use mathlib.Core.Path.{◌≡◌, refl, sym, ap, ◌∙◌, subst}
use mathlib.Core.Logic.{◌⊎◌, ◌≢◌, inl, inr}
use mathlib.Core.List.{List, [], ◌∷◌, ◌++◌, append_assoc}
use Prim.Native.Nat.{ℕ, zero, suc, ◌-◌, ◌%◌, ◌≤◌}
use native.Mathlib.Omega.{arith}
use lib.ListN.{length, get_or, drop, replicate}
use Rattle.letters.specs.declared.Letter.{Letter}
use Rattle.letters.specs.Editions.{first_edition, most_functions, most_registers}
use Rattle.letters.specs.Capacity.{capacity_of}
use Rattle.letters.specs.MacroRefusalNumbers.{table_too_small}
use Rattle.traces.specs.Traces.{packing}
use Rattle.semantics.specs.Terms.{begin, extend, state}
use Rattle.semantics.specs.Models.{Feasible}
use Rattle.semantics.specs.Tables.{Tables}
use Rattle.semantics.specs.PackedTables.{pack_tables}
use Rattle.semantics.specs.TablesRead.{Packable}
use Rattle.semantics.specs.ShownTables.{tables_of}
use Rattle.macros.proofs.Theory.Numbers.{three}
use Rattle.macros.specs.Points.{size_block}
use Rattle.grammar.specs.Limits.{most_points}
use Rattle.grammar.specs.Grammar.{Macro, header_of, expanded, shown_registers}
use Rattle.grammar.proofs.Theory.Hidden.{registers_within}
use Rattle.grammar.specs.Spelled.{InOrder}
use Rattle.refusals.specs.Order.{Refusal}
use Rattle.refusals.specs.Accepted.{Accepted}
use Rattle.refusals.proofs.Theory.Accepted.{Acceptance, Becomes, an_acceptance}
use Rattle.refusals.proofs.Theory.Accepted as acceptance
use Rattle.syntax.specs.Answer.{held_macro, padded}
use Rattle.syntax.specs.declared.MacroRead as syntax
use Rattle.syntax.specs.Reads.{Reads}
use Rattle.syntax.specs.declared.CompiledMacro as held
use Rattle.verdict_theory.specs.Verdict.{full, IsPass, Kind, breaking, failing, showing, Shows, IsVerdict}
use Rattle.verdict_theory.specs.AnswerPacking.{packed}
use Rattle.verdict_theory.specs.Verdict as verdict
use Rattle.verdict_theory.specs.Demand3.{pairs_in, Demand3}
use Rattle.std.specs.Prelude.{Ok, Err}
use Rattle.letters.specs.Reasons.{number_of}
use Rattle.search.specs.declared.Verdict.TheVariants.{Pass, Fail, Incoherent}
use Rattle.search.specs.Answering.{answer_of}
use Rattle.text.specs.Names.{name_text}
use Rattle.text.specs.Numerals.{numeral}
use Rattle.report.specs.Lines.{Names, Printed, line, refused_word, at_word, report}
use Rattle.report.specs.Lines as printed
use Rattle.report.specs.declared.ReportedVerdict.TheVariants as report
use Rattle.report.specs.Shown.{names_of, printed_of, report_of}
use Rattle.report.specs.Bound.{letter_number, row_number}
use Rattle.report.specs.Shown.{word_values}
use Rattle.report.proofs.Theory.Packed.{incoherent_report, packed_rows, fail_report}
use Rattle.verdict_lines.specs.Prints.{table_bytes, table_pairs, answer_bytes, Told, Says, PrintsVerdictLines}
use Rattle.search.proofs.Theory.MacroSearch.{header_fits}
use Rattle.verdict_lines.proofs.Theory.Answers.{event_model, showing_refused, letters_fit, rows_few, packable, count_few, event_shown}
use Rattle.verdict_lines.proofs.Theory.Declared.{names_declared}
use Rattle.verdict_lines.specs.Reported.{Searched, reported, report_for, Reports, most_rows}

-- ── names with 0 behind them ──
none_at : (n r : ℕ) → ◌≡◌ {A = ℕ} (get_or (replicate n 0) r 0) 0
none_at zero r = refl
none_at (suc n) zero = refl
none_at (suc n) (suc r) = none_at n r

name_at : (l : List ℕ) (n r : ℕ) → get_or (l ++ replicate n 0) r 0 ≡ get_or l r 0
name_at [] n r = none_at n r
name_at (x ∷ l) n zero = refl
name_at (x ∷ l) n (suc r) = name_at l n r

-- The names as the reader's struct holds them.
abbrev held_names : Macro → Names
held_names m = names_of (shown_registers m) m.function_spellings

names_held : (m : Macro) → names_of (padded most_registers (shown_registers m)) (padded most_functions m.function_spellings) ≡ held_names m
names_held m = λ i. record {
  register = λ r. name_text (name_at (shown_registers m) (most_registers - length (shown_registers m)) r i);
  function = λ f. name_text (name_at m.function_spellings (most_functions - length m.function_spellings) f i);
}

-- ── what is told, and that it is short ──
record Right (m : Macro) (v : Searched) (s : List ℕ) : Type 0 where
  told : Printed
  is_told : Told m told
  lines : report_of (shown_registers m) m.function_spellings (header_of m) (reported v) s ≡ report (held_names m) (header_of m) told
  letters : letter_number (reported v) ≤ table_pairs
  rows : row_number (reported v) s ≤ most_rows

full_or : (n p : ℕ) → ((n ≡ table_too_small) × (p ≡ 0)) ⊎ (verdict.refused n p ≢ full)
full_or n p = go (same_or n table_too_small) (same_or p 0)
  where
    same_or : (i j : ℕ) → (i ≡ j) ⊎ (i ≢ j)
    same_or i j = elim (three i j) [ inl u ↦ inr (λ e. omega arith) | inr v ↦ elim v [ inl e ↦ inl e | inr u ↦ inr (λ e. omega arith) ] ]

    go : (n ≡ table_too_small) ⊎ (n ≢ table_too_small) → (p ≡ 0) ⊎ (p ≢ 0) → ((n ≡ table_too_small) × (p ≡ 0)) ⊎ (verdict.refused n p ≢ full)
    go (inl e) (inl f) = inl (e, f)
    go (inl e) (inr f) = inr (λ g. f (cc))
    go (inr e) f = inr (λ g. e (cc))

module _ (m : Macro) (o : InOrder m) (points : size_block (expanded m) ≤ most_points) (output : List ℕ)
    (room : length output ≡ answer_bytes) (output' : List ℕ) where
  abbrev Judged : Searched → Type 0
  Judged v = IsVerdict Feasible (begin (header_of m)) (expanded m) first_edition table_pairs output (answer_of v) output'

  -- the event is packed in front of the output
  abbrev Front : Kind → List Letter → Type 0
  Front kind ls = output' ≡ packed first_edition (begin (header_of m)) kind ls ++ drop (length (packed first_edition (begin (header_of m)) kind ls)) output

  module _ (k l pairs : ℕ) (ls : List Letter) (few : length ls ≤ table_pairs) (e : k ≡ pairs) (f : l ≡ length ls) where
    same : l % word_values ≡ length ls
    same = omega arith

    -- what is told of an event that is shown
    incoherent_right : Shows Feasible (begin (header_of m)) (expanded m) breaking pairs ls → pairs ≤ table_pairs
        → Front breaking ls → Right m (Ok (Incoherent k l)) output'
    unfolding Told reported packed
    incoherent_right s c b = record {
      told = printed.incoherent pairs ls;
      is_told = (s, c);
      lines = (λ i. report_of (shown_registers m) m.function_spellings (header_of m) (Ok (report.Incoherent (e i) (same i))) (b i))
          ∙ incoherent_report (header_of m) ls (header_fits m o) (letters_fit m o breaking ls s.of_kind) rest
          (shown_registers m) m.function_spellings pairs;
      letters = omega arith;
      rows = omega arith;
    }
      where
        rest : List ℕ
        rest = drop (length (packing first_edition (header_of m) ls)) output

    fail_right : Shows Feasible (begin (header_of m)) (expanded m) failing pairs ls → pairs ≤ table_pairs
        → Front failing ls → Right m (Ok (Fail k l)) output'
    unfolding Told reported packed
    fail_right s c b = record {
      told = printed.fail pairs ls tables;
      is_told = (s, c, event_model m o pairs ls s);
      lines = (λ i. report_of (shown_registers m) m.function_spellings (header_of m) (Ok (report.Fail (e i) (same i))) (stands i))
          ∙ fail_report (header_of m) ls tables rest (header_fits m o) (letters_fit m o failing ls s.of_kind) fits
          (shown_registers m) m.function_spellings pairs;
      letters = omega arith;
      rows = let z = counted in let y = rows_few m o failing ls s.of_kind in omega arith;
    }
      where
        tables : Tables
        tables = tables_of (state (extend (begin (header_of m)) ls))

        fits : Packable first_edition (header_of m) tables
        fits = packable m o failing ls s.of_kind (omega arith)

        trace : List ℕ
        trace = packing first_edition (header_of m) ls

        rest : List ℕ
        rest = drop (length (trace ++ pack_tables first_edition (header_of m) tables)) output

        stands : output' ≡ trace ++ (pack_tables first_edition (header_of m) tables ++ rest)
        stands = b ∙ append_assoc trace (pack_tables first_edition (header_of m) tables) rest

        counted : row_number (Ok (report.Fail k (l % word_values))) output' ≡ length tables.rows
        counted = (λ i. row_number (Ok (report.Fail (e i) (same i))) (stands i))
            ∙ packed_rows (header_of m) ls tables rest (header_fits m o) (letters_fit m o failing ls s.of_kind) fits

  shown_right : (v : Searched) (kind : Kind) (pairs : ℕ) (ls : List Letter) → Shows Feasible (begin (header_of m)) (expanded m) kind pairs ls
      → pairs ≤ table_pairs → length ls ≤ table_pairs
      → answer_of v ≡ showing kind pairs (length ls) → Front kind ls → Right m v output'
  shown_right (Ok (Incoherent k l)) breaking pairs ls s c few e b = incoherent_right k l pairs ls few (cc) (cc) s c b
  shown_right (Ok (Fail k l)) failing pairs ls s c few e b = fail_right k l pairs ls few (cc) (cc) s c b
  shown_right (Ok (Incoherent k l)) failing pairs ls s c few e b = absurd (let z : ◌≡◌ {A = ℕ} 0 1 = cc in omega arith)
  shown_right (Ok (Fail k l)) breaking pairs ls s c few e b = absurd (let z : ◌≡◌ {A = ℕ} 0 1 = cc in omega arith)
  shown_right (Ok (Pass k)) breaking pairs ls s c few e b = absurd (let z : ◌≡◌ {A = ℕ} 0 1 = cc in omega arith)
  shown_right (Ok (Pass k)) failing pairs ls s c few e b = absurd (let z : ◌≡◌ {A = ℕ} 0 1 = cc in omega arith)
  shown_right (Err r) kind pairs ls s c few e b = absurd (showing_refused kind pairs (length ls) (number_of r.reason) r.place (sym e))

  event_right : (v : Searched) → Judged v → answer_of v ≢ full → ¬ IsPass (answer_of v) → Right m v output'
  event_right v j u w =
      let x = event_shown m o points output room (answer_of v) output' j u w in
      shown_right v x.kind x.pairs x.letters x.shows x.pairs_few x.letters_few x.told x.bytes

  right : (v : Searched) → Judged v → Right m v output'
  unfolding Told reported report_of printed_of report
  right (Ok (Fail k l)) j = event_right (Ok (Fail k l)) j (λ e. let z : ◌≡◌ {A = ℕ} 0 1 = cc in omega arith) (λ p. p)
  right (Ok (Incoherent k l)) j = event_right (Ok (Incoherent k l)) j (λ e. let z : ◌≡◌ {A = ℕ} 0 1 = cc in omega arith) (λ p. p)
  right (Ok (Pass k)) j = record {
    told = printed.pass k;
    is_told = (
      (j.pass_count k refl).0,
      count_few m o table_pairs k (j.pass_count k refl).0
          (λ p. other (j.full_exactly.1 p)),
      ((j.pass_exactly other).0 tt).0,
      ((j.pass_exactly other).0 tt).1,
    );
    lines = refl;
    letters = omega arith;
    rows = omega arith;
  }
    where
      other : verdict.pass k ≢ full
      other e = let z : ◌≡◌ {A = ℕ} 0 1 = cc in omega arith
  right (Err r) j = go (full_or (number_of r.reason) r.place)
    where
      go : ((number_of r.reason ≡ table_too_small) × (r.place ≡ 0)) ⊎ (verdict.refused (number_of r.reason) r.place ≢ full) → Right m (Err r) output'
      go (inl (e, f)) = record {
        told = printed.refused (number_of r.reason) r.place;
        is_told = (e, f, j.full_exactly.0 (λ i. verdict.refused (e i) (f i)));
        lines = refl;
        letters = omega arith;
        rows = omega arith;
      }
      go (inr u) = event_right (Err r) j u (λ w. w)

-- ── a text, and what the reader answers ──
module _ (text : List ℕ) (read : syntax.MacroRead) (reads : Reads text read) where
  report_is : (m : Macro) (v : Searched) (s : List ℕ) → Accepted text m
      → report_for read.program v s ≡ report_of (shown_registers m) m.function_spellings (header_of m) (reported v) s
  unfolding report_for report_of held_macro
  report_is m v s a =
      ap (λ (p : held.CompiledMacro). report_of p.registers p.functions p.header (reported v) s) (reads.accepts m a).2
      ∙ ap (λ (n : Names). report n (header_of m) (printed_of (header_of m) (reported v) s)) (names_held m)

  held_registers : (m : Macro) → Accepted text m → read.program.header.registers ≤ most_registers
  unfolding held_macro
  held_registers m a =
      let z = ap (λ (p : held.CompiledMacro). p.header.registers) (reads.accepts m a).2 in
      let l = registers_within m a.in_order in
      omega arith

  -- What a report needs to be short.
  abbrev Brief : Searched → List ℕ → Type 0
  Brief v s = (letter_number (reported v) ≤ table_pairs) × (row_number (reported v) s ≤ most_rows) × (read.program.header.registers ≤ most_registers)

  -- a refusal of the text
  module _ (number place : ℕ) (s : List ℕ) (r : Refusal text number place) where
    refused_report : (v : Searched) → answer_of v ≡ verdict.refused number place
        → report_for read.program v s ≡ line (refused_word ∷ numeral number ∷ at_word ∷ numeral place ∷ [])
    unfolding report_for reported report_of printed_of report
    refused_report (Err d) f =
        let i : number_of d.reason ≡ number = cc in
        let j : d.place ≡ place = cc in
        λ k. line (refused_word ∷ numeral (i k) ∷ at_word ∷ numeral (j k) ∷ [])
    refused_report (Ok (Pass k)) f = absurd (let z : ◌≡◌ {A = ℕ} 0 1 = cc in omega arith)
    refused_report (Ok (Fail k l)) f = absurd (let z : ◌≡◌ {A = ℕ} 0 1 = cc in omega arith)
    refused_report (Ok (Incoherent k l)) f = absurd (let z : ◌≡◌ {A = ℕ} 0 1 = cc in omega arith)

    refused_brief : (v : Searched) → answer_of v ≡ verdict.refused number place → Brief v s
    unfolding reported
    refused_brief (Err d) f =
        let z = ap (λ (p : held.CompiledMacro). p.header.registers) (reads.refuses number place r).2 in
        (omega arith, omega arith, omega arith)
    refused_brief (Ok (Pass k)) f = absurd (let z : ◌≡◌ {A = ℕ} 0 1 = cc in omega arith)
    refused_brief (Ok (Fail k l)) f = absurd (let z : ◌≡◌ {A = ℕ} 0 1 = cc in omega arith)
    refused_brief (Ok (Incoherent k l)) f = absurd (let z : ◌≡◌ {A = ℕ} 0 1 = cc in omega arith)

module _ (text table output : List ℕ) (size : length table ≡ table_bytes) (room : length output ≡ answer_bytes) (v : Searched) (table' output' : List ℕ)
    (demand : Demand3 Feasible text table output (answer_of v) table' output') where
  pairs : pairs_in first_edition table ≡ table_pairs
  unfolding capacity_of
  pairs = ap (capacity_of first_edition) size

  judged : (m : Macro) → Accepted text m → Right m v output'
  judged m a =
      right m a.in_order a.few output room output' v
      (subst (λ n. IsVerdict Feasible (begin (header_of m)) (expanded m) first_edition n output (answer_of v) output') pairs (demand.verdict m a))

  module _ (read : syntax.MacroRead) (reads : Reads text read) where
    says : Says text (report_for read.program v output')
    says = record {
      unread = λ number place r. refused_report text read reads number place output' r v (demand.unread number place r).0;
      verdict = λ m a.
          let r = judged m a in
          let named = ap (λ (n : Names). report n (header_of m) r.told) (names_declared text m a) in
          (r.told, r.is_told, report_is text read reads m v output' a ∙ r.lines ∙ named);
    }

    brief : Brief text read reads v output'
    brief = let (o, k) = an_acceptance text in go o k
      where
        go : (o : Acceptance) → Becomes text o → Brief text read reads v output'
        go (acceptance.refused number place) r = refused_brief text read reads number place output' r v (demand.unread number place r).0
        go (Acceptance.accepted m) a = let r = judged m a in (r.letters, r.rows, held_registers text read reads m a)

  -- The lines are those of the program, and few.
  pub prints : (entry : List ℕ) (n : ℕ) (exit : List ℕ) → Reports text v output' entry n exit → PrintsVerdictLines text entry n exit
  prints entry n exit x =
      let b = brief x.read x.reads in
      record {
        lines = report_for x.read.program v output';
        says = says x.read x.reads;
        few = x.few b.0 b.1 b.2;
        given = x.given;
        bytes = x.bytes;
      }
