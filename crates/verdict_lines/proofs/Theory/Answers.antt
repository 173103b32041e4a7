-- The answer of the search at `table_pairs`: it fits `answer_bytes`, and so it is never refused by `output_too_small`.
use mathlib.Core.Path.{◌≡◌, refl, sym, ap, ◌∙◌, subst}
use mathlib.Core.Logic.{◌≢◌, inl, inr}
use mathlib.Core.List.{List, ◌∷◌, ◌++◌, map, reverse}
use Prim.Native.Nat.{ℕ, ◌+◌, ◌≤◌}
use native.Mathlib.Omega.{arith}
use lib.ListN.{length, drop, length-append, length-map, length-reverse}
use Rattle.letters.specs.declared.Letter.{Letter}
use Rattle.letters.specs.Editions.{first_edition, most_registers}
use Rattle.letters.specs.Capacity.{most_pairs}
use Rattle.letters.specs.RefusalNumbers.{output_too_small}
use Rattle.letters.specs.MacroRefusalNumbers.{table_too_small}
use Rattle.letters.specs.Words.{header_word, letter_word}
use Rattle.letters.proofs.Theory.WordLaws.{first_roomy}
use Rattle.traces.specs.Traces.{AllFit, packing}
use Rattle.traces.proofs.Theory.TraceLaws.{bytes_length}
use Rattle.semantics.specs.Terms.{Trace, begin, extend, State, state, ◌▸◌}
use Rattle.semantics.specs.Facts.{WellFormed}
use Rattle.semantics.proofs.Theory.Facts.{state_valid}
use Rattle.semantics.specs.Models.{Feasible}
use Rattle.semantics.proofs.Theory.TraceLaws.{extend_size, extend_header, terms_length}
use Rattle.semantics.specs.Coherence.{Coherent}
use Rattle.semantics.specs.Numbering.{ShownModel}
use Rattle.semantics.specs.ShownTables.{shown_tables}
use Rattle.semantics.specs.ShownTables.{tables_of, shown_value}
use Rattle.semantics.proofs.Theory.ShownPacked.{rows_length, starts_length, applications_fit, shown_packable}
use Rattle.semantics.specs.TablesRead.{Packable}
use Rattle.semantics.specs.PackedTables.{pack_tables}
use Rattle.semantics.proofs.Theory.PackedTablesLaws.{packed_length}
use Rattle.macros.proofs.Theory.Numbers.{less_or}
use Rattle.macros.proofs.Theory.Fitting.{FormedUnder, partial_formed, run_formed}
use Rattle.macros.specs.Walk.{failure}
use Rattle.macros.proofs.Theory.Runs.{failing_is}
use Rattle.macros.specs.Order.{Before}
use Rattle.macros.proofs.Theory.Order.{before_not}
use Rattle.macros.specs.Points.{size_block}
use Rattle.grammar.specs.Limits.{most_points}
use Rattle.grammar.specs.Grammar.{Macro, header_of, expanded}
use Rattle.grammar.specs.Spelled.{InOrder}
use Rattle.grammar.proofs.Theory.Expanded.{expanded_fits}
use Rattle.grammar.proofs.Theory.Hidden.{registers_within}
use Rattle.exploration.proofs.Theory.Given.{setting}
use Rattle.search.proofs.Theory.TracedLaws.{formed_fit}
use Rattle.verdict_theory.specs.Verdict.{VerdictAnswer, refused, full, unfit, IsPass, Kind, breaking, failing, showing, Delivered, OfKind, Leaves, SamePair}
use Rattle.verdict_theory.specs.Verdict.{EventAt, PairCount, PairsPass, Shows, IsVerdict, Event, breaks, fails}
use Rattle.verdict_theory.specs.AnswerPacking.{packed}
use Rattle.verdict_theory.proofs.Theory.AnswerPacking.{bytes_are, shown-tables}
use Rattle.verdict_theory.proofs.Theory.Counting.{more_is}
use Rattle.report.specs.Shown.{model_start}
use Rattle.verdict_lines.proofs.Theory.Short.{few_letters}
use Rattle.verdict_lines.specs.Prints.{table_pairs, answer_bytes}

-- ── answers that show an event ──
pub showing_same : (i j : Kind) (k l k' l' : ℕ) → showing i k l ≡ showing j k' l' → (i ≡ j) × (k ≡ k') × (l ≡ l')
showing_same breaking breaking k l k' l' e = (refl, cc, cc)
showing_same breaking failing k l k' l' e = absurd (let z : ◌≡◌ {A = ℕ} 0 1 = cc in omega arith)
showing_same failing breaking k l k' l' e = absurd (let z : ◌≡◌ {A = ℕ} 0 1 = cc in omega arith)
showing_same failing failing k l k' l' e = (refl, cc, cc)

pub showing_refused : (i : Kind) (k l n p : ℕ) → showing i k l ≢ refused n p
showing_refused breaking k l n p e = let z : ◌≡◌ {A = ℕ} 0 1 = cc in omega arith
showing_refused failing k l n p e = let z : ◌≡◌ {A = ℕ} 0 1 = cc in omega arith

pub showing_not_full : (i : Kind) (k l : ℕ) → showing i k l ≢ full
showing_not_full i k l = showing_refused i k l table_too_small 0

pub showing_not_pass : (i : Kind) (k l : ℕ) → ¬ IsPass (showing i k l)
showing_not_pass breaking k l p = p
showing_not_pass failing k l p = p

module _ (m : Macro) (o : InOrder m) where
  abbrev start : Trace
  start = begin (header_of m)

  -- ── an execution that is shown ──
  shown_formed : (kind : Kind) (ρ : Trace) → OfKind (begin (header_of m)) (expanded m) kind ρ → FormedUnder (header_of m) ρ
  shown_formed breaking ρ x = partial_formed (header_of m) start (expanded m) ρ (tt, refl) (expanded_fits m o) x.0
  shown_formed failing ρ x =
      let (p, e) = (failing_is start (expanded m) ρ).0 x.0 in
      run_formed (header_of m) start (expanded m) (tt, refl) (expanded_fits m o) p failure ρ e

  module _ (kind : Kind) (ls : List Letter) (x : OfKind (begin (header_of m)) (expanded m) kind (extend (begin (header_of m)) ls)) where
    abbrev σ : State
    σ = state (extend start ls)

    formed : WellFormed (extend start ls)
    formed = (shown_formed kind (extend start ls) x).0

    pub letters_fit : AllFit (header_of m) ls
    letters_fit = formed_fit start ls formed

    -- at most one computed term for each register and each letter
    terms_few : length σ.terms ≤ most_registers + length ls
    terms_few = omega (arith, terms_length (extend start ls), ap (λ h. h.registers) (extend_header start ls), extend_size start ls, registers_within m o)

    pub rows_few : length (tables_of (state (extend (begin (header_of m)) ls))).rows ≤ most_registers + length ls
    unfolding tables_of shown_tables
    rows_few = omega (arith, rows_length (reverse σ.terms) σ.equals, length-reverse σ.terms, terms_few)

    starts_few : length (tables_of σ).starts ≤ most_registers
    unfolding tables_of shown_tables
    starts_few = omega (arith, starts_length (shown_value σ) 0 σ.header.registers, ap (λ h. h.registers) (extend_header start ls), registers_within m o)

    -- the model of an execution of no more letters than a table has pairs fits the packed form
    pub packable : length ls ≤ most_pairs → Packable first_edition (header_of m) (tables_of (state (extend (begin (header_of m)) ls)))
    packable few = subst (λ h. Packable first_edition h (tables_of σ)) (extend_header start ls)
        (shown_packable first_edition σ (state_valid (extend start ls) formed) (applications_fit (extend start ls) formed) refl
        (omega (arith, ap (λ h. h.functions) (extend_header start ls), o.fewer)) (omega (arith, terms_few, few)) (omega arith))

    pub trace_size : length (packing first_edition (header_of m) ls) ≡ model_start (length ls)
    unfolding packing
    trace_size =
        let h = header_of m in
        let word = letter_word first_edition h in
        omega (arith, bytes_length first_edition first_roomy (header_word first_edition h ∷ map word ls), length-map ls word)

    packed_few : length ls ≤ table_pairs → (k : Kind) → length (packed first_edition (begin (header_of m)) k ls) ≤ answer_bytes
    unfolding packed
    packed_few few breaking = omega (arith, trace_size, few)
    packed_few few failing =
        omega (
          arith,
          length-append (packing first_edition (header_of m) ls) (pack_tables first_edition (header_of m) (tables_of σ)),
          trace_size,
          few,
          packed_length first_edition (header_of m) (tables_of σ),
          rows_few,
          starts_few,
        )

  -- the model that is shown of a failing execution
  event_feasible : (ρ : Trace) → Event Feasible (begin (header_of m)) (expanded m) ρ → Coherent ρ → Feasible (state ρ)
  event_feasible ρ (fails x f) c = f
  event_feasible (begin h) (breaks x b) c = absurd b
  event_feasible (ρ ▸ a) (breaks x b) c = absurd (b.1 c)

  pub event_model : (k : ℕ) (ls : List Letter) → Shows Feasible (begin (header_of m)) (expanded m) failing k ls
      → ShownModel (state (extend (begin (header_of m)) ls)) (tables_of (state (extend (begin (header_of m)) ls)))
  event_model k ls s =
      shown-tables (extend start ls) (shown_formed failing (extend start ls) s.of_kind).0
      (event_feasible (extend start ls) s.first_event.event s.of_kind.1)

  -- ── the answer ──
  -- a count that does not pass n is at most n
  pub count_few {ℓ} : {Possible : State → Type ℓ} (n k : ℕ) → PairCount Possible (begin (header_of m)) (expanded m) k
      → ¬ PairsPass Possible (begin (header_of m)) (expanded m) n → k ≤ n
  count_few {Possible} n k c p = elim (less_or n k) [
    | inl l ↦ absurd (p ((more_is Before (Leaves start (expanded m)) (SamePair start (expanded m)) (EventAt Possible start (expanded m)) before_not k n c).1 l))
    | inr l ↦ l
  ]

  -- The event that an answer shows, with its computed bytes.
  pub shown_event : (n : ℕ) (output : List ℕ) (answer : VerdictAnswer) (output' : List ℕ)
      → IsVerdict Feasible (begin (header_of m)) (expanded m) first_edition n output answer output'
      → answer ≢ full → ¬ IsPass answer
      → (kind : Kind) × (k : ℕ) × (ls : List Letter) × Shows Feasible (begin (header_of m)) (expanded m) kind k ls
      × Delivered (packed first_edition (begin (header_of m)) kind ls) (showing kind k (length ls)) output answer output'
  shown_event n output answer output' v u w =
      let (kind, k, ls, bytes, s, q, d) = v.otherwise u w in
      let e = bytes_are first_edition start ls kind bytes (λ _. (shown_formed kind (extend start ls) s.of_kind).0) q in
      (kind, k, ls, s, subst (λ bs. Delivered bs (showing kind k (length ls)) output answer output') e d)

  -- An answer for a table of n pairs that is neither full nor pass.
  module _ (points : size_block (expanded m) ≤ most_points) (n : ℕ) (output : List ℕ) (answer : VerdictAnswer) (output' : List ℕ)
      (v : IsVerdict Feasible (begin (header_of m)) (expanded m) first_edition n output answer output') (u : answer ≢ full) (w : ¬ IsPass answer) where
    -- the event that the search finds: no more letters than pairs, and no more pairs than the table holds
    found : (kind : Kind) × (k : ℕ) × (ls : List Letter) × OfKind (begin (header_of m)) (expanded m) kind (extend (begin (header_of m)) ls) × (length ls ≤ k)
        × (k ≤ n)
        × Delivered (packed first_edition (begin (header_of m)) kind ls) (showing kind k (length ls)) output answer output'
    found =
        let (kind, k, ls, s, d) = shown_event n output answer output' v u w in
        let short = few_letters (setting (record { macro = m; in_order = o; few = points })) kind k ls s in
        (kind, k, ls, s.of_kind, short, count_few n k s.count (λ p. u (v.full_exactly.1 p)), d)

    -- So has every answer that shows an event.
    pub answer_short : (kind : Kind) (k l : ℕ) → answer ≡ showing kind k l → (l ≤ k) × (k ≤ n)
    answer_short kind k l e =
        let (j, i, ls, x, a, b, d) = found in
        elim d [
          | inl (f, g, h) ↦ let (h, p, q) = showing_same kind j k l i (length ls) (sym e ∙ g) in (omega arith, omega arith)
          | inr (f, g, h) ↦ absurd (showing_refused kind k l output_too_small 0 (sym e ∙ g))
        ]

    -- With `table_pairs` an output of `answer_bytes` is large enough.
    pub never_unfit : n ≤ table_pairs → length output ≡ answer_bytes → answer ≢ unfit
    never_unfit few room e =
        let (j, i, ls, x, a, b, d) = found in
        elim d [
          | inl (f, g, h) ↦ showing_refused j i (length ls) output_too_small 0 (sym g ∙ e)
          | inr (f, g, h) ↦ let z = packed_few j ls x (omega arith) j in omega arith
        ]

  -- An event that is shown with its pairs, at most `table_pairs`, and no more letters than pairs; the output holds it in front.
  pub record EventShown (output : List ℕ) (answer : VerdictAnswer) (output' : List ℕ) : Type 0 where
    pub kind : Kind
    pub pairs : ℕ
    pub letters : List Letter
    pub shows : Shows Feasible (begin (header_of m)) (expanded m) kind pairs letters
    pub pairs_few : pairs ≤ table_pairs
    pub letters_few : length letters ≤ table_pairs
    pub told : answer ≡ showing kind pairs (length letters)
    pub bytes : output' ≡ packed first_edition (begin (header_of m)) kind letters
        ++ drop (length (packed first_edition (begin (header_of m)) kind letters)) output

  pub event_shown : size_block (expanded m) ≤ most_points → (output : List ℕ) → length output ≡ answer_bytes → (answer : VerdictAnswer) (output' : List ℕ)
      → IsVerdict Feasible (begin (header_of m)) (expanded m) first_edition table_pairs output answer output'
      → answer ≢ full → ¬ IsPass answer → EventShown output answer output'
  event_shown points output room answer output' v u w =
      let (kind, k, ls, s, d) = shown_event table_pairs output answer output' v u w in
      elim d [
        | inl (f, e, b) ↦
            let (p, q) = answer_short points table_pairs output answer output' v u w kind k (length ls) e in
            record { kind = kind; pairs = k; letters = ls; shows = s; pairs_few = q; letters_few = omega arith; told = e; bytes = b }
        | inr (f, e, b) ↦ absurd (never_unfit points table_pairs output answer output' v u w (omega arith) room e)
      ]
