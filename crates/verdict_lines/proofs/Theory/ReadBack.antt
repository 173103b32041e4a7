-- What a reader of the output finds there, whatever the size of the table (document 01: "the execution as a packed trace, on fail its model after it").
use mathlib.Core.Path.{◌≡◌, refl, sym, ap, ◌∙◌, subst}
use mathlib.Core.Logic.{inl, inr}
use mathlib.Core.List.{List, ◌++◌, append_assoc}
use Prim.Native.Nat.{ℕ, ◌≤◌}
use native.Mathlib.Omega.{arith}
use lib.ListN.{length, take, drop}
use lib.Seq.{take_at, drop_at}
use Rattle.letters.specs.declared.Letter.{Letter}
use Rattle.letters.specs.Editions.{first_edition}
use Rattle.letters.specs.Capacity.{most_pairs, capacity_of}
use Rattle.letters.specs.RefusalNumbers.{output_too_small}
use Rattle.letters.proofs.Theory.WordLaws.{first_roomy}
use Rattle.traces.specs.Reading.{reading}
use Rattle.traces.specs.Traces.{packing}
use Rattle.traces.proofs.Theory.TraceLaws.{reading_packing}
use Rattle.semantics.specs.Terms.{begin, extend, state}
use Rattle.semantics.specs.Models.{Feasible}
use Rattle.semantics.specs.Tables.{Tables}
use Rattle.semantics.specs.PackedTables.{pack_tables}
use Rattle.semantics.specs.TablesRead.{read_tables}
use Rattle.semantics.specs.ShownTables.{tables_of}
use Rattle.grammar.specs.Grammar.{Macro, header_of, expanded}
use Rattle.refusals.specs.Accepted.{Accepted}
use Rattle.refusals.proofs.Theory.Accepted.{Acceptance, Becomes, an_acceptance}
use Rattle.verdict_theory.specs.Verdict.{Kind, breaking, failing, showing, fail, incoherent, Delivered, Shows, IsVerdict}
use Rattle.verdict_theory.specs.AnswerPacking.{packed}
use Rattle.verdict_theory.specs.Demand3.{pairs_in, Demand3}
use Rattle.verdict_theory.proofs.Theory.Shortest.{shown_shortest}
use Rattle.search.proofs.Theory.MacroSearch.{header_fits}
use Rattle.report.specs.Shown.{model_start}
use Rattle.report.proofs.Theory.Packed.{packed_tables}
use Rattle.verdict_lines.proofs.Theory.Answers.{shown_event, showing_same, showing_refused, showing_not_full, showing_not_pass}
use Rattle.verdict_lines.proofs.Theory.Answers.{letters_fit, packable, trace_size, answer_short}
use Rattle.verdict_lines.specs.ReadsBack.{ReadsBack}

module _ (m : Macro) (ls : List Letter) where
  abbrev front : List ℕ
  front = packing first_edition (header_of m) ls

  abbrev tables : Tables
  tables = tables_of (state (extend (begin (header_of m)) ls))

  -- what stands behind the trace
  abbrev behind : Kind → List ℕ → List ℕ
  behind breaking rest = rest
  behind failing rest = pack_tables first_edition (header_of m) tables ++ rest

  packed_front : (kind : Kind) (rest : List ℕ) → packed first_edition (begin (header_of m)) kind ls ++ rest ≡ front ++ behind kind rest
  unfolding packed
  packed_front breaking rest = refl
  packed_front failing rest = append_assoc front (pack_tables first_edition (header_of m) tables) rest

module _ (text table output : List ℕ) where
  -- of a text that is accepted
  module _ (m : Macro) (a : Accepted text m) (kind : Kind) (pairs letters : ℕ) (output' : List ℕ) where
    abbrev bytes_of : Kind → List Letter → List ℕ
    bytes_of j ls = packed first_edition (begin (header_of m)) j ls

    abbrev ShownWith : Kind → ℕ → List Letter → Type 0
    ShownWith j k ls = Shows Feasible (begin (header_of m)) (expanded m) j k ls

    abbrev Judged : Type 0
    Judged = IsVerdict Feasible (begin (header_of m)) (expanded m) first_edition (pairs_in first_edition table) output (showing kind pairs letters) output'

    -- the first event, and where it stands in the output
    record ShownEvent : Type 0 where
      execution : List Letter
      shows : ShownWith kind pairs execution
      count : length execution ≡ letters
      rest : List ℕ
      bytes : output' ≡ bytes_of kind execution ++ rest

    told : Judged → ShownEvent
    told v =
        let (j, k, ls, s, d) = shown_event m a.in_order (pairs_in first_edition table) output (showing kind pairs letters) output' v
        (showing_not_full kind pairs letters) (showing_not_pass kind pairs letters) in
        go j k ls s d
      where
        go : (j : Kind) (k : ℕ) (ls : List Letter) → ShownWith j k ls
            → Delivered (bytes_of j ls) (showing j k (length ls)) output (showing kind pairs letters) output' → ShownEvent
        go j k ls s (inr (l, e, b)) = absurd (showing_refused kind pairs letters output_too_small 0 e)
        go j k ls s (inl (l, e, b)) =
            let (i, p, q) = showing_same j kind k (length ls) pairs letters (sym e) in
            let rest : List ℕ = drop (length (bytes_of j ls)) output in
            record {
              execution = ls;
              shows = subst (λ n. ShownWith kind n ls) p (subst (λ n. ShownWith n k ls) i s);
              count = q;
              rest = rest;
              bytes = b ∙ ap (λ n. bytes_of n ls ++ rest) i;
            }

    module _ (v : Judged) (t : ShownEvent) where
      abbrev ls : List Letter
      ls = t.execution

      few : length ls ≤ most_pairs
      unfolding capacity_of
      few =
          let (p, q) = answer_short m a.in_order a.few (pairs_in first_edition table) output (showing kind pairs letters) output' v
          (showing_not_full kind pairs letters) (showing_not_pass kind pairs letters) kind pairs letters refl in
          let c = t.count in
          omega arith

      stands : output' ≡ front m ls ++ behind m ls kind t.rest
      stands = t.bytes ∙ packed_front m ls kind t.rest

      long : length (front m ls) ≡ model_start letters
      long = trace_size m a.in_order kind ls t.shows.of_kind ∙ ap model_start t.count

      model : (k : Kind) → output' ≡ front m ls ++ behind m ls k t.rest → k ≡ failing
          → read_tables first_edition (header_of m) (drop (model_start letters) output') ≡ tables m ls
      model breaking b e = absurd (let z : ◌≡◌ {A = ℕ} 0 1 = cc in omega arith)
      model failing b e =
          ap (λ o. read_tables first_edition (header_of m) (drop (model_start letters) o)) b
          ∙ ap (read_tables first_edition (header_of m)) (drop_at (front m ls) (behind m ls failing t.rest) (model_start letters) long)
          ∙ packed_tables (header_of m) (tables m ls) (packable m a.in_order kind ls t.shows.of_kind few) t.rest

      back : ReadsBack m kind pairs letters output'
      back = record {
        execution = ls;
        shows = t.shows;
        count = t.count;
        shortest = λ π y. let z = shown_shortest Feasible (begin (header_of m)) (expanded m) kind pairs ls t.shows π y in let c = t.count in omega arith;
        trace_back = ap (λ o. reading first_edition (take (model_start letters) o)) stands
            ∙ ap (reading first_edition) (take_at (front m ls) (behind m ls kind t.rest) (model_start letters) long)
            ∙ reading_packing first_edition first_roomy (header_of m) ls (header_fits m a.in_order) (letters_fit m a.in_order kind ls t.shows.of_kind);
        model_back = model kind stands;
      }

  -- Where demand 3 holds of an answer that shows an event, the text is that of a macro, and the bytes are read back so.
  module _ (table' output' : List ℕ) where
    pub read_back : (kind : Kind) (pairs letters : ℕ) → Demand3 Feasible text table output (showing kind pairs letters) table' output'
        → (m : Macro) × Accepted text m × ReadsBack m kind pairs letters output'
    read_back kind pairs letters x = let (o, k) = an_acceptance text in go o k
      where
        go : (o : Acceptance) → Becomes text o → (m : Macro) × Accepted text m × ReadsBack m kind pairs letters output'
        go (Acceptance.refused number place) r = absurd (showing_refused kind pairs letters number place (x.unread number place r).0)
        go (Acceptance.accepted m) a = (m, a, back m a kind pairs letters output' (x.verdict m a) (told m a kind pairs letters output' (x.verdict m a)))

    -- The two answers.
    pub fail_back : (pairs letters : ℕ) → Demand3 Feasible text table output (fail pairs letters) table' output'
        → (m : Macro) × Accepted text m × ReadsBack m failing pairs letters output'
    fail_back pairs letters = read_back failing pairs letters

    pub incoherent_back : (pairs letters : ℕ) → Demand3 Feasible text table output (incoherent pairs letters) table' output'
        → (m : Macro) × Accepted text m × ReadsBack m breaking pairs letters output'
    incoherent_back pairs letters = read_back breaking pairs letters
