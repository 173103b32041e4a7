-- The lines for a text, and what a lent buffer then holds, are settled: there is one way at most to meet the definition. A buffer of 32,768
-- bytes holds all lines.
use mathlib.Core.Path.{◌≡◌, refl, sym, ap, ◌∙◌, subst}
use mathlib.Core.List.{List, ◌++◌}
use Prim.Native.Nat.{ℕ, ◌≤◌}
use native.Mathlib.Omega.{arith}
use lib.Dec.{leb}
use lib.ListN.{length, take, drop, length-append}
use lib.Seq.{length-take-le}
use borrow.Author.Tests.{le-leb}
use Rattle.base.specs.Choice.{pick}
use Rattle.base.proofs.Theory.Choice.{by_test}
use Rattle.letters.specs.declared.Letter.{Letter}
use Rattle.semantics.specs.Terms.{Trace, begin, ◌▸◌, extend, state}
use Rattle.semantics.specs.Models.{Feasible}
use Rattle.semantics.specs.Coherence.{Coherent}
use Rattle.semantics.specs.Tables.{Tables}
use Rattle.semantics.specs.Numbering.{ShownModel}
use Rattle.semantics.specs.ShownTables.{tables_of}
use Rattle.semantics.proofs.Theory.ShownUnique.{tables_unique}
use Rattle.macros.specs.Executions.{Partial, Failing}
use Rattle.macros.specs.Order.{Before}
use Rattle.macros.proofs.Theory.Order.{before_not}
use Rattle.grammar.specs.Grammar.{Macro, header_of, expanded}
use Rattle.grammar.specs.Spelled.{InOrder}
use Rattle.grammar.proofs.Theory.Expanded.{expanded_fits}
use Rattle.refusals.proofs.Theory.Accepted.{Acceptance, Becomes, an_acceptance}
use Rattle.refusals.proofs.Theory.Accepted as acceptance
use Rattle.verdict_theory.proofs.Theory.Counting.{one_count, more_is}
use Rattle.verdict_theory.proofs.Theory.Since.{since_once}
use Rattle.verdict_theory.specs.Verdict.{Kind, breaking, failing, Breaks, Event, breaks, fails, EventAt, Leaves, SamePair, PairCount, PairsPass, Shows}
use Rattle.verdict_theory.proofs.Theory.AnswerPacking.{failing_formed}
use Rattle.verdict_theory.proofs.Theory.Unique.{one_event}
use Rattle.report.specs.Lines.{Printed, report}
use Rattle.verdict_lines.specs.Prints.{declared_names, table_pairs, most_verdict_line_bytes, Told, Says, PrintsVerdictLines}

breaks_not : (ρ : Trace) → Breaks ρ → ¬ Coherent ρ
breaks_not (begin h) x c = x
breaks_not (ρ ▸ a) x c = x.1 c

module _ (m : Macro) (o : InOrder m) where
  abbrev start : Trace
  start = begin (header_of m)

  counted_once : (k l : ℕ) → PairCount Feasible start (expanded m) k → PairCount Feasible start (expanded m) l → k ≡ l
  counted_once = one_count Before (Leaves start (expanded m)) (SamePair start (expanded m)) (EventAt Feasible start (expanded m)) before_not

  -- the count does not pass N where it is known to be at most N
  not_full : (k : ℕ) → PairCount Feasible start (expanded m) k → k ≤ table_pairs → ¬ PairsPass Feasible start (expanded m) table_pairs
  not_full k c l p = let z = (more_is Before (Leaves start (expanded m)) (SamePair start (expanded m))
      (EventAt Feasible start (expanded m)) before_not k table_pairs c).0 p in omega arith

  -- a macro with an event does not pass
  not_pass : (ρ : Trace) → Event Feasible start (expanded m) ρ → ((ρ : Trace) → Partial start (expanded m) ρ → Coherent ρ)
      → ((ρ : Trace) → Failing start (expanded m) ρ → ¬ Feasible (state ρ)) → ⊥
  not_pass ρ (breaks x b) c s = breaks_not ρ b (c ρ x)
  not_pass ρ (fails x f) c s = s ρ x f

  one_execution : (i j : Kind) (k l : ℕ) (ks ls : List Letter) → Shows Feasible start (expanded m) i k ks → Shows Feasible start (expanded m) j l ls → ks ≡ ls
  one_execution i j k l ks ls x y =
      since_once start ks ls (one_event Feasible start (expanded m) (extend start ks) (extend start ls) x.first_event y.first_event)

  not_both : (k l : ℕ) (ks ls : List Letter) → Shows Feasible start (expanded m) breaking k ks → Shows Feasible start (expanded m) failing l ls → ⊥
  not_both k l ks ls x y =
      breaks_not (extend start ls) (subst (λ w. Breaks (extend start w)) (one_execution breaking failing k l ks ls x y) x.of_kind.1) y.of_kind.1

  one_model : (ls : List Letter) (t : Tables) → Failing start (expanded m) (extend start ls) → ShownModel (state (extend start ls)) t
      → t ≡ tables_of (state (extend start ls))
  one_model ls t x y =
      tables_unique (extend start ls) (failing_formed (header_of m) start (expanded m) (tt, refl) (expanded_fits m o) (extend start ls) x) t y.tables

  pub one_told : (s t : Printed) → Told m s → Told m t → s ≡ t
  unfolding Told
  one_told (Printed.pass k) (Printed.pass l) x y = ap Printed.pass (counted_once k l x.0 y.0)
  one_told (Printed.pass k) (Printed.incoherent l ls) (c, x, q, r) (d, y) = absurd (not_pass (extend start ls) d.first_event.event q r)
  one_told (Printed.pass k) (Printed.fail l ls t) (c, x, q, r) (d, y, u) = absurd (not_pass (extend start ls) d.first_event.event q r)
  one_told (Printed.pass k) (Printed.refused n p) (c, x, q, r) (d, e, y) = absurd (not_full k c x y)
  one_told (Printed.incoherent k ks) (Printed.pass l) (c, x) (d, y, q, r) = absurd (not_pass (extend start ks) c.first_event.event q r)
  one_told (Printed.incoherent k ks) (Printed.incoherent l ls) (c, x) (d, y) =
      λ i. Printed.incoherent (counted_once k l c.count d.count i) (one_execution breaking breaking k l ks ls c d i)
  one_told (Printed.incoherent k ks) (Printed.fail l ls t) (c, x) (d, y, u) = absurd (not_both k l ks ls c d)
  one_told (Printed.incoherent k ks) (Printed.refused n p) (c, x) (d, e, y) = absurd (not_full k c.count x y)
  one_told (Printed.fail k ks s) (Printed.pass l) (c, x, u) (d, y, q, r) = absurd (not_pass (extend start ks) c.first_event.event q r)
  one_told (Printed.fail k ks s) (Printed.incoherent l ls) (c, x, u) (d, y) = absurd (not_both l k ls ks d c)
  one_told (Printed.fail k ks s) (Printed.fail l ls t) (c, x, u) (d, y, v) =
      let w = one_execution failing failing k l ks ls c d in
      let tables : s ≡ t = one_model ks s c.of_kind.0 u ∙ ap (λ w. tables_of (state (extend start w))) w ∙ sym (one_model ls t d.of_kind.0 v) in
      λ i. Printed.fail (counted_once k l c.count d.count i) (w i) (tables i)
  one_told (Printed.fail k ks s) (Printed.refused n p) (c, x, u) (d, e, y) = absurd (not_full k c.count x y)
  one_told (Printed.refused n p) (Printed.pass k) (d, e, y) (c, x, q, r) = absurd (not_full k c x y)
  one_told (Printed.refused n p) (Printed.incoherent k ks) (d, e, y) (c, x) = absurd (not_full k c.count x y)
  one_told (Printed.refused n p) (Printed.fail k ks s) (d, e, y) (c, x, u) = absurd (not_full k c.count x y)
  one_told (Printed.refused n p) (Printed.refused n' p') (d, e, y) (d', e', y') = λ i. Printed.refused ((d ∙ sym d') i) ((e ∙ sym e') i)

pub one_said : (text a b : List ℕ) → Says text a → Says text b → a ≡ b
one_said text a b x y = let (o, k) = an_acceptance text in go o k
  where
    go : (o : Acceptance) → Becomes text o → a ≡ b
    go (acceptance.refused n p) r = x.unread n p r ∙ sym (y.unread n p r)
    go (Acceptance.accepted m) r =
        let (s, t, u) = x.verdict m r in
        let (s', t', u') = y.verdict m r in
        u ∙ ap (report (declared_names text m) (header_of m)) (one_told m r.in_order s s' t t') ∙ sym u'

module _ {text entry exit : List ℕ} {size : ℕ} (x : PrintsVerdictLines text entry size exit) where
  -- So many bytes are there.
  pub prints_within : size ≤ length exit
  prints_within = by_test (leb (length x.lines) (length entry))
      (λ t.
      let g : size ≡ length x.lines = x.given ∙ rw t refl in
      let e : exit ≡ x.lines ++ drop (length x.lines) entry = x.bytes ∙ rw t refl in
      omega (arith, ap length e, length-append x.lines (drop (length x.lines) entry)))
      (λ t. let g : size ≡ 0 = x.given ∙ rw t refl in omega arith)

  pub prints_length : size ≡ length (take size exit)
  prints_length = sym (length-take-le size exit prints_within)

  -- All lines are there.
  pub prints_all : most_verdict_line_bytes ≤ length entry → (size ≡ length x.lines) × (exit ≡ x.lines ++ drop size entry)
  prints_all l =
      let t = le-leb (length x.lines) (length entry) (omega (arith, x.few)) in
      let g : size ≡ length x.lines = x.given ∙ rw t refl in
      (g, x.bytes ∙ rw t refl ∙ ap (λ n. x.lines ++ drop n entry) (sym g))

pub one_way : (text entry : List ℕ) (n k : ℕ) (a b : List ℕ) → PrintsVerdictLines text entry n a → PrintsVerdictLines text entry k b → (n ≡ k) × (a ≡ b)
one_way text entry n k a b x y =
    let e = one_said text x.lines y.lines x.says y.says in (
      x.given ∙ ap (λ (l : List ℕ). pick (leb (length l) (length entry)) (λ _. length l) λ _. 0) e ∙ sym y.given,
      x.bytes ∙ ap (λ (l : List ℕ). pick (leb (length l) (length entry)) (λ _. l ++ drop (length l) entry) λ _. entry) e ∙ sym y.bytes,
    )
