-- What follows from the definitions of specs/MacroSearch.antt.
use mathlib.Core.Path.{◌≡◌, sym, ap, ◌∙◌, subst}
use mathlib.Core.Logic.{◌≢◌}
use mathlib.Core.List.{List, map}
use Prim.Native.Nat.{ℕ, ◌+◌, ◌-◌, ◌*◌, ◌/◌, ◌^◌, ◌≤◌, ◌<◌}
use native.Mathlib.Omega.{arith}
use native.Mathlib.Nat.{two-pow-succ}
use lib.ListN.{length, drop}
use Rattle.letters.specs.declared.Letter.{Letter}
use Rattle.letters.specs.Editions.{first_edition}
use Rattle.letters.specs.Capacity.{capacity_of, most_pairs}
use Rattle.letters.specs.Letters.{HeaderFits}
use Rattle.letters.specs.declared.reasons.Refused.{Refused}
use Rattle.semantics.specs.Terms.{begin, trace_of, state}
use Rattle.semantics.specs.Facts.{WellFormed}
use Rattle.grammar.specs.Limits.{most_points}
use Rattle.semantics.specs.Models.{Feasible}
use Rattle.macros.specs.Points.{points}
use Rattle.grammar.specs.Grammar.{Macro, header_of, binary_of}
use Rattle.grammar.specs.Spelled.{InOrder, Arities}
use Rattle.grammar.proofs.Theory.Expanded.{expanded_fits}
use Rattle.grammar.proofs.Theory.Hidden.{registers_within, registers_some}
use Rattle.blocks.specs.Held.{held_point}
use Rattle.syntax.specs.declared.CompiledMacro as struct
use Rattle.syntax.specs.Answer.{held_macro}
use Rattle.letters.proofs.Theory.CapacityLaws.{capacity_fits}
use Rattle.verdict_theory.specs.Verdict.{Kind, breaking, failing, showing, Delivered}
use Rattle.verdict_theory.specs.AnswerPacking.{packed}
use Rattle.records.specs.Records.{record_bytes}
use Rattle.search.specs.declared.Packed.{Packed}
use Rattle.std.specs.Prelude.{Result, Ok, Err}
use Rattle.exploration.specs.declared.Stop.{Stop}
use Rattle.exploration.specs.declared.Stop.TheVariants.{Breaking, Failing}
use Rattle.search.specs.declared.Verdict as answer
use Rattle.exploration.specs.LetterBounds.{AllWithin}
use Rattle.exploration.specs.Exploring.{search_of}
use Rattle.exploration.proofs.Theory.HeldPoints.{all_within}
use Rattle.exploration.specs.Given.{Given}
use Rattle.exploration.proofs.Theory.Given.{header, body, end, held}
use Rattle.exploration.proofs.Theory.Explored.{Met, SearchEnded}
use Rattle.exploration.proofs.Theory.EventEnding.{search_event}
use Rattle.search.specs.Trails.{trail_of}
use Rattle.search.specs.Tracing.{Older, traced, trace_bytes, most_moves}
use Rattle.search.proofs.Theory.TracedLaws.{traced_is, formed_fit}
use Rattle.search.proofs.Theory.Concluded.{event_formed, event_few, event_older, event_feasible}
use Rattle.search.specs.Searched.{SearchAnswered}
use Rattle.search.specs.Answering.{answer_of, Packs, Delivers}
use Rattle.search.specs.MacroSearch.{HoldsMacro, search_on, Tells}

-- How the search ends at an event of either kind.
abbrev pub found_event : Kind → ℕ → ℕ → Result ℕ Stop
found_event breaking k d = Err (Breaking k d)
found_event failing k d = Err (Failing k d)

not_pass : (kind : Kind) (k d : ℕ) → found_event kind k d ≢ Ok 0
not_pass breaking k d e = let z : ◌≡◌ {A = ℕ} 0 1 = cc in omega arith
not_pass failing k d e = let z : ◌≡◌ {A = ℕ} 0 1 = cc in omega arith

-- ── the table's room ──
pub capacity_most : (n : ℕ) → capacity_of first_edition n ≤ most_pairs
unfolding capacity_of
capacity_most n = omega arith

-- ── the header of a macro in order ──
binary_below : {fs ns : List ℕ} → Arities fs ns → binary_of ns < 2 ^ length fs
binary_below Arities.none = omega arith
binary_below (Arities.one {f = f} {fs = fs} a) = let l = binary_below a in omega (arith, two-pow-succ (length fs))
binary_below (Arities.two {f = f} {fs = fs} a) = let l = binary_below a in omega (arith, two-pow-succ (length fs))

pub header_fits : (m : Macro) → InOrder m → HeaderFits first_edition (header_of m)
header_fits m o = record { some = registers_some m o; registers = registers_within m o; functions = o.fewer; binary = binary_below o.arities }

-- ── an event of the search ──
module _ (given : Given) (n : ℕ) (t : List ℕ) (most : n ≤ most_pairs) (room : record_bytes * n ≤ length t) where
  abbrev after : List ℕ
  after = (search_of (header given) (held given) (end given) n t).1

  module _ (kind : Kind) (k d : ℕ) (e : (search_of (header given) (held given) (end given) n t).0 ≡ found_event kind k d) where
    abbrev trail : List Letter
    trail = trail_of (held given) after d

    parts : (kind : Kind) → SearchEnded given n (found_event kind k d) after → Met given n kind k d after
    parts breaking y = y
    parts failing y = y

    met : Met given n kind k d after
    met = parts kind (search_event given n t most room (found_event kind k d) e (not_pass kind k d))

    formed : WellFormed (trace_of (header given) trail)
    formed = event_formed given n kind k d after met

    -- what the writer of the trace needs
    pub event_writable : (d < most_moves) × (record_bytes * (d / 2) + record_bytes ≤ length after) × Older after (d / 2 + 1)
    event_writable =
        let l = met.due in
        let w = met.going.within in
        let x = met.going.most in
        let y = met.going.room in
        (omega arith, omega arith, event_older given n kind k d after met)

    pub event_packs : (p : Packed) → drop p.start p.bytes ≡ traced (header given) trail → length p.bytes ≡ trace_bytes → Packs p (header given) trail
    event_packs p b l =
        let f = formed_fit (begin (header given)) trail formed in
        let v = header_fits given.macro given.in_order in
        record {
          bytes = b ∙ traced_is (header given) v trail f;
          long = l;
          header = v;
          fit = f;
          few = event_few given n kind k d after met;
          formed = formed;
        }

    pub event_possible : kind ≡ failing → Feasible (state (trace_of (header given) trail))
    event_possible f = event_feasible given n kind k d after met f

-- ── of the struct that holds the macro ──
module _ (program : struct.CompiledMacro) (given : Given) (holds : held_macro given.macro ≡ program) where
  pub points_within : AllWithin program.points
  unfolding held_macro
  points_within = subst (λ p. AllWithin p.points) holds
      (all_within (header given) (registers_within given.macro given.in_order) given.in_order.fewer (body given)
      (expanded_fits given.macro given.in_order)
      (most_points - length (map held_point (points (body given)))))

  module _ (t : List ℕ) where
    -- the search in the lent table
    abbrev most : capacity_of first_edition (length t) ≤ most_pairs
    most = capacity_most (length t)

    abbrev room : record_bytes * capacity_of first_edition (length t) ≤ length t
    room = capacity_fits first_edition (omega arith) (length t)

    module _ (kind : Kind) (k d : ℕ) where
      -- what the writer of the trace needs where the search has ended at an event
      pub event_written : (search_on program t).0 ≡ found_event kind k d
          → (d < most_moves) × (record_bytes * (d / 2) + record_bytes ≤ length (search_on program t).1) × Older (search_on program t).1 (d / 2 + 1)
      unfolding held_macro
      event_written = subst (λ p. (search_on p t).0 ≡ found_event kind k d
          → (d < most_moves) × (record_bytes * (d / 2) + record_bytes ≤ length (search_on p t).1) × Older (search_on p t).1 (d / 2 + 1)) holds
          (event_writable given (capacity_of first_edition (length t)) t most room kind k d)

      -- what is told of an event
      pub event_delivered : (p : Packed) → length p.bytes ≡ trace_bytes → (output : List ℕ) (r : Result answer.Verdict Refused) (output' : List ℕ)
          → Delivers kind p k output r output' → (search_on program t).0 ≡ found_event kind k d
          → drop p.start p.bytes ≡ traced program.header (trail_of program.points (search_on program t).1 d)
          → Delivered (packed first_edition (begin program.header) kind (trail_of program.points (search_on program t).1 d))
          (showing kind k (length (trail_of program.points (search_on program t).1 d))) output (answer_of r) output'
      unfolding held_macro
      event_delivered p l output r output' z =
          subst (λ q. (search_on q t).0 ≡ found_event kind k d → drop p.start p.bytes ≡ traced q.header (trail_of q.points (search_on q t).1 d)
          → Delivered (packed first_edition (begin q.header) kind (trail_of q.points (search_on q t).1 d))
          (showing kind k (length (trail_of q.points (search_on q t).1 d))) output (answer_of r) output')
          holds
          (λ e b. z (header given) (trail_of (held given) (search_on (held_macro given.macro) t).1 d)
          (event_packs given (capacity_of first_edition (length t)) t most room kind k d e p b l)
          (event_possible given (capacity_of first_edition (length t)) t most room kind k d e))

-- ── what the code has found ──
module _ (program : struct.CompiledMacro) (t output : List ℕ) (n : ℕ) (r : Result ℕ Stop) (u : List ℕ) (c : n ≡ capacity_of first_edition (length t))
    (e : r ≡ (search_of program.header program.points program.count n t).0)
    (f : u ≡ (search_of program.header program.points program.count n t).1) where
  ends : r ≡ (search_on program t).0
  ends = e ∙ ap (λ n. (search_of program.header program.points program.count n t).0) c

  leaves : u ≡ (search_on program t).1
  leaves = f ∙ ap (λ n. (search_of program.header program.points program.count n t).1) c

  abbrev Tell : Result ℕ Stop → Result answer.Verdict Refused → List ℕ → Type 0
  Tell z v output' = SearchAnswered program.header program.points first_edition output z (search_on program t).1 (answer_of v) output'

  told : (z : Result ℕ Stop) → r ≡ z → (v : Result answer.Verdict Refused) (output' : List ℕ) → Tell z v output' → Tells program t output v output'
  told z y v output' = subst (λ z. Tell z v output') (sym y ∙ ends)

  module _ (x : HoldsMacro program) (k d : ℕ) where
    pub packable : (kind : Kind) → r ≡ found_event kind k d → (d < most_moves) × (record_bytes * (d / 2) + record_bytes ≤ length u) × Older u (d / 2 + 1)
    packable kind y = subst (λ u. (d < most_moves) × (record_bytes * (d / 2) + record_bytes ≤ length u) × Older u (d / 2 + 1)) (sym leaves)
        (event_written program x.0 x.1 t kind k d (sym ends ∙ y))

    module _ (p : Packed) (b : drop p.start p.bytes ≡ traced program.header (trail_of program.points u d)) (l : length p.bytes ≡ trace_bytes)
        (v : Result answer.Verdict Refused) (output' : List ℕ) where
      abbrev packed_so : drop p.start p.bytes ≡ traced program.header (trail_of program.points (search_on program t).1 d)
      packed_so = b ∙ ap (λ u. traced program.header (trail_of program.points u d)) leaves

      pub told_incoherent : r ≡ Err (Breaking k d) → Delivers breaking p k output v output' → Tells program t output v output'
      told_incoherent y z = told (Err (Breaking k d)) y v output'
          (event_delivered program x.0 x.1 t breaking k d p l output v output' z (sym ends ∙ y) packed_so)

      pub told_failing : r ≡ Err (Failing k d) → Delivers failing p k output v output' → Tells program t output v output'
      told_failing y z = told (Err (Failing k d)) y v output'
          (event_delivered program x.0 x.1 t failing k d p l output v output' z (sym ends ∙ y) packed_so)
