-- What an answer that meets demand 3 says of the first event, and what a refusal leaves.
use mathlib.Core.Path.{◌≡◌, refl, sym, ◌∙◌, subst}
use mathlib.Core.Logic.{◌⊎◌, inl, inr, ◌↔◌, ◌≢◌}
use mathlib.Core.List.{List}
use Prim.Native.Nat.{ℕ, ◌<◌}
use native.Mathlib.Omega.{arith}
use native.Mathlib.Decide.{ℕ_discrete}
use lib.ListN.{length}
use Rattle.letters.specs.declared.Letter.{Letter}
use Rattle.letters.specs.Editions.{first_edition}
use Rattle.letters.specs.MacroRefusalNumbers.{table_too_small}
use Rattle.letters.specs.RefusalNumbers.{output_too_small}
use Rattle.semantics.specs.Terms.{Trace, begin, ◌▸◌, extend}
use Rattle.semantics.specs.Models.{Feasible}
use Rattle.semantics.specs.Coherence.{Coherent}
use Rattle.macros.specs.Executions.{Failing}
use Rattle.macros.specs.Order.{Before}
use Rattle.macros.proofs.Theory.Order.{before_not}
use Rattle.grammar.specs.Grammar.{Macro, header_of, expanded}
use Rattle.grammar.proofs.Theory.Expanded.{expanded_fits}
use Rattle.refusals.specs.Accepted.{Accepted}
use Rattle.refusals.proofs.Theory.Accepted.{Acceptance, Becomes, an_acceptance}
use Rattle.verdict_theory.specs.Verdict.{VerdictAnswer, refused, IsPass, full, unfit, Kind, breaking, failing, showing, AnswerBytes}
use Rattle.verdict_theory.specs.Verdict.{Delivered, Breaks, Leaves, SamePair, OfKind, Event, breaks, fails, EventAt, PairsPass, Shows, IsVerdict}
use Rattle.verdict_theory.specs.AnswerPacking.{packed}
use Rattle.verdict_theory.specs.Demand3.{pairs_in, Demand3}
use Rattle.verdict_theory.proofs.Theory.AnswerPacking.{bytes_are, failing_formed}
use Rattle.verdict_theory.proofs.Theory.Counting.{one_count}
use Rattle.verdict_theory.proofs.Theory.Since.{since_once}
use Rattle.verdict_theory.proofs.Theory.Unique.{one_event}
use Rattle.verdict_lines.proofs.Theory.Answers.{showing_same, showing_refused, showing_not_full, showing_not_pass, shown_event}

breaks_not : (ρ : Trace) → Breaks ρ → ¬ Coherent ρ
breaks_not (begin h) x c = x
breaks_not (ρ ▸ a) x c = x.1 c

pub refused_or : (n p : ℕ) → (refused n p ≡ full) ⊎ (refused n p ≢ full)
refused_or n p = elim (ℕ_discrete n table_too_small) [
  | yes e ↦ elim (ℕ_discrete p 0) [ yes f ↦ inl (λ i. refused (e i) (f i)) | no f ↦ inr (λ g. f cc) ]
  | no e ↦ inr (λ g. e cc)
]

module _ (text : List ℕ) (m : Macro) (a : Accepted text m) where
  abbrev start : Trace
  start = begin (header_of m)

  abbrev ShownAs : Kind → ℕ → List Letter → Type 0
  ShownAs kind k ls = Shows Feasible start (expanded m) kind k ls

  one_kind : (i j : Kind) (ρ : Trace) → OfKind start (expanded m) i ρ → OfKind start (expanded m) j ρ → i ≡ j
  one_kind breaking breaking ρ x y = refl
  one_kind failing failing ρ x y = refl
  one_kind breaking failing ρ x y = absurd (breaks_not ρ x.1 y.1)
  one_kind failing breaking ρ x y = absurd (breaks_not ρ y.1 x.1)

  -- one first event, of one kind, with one count of pairs
  pub one_shown : (i j : Kind) (k l : ℕ) (ks ls : List Letter) → Shows Feasible (begin (header_of m)) (expanded m) i k ks
      → Shows Feasible (begin (header_of m)) (expanded m) j l ls → (i ≡ j) × (k ≡ l) × (ks ≡ ls)
  one_shown i j k l ks ls x y =
      let w : ks ≡ ls =
      since_once start ks ls (one_event Feasible start (expanded m) (extend start ks) (extend start ls) x.first_event y.first_event) in (
        one_kind i j (extend start ls) (subst (λ u. OfKind start (expanded m) i (extend start u)) w x.of_kind) y.of_kind,
        one_count Before (Leaves start (expanded m)) (SamePair start (expanded m)) (EventAt Feasible start (expanded m)) before_not k l x.count y.count,
        w,
      )

  event_not_pass : (ρ : Trace) → Event Feasible start (expanded m) ρ → (answer : VerdictAnswer) (n : ℕ) (output output' : List ℕ)
      → IsVerdict Feasible start (expanded m) first_edition n output answer output' → answer ≢ full → ¬ IsPass answer
  event_not_pass ρ (breaks x b) answer n o o' v u p = breaks_not ρ b (((v.pass_exactly u).0 p).0 ρ x)
  event_not_pass ρ (fails x f) answer n o o' v u p = ((v.pass_exactly u).0 p).1 ρ x f

  module _ (table output : List ℕ) (answer : VerdictAnswer) (table' output' : List ℕ) (x : Demand3 Feasible text table output answer table' output') where
    abbrev n : ℕ
    n = pairs_in first_edition table

    -- the first event is what is answered, unless the count of pairs passes the table
    pub event_delivered : ¬ PairsPass Feasible (begin (header_of m)) (expanded m) (pairs_in first_edition table) → (kind : Kind) (k : ℕ) (ls : List Letter)
        (bytes : List ℕ) → Shows Feasible (begin (header_of m)) (expanded m) kind k ls → AnswerBytes first_edition (begin (header_of m)) kind ls bytes
        → Delivered bytes (showing kind k (length ls)) output answer output'
    event_delivered few kind k ls bytes s q =
        let v = x.verdict m a in
        let u : answer ≢ full = λ e. few (v.full_exactly.0 e) in
        let w : ¬ IsPass answer = event_not_pass (extend start ls) s.first_event.event answer n output output' v u in
        let (kind', k', ls', s', d) = shown_event m a.in_order n output answer output' v u w in
        let (e, f, g) = one_shown kind' kind k' k ls' ls s' s in
        let formed = failing_formed (header_of m) start (expanded m) (tt, refl) (expanded_fits m a.in_order) (extend start ls) in
        let same = bytes_are first_edition start ls kind bytes (λ h. formed (failed kind ls h s.of_kind)) q in
        subst (λ b. Delivered b (showing kind k (length ls)) output answer output') (sym same)
        (subst (λ (z : List Letter). Delivered (packed first_edition start kind z) (showing kind k (length z)) output answer output') g
        (subst (λ i. Delivered (packed first_edition start kind ls') (showing kind i (length ls')) output answer output') f
        (subst (λ j. Delivered (packed first_edition start j ls') (showing j k' (length ls')) output answer output') e d)))
      where
        failed : (kind : Kind) (ls : List Letter) → kind ≡ failing → OfKind start (expanded m) kind (extend start ls)
            → Failing start (expanded m) (extend start ls)
        failed breaking ls h o = absurd (let z : ◌≡◌ {A = ℕ} 0 1 = cc in omega arith)
        failed failing ls h o = o.0

    -- what an answer that shows an event says
    pub shown_counted : (kind : Kind) (k l : ℕ) → answer ≡ showing kind k l
        → (ls : List Letter) × Shows Feasible (begin (header_of m)) (expanded m) kind k ls × (length ls ≡ l)
    shown_counted kind k l e =
        let (kind', k', ls, s, d) = shown_event m a.in_order n output answer output' (x.verdict m a)
        (λ f. showing_not_full kind k l (sym e ∙ f)) (subst (λ b. ¬ IsPass b) (sym e) (showing_not_pass kind k l)) in
        elim d [
          | inl (f, g, h) ↦
              let (p, q, r) = showing_same kind' kind k' (length ls) k l (sym g ∙ e) in
              (ls, subst (λ i. ShownAs kind i ls) q (subst (λ j. ShownAs j k' ls) p s), r)
          | inr (f, g, h) ↦ absurd (showing_refused kind k l output_too_small 0 (sym e ∙ g))
        ]

-- ── refusals ──
pub refused_output : (text table output : List ℕ) (number place : ℕ) (table' output' : List ℕ)
    → Demand3 Feasible text table output (refused number place) table' output' → output' ≡ output
refused_output text table output number place t o x = let (r, k) = an_acceptance text in go r k
  where
    go : (r : Acceptance) → Becomes text r → o ≡ output
    go (Acceptance.refused n q) r = (x.unread n q r).2
    go (Acceptance.accepted m) r = elim (refused_or number place) [
      | inl e ↦ (x.verdict m r).full_output e
      | inr u ↦
          let (kind, k, ls, s, d) =
          shown_event m r.in_order (pairs_in first_edition table) output (refused number place) o (x.verdict m r) u (λ w. w) in
          elim d [ inl (f, e, b) ↦ absurd (showing_refused kind k (length ls) number place (sym e)) | inr (f, e, b) ↦ b ]
    ]

pub unfit_exactly : (bytes output output' : List ℕ) (kind : Kind) (k l : ℕ) (answer : VerdictAnswer)
    → Delivered bytes (showing kind k l) output answer output' → (answer ≡ unfit) ↔ (length output < length bytes)
unfit_exactly bs o o' kind k l answer (inl (f, e, b)) = (λ g. absurd (showing_refused kind k l output_too_small 0 (sym e ∙ g)), λ g. absurd (omega arith))
unfit_exactly bs o o' kind k l answer (inr (f, e, b)) = (λ g. f, λ g. e)
