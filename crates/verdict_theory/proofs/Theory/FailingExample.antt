-- A macro with a point, and the one answer that meets the record for it: `vars x y;assert x=y;` fails, with one pair and one letter.
use mathlib.Core.Path.{◌≡◌, refl, sym, ap, ◌∙◌, subst}
use mathlib.Core.Bool.{true}
use mathlib.Core.Logic.{◌⊎◌, inl, inr, ◌≢◌}
use mathlib.Core.List.{List, [], ◌∷◌, ◌++◌}
use Prim.Native.Nat.{ℕ, zero, suc, ◌≤◌}
use native.Mathlib.Omega.{arith}
use lib.Dec.{T}
use lib.ListN.{length, drop, replicate}
use Rattle.letters.specs.declared.Header.{Header}
use Rattle.letters.specs.declared.Letter.{Letter}
use Rattle.letters.specs.declared.Letter.TheVariants.{Equal, Unequal}
use Rattle.letters.specs.Editions.{Edition, first_edition}
use Rattle.letters.specs.Capacity.{capacity_of}
use Rattle.letters.specs.Words.{header_word, letter_word}
use Rattle.traces.specs.Traces.{packing}
use Rattle.semantics.specs.Terms.{Trace, begin, ◌▸◌, extend, State, state}
use Rattle.semantics.specs.Facts.{WellFormed}
use Rattle.semantics.specs.Models.{Feasible}
use Rattle.semantics.specs.Coherence.{Coherent}
use Rattle.semantics.specs.Judgement.{size as letters}
use Rattle.semantics.proofs.Theory.Prefixes.{begins_size, begins_extend}
use Rattle.semantics.proofs.Theory.Facts.{state_valid}
use Rattle.semantics.specs.Judge.{coherent, feasible}
use Rattle.semantics.proofs.Theory.Judge.{coherent_is, feasible_is}
use Rattle.semantics.specs.PackedTables.{pack_tables, units, packed_row, second_written}
use Rattle.semantics.specs.ShownTables.{tables_of}
use Rattle.semantics.specs.ShownTables.{shown_tables, starts_from, rows_of, applications, classes_of, class_value}
use Rattle.semantics.specs.Firsts.{firsts_after, first_place}
use Rattle.macros.specs.Tree.{equal, assert, Block, empty, ◌then◌}
use Rattle.macros.specs.WrittenOut.{statement_before, written_out}
use Rattle.macros.specs.Executions.{Outcome, ExecBlock, Partial, Failing, Begins, Exec, whole, before}
use Rattle.macros.specs.Order.{Path, root, ◌▹◌, first, second, Before}
use Rattle.macros.proofs.Theory.Order.{before_not}
use Rattle.macros.specs.Walk.{at, failure, stand}
use Rattle.macros.specs.Points.{size_statement, entry, compile, run}
use Rattle.macros.proofs.Theory.Runs.{partial_is, run_once, run_steps}
use Rattle.grammar.specs.Expanded.{expanded_statement}
use Rattle.verdict_theory.specs.Count.{Counted}
use Rattle.verdict_theory.specs.Verdict.{VerdictAnswer, fail, full, IsPass, Kind, breaking, failing, showing, AnswerBytes, Delivered, Shows, IsVerdict}
use Rattle.verdict_theory.specs.Verdict.{Breaks, Event, EventAt, Leaves, SamePair, PairCount, PairsPass}
use Rattle.verdict_theory.specs.AnswerPacking.{packed}
use Rattle.verdict_theory.proofs.Theory.AnswerPacking.{bytes_are}
use Rattle.verdict_theory.specs.Verdict
use Rattle.verdict_theory.specs.Demand3.{pairs_in, Demand3}
use Rattle.verdict_theory.proofs.Theory.Examples.{claim_text, claim_macro, claim_accepted}

abbrev two : Header
two = record { registers = 2; functions = 0; binary = 0 }

abbrev start : Trace
start = begin two

abbrev claim : Block
claim = assert (equal 0 1) then empty

abbrev fails_so : Trace
fails_so = begin two ▸ Unequal 0 1

abbrev holds_so : Trace
holds_so = begin two ▸ Equal 0 1

-- ── its executions ──
pub executions : {π : Trace} {o : Outcome} → ExecBlock (written_out claim) start π o → (π ≡ fails_so) ⊎ (π ≡ holds_so)
unfolding statement_before
executions (ExecBlock.both (Exec.holds e) ExecBlock.stop) = inr (ap (λ a. begin two ▸ a) e)
executions (ExecBlock.ends (Exec.fails e)) = inl (ap (λ a. begin two ▸ a) e)

pub failing_so : {ρ : Trace} → Failing start claim ρ → ρ ≡ fails_so
unfolding statement_before
failing_so (ExecBlock.both _ x) = elim x [ ]
failing_so (ExecBlock.ends (Exec.fails e)) = ap (λ a. begin two ▸ a) e

one_letter : {ρ : Trace} {a : Letter} → Begins ρ (begin two ▸ a) → (ρ ≡ begin two ▸ a) ⊎ (ρ ≡ begin two)
one_letter whole = inl refl
one_letter (before whole) = inr refl

run_fails : run start claim (root ▹ first) ≡ stand failure fails_so
unfolding size_statement entry compile
run_fails = refl

run_holds : run start claim (root ▹ second) ≡ stand (at 1) holds_so
unfolding size_statement entry compile
run_holds = refl

run_root : run start claim root ≡ stand (at 0) start
unfolding size_statement entry compile
run_root = refl

-- A partial execution: the start, or one letter more.
beginnings : {ρ : Trace} → Partial start claim ρ → (ρ ≡ start) ⊎ ((ρ ≡ fails_so) ⊎ (ρ ≡ holds_so))
beginnings {ρ} x = elim (executions x.runs) [
  | inl e ↦ elim (one_letter (subst (Begins ρ) e x.begins)) [ inl f ↦ inr (inl f) | inr f ↦ inl f ]
  | inr e ↦ elim (one_letter (subst (Begins ρ) e x.begins)) [ inl f ↦ inr (inr f) | inr f ↦ inl f ]
]

-- All are coherent.
holds_coherent : Coherent holds_so
holds_coherent = (coherent_is holds_so (tt, (omega arith, omega arith))).0 (let e : coherent holds_so ≡ true = refl in subst T (sym e) tt)

never_breaks : (ρ : Trace) → Partial start claim ρ → Breaks ρ → ⊥
never_breaks ρ x b = elim (beginnings x) [
  | inl e ↦ subst Breaks e b
  | inr y ↦ elim y [ inl e ↦ (subst Breaks e b).1 (tt, tt) | inr e ↦ (subst Breaks e b).1 holds_coherent ]
]

module _ {ℓ} (Possible : State → Type ℓ) where
  -- The one event is the failure.
  event_so : (ρ : Trace) → Event Possible start claim ρ → ρ ≡ fails_so
  event_so ρ (Verdict.breaks x b) = absurd (never_breaks ρ x b)
  event_so ρ (Verdict.fails x p) = failing_so x

  -- ── its pairs ──
  -- Only the empty execution leaves one.
  only_root : (p : Path) → Leaves start claim p → p ≡ root
  unfolding size_statement entry compile
  only_root p x = elim (beginnings ((partial_is start claim x.trace).1 (p, at x.point, x.stands))) [
    | inl e ↦ run_once start claim start p root (at x.point) (at 0) (x.stands ∙ ap (stand (at x.point)) e) run_root
    | inr y ↦ elim y [
      | inl e ↦ absurd (let f : p ≡ root ▹ first =
          run_once start claim fails_so p (root ▹ first) (at x.point) failure (x.stands ∙ ap (stand (at x.point)) e) run_fails in
          let g : stand (at x.point) x.trace ≡ stand failure fails_so = sym x.stands ∙ ap (run start claim) f ∙ run_fails in
          let z : ◌≡◌ {A = ℕ} 0 1 = cc in omega arith)
      | inr e ↦ absurd (let f : p ≡ root ▹ second =
          run_once start claim holds_so p (root ▹ second) (at x.point) (at 1) (x.stands ∙ ap (stand (at x.point)) e) run_holds in
          let g : stand (at x.point) x.trace ≡ stand (at 1) holds_so = sym x.stands ∙ ap (run start claim) f ∙ run_holds in
          let z : x.point ≡ 1 = cc in let d = x.due in omega arith)
    ]
  ]

  root_counted : Counted Before (Leaves start claim) (SamePair start claim) (EventAt Possible start claim) root
  unfolding size_statement entry compile
  root_counted = record {
    is_first = record {
      leaves = record { point = 0; trace = start; stands = run_root; due = omega arith; coherent = tt };
      least = λ q x same. inl (sym (only_root q x));
    };
    early = λ q (ρ, (l, e), y). inl (let n = run_steps start claim fails_so q l (e ∙ ap (stand l) (event_so ρ y)) in omega arith);
  }

  -- So there is one pair.
  one_pair : (k : ℕ) → PairCount Possible start claim k → k ≡ 1
  one_pair zero (f, c) = absurd (let (i, l, e) = c.every root root_counted in omega arith)
  one_pair (suc zero) (f, c) = refl
  one_pair (suc (suc k)) (f, c) =
      let a = only_root (f 0) (c.counted 0 (omega arith)).is_first.leaves in
      let b = only_root (f 1) (c.counted 1 (omega arith)).is_first.leaves in
      absurd (before_not root (subst (λ p. Before p root) a (subst (Before (f 0)) b (c.sorted 0 1 (omega arith) (omega arith)))))

  not_more : (n : ℕ) → 1 ≤ n → PairsPass Possible start claim n → ⊥
  not_more n l y =
      let a = only_root (y.sample 0) (y.counted 0 (omega arith)).is_first.leaves in
      let b = only_root (y.sample 1) (y.counted 1 (omega arith)).is_first.leaves in
      let z = y.distinct 0 1 (omega arith) (omega arith) (a ∙ sym b) in
      omega arith

  module _ (reached : Possible (state fails_so)) (edition : Edition) (n : ℕ) (room : 1 ≤ n) (output : List ℕ) where
    -- The one answer: fail, with one pair and one letter; or 6, where it does not fit. So 14, pass, incoherent and every other count are wrong.
    pub claim_only : (answer : VerdictAnswer) (output' : List ℕ) → IsVerdict Possible start claim edition n output answer output'
        → Delivered (packed edition start failing (Unequal 0 1 ∷ [])) (fail 1 1) output answer output'
    unfolding statement_before
    claim_only answer output' x = told (x.otherwise not_full not_pass)
      where
        not_full : answer ≢ full
        not_full e = not_more n room (x.full_exactly.0 e)

        not_pass : IsPass answer → ⊥
        not_pass p = ((x.pass_exactly not_full).0 p).1 fails_so (ExecBlock.ends (Exec.fails refl)) reached

        same_letters : (ls : List Letter) → extend start ls ≡ fails_so → ls ≡ Unequal 0 1 ∷ []
        same_letters [] e = absurd (let z = ap letters e in omega arith)
        same_letters (a ∷ []) e = let f : a ≡ Unequal 0 1 = cc in ap (λ a. a ∷ []) f
        same_letters (a ∷ b ∷ ls) e = absurd (let z = ap letters e in let y = begins_size (begins_extend (start ▸ a ▸ b) ls) in omega arith)

        formed : WellFormed (extend start (Unequal 0 1 ∷ []))
        formed = (tt, (omega arith, omega arith))

        told : (kind : Kind) × (k : ℕ) × (ls : List Letter) × (bytes : List ℕ)
            × Shows Possible start claim kind k ls × AnswerBytes edition start kind ls bytes
            × Delivered bytes (showing kind k (length ls)) output answer output'
            → Delivered (packed edition start failing (Unequal 0 1 ∷ [])) (fail 1 1) output answer output'
        told (breaking, k, ls, bytes, s, q, d) = absurd (never_breaks (extend start ls) s.of_kind.0 s.of_kind.1)
        told (failing, k, ls, bytes, s, q, d) =
            let e = same_letters ls (event_so (extend start ls) s.first_event.event) in
            let c = one_pair k s.count in
            let f = bytes_are edition start ls failing bytes (λ _. subst (λ ls. WellFormed (extend start ls)) (sym e) formed) q in
            subst (λ ls. Delivered (packed edition start failing ls) (fail 1 (length ls)) output answer output') e
            (subst (λ bs. Delivered bs (fail 1 (length ls)) output answer output') f
            (subst (λ k. Delivered bytes (fail k (length ls)) output answer output') c d))

-- ── the same of its text ──
-- The bytes: the header, `x != y`, and the model: three values, no rows, 1 for x and 2 for y.
claim_bytes : packed first_edition start failing (Unequal 0 1 ∷ []) ≡ 32 ∷ 0 ∷ 192 ∷ 8 ∷ 0 ∷ 3 ∷ 0 ∷ 0 ∷ 0 ∷ 1 ∷ 0 ∷ 2 ∷ []
unfolding packed packing header_word letter_word pack_tables tables_of shown_tables starts_from rows_of applications classes_of class_value firsts_after first_place units
    packed_row second_written
claim_bytes = refl

possible : Feasible (state fails_so)
possible = (feasible_is (state fails_so) (state_valid fails_so (tt, (omega arith, omega arith)))).0
    (let e : feasible (state fails_so) ≡ true = refl in subst T (sym e) tt)

-- With room for one pair and twelve bytes of output, this is the answer, and these are the bytes.
pub claim_text_only : (table output : List ℕ) → 192 ≤ length table → 12 ≤ length output → (answer : VerdictAnswer) (table' output' : List ℕ)
    → Demand3 Feasible claim_text table output answer table' output'
    → (answer ≡ fail 1 1) × (table' ≡ replicate (length table) 0) × (output' ≡ 32 ∷ 0 ∷ 192 ∷ 8 ∷ 0 ∷ 3 ∷ 0 ∷ 0 ∷ 0 ∷ 1 ∷ 0 ∷ 2 ∷ drop 12 output)
unfolding capacity_of expanded_statement
claim_text_only table output wide long answer table' output' x =
    told (claim_only Feasible possible first_edition (pairs_in first_edition table) (omega arith) output answer output' (x.verdict claim_macro claim_accepted))
  where
    told : Delivered (packed first_edition start failing (Unequal 0 1 ∷ [])) (fail 1 1) output answer output'
        → (answer ≡ fail 1 1) × (table' ≡ replicate (length table) 0) × (output' ≡ 32 ∷ 0 ∷ 192 ∷ 8 ∷ 0 ∷ 3 ∷ 0 ∷ 0 ∷ 0 ∷ 1 ∷ 0 ∷ 2 ∷ drop 12 output)
    told (inl (l, e, f)) = (e, x.zeroed claim_macro claim_accepted, f ∙ ap (λ bs. bs ++ drop (length bs) output) claim_bytes)
    told (inr (l, e, f)) = absurd (let z = ap length claim_bytes in omega arith)
