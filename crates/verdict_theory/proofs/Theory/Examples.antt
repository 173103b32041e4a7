-- Examples: a macro that passes, two on which pass is no right answer, and texts. Passing everything is wrong on the second, trying each loop body once on the
-- third; 14 before a pair is listed, calling everything incoherent and an invented count on the first.
use mathlib.Core.Path.{◌≡◌, refl, sym, ap, ◌∙◌, subst}
use mathlib.Core.Bool.{true}
use mathlib.Core.Logic.{◌≢◌}
use mathlib.Core.List.Memᴰ
use mathlib.Core.List.{List, [], ◌∷◌}
use Prim.Native.Nat.{ℕ, zero, suc, ◌<◌}
use native.Mathlib.Omega.{arith}
use lib.Dec.{T}
use lib.ListN.{length, replicate}
use Rattle.letters.specs.declared.Header.{Header}
use Rattle.letters.specs.declared.Letter.TheVariants.{Copy, Apply, Equal, Unequal}
use Rattle.letters.specs.Letters.{Fits}
use Rattle.letters.specs.Editions.{Edition, first_edition}
use Rattle.semantics.specs.Terms.{◌∈◌, Term, con, Trace, begin, ◌▸◌, State, state}
use Rattle.semantics.specs.Facts.{WellFormed}
use Rattle.semantics.proofs.Theory.Facts.{state_valid}
use Rattle.semantics.specs.Judge.{feasible}
use Rattle.semantics.proofs.Theory.Judge.{feasible_is}
use Rattle.semantics.specs.Models.{Model, eval, Feasible}
use Rattle.semantics.specs.AnyModel.{AnyModel, eval_in, FeasibleInSomeModel}
use Rattle.semantics.specs.Coherence.{Coherent}
use Rattle.macros.specs.Tree.{equal, unequal, skip, perform, assert, while, Block, empty, ◌then◌}
use Rattle.macros.specs.WrittenOut.{statement_before, written_out}
use Rattle.macros.specs.Executions.{Outcome, done, failed, ExecBlock, Partial, Failing, Begins, Exec, whole}
use Rattle.macros.specs.Order.{Path, root}
use Rattle.macros.specs.Points.{size_statement, size_block}
use Rattle.tokens.specs.Bytes.{gap, width}
use Rattle.tokens.specs.Bytes
use Rattle.tokens.specs.Tokens.{token_at, spellings}
use Rattle.grammar.specs.Reading.{got, index_of, comparison, condition, ended_condition, block, statement, register_names}
use Rattle.grammar.proofs.Theory.Reading.{read_text, read_macro}
use Rattle.grammar.specs.Reading
use Rattle.grammar.specs.Tree as written
use Rattle.grammar.specs.Expanded.{expanded_statement}
use Rattle.grammar.specs.Grammar.{Macro}
use Rattle.refusals.specs.Order.{Refusal}
use Rattle.refusals.proofs.Theory.Order.{refused_refusal}
use Rattle.refusals.specs.Accepted.{Accepted}
use Rattle.refusals.proofs.Theory.Accepted.{read_accepted}
use Rattle.verdict_theory.specs.Verdict.{VerdictAnswer, pass, refused, full, IsVerdict, PairCount, Leaves}
use Rattle.verdict_theory.specs.Demand3.{pairs_in, Demand3}
use Rattle.verdict_theory.proofs.Theory.RefusedWay.{refused_way}
use Rattle.verdict_theory.proofs.Theory.Settled.{one_way, read_way}
use Rattle.verdict_theory.proofs.Theory.Readings.{anywhere}

module _ (h : Header) (edition : Edition) (n : ℕ) (output : List ℕ) where
  -- ── skip; ──
  abbrev still : Block
  still = skip then empty

  no_pairs : {p : Path} → Leaves (begin h) still p → ⊥
  unfolding size_statement
  no_pairs x = let l = x.due in omega arith

  only_start : {ρ π : Trace} {o : Outcome} → ExecBlock (written_out still) ρ π o → (π ≡ ρ) × (o ≡ done)
  unfolding statement_before
  only_start (ExecBlock.both Exec.nothing ExecBlock.stop) = (refl, refl)
  only_start (ExecBlock.ends x) = elim x [ ]

  nothing_before : {ρ : Trace} → Begins ρ (begin h) → ρ ≡ begin h
  nothing_before whole = refl

  partial_start : (ρ : Trace) → Partial (begin h) still ρ → Coherent ρ
  partial_start ρ x =
      let e = (only_start x.runs).0 in
      subst Coherent (sym (nothing_before (subst (Begins ρ) e x.begins))) tt

  never_fails : (ρ : Trace) → Failing (begin h) still ρ → ⊥
  never_fails ρ x = let e : failed ≡ done = (only_start x).1 in let z : ◌≡◌ {A = ℕ} 0 1 = cc in omega arith

  -- "`vars x; skip;`: pass, 0 pairs, even with N = 0." It has no failing execution, so that it does not matter what is taken to be possible.
  still_passes {ℓ} : (Possible : State → Type ℓ) → IsVerdict Possible (begin h) still edition n output (pass 0) output
  still_passes Possible = record {
    full_exactly = (λ e. absurd (let z : ◌≡◌ {A = ℕ} 0 1 = cc in omega arith), λ x. absurd (no_pairs (x.counted 0 (omega arith)).is_first.leaves));
    full_output = λ e. refl;
    pass_exactly = λ u. (λ t. (partial_start, λ ρ x f. never_fails ρ x), λ x. tt);
    pass_count = λ k e. (subst (PairCount Possible (begin h) still) (cc) none_counted, refl);
    otherwise = λ u w. absurd (w tt);
  }
    where
      none_counted : PairCount Possible (begin h) still 0
      none_counted = (
        λ i. root,
        record {
          counted = λ i l. absurd (omega arith);
          every = λ p c. absurd (no_pairs c.is_first.leaves);
          sorted =
              λ i j l m. absurd (omega arith);
        },
      )

  -- ── assert x = y; ──
  abbrev claim : Block
  claim = assert (equal 0 1) then empty

  abbrev failure : Trace
  failure = begin h ▸ Unequal 0 1

  only_test : (s t : Term) → (s, t) ∈ (state failure).unequals → (s ≡ con 0) × (t ≡ con 1)
  only_test s t m = let e : ◌≡◌ {A = Term × Term} (s, t) (con 0, con 1) = Memᴰ.eq_of_singleton m in (ap (λ x. x.0) e, ap (λ x. x.1) e)

  -- two values: register 0 has one, all others the other
  abbrev side : ℕ → ℕ
  side zero = 0
  side (suc r) = 1

  side_below : (r : ℕ) → side r < 2
  side_below zero = omega arith
  side_below (suc r) = omega arith

  apart : Model
  apart = record { count = 2; start = side; table = λ f a b. 0; start_below = side_below; table_below = λ f a b l k. omega arith }

  reaches : Feasible (state failure)
  unfolding apart
  reaches = (
    apart,
    record {
      equal_hold = λ s t m. absurd (Memᴰ.not-nil m);
      unequal_hold = λ s t m e. let (f, g) = only_test s t m in differ s t f g e;
    },
  )
    where
      differ : (s t : Term) → s ≡ con 0 → t ≡ con 1 → eval apart s ≡ eval apart t → ⊥
      differ s t f g e = let z : ◌≡◌ {A = ℕ} 0 1 = sym (ap (eval apart) f) ∙ e ∙ ap (eval apart) g in omega arith

  -- each register has a value of its own
  numbered : AnyModel {0}
  numbered = record { Value = ℕ; start = λ r. r; table = λ f a b. 0 }

  reaches_anywhere : FeasibleInSomeModel {0} (state failure)
  unfolding numbered
  reaches_anywhere = (
    numbered,
    record {
      equal_hold = λ s t m. absurd (Memᴰ.not-nil m);
      unequal_hold = λ s t m e. let (f, g) = only_test s t m in differ s t f g e;
    },
  )
    where
      differ : (s t : Term) → s ≡ con 0 → t ≡ con 1 → eval_in numbered s ≡ eval_in numbered t → ⊥
      differ s t f g e = let z : ◌≡◌ {A = ℕ} 0 1 = sym (ap (eval_in numbered) f) ∙ e ∙ ap (eval_in numbered) g in omega arith

  -- pass is wrong where the failure is possible
  passes_not {ℓ} : (Possible : State → Type ℓ) → Possible (state failure) → (k : ℕ) (output' : List ℕ)
      → ¬ IsVerdict Possible (begin h) claim edition n output (pass k) output'
  unfolding statement_before
  passes_not Possible f k output' x =
      let u : pass k ≢ full = λ e. let z : ◌≡◌ {A = ℕ} 0 1 = cc in omega arith in
      ((x.pass_exactly u).0 tt).1 failure (ExecBlock.ends (Exec.fails refl)) f

  -- a checker that passes everything is wrong here
  claim_fails : (k : ℕ) (output' : List ℕ) → ¬ IsVerdict Feasible (begin h) claim edition n output (pass k) output'
  claim_fails = passes_not Feasible reaches

  claim_fails_anywhere : (k : ℕ) (output' : List ℕ) → ¬ IsVerdict (FeasibleInSomeModel {0}) (begin h) claim edition n output (pass k) output'
  claim_fails_anywhere = passes_not (FeasibleInSomeModel {0}) reaches_anywhere

-- ── a failure at the second turn of a loop ──
-- vars p q r s u v; funs n/1; q := p; r := p; while u != v { r := q; q := s; u := n(u); } assert r = p;
module _ (edition : Edition) (n : ℕ) (output : List ℕ) where
  abbrev six : Header
  six = record { registers = 6; functions = 1; binary = 0 }

  abbrev turn : Block
  turn = perform (Copy 2 1) then perform (Copy 1 3) then perform (Apply 4 0 4 4) then empty

  abbrev later : Block
  later = perform (Copy 1 0) then perform (Copy 2 0) then while (unequal 4 5) turn then assert (equal 2 0) then empty

  abbrev twice : Trace
  twice = begin six ▸ Copy 1 0 ▸ Copy 2 0 ▸ Unequal 4 5 ▸ Copy 2 1 ▸ Copy 1 3 ▸ Apply 4 0 4 4 ▸ Unequal 4 5 ▸ Copy 2 1 ▸ Copy 1 3 ▸ Apply 4 0 4 4 ▸ Equal 4 5 ▸
      Unequal 2 0

  turned : (ρ : Trace) → ExecBlock (written_out turn) ρ (ρ ▸ Copy 2 1 ▸ Copy 1 3 ▸ Apply 4 0 4 4) done
  unfolding statement_before
  turned ρ = ExecBlock.both Exec.letter (ExecBlock.both Exec.letter (ExecBlock.both Exec.letter ExecBlock.stop))

  twice_fails : Failing (begin six) later twice
  unfolding statement_before
  twice_fails = ExecBlock.both Exec.letter
      (ExecBlock.both Exec.letter (ExecBlock.both (Exec.turns (turned _) (Exec.turns (turned _) (Exec.leaves refl))) (ExecBlock.ends (Exec.fails refl))))

  twice_formed : WellFormed twice
  twice_formed =
      let f : Fits six (Apply 4 0 4 4) = (omega arith, omega arith, omega arith, omega arith, λ e. refl) in (
        (
          (
            (
              (
                (
                  (
                    (
                      ((((tt, (omega arith, omega arith)), (omega arith, omega arith)), (omega arith, omega arith)), (omega arith, omega arith)),
                      (omega arith, omega arith),
                    ),
                    f,
                  ),
                  (omega arith, omega arith),
                ),
                (omega arith, omega arith),
              ),
              (omega arith, omega arith),
            ),
            f,
          ),
          (omega arith, omega arith),
        ),
        (omega arith, omega arith),
      )

  twice_possible : Feasible (state twice)
  twice_possible = (feasible_is (state twice) (state_valid twice twice_formed)).0 (let e : feasible (state twice) ≡ true = refl in subst T (sym e) tt)

  -- a search that tries each loop body a single time passes it, and is wrong
  second_turn : (k : ℕ) (output' : List ℕ) → ¬ IsVerdict Feasible (begin six) later edition n output (pass k) output'
  second_turn k output' x =
      let u : pass k ≢ full = λ e. let z : ◌≡◌ {A = ℕ} 0 1 = cc in omega arith in
      ((x.pass_exactly u).0 tt).1 twice twice_fails twice_possible

-- ── texts ──
-- vars x;skip;
abbrev still_text : List ℕ
still_text = 118 ∷ 97 ∷ 114 ∷ 115 ∷ 32 ∷ 120 ∷ 59 ∷ 115 ∷ 107 ∷ 105 ∷ 112 ∷ 59 ∷ []

abbrev still_macro : Macro
still_macro = record {
  registers = 120 ∷ [];
  register_spellings = 120 ∷ [];
  functions = [];
  function_spellings = [];
  arities = [];
  first_test = 0;
  body = written.◌then◌ written.skip written.empty;
}

still_read : read_macro still_text ≡ got still_macro 12
unfolding read_macro read_text token_at gap width Bytes.name_length spellings register_names block statement index_of size_block size_statement expanded_statement
still_read = refl

still_accepted : Accepted still_text still_macro
still_accepted = read_accepted still_text still_macro 12 still_read

-- vars x y;assert x=y;
abbrev pub claim_text : List ℕ
claim_text = 118 ∷ 97 ∷ 114 ∷ 115 ∷ 32 ∷ 120 ∷ 32 ∷ 121 ∷ 59 ∷ 97 ∷ 115 ∷ 115 ∷ 101 ∷ 114 ∷ 116 ∷ 32 ∷ 120 ∷ 61 ∷ 121 ∷ 59 ∷ []

abbrev pub claim_macro : Macro
claim_macro = record {
  registers = 120 ∷ 121 ∷ [];
  register_spellings = 120 ∷ 121 ∷ [];
  functions = [];
  function_spellings = [];
  arities = [];
  first_test = 0;
  body = written.◌then◌ (written.assert (written.equal 0 1)) written.empty;
}

claim_read : read_macro claim_text ≡ got claim_macro 20
unfolding read_macro read_text token_at gap width Bytes.name_length spellings register_names block statement ended_condition condition comparison
    index_of size_block size_statement expanded_statement
claim_read = refl

pub claim_accepted : Accepted claim_text claim_macro
claim_accepted = read_accepted claim_text claim_macro 20 claim_read

nothing_read : read_macro [] ≡ Reading.refused 9 0
unfolding read_macro read_text token_at gap
nothing_read = refl

nothing_refused : Refusal [] 9 0
nothing_refused = refused_refusal [] 9 0 nothing_read

module _ (table output : List ℕ) where
  -- pass, the table zeroed, the output as it was
  still_met {ℓ} : (Possible : State → Type ℓ) → Demand3 Possible still_text table output (pass 0) (replicate (length table) 0) output
  unfolding expanded_statement
  still_met Possible =
      read_way Possible still_text table output still_macro still_accepted (pass 0) output
      (still_passes _ first_edition (pairs_in first_edition table) output Possible)

  -- no text at all: nothing is written
  nothing_met {ℓ} : (Possible : State → Type ℓ) → Demand3 Possible [] table output (refused 9 0) table output
  nothing_met Possible = refused_way Possible [] table output 9 0 nothing_refused

  -- pass is wrong, whatever the table and the output hold afterwards
  claim_not_met : (k : ℕ) (table' output' : List ℕ) → ¬ Demand3 Feasible claim_text table output (pass k) table' output'
  unfolding expanded_statement
  claim_not_met k table' output' x = claim_fails _ first_edition (pairs_in first_edition table) output k output' (x.verdict claim_macro claim_accepted)

  claim_not_met_anywhere {ℓ} : (k : ℕ) (table' output' : List ℕ) → ¬ Demand3 (FeasibleInSomeModel {ℓ}) claim_text table output (pass k) table' output'
  claim_not_met_anywhere k table' output' x = claim_not_met k table' output' ((anywhere {ℓ} claim_text table output (pass k) table' output').1 x)

  -- So on the first text 14, incoherent, another count of pairs, a table that is not cleared and a changed output are all wrong.
  still_only {ℓ} : (Possible : State → Type ℓ) (a : VerdictAnswer) (table' output' : List ℕ) → Demand3 Possible still_text table output a table' output'
      → (a ≡ pass 0) × (table' ≡ replicate (length table) 0) × (output' ≡ output)
  still_only Possible a table' output' x =
      one_way Possible still_text table output a (pass 0) table' (replicate (length table) 0) output' output x (still_met Possible)
