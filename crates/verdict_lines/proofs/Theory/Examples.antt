-- Examples: what is printed for a macro without points and for a text that is refused; other lines are wrong.
use mathlib.Core.Path.{◌≡◌, refl, sym, subst}
use mathlib.Core.List.{List, [], ◌∷◌, ◌++◌}
use Prim.Native.Nat.{ℕ}
use native.Mathlib.Omega.{arith}
use Rattle.base.specs.Recursion.{within_calls, fixed}
use Rattle.semantics.specs.Terms.{Trace, begin, state}
use Rattle.semantics.specs.Models.{Feasible}
use Rattle.semantics.specs.Coherence.{Coherent}
use Rattle.macros.specs.WrittenOut.{statement_before, written_out}
use Rattle.macros.specs.Executions.{Outcome, done, failed, ExecBlock, Partial, Failing, Begins, Exec, whole}
use Rattle.macros.specs.Order.{Path, root}
use Rattle.macros.specs.Points.{size_statement, size_block}
use Rattle.tokens.specs.Bytes.{gap, width}
use Rattle.tokens.specs.Bytes
use Rattle.tokens.specs.Tokens.{token_at, spellings}
use Rattle.grammar.specs.Tree.{skip, empty, ◌then◌}
use Rattle.grammar.specs.Expanded.{expanded_statement}
use Rattle.grammar.specs.Grammar.{Macro, header_of, expanded}
use Rattle.grammar.specs.Reading.{got, index_of, block, statement, register_names}
use Rattle.grammar.proofs.Theory.Reading.{read_text, read_macro}
use Rattle.grammar.specs.Reading
use Rattle.refusals.specs.Order.{Refusal}
use Rattle.refusals.proofs.Theory.Order.{refused_refusal}
use Rattle.refusals.specs.Accepted.{Accepted}
use Rattle.refusals.proofs.Theory.Accepted.{read_accepted, accepted_once, refused_once, never_both}
use Rattle.verdict_theory.specs.Verdict.{Leaves, PairCount}
use Rattle.text.specs.Numerals.{numeral}
use Rattle.report.specs.Lines.{Printed, line, verdict_lines, report}
use Rattle.verdict_lines.specs.Prints.{Told, Says}
use Rattle.verdict_lines.proofs.Theory.PrintsLaws.{one_said}

-- vars x;skip;
abbrev still_text : List ℕ
still_text = 118 ∷ 97 ∷ 114 ∷ 115 ∷ 32 ∷ 120 ∷ 59 ∷ 115 ∷ 107 ∷ 105 ∷ 112 ∷ 59 ∷ []

abbrev still : Macro
still = record {
  registers = 120 ∷ [];
  register_spellings = 120 ∷ [];
  functions = [];
  function_spellings = [];
  arities = [];
  first_test = 0;
  body = skip then empty;
}

still_read : read_macro still_text ≡ got still 12
unfolding read_macro read_text token_at gap width Bytes.name_length spellings register_names block statement index_of size_block size_statement
    expanded_statement
still_read = refl

still_accepted : Accepted still_text still
still_accepted = read_accepted still_text still 12 still_read

-- verdict pass
-- pairs 0
abbrev still_lines : List ℕ
still_lines = (118 ∷ 101 ∷ 114 ∷ 100 ∷ 105 ∷ 99 ∷ 116 ∷ 32 ∷ 112 ∷ 97 ∷ 115 ∷ 115 ∷ 10 ∷ []) ++ (112 ∷ 97 ∷ 105 ∷ 114 ∷ 115 ∷ 32 ∷ 48 ∷ 10 ∷ [])

no_pairs : {p : Path} → Leaves (begin (header_of still)) (expanded still) p → ⊥
unfolding size_statement expanded_statement
no_pairs x = let l = x.due in omega arith

none_counted : PairCount Feasible (begin (header_of still)) (expanded still) 0
none_counted = (
  λ i. root,
  record {
    counted = λ i l. absurd (omega arith);
    every = λ p c. absurd (no_pairs c.is_first.leaves);
    sorted =
        λ i j l m. absurd (omega arith);
  },
)

only_start : {ρ π : Trace} {o : Outcome} → ExecBlock (written_out (expanded still)) ρ π o → (π ≡ ρ) × (o ≡ done)
unfolding statement_before expanded_statement
only_start (ExecBlock.both Exec.nothing ExecBlock.stop) = (refl, refl)
only_start (ExecBlock.ends x) = elim x [ ]

nothing_before : {ρ : Trace} → Begins ρ (begin (header_of still)) → ρ ≡ begin (header_of still)
nothing_before whole = refl

coherent : (ρ : Trace) → Partial (begin (header_of still)) (expanded still) ρ → Coherent ρ
coherent ρ x = subst Coherent (sym (nothing_before (subst (Begins ρ) (only_start x.runs).0 x.begins))) tt

never_fails : (ρ : Trace) → Failing (begin (header_of still)) (expanded still) ρ → ¬ Feasible (state ρ)
never_fails ρ x f = let e : failed ≡ done = (only_start x).1 in let z : ◌≡◌ {A = ℕ} 0 1 = cc in omega arith

still_told : Told still (Printed.pass 0)
unfolding Told
still_told = (none_counted, omega arith, coherent, never_fails)

pub still_said : Says still_text still_lines
unfolding report verdict_lines line numeral fixed within_calls
still_said = record {
  unread = λ n p r. absurd (never_both still_text still_accepted r);
  verdict = λ m a. (Printed.pass 0, subst (λ k. Told k (Printed.pass 0)) (accepted_once still_text still_accepted a) still_told, refl);
}

-- no lines at all are wrong
pub still_not_silent : ¬ Says still_text []
still_not_silent x = let e = one_said still_text still_lines [] still_said x in let z : ◌≡◌ {A = ℕ} 0 1 = cc in omega arith

-- no text: refused 9 at 0
nothing_read : read_macro [] ≡ Reading.refused 9 0
unfolding read_macro read_text token_at gap
nothing_read = refl

nothing_refused : Refusal [] 9 0
nothing_refused = refused_refusal [] 9 0 nothing_read

pub nothing_said : Says [] (114 ∷ 101 ∷ 102 ∷ 117 ∷ 115 ∷ 101 ∷ 100 ∷ 32 ∷ 57 ∷ 32 ∷ 97 ∷ 116 ∷ 32 ∷ 48 ∷ 10 ∷ [])
unfolding line numeral fixed within_calls
nothing_said = record {
  unread = λ n p r.
      let (i, j) = refused_once [] nothing_refused r in
      λ k. line ((114 ∷ 101 ∷ 102 ∷ 117 ∷ 115 ∷ 101 ∷ 100 ∷ 32 ∷ []) ∷ numeral (i k) ∷ (32 ∷ 97 ∷ 116 ∷ 32 ∷ []) ∷ numeral (j k) ∷ []);
  verdict = λ m a. absurd (never_both [] a nothing_refused);
}
