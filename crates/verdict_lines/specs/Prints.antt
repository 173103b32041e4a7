-- What the verdict program prints for a text (SPEC 12.2; document 01): "It reads a macro from standard input, with a table of
-- 65,536 bytes (N = 341), and prints lines." The lines are those of `report` (Rattle.report.specs.Lines).
use Rattle.std.specs.Prelude.{◌≡◌, List, [], ◌∷◌, ◌++◌, ℕ, ◌+◌, ◌-◌, ◌≤◌, leb, ltb, length, drop, get_or}
use Rattle.base.specs.Choice.{pick}
use Rattle.letters.specs.MacroRefusalNumbers.{table_too_small}
use Rattle.semantics.specs.Terms.{Trace, begin, extend, state}
use Rattle.semantics.specs.Models.{Feasible}
use Rattle.semantics.specs.Coherence.{Coherent}
use Rattle.semantics.specs.Numbering.{ShownModel}
use Rattle.macros.specs.Executions.{Partial, Failing}
use Rattle.tokens.specs.Words.{result_word, truth_word}
use Rattle.tokens.specs.Tokens.{bytes_at, place_of}
use Rattle.grammar.specs.Grammar.{Macro, header_of, expanded}
use Rattle.grammar.specs.Spelled.{first_register, function_token}
use Rattle.refusals.specs.Order.{Refusal}
use Rattle.refusals.specs.Accepted.{Accepted}
use Rattle.verdict_theory.specs.Verdict.{breaking, failing, PairCount, PairsPass, Shows}
use Rattle.report.specs.Lines.{Names, Printed, refused_line, report}

-- "with a table of 65,536 bytes" (SPEC 12.2)
abbrev pub table_bytes : ℕ
table_bytes = 65536

-- "N = 341" (SPEC 1.3, 12.2)
abbrev pub table_pairs : ℕ
table_pairs = 341

-- The answer of a search over so many pairs is no longer.
abbrev pub answer_bytes : ℕ
answer_bytes = 4096

-- The token that declares a register (SPEC 8.3, 8.4).
abbrev pub register_token : ℕ → ℕ
register_token r = first_register + r

-- "Lines print a name as it was declared" (SPEC 8.4, 12.2): of n names, name i is the bytes of the token of the text that declares it. There are no others.
abbrev pub name_declared : List ℕ → ℕ → (ℕ → ℕ) → ℕ → List ℕ
name_declared text n declaring i = pick (ltb i n) (λ _. bytes_at text (place_of text (declaring i))) λ _. []

-- The hidden registers, where tests are declared, print as the words `result` and `truth` (SPEC 8.4, 12.2).
abbrev pub hidden_names : Macro → List (List ℕ)
hidden_names m = pick (ltb m.first_test (length m.functions)) (λ _. result_word ∷ truth_word ∷ []) λ _. []

-- name r of the registers: one that is declared, or a hidden one behind these
abbrev pub register_name : List ℕ → Macro → ℕ → List ℕ
register_name text m r =
    pick (ltb r (length m.registers))
    (λ _. name_declared text (length m.registers) register_token r)
    λ _. get_or (hidden_names m) (r - length m.registers) []

abbrev pub declared_names : List ℕ → Macro → Names
declared_names text m = record {
  register = register_name text m;
  function = name_declared text (length m.functions) (function_token (length m.registers) m.first_test);
}

-- What is printed of a macro: the verdict over all its executions, or `table_too_small` where there are more than N pairs.
-- `output_too_small` is not among the answers.
-- "`pairs` and how many have first executions before the event, or exist. Unless pass: `letters` [..] On fail also `values`" (SPEC 12.2).
unfoldable pub Told : Macro → Printed → Type 0
Told m (Printed.pass k) =
    PairCount Feasible (begin (header_of m)) (expanded m) k × (k ≤ table_pairs)
    × ((ρ : Trace) → Partial (begin (header_of m)) (expanded m) ρ → Coherent ρ)
    × ((ρ : Trace) → Failing (begin (header_of m)) (expanded m) ρ → ¬ Feasible (state ρ))
Told m (Printed.incoherent k ls) = Shows Feasible (begin (header_of m)) (expanded m) breaking k ls × (k ≤ table_pairs)
Told m (Printed.fail k ls tables) =
    Shows Feasible (begin (header_of m)) (expanded m) failing k ls × (k ≤ table_pairs) × ShownModel (state (extend (begin (header_of m)) ls)) tables
Told m (Printed.refused number place) = (number ≡ table_too_small) × (place ≡ 0) × PairsPass Feasible (begin (header_of m)) (expanded m) table_pairs

-- The lines for a text (SPEC 12.2).
pub record Says (text lines : List ℕ) : Type 0 where
  -- "A refusal is one line, `refused 9 at 17`." (SPEC 12.1)
  pub unread : (number place : ℕ) → Refusal text number place → lines ≡ refused_line number place
  pub verdict : (m : Macro) → Accepted text m → (told : Printed) × Told m told × (lines ≡ report (declared_names text m) (header_of m) told)

-- The lines are never longer.
abbrev pub most_verdict_line_bytes : ℕ
most_verdict_line_bytes = 32768

-- A lent buffer holds `entry` and then `exit`, and `size` is given: the lines (SPEC 12.2) stand in front and the bytes behind them stay; or, in a buffer
-- that is too small, which one of `most_verdict_line_bytes` never is, all bytes stay, and 0 is given.
pub record PrintsVerdictLines (text entry : List ℕ) (size : ℕ) (exit : List ℕ) : Type 0 where
  pub lines : List ℕ
  pub says : Says text lines
  pub few : length lines ≤ most_verdict_line_bytes
  pub given : size ≡ pick (leb (length lines) (length entry)) (λ _. length lines) λ _. 0
  pub bytes : exit ≡ pick (leb (length lines) (length entry)) (λ _. lines ++ drop (length lines) entry) λ _. entry
