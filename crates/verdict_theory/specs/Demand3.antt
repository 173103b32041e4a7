-- Demand 3 (SPEC 10, 11.3, 11.5; document 01): one claim about a macro's text and all executions of the macro,
-- the lent table, the lent output, and the answer.
use Rattle.std.specs.Prelude.{◌≡◌, List, ℕ, length, replicate}
use Rattle.letters.specs.Editions.{Edition, first_edition}
use Rattle.letters.specs.Capacity.{capacity_of}
use Rattle.semantics.specs.Terms.{State, begin}
use Rattle.grammar.specs.Grammar.{Macro, header_of, expanded}
use Rattle.refusals.specs.Order.{Refusal}
use Rattle.refusals.specs.Accepted.{Accepted}
use Rattle.verdict_theory.specs.Verdict.{VerdictAnswer, refused, IsVerdict}

-- The edition of a macro, by which its execution and its model are packed and its pairs are counted.
abbrev pub edition_of : Macro → Edition
edition_of m = first_edition

-- N of a lent table (SPEC 10.6).
abbrev pub pairs_in : Edition → List ℕ → ℕ
pairs_in e table = capacity_of e (length table)

-- `table` and `output` are lent; `table'` and `output'` are what they hold afterwards.
-- Possible σ: some data model satisfies the tests of the state σ. The models are finite ones, or of any values (Verdict).
pub record Demand3 {ℓ} (Possible : State → Type ℓ) (text table output : List ℕ) (answer : VerdictAnswer) (table' output' : List ℕ) : Type ℓ where
  -- A text that is refused, by 7 to 13 or 16: "a refusal before it leaves the table untouched", "Refused calls write no output" (SPEC 10.6, 11.5).
  -- (Each text is accepted as one macro or refused by one number at one place: `Accepted.exactly-one` of crate `refusals`.)
  pub unread : (number place : ℕ) → Refusal text number place → (answer ≡ refused number place) × (table' ≡ table) × (output' ≡ output)
  -- A text that is that of the macro m: the verdict on all its executions, or 14, or 6 (SPEC 10.4 to 10.7).
  pub verdict : (m : Macro) → Accepted text m
      → IsVerdict Possible (begin (header_of m)) (expanded m) (edition_of m) (pairs_in (edition_of m) table) output answer output'
  -- "After a search, 14 included, each lent table byte is zero." (SPEC 10.6)
  pub zeroed : (m : Macro) → Accepted text m → table' ≡ replicate (length table) 0
