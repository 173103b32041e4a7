-- The bytes of an answer are the computed ones, and no others.
use mathlib.Core.Path.{◌≡◌, refl, ap, ◌∙◌}
use mathlib.Core.List.{List, ◌++◌, reverse}
use Prim.Native.Nat.{ℕ}
use Rattle.letters.specs.declared.Header.{Header}
use Rattle.letters.specs.declared.Letter.{Letter}
use Rattle.letters.specs.Editions.{Edition}
use Rattle.traces.specs.Traces.{packing}
use Rattle.semantics.specs.Terms.{Trace, extend, state}
use Rattle.semantics.specs.Facts.{WellFormed}
use Rattle.semantics.specs.Models.{Feasible}
use Rattle.semantics.specs.Tables.{Tables}
use Rattle.semantics.specs.ShownTables.{tables_of}
use Rattle.semantics.specs.Numbering.{ShownModel}
use Rattle.semantics.specs.PackedTables.{pack_tables}
use Rattle.semantics.proofs.Theory.Facts.{state_valid}
use Rattle.semantics.proofs.Theory.Tables.{described_by}
use Rattle.semantics.proofs.Theory.Shown.{in_range, shown, shown-model}
use Rattle.semantics.proofs.Theory.ShownUnique.{tables_are, tables_unique}
use Rattle.macros.specs.Tree.{Block, ProperBlock}
use Rattle.macros.specs.Executions.{Failing}
use Rattle.macros.specs.Walk.{failure}
use Rattle.macros.proofs.Theory.Runs.{failing_is}
use Rattle.macros.proofs.Theory.Fitting.{FormedUnder, run_formed}
use Rattle.verdict_theory.specs.Verdict.{Kind, breaking, failing, AnswerBytes}
use Rattle.verdict_theory.specs.AnswerPacking.{packed}

-- The computed tables of a feasible trace are shown, and its tests hold in the model that they describe.
pub shown-tables : (ρ : Trace) → WellFormed ρ → Feasible (state ρ) → ShownModel (state ρ) (tables_of (state ρ))
unfolding tables_of
shown-tables ρ w f = record {
  tables = tables_are ρ w;
  model = shown (state ρ);
  described = described_by _ (in_range (state ρ).header.registers (reverse (state ρ).terms) (state ρ).equals);
  satisfies = shown-model (state ρ) (state_valid ρ w) f;
}

module _ (e : Edition) (start : Trace) (ls : List Letter) where
  -- the computed bytes are the answer's
  pub bytes_so : (kind : Kind) → WellFormed (extend start ls) → (kind ≡ failing → Feasible (state (extend start ls)))
      → AnswerBytes e start kind ls (packed e start kind ls)
  unfolding packed
  bytes_so breaking w f = refl
  bytes_so failing w f = (tables_of (state (extend start ls)), shown-tables (extend start ls) w (f refl), refl)

  -- there are no others
  pub bytes_are : (kind : Kind) (bytes : List ℕ) → (kind ≡ failing → WellFormed (extend start ls)) → AnswerBytes e start kind ls bytes
      → bytes ≡ packed e start kind ls
  unfolding packed
  bytes_are breaking bytes w x = x
  bytes_are failing bytes w (t, x, y) =
      y ∙ ap (λ (t : Tables). packing e (state start).header ls ++ pack_tables e (state start).header t)
      (tables_unique (extend start ls) (w refl) t x.tables)

-- The failing executions of a proper macro are well formed.
pub failing_formed : (h : Header) (start : Trace) (m : Block) → FormedUnder h start → ProperBlock m h → (ρ : Trace) → Failing start m ρ → WellFormed ρ
failing_formed h start m formed proper ρ x = let (p, e) = (failing_is start m ρ).0 x in (run_formed h start m formed proper p failure ρ e).0
