-- The row of an application that the arrays hold, by the values of the shown model.
use Rattle.std.specs.Prelude.{List, ℕ}
use Rattle.semantics.specs.Terms.{State}
use Rattle.semantics.specs.Tables.{Row}
use Rattle.semantics.specs.ShownTables.{shown_value}
use Rattle.closure.specs.Numbering.{nth}
use Rattle.closure.specs.Arrays.{entry_at}
use Rattle.engine.specs.Engine.{Computed}

module _ (σ : State) (function first second representative : List ℕ) (registers n : ℕ) (w : Computed σ function first second representative registers n) where
  -- ---- rows
  -- The row of application i.
  unfoldable pub row_at : ℕ → Row
  row_at i = record {
    function = entry_at function i;
    first = shown_value σ (nth σ.terms (entry_at first i));
    second = shown_value σ (nth σ.terms (entry_at second i));
    result = shown_value σ (nth σ.terms i);
  }
