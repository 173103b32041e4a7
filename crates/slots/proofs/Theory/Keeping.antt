-- What is kept along with slots (`WellKept`) is kept by each step that writes.
use mathlib.Core.Path.{◌≡◌}
use mathlib.Core.List.{List}
use Prim.Native.Nat.{ℕ, ◌<◌}
use Rattle.slots.specs.Slots.{Slots}
use Rattle.slots.specs.Performing.{results_dropped, results_renamed, pair_recorded, dropped_slots, recorded_slots, merged_slots}
use Rattle.slots.specs.Around.{WellKept}
use Rattle.slots.proofs.Theory.Around.{around_dropped, around_recorded, around_renamed}
use Rattle.slots.proofs.Theory.Laying.{laid_dropped, laid_recorded, laid_merged}

module _ (ρ φ : ℕ) where
  pub kept_same : (v w : Slots) (s t : List ℕ) → v ≡ w → s ≡ t → WellKept ρ φ w t → WellKept ρ φ v s
  kept_same v w s t p q k = rw (p, q) k

module _ (ρ φ : ℕ) (w : Slots) (t : List ℕ) (k : WellKept ρ φ w t) where
  pub kept_dropped : (s more : ℕ) → WellKept ρ φ (dropped_slots ρ φ w s more) (results_dropped ρ s t)
  unfolding dropped_slots
  kept_dropped s more = record {
    laid = laid_dropped ρ φ w s more k.laid;
    around = around_dropped ρ φ w.result t k.laid.tables.result_long k.around s;
  }

  pub kept_recorded : (x f a b n : ℕ) → f < φ → a < ρ → b < ρ → WellKept ρ φ (recorded_slots ρ φ w x f a b n) (pair_recorded ρ a b n t)
  unfolding recorded_slots
  kept_recorded x f a b n fb ab bb = record {
    laid = laid_recorded ρ φ w x f a b n k.laid;
    around = around_recorded ρ φ w.result t k.laid.tables.result_long k.around f a b n fb ab bb;
  }

  pub kept_merged : (a b : ℕ) → a < ρ → b < ρ → WellKept ρ φ (merged_slots ρ φ w a b) (results_renamed ρ a b t)
  unfolding merged_slots
  kept_merged a b ab bb = record {
    laid = laid_merged ρ φ w a b ab k.laid;
    around = around_renamed ρ φ w.result t k.laid.tables.result_long k.around a b ab bb;
  }
