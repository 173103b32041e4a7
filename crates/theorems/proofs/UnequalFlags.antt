-- Request 5, unequal flags by the word, sentence by sentence.
use mathlib.Core.Path.{◌≡◌, sym}
use mathlib.Core.Logic.{◌↔◌, ◌⊎◌}
use mathlib.Core.Bool.{not}
use mathlib.Core.List.{List}
use Prim.Native.Nat.{ℕ, ◌+◌, ◌*◌, ◌^◌, ◌≤◌, ◌<◌}
use lib.Dec.{T, eqb}
use lib.Bits.{bit_and}
use Rattle.base.specs.Masks.{has}
use Rattle.semantics.specs.Terms.{Trace, State, state}
use Rattle.semantics.specs.Facts.{WellFormed, Valid}
use Rattle.semantics.specs.Models.{Feasible}
use Rattle.semantics.specs.Window.{Apart}
use Rattle.semantics.specs.Judgement.{Longest}
use Rattle.semantics.proofs.Theory.Facts.{state_valid}
use Rattle.window.specs.Layout.{registers, functions}
use Rattle.window.specs.Performing.{apart_of}
use Rattle.window.specs.Rows.{SmallRows, joined_rows}
use Rattle.window.specs.Step.{IsWindow}
use Rattle.window.specs.Stepping.{IsWindowInLayout}
use Rattle.window.specs.declared.Window.{Window}
use Rattle.window.proofs.Theory.Rows.{apart_word}
use Rattle.unequal_flags.specs.Flags.{NamesClass, WordsOfState, WordOfState}
use Rattle.unequal_flags.specs.Words.{unequal_word}
use Rattle.unequal_flags.proofs.Theory.Exact.{words_exact, rows_exact, word_exact, word_of_longest}
use Rattle.unequal_flags.proofs.Theory.Properties.{word_symmetric, word_own, word_unnamed, word_beyond, word_unique, word_infeasible}
use Rattle.streaming.specs.Meanings.{Monitors}
use Rattle.streaming.specs.declared.Monitor.{Monitor}

-- "read them as one word of 64 bits, and prove that its bit 8a+b is set exactly where classes a and b, by name, are known unequal": for every window of
-- a trace;
pub the_word_of_every_window_is_exact : (ρ : Trace) → WellFormed ρ → (w : Window) → IsWindow (state ρ) w → WordOfState (state ρ) (unequal_word registers w 0)
the_word_of_every_window_is_exact ρ f = word_exact (state ρ) (state_valid ρ f)

-- so the word of a monitor, which holds the window of the longest coherent beginning of the letters taken, is that of this beginning;
pub the_word_of_a_monitor_is_exact : (ρ π : Trace) (m : Monitor) → Monitors ρ m → Longest ρ π → WordOfState (state π) (unequal_word registers m.window 0)
the_word_of_a_monitor_is_exact ρ π m h l = word_of_longest ρ π h.follows.formed l m.window h.follows.holds (unequal_word registers m.window 0)
    λ σ v w. word_exact σ v m.window w

-- and for every count of registers: bit (ρ a + b) % 64 of word (ρ a + b) / 64.
pub the_words_are_exact_in_every_layout : (ρ φ : ℕ) (σ : State) → Valid σ → (w : Window) → IsWindowInLayout ρ φ σ w → WordsOfState ρ σ (unequal_word ρ w)
the_words_are_exact_in_every_layout = words_exact

-- A trace has at most one word. It is symmetric, has none of the bits 8a+a, none of registers that name no class or are beyond the header, and is 0 once
-- the trace is infeasible.
module _ (π : Trace) (f : WellFormed π) (word : ℕ) (w : WordOfState (state π) word) where
  pub there_is_no_other : (other : ℕ) → WordOfState (state π) other → word ≡ other
  there_is_no_other other v = word_unique (state π) word other w v

  pub it_is_symmetric : (a b : ℕ) → a < registers → b < registers → T (has word (registers * a + b)) → T (has word (registers * b + a))
  it_is_symmetric = word_symmetric (state π) word w

  pub no_register_is_unequal_to_itself : (a : ℕ) → a < registers → ¬ T (has word (registers * a + a))
  no_register_is_unequal_to_itself = word_own (state π) word w (state_valid π f)

  pub registers_that_name_no_class_have_no_bits : (a b : ℕ) → a < registers → b < registers → (¬ NamesClass (state π) a) ⊎ (¬ NamesClass (state π) b)
      → ¬ T (has word (registers * a + b))
  registers_that_name_no_class_have_no_bits = word_unnamed (state π) word w

  pub registers_beyond_the_header_have_no_bits : (a b : ℕ) → a < registers → b < registers
      → ((state π).header.registers ≤ a) ⊎ ((state π).header.registers ≤ b) → ¬ T (has word (registers * a + b))
  registers_beyond_the_header_have_no_bits = word_beyond (state π) word w

  pub none_once_infeasible : ¬ Feasible (state π) → word ≡ 0
  none_once_infeasible = word_infeasible (state π) word w

-- "Results are as before, and so is the promise of the routine that reads them now." Results: the definitions that the code equals (`judge_of`, `perform_of`
-- and what they are made of) have the text that they had. The routine promises `apart_of`, for every table of masks: what one look at the word of all rows
-- tells,
pub the_routine_reads_the_word : (ρ φ : ℕ) (unequal : List ℕ) (a others : ℕ) → SmallRows ρ unequal ρ → a < ρ → others < 2 ^ ρ
    → apart_of ρ φ unequal a others ≡ not (eqb (bit_and (joined_rows ρ unequal ρ) (others * 2 ^ (ρ * a))) 0)
unfolding apart_of
the_routine_reads_the_word ρ φ unequal a others s h b = sym (apart_word ρ unequal ρ a others s h b)

-- and that word has, for every window of a trace, the bits of all registers of classes that are known unequal, whether they name them or not.
pub the_word_that_it_reads_is_exact : (ρ : Trace) → WellFormed ρ → (w : Window) → IsWindow (state ρ) w → (a b : ℕ) → a < registers → b < registers
    → T (has (joined_rows registers w.unequal registers) (registers * a + b))
    ↔ ((a < (state ρ).header.registers) × (b < (state ρ).header.registers) × Feasible (state ρ) × Apart (state ρ) a b)
the_word_that_it_reads_is_exact ρ f w h = rows_exact registers functions (state ρ) (state_valid ρ f) w h
