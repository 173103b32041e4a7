-- What the flags of a trace's unequal pairs say: "its bit 8a+b is set exactly where classes a and b, by name, are known unequal" (document 02, 5;
-- SPEC 5.7). In a layout of ρ registers flag ρ a + b is bit (ρ a + b) % 64 of word (ρ a + b) / 64.
use Rattle.std.specs.Prelude.{ℕ, ◌+◌, ◌*◌, ◌/◌, ◌%◌, ◌^◌, ◌<◌, ◌↔◌, T}
use Rattle.base.specs.Masks.{has}
use Rattle.semantics.specs.Terms.{State}
use Rattle.semantics.specs.Models.{Feasible}
use Rattle.semantics.specs.Window.{Apart}
use Rattle.semantics.specs.ClassNames.{NamedBy}
use Rattle.window.specs.Layout.{registers, word_bits}

-- register a names a class, its own: "A class is named by its lowest-numbered register" (SPEC 5.1)
pub record NamesClass (σ : State) (a : ℕ) : Type 0 where
  pub declared : a < σ.header.registers
  pub name : NamedBy σ a a

-- a and b name classes that are known unequal; "Once infeasible, it has no unequal pairs." (SPEC 5.2)
pub record UnequalNames (σ : State) (a b : ℕ) : Type 0 where
  pub first : NamesClass σ a
  pub second : NamesClass σ b
  pub feasible : Feasible σ
  pub apart : Apart σ a b

-- the words are those of the state, in a layout of ρ registers
pub record WordsOfState (ρ : ℕ) (σ : State) (word : ℕ → ℕ) : Type 0 where
  pub within : (k : ℕ) → word k < 2 ^ word_bits
  pub flag : (a b : ℕ) → a < ρ → b < ρ → T (has (word ((ρ * a + b) / word_bits)) ((ρ * a + b) % word_bits)) ↔ UnequalNames σ a b

-- the first edition's one word of 64 bits: bit 8 a + b
pub record WordOfState (σ : State) (word : ℕ) : Type 0 where
  pub within : word < 2 ^ word_bits
  pub flag : (a b : ℕ) → a < registers → b < registers → T (has word (registers * a + b)) ↔ UnequalNames σ a b
