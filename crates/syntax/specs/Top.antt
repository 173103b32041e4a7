-- The reader's last steps: what it holds when declarations and block are read.
use Rattle.std.specs.Prelude.{◌≡◌, ℕ, ◌+◌, ◌-◌, ◌≤◌, ◌<◌, List, ◌++◌, eqb, ltb, take, drop, replicate, Result}
use Rattle.base.specs.Choice.{pick}
use Rattle.letters.specs.Editions.{most_registers, most_functions}
use Rattle.letters.specs.declared.Header.{Header}
use Rattle.macros.specs.Points.{size_block}
use Rattle.grammar.specs.Limits.{most_points, hidden_registers}
use Rattle.grammar.specs.Tree.{Block}
use Rattle.grammar.specs.Expanded.{expanded_block}
use Rattle.grammar.specs.Grammar.{Macro, binary_of, hidden}
use Rattle.grammar.specs.Reading.{macro_read}
use Rattle.tokens.specs.Tokens.{spellings}
use Rattle.grammar.specs.Spelled.{entry_length, spelled_registers, spelled_functions}
use Rattle.blocks.specs.Held.{unused_point, Progress, HoldsPoints, too_many}
use Rattle.blocks.specs.Outcome.{block_code}
use Rattle.blocks.specs.declared.PointEntry.{PointEntry}
use Rattle.letters.specs.declared.reasons.Refused.{Refused}
use Rattle.syntax.specs.Answer.{padded, held_answer, end_from}
use Rattle.syntax.specs.Lists.{NamesPadded}
use Rattle.syntax.specs.declared.CompiledMacro.{CompiledMacro}
use Rattle.syntax.specs.declared.Registers.{Registers}
use Rattle.syntax.specs.declared.Functions.{Functions}

abbrev pub RegistersPadded : Registers → Type 0
RegistersPadded rs = NamesPadded most_registers rs.names rs.count

abbrev pub FunctionsPadded : Functions → Type 0
FunctionsPadded fs = NamesPadded most_functions fs.names fs.count × NamesPadded most_functions fs.arities fs.count

abbrev pub macro_of : List ℕ → Registers → Functions → ℕ → Block → Macro
macro_of s rs fs m b = macro_read s (take rs.count rs.names) (take fs.count fs.names) (take fs.count fs.arities) m b

-- How many registers are hidden behind the declared ones, where there are k functions, from number m on tests.
abbrev pub hidden_count : ℕ → ℕ → ℕ
hidden_count m k = pick (ltb m k) (λ _. hidden_registers) λ _. 0

-- The names of n registers, with those of the hidden ones behind them, and of k functions behind them, from number m on tests, as they are declared, with 0
-- behind them.
abbrev pub padded_registers : List ℕ → ℕ → ℕ → ℕ → List ℕ
padded_registers s n m k = padded most_registers (spelled_registers s n ++ hidden m k)

abbrev pub padded_functions : List ℕ → ℕ → ℕ → ℕ → List ℕ
padded_functions s n m k = padded most_functions (spelled_functions s n m k)

-- names with the spellings of entries from a place on in the places from m up to k
abbrev pub spelled_behind : List ℕ → ℕ → ℕ → ℕ → List ℕ → List ℕ
spelled_behind s from m k names = take m names ++ (spellings s from entry_length (k - m) ++ drop k names)

-- a table without points
abbrev pub empty_table : List PointEntry
empty_table = replicate most_points unused_point

-- the block b is read, from its start, behind n registers
pub record BlockEnded (n : ℕ) (body : Progress) (b : Block) : Type 0 where
  pub low : size_block (expanded_block n b) ≤ most_points → HoldsPoints empty_table body (block_code n b 0)
  pub high : most_points < size_block (expanded_block n b) → body.count ≡ too_many

unfoldable pub Finishes : List ℕ → Registers → Functions → ℕ → Progress → Result CompiledMacro Refused → Type 0
Finishes s rs fs m body r = (b : Block) → BlockEnded rs.count body b → r ≡ held_answer (end_from s (macro_of s rs fs m b) body.at)

-- "16 .. when more than six registers were declared": where a line of tests stands, there is room for the hidden registers (document 02, request 4).
abbrev pub RoomForHidden : Registers → Functions → ℕ → Type 0
RoomForHidden rs fs m = m < fs.count → rs.count + hidden_registers ≤ most_registers

-- ---- the mask of the functions of two arguments

abbrev pub arity_flag : ℕ → ℕ
arity_flag n = pick (eqb n 2) (λ _. 1) λ _. 0

-- ---- the end

abbrev pub headed : Registers → Functions → ℕ → Header
headed rs fs m = record { registers = rs.count + hidden_count m fs.count; functions = fs.count; binary = binary_of fs.arities }
