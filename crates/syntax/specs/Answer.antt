-- How the code holds what reading a text gives: the macro in a struct, or the refusal.
use Rattle.std.specs.Prelude.{ℕ, ◌+◌, ◌*◌, ◌-◌, List, [], ◌++◌, map, length, replicate, ltb, Result, Ok, Err}
use Rattle.base.specs.Choice.{pick}
use Rattle.letters.specs.Editions.{most_registers, most_functions}
use Rattle.letters.specs.MacroRefusalNumbers.{text_too_long}
use Rattle.letters.specs.Reasons.{number_of}
use Rattle.letters.specs.declared.reasons.Refused.{Refused}
use Rattle.macros.specs.Points.{points, size_block}
use Rattle.tokens.specs.Words as word
use Rattle.tokens.specs.Tokens.{token_at}
use Rattle.grammar.specs.Limits.{longest_text, deepest_nesting}
use Rattle.grammar.specs.Grammar.{Macro, header_of, shown_registers, expanded}
use Rattle.grammar.specs.Reading.{Got, got, exhausted, and_then, expect, block, register_names, functions_t, tests_t, macro_read, finish_t, count_t}
use Rattle.phrases.specs.Codes.{read_as}
use Rattle.blocks.specs.Held.{point_table, held_point}
use Rattle.syntax.specs.declared.CompiledMacro as held
use Rattle.syntax.specs.declared.MacroRead.{MacroRead}
use Rattle.syntax.specs.declared.Registers.{Registers}
use Rattle.syntax.specs.declared.Functions.{Functions}

-- names in an array of n, with 0 behind them
abbrev pub padded : ℕ → List ℕ → List ℕ
padded n l = l ++ replicate (n - length l) 0

-- A macro as the struct holds it: its header, its names as they are declared, the words of the hidden registers behind those of the registers, and its
-- points.
unfoldable pub held_macro : Macro → held.CompiledMacro
held_macro m = record {
  header = header_of m;
  registers = padded most_registers (shown_registers m);
  functions = padded most_functions m.function_spellings;
  points = point_table (map held_point (points (expanded m)));
  count = size_block (expanded m);
}

-- what the struct holds beside a refusal
abbrev pub no_macro : held.CompiledMacro
no_macro = record {
  header = record { registers = 0; functions = 0; binary = 0 };
  registers = replicate most_registers 0;
  functions = replicate most_functions 0;
  points = point_table [];
  count = 0;
}

-- The answer: refusal 0 is none. (`exhausted` is never what reading gives: `read-answers`.)
unfoldable pub held_reading : Got Macro → MacroRead
held_reading (got m e) = record { refusal = 0; place = 0; program = held_macro m }
held_reading (Got.refused n p) = record { refusal = n; place = p; program = no_macro }
held_reading exhausted = record { refusal = 0; place = 0; program = no_macro }

-- the same with a reason for the number of a refusal
abbrev pub held_answer : Got Macro → Result held.CompiledMacro Refused
held_answer g = read_as (λ m _. held_macro m) g

-- an answer with a reason, with the number for it
abbrev pub in_numbers : Result held.CompiledMacro Refused → MacroRead
in_numbers (Ok m) = record { refusal = 0; place = 0; program = m }
in_numbers (Err e) = record { refusal = number_of e.reason; place = e.place; program = no_macro }

-- ---- declarations on the way

abbrev pub held_registers : List ℕ → ℕ → Registers
held_registers rs e = record { at = e; count = length rs; names = padded most_registers rs }

abbrev pub held_functions : List ℕ × List ℕ → ℕ → Functions
held_functions r e = record { at = e; count = length r.0; names = padded most_functions r.0; arities = padded most_functions r.1 }

-- ---- the rest of the reading, from each step on

module _ (s : List ℕ) where
  -- behind the last statement
  abbrev pub end_from : Macro → ℕ → Got Macro
  end_from m e = and_then (finish_t s m (token_at s e)) (count_t s)

  -- behind the declarations: the functions fs, from number m on tests
  unfoldable pub body_from : List ℕ → List ℕ → List ℕ → ℕ → ℕ → Got Macro
  body_from rs fs ns m c =
      and_then (block s rs fs ns m (2 * length s + 1) deepest_nesting c) λ body e.
      end_from (macro_read s rs fs ns m body) e

  -- behind the functions
  unfoldable pub tests_from : List ℕ → List ℕ → List ℕ → ℕ → Got Macro
  tests_from rs fs ns c = and_then (tests_t s rs fs ns c (token_at s c)) λ r d. body_from rs r.0 r.1 (length fs) d

  -- behind the registers
  unfoldable pub functions_from : List ℕ → ℕ → Got Macro
  functions_from rs b = and_then (functions_t s rs b (token_at s b)) λ r c. tests_from rs r.0 r.1 c

  -- behind `vars`
  unfoldable pub registers_from : ℕ → Got Macro
  registers_from a = and_then (register_names s most_registers [] a) λ rs b. functions_from rs b

  -- the whole text (`text_read_macro`: the reading of the grammar)
  unfoldable pub text_read : Got Macro
  text_read =
      pick (ltb longest_text (length s)) (λ _. Got.refused text_too_long 0)
      λ _. and_then (expect s word.vars_key 0) λ _ a. registers_from a
