-- What follows from the definitions of specs/Reading.antt.
use Prim.Native.Nat.{ℕ, ◌+◌, ◌*◌}
use mathlib.Core.List.{List, []}
use lib.Dec.{ltb}
use lib.ListN.{length}
use Rattle.base.specs.Choice.{pick}
use Rattle.letters.specs.Editions.{most_registers}
use Rattle.letters.specs.MacroRefusalNumbers.{text_too_long}
use Rattle.tokens.specs.Words as word
use Rattle.tokens.specs.Tokens.{token_at}
use Rattle.grammar.specs.Limits.{longest_text, deepest_nesting}
use Rattle.grammar.specs.Grammar.{Macro}
use Rattle.grammar.specs.Reading.{Got, and_then, expect, block, register_names, functions_t, tests_t, macro_read, finish_t, count_t}

module _ (s : List ℕ) where
  -- Questions 7 to 12, and 16: the text.
  unfoldable pub read_text : Got Macro
  read_text =
      pick (ltb longest_text (length s)) (λ _. Got.refused text_too_long 0)
      λ _. and_then (expect s word.vars_key 0) λ _ a. and_then (register_names s most_registers [] a) λ rs b.
      and_then (functions_t s rs b (token_at s b)) λ (fs, ns) c. and_then (tests_t s rs fs ns c (token_at s c)) λ (gs, ms) d.
      and_then (block s rs gs ms (length fs) (2 * length s + 1) deepest_nesting d) λ body e.
      finish_t s (macro_read s rs gs ms (length fs) body) (token_at s e)

  unfoldable pub read_macro : Got Macro
  read_macro = and_then read_text (count_t s)
