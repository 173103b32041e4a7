-- Examples: what is printed for the text of a macro and for a text that is refused; other lines are wrong.
use mathlib.Core.Path.{◌≡◌, refl, sym, ap, ◌∙◌}
use mathlib.Core.List.{List, [], ◌∷◌, ◌++◌}
use Prim.Native.Nat.{ℕ, ◌≤◌}
use native.Mathlib.Omega.{arith}
use lib.ListN.{length, replicate, drop, length-replicate}
use borrow.Author.Tests.{le-leb}
use Rattle.base.specs.Recursion.{within_calls, fixed}
use Rattle.letters.specs.MacroRefusalNumbers.{grammar_violated}
use Rattle.macros.specs.Points.{size_statement, size_block}
use Rattle.tokens.specs.Bytes.{gap, width}
use Rattle.tokens.specs.Bytes
use Rattle.tokens.specs.Tokens.{token_at, spellings}
use Rattle.text.specs.Numerals.{numeral}
use Rattle.text.specs.Names.{name_text}
use Rattle.grammar.specs.Tree.{empty}
use Rattle.grammar.specs.Expanded.{expanded_block}
use Rattle.grammar.specs.Grammar.{Macro, sentence, line_tokens, block_tokens}
use Rattle.grammar.specs.Reading.{got, index_of, block, statement, register_names}
use Rattle.grammar.proofs.Theory.Reading.{read_text, read_macro}
use Rattle.grammar.specs.Reading
use Rattle.refusals.specs.Order.{Refusal}
use Rattle.refusals.proofs.Theory.Order.{refused_refusal}
use Rattle.refusals.specs.Accepted.{Accepted}
use Rattle.refusals.proofs.Theory.Accepted.{read_accepted, accepted_once, refused_once, never_both}
use Rattle.report.specs.Lines.{line, refused_line}
use Rattle.layout_theory.specs.Layout.{house_layout, spaced}
use Rattle.layout_lines.specs.Prints.{print_lines, SaysLayout, most_layout_line_bytes, PrintsLayoutLines}
use Rattle.layout_lines.proofs.Theory.PrintsLaws.{one_layout_said, one_layout_printed, small_kept}

-- vars x;
abbrev register_text : List ℕ
register_text = 118 ∷ 97 ∷ 114 ∷ 115 ∷ 32 ∷ 120 ∷ 59 ∷ []

abbrev register_macro : Macro
register_macro = record {
  registers = 120 ∷ [];
  register_spellings = 120 ∷ [];
  functions = [];
  function_spellings = [];
  arities = [];
  first_test = 0;
  body = empty;
}

register_read : read_macro register_text ≡ got register_macro 7
unfolding read_macro read_text token_at gap width Bytes.name_length spellings register_names block statement index_of expanded_block size_block size_statement
register_read = refl

register_accepted : Accepted register_text register_macro
register_accepted = read_accepted register_text register_macro 7 register_read

register_printed : print_lines register_macro ≡ register_text ++ (10 ∷ [])
unfolding house_layout spaced sentence line_tokens block_tokens name_text fixed within_calls
register_printed = refl

-- the same with an LF
pub register_said : SaysLayout register_text (register_text ++ (10 ∷ []))
register_said = record {
  unread = λ n p r. absurd (never_both register_text register_accepted r);
  print = λ m a. sym register_printed ∙ ap print_lines (accepted_once register_text register_accepted a);
}

-- without it the print is wrong
pub register_not_bare : ¬ SaysLayout register_text register_text
register_not_bare x =
    let e = one_layout_said register_text (register_text ++ (10 ∷ [])) register_text register_said x in
    let z : ◌≡◌ {A = ℕ} 8 7 = cc in
    omega arith

-- no text: refused 9 at 0
nothing_read : read_macro [] ≡ Reading.refused grammar_violated 0
unfolding read_macro read_text token_at gap
nothing_read = refl

nothing_refused : Refusal [] grammar_violated 0
nothing_refused = refused_refusal [] grammar_violated 0 nothing_read

pub nothing_said : SaysLayout [] (114 ∷ 101 ∷ 102 ∷ 117 ∷ 115 ∷ 101 ∷ 100 ∷ 32 ∷ 57 ∷ 32 ∷ 97 ∷ 116 ∷ 32 ∷ 48 ∷ 10 ∷ [])
unfolding line numeral fixed within_calls
nothing_said = record {
  unread = λ n p r. let (i, j) = refused_once [] nothing_refused r in λ k. refused_line (i k) (j k);
  print = λ m a. absurd (never_both [] a nothing_refused);
}

-- ── in a buffer ──

-- none is lent: 0 is given, and 1 is wrong
pub empty_buffer_kept : PrintsLayoutLines register_text [] 0 []
empty_buffer_kept = small_kept register_text [] (omega arith)

pub empty_buffer_not_one : (exit : List ℕ) → ¬ PrintsLayoutLines register_text [] 1 exit
empty_buffer_not_one exit x = let (e, f) = one_layout_printed register_text [] 1 0 exit [] x empty_buffer_kept in omega (arith, e)

module _ (entry : List ℕ) (room : most_layout_line_bytes ≤ length entry) where
  -- the lines stand in front, and the bytes behind them stay
  pub register_put : PrintsLayoutLines register_text entry 8 ((register_text ++ (10 ∷ [])) ++ drop 8 entry)
  register_put =
      let t = le-leb most_layout_line_bytes (length entry) room in
      record { lines = register_text ++ (10 ∷ []); says = register_said; few = omega arith; given = rw t refl; bytes = rw t refl }

  -- so 0 is wrong here
  pub register_not_kept : (exit : List ℕ) → ¬ PrintsLayoutLines register_text entry 0 exit
  register_not_kept exit x = let (e, f) = one_layout_printed register_text entry 0 8 exit _ x register_put in omega (arith, e)

-- the least such buffer
pub register_put_least : PrintsLayoutLines register_text (replicate most_layout_line_bytes 0) 8
    ((register_text ++ (10 ∷ [])) ++ drop 8 (replicate most_layout_line_bytes 0))
register_put_least = register_put (replicate most_layout_line_bytes 0) (omega (arith, length-replicate {A = ℕ} most_layout_line_bytes 0))
