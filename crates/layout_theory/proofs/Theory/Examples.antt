-- Texts, and their prints (SPEC 8.6). Bytes are ASCII codes.
use mathlib.Core.Path.{◌≡◌, refl, subst, ◌∙◌}
use mathlib.Core.Bool.{Bool, true, false}
use mathlib.Core.List.{List, [], ◌∷◌}
use Prim.Native.Nat.{ℕ}
use native.Mathlib.Omega.{arith}
use lib.ListN.{replicate}
use Rattle.base.specs.Choice.{pick}
use Rattle.base.specs.Recursion.{within_calls, fixed}
use Rattle.letters.specs.MacroRefusalNumbers.{use_wrong, print_too_long}
use Rattle.macros.specs.Points.{size_statement}
use Rattle.tokens.specs.Bytes.{key, spelling, gap, name_length, width}
use Rattle.tokens.specs.Tokens.{token_at, spellings}
use Rattle.tokens.specs.Words as word
use Rattle.text.specs.Names.{name_text}
use Rattle.grammar.specs.Tree.{equal, holds, fails, skip, assume, if, while, absent, present, empty, ◌then◌}
use Rattle.grammar.specs.Expanded.{expanded_statement}
use Rattle.grammar.specs.Grammar.{Macro, sentence, line_tokens, entry_tokens, statement_tokens}
use Rattle.grammar.specs.Reading.{index_of, comparison, arguments_t, applied, named_test, condition, ended_condition, right_hand_side, assignment, block}
use Rattle.grammar.specs.Reading.{register_names, arity_of, entries}
use Rattle.grammar.proofs.Theory.Reading.{read_text, read_macro}
use Rattle.refusals.specs.Order.{Refusal}
use Rattle.refusals.proofs.Theory.Order.{refused_refusal}
use Rattle.refusals.specs.Accepted.{Accepted}
use Rattle.refusals.proofs.Theory.Accepted.{read_accepted, refused_once, never_both}
use Rattle.layout_theory.specs.Layout.{is_word, ends_line, house_layout, spaced, short_else}
use Rattle.layout_theory.specs.Writing.{LayoutAnswer, printed, refused, WritesLayout}
use Rattle.layout_theory.proofs.Theory.Pairs.{fixed_tokens}
use Rattle.layout_theory.proofs.Theory.Somehow.{written_somehow}

-- ---- `vars x;`

unfoldable pub one_register_text : List ℕ
one_register_text = 118 ∷ 97 ∷ 114 ∷ 115 ∷ 32 ∷ 120 ∷ 59 ∷ []

unfoldable pub one_register : Macro
one_register = record {
  registers = key (120 ∷ []) ∷ [];
  register_spellings = spelling (120 ∷ []) ∷ [];
  functions = [];
  function_spellings = [];
  arities = [];
  first_test = 0;
  body = empty;
}

pub one_register_accepted : Accepted one_register_text one_register
unfolding one_register_text one_register read_macro read_text token_at gap width name_length spellings register_names index_of entries arity_of block condition
    comparison named_test applied arguments_t ended_condition assignment right_hand_side expanded_statement size_statement
one_register_accepted = read_accepted _ _ _ refl

-- the text and an LF
unfoldable pub one_register_print : List ℕ
one_register_print = 118 ∷ 97 ∷ 114 ∷ 115 ∷ 32 ∷ 120 ∷ 59 ∷ 10 ∷ []

pub one_register_printed : house_layout one_register ≡ one_register_print
unfolding one_register one_register_print house_layout spaced sentence line_tokens statement_tokens name_text fixed within_calls
one_register_printed = refl

-- It fills eight bytes, and passes seven, which stay.
fills_eight : (answer : LayoutAnswer) (exit : List ℕ) → WritesLayout one_register_text (replicate 8 0) answer exit
    → (answer ≡ printed 8) × (exit ≡ one_register_print)
unfolding one_register_print
fills_eight answer exit w = (
  w.answered one_register one_register_accepted ∙ rw one_register_printed refl,
  w.bytes one_register one_register_accepted ∙ rw one_register_printed refl,
)

passes_seven : (answer : LayoutAnswer) (exit : List ℕ) → WritesLayout one_register_text (replicate 7 0) answer exit
    → (answer ≡ refused print_too_long 0) × (exit ≡ replicate 7 0)
unfolding one_register_print
passes_seven answer exit w = (
  w.answered one_register one_register_accepted ∙ rw one_register_printed refl,
  w.bytes one_register one_register_accepted ∙ rw one_register_printed refl,
)

-- So the promise is not met by every answer.
not_seven : (exit : List ℕ) → WritesLayout one_register_text (replicate 8 0) (printed 7) exit → ⊥
not_seven exit w = let z : printed 7 ≡ printed 8 = (fills_eight (printed 7) exit w).0 in let y : ◌≡◌ {A = ℕ} 7 8 = cc in omega arith

-- It is met by the print.
pub eight_written : WritesLayout one_register_text (replicate 8 0) (printed 8) one_register_print
eight_written =
    let (answer, exit, w) = written_somehow one_register_text (replicate 8 0) in
    let (e, f) = fills_eight answer exit w in
    subst (λ (x : LayoutAnswer). WritesLayout one_register_text (replicate 8 0) x one_register_print) e
    (subst (WritesLayout one_register_text (replicate 8 0) answer) f w)

-- ---- `vars x; x := y;`

unfoldable undeclared_text : List ℕ
undeclared_text = 118 ∷ 97 ∷ 114 ∷ 115 ∷ 32 ∷ 120 ∷ 59 ∷ 32 ∷ 120 ∷ 32 ∷ 58 ∷ 61 ∷ 32 ∷ 121 ∷ 59 ∷ []

undeclared_is_refused : Refusal undeclared_text use_wrong 13
unfolding undeclared_text read_macro read_text token_at gap width name_length spellings register_names index_of entries arity_of block condition
    comparison named_test applied arguments_t ended_condition assignment right_hand_side expanded_statement size_statement
undeclared_is_refused = refused_refusal _ _ _ refl

module _ (entry : List ℕ) where
  -- The reader's refusal is answered, and the lent bytes stay,
  undeclared_met : WritesLayout undeclared_text entry (refused use_wrong 13) entry
  undeclared_met = record {
    unread = λ number place r.
        let (i, j) = refused_once undeclared_text undeclared_is_refused r in (λ k. refused (i k) (j k), refl);
    answered = λ m a. absurd (never_both undeclared_text a undeclared_is_refused);
    bytes = λ m a. absurd (never_both undeclared_text a undeclared_is_refused);
  }

  -- and nothing else does it:
  undeclared_kept : (answer : LayoutAnswer) (exit : List ℕ) → WritesLayout undeclared_text entry answer exit → (answer ≡ refused use_wrong 13) × (exit ≡ entry)
  undeclared_kept answer exit w = w.unread use_wrong 13 undeclared_is_refused

  -- no print, and no other number.
  undeclared_unprinted : (bytes : ℕ) (exit : List ℕ) → WritesLayout undeclared_text entry (printed bytes) exit → ⊥
  undeclared_unprinted bytes exit w =
      let z : printed bytes ≡ refused use_wrong 13 = (undeclared_kept (printed bytes) exit w).0 in let y : ◌≡◌ {A = ℕ} 0 1 = cc in omega arith

  undeclared_not_too_long : (exit : List ℕ) → WritesLayout undeclared_text entry (refused print_too_long 0) exit → ⊥
  undeclared_not_too_long exit w =
      let z : refused print_too_long 0 ≡ refused use_wrong 13 = (undeclared_kept (refused print_too_long 0) exit w).0 in
      let y : print_too_long ≡ use_wrong = cc in omega arith

-- ---- `VARS a B;If A=b{}Else{}`

unfoldable capitals_text : List ℕ
capitals_text =
    86 ∷ 65 ∷ 82 ∷ 83 ∷ 32 ∷ 97 ∷ 32 ∷ 66 ∷ 59 ∷ 73 ∷ 102 ∷ 32 ∷ 65 ∷ 61 ∷ 98 ∷ 123 ∷ 125 ∷ 69 ∷ 108 ∷ 115 ∷ 101 ∷ 123 ∷ 125 ∷ []

unfoldable capitals : Macro
capitals = record {
  registers = key (97 ∷ []) ∷ key (98 ∷ []) ∷ [];
  register_spellings = spelling (97 ∷ []) ∷ spelling (66 ∷ []) ∷ [];
  functions = [];
  function_spellings = [];
  arities = [];
  first_test = 0;
  body = if (equal 0 1) empty (present empty) then empty;
}

capitals_accepted : Accepted capitals_text capitals
unfolding capitals_text capitals read_macro read_text token_at gap width name_length spellings register_names index_of entries arity_of block condition
    comparison named_test applied arguments_t ended_condition assignment right_hand_side expanded_statement size_statement
capitals_accepted = read_accepted _ _ _ refl

-- names as declared, words in lower case, the empty else dropped
capitals_printed : house_layout capitals ≡
    118 ∷ 97 ∷ 114 ∷ 115 ∷ 32 ∷ 97 ∷ 32 ∷ 66 ∷ 59 ∷ 10 ∷ 105 ∷ 102 ∷ 32 ∷ 97 ∷ 61 ∷ 66 ∷ 123 ∷ 10 ∷ 125 ∷ 10 ∷ []
unfolding capitals house_layout spaced sentence line_tokens statement_tokens name_text fixed within_calls
capitals_printed = refl

-- ---- `vars x;funs f/1g/2;`

unfoldable entries_text : List ℕ
entries_text = 118 ∷ 97 ∷ 114 ∷ 115 ∷ 32 ∷ 120 ∷ 59 ∷ 102 ∷ 117 ∷ 110 ∷ 115 ∷ 32 ∷ 102 ∷ 47 ∷ 49 ∷ 103 ∷ 47 ∷ 50 ∷ 59 ∷ []

unfoldable two_functions : Macro
two_functions = record {
  registers = key (120 ∷ []) ∷ [];
  register_spellings = spelling (120 ∷ []) ∷ [];
  functions = key (102 ∷ []) ∷ key (103 ∷ []) ∷ [];
  function_spellings = spelling (102 ∷ []) ∷ spelling (103 ∷ []) ∷ [];
  arities = 1 ∷ 2 ∷ [];
  first_test = 2;
  body = empty;
}

entries_accepted : Accepted entries_text two_functions
unfolding entries_text two_functions read_macro read_text token_at gap width name_length spellings register_names index_of entries arity_of block condition
    comparison named_test applied arguments_t ended_condition assignment right_hand_side expanded_statement size_statement
entries_accepted = read_accepted _ _ _ refl

-- `1` and the name behind it are words
entries_printed : house_layout two_functions ≡
    118 ∷ 97 ∷ 114 ∷ 115 ∷ 32 ∷ 120 ∷ 59 ∷ 10 ∷ 102 ∷ 117 ∷ 110 ∷ 115 ∷ 32 ∷ 102 ∷ 47 ∷ 49 ∷ 32 ∷ 103 ∷ 47 ∷ 50 ∷ 59 ∷ 10 ∷ []
unfolding two_functions house_layout spaced sentence line_tokens entry_tokens statement_tokens name_text fixed within_calls
entries_printed = refl

-- ---- `Vars X; Tests Hot/1 Warm/2; If ! HOT(x) { } While warm(X,x) { assume !hot(x) ; }`

unfoldable tests_text : List ℕ
tests_text =
    86 ∷ 97 ∷ 114 ∷ 115 ∷ 32 ∷ 88 ∷ 59 ∷ 32 ∷ 84 ∷ 101 ∷ 115 ∷ 116 ∷ 115 ∷ 32 ∷ 72 ∷ 111 ∷ 116 ∷ 47 ∷ 49 ∷ 32 ∷ 87 ∷ 97 ∷ 114 ∷ 109 ∷ 47 ∷ 50 ∷ 59 ∷ 32 ∷
    73 ∷ 102 ∷ 32 ∷ 33 ∷ 32 ∷ 72 ∷ 79 ∷ 84 ∷ 40 ∷ 120 ∷ 41 ∷ 32 ∷ 123 ∷ 32 ∷ 125 ∷ 32 ∷ 87 ∷ 104 ∷ 105 ∷ 108 ∷ 101 ∷ 32 ∷ 119 ∷ 97 ∷ 114 ∷ 109 ∷ 40 ∷ 88 ∷
    44 ∷ 120 ∷ 41 ∷ 32 ∷ 123 ∷ 32 ∷ 97 ∷ 115 ∷ 115 ∷ 117 ∷ 109 ∷ 101 ∷ 32 ∷ 33 ∷ 104 ∷ 111 ∷ 116 ∷ 40 ∷ 120 ∷ 41 ∷ 32 ∷ 59 ∷ 32 ∷ 125 ∷ []

unfoldable two_tests : Macro
two_tests = record {
  registers = key (120 ∷ []) ∷ [];
  register_spellings = spelling (88 ∷ []) ∷ [];
  functions = key (104 ∷ 111 ∷ 116 ∷ []) ∷ key (119 ∷ 97 ∷ 114 ∷ 109 ∷ []) ∷ [];
  function_spellings = spelling (72 ∷ 111 ∷ 116 ∷ []) ∷ spelling (87 ∷ 97 ∷ 114 ∷ 109 ∷ []) ∷ [];
  arities = 1 ∷ 2 ∷ [];
  first_test = 0;
  body = if (fails 0 0 0) empty absent then while (holds 1 0 0) (assume (fails 0 0 0) then empty) then empty;
}

tests_accepted : Accepted tests_text two_tests
unfolding tests_text two_tests read_macro read_text token_at gap width name_length spellings register_names index_of entries arity_of block condition
    comparison named_test applied arguments_t ended_condition assignment right_hand_side expanded_statement size_statement
tests_accepted = read_accepted _ _ _ refl

-- `tests` in its own line, and no blank before `!`, which is no word
tests_printed : house_layout two_tests ≡
    118 ∷ 97 ∷ 114 ∷ 115 ∷ 32 ∷ 88 ∷ 59 ∷ 10 ∷ 116 ∷ 101 ∷ 115 ∷ 116 ∷ 115 ∷ 32 ∷ 72 ∷ 111 ∷ 116 ∷ 47 ∷ 49 ∷ 32 ∷ 87 ∷ 97 ∷ 114 ∷ 109 ∷ 47 ∷ 50 ∷ 59 ∷ 10 ∷
    105 ∷ 102 ∷ 33 ∷ 72 ∷ 111 ∷ 116 ∷ 40 ∷ 88 ∷ 41 ∷ 123 ∷ 10 ∷ 125 ∷ 10 ∷ 119 ∷ 104 ∷ 105 ∷ 108 ∷ 101 ∷ 32 ∷ 87 ∷ 97 ∷ 114 ∷ 109 ∷ 40 ∷ 88 ∷ 44 ∷ 88 ∷
    41 ∷ 123 ∷ 10 ∷ 97 ∷ 115 ∷ 115 ∷ 117 ∷ 109 ∷ 101 ∷ 33 ∷ 72 ∷ 111 ∷ 116 ∷ 40 ∷ 88 ∷ 41 ∷ 59 ∷ 10 ∷ 125 ∷ 10 ∷ []
unfolding two_tests house_layout spaced sentence line_tokens entry_tokens statement_tokens name_text fixed within_calls
tests_printed = refl

-- ---- "an empty else dropped"

empty_else_dropped : short_else (present empty) ≡ absent
empty_else_dropped = refl

-- `skip;` is a statement
skip_else_stays : short_else (present (skip then empty)) ≡ present (skip then empty)
skip_else_stays = refl

-- an `if` in an else: it loses its own empty else, and the else that holds it stays
inner_else_dropped : short_else (present (if (equal 0 0) empty (present empty) then empty)) ≡ present (if (equal 0 0) empty absent then empty)
inner_else_dropped = refl

-- ---- words, blanks and lines

-- those of a list that pass a test
abbrev passing : (ℕ → Bool) → List ℕ → List ℕ
passing f [] = []
passing f (w ∷ ws) = pick (f w) (λ _. w ∷ passing f ws) λ _. passing f ws

-- "`1` and `2` count as words": the words among the tokens that are no names are the keywords and these, and no sign
words_only : passing is_word fixed_tokens ≡
    word.vars_key ∷ word.funs_key ∷ word.tests_key ∷ word.skip_key ∷ word.assume_key ∷ word.assert_key ∷ word.if_key ∷ word.else_key ∷ word.while_key
    ∷ word.result_key ∷ word.truth_key ∷ word.one_key ∷ word.two_key ∷ []
words_only = refl

-- "an LF after each `;`, `{` and `}`", and after no other
line_ends_only : passing ends_line fixed_tokens ≡ word.semicolon_key ∷ word.lbrace_key ∷ word.rbrace_key ∷ []
line_ends_only = refl

-- the names `x`, `Zz_9` and `IF1`
abbrev some_names : List ℕ
some_names = spelling (120 ∷ []) ∷ spelling (90 ∷ 122 ∷ 95 ∷ 57 ∷ []) ∷ spelling (73 ∷ 70 ∷ 49 ∷ []) ∷ []

-- all are words, and none ends a line
names_words : passing is_word some_names ≡ some_names
names_words = refl

names_no_line_ends : passing ends_line some_names ≡ []
names_no_line_ends = refl

-- `if` and `x`: one blank
two_words : spaced false (word.if_key ∷ spelling (120 ∷ []) ∷ []) ≡ 105 ∷ 102 ∷ 32 ∷ 120 ∷ []
unfolding spaced name_text fixed within_calls
two_words = refl

-- `x`, `=` and `y`: none
word_and_sign : spaced false (spelling (120 ∷ []) ∷ word.equal_key ∷ spelling (121 ∷ []) ∷ []) ≡ 120 ∷ 61 ∷ 121 ∷ []
unfolding spaced name_text fixed within_calls
word_and_sign = refl

-- `)` and `;`: an LF behind the second, and no blank
two_signs : spaced false (word.rparen_key ∷ word.semicolon_key ∷ []) ≡ 41 ∷ 59 ∷ 10 ∷ []
unfolding spaced name_text fixed within_calls
two_signs = refl

-- `x` behind a word
blank_behind_word : spaced true (spelling (120 ∷ []) ∷ []) ≡ 32 ∷ 120 ∷ []
unfolding spaced name_text fixed within_calls
blank_behind_word = refl
