-- Texts, and what reading them gives: one that is read, so that the definitions hold of something, and some that are refused.
use mathlib.Core.Path.{◌≡◌, refl}
use Prim.Native.Nat.{ℕ, zero, suc}
use mathlib.Core.List.{List, [], ◌∷◌}
use Rattle.macros.specs.Points.{size_statement, size_block}
use Rattle.tokens.specs.Bytes.{gap, name_length, width}
use Rattle.tokens.specs.Tokens.{token_at, spellings}
use Rattle.grammar.specs.Tree.{equal, unequal, holds, fails, apply, assign, assume, assert, while, Block, empty, ◌then◌}
use Rattle.grammar.specs.Expanded.{expanded_block}
use Rattle.grammar.specs.Grammar.{Macro}
use Rattle.grammar.specs.Reading.{got, Got, index_of, comparison, arguments_t, applied, named_test, condition, ended_condition, right_hand_side, assignment, block}
use Rattle.grammar.specs.Reading.{register_names, arity_of, entries}
use Rattle.grammar.proofs.Theory.Reading.{read_text, read_macro}
use Rattle.grammar.specs.Spelled.{Spelled, InOrder}
use Rattle.grammar.proofs.Theory.Whole.{read_sound}

-- `vars x y; funs n/1; while x != y { x := n(x); } assert x = y;`
unfoldable pub loop : List ℕ
loop = 118 ∷ 97 ∷ 114 ∷ 115 ∷ 32 ∷ 120 ∷ 32 ∷ 121 ∷ 59 ∷ 32 ∷ 102 ∷ 117 ∷ 110 ∷ 115 ∷ 32 ∷ 110 ∷ 47 ∷ 49 ∷ 59 ∷ 32 ∷ 119 ∷ 104 ∷ 105 ∷ 108 ∷ 101 ∷ 32 ∷ 120 ∷
    32 ∷ 33 ∷ 61 ∷ 32 ∷ 121 ∷ 32 ∷ 123 ∷ 32 ∷ 120 ∷ 32 ∷ 58 ∷ 61 ∷ 32 ∷ 110 ∷ 40 ∷ 120 ∷ 41 ∷ 59 ∷ 32 ∷ 125 ∷ 32 ∷ 97 ∷ 115 ∷ 115 ∷ 101 ∷ 114 ∷ 116 ∷ 32 ∷ 120 ∷
    32 ∷ 61 ∷ 32 ∷ 121 ∷ 59 ∷ []

-- its macro: registers x and y, the function n of one argument
unfoldable pub searched : Macro
searched = record {
  registers = 120 ∷ 121 ∷ [];
  register_spellings = 120 ∷ 121 ∷ [];
  functions = 110 ∷ [];
  function_spellings = 110 ∷ [];
  arities = 1 ∷ [];
  first_test = 1;
  body =
      while (unequal 0 1) (assign (apply 0 0 0 0) then empty) then assert (equal 0 1) then empty;
}

pub loop_read : read_macro loop ≡ got searched 61
unfolding loop searched read_macro read_text token_at gap width name_length spellings register_names index_of entries arity_of block condition comparison applied
    ended_condition assignment right_hand_side arguments_t expanded_block size_statement
loop_read = refl

-- so this text spells that macro, and it is in order
pub loop_spelled : Spelled loop searched
loop_spelled = (read_sound loop searched _ loop_read).1

pub loop_in_order : InOrder searched
loop_in_order = (read_sound loop searched _ loop_read).2

-- `vars a b a;`
pub twice_refused : read_macro (118 ∷ 97 ∷ 114 ∷ 115 ∷ 32 ∷ 97 ∷ 32 ∷ 98 ∷ 32 ∷ 97 ∷ 59 ∷ []) ≡ Got.refused 10 9
unfolding read_macro read_text token_at gap width name_length register_names index_of entries arity_of block condition named_test comparison applied ended_condition
    assignment right_hand_side arguments_t
twice_refused = refl

-- `vars a; a := b;`
pub undeclared_refused : read_macro (118 ∷ 97 ∷ 114 ∷ 115 ∷ 32 ∷ 97 ∷ 59 ∷ 32 ∷ 97 ∷ 32 ∷ 58 ∷ 61 ∷ 32 ∷ 98 ∷ 59 ∷ []) ≡ Got.refused 11 13
unfolding read_macro read_text token_at gap width name_length register_names index_of entries arity_of block condition named_test comparison applied ended_condition
    assignment right_hand_side arguments_t
undeclared_refused = refl

-- `vars a; a == a;`
pub unfit_refused : read_macro (118 ∷ 97 ∷ 114 ∷ 115 ∷ 32 ∷ 97 ∷ 59 ∷ 32 ∷ 97 ∷ 32 ∷ 61 ∷ 61 ∷ 32 ∷ 97 ∷ 59 ∷ []) ≡ Got.refused 9 10
unfolding read_macro read_text token_at gap width name_length register_names index_of entries arity_of block condition named_test comparison applied ended_condition
    assignment right_hand_side arguments_t
unfit_refused = refl

-- `vars a; a : = a;`
pub wrong_refused : read_macro (118 ∷ 97 ∷ 114 ∷ 115 ∷ 32 ∷ 97 ∷ 59 ∷ 32 ∷ 97 ∷ 32 ∷ 58 ∷ 32 ∷ 61 ∷ 32 ∷ 97 ∷ 59 ∷ []) ≡ Got.refused 8 10
unfolding read_macro read_text token_at gap width name_length register_names index_of entries arity_of block condition named_test comparison applied ended_condition
    assignment right_hand_side arguments_t
wrong_refused = refl

-- `vars a; a :=`
pub short_refused : read_macro (118 ∷ 97 ∷ 114 ∷ 115 ∷ 32 ∷ 97 ∷ 59 ∷ 32 ∷ 97 ∷ 32 ∷ 58 ∷ 61 ∷ []) ≡ Got.refused 9 12
unfolding read_macro read_text token_at gap width name_length register_names index_of entries arity_of block condition named_test comparison applied ended_condition
    assignment right_hand_side arguments_t
short_refused = refl

-- ---- tests (document 02, request 4)

-- `vars x; tests hot/1; ` and a text
abbrev hot_then : List ℕ → List ℕ
hot_then text = 118 ∷ 97 ∷ 114 ∷ 115 ∷ 32 ∷ 120 ∷ 59 ∷ 32 ∷ 116 ∷ 101 ∷ 115 ∷ 116 ∷ 115 ∷ 32 ∷ 104 ∷ 111 ∷ 116 ∷ 47 ∷ 49 ∷ 59 ∷ 32 ∷ text

-- `vars result;`
pub word_for_a_register_refused : read_macro (118 ∷ 97 ∷ 114 ∷ 115 ∷ 32 ∷ 114 ∷ 101 ∷ 115 ∷ 117 ∷ 108 ∷ 116 ∷ 59 ∷ []) ≡ Got.refused 9 5
unfolding read_macro read_text token_at gap width name_length register_names index_of entries arity_of block condition named_test comparison applied ended_condition
    assignment right_hand_side arguments_t
word_for_a_register_refused = refl

-- `vars x Truth;`
pub truth_for_a_register_refused : read_macro (118 ∷ 97 ∷ 114 ∷ 115 ∷ 32 ∷ 120 ∷ 32 ∷ 84 ∷ 114 ∷ 117 ∷ 116 ∷ 104 ∷ 59 ∷ []) ≡ Got.refused 9 7
unfolding read_macro read_text token_at gap width name_length register_names index_of entries arity_of block condition named_test comparison applied ended_condition
    assignment right_hand_side arguments_t
truth_for_a_register_refused = refl

-- `vars x; tests hot/1; funs f/1;`
pub tests_before_functions_refused : read_macro (hot_then (102 ∷ 117 ∷ 110 ∷ 115 ∷ 32 ∷ 102 ∷ 47 ∷ 49 ∷ 59 ∷ [])) ≡ Got.refused 9 21
unfolding read_macro read_text token_at gap width name_length register_names index_of entries arity_of block condition named_test comparison applied ended_condition
    assignment right_hand_side arguments_t
tests_before_functions_refused = refl

-- `vars x; tests hot/1; tests warm/1;`
pub tests_twice_refused : read_macro (hot_then (116 ∷ 101 ∷ 115 ∷ 116 ∷ 115 ∷ 32 ∷ 119 ∷ 97 ∷ 114 ∷ 109 ∷ 47 ∷ 49 ∷ 59 ∷ [])) ≡ Got.refused 9 21
unfolding read_macro read_text token_at gap width name_length register_names index_of entries arity_of block condition named_test comparison applied ended_condition
    assignment right_hand_side arguments_t
tests_twice_refused = refl

-- 16 is asked at the word, before what is behind it
-- `vars a b c d e f g; tests ;`
pub no_room_refused : read_macro (118 ∷ 97 ∷ 114 ∷ 115 ∷ 32 ∷ 97 ∷ 32 ∷ 98 ∷ 32 ∷ 99 ∷ 32 ∷ 100 ∷ 32 ∷ 101 ∷ 32 ∷ 102 ∷ 32 ∷ 103 ∷ 59 ∷ 32 ∷ 116 ∷ 101 ∷ 115 ∷
    116 ∷ 115 ∷ 32 ∷ 59 ∷ []) ≡ Got.refused 16 20
unfolding read_macro read_text token_at gap width name_length register_names index_of entries arity_of block condition named_test comparison applied ended_condition
    assignment right_hand_side arguments_t
no_room_refused = refl

-- and not where the word does not fit
-- `vars a b c d e f g; skip; tests hot/1;`
pub tests_behind_a_statement_refused : read_macro (118 ∷ 97 ∷ 114 ∷ 115 ∷ 32 ∷ 97 ∷ 32 ∷ 98 ∷ 32 ∷ 99 ∷ 32 ∷ 100 ∷ 32 ∷ 101 ∷ 32 ∷ 102 ∷ 32 ∷ 103 ∷ 59 ∷ 32 ∷
    115 ∷ 107 ∷ 105 ∷ 112 ∷ 59 ∷ 32 ∷ 116 ∷ 101 ∷ 115 ∷ 116 ∷ 115 ∷ 32 ∷ 104 ∷ 111 ∷ 116 ∷ 47 ∷ 49 ∷ 59 ∷ []) ≡ Got.refused 9 26
unfolding read_macro read_text token_at gap width name_length register_names index_of entries arity_of block condition named_test comparison applied ended_condition
    assignment right_hand_side arguments_t
tests_behind_a_statement_refused = refl

-- `vars x; funs a/1 b/1 c/1; tests hot/1 warm/2;`
pub five_functions_refused : read_macro (118 ∷ 97 ∷ 114 ∷ 115 ∷ 32 ∷ 120 ∷ 59 ∷ 32 ∷ 102 ∷ 117 ∷ 110 ∷ 115 ∷ 32 ∷ 97 ∷ 47 ∷ 49 ∷ 32 ∷ 98 ∷ 47 ∷ 49 ∷ 32 ∷ 99 ∷
    47 ∷ 49 ∷ 59 ∷ 32 ∷ 116 ∷ 101 ∷ 115 ∷ 116 ∷ 115 ∷ 32 ∷ 104 ∷ 111 ∷ 116 ∷ 47 ∷ 49 ∷ 32 ∷ 119 ∷ 97 ∷ 114 ∷ 109 ∷ 47 ∷ 50 ∷ 59 ∷ []) ≡ Got.refused 10 38
unfolding read_macro read_text token_at gap width name_length register_names index_of entries arity_of block condition named_test comparison applied ended_condition
    assignment right_hand_side arguments_t
five_functions_refused = refl

-- `vars x; tests X/1;`
pub test_as_a_register_refused : read_macro (118 ∷ 97 ∷ 114 ∷ 115 ∷ 32 ∷ 120 ∷ 59 ∷ 32 ∷ 116 ∷ 101 ∷ 115 ∷ 116 ∷ 115 ∷ 32 ∷ 88 ∷ 47 ∷ 49 ∷ 59 ∷
    []) ≡ Got.refused 10 14
unfolding read_macro read_text token_at gap width name_length register_names index_of entries arity_of block condition named_test comparison applied ended_condition
    assignment right_hand_side arguments_t
test_as_a_register_refused = refl

-- `vars x; if x(x) {}`
pub no_test_declared_refused : read_macro (118 ∷ 97 ∷ 114 ∷ 115 ∷ 32 ∷ 120 ∷ 59 ∷ 32 ∷ 105 ∷ 102 ∷ 32 ∷ 120 ∷ 40 ∷ 120 ∷ 41 ∷ 32 ∷ 123 ∷ 125 ∷
    []) ≡ Got.refused 11 11
unfolding read_macro read_text token_at gap width name_length register_names index_of entries arity_of block condition named_test comparison applied ended_condition
    assignment right_hand_side arguments_t
no_test_declared_refused = refl

-- `vars x; assume x ! = x;`
pub sign_apart_refused : read_macro (118 ∷ 97 ∷ 114 ∷ 115 ∷ 32 ∷ 120 ∷ 59 ∷ 32 ∷ 97 ∷ 115 ∷ 115 ∷ 117 ∷ 109 ∷ 101 ∷ 32 ∷ 120 ∷ 32 ∷ 33 ∷ 32 ∷ 61 ∷ 32 ∷ 120 ∷
    59 ∷ []) ≡ Got.refused 9 17
unfolding read_macro read_text token_at gap width name_length register_names index_of entries arity_of block condition named_test comparison applied ended_condition
    assignment right_hand_side arguments_t
sign_apart_refused = refl

-- `vars x; tests hot/1; if !x = x {}`
pub register_behind_negation_refused : read_macro (hot_then (105 ∷ 102 ∷ 32 ∷ 33 ∷ 120 ∷ 32 ∷ 61 ∷ 32 ∷ 120 ∷ 32 ∷ 123 ∷ 125 ∷ [])) ≡ Got.refused 11 25
unfolding read_macro read_text token_at gap width name_length register_names index_of entries arity_of block condition named_test comparison applied ended_condition
    assignment right_hand_side arguments_t
register_behind_negation_refused = refl

-- `vars x; tests hot/1; if !hot = x {}`
pub test_without_arguments_refused : read_macro (hot_then (105 ∷ 102 ∷ 32 ∷ 33 ∷ 104 ∷ 111 ∷ 116 ∷ 32 ∷ 61 ∷ 32 ∷ 120 ∷ 32 ∷ 123 ∷ 125 ∷
    [])) ≡ Got.refused 9 29
unfolding read_macro read_text token_at gap width name_length register_names index_of entries arity_of block condition named_test comparison applied ended_condition
    assignment right_hand_side arguments_t
test_without_arguments_refused = refl

-- `vars x; tests hot/1; if hot = x {}`
pub test_compared_refused : read_macro (hot_then (105 ∷ 102 ∷ 32 ∷ 104 ∷ 111 ∷ 116 ∷ 32 ∷ 61 ∷ 32 ∷ 120 ∷ 32 ∷ 123 ∷ 125 ∷ [])) ≡ Got.refused 11 24
unfolding read_macro read_text token_at gap width name_length register_names index_of entries arity_of block condition named_test comparison applied ended_condition
    assignment right_hand_side arguments_t
test_compared_refused = refl

-- `vars x; tests hot/1; if x = hot(x) {}`
pub test_on_the_right_refused : read_macro (hot_then (105 ∷ 102 ∷ 32 ∷ 120 ∷ 32 ∷ 61 ∷ 32 ∷ 104 ∷ 111 ∷ 116 ∷ 40 ∷ 120 ∷ 41 ∷ 32 ∷ 123 ∷ 125 ∷
    [])) ≡ Got.refused 11 28
unfolding read_macro read_text token_at gap width name_length register_names index_of entries arity_of block condition named_test comparison applied ended_condition
    assignment right_hand_side arguments_t
test_on_the_right_refused = refl

-- `vars x; tests hot/1; if hot(x) = x {}`
pub test_and_comparison_refused : read_macro (hot_then (105 ∷ 102 ∷ 32 ∷ 104 ∷ 111 ∷ 116 ∷ 40 ∷ 120 ∷ 41 ∷ 32 ∷ 61 ∷ 32 ∷ 120 ∷ 32 ∷ 123 ∷ 125 ∷
    [])) ≡ Got.refused 9 31
unfolding read_macro read_text token_at gap width name_length register_names index_of entries arity_of block condition named_test comparison applied ended_condition
    assignment right_hand_side arguments_t
test_and_comparison_refused = refl

-- `vars x; tests hot/1; if hot(x,x) {}`
pub test_of_two_refused : read_macro (hot_then (105 ∷ 102 ∷ 32 ∷ 104 ∷ 111 ∷ 116 ∷ 40 ∷ 120 ∷ 44 ∷ 120 ∷ 41 ∷ 32 ∷ 123 ∷ 125 ∷ [])) ≡ Got.refused 11 29
unfolding read_macro read_text token_at gap width name_length register_names index_of entries arity_of block condition named_test comparison applied ended_condition
    assignment right_hand_side arguments_t
test_of_two_refused = refl

-- `vars x; tests warm/2; if warm(x) {}`
pub test_of_one_refused : read_macro (118 ∷ 97 ∷ 114 ∷ 115 ∷ 32 ∷ 120 ∷ 59 ∷ 32 ∷ 116 ∷ 101 ∷ 115 ∷ 116 ∷ 115 ∷ 32 ∷ 119 ∷ 97 ∷ 114 ∷ 109 ∷ 47 ∷ 50 ∷ 59 ∷ 32 ∷
    105 ∷ 102 ∷ 32 ∷ 119 ∷ 97 ∷ 114 ∷ 109 ∷ 40 ∷ 120 ∷ 41 ∷ 32 ∷ 123 ∷ 125 ∷ []) ≡ Got.refused 11 31
unfolding read_macro read_text token_at gap width name_length register_names index_of entries arity_of block condition named_test comparison applied ended_condition
    assignment right_hand_side arguments_t
test_of_one_refused = refl

-- `vars x; tests warm/2; if warm(x,x,x) {}`
pub third_argument_refused : read_macro (118 ∷ 97 ∷ 114 ∷ 115 ∷ 32 ∷ 120 ∷ 59 ∷ 32 ∷ 116 ∷ 101 ∷ 115 ∷ 116 ∷ 115 ∷ 32 ∷ 119 ∷ 97 ∷ 114 ∷ 109 ∷ 47 ∷ 50 ∷ 59 ∷
    32 ∷ 105 ∷ 102 ∷ 32 ∷ 119 ∷ 97 ∷ 114 ∷ 109 ∷ 40 ∷ 120 ∷ 44 ∷ 120 ∷ 44 ∷ 120 ∷ 41 ∷ 32 ∷ 123 ∷ 125 ∷ []) ≡ Got.refused 9 33
unfolding read_macro read_text token_at gap width name_length register_names index_of entries arity_of block condition named_test comparison applied ended_condition
    assignment right_hand_side arguments_t
third_argument_refused = refl

-- `vars x; tests hot/1; x := hot(x);`
pub test_as_a_value_refused : read_macro (hot_then (120 ∷ 32 ∷ 58 ∷ 61 ∷ 32 ∷ 104 ∷ 111 ∷ 116 ∷ 40 ∷ 120 ∷ 41 ∷ 59 ∷ [])) ≡ Got.refused 11 26
unfolding read_macro read_text token_at gap width name_length register_names index_of entries arity_of block condition named_test comparison applied ended_condition
    assignment right_hand_side arguments_t
test_as_a_value_refused = refl

-- `vars x; tests hot/1; x := hot;`
pub test_copied_refused : read_macro (hot_then (120 ∷ 32 ∷ 58 ∷ 61 ∷ 32 ∷ 104 ∷ 111 ∷ 116 ∷ 59 ∷ [])) ≡ Got.refused 11 26
unfolding read_macro read_text token_at gap width name_length register_names index_of entries arity_of block condition named_test comparison applied ended_condition
    assignment right_hand_side arguments_t
test_copied_refused = refl

-- `vars x; tests hot/1; hot(x);`
pub test_as_a_target_refused : read_macro (hot_then (104 ∷ 111 ∷ 116 ∷ 40 ∷ 120 ∷ 41 ∷ 59 ∷ [])) ≡ Got.refused 11 21
unfolding read_macro read_text token_at gap width name_length register_names index_of entries arity_of block condition named_test comparison applied ended_condition
    assignment right_hand_side arguments_t
test_as_a_target_refused = refl

-- `vars x; tests hot/1; assert hot(hot);`
pub test_as_an_argument_refused : read_macro (hot_then (97 ∷ 115 ∷ 115 ∷ 101 ∷ 114 ∷ 116 ∷ 32 ∷ 104 ∷ 111 ∷ 116 ∷ 40 ∷ 104 ∷ 111 ∷ 116 ∷ 41 ∷ 59 ∷
    [])) ≡ Got.refused 11 32
unfolding read_macro read_text token_at gap width name_length register_names index_of entries arity_of block condition named_test comparison applied ended_condition
    assignment right_hand_side arguments_t
test_as_an_argument_refused = refl

-- `vars x; tests hot/1; assert !Hot(x);`: the test is number 0, behind no function, and is spelled as it is declared
unfoldable pub negated : Macro
negated = record {
  registers = 120 ∷ [];
  register_spellings = 120 ∷ [];
  functions = 7630696 ∷ [];
  function_spellings = 7630696 ∷ [];
  arities = 1 ∷ [];
  first_test = 0;
  body = assert (fails 0 0 0) then empty;
}

pub negated_read : read_macro (hot_then (97 ∷ 115 ∷ 115 ∷ 101 ∷ 114 ∷ 116 ∷ 32 ∷ 33 ∷ 72 ∷ 111 ∷ 116 ∷ 40 ∷ 120 ∷ 41 ∷ 59 ∷ [])) ≡ got negated 36
unfolding negated read_macro read_text token_at gap width name_length spellings register_names index_of entries arity_of block condition named_test comparison applied
    ended_condition assignment right_hand_side arguments_t expanded_block size_statement
negated_read = refl

-- `vars a b c d e f; tests hot/1;`: with six registers there is room
unfoldable pub roomy : Macro
roomy = record {
  registers = 97 ∷ 98 ∷ 99 ∷ 100 ∷ 101 ∷ 102 ∷ [];
  register_spellings = 97 ∷ 98 ∷ 99 ∷ 100 ∷ 101 ∷ 102 ∷ [];
  functions = 7630696 ∷ [];
  function_spellings = 7630696 ∷ [];
  arities = 1 ∷ [];
  first_test = 0;
  body = empty;
}

pub roomy_read : read_macro (118 ∷ 97 ∷ 114 ∷ 115 ∷ 32 ∷ 97 ∷ 32 ∷ 98 ∷ 32 ∷ 99 ∷ 32 ∷ 100 ∷ 32 ∷ 101 ∷ 32 ∷ 102 ∷ 59 ∷ 32 ∷ 116 ∷ 101 ∷ 115 ∷ 116 ∷ 115 ∷ 32 ∷
    104 ∷ 111 ∷ 116 ∷ 47 ∷ 49 ∷ 59 ∷ []) ≡ got roomy 30
unfolding roomy read_macro read_text token_at gap width name_length spellings register_names index_of entries arity_of block expanded_block size_statement
roomy_read = refl

-- `assume hot(x);` n times: each is two points, so with 129 there are more than 256; a while is two as well
abbrev assumed : ℕ → Block
assumed zero = empty
assumed (suc n) = assume (holds 0 0 0) then assumed n

pub two_points : size_block (expanded_block 1 (assumed 129)) ≡ 258
unfolding expanded_block size_statement
two_points = refl

pub while_points : size_block (expanded_block 1 (while (holds 0 0 0) empty then empty)) ≡ 2
unfolding expanded_block size_statement
while_points = refl
