-- Request 1, capitals in names, sentence by sentence.
use mathlib.Core.Path.{◌≡◌, refl, sym, ap, ◌∙◌}
use mathlib.Core.Logic.{◌↔◌}
use mathlib.Core.Bool.{true, false}
use mathlib.Core.List.{List, [], ◌∷◌}
use Prim.Native.Nat.{ℕ, ◌<◌}
use native.Mathlib.Omega.{arith}
use lib.ListN.{length, get_or}
use Rattle.base.specs.Bytes.{little_endian}
use Rattle.letters.specs.MacroRefusalNumbers.{token_malformed, grammar_violated, declaration_wrong}
use Rattle.macros.specs.Points.{size_statement}
use Rattle.tokens.specs.Bytes.{lowered, lower_case, letter, gap, name_length, width, key, spelling}
use Rattle.tokens.specs.Words.{keyword, is_name, same_name}
use Rattle.tokens.specs.Words as word
use Rattle.tokens.specs.Tokens.{token, token_at, bytes_at, place_of}
use Rattle.tokens.proofs.Theory.Keys.{same_token}
use Rattle.grammar.specs.Grammar.{Macro}
use Rattle.grammar.specs.Spelled.{function_token}
use Rattle.grammar.specs.Reading.{index_of, condition, ended_condition, arguments_t, right_hand_side, assignment, block, register_names, arity_of, entries}
use Rattle.grammar.proofs.Theory.Reading.{read_text, read_macro}
use Rattle.refusals.specs.Order.{Refusal}
use Rattle.refusals.specs.Accepted.{Accepted}
use Rattle.refusals.proofs.Theory.Order.{refused_refusal}
use Rattle.semantics.specs.Models.{Feasible}
use Rattle.verdict_theory.specs.Verdict.{VerdictAnswer}
use Rattle.verdict_theory.specs.Demand3.{Demand3}
use Rattle.verdict_lines.specs.Prints.{register_token, declared_names, Says}
use Rattle.verdict_lines.proofs.Theory.Declared.{registers_differ, functions_differ, sorts_differ}
use Rattle.theorems.specs.LowerCase.{EqualNames, in_lower_case, DeclaredBy, WithoutCapitals}
use Rattle.theorems.specs.Original.{original_name_length, original_width, original_token_at, OriginalRefusal, OriginalAccepted}
use Rattle.theorems.proofs.Steps.LowerCaseTokens.{other_alone}
use Rattle.theorems.proofs.Steps.LowerCase.{accepted_lower, accepted_lifted, refusal_lower, refusal_lifted}
use Rattle.theorems.proofs.Steps.DeclaredBytes.{register_by, function_by}
use Rattle.theorems.proofs.Steps.LowerCaseLines.{verdict_lower, verdict_lifted, said_lower}
use Rattle.theorems.proofs.Steps.WithoutCapitals.{no_capitals, original_token, refused_before, refused_still, accepted_before, accepted_still}
use Rattle.theorems.proofs.Steps.DeclaresBoth.{refused_by_8_before}

-- "Names and words are equal whatever the case of their letters,"
-- `EqualNames a b` says it of the bytes of two names or words: in lower case they are the same. That is an equivalence.
pub name_equals_itself : (a : List ℕ) → EqualNames a a
name_equals_itself a = refl

pub equal_names_either_way : (a b : List ℕ) → EqualNames a b → EqualNames b a
equal_names_either_way a b = sym

pub equal_names_in_turn : (a b c : List ℕ) → EqualNames a b → EqualNames b c → EqualNames a c
equal_names_in_turn a b c e f = e ∙ f

-- Letters alone have a case: any other byte is equal to itself alone.
pub only_letters_have_a_case : (b c : ℕ) → letter b ≡ false → lowered b ≡ lowered c → b ≡ c
only_letters_have_a_case = other_alone

-- The reader compares the numbers of tokens, and so decides it, for tokens of one text or of two. (The end of a text, and what is no token, have the
-- numbers up to `wrong`.)
pub numbers_decide_equal_names : (s r : List ℕ) (at there : ℕ) → word.wrong < (token_at s at).key → word.wrong < (token_at r there).key
    → (same_name (token_at s at).key (token_at r there).key ≡ true) ↔ EqualNames (bytes_at s at) (bytes_at r there)
numbers_decide_equal_names = same_token

-- `cap` and `CAP` are equal, `x[` and `x{` are not.
pub cap_is-CAP : EqualNames (99 ∷ 97 ∷ 112 ∷ []) (67 ∷ 65 ∷ 80 ∷ [])
cap_is-CAP = refl

pub brackets_are_not_braces : EqualNames (120 ∷ 91 ∷ []) (120 ∷ 123 ∷ []) → ⊥
brackets_are_not_braces e = let z : ◌≡◌ {A = ℕ} 91 123 = cc in omega arith

-- "so a macro that declares both is refused by 10 where it used to be refused by 8." The macro is `vars cap CAP;`.
unfoldable pub declares_both : List ℕ
declares_both = 118 ∷ 97 ∷ 114 ∷ 115 ∷ 32 ∷ 99 ∷ 97 ∷ 112 ∷ 32 ∷ 67 ∷ 65 ∷ 80 ∷ 59 ∷ []

pub both_refused_by_10 : Refusal declares_both declaration_wrong 9
unfolding declares_both read_macro read_text token_at gap width name_length register_names index_of entries arity_of block condition ended_condition assignment
    right_hand_side arguments_t size_statement
both_refused_by_10 = refused_refusal declares_both declaration_wrong 9 refl

-- By document 01 alone it is refused by 8, at the same byte.
pub both_refused_by_8_before : OriginalRefusal declares_both token_malformed 9
unfolding declares_both
both_refused_by_8_before = refused_by_8_before

-- A macro that declares a name as a register and as a function is refused by 10 too: `vars x; funs X/1;`.
unfoldable pub declares_twice : List ℕ
declares_twice = 118 ∷ 97 ∷ 114 ∷ 115 ∷ 32 ∷ 120 ∷ 59 ∷ 32 ∷ 102 ∷ 117 ∷ 110 ∷ 115 ∷ 32 ∷ 88 ∷ 47 ∷ 49 ∷ 59 ∷ []

pub register_and_function_refused_by_10 : Refusal declares_twice declaration_wrong 13
unfolding declares_twice read_macro read_text token_at gap width name_length register_names index_of entries arity_of block condition ended_condition assignment
    right_hand_side arguments_t size_statement
register_and_function_refused_by_10 = refused_refusal declares_twice declaration_wrong 13 refl

-- "Lines print a name as it was declared." `Says` has the lines with `declared_names`: each name as the bytes of the token that declares it,
-- which in lower case are what the name is known by, whatever its uses look like.
pub register_is_printed_as_declared : (text : List ℕ) (m : Macro) → Accepted text m → (r : ℕ) → r < length m.registers
    → DeclaredBy text (register_token r) (get_or m.registers r 0) (get_or m.register_spellings r 0) ((declared_names text m).register r)
register_is_printed_as_declared = register_by

pub function_is_printed_as_declared : (text : List ℕ) (m : Macro) → Accepted text m → (f : ℕ) → f < length m.functions
    → DeclaredBy text (function_token (length m.registers) m.first_test f) (get_or m.functions f 0) (get_or m.function_spellings f 0)
    ((declared_names text m).function f)
function_is_printed_as_declared = function_by

-- Two registers are never printed alike, in whatever case, nor are two functions, nor a register and a function.
pub no_two_registers_are_printed_alike : (text : List ℕ) (m : Macro) → Accepted text m → (i j : ℕ) → i < length m.registers → j < length m.registers
    → EqualNames ((declared_names text m).register i) ((declared_names text m).register j) → i ≡ j
no_two_registers_are_printed_alike = registers_differ

pub no_two_functions_are_printed_alike : (text : List ℕ) (m : Macro) → Accepted text m → (i j : ℕ) → i < length m.functions → j < length m.functions
    → EqualNames ((declared_names text m).function i) ((declared_names text m).function j) → i ≡ j
no_two_functions_are_printed_alike = functions_differ

pub no_register_is_printed_as_a_function : (text : List ℕ) (m : Macro) → Accepted text m → (i j : ℕ) → i < length m.registers → j < length m.functions
    → EqualNames ((declared_names text m).register i) ((declared_names text m).function j) → ⊥
no_register_is_printed_as_a_function = sorts_differ

-- `vars Xx;xX:=XX;` prints its register as `Xx`.
unfoldable pub used_otherwise : List ℕ
used_otherwise = 118 ∷ 97 ∷ 114 ∷ 115 ∷ 32 ∷ 88 ∷ 120 ∷ 59 ∷ 120 ∷ 88 ∷ 58 ∷ 61 ∷ 88 ∷ 88 ∷ 59 ∷ []

pub printed_as-Xx : bytes_at used_otherwise (place_of used_otherwise (register_token 0)) ≡ 88 ∷ 120 ∷ []
unfolding used_otherwise token_at width name_length gap
printed_as-Xx = refl

pub not_printed_as_used : (known spelled : ℕ) → DeclaredBy used_otherwise (register_token 0) known spelled (120 ∷ 88 ∷ []) → ⊥
not_printed_as_used known spelled D =
    let used : ◌≡◌ {A = List ℕ} (120 ∷ 88 ∷ []) (88 ∷ 120 ∷ []) = D.printed_is ∙ printed_as-Xx in
    let z : ◌≡◌ {A = ℕ} 120 88 = cc in omega arith

-- "Everything that looks up a name reads the new rule,"
-- A text is refused as the same text in lower case is, by the same number and at the same place;
pub refused_in_lower_case : (s : List ℕ) (n p : ℕ) → Refusal s n p ↔ Refusal (lower_case s) n p
refused_in_lower_case s n p = (refusal_lower s, refusal_lifted s)

-- or it is read as the same macro, but for the spellings of its names.
pub read_in_lower_case : (s : List ℕ) (m : Macro) → Accepted s m → Accepted (lower_case s) (in_lower_case m)
read_in_lower_case s m = accepted_lower s

pub read_from_lower_case : (s : List ℕ) (k : Macro) → Accepted (lower_case s) k → (m : Macro) × Accepted s m × (k ≡ in_lower_case m)
read_from_lower_case s k = accepted_lifted s

-- So the verdict on it is the same, with the same bytes in the lent table and output,
pub verdict_in_lower_case : (text table output : List ℕ) (answer : VerdictAnswer) (table' output' : List ℕ)
    → Demand3 Feasible text table output answer table' output' ↔ Demand3 Feasible (lower_case text) table output answer table' output'
verdict_in_lower_case text table output answer table' output' =
    (verdict_lower text table output answer table' output', verdict_lifted text table output answer table' output')

-- and the lines that are printed of it are those of the text, in lower case.
pub lines_in_lower_case : (text a b : List ℕ) → Says text a → Says (lower_case text) b → b ≡ lower_case a
lines_in_lower_case = said_lower

-- "the keyword test included." Bytes that are equal as names are both words, or neither is; and both are names, or neither is.
pub words_in_any_case : (a b : List ℕ) → EqualNames a b → (keyword (key a) ≡ keyword (key b)) × (is_name (key a) ≡ is_name (key b))
words_in_any_case a b e = (ap (λ s. keyword (little_endian s)) e, ap (λ s. is_name (little_endian s)) e)

-- `vars IF;`
pub IF-is-a-word : Refusal (118 ∷ 97 ∷ 114 ∷ 115 ∷ 32 ∷ 73 ∷ 70 ∷ 59 ∷ []) grammar_violated 5
unfolding read_macro read_text token_at gap width name_length register_names index_of entries arity_of block condition ended_condition assignment right_hand_side
    arguments_t size_statement
IF-is-a-word = refused_refusal _ grammar_violated 5 refl

-- A text without capitals, as `vars x;` is and `vars cap CAP;` is not,
pub small_letters : WithoutCapitals (118 ∷ 97 ∷ 114 ∷ 115 ∷ 32 ∷ 120 ∷ 59 ∷ [])
small_letters = no_capitals (118 ∷ 97 ∷ 114 ∷ 115 ∷ 32 ∷ 120 ∷ 59 ∷ []) refl

pub capitals_too : WithoutCapitals declares_both → ⊥
unfolding declares_both
capitals_too h = let e : true ≡ false = h 9 (omega arith) in let z : ◌≡◌ {A = ℕ} 0 1 = cc in omega arith

-- is read as before. It has the tokens that document 01 alone gives it,
pub tokens_without_capitals : (s : List ℕ) → WithoutCapitals s → (at : ℕ) → token_at s at ≡ original_token_at s at
tokens_without_capitals = original_token

-- is refused by the same number at the same place,
pub refused_without_capitals : (s : List ℕ) → WithoutCapitals s → (n p : ℕ) → Refusal s n p ↔ OriginalRefusal s n p
refused_without_capitals s h n p = (refused_before s h, refused_still s h)

-- or accepted as the same macro, whose names are spelled as they are known.
pub read_without_capitals : (s : List ℕ) → WithoutCapitals s → (m : Macro) → Accepted s m ↔ (OriginalAccepted s m × (m ≡ in_lower_case m))
read_without_capitals s h m = (accepted_before s h, λ x. accepted_still s h x.0 x.1)

-- With a capital it may not be so: `vars abC;` had a token `ab` where it has `abC` now, which is known as `abc`.
unfoldable pub capital_inside : List ℕ
capital_inside = 118 ∷ 97 ∷ 114 ∷ 115 ∷ 32 ∷ 97 ∷ 98 ∷ 67 ∷ 59 ∷ []

pub token_before : original_token_at capital_inside 4 ≡ token (little_endian (97 ∷ 98 ∷ [])) (little_endian (97 ∷ 98 ∷ [])) 5 7
unfolding capital_inside original_token_at original_width original_name_length gap
token_before = refl

pub token_now : token_at capital_inside 4 ≡ token (little_endian (97 ∷ 98 ∷ 99 ∷ [])) (spelling (97 ∷ 98 ∷ 67 ∷ [])) 5 8
unfolding capital_inside token_at width name_length gap
token_now = refl
