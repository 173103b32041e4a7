-- Tokens with a no and tokens without, for each question. The names are a, b, f, g and t: 97, 98, 102, 103 and 116.
use mathlib.Core.Path.{◌≡◌, refl, ap, ◌∙◌}
use mathlib.Core.Logic.{inl, inr}
use Prim.Native.Nat.{ℕ, zero, suc}
use native.Mathlib.Omega.{arith}
use mathlib.Core.Bool.{true, false}
use mathlib.Core.List.{List, [], ◌∷◌, ◌++◌}
use lib.ListN.{get_or, length}
use Rattle.tokens.specs.Words.{is_name}
use Rattle.tokens.specs.Words as word
use Rattle.tokens.specs.Bytes.{gap, name_length, width}
use Rattle.tokens.specs.Tokens.{token_at, spellings}
use Rattle.grammar.specs.Grammar.{entry_tokens, line_tokens}
use Rattle.grammar.specs.Reading.{got, Got, index_of, comparison, arguments_t, applied, condition, ended_condition, right_hand_side, assignment, block}
use Rattle.grammar.specs.Reading.{register_names, arity_of, entries}
use Rattle.grammar.proofs.Theory.Reading.{read_text}
use Rattle.grammar.specs.Spelled.{Spells, Arities}
use Rattle.refusals.proofs.Theory.Basics.{clash}
use Rattle.refusals.specs.Sentences.{Sentence, Viable}
use Rattle.refusals.specs.Sentences as alone
use Rattle.refusals.proofs.Theory.Rests.{Rest, took, stuck, viable_run, sentence_run, run_viable}
use Rattle.refusals.proofs.Theory.Rests as rest
use Rattle.refusals.specs.Questions.{AllNames, InRegisters, InFunctions, InTests, InStatements, Among, Behind, ConditionDue, TestDue, Unfit}
use Rattle.refusals.specs.Questions.{Redeclared, Misused, TooDeep, NoRoom}
use Rattle.refusals.specs.FirstNo.{FirstNo}
use Rattle.refusals.proofs.Theory.FirstNo.{AllYes}
use Rattle.refusals.proofs.Theory.Lines.{names_more, fresh_register, fresh_function, fresh_test}
use Rattle.refusals.proofs.Theory.Phrases.{register_right, function_right, test_right}
use Rattle.refusals.proofs.Theory.Parts.{behind_same, registers_tests, statements_same, room_same}
use Rattle.refusals.proofs.Theory.Order.{refused_first, read_all_yes}
use Rattle.refusals.proofs.Theory.Examples.{loop, searched}

-- ---- 9: sentences, and what begins one

-- `vars a;` is a sentence, and `vars a` begins one
short : Sentence (word.vars_key ∷ 97 ∷ word.semicolon_key ∷ [])
short = record { macro = record { first = record { key = 97; real = refl }; others = []; functions = []; tests = []; body = alone.empty }; spelled = refl }

begun : Viable (word.vars_key ∷ 97 ∷ [])
unfolding short
begun = record { macro = short.macro; further = word.semicolon_key ∷ []; spelled = refl }

-- but is none
not_whole : Sentence (word.vars_key ∷ 97 ∷ []) → ⊥
unfolding rest.run
not_whole S = clash (sentence_run (word.vars_key ∷ 97 ∷ []) (rest.names true) refl S) refl

not_took : {r : Rest} → stuck ≡ took r → ⊥
not_took h = let z : ◌≡◌ {A = ℕ} 0 1 = cc in omega arith

-- `vars ;` begins none: "at least one in each list"
none_listed : Viable (word.vars_key ∷ word.semicolon_key ∷ []) → ⊥
unfolding rest.run
none_listed v = let (r, h) = viable_run (word.vars_key ∷ word.semicolon_key ∷ []) v in not_took h

-- `vars a; b :=` begins one, though b is not declared: that is question 11
undeclared : Viable (word.vars_key ∷ 97 ∷ word.semicolon_key ∷ 98 ∷ word.becomes_key ∷ [])
unfolding rest.run
undeclared = run_viable (word.vars_key ∷ 97 ∷ word.semicolon_key ∷ 98 ∷ word.becomes_key ∷ []) (rest.name (rest.value (rest.outside false))) refl

-- so `vars a` ends early, and `;` does not fit behind `vars`
ends_early : Unfit (word.vars_key ∷ 97 ∷ []) 0
ends_early = Unfit.early refl not_whole

does_not_fit : Unfit (word.vars_key ∷ []) word.semicolon_key
does_not_fit = Unfit.misplaced (λ e. omega arith) none_listed

-- and a name does
does_fit : Unfit (word.vars_key ∷ []) 97 → ⊥
does_fit (Unfit.early e n) = omega arith
does_fit (Unfit.misplaced e n) = n begun

-- ---- 10

named : (k : ℕ) → is_name k ≡ true → AllNames (k ∷ [])
named k t = names_more [] k (λ i l. absurd (omega arith)) t

other : (k j : ℕ) → (j ≡ k → ⊥) → Among k (j ∷ []) → ⊥
other k j n (zero, l, e) = n e
other k j n (suc i, l, e) = omega arith

in_registers : InRegisters (word.vars_key ∷ 97 ∷ []) (97 ∷ [])
in_registers = record { registers = named 97 refl; split = refl }

-- behind `vars a`, a is declared again and b is not
again : Redeclared (word.vars_key ∷ 97 ∷ []) 97
again = Redeclared.register in_registers refl (inl (0, omega arith, refl))

fresh : Redeclared (word.vars_key ∷ 97 ∷ []) 98 → ⊥
fresh = fresh_register [] in_registers (other 98 97 λ e. omega arith) (omega arith)

-- behind `vars a; funs f/1`, f and a are declared again and g is not
in_functions : InFunctions (word.vars_key ∷ 97 ∷ word.semicolon_key ∷ word.funs_key ∷ 102 ∷ word.slash_key ∷ word.one_key ∷ []) (97 ∷ []) (102 ∷ []) (1 ∷ [])
unfolding entry_tokens
in_functions = record { registers = named 97 refl; functions = named 102 refl; arities = Arities.one Arities.none; split = refl }

function_again : Redeclared (word.vars_key ∷ 97 ∷ word.semicolon_key ∷ word.funs_key ∷ 102 ∷ word.slash_key ∷ word.one_key ∷ []) 102
function_again = Redeclared.function in_functions refl (inl (inr (0, omega arith, refl)))

as_register : Redeclared (word.vars_key ∷ 97 ∷ word.semicolon_key ∷ word.funs_key ∷ 102 ∷ word.slash_key ∷ word.one_key ∷ []) 97
as_register = Redeclared.function in_functions refl (inl (inl (0, omega arith, refl)))

fresh_name : Redeclared (word.vars_key ∷ 97 ∷ word.semicolon_key ∷ word.funs_key ∷ 102 ∷ word.slash_key ∷ word.one_key ∷ []) 103 → ⊥
fresh_name = fresh_function [] (97 ∷ []) in_functions (other 103 97 λ e. omega arith) (other 103 102 λ e. omega arith) (omega arith)

-- behind `vars a; funs f/1; tests t/1`, where t is the test: all three are declared again and g is not
abbrev testing : List ℕ
testing = word.vars_key ∷ 97 ∷ word.semicolon_key ∷ word.funs_key ∷ 102 ∷ word.slash_key ∷ word.one_key ∷ word.semicolon_key ∷ word.tests_key ∷ 116 ∷ word.slash_key ∷
    word.one_key ∷ []

in_tests : InTests testing (97 ∷ []) (102 ∷ 116 ∷ []) (1 ∷ 1 ∷ []) 1
unfolding line_tokens entry_tokens
in_tests = record {
  registers = named 97 refl;
  functions = names_more (102 ∷ []) 116 (named 102 refl) refl;
  arities = Arities.one (Arities.one Arities.none);
  within = omega arith;
  split = refl;
}

-- but not behind `vars a`
not_in_tests : (rs fs ns : List ℕ) (t : ℕ) → InTests (word.vars_key ∷ 97 ∷ []) rs fs ns t → ⊥
not_in_tests rs fs ns t I = registers_tests in_registers I

test_again : Redeclared testing 116
test_again = Redeclared.test in_tests refl (inl (inr (1, omega arith, refl)))

test_as_function : Redeclared testing 102
test_as_function = Redeclared.test in_tests refl (inl (inr (0, omega arith, refl)))

test_as_register : Redeclared testing 97
test_as_register = Redeclared.test in_tests refl (inl (inl (0, omega arith, refl)))

neither : (k i j : ℕ) → (i ≡ k → ⊥) → (j ≡ k → ⊥) → Among k (i ∷ j ∷ []) → ⊥
neither k i j n m (zero, l, e) = n e
neither k i j n m (suc zero, l, e) = m e
neither k i j n m (suc (suc h), l, e) = omega arith

fresh_test_name : Redeclared testing 103 → ⊥
fresh_test_name = fresh_test [] (97 ∷ []) in_tests (other 103 97 λ e. omega arith) (neither 103 102 116 (λ e. omega arith) λ e. omega arith) (omega arith)

-- ---- 11

-- behind `vars a; funs f/1; a :=`
abbrev assigning : List ℕ
assigning = word.vars_key ∷ 97 ∷ word.semicolon_key ∷ word.funs_key ∷ 102 ∷ word.slash_key ∷ word.one_key ∷ word.semicolon_key ∷ 97 ∷ word.becomes_key ∷ []

in_statements : InStatements assigning (97 ∷ []) (102 ∷ []) (1 ∷ []) 1
unfolding line_tokens entry_tokens
in_statements = record {
  registers = named 97 refl;
  functions = named 102 refl;
  arities = Arities.one Arities.none;
  within = omega arith;
  body = 97 ∷ word.becomes_key ∷ [];
  split =
      refl;
  functions_begun = λ e. omega arith;
  tests_begun = λ e. omega arith;
}

abbrev declared_lines : List ℕ
declared_lines = word.vars_key ∷ 97 ∷ word.semicolon_key ∷ word.funs_key ∷ 102 ∷ word.slash_key ∷ word.one_key ∷ word.semicolon_key ∷ 97 ∷ []

-- f is a function before `(`, and a wrong use before `;`; a the other way round
right_function : Misused assigning 102 word.lparen_key → ⊥
right_function = function_right [] (97 ∷ []) (102 ∷ []) (1 ∷ []) 1 in_statements ((declared_lines, refl), refl) refl (0, omega arith, refl)

wrong_function : Misused assigning 97 word.lparen_key
wrong_function = Misused.function in_statements refl ((declared_lines, refl), refl) (other 97 102 λ e. omega arith)

-- no test is due behind `:=`
no_test_due : {next : ℕ} → TestDue assigning next → ⊥
no_test_due (inl b) = let z = behind_same b (declared_lines, refl) in omega arith
no_test_due (inr (inl (inl b), e)) = let z = behind_same b (declared_lines, refl) in omega arith
no_test_due (inr (inl (inr b), e)) = let z = behind_same b (declared_lines, refl) in omega arith
no_test_due (inr (inr (inl b), e)) = let z = behind_same b (declared_lines, refl) in omega arith
no_test_due (inr (inr (inr b), e)) = let z = behind_same b (declared_lines, refl) in omega arith

right_register : Misused assigning 97 word.semicolon_key → ⊥
right_register = register_right [] (97 ∷ []) (102 ∷ []) (1 ∷ []) 1 in_statements (λ (b, e). omega arith) no_test_due refl (0, omega arith, refl)

wrong_register : Misused assigning 102 word.semicolon_key
wrong_register = Misused.register in_statements refl (λ (b, e). omega arith) no_test_due (other 102 97 λ e. omega arith)

-- behind `f(a`, where f takes one argument, `,` is wrong and `)` is right
abbrev calling : List ℕ
calling = assigning ++ 102 ∷ word.lparen_key ∷ 97 ∷ []

in_call : InStatements calling (97 ∷ []) (102 ∷ []) (1 ∷ []) 1
unfolding line_tokens entry_tokens
in_call = record {
  registers = named 97 refl;
  functions = named 102 refl;
  arities = Arities.one Arities.none;
  within = omega arith;
  body =
      97 ∷ word.becomes_key ∷ 102 ∷ word.lparen_key ∷ 97 ∷ [];
  split = refl;
  functions_begun = λ e. omega arith;
  tests_begun = λ e. omega arith;
}

too_many : Misused calling word.comma_key 97
too_many = Misused.more_arguments in_call (assigning, 97, refl) (0, omega arith, refl, refl) refl

enough : Misused calling word.rparen_key word.semicolon_key → ⊥
enough (Misused.register J t x y z) = clash t refl
enough (Misused.function J t x y) = clash t refl
enough (Misused.test J t x y) = clash t refl
enough (Misused.more_arguments J c t e) = omega arith
enough (Misused.fewer_arguments J c (i, l, e, n) k) = two_at i (ap (λ l. get_or l i 0) (statements_same in_call J).2 ∙ n)
  where
    two_at : (i : ℕ) → ◌≡◌ {A = ℕ} (get_or (1 ∷ []) i 0) 2 → ⊥
    two_at zero h = omega arith
    two_at (suc i) h = omega arith

-- and where it takes two, `)` is wrong: behind `vars a; funs g/2; a := g(a`
abbrev calling_two : List ℕ
calling_two = word.vars_key ∷ 97 ∷ word.semicolon_key ∷ word.funs_key ∷ 103 ∷ word.slash_key ∷ word.two_key ∷ word.semicolon_key ∷ 97 ∷ word.becomes_key ∷ 103 ∷
    word.lparen_key ∷ 97 ∷ []

in_call_of_two : InStatements calling_two (97 ∷ []) (103 ∷ []) (2 ∷ []) 1
unfolding line_tokens entry_tokens
in_call_of_two = record {
  registers = named 97 refl;
  functions = named 103 refl;
  arities = Arities.two Arities.none;
  within = omega arith;
  body =
      97 ∷ word.becomes_key ∷ 103 ∷ word.lparen_key ∷ 97 ∷ [];
  split = refl;
  functions_begun = λ e. omega arith;
  tests_begun = λ e. omega arith;
}

too_few : Misused calling_two word.rparen_key word.semicolon_key
too_few = Misused.fewer_arguments in_call_of_two
    (word.vars_key ∷ 97 ∷ word.semicolon_key ∷ word.funs_key ∷ 103 ∷ word.slash_key ∷ word.two_key ∷ word.semicolon_key ∷ 97 ∷ word.becomes_key ∷ [], 97, refl)
    (0, omega arith, refl, refl) refl

-- behind `vars a; tests t/1; if`
abbrev lines_of_tests : List ℕ
lines_of_tests = word.vars_key ∷ 97 ∷ word.semicolon_key ∷ word.tests_key ∷ 116 ∷ word.slash_key ∷ word.one_key ∷ word.semicolon_key ∷ []

abbrev choosing : List ℕ
choosing = lines_of_tests ++ word.if_key ∷ []

in_choice : InStatements choosing (97 ∷ []) (116 ∷ []) (1 ∷ []) 0
unfolding line_tokens entry_tokens
in_choice = record {
  registers = named 97 refl;
  functions = named 116 refl;
  arities = Arities.one Arities.none;
  within = omega arith;
  body = word.if_key ∷ [];
  split = refl;
  functions_begun = λ e. omega arith;
  tests_begun = λ e. omega arith;
}

behind_if : Behind choosing word.if_key
behind_if = (lines_of_tests, refl)

-- a condition is due there, and not behind `:=`; a test is due if `(` follows, and else not
due_there : ConditionDue choosing
due_there = inr (inl behind_if)

not_due_there : ConditionDue assigning → ⊥
not_due_there d = no_test_due {next = word.lparen_key} (inr (d, refl))

test_due : TestDue choosing word.lparen_key
test_due = inr (due_there, refl)

no_test_before : TestDue choosing word.equal_key → ⊥
no_test_before (inl b) = let z = behind_same b behind_if in omega arith
no_test_before (inr (d, e)) = omega arith

-- behind `!` one is due whatever follows
test_due_behind : TestDue (choosing ++ word.not_key ∷ []) word.equal_key
test_due_behind = inl (choosing, refl)

-- t is a test before `(`, and a wrong use before `=`; a the other way round
right_test : Misused choosing 116 word.lparen_key → ⊥
right_test = test_right [] (97 ∷ []) (116 ∷ []) (1 ∷ []) 0 in_choice test_due refl (0, omega arith, refl)

wrong_test : Misused choosing 97 word.lparen_key
wrong_test = Misused.test in_choice refl test_due (other 97 116 λ e. omega arith)

compared_test : Misused choosing 116 word.equal_key
compared_test = Misused.register in_choice refl (λ (b, e). let z = behind_same b behind_if in omega arith) no_test_before (other 116 97 λ e. omega arith)

compared_register : Misused choosing 97 word.equal_key → ⊥
compared_register =
    register_right [] (97 ∷ []) (116 ∷ []) (1 ∷ []) 0 in_choice (λ (b, e). let z = behind_same b behind_if in omega arith) no_test_before refl
    (0, omega arith, refl)

-- no test may stand behind `:=`, before `(` or not
abbrev choosing_value : List ℕ
choosing_value = lines_of_tests ++ 97 ∷ word.becomes_key ∷ []

in_value : InStatements choosing_value (97 ∷ []) (116 ∷ []) (1 ∷ []) 0
unfolding line_tokens entry_tokens
in_value = record {
  registers = named 97 refl;
  functions = named 116 refl;
  arities = Arities.one Arities.none;
  within = omega arith;
  body = 97 ∷ word.becomes_key ∷ [];
  split = refl;
  functions_begun = λ e. omega arith;
  tests_begun = λ e. omega arith;
}

test_as_value : Misused choosing_value 116 word.lparen_key
test_as_value = Misused.function in_value refl ((lines_of_tests ++ 97 ∷ [], refl), refl) λ (i, l, e). absurd (omega arith)

-- ---- 12

abbrev braces : ℕ → List ℕ
braces zero = []
braces (suc n) = word.lbrace_key ∷ braces n

-- with sixteen braces open a seventeenth is too deep, and with fifteen a sixteenth is not; nor is it if one was closed again
seventeenth : TooDeep (braces 16) word.lbrace_key
seventeenth = record { brace = refl; deep = omega arith }

sixteenth : TooDeep (braces 15) word.lbrace_key → ⊥
sixteenth D = let d = D.deep in omega arith

closed : TooDeep (word.lbrace_key ∷ word.rbrace_key ∷ braces 15) word.lbrace_key → ⊥
closed D = let d = D.deep in omega arith

-- ---- 16

-- seven names, and the first six of them
abbrev six : List ℕ
six = 97 ∷ 98 ∷ 99 ∷ 100 ∷ 101 ∷ 102 ∷ []

six_names : AllNames six
six_names =
    names_more (97 ∷ 98 ∷ 99 ∷ 100 ∷ 101 ∷ []) 102 (names_more (97 ∷ 98 ∷ 99 ∷ 100 ∷ []) 101 (names_more (97 ∷ 98 ∷ 99 ∷ []) 100
    (names_more (97 ∷ 98 ∷ []) 99 (names_more (97 ∷ []) 98 (named 97 refl) refl) refl) refl) refl) refl

-- behind the line of seven registers there is no room for tests; behind that of six there is, and another word needs none
no_room : NoRoom (word.vars_key ∷ (six ++ 103 ∷ []) ++ word.semicolon_key ∷ []) word.tests_key
no_room = record {
  registers = six ++ 103 ∷ [];
  names = names_more six 103 six_names refl;
  further = [];
  split = refl;
  begins = refl;
  many = omega arith;
}

some_room : NoRoom (word.vars_key ∷ six ++ word.semicolon_key ∷ []) word.tests_key → ⊥
some_room N =
    let e : length N.registers ≡ 6 = ap length (room_same six [] six_names refl N) in
    let m = N.many in
    omega arith

other_word : NoRoom (word.vars_key ∷ (six ++ 103 ∷ []) ++ word.semicolon_key ∷ []) word.skip_key → ⊥
other_word N = let e = N.begins in omega arith

-- ---- texts

-- `vars a b a;`: the first no is 10, at the second a
abbrev twice : List ℕ
twice = 118 ∷ 97 ∷ 114 ∷ 115 ∷ 32 ∷ 97 ∷ 32 ∷ 98 ∷ 32 ∷ 97 ∷ 59 ∷ []

twice_read : read_text twice ≡ Got.refused 10 9
unfolding read_text token_at gap width name_length register_names index_of entries arity_of block condition comparison applied ended_condition assignment right_hand_side
    arguments_t
twice_read = refl

pub twice_first : FirstNo twice 10 9
twice_first = refused_first twice (omega arith) 10 9 twice_read

-- `while a=a{` n times
abbrev nested : ℕ → List ℕ
nested zero = []
nested (suc n) = 119 ∷ 104 ∷ 105 ∷ 108 ∷ 101 ∷ 32 ∷ 97 ∷ 61 ∷ 97 ∷ 123 ∷ nested n

-- `vars a;` and 17 of them: the first no is 12, at the last brace
abbrev deeper : List ℕ
deeper = 118 ∷ 97 ∷ 114 ∷ 115 ∷ 32 ∷ 97 ∷ 59 ∷ nested 17

deeper_read : read_text deeper ≡ Got.refused 12 176
unfolding read_text token_at gap width name_length register_names index_of entries arity_of block condition comparison applied ended_condition assignment right_hand_side
    arguments_t
deeper_read = refl

pub deeper_first : FirstNo deeper 12 176
deeper_first = refused_first deeper (omega arith) 12 176 deeper_read

-- the bench example of Examples.antt has no no
loop_text : read_text loop ≡ got searched 61
unfolding loop searched read_text token_at gap width name_length spellings register_names index_of entries arity_of block condition comparison applied ended_condition
    assignment right_hand_side arguments_t
loop_text = refl

pub loop_all_yes : AllYes loop
unfolding loop
loop_all_yes = read_all_yes loop (omega arith) searched 61 loop_text
