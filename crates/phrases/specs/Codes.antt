-- How the code holds what it read.
use Rattle.std.specs.Prelude.{◌≡◌, ℕ, ◌≤◌, Bool, true, false, List, eqb, length, get_or, Result, Ok, Err, Some, None}
use Rattle.std.proofs.Math.Option.{Option, none, some}
use Rattle.base.specs.Choice.{pick}
use Rattle.letters.specs.Editions.{most_registers, most_functions}
use Rattle.letters.specs.MacroRefusalNumbers.{token_malformed, grammar_violated}
use Rattle.letters.specs.Reasons.{reason_of}
use Rattle.letters.specs.declared.Letter.{Letter}
use Rattle.letters.specs.declared.Letter.TheVariants.{Apply, Equal, Unequal}
use Rattle.letters.specs.declared.reasons.Refused.{Refused}
use Rattle.macros.specs.Tree.{test}
use Rattle.tokens.specs.declared.Token.{Token}
use Rattle.tokens.specs.Tokens.{token_at}
use Rattle.tokens.specs.Words as word
use Rattle.grammar.specs.Tree.{Condition, holds, fails}
use Rattle.grammar.specs.Expanded.{application, comparison}
use Rattle.grammar.specs.Reading as reading
use Rattle.phrases.specs.declared.Condition as held
use Rattle.phrases.specs.declared.Sign.{Sign}
use Rattle.phrases.specs.declared.Sign.TheVariants as sign

-- a refusal by its number and its place
abbrev pub refused_as : ℕ → ℕ → Refused
refused_as n p = record { reason = reason_of n; place = p }

-- that of a token that does not fit the grammar, or is none
abbrev pub unfit : Token → Refused
unfit t = refused_as (pick (eqb t.key word.wrong) (λ _. token_malformed) λ _. grammar_violated) t.start

-- An answer as the code holds it, by what it holds of a value and the place after it. (`exhausted` is no answer of these readers.)
abbrev pub read_as : {A B : Type 0} → (A → ℕ → B) → reading.Got A → Result B Refused
read_as f (reading.got a e) = Ok (f a e)
read_as f (reading.refused n p) = Err (refused_as n p)
read_as f reading.exhausted = Err (refused_as 0 0)

-- An answer whose value is held as another, with the place after it.
abbrev pub coded : {A B : Type 0} → (A → B) → reading.Got A → Result (B × ℕ) Refused
coded f g = read_as (λ a e. (f a, e)) g

abbrev pub plain : reading.Got ℕ → Result (ℕ × ℕ) Refused
plain g = coded (λ n. n) g

-- An answer with no value is held as the place after it.
abbrev pub without_value : reading.Got (Unit {0}) → Result ℕ Refused
without_value g = read_as (λ _ e. e) g

-- An answer whose value is held as a letter.
abbrev pub lettered : {A : Type 0} → (A → Letter) → reading.Got A → Result (Letter × ℕ) Refused
lettered f g = coded f g

abbrev pub same_letter : Letter → Letter
same_letter l = l

-- ---- conditions

-- the test of a condition, behind n declared registers (Expanded.antt)
abbrev pub test_of : ℕ → Condition → Letter
test_of n c = test (comparison n c)

-- a condition by the letter that it performs before its test, if there is one, and its test
abbrev pub posed : Option Letter → Letter → held.Condition
posed none l = record { application = None; test = l }
posed (some a) l = record { application = Some a; test = l }

-- a condition as the code holds it, behind n declared registers
abbrev pub held_condition : ℕ → Condition → held.Condition
held_condition n c = posed (application n c) (test_of n c)

-- An answer whose value is a condition, behind n declared registers.
abbrev pub asked : ℕ → reading.Got Condition → Result (held.Condition × ℕ) Refused
asked n g = coded (held_condition n) g

-- the sign that stands for `=` or `!=`
abbrev pub sign_of : Bool → Sign
sign_of true = sign.Equal
sign_of false = sign.Unequal

-- the test that a sign makes
abbrev pub comparing : Sign → ℕ → ℕ → Letter
comparing sign.Equal x y = Equal x y
comparing sign.Unequal x y = Unequal x y

-- and the condition that it makes of a named test: `=`, that the test holds
abbrev pub condition_by : Sign → ℕ → ℕ → ℕ → Condition
condition_by sign.Equal f y z = holds f y z
condition_by sign.Unequal f y z = fails f y z

-- the declared names fit their tables, and there are the functions below number m
pub record Few (rs fs ns : List ℕ) (m : ℕ) : Type 0 where
  pub registers : length rs ≤ most_registers
  pub functions : length fs ≤ most_functions
  pub arities : length ns ≡ length fs
  pub below : m ≤ length fs

-- two parts of the reading of a phrase: a second argument, and a function by its name, from one number to another, with its arguments
abbrev pub second_at : List ℕ → List ℕ → ℕ → ℕ → ℕ → ℕ → reading.Got Letter
second_at s rs x f y at = reading.and_then (reading.use_t rs (token_at s at)) λ z e. reading.ended s word.rparen_key (Apply x f y z) e

abbrev pub call_at : {A : Type 0} → List ℕ → List ℕ → List ℕ → List ℕ → (ℕ → ℕ → ℕ → A) → ℕ → ℕ → ℕ → reading.Got A
call_at s rs fs ns make from to at =
    reading.and_then (reading.use_between fs from to (token_at s at)) λ f a. reading.applied s rs (make f) (get_or ns f 0) a
