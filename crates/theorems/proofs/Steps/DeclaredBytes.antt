-- The names of a macro are known, spelled and printed by the bytes of the tokens that declare them.
use mathlib.Core.Path.{◌≡◌, sym, subst, ◌∙◌}
use Prim.Native.Nat.{ℕ, ◌≤◌, ◌<◌}
use mathlib.Core.Bool.{true}
use mathlib.Core.List.{List}
use lib.ListN.{length, get_or}
use borrow.Author.Tests.{lt-ltb}
use Rattle.tokens.specs.Words.{is_name}
use Rattle.tokens.specs.Tokens.{token_at, bytes_at, place_of}
use Rattle.tokens.proofs.Theory.WordsLaws.{name_real}
use Rattle.tokens.proofs.Theory.Keys.{token_held}
use Rattle.grammar.specs.Grammar.{Macro}
use Rattle.grammar.specs.Spelled.{function_token}
use Rattle.refusals.specs.Accepted.{Accepted}
use Rattle.refusals.proofs.Theory.Declared.{register_declared, register_spelled, function_declared, function_spelled}
use Rattle.verdict_lines.specs.Prints.{register_token, declared_names}
use Rattle.theorems.specs.LowerCase.{DeclaredBy}

declared_by : (text : List ℕ) (i : ℕ) {known spelled : ℕ} {printed : List ℕ} → is_name known ≡ true → (token_at text (place_of text i)).key ≡ known
    → (token_at text (place_of text i)).spelling ≡ spelled → printed ≡ bytes_at text (place_of text i) → DeclaredBy text i known spelled printed
declared_by text i named e f g =
    let H = token_held text (place_of text i) (subst (λ n. 2 ≤ n) (sym e) (name_real _ named)) in
    record { known_is = sym e ∙ H.key_is; spelled_is = sym f ∙ H.spelling_is; printed_is = g }

module _ (text : List ℕ) (m : Macro) (A : Accepted text m) where
  pub register_by : (r : ℕ) → r < length m.registers
      → DeclaredBy text (register_token r) (get_or m.registers r 0) (get_or m.register_spellings r 0) ((declared_names text m).register r)
  register_by r h = declared_by text (register_token r) (A.in_order.registers.names r h) (register_declared text m A.spelled r h)
      (register_spelled text m A.spelled r h) (rw (lt-ltb r (length m.registers) h))

  pub function_by : (f : ℕ) → f < length m.functions
      → DeclaredBy text (function_token (length m.registers) m.first_test f) (get_or m.functions f 0) (get_or m.function_spellings f 0)
      ((declared_names text m).function f)
  function_by f h = declared_by text (function_token (length m.registers) m.first_test f) (A.in_order.functions.names f h)
      (function_declared text m A.spelled A.in_order.arities f h) (function_spelled text m A.spelled f h)
      (rw (lt-ltb f (length m.functions) h))
