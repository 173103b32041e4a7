-- "Reading the print yields the macro that was printed, an absent else counting as an empty one" (SPEC 8.6; document 02, request 2): what counts as the
-- same macro, said without computing anything.
use Rattle.std.specs.Prelude.{◌≡◌}
use Rattle.grammar.specs.Tree.{Condition, Statement, if, while, Else, absent, present, Block, empty, ◌then◌}
use Rattle.grammar.specs.Grammar.{Macro}

-- The least congruence that equates an absent else with one whose block is empty.
mutual
  pub data AlikeStatement : Statement → Statement → Type 0 where
    same_statement : {s : Statement} → AlikeStatement s s
    turned_statement : {s t : Statement} → AlikeStatement s t → AlikeStatement t s
    chained_statement : {s t u : Statement} → AlikeStatement s t → AlikeStatement t u → AlikeStatement s u
    in_if : {c : Condition} {a b : Block} {d e : Else} → AlikeBlock a b → AlikeElse d e → AlikeStatement (if c a d) (if c b e)
    in_while : {c : Condition} {a b : Block} → AlikeBlock a b → AlikeStatement (while c a) (while c b)

  pub data AlikeElse : Else → Else → Type 0 where
    same_else : {d : Else} → AlikeElse d d
    turned_else : {d e : Else} → AlikeElse d e → AlikeElse e d
    chained_else : {d e f : Else} → AlikeElse d e → AlikeElse e f → AlikeElse d f
    in_else : {a b : Block} → AlikeBlock a b → AlikeElse (present a) (present b)
    -- "an absent else counting as an empty one"
    absent_or_empty : AlikeElse absent (present empty)

  pub data AlikeBlock : Block → Block → Type 0 where
    same_block : {a : Block} → AlikeBlock a a
    turned_block : {a b : Block} → AlikeBlock a b → AlikeBlock b a
    chained_block : {a b c : Block} → AlikeBlock a b → AlikeBlock b c → AlikeBlock a c
    in_block : {s t : Statement} {a b : Block} → AlikeStatement s t → AlikeBlock a b → AlikeBlock (s then a) (t then b)

-- The same macro, an absent else counting as an empty one: nothing but its statements may differ, and they only in that (SPEC 8.6).
pub record AlikeMacros (m n : Macro) : Type 0 where
  pub same_registers : m.registers ≡ n.registers
  pub same_register_spellings : m.register_spellings ≡ n.register_spellings
  pub same_functions : m.functions ≡ n.functions
  pub same_function_spellings : m.function_spellings ≡ n.function_spellings
  pub same_arities : m.arities ≡ n.arities
  pub same_first_test : m.first_test ≡ n.first_test
  pub alike_bodies : AlikeBlock m.body n.body
