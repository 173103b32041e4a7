-- What a macro performs (SPEC 9.1; document 02, request 4): "As source document 000 models relations, such a test applies a function into the hidden
-- register `result` and compares that with the hidden register `truth`". This is a function from tree to tree; executions and points are those of its result.
use Rattle.std.specs.Prelude.{ℕ, suc}
use Rattle.std.proofs.Math.Option.{Option, none, some}
use Rattle.letters.specs.declared.Letter.{Letter}
use Rattle.letters.specs.declared.Letter.TheVariants.{Apply}
use Rattle.macros.specs.Tree.{perform, test, ◌then◌}
use Rattle.macros.specs.Tree as macro
use Rattle.grammar.specs.Tree.{Condition, equal, unequal, holds, fails, letter_of, Statement, skip, assign, assume, assert, if, while, Else}
use Rattle.grammar.specs.Tree.{absent, present, Block, empty}
use Rattle.grammar.specs.Tree as written

-- one block after another
infixr 30 ◌before◌
abbrev pub ◌before◌ : macro.Block → macro.Block → macro.Block
macro.empty before k = k
(s then b) before k = s then (b before k)

-- "With that line the hidden registers follow the declared ones, `result` first": behind n declared registers (SPEC 8.4)
module _ (n : ℕ) where
  abbrev pub result_register : ℕ
  result_register = n

  abbrev pub truth_register : ℕ
  truth_register = suc n

  -- the letter that a condition performs before its test: a named test applies its function
  abbrev pub application : Condition → Option Letter
  application (equal x y) = none
  application (unequal x y) = none
  application (holds f y z) = some (Apply result_register f y z)
  application (fails f y z) = some (Apply result_register f y z)

  -- and what it then compares
  abbrev pub comparison : Condition → macro.Condition
  comparison (equal x y) = macro.equal x y
  comparison (unequal x y) = macro.unequal x y
  comparison (holds f y z) = macro.equal result_register truth_register
  comparison (fails f y z) = macro.unequal result_register truth_register

  -- perhaps a letter, and then a statement
  abbrev pub after : Option Letter → macro.Statement → macro.Block
  after none s = s then macro.empty
  after (some a) s = perform a then s then macro.empty

  -- a while, perhaps with a letter before each of its tests
  abbrev pub loop : Option Letter → macro.Condition → macro.Block → macro.Statement
  loop none c b = macro.while c b
  loop (some a) c b = macro.while_after a c b

  unfoldable mutual
    pub expanded_statement : Statement → macro.Block
    expanded_statement skip = macro.skip then macro.empty
    expanded_statement (assign a) = perform (letter_of a) then macro.empty
    expanded_statement (assume c) = after (application c) (perform (test (comparison c)))
    expanded_statement (assert c) = after (application c) (macro.assert (comparison c))
    expanded_statement (if c b e) = after (application c) (macro.if (comparison c) (expanded_block b) (expanded_else e))
    expanded_statement (while c b) = loop (application c) (comparison c) (expanded_block b) then macro.empty

    pub expanded_else : Else → macro.Else
    expanded_else absent = macro.absent
    expanded_else (present b) = macro.present (expanded_block b)

    pub expanded_block : Block → macro.Block
    expanded_block empty = macro.empty
    expanded_block (written.◌then◌ s b) = expanded_statement s before expanded_block b
