-- A macro with each letter that a while performs before its tests written out: a tree in which every statement is one of Definition 2's
-- (SPEC 9.1; source document 000, 2.1: "each time we see R(z), we add the assignment statement b_R := f_R(z) and replace the occurrence of R(z) by
-- the conditional b_R = T"). The test of a while is seen before the loop and again at the end of its body.
use Rattle.macros.specs.Tree.{Statement, Else, Block}
use Rattle.macros.specs.Tree as tree
use Rattle.macros.specs.Plain.{skip, perform, assert, if, while, absent, present, empty, ◌then◌}
use Rattle.macros.specs.Plain as plain

-- a part, and then the statements k
unfoldable mutual
  pub statement_before : Statement → plain.Block → plain.Block
  statement_before tree.skip k = skip then k
  statement_before (tree.perform a) k = perform a then k
  statement_before (tree.assert c) k = assert c then k
  statement_before (tree.if c b e) k = if c (block_before b empty) (written_else e) then k
  statement_before (tree.while c b) k = while c (block_before b empty) then k
  statement_before (tree.while_after a c b) k = perform a then while c (block_before b (perform a then empty)) then k

  pub written_else : Else → plain.Else
  written_else tree.absent = absent
  written_else (tree.present b) = present (block_before b empty)

  pub block_before : Block → plain.Block → plain.Block
  block_before tree.empty k = k
  block_before (tree.◌then◌ s b) k = statement_before s (block_before b k)

abbrev pub written_out : Block → plain.Block
written_out m = block_before m empty
