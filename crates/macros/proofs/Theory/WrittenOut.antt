-- What follows from the definitions of specs/WrittenOut.antt: what comes behind a part stays behind it, and of a tree without `while_after` only the type
-- changes.
use mathlib.Core.Path.{◌≡◌, refl, sym, ap, ◌∙◌, subst}
use mathlib.Core.Logic.{◌↔◌}
use Rattle.semantics.specs.Terms.{Trace}
use Rattle.macros.specs.Plain.{Statement, skip, perform, assert, if, while, Else, absent, present, Block, empty, ◌then◌}
use Rattle.macros.specs.Tree as tree
use Rattle.macros.specs.WrittenOut.{statement_before, written_else, block_before, written_out}
use Rattle.macros.specs.Executions.{Outcome, ExecBlock}
use Rattle.macros.proofs.Theory.Branches.{◌before◌, else_block}

-- ── one continuation after another ──
pub statement-before : (s : tree.Statement) (j k : Block) → statement_before s j before k ≡ statement_before s (j before k)
unfolding statement_before
statement-before tree.skip j k = refl
statement-before (tree.perform a) j k = refl
statement-before (tree.assert c) j k = refl
statement-before (tree.if c b e) j k = refl
statement-before (tree.while c b) j k = refl
statement-before (tree.while_after a c b) j k = refl

pub block-before : (b : tree.Block) (j k : Block) → block_before b j before k ≡ block_before b (j before k)
unfolding statement_before
block-before tree.empty j k = refl
block-before (tree.◌then◌ s b) j k = statement-before s (block_before b j) k ∙ ap (statement_before s) (block-before b j k)

-- an else, and then the statements k
abbrev pub else_before : tree.Else → Block → Block
else_before tree.absent k = k
else_before (tree.present b) k = block_before b k

pub else-before : (e : tree.Else) (k : Block) → else_block (written_else e) before k ≡ else_before e k
unfolding statement_before
else-before tree.absent k = refl
else-before (tree.present b) k = block-before b empty k

-- ── Definition 2's programs among the trees ──
abbrev mutual
  pub in_tree : Statement → tree.Statement
  in_tree skip = tree.skip
  in_tree (perform a) = tree.perform a
  in_tree (assert c) = tree.assert c
  in_tree (if c b e) = tree.if c (in_tree_block b) (in_tree_else e)
  in_tree (while c b) = tree.while c (in_tree_block b)

  pub in_tree_else : Else → tree.Else
  in_tree_else absent = tree.absent
  in_tree_else (present b) = tree.present (in_tree_block b)

  pub in_tree_block : Block → tree.Block
  in_tree_block empty = tree.empty
  in_tree_block (s then b) = tree.◌then◌ (in_tree s) (in_tree_block b)

-- written out, they are what they were
mutual
  unfolding statement_before

  plain_statement : (s : Statement) (k : Block) → statement_before (in_tree s) k ≡ s then k
  plain_statement skip k = refl
  plain_statement (perform a) k = refl
  plain_statement (assert c) k = refl
  plain_statement (if c b e) k = λ i. if c (plain_block b i) (plain_else e i) then k
  plain_statement (while c b) k = λ i. while c (plain_block b i) then k

  plain_else : (e : Else) → written_else (in_tree_else e) ≡ e
  plain_else absent = refl
  plain_else (present b) = ap present (plain_block b)

  pub plain_block : (b : Block) → written_out (in_tree_block b) ≡ b
  plain_block empty = refl
  plain_block (s then b) = plain_statement s (written_out (in_tree_block b)) ∙ ap (λ k. s then k) (plain_block b)

-- so their executions are those of Definition 2
pub plain_executions : (b : Block) (start π : Trace) (o : Outcome) → ExecBlock (written_out (in_tree_block b)) start π o ↔ ExecBlock b start π o
plain_executions b start π o = (subst (λ k. ExecBlock k start π o) (plain_block b), subst (λ k. ExecBlock k start π o) (sym (plain_block b)))

-- They are the trees without `while_after`.
abbrev mutual
  pub IsPlain : tree.Statement → Type 0
  IsPlain tree.skip = Unit {0}
  IsPlain (tree.perform a) = Unit {0}
  IsPlain (tree.assert c) = Unit {0}
  IsPlain (tree.if c b e) = IsPlainBlock b × IsPlainElse e
  IsPlain (tree.while c b) = IsPlainBlock b
  IsPlain (tree.while_after a c b) = ⊥

  pub IsPlainElse : tree.Else → Type 0
  IsPlainElse tree.absent = Unit {0}
  IsPlainElse (tree.present b) = IsPlainBlock b

  pub IsPlainBlock : tree.Block → Type 0
  IsPlainBlock tree.empty = Unit {0}
  IsPlainBlock (tree.◌then◌ s b) = IsPlain s × IsPlainBlock b

mutual
  unfolding statement_before

  statement_in_tree : (s : tree.Statement) (k : Block) → IsPlain s → in_tree_block (statement_before s k) ≡ tree.◌then◌ s (in_tree_block k)
  statement_in_tree tree.skip k x = refl
  statement_in_tree (tree.perform a) k x = refl
  statement_in_tree (tree.assert c) k x = refl
  statement_in_tree (tree.if c b e) k x = λ i. tree.◌then◌ (tree.if c (written_in_tree b x.0 i) (else_in_tree e x.1 i)) (in_tree_block k)
  statement_in_tree (tree.while c b) k x = λ i. tree.◌then◌ (tree.while c (written_in_tree b x i)) (in_tree_block k)
  statement_in_tree (tree.while_after a c b) k x = absurd x

  else_in_tree : (e : tree.Else) → IsPlainElse e → in_tree_else (written_else e) ≡ e
  else_in_tree tree.absent x = refl
  else_in_tree (tree.present b) x = ap tree.present (written_in_tree b x)

  pub written_in_tree : (m : tree.Block) → IsPlainBlock m → in_tree_block (written_out m) ≡ m
  written_in_tree tree.empty x = refl
  written_in_tree (tree.◌then◌ s b) x = statement_in_tree s (written_out b) x.0 ∙ ap (tree.◌then◌ s) (written_in_tree b x.1)
