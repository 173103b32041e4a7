-- Macros as trees, of which their points are made (SPEC 9.1, 9.3; document 01). Registers and functions are numbered by their places in the
-- declarations. A text spells a tree with named tests, `Rattle.grammar.specs.Tree`; `Rattle.grammar.specs.Expanded` makes one of these of it.
use Rattle.letters.specs.declared.Header.{Header}
use Rattle.letters.specs.declared.Letter.{Letter}
use Rattle.letters.specs.Letters.{Fits}
pub use Rattle.macros.specs.Plain.{Condition, equal, unequal, test, opposite}

-- "A block holds statements, and a statement may hold blocks, empty ones too." (SPEC 8.3)
mutual
  -- An assignment and an assume are the letter that they perform.
  pub data Statement : Type 0 where
    skip : Statement
    perform : Letter → Statement
    assert : Condition → Statement
    if : Condition → Block → Else → Statement
    while : Condition → Block → Statement
    -- a while that performs a letter before each of its tests (SPEC 9.1; document 02, request 4: "a while returning to the first")
    while_after : Letter → Condition → Block → Statement

  -- "an optional `else { .. }`" (SPEC 8.3)
  pub data Else : Type 0 where
    absent : Else
    present : Block → Else

  infixr 30 ◌then◌
  pub data Block : Type 0 where
    empty : Block
    ◌then◌ : Statement → Block → Block

-- The letters of a macro fit its header: what is used is declared, and the application of a one-argument function has its argument twice. That the
-- text gives a function the declared number of arguments is the reader's question 11 (SPEC 8.4, 11.4).
abbrev mutual
  pub Proper : Statement → Header → Type 0
  Proper skip h = Unit {0}
  Proper (perform a) h = Fits h a
  Proper (assert c) h = Fits h (test c)
  Proper (if c b e) h = Fits h (test c) × ProperBlock b h × ProperElse e h
  Proper (while c b) h = Fits h (test c) × ProperBlock b h
  Proper (while_after a c b) h = Fits h a × Fits h (test c) × ProperBlock b h

  pub ProperElse : Else → Header → Type 0
  ProperElse absent h = Unit {0}
  ProperElse (present b) h = ProperBlock b h

  pub ProperBlock : Block → Header → Type 0
  ProperBlock empty h = Unit {0}
  ProperBlock (s then b) h = Proper s h × ProperBlock b h
