-- The programs of source document 000 (its syntax before Definition 2), with document 01's assert, as trees (SPEC 9.1). Definition 2 is about these:
-- Executions and Words.
use Rattle.std.specs.Prelude.{ℕ}
use Rattle.letters.specs.declared.Letter.{Letter}
use Rattle.letters.specs.declared.Letter.TheVariants.{Equal, Unequal}

-- "C is `a = b` or `a != b`." (SPEC 9.1; document 01)
pub data Condition : Type 0 where
  equal unequal : ℕ → ℕ → Condition

-- The letter that tests a condition, and the letter that tests its opposite. The operands keep their order (SPEC 9.1).
abbrev pub test : Condition → Letter
test (equal x y) = Equal x y
test (unequal x y) = Unequal x y

abbrev pub opposite : Condition → Letter
opposite (equal x y) = Unequal x y
opposite (unequal x y) = Equal x y

-- "A block holds statements, and a statement may hold blocks, empty ones too." (SPEC 8.3)
mutual
  -- An assignment and an assume are the letter that they perform.
  pub data Statement : Type 0 where
    skip : Statement
    perform : Letter → Statement
    assert : Condition → Statement
    if : Condition → Block → Else → Statement
    while : Condition → Block → Statement

  -- "an optional `else { .. }`" (SPEC 8.3)
  pub data Else : Type 0 where
    absent : Else
    present : Block → Else

  infixr 30 ◌then◌
  pub data Block : Type 0 where
    empty : Block
    ◌then◌ : Statement → Block → Block
