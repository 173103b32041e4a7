-- Macros as they are written (SPEC 8.3, 8.4; document 01, and document 02, request 4). Registers and functions are numbered by their places in the
-- declarations; a test is numbered as a function, behind the functions ("tests follow the functions").
use Rattle.std.specs.Prelude.{ℕ, ◌≤◌, ◌<◌}
use Rattle.letters.specs.declared.Header.{Header}
use Rattle.letters.specs.declared.Letter.{Letter}
use Rattle.letters.specs.declared.Letter.TheVariants.{Copy, Apply, Equal, Unequal}
use Rattle.letters.specs.Letters.{Fits}

-- "C is `a = b`, `a != b`, `t(a)`, `t(a,b)`, `!t(a)` or `!t(a,b)`." (SPEC 8.3) A test and its two arguments; the one of a test of one is there twice.
pub data Condition : Type 0 where
  equal unequal : ℕ → ℕ → Condition
  holds fails : ℕ → ℕ → ℕ → Condition

-- `a := b;` `a := f(b);` `a := f(b,c);` (SPEC 8.3)
pub data Assignment : Type 0 where
  copy : ℕ → ℕ → Assignment
  apply : ℕ → ℕ → ℕ → ℕ → Assignment

-- the letter that it performs
abbrev pub letter_of : Assignment → Letter
letter_of (copy x y) = Copy x y
letter_of (apply x f y z) = Apply x f y z

-- "A block holds statements, and a statement may hold blocks, empty ones too." (SPEC 8.3)
mutual
  pub data Statement : Type 0 where
    skip : Statement
    assign : Assignment → Statement
    assume assert : Condition → Statement
    if : Condition → Block → Else → Statement
    while : Condition → Block → Statement

  -- "an optional `else { .. }`" (SPEC 8.3)
  pub data Else : Type 0 where
    absent : Else
    present : Block → Else

  infixr 30 ◌then◌
  pub data Block : Type 0 where
    empty : Block
    ◌then◌ : Statement → Block → Block

-- What is used is declared and of the right sort (SPEC 8.4; question 11), where h has the declared registers and all functions, of which the tests are
-- those from number t on. An argument of what takes one is there twice; that the text gives the declared number of arguments is the reader's question.
abbrev pub ProperAssignment : Assignment → Header → ℕ → Type 0
ProperAssignment (copy x y) h t = Fits h (Copy x y)
ProperAssignment (apply x f y z) h t = Fits h (Apply x f y z) × (f < t)

-- a test is used as a function that is applied into a register
abbrev pub ProperCondition : Condition → Header → ℕ → Type 0
ProperCondition (equal x y) h t = Fits h (Equal x y)
ProperCondition (unequal x y) h t = Fits h (Unequal x y)
ProperCondition (holds f y z) h t = Fits h (Apply y f y z) × (t ≤ f)
ProperCondition (fails f y z) h t = Fits h (Apply y f y z) × (t ≤ f)

abbrev mutual
  pub Proper : Statement → Header → ℕ → Type 0
  Proper skip h t = Unit {0}
  Proper (assign a) h t = ProperAssignment a h t
  Proper (assume c) h t = ProperCondition c h t
  Proper (assert c) h t = ProperCondition c h t
  Proper (if c b e) h t = ProperCondition c h t × ProperBlock b h t × ProperElse e h t
  Proper (while c b) h t = ProperCondition c h t × ProperBlock b h t

  pub ProperElse : Else → Header → ℕ → Type 0
  ProperElse absent h t = Unit {0}
  ProperElse (present b) h t = ProperBlock b h t

  pub ProperBlock : Block → Header → ℕ → Type 0
  ProperBlock empty h t = Unit {0}
  ProperBlock (s then b) h t = Proper s h t × ProperBlock b h t
