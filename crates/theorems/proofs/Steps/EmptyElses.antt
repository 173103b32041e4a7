-- An absent else counting as an empty one: what is alike by the congruence is what has the same short form, and no more (SPEC 8.6).
use mathlib.Core.Path.{◌≡◌, refl, sym, ◌∙◌, subst}
use mathlib.Core.Logic.{◌↔◌}
use mathlib.Core.List.{[], ◌∷◌}
use Prim.Native.Nat.{ℕ}
use native.Mathlib.Omega.{arith}
use Rattle.grammar.specs.Tree.{equal, Statement, skip, assign, assume, assert, if, while, Else, absent, present, Block, empty, ◌then◌}
use Rattle.grammar.specs.Grammar.{Macro}
use Rattle.layout_theory.specs.Layout.{else_of, short_statement, short_else, short_block, without_empty_elses}
use Rattle.theorems.specs.EmptyElses.{AlikeStatement, same_statement, turned_statement, chained_statement, in_if, in_while}
use Rattle.theorems.specs.EmptyElses.{AlikeElse, same_else, turned_else, chained_else, in_else, absent_or_empty}
use Rattle.theorems.specs.EmptyElses.{AlikeBlock, same_block, turned_block, chained_block, in_block, AlikeMacros}

-- ---- what is alike has the same short form

mutual
  statement_shorts : {s t : Statement} → AlikeStatement s t → short_statement s ≡ short_statement t
  statement_shorts same_statement = refl
  statement_shorts (turned_statement p) = sym (statement_shorts p)
  statement_shorts (chained_statement p q) = statement_shorts p ∙ statement_shorts q
  statement_shorts (in_if {c} p q) = λ i. if c (block_shorts p i) (else_shorts q i)
  statement_shorts (in_while {c} p) = λ i. while c (block_shorts p i)

  else_shorts : {d e : Else} → AlikeElse d e → short_else d ≡ short_else e
  else_shorts same_else = refl
  else_shorts (turned_else p) = sym (else_shorts p)
  else_shorts (chained_else p q) = else_shorts p ∙ else_shorts q
  else_shorts (in_else p) = λ i. else_of (block_shorts p i)
  else_shorts absent_or_empty = refl

  block_shorts : {a b : Block} → AlikeBlock a b → short_block a ≡ short_block b
  block_shorts same_block = refl
  block_shorts (turned_block p) = sym (block_shorts p)
  block_shorts (chained_block p q) = block_shorts p ∙ block_shorts q
  block_shorts (in_block p q) = λ i. statement_shorts p i then block_shorts q i

-- ---- each is alike to its short form

else_of_alike : (b : Block) → AlikeElse (present b) (else_of b)
else_of_alike empty = turned_else absent_or_empty
else_of_alike (s then b) = same_else

mutual
  statement_alike : (s : Statement) → AlikeStatement s (short_statement s)
  statement_alike skip = same_statement
  statement_alike (assign a) = same_statement
  statement_alike (assume c) = same_statement
  statement_alike (assert c) = same_statement
  statement_alike (if c b e) = in_if (block_alike b) (else_alike e)
  statement_alike (while c b) = in_while (block_alike b)

  else_alike : (e : Else) → AlikeElse e (short_else e)
  else_alike absent = same_else
  else_alike (present b) = chained_else (in_else (block_alike b)) (else_of_alike (short_block b))

  block_alike : (b : Block) → AlikeBlock b (short_block b)
  block_alike empty = same_block
  block_alike (s then b) = in_block (statement_alike s) (block_alike b)

same_shorts_alike : (a b : Block) → short_block a ≡ short_block b → AlikeBlock a b
same_shorts_alike a b e = chained_block (subst (λ (x : Block). AlikeBlock a x) e (block_alike a)) (turned_block (block_alike b))

-- ---- both ways

pub alike_exactly : (a b : Block) → AlikeBlock a b ↔ (short_block a ≡ short_block b)
alike_exactly a b = (λ p. block_shorts p, same_shorts_alike a b)

pub macros_alike_exactly : (m n : Macro) → AlikeMacros m n ↔ (without_empty_elses m ≡ without_empty_elses n)
macros_alike_exactly m n = (
  λ p i. record {
    registers = p.same_registers i;
    register_spellings = p.same_register_spellings i;
    functions = p.same_functions i;
    function_spellings = p.same_function_spellings i;
    arities = p.same_arities i;
    first_test = p.same_first_test i;
    body = block_shorts p.alike_bodies i;
  },
  λ e. record {
    same_registers = λ i. (e i).registers;
    same_register_spellings = λ i. (e i).register_spellings;
    same_functions = λ i. (e i).functions;
    same_function_spellings = λ i. (e i).function_spellings;
    same_arities = λ i. (e i).arities;
    same_first_test = λ i. (e i).first_test;
    alike_bodies = same_shorts_alike m.body n.body λ i. (e i).body;
  },
)

-- ---- it holds of something, and not of everything

-- `if x = x { }` and `if x = x { } else { }`
pub empty_else_alike : AlikeBlock (if (equal 0 0) empty absent then empty) (if (equal 0 0) empty (present empty) then empty)
empty_else_alike = in_block (in_if same_block absent_or_empty) same_block

-- `skip;` and nothing
pub skip_not_alike : AlikeBlock (skip then empty) empty → ⊥
skip_not_alike p = let e = block_shorts p in let z : ◌≡◌ {A = ℕ} 0 1 = cc in omega arith

-- `vars NAME; if NAME = NAME { }` and an else; names are one byte
abbrev tested_macro : ℕ → Else → Macro
tested_macro name e = record {
  registers = name ∷ [];
  register_spellings = name ∷ [];
  functions = [];
  function_spellings = [];
  arities = [];
  first_test = 0;
  body = if (equal 0 0) empty e then empty;
}

-- without an else, and with `else { }`
pub empty_else_alike_macros : AlikeMacros (tested_macro 120 absent) (tested_macro 120 (present empty))
empty_else_alike_macros = record {
  same_registers = refl;
  same_register_spellings = refl;
  same_functions = refl;
  same_function_spellings = refl;
  same_arities = refl;
  same_first_test = refl;
  alike_bodies = empty_else_alike;
}

-- without an else, and with `else { skip; }`
pub skip_else_not_alike : AlikeMacros (tested_macro 120 absent) (tested_macro 120 (present (skip then empty))) → ⊥
skip_else_not_alike p = let e = block_shorts p.alike_bodies in let z : ◌≡◌ {A = ℕ} 0 1 = cc in omega arith

-- `x` and `y`
pub other_name_not_alike : (d e : Else) → AlikeMacros (tested_macro 120 d) (tested_macro 121 e) → ⊥
other_name_not_alike d e p = let r = p.same_registers in let z : ◌≡◌ {A = ℕ} 120 121 = cc in omega arith
