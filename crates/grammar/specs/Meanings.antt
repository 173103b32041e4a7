-- What a macro does with one meaning of its functions and tests, said of the tree as it is written (SPEC 9.1): no hidden register, no letter and no execution
-- occurs here. That the expansion does the same is a theorem (`runs-exactly` of proofs/Theory/Meanings.antt).
use Rattle.std.specs.Prelude.{◌≡◌, Bool, true, false, cond, ℕ, eqb}
use Rattle.base.specs.Choice.{pick}
use Rattle.macros.specs.Executions.{Outcome, done, failed}
use Rattle.grammar.specs.Tree.{Condition, equal, unequal, holds, fails, Assignment, copy, apply, Statement, skip, assign, assume, assert, if, while}
use Rattle.grammar.specs.Tree.{Else, absent, present, Block, empty, ◌then◌}

-- "an underlying data model that provides a universe, and meaning for functions, relations, and constants" (source document 000, 2.1). A test holds of its
-- arguments or does not. Tests are numbered with the functions, behind them; one of one argument is read at the argument twice, as functions are.
pub record Meaning {ℓ} : Type (ℓ + 1) where
  pub Value : Type ℓ
  pub start : ℕ → Value
  pub table : ℕ → Value → Value → Value
  pub relation : ℕ → Value → Value → Bool

-- what the registers hold
abbrev pub Values {ℓ} : Meaning {ℓ} → Type ℓ
Values R = ℕ → R.Value

-- "C is `a = b`, `a != b`, `t(a)`, `t(a,b)`, `!t(a)` or `!t(a,b)`": it is true, or false, of these values.
pub data IsTrue {ℓ} (R : Meaning {ℓ}) (v : Values R) : Condition → Type ℓ where
  are_equal : {x y : ℕ} → v x ≡ v y → IsTrue R v (equal x y)
  are_unequal : {x y : ℕ} → ¬ (v x ≡ v y) → IsTrue R v (unequal x y)
  test_holds : {f y z : ℕ} → R.relation f (v y) (v z) ≡ true → IsTrue R v (holds f y z)
  test_fails : {f y z : ℕ} → R.relation f (v y) (v z) ≡ false → IsTrue R v (fails f y z)

pub data IsFalse {ℓ} (R : Meaning {ℓ}) (v : Values R) : Condition → Type ℓ where
  are_unequal : {x y : ℕ} → ¬ (v x ≡ v y) → IsFalse R v (equal x y)
  are_equal : {x y : ℕ} → v x ≡ v y → IsFalse R v (unequal x y)
  test_fails : {f y z : ℕ} → R.relation f (v y) (v z) ≡ false → IsFalse R v (holds f y z)
  test_holds : {f y z : ℕ} → R.relation f (v y) (v z) ≡ true → IsFalse R v (fails f y z)

-- the values after an assignment
abbrev pub assigned {ℓ} : (R : Meaning {ℓ}) → Assignment → Values R → Values R
assigned R (copy x y) v r = v (cond (eqb r x) y r)
assigned R (apply x f y z) v r = pick (eqb r x) (λ _. R.table f (v y) (v z)) λ _. v r

-- From values to values, through the whole part or to an assertion that is false (SPEC 9.1, 9.2).
mutual
  pub data Runs {ℓ} (R : Meaning {ℓ}) : Statement → Values R → Values R → Outcome → Type ℓ where
    passes : {v : Values R} → Runs R skip v v done
    assigns : {a : Assignment} {v w : Values R} → w ≡ assigned R a v → Runs R (assign a) v w done
    assumes : {c : Condition} {v : Values R} → IsTrue R v c → Runs R (assume c) v v done
    asserts : {c : Condition} {v : Values R} → IsTrue R v c → Runs R (assert c) v v done
    violates : {c : Condition} {v : Values R} → IsFalse R v c → Runs R (assert c) v v failed
    first : {c : Condition} {b : Block} {e : Else} {v w : Values R} {o : Outcome} → IsTrue R v c → RunsBlock R b v w o → Runs R (if c b e) v w o
    second : {c : Condition} {b : Block} {e : Else} {v w : Values R} {o : Outcome} → IsFalse R v c → RunsElse R e v w o → Runs R (if c b e) v w o
    leaves : {c : Condition} {b : Block} {v : Values R} → IsFalse R v c → Runs R (while c b) v v done
    turns : {c : Condition} {b : Block} {v w u : Values R} {o : Outcome} → IsTrue R v c → RunsBlock R b v w done → Runs R (while c b) w u o
        → Runs R (while c b) v u o
    breaks : {c : Condition} {b : Block} {v w : Values R} → IsTrue R v c → RunsBlock R b v w failed → Runs R (while c b) v w failed

  pub data RunsElse {ℓ} (R : Meaning {ℓ}) : Else → Values R → Values R → Outcome → Type ℓ where
    none : {v : Values R} → RunsElse R absent v v done
    some : {b : Block} {v w : Values R} {o : Outcome} → RunsBlock R b v w o → RunsElse R (present b) v w o

  pub data RunsBlock {ℓ} (R : Meaning {ℓ}) : Block → Values R → Values R → Outcome → Type ℓ where
    stop : {v : Values R} → RunsBlock R empty v v done
    both : {s : Statement} {b : Block} {v w u : Values R} {o : Outcome} → Runs R s v w done → RunsBlock R b w u o → RunsBlock R (s then b) v u o
    ends : {s : Statement} {b : Block} {v w : Values R} → Runs R s v w failed → RunsBlock R (s then b) v w failed

-- With this meaning a false assertion is reached.
abbrev pub ReachesFalseAssertion {ℓ} : Meaning {ℓ} → Block → Type ℓ
ReachesFalseAssertion R b = (w : Values R) × RunsBlock R b R.start w failed
