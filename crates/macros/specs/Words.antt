-- Definition 2 as the source document writes it, over words of letters. Its executions are those of Executions (SPEC 9.2).
use Rattle.std.specs.Prelude.{◌≡◌, List, [], ◌∷◌, ◌++◌}
use Rattle.letters.specs.declared.Letter.{Letter}
use Rattle.macros.specs.Plain.{Condition, test, opposite, Statement, skip, perform, assert, if, while, Else, absent, present, Block, empty, ◌then◌}
use Rattle.macros.specs.Executions.{Outcome, done, failed}

-- "Exec(s)", the words of a statement: an equation with the word where Definition 2 joins words (SPEC 9.2).
mutual
  pub data Word : Statement → List Letter → Outcome → Type 0 where
    nothing : Word skip [] done
    letter : {a : Letter} → Word (perform a) (a ∷ []) done
    fails : {c : Condition} {w : List Letter} → w ≡ opposite c ∷ [] → Word (assert c) w failed
    holds : {c : Condition} {w : List Letter} → w ≡ test c ∷ [] → Word (assert c) w done
    first : {c : Condition} {b : Block} {e : Else} {v w : List Letter} {o : Outcome} → WordBlock b v o → w ≡ test c ∷ v → Word (if c b e) w o
    second : {c : Condition} {b : Block} {e : Else} {v w : List Letter} {o : Outcome} → WordElse e v o → w ≡ opposite c ∷ v → Word (if c b e) w o
    leaves : {c : Condition} {b : Block} {w : List Letter} → w ≡ opposite c ∷ [] → Word (while c b) w done
    turns : {c : Condition} {b : Block} {u v w : List Letter} {o : Outcome} → WordBlock b u done → Word (while c b) v o → w ≡ test c ∷ (u ++ v)
        → Word (while c b) w o
    breaks : {c : Condition} {b : Block} {v w : List Letter} → WordBlock b v failed → w ≡ test c ∷ v → Word (while c b) w failed

  pub data WordElse : Else → List Letter → Outcome → Type 0 where
    none : WordElse absent [] done
    some : {b : Block} {w : List Letter} {o : Outcome} → WordBlock b w o → WordElse (present b) w o

  pub data WordBlock : Block → List Letter → Outcome → Type 0 where
    stop : WordBlock empty [] done
    both : {s : Statement} {b : Block} {u v w : List Letter} {o : Outcome} → Word s u done → WordBlock b v o → w ≡ u ++ v → WordBlock (s then b) w o
    ends : {s : Statement} {b : Block} {w : List Letter} → Word s w failed → WordBlock (s then b) w failed
