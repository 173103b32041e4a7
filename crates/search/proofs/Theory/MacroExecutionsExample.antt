-- An accepted text with a loop, and whatever the reader answers for it: two turns of the loop are an execution, its body without the test is none.
use mathlib.Core.Path.{◌≡◌, refl, sym, ap}
use mathlib.Core.Logic.{◌⊎◌, inl, inr}
use mathlib.Core.List.{List, [], ◌∷◌, ◌++◌}
use Prim.Native.Nat.{ℕ}
use native.Mathlib.Omega.{arith}
use Rattle.letters.specs.declared.Letter.{Letter}
use Rattle.letters.specs.declared.Letter.TheVariants.{Apply, Equal, Unequal}
use Rattle.macros.specs.Plain.{Condition, test, opposite, while, Block}
use Rattle.macros.specs.WrittenOut.{statement_before, written_out}
use Rattle.macros.specs.Executions.{Outcome}
use Rattle.macros.specs.Words.{Word, WordBlock}
use Rattle.macros.specs.Walk.{Place, at, failure}
use Rattle.grammar.specs.Expanded.{expanded_statement}
use Rattle.grammar.specs.Grammar.{expanded}
use Rattle.grammar.proofs.Theory.Whole.{read_sound}
use Rattle.refusals.proofs.Theory.Examples.{loop, searched, loop_read}
use Rattle.syntax.specs.declared.MacroRead.{MacroRead}
use Rattle.refusals.specs.Accepted.{Accepted}
use Rattle.syntax.specs.Reads.{Reads}
use Rattle.search.specs.MacroExecutions.{Performed, HasExecutions}
use Rattle.search.proofs.Theory.MacroExecutions.{macros_have_executions}

loop_accepted : Accepted loop searched
loop_accepted = let (l, s, o, f) = read_sound loop searched 61 loop_read in record { short = l; spelled = s; in_order = o; few = f }

-- `while x != y { x := n(x); }`: a word of it begins with its test
opens : {c : Condition} {b : Block} {u : List Letter} {o : Outcome} → Word (while c b) u o → (v : List Letter) × ((u ≡ test c ∷ v) ⊎ (u ≡ opposite c ∷ v))
opens (Word.leaves e) = ([], inr e)
opens (Word.turns {u} {v} x y e) = (u ++ v, inl e)
opens (Word.breaks {v} x e) = (v, inl e)

module _ (answer : MacroRead) (read : Reads loop answer) where
  executions : HasExecutions answer.program (written_out (expanded searched))
  executions = (macros_have_executions loop answer read).executes searched loop_accepted

  two_turns : Performed answer.program (Unequal 0 1 ∷ Apply 0 0 0 0 ∷ Unequal 0 1 ∷ Apply 0 0 0 0 ∷ Equal 0 1 ∷ Equal 0 1 ∷ []) (at answer.program.count)
  unfolding searched statement_before expanded_statement
  two_turns = (executions.complete _).1
      (WordBlock.both (Word.turns (WordBlock.both Word.letter WordBlock.stop refl)
      (Word.turns (WordBlock.both Word.letter WordBlock.stop refl) (Word.leaves refl) refl) refl)
      (WordBlock.both (Word.holds refl) WordBlock.stop refl) refl)

  -- the assertion fails where the loop is left at once
  fails_at_once : Performed answer.program (Equal 0 1 ∷ Unequal 0 1 ∷ []) failure
  unfolding searched statement_before expanded_statement
  fails_at_once = (executions.failing _).1 (WordBlock.both (Word.leaves refl) (WordBlock.ends (Word.fails refl)) refl)

  not_the_body : (l : Place ℕ) → ¬ Performed answer.program (Apply 0 0 0 0 ∷ []) l
  unfolding searched statement_before expanded_statement
  not_the_body l p = let (v, o, w) = (executions.partial (Apply 0 0 0 0 ∷ [])).0 (l, p) in none w
    where
      begins : {v u : List Letter} → ¬ ((u ≡ Apply 0 0 0 0 ∷ v) × (w : List Letter) × ((u ≡ Unequal 0 1 ∷ w) ⊎ (u ≡ Equal 0 1 ∷ w)))
      begins (e, w, inl f) = let z : ◌≡◌ {A = ℕ} 0 1 = cc in omega arith
      begins (e, w, inr f) = let z : ◌≡◌ {A = ℕ} 0 1 = cc in omega arith

      none : {v : List Letter} {o : Outcome} → ¬ WordBlock (written_out (expanded searched)) (Apply 0 0 0 0 ∷ v) o
      none (WordBlock.both {v = v} x y e) = let (w, z) = opens x in
          begins (sym e, w ++ v, elim z [ inl f ↦ inl (ap (λ k. k ++ v) f) | inr f ↦ inr (ap (λ k. k ++ v) f) ])
      none (WordBlock.ends x) = let (w, z) = opens x in begins (refl, w, z)
