-- What follows from the definitions of specs/Words.antt.
use mathlib.Core.Path.{◌≡◌, refl, sym, ap, ◌∙◌, subst}
use mathlib.Core.Logic.{◌↔◌}
use mathlib.Core.List.{List, [], ◌∷◌, ◌++◌}
use Rattle.letters.specs.declared.Letter.{Letter}
use Rattle.semantics.specs.Terms.{Trace, ◌▸◌, extend}
use Rattle.semantics.proofs.Theory.TraceLaws.{extend_append}
use Rattle.macros.specs.Plain.{test, opposite, Statement, assert, if, while, Else, Block, ◌then◌}
use Rattle.macros.specs.Executions.{Outcome, done, failed, Exec, ExecElse, ExecBlock}
use Rattle.macros.specs.Executions
use Rattle.macros.specs.Words.{Word, WordElse, WordBlock}

-- ── laws ──
mutual
  word_exec : {s : Statement} {w : List Letter} {o : Outcome} → Word s w o → (ρ : Trace) → Exec s ρ (extend ρ w) o
  word_exec Word.nothing ρ = Executions.nothing
  word_exec Word.letter ρ = Executions.letter
  word_exec (Word.fails {c} e) ρ = subst (λ w. Exec (assert c) ρ (extend ρ w) failed) (sym e) (Executions.fails refl)
  word_exec (Word.holds {c} e) ρ = subst (λ w. Exec (assert c) ρ (extend ρ w) done) (sym e) (Executions.holds refl)
  word_exec (Word.first {c} {b} {e = f} {o} x e) ρ = subst (λ w. Exec (if c b f) ρ (extend ρ w) o) (sym e) (Executions.first (block_exec x (ρ ▸ test c)))
  word_exec (Word.second {c} {b} {e = f} {o} x e) ρ = subst (λ w. Exec (if c b f) ρ (extend ρ w) o) (sym e) (Executions.second (else_exec x (ρ ▸ opposite c)))
  word_exec (Word.leaves {c} {b} e) ρ = subst (λ w. Exec (while c b) ρ (extend ρ w) done) (sym e) (Executions.leaves refl)
  word_exec (Word.turns {c} {b} {u} {v} {o} x y e) ρ =
      subst (λ w. Exec (while c b) ρ (extend ρ w) o) (sym e) (subst (λ π. Exec (while c b) ρ π o) (sym (extend_append (ρ ▸ test c) u v))
      (Executions.turns (block_exec x (ρ ▸ test c)) (word_exec y (extend (ρ ▸ test c) u))))
  word_exec (Word.breaks {c} {b} x e) ρ = subst (λ w. Exec (while c b) ρ (extend ρ w) failed) (sym e) (Executions.breaks (block_exec x (ρ ▸ test c)))

  else_exec : {f : Else} {w : List Letter} {o : Outcome} → WordElse f w o → (ρ : Trace) → ExecElse f ρ (extend ρ w) o
  else_exec WordElse.none ρ = Executions.none
  else_exec (WordElse.some x) ρ = Executions.some (block_exec x ρ)

  block_exec : {b : Block} {w : List Letter} {o : Outcome} → WordBlock b w o → (ρ : Trace) → ExecBlock b ρ (extend ρ w) o
  block_exec WordBlock.stop ρ = Executions.stop
  block_exec (WordBlock.both {s} {b} {u} {v} {o} x y e) ρ =
      subst (λ w. ExecBlock (s then b) ρ (extend ρ w) o) (sym e) (subst (λ π. ExecBlock (s then b) ρ π o) (sym (extend_append ρ u v))
      (Executions.both (word_exec x ρ) (block_exec y (extend ρ u))))
  block_exec (WordBlock.ends x) ρ = Executions.ends (word_exec x ρ)

mutual
  exec_word : {s : Statement} {ρ π : Trace} {o : Outcome} → Exec s ρ π o → (w : List Letter) × Word s w o × (π ≡ extend ρ w)
  exec_word Executions.nothing = ([], Word.nothing, refl)
  exec_word (Executions.letter {a}) = (a ∷ [], Word.letter, refl)
  exec_word (Executions.fails {a} e) = (a ∷ [], Word.fails (ap (λ z. z ∷ []) e), refl)
  exec_word (Executions.holds {a} e) = (a ∷ [], Word.holds (ap (λ z. z ∷ []) e), refl)
  exec_word (Executions.first {c} x) = let (v, y, p) = block_word x in (test c ∷ v, Word.first y refl, p)
  exec_word (Executions.second {c} x) = let (v, y, p) = else_word x in (opposite c ∷ v, Word.second y refl, p)
  exec_word (Executions.leaves {a} e) = (a ∷ [], Word.leaves (ap (λ z. z ∷ []) e), refl)
  exec_word (Executions.turns {c} {ρ} x y) =
      let (u, z, p) = block_word x in
      let (v, t, q) = exec_word y in
      (test c ∷ (u ++ v), Word.turns z t refl, q ∙ ap (λ π. extend π v) p ∙ sym (extend_append (ρ ▸ test c) u v))
  exec_word (Executions.breaks {c} x) = let (v, y, p) = block_word x in (test c ∷ v, Word.breaks y refl, p)

  else_word : {f : Else} {ρ π : Trace} {o : Outcome} → ExecElse f ρ π o → (w : List Letter) × WordElse f w o × (π ≡ extend ρ w)
  else_word Executions.none = ([], WordElse.none, refl)
  else_word (Executions.some x) = let (v, y, p) = block_word x in (v, WordElse.some y, p)

  block_word : {b : Block} {ρ π : Trace} {o : Outcome} → ExecBlock b ρ π o → (w : List Letter) × WordBlock b w o × (π ≡ extend ρ w)
  block_word Executions.stop = ([], WordBlock.stop, refl)
  block_word (Executions.both {ρ} x y) =
      let (u, z, p) = exec_word x in
      let (v, t, q) = block_word y in
      (u ++ v, WordBlock.both z t refl, q ∙ ap (λ π. extend π v) p ∙ sym (extend_append ρ u v))
  block_word (Executions.ends x) = let (w, y, p) = exec_word x in (w, WordBlock.ends y, p)

-- An execution of a program from a start has the letters of a word of Definition 2 after the start, and each such word gives one. Those of a macro m are
-- the ones of `written_out m`.
pub exec_is : (m : Block) (start π : Trace) (o : Outcome) → ExecBlock m start π o ↔ ((w : List Letter) × WordBlock m w o × (π ≡ extend start w))
exec_is m start π o = (λ x. block_word x, λ (w, x, p). subst (λ τ. ExecBlock m start τ o) (sym p) (block_exec x start))
