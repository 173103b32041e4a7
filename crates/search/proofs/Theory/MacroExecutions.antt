-- What follows from the definitions of specs/MacroExecutions.antt.
use mathlib.Core.Path.{◌≡◌, refl, sym, ap, ◌∙◌, subst}
use mathlib.Core.Logic.{◌↔◌}
use mathlib.Core.List.{List, ◌++◌}
use Prim.Native.Nat.{ℕ, zero, suc}
use lib.Dec.{ltb}
use borrow.Author.Tests.{ltb-true, ltb-false}
use Rattle.base.proofs.Theory.Choice.{by_test}
use Rattle.letters.specs.declared.Letter.{Letter}
use Rattle.semantics.specs.Terms.{Trace, begin, extend}
use Rattle.semantics.proofs.Theory.TraceLaws.{extend_append}
use Rattle.semantics.specs.Prefixes.{Begins}
use Rattle.semantics.proofs.Theory.Prefixes.{begins_extend}
use Rattle.macros.specs.Tree.{Block}
use Rattle.macros.specs.WrittenOut.{written_out}
use Rattle.macros.specs.Executions.{Outcome, done, failed, ExecBlock, Partial}
use Rattle.macros.specs.Words.{WordBlock}
use Rattle.macros.proofs.Theory.Words.{exec_is}
use Rattle.macros.specs.Order.{Branch, first, second, Path}
use Rattle.macros.specs.Walk.{walk}
use Rattle.macros.specs.Points.{size_block, entry, points, entrance, moves_at, run}
use Rattle.macros.proofs.Theory.Runs.{complete_end, failing_is, partial_is, past_points}
use Rattle.grammar.specs.Grammar.{expanded}
use Rattle.syntax.specs.declared.MacroRead.{MacroRead}
use Rattle.syntax.specs.Answer.{held_macro}
use Rattle.syntax.specs.Reads.{Reads}
use Rattle.verdict_theory.proofs.Theory.Since.{since, since_once}
use Rattle.exploration.proofs.Theory.Store.{branch_numbered}
use Rattle.exploration.specs.Given.{Given}
use Rattle.exploration.proofs.Theory.Given.{branch_held}
use Rattle.search.specs.MacroExecutions.{branch_number, branches_at, HasExecutions, Demand2Macros}
use Rattle.syntax.specs.declared.CompiledMacro as struct

module _ (given : Given) where
  abbrev pub program : struct.CompiledMacro
  program = held_macro given.macro

-- ── laws ──
first_point : (m : Block) → entrance m ≡ 0
unfolding entry
first_point m = go (size_block m)
  where
    go : (n : ℕ) → entry n 0 n ≡ 0
    go zero = refl
    go (suc n) = refl

numbered_back : (b : Branch) → branch_numbered (branch_number b) ≡ b
numbered_back first = refl
numbered_back second = refl

module _ (given : Given) where
  abbrev body : Block
  body = expanded given.macro

  branch_is : (k : ℕ) (b : Branch) → branches_at (program given) k b ≡ moves_at (points body) k b
  unfolding held_macro
  branch_is k b = by_test (ltb k (size_block body))
      (λ t. rw t (branch_held given k (branch_number b) (ltb-true k (size_block body) t) ∙ ap (moves_at (points body) k) (numbered_back b)))
      (λ t. rw t (sym (past_points body k b (ltb-false k (size_block body) t))))

  abbrev origin : Trace
  origin = begin (program given).header

  -- what is performed is the run through the macro's points
  performed_run : (p : Path) → walk (branches_at (program given)) 0 origin p ≡ run origin body p
  performed_run p = λ i. walk (λ k b. branch_is k b i) (sym (first_point body) i) origin p

  module _ (w : List Letter) where
    -- the words of an outcome, and the executions that have their letters
    words : (o : Outcome) → ExecBlock (written_out body) origin (extend origin w) o ↔ WordBlock (written_out body) w o
    words o = (
      λ x.
          let (v, y, e) = (exec_is (written_out body) origin (extend origin w) o).0 x in
          subst (λ u. WordBlock (written_out body) u o) (sym (since_once origin w v e)) y,
      λ y. (exec_is (written_out body) origin (extend origin w) o).1 (w, y, refl),
    )

    beginnings : Partial origin body (extend origin w) ↔ ((v : List Letter) × (o : Outcome) × WordBlock (written_out body) (w ++ v) o)
    beginnings = (
      λ x. let (u, y, e) = (exec_is (written_out body) origin x.execution x.outcome).0 x.runs in
          let (v, f) = since x.begins in
          let same : u ≡ w ++ v = since_once origin u (w ++ v) (sym e ∙ f ∙ sym (extend_append origin w v)) in
          (v, x.outcome, subst (λ u. WordBlock (written_out body) u x.outcome) same y),
      λ (v, o, y). record {
        execution = extend origin (w ++ v);
        outcome = o;
        runs = (exec_is (written_out body) origin (extend origin (w ++ v)) o).1 (w ++ v, y, refl);
        from_start = begins_extend origin w;
        begins = subst (Begins (extend origin w)) (sym (extend_append origin w v)) (begins_extend (extend origin w) v);
      },
    )

  pub has_executions : HasExecutions (program given) (written_out body)
  unfolding held_macro
  has_executions = record {
    complete = λ w. (
      λ (p, e). (words w done).0 ((complete_end origin body (extend origin w)).1 (p, sym (performed_run p) ∙ e)),
      λ y. let (p, e) = (complete_end origin body (extend origin w)).0 ((words w done).1 y) in (p, performed_run p ∙ e),
    );
    failing = λ w. (
      λ (p, e). (words w failed).0 ((failing_is origin body (extend origin w)).1 (p, sym (performed_run p) ∙ e)),
      λ y. let (p, e) = (failing_is origin body (extend origin w)).0 ((words w failed).1 y) in (p, performed_run p ∙ e),
    );
    partial = λ w. (
      λ (l, (p, e)). (beginnings w).0 ((partial_is origin body (extend origin w)).1 (p, l, sym (performed_run p) ∙ e)),
      λ y. let (p, l, e) = (partial_is origin body (extend origin w)).0 ((beginnings w).1 y) in (l, (p, performed_run p ∙ e)),
    );
  }

-- Whatever the reader answers for a text by its contract has exactly the executions of Definition 2.
pub macros_have_executions : (text : List ℕ) (answer : MacroRead) → Reads text answer → Demand2Macros text answer
macros_have_executions text answer x = record {
  reads = λ m a. (x.accepts m a).0;
  grammatical = λ e. let (m, a, f) = x.accepted e in (m, a);
  executes = λ m a.
      let given : Given = record { macro = m; in_order = a.in_order; few = a.few } in
      subst (λ program. HasExecutions program (written_out (expanded m))) (sym (x.accepts m a).2) (has_executions given);
}
