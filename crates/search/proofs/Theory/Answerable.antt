-- An answer always exists: for each text, table and output there is one that meets demand 3. There is only one: `Settled.one_way` of crate `verdict_theory`.
use mathlib.Core.Path.{ap}
use mathlib.Core.HLevel.{Discrete, ×_discrete}
use mathlib.Core.Bool.{Bool, Bool-discrete}
use mathlib.Core.List.{List, List-discrete}
use Prim.Native.Nat.{ℕ}
use native.Mathlib.Decide.{ℕ_discrete}
use Rattle.letters.specs.Editions.{first_edition}
use Rattle.semantics.specs.Models.{Feasible}
use Rattle.verdict_theory.specs.Verdict.{VerdictAnswer}
use Rattle.verdict_theory.specs.Demand3.{pairs_in, Demand3}
use Rattle.verdict_theory.proofs.Theory.Total.{search_answer}
use Rattle.verdict_theory.proofs.Theory.Settled.{a_way}
use Rattle.window.specs.declared.Window.{Window}
use Rattle.exploration.proofs.Theory.Given.{setting}

-- ── whether two windows are equal is decided by their parts ──
abbrev Parts : Type 0
Parts = (List ℕ × List ℕ) × ((List ℕ × List ℕ) × (List Bool × (Bool × ℕ)))

abbrev parts : Window → Parts
parts w = ((w.class, w.unequal), ((w.result, w.ever), (w.mark, (w.infeasible, w.classes))))

abbrev whole : Parts → Window
whole ((a, b), ((c, d), (e, (f, g)))) = record { class = a; unequal = b; result = c; ever = d; mark = e; infeasible = f; classes = g }

two_lists : Discrete (List ℕ × List ℕ)
two_lists = ×_discrete (List-discrete ℕ_discrete) (List-discrete ℕ_discrete)

parts_discrete : Discrete Parts
parts_discrete = ×_discrete two_lists (×_discrete two_lists (×_discrete (List-discrete Bool-discrete) (×_discrete Bool-discrete ℕ_discrete)))

window_discrete : Discrete Window
window_discrete w v = elim (parts_discrete (parts w) (parts v)) [ yes e ↦ yes (ap whole e) | no n ↦ no (λ e. n (ap parts e)) ]

-- There is an answer, with what the table and the output then hold.
pub answerable : (text table output : List ℕ)
    → (a : VerdictAnswer) × (table' : List ℕ) × (output' : List ℕ) × Demand3 Feasible text table output a table' output'
answerable text table output =
    a_way Feasible text table output
    λ m a.
    search_answer (setting (record { macro = m; in_order = a.in_order; few = a.few })) first_edition (pairs_in first_edition table) output
    (×_discrete ℕ_discrete window_discrete)
