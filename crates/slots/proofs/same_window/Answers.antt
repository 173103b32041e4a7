use mathlib.Core.Path.{sym, ◌∙◌}
use Rattle.window.specs.Layout.{registers, functions}
use borrow.Author.Rules.{rules}
use Rattle.std.proofs.lemmas.Slice.Eq.{slice_eq-Decides}
use Rattle.std.specs.Cmp.{booleans_Decides}
use Rattle.std.proofs.lemmas.Bool.Decides.{Decides-eqb}
use Rattle.slots.proofs.Theory.Pulls.{Long, same-window, window_compared}
use Rattle.slots.proofs.same_window.Goals as goal

pub returns-clause-value : goal.returns-clause-value
returns-clause-value c =
    let a = c.args in
    let v : Long registers functions a.v.now =
    record { class = search rules; unequal = search rules; result = search rules; ever = search rules; mark = search rules } in
    let w : Long registers functions a.w.now =
    record { class = search rules; unequal = search rules; result = search rules; ever = search rules; mark = search rules } in
    window_compared registers functions a.v.now a.w.now _ _ _ _ _ v w (slice_eq-Decides Decides-eqb _ _ _ c.eq.ensures)
    (slice_eq-Decides Decides-eqb _ _ _ c.eq-2.ensures) (slice_eq-Decides Decides-eqb _ _ _ c.eq-3.ensures)
    (slice_eq-Decides Decides-eqb _ _ _ c.eq-4.ensures) (slice_eq-Decides booleans_Decides _ _ _ c.eq-5.ensures)

pub returns-clause-same : goal.returns-clause-same
returns-clause-same c t =
    let a = c.args in
    let v : Long registers functions a.v.now =
    record { class = search rules; unequal = search rules; result = search rules; ever = search rules; mark = search rules } in
    let w : Long registers functions a.w.now =
    record { class = search rules; unequal = search rules; result = search rules; ever = search rules; mark = search rules } in
    let e = window_compared registers functions a.v.now a.w.now _ _ _ _ _ v w (slice_eq-Decides Decides-eqb _ _ _ c.eq.ensures)
    (slice_eq-Decides Decides-eqb _ _ _ c.eq-2.ensures) (slice_eq-Decides Decides-eqb _ _ _ c.eq-3.ensures)
    (slice_eq-Decides Decides-eqb _ _ _ c.eq-4.ensures) (slice_eq-Decides booleans_Decides _ _ _ c.eq-5.ensures) in
    same-window registers functions a.v.now a.w.now v w (sym e ∙ t)
