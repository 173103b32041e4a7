use Rattle.std.proofs.Common.{[], ◌∷◌}
use Rattle.states.proofs.Laws.{keeps_stream}
use Rattle.states.proofs.put_stream.Goals as goal

pub returns : goal.returns
returns c =
    let a = c.args in
    let x = c.octets-letters.ensures in
    let y = c.octets-first.ensures in
    let z = c.octets-second.ensures in
    keeps_stream a.kind a.s a.state.now _ _ (c.phase_code.result ∷ a.s.high ∷ c.verdict_code.result ∷ c.refusal_number.result ∷ []) _ _ _
    c.put_monitor.ensures (rw (c.phase_code.ensures, c.verdict_code.ensures, c.refusal_number.ensures)) (x.value, x.back)
    (rw c.first_number.ensures at y.value, rw c.first_number.ensures at y.back)
    (rw c.second_number.ensures at z.value, rw c.second_number.ensures at z.back) c.put_tail.ensures
