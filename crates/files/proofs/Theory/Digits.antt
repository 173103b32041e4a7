-- How many digits `io::hex` writes: as many as it is asked for, where the number has no more.
use Rattle.std.proofs.Common.{◌≡◌, ℕ, ◌-◌, ◌^◌, ◌<◌, ◌≤◌, arith}
use Rattle.std.proofs.Math.Nat.{pow-le-pow_right}
use lib.Dec.{ltb}
use borrow.Author.Tests.{ltb-true, ltb-false}
use Rattle.base.proofs.Theory.Choice.{by_test}

pub width_kept : (width number count : ℕ) → number < 16 ^ width → width ≤ count → (width < count → 16 ^ (count - 1) ≤ number) → count ≡ width
width_kept width number count h l f = by_test (ltb width count)
    (λ t.
    let u = ltb-true width count t in
    let p : 16 ^ width ≤ 16 ^ (count - 1) = pow-le-pow_right (omega arith) (omega (arith, u)) in
    absurd (omega (arith, h, p, f u)))
    (λ t. let u = ltb-false width count t in omega (arith, l, u))
