-- What follows from the definitions of specs/Judging.antt.
use mathlib.Core.Path.{◌≡◌, sym, ap, ◌∙◌}
use mathlib.Core.Logic.{◌⊎◌, inl, inr}
use native.Mathlib.Omega.{arith}
use Prim.Native.Nat.{ℕ, ◌≤◌, ◌<◌}
use mathlib.Core.List.{List, ◌++◌}
use lib.ListN.{length, drop}
use Rattle.semantics.specs.Models.{Feasible}
use Rattle.verdict_theory.proofs.Theory.Settled.{one_way}
use Rattle.macros.proofs.Theory.Numbers.{three}
use Rattle.exports.specs.Judging.{verdict_numbers, Judging}

-- It settles every lent byte: there is one way at most.
pub one_judging : (text table output answer t u o p a b : List ℕ) → Judging text table output answer t o a → Judging text table output answer u p b
    → (t ≡ u) × (o ≡ p) × (a ≡ b)
one_judging text table output answer t u o p a b x y = go (three (length answer) 5)
  where
    told : 5 ≤ length answer → (t ≡ u) × (o ≡ p) × (a ≡ b)
    told room =
        let (v, d, e) = x.judged room in
        let (w, f, g) = y.judged room in
        let (same, i, j) = one_way Feasible text table output v w t u o p d f in
        (i, j, e ∙ ap (λ z. verdict_numbers z ++ drop 5 answer) same ∙ sym g)

    go : (length answer < 5) ⊎ ((length answer ≡ 5) ⊎ (5 < length answer)) → (t ≡ u) × (o ≡ p) × (a ≡ b)
    go (inl short) =
        let (i, j, k) = x.short short in
        let (l, m, n) = y.short short in
        (i ∙ sym l, j ∙ sym m, k ∙ sym n)
    go (inr (inl e)) = told (omega arith)
    go (inr (inr l)) = told (omega arith)
