-- What follows from the definitions of specs/Prefixes.antt.
use mathlib.Core.Path.{◌≡◌, refl}
use mathlib.Core.List.{List, [], ◌∷◌}
use Prim.Native.Nat.{◌≤◌}
use native.Mathlib.Omega.{arith}
use Rattle.letters.specs.declared.Letter.{Letter}
use Rattle.semantics.specs.Terms.{Trace, ◌▸◌, extend}
use Rattle.semantics.specs.Judgement.{size}
use Rattle.semantics.specs.Prefixes.{Begins, whole, before, PrefixClosed}

pub begins_join : {ρ π τ : Trace} → Begins ρ π → Begins π τ → Begins ρ τ
begins_join b whole = b
begins_join b (before d) = before (begins_join b d)

pub begins_extend : (ρ : Trace) (l : List Letter) → Begins ρ (extend ρ l)
begins_extend ρ [] = whole
begins_extend ρ (a ∷ l) = begins_join (before whole) (begins_extend (ρ ▸ a) l)

pub begins_size : {ρ π : Trace} → Begins ρ π → size ρ ≤ size π
begins_size whole = omega arith
begins_size (before b) = omega (arith, begins_size b)

-- a beginning is fixed by its length
pub begins_same : {ρ π τ : Trace} → Begins ρ τ → Begins π τ → size ρ ≡ size π → ρ ≡ π
begins_same whole whole e = refl
begins_same whole (before c) e = absurd (omega (arith, begins_size c))
begins_same (before b) whole e = absurd (omega (arith, begins_size b))
begins_same (before b) (before c) e = begins_same b c e

pub begins_has : (P : Trace → Type 0) → PrefixClosed P → {ρ π : Trace} → Begins ρ π → P π → P ρ
begins_has P c whole p = p
begins_has P c (before {π} {a} b) p = begins_has P c b (c π a p)
