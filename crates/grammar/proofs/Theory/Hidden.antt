-- The registers of a macro in order, the hidden ones with them (SPEC 8.4; document 02, request 4).
use Prim.Native.Nat.{ℕ, ◌+◌, ◌≤◌, ◌<◌}
use native.Mathlib.Omega.{arith}
use mathlib.Core.List.{List, [], ◌∷◌, ◌++◌}
use lib.Dec.{ltb}
use lib.ListN.{length, length-append}
use borrow.Author.Tests.{ltb-true}
use Rattle.base.proofs.Theory.Choice.{by_test}
use Rattle.letters.specs.Editions.{most_registers}
use Rattle.grammar.specs.Limits.{hidden_registers}
use Rattle.grammar.specs.Grammar.{Macro, hidden, header_of}
use Rattle.grammar.specs.Spelled.{InOrder}

-- with the hidden ones there are no more than fit
pub hidden_within : (rs : List ℕ) (t k n : ℕ) → length rs ≤ n → (t < k → length rs + hidden_registers ≤ n) → length (rs ++ hidden t k) ≤ n
hidden_within rs t k n l f =
    by_test (ltb t k)
    (λ u. let z = f (ltb-true t k u) in rw u (omega (arith, length-append rs (0 ∷ 0 ∷ []), length-append rs (hidden 0 1))))
    λ u. rw u (omega (arith, length-append rs []))

pub registers_within : (m : Macro) → InOrder m → (header_of m).registers ≤ most_registers
registers_within m o = hidden_within m.registers m.first_test (length m.functions) most_registers o.few o.room

pub registers_some : (m : Macro) → InOrder m → 1 ≤ (header_of m).registers
registers_some m o = let l = o.some in omega (arith, length-append m.registers (hidden m.first_test (length m.functions)))
