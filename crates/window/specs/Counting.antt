-- The number of classes, kept by each letter: "the number of classes after every letter, without counting them anew" (document 02, 6; SPEC 5.8). It is
-- stored in the window, and these are its changes, for every stored number, whether it is that of the classes or not.
use Rattle.std.specs.Prelude.{ℕ, suc, ◌-◌, List, eqb, ltb}
use Rattle.base.specs.Choice.{pick}
use Rattle.base.specs.LeastAndSize.{size_of}
use Rattle.window.specs.Naming.{naming_registers}

-- "one for each two classes that become one" (SPEC 5.8); it is lowered only above 0
unfoldable pub one_fewer : ℕ → ℕ
one_fewer count = count - 1

module _ (ρ : ℕ) where
  -- there is a class more; it is raised only below the number of registers, so that no stored number is too large for it
  unfoldable pub one_more : ℕ → ℕ
  one_more count = pick (ltb count ρ) (λ _. suc count) λ _. count

  -- a register left this class, its own, for another one: "a register that is alone in its class lowers the number" (SPEC 5.8)
  unfoldable pub count_left : ℕ → ℕ → ℕ
  count_left class count = pick (eqb (size_of ρ class) 1) (λ _. one_fewer count) λ _. count

  -- a register left this class, its own, for a class of its own: "raises the number where its target shared its class" (SPEC 5.8)
  unfoldable pub count_made : ℕ → ℕ → ℕ
  count_made class count = pick (eqb (size_of ρ class) 1) (λ _. count) λ _. one_more count

  -- each of n registers is a class of its own
  unfoldable pub count_at_start : ℕ → ℕ
  count_at_start n = pick (ltb n ρ) (λ _. n) λ _. ρ

  -- the number counted anew: a class is counted where it is named
  unfoldable pub counted_classes : List ℕ → ℕ
  counted_classes class = size_of ρ (naming_registers ρ class)
