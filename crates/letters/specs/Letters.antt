-- Headers and letters that are well formed (SPEC 2.2, 2.3; document 01).
use Rattle.std.specs.Prelude.{◌≡◌, ℕ, ◌<◌, ◌^◌, ◌≤◌}
use Rattle.base.specs.Choice.{pick}
use Rattle.base.specs.Masks.{has}
use Rattle.letters.specs.declared.Header.{Header}
use Rattle.letters.specs.declared.Letter.{Letter}
use Rattle.letters.specs.declared.Letter.TheVariants.{Copy, Apply, Equal, Unequal}
use Rattle.letters.specs.Editions.{Edition}

-- The number of arguments of function f, 1 or 2.
abbrev pub arity : Header → ℕ → ℕ
arity h f = pick (has h.binary f) (λ _. 2) λ _. 1

-- "Used registers and functions lie below the header's counts." (SPEC 2.3) A function of one argument has that argument twice.
abbrev pub Fits : Header → Letter → Type 0
Fits h (Copy x y) = (x < h.registers) × (y < h.registers)
Fits h (Apply x f y z) = (x < h.registers) × (f < h.functions) × (y < h.registers) × (z < h.registers) × (arity h f ≡ 1 → y ≡ z)
Fits h (Equal x y) = (x < h.registers) × (y < h.registers)
Fits h (Unequal x y) = (x < h.registers) × (y < h.registers)

-- ---- headers

-- A well-formed header has at least one register, no more registers and functions than the edition allows, and no arity bit beyond its functions (SPEC 2.2).
pub record HeaderFits (e : Edition) (h : Header) : Type 0 where
  pub some : 1 ≤ h.registers
  pub registers : h.registers ≤ e.registers
  pub functions : h.functions ≤ e.functions
  pub binary : h.binary < 2 ^ h.functions
