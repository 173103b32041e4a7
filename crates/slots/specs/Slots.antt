-- A window whose classes lie in slots: each class in one, so that what the tables say of classes stands once. A register that comes to hold what
-- another holds goes to the other's slot, and no table moves.
use Rattle.std.specs.Prelude.{ℕ, ◌*◌, ◌<◌, ◌≡◌, Bool, List, length, get_or}

pub record Slots : Type 0 where
  -- at r, the slot of register r's class
  pub slot : List ℕ
  -- at s, the registers of slot s: none if it is free
  pub regs : List ℕ
  -- the unequal pairs, the results and the computed applications: tables as a window's, of slots and not of registers
  pub unequal : List ℕ
  pub result : List ℕ
  pub ever : List ℕ
  -- at r, whether register r has a mark
  pub mark : List Bool
  pub infeasible : Bool

abbrev pub slots_of : List ℕ → List ℕ → List ℕ → List ℕ → List ℕ → List Bool → Bool → Slots
slots_of slot regs unequal result ever mark infeasible =
    record { slot = slot; regs = regs; unequal = unequal; result = result; ever = ever; mark = mark; infeasible = infeasible }

-- the slot of a register
abbrev pub slot_of : List ℕ → ℕ → ℕ
slot_of slot r = get_or slot r 0

module _ (ρ : ℕ) where
  -- each register has one of ρ slots
  pub record Low (slot : List ℕ) : Type 0 where
    pub long : length slot ≡ ρ
    pub below : (r : ℕ) → r < ρ → slot_of slot r < ρ

module _ (ρ φ : ℕ) where
  -- the tables have an entry for each place
  pub record SlotTableLengths (unequal result ever : List ℕ) : Type 0 where
    pub unequal_long : length unequal ≡ ρ
    pub result_long : length result ≡ φ * ρ * ρ
    pub ever_long : length ever ≡ φ * ρ

  -- the arrays have the lengths of their types, and each slot is one
  pub record Laid (slot regs unequal result ever : List ℕ) (mark : List Bool) : Type 0 where
    pub low : Low ρ slot
    pub regs_long : length regs ≡ ρ
    pub tables : SlotTableLengths unequal result ever
    pub mark_long : length mark ≡ ρ
