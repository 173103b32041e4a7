-- The slots of a window: what the window says of registers, they say of the registers' slots.
use Rattle.std.specs.Prelude.{◌≡◌, ◌↔◌, false, ◌&&◌, List, ℕ, ◌+◌, ◌*◌, ◌<◌, eqb, ltb, T, get_or}
use Rattle.base.specs.Masks.{has}
use Rattle.semantics.specs.View.{View}
use Rattle.window.specs.Places.{place}
use Rattle.window.specs.Viewing.{view, Inside, Masks, Shaped}
use Rattle.window.specs.Counting.{counted_classes}
use Rattle.window.specs.declared.Window.{Window}
use Rattle.slots.specs.Slots.{Slots, slot_of, Laid}

module _ (n : ℕ) (g : ℕ → ℕ) where
  -- slot s has one of n registers
  abbrev pub Used : ℕ → Type 0
  Used s = (r : ℕ) × (r < n) × (g r ≡ s)

  -- registers are in one class exactly if they are in one slot, and what w says of registers, v says of their slots
  pub record Pulled (w v : View) : Type 0 where
    pub same : (r s : ℕ) → r < n → s < n → T (w.same r s) ↔ (g r ≡ g s)
    pub apart : (r s : ℕ) → r < n → s < n → T (w.apart r s) ↔ T (v.apart (g r) (g s))
    pub result : (f a b c : ℕ) → a < n → b < n → c < n → T (w.result f a b c) ↔ T (v.result f (g a) (g b) (g c))
    pub ever : (f a b : ℕ) → a < n → b < n → T (w.ever f a b) ↔ T (v.ever f (g a) (g b))

module _ (ρ : ℕ) where
  -- v says nothing of other slots than those of U
  pub record Clean (U : ℕ → Type 0) (v : View) : Type 0 where
    pub apart : (s t : ℕ) → s < ρ → t < ρ → T (v.apart s t) → U s × U t
    pub result : (f a b c : ℕ) → a < ρ → b < ρ → c < ρ → T (v.result f a b c) → U a × U b × U c
    pub ever : (f a b : ℕ) → a < ρ → b < ρ → T (v.ever f a b) → U a × U b

  -- no result is in two slots
  pub record Single (v : View) : Type 0 where
    pub one : (f a b c d : ℕ) → a < ρ → b < ρ → c < ρ → d < ρ → T (v.result f a b c) → T (v.result f a b d) → c ≡ d

  -- the registers of a slot are those that have it
  pub record Grouped (n : ℕ) (slot regs : List ℕ) : Type 0 where
    pub members : (s r : ℕ) → s < ρ → T (has (get_or regs s 0) r) ↔ ((r < n) × (slot_of slot r ≡ s))
    pub bytes : Masks ρ regs

module _ (ρ φ : ℕ) where
  -- what the tables say of slots
  abbrev pub slot_view : List ℕ → List ℕ → List ℕ → View
  slot_view unequal result ever = record {
    same = λ s t. eqb s t;
    apart = λ s t. has (get_or unequal s 0) t;
    result = λ f a b c. ltb f φ && has (get_or result (place ρ f a b) 0) c;
    ever = λ f a b. ltb f φ && has (get_or ever (ρ * f + a) 0) b;
    marked = λ s. false;
    infeasible = false;
  }

  -- the slots say what the window says of its n registers; results may be in two slots
  pub record Mirrors (n : ℕ) (s : Slots) (w : Window) : Type 0 where
    pub shaped : Shaped ρ φ w
    pub inside : Inside ρ n (view ρ φ w)
    pub laid : Laid ρ φ s.slot s.regs s.unequal s.result s.ever s.mark
    pub grouped : Grouped ρ n s.slot s.regs
    pub clean : Clean ρ (Used n (slot_of s.slot)) (slot_view s.unequal s.result s.ever)
    pub pulled : Pulled n (slot_of s.slot) (view ρ φ w) (slot_view s.unequal s.result s.ever)
    pub marked : (r : ℕ) → r < n → T ((view ρ φ w).marked r) ↔ T (get_or s.mark r false)
    pub infeasible : w.infeasible ≡ s.infeasible
    pub counted : w.classes ≡ counted_classes ρ w.class

  pub record RepresentsWindow (n : ℕ) (s : Slots) (w : Window) : Type 0 where
    pub mirrors : Mirrors n s w
    pub single : Single ρ (slot_view s.unequal s.result s.ever)
