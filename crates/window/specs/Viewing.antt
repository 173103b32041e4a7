-- What a window value of a layout says of registers, and the windows that say nothing of registers beyond the header's count.
use Rattle.std.specs.Prelude.{◌≡◌, ℕ, ◌+◌, ◌*◌, ◌^◌, ◌≤◌, ◌<◌, false, ◌&&◌, List, length, get_or, ltb, T}
use Rattle.base.specs.Masks.{has}
use Rattle.semantics.specs.View.{View}
use Rattle.window.specs.Places.{place}
use Rattle.window.specs.declared.Window.{Window}

module _ (ρ : ℕ) where
  -- nothing is said of registers from n on
  pub record Inside (n : ℕ) (w : View) : Type 0 where
    pub fits : n ≤ ρ
    pub same : (r s : ℕ) → r < ρ → s < ρ → T (w.same r s) → (r < n) × (s < n)
    pub apart : (r s : ℕ) → r < ρ → s < ρ → T (w.apart r s) → (r < n) × (s < n)
    pub result : (f a b c : ℕ) → a < ρ → b < ρ → c < ρ → T (w.result f a b c) → (a < n) × (b < n) × (c < n)
    pub ever : (f a b : ℕ) → a < ρ → b < ρ → T (w.ever f a b) → (a < n) × (b < n)
    pub marked : (r : ℕ) → r < ρ → T (w.marked r) → r < n

  -- every entry is a mask of registers
  abbrev pub Masks : List ℕ → Type 0
  Masks l = (k : ℕ) → get_or l k 0 < 2 ^ ρ

module _ (ρ φ : ℕ) where
  abbrev pub view : Window → View
  view w = record {
    same = λ r s. has (get_or w.class r 0) s;
    apart = λ r s. has (get_or w.unequal r 0) s;
    result = λ f a b r. ltb f φ && has (get_or w.result (place ρ f a b) 0) r;
    ever = λ f a b. ltb f φ && has (get_or w.ever (ρ * f + a) 0) b;
    marked = λ r. get_or w.mark r false;
    infeasible = w.infeasible;
  }

  -- the arrays have the lengths and the entries of their types
  pub record Shaped (w : Window) : Type 0 where
    pub class : length w.class ≡ ρ
    pub unequal : length w.unequal ≡ ρ
    pub result : length w.result ≡ φ * ρ * ρ
    pub ever : length w.ever ≡ φ * ρ
    pub mark : length w.mark ≡ ρ
    pub class_bytes : Masks ρ w.class
    pub unequal_bytes : Masks ρ w.unequal
    pub result_bytes : Masks ρ w.result
    pub ever_bytes : Masks ρ w.ever
