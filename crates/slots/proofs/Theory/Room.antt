-- A register that leaves its slot to others finds a free one: there are as many slots as registers at least.
use mathlib.Core.Path.{◌≡◌, sym, ap, ◌∙◌, subst}
use mathlib.Core.Logic.{◌⊎◌, inl, inr, ◌≢◌, ⊎_elim}
use mathlib.Core.Bool.{cond}
use mathlib.Core.List.{List}
use Prim.Native.Nat.{ℕ, zero, suc, ◌+◌, ◌-◌, ◌^◌, ◌≤◌, ◌<◌}
use native.Mathlib.Omega.{arith}
use lib.Dec.{eqb, ltb, T}
use lib.ListN.{get_or}
use borrow.Author.Tests.{eq-eqb, ne_eqb, eqb-true, eqb-false, lt-ltb, le-ltb}
use Rattle.base.proofs.Theory.Choice.{by_test}
use Rattle.base.specs.Masks.{has}
use Rattle.base.specs.LeastAndSize.{least_in}
use Rattle.base.proofs.Theory.MaskLaws.{least-in, least_below, bits_same}
use Rattle.window.proofs.Theory.Bits.{truth, none_in, none_zero, none_small, eq_or, less_or}
use Rattle.window.proofs.Theory.Uniqueness.{bit_same}
use Rattle.slots.specs.Slots.{slot_of}
use Rattle.slots.specs.Performing.{free_from}
use Rattle.slots.specs.Represents.{Used, Grouped}

-- as many values as ρ need ρ places
pub onto : (n ρ : ℕ) (f : ℕ → ℕ) → ((s : ℕ) → s < ρ → Used n f s) → ρ ≤ n
onto zero ρ f h = ⊎_elim (λ l. let (r, rb, _) = h 0 l in absurd (omega arith)) (λ l. l) (less_or 0 ρ)
onto (suc n) ρ f h = ⊎_elim
    (λ l. let k = onto n (ρ - 1) g (λ s sb. back s sb (eq_or s (f n))) in omega arith)
    (λ l. let k = onto n ρ f (λ s sb. let (r, rb, e) = h s (omega arith) in let d : r ≢ n = (λ i. let j = ap f (sym i) ∙ e in omega arith) in
    (r, omega arith, e)) in omega arith)
    (less_or (f n) ρ)
  where
    g : ℕ → ℕ
    g r = cond (eqb (f r) (ρ - 1)) (f n) (f r)

    back : (s : ℕ) → s < ρ - 1 → (s ≡ f n) ⊎ (s ≢ f n) → Used n g s
    back s sb (inl i) =
        let (r, rb, e) = h (ρ - 1) (omega arith) in
        let d : r ≢ n = (λ j. let k = ap f (sym j) ∙ e in omega arith) in
        (r, omega arith, rw (eq-eqb (f r) (ρ - 1) e) (sym i))
    back s sb (inr i) =
        let (r, rb, e) = h s (omega arith) in
        let d : r ≢ n = (λ j. i (sym e ∙ ap f j)) in
        let o : f r ≢ ρ - 1 = (λ k. omega arith) in
        (r, omega arith, rw (ne_eqb (f r) (ρ - 1) o) e)

-- two registers in one slot leave one free
pub room : (n ρ : ℕ) (f : ℕ → ℕ) (x y : ℕ) → x < n → y < n → y ≢ x → f y ≡ f x → n ≤ ρ → ¬ ((s : ℕ) → s < ρ → Used n f s)
room n ρ f x y xb yb d e fits h = let k = onto (n - 1) ρ g all in omega arith
  where
    -- the registers but x, in a row
    g : ℕ → ℕ
    g r = f (cond (ltb r x) r (suc r))

    place : (s r : ℕ) → r < n → r ≢ x → f r ≡ s → Used (n - 1) g s
    place s r rb i j = ⊎_elim
        (λ l. (r, omega arith, rw (lt-ltb r x l) j))
        (λ l. let o : r ≡ suc (r - 1) = omega arith in (r - 1, omega arith, rw (le-ltb (r - 1) x (omega arith)) (ap f (sym o) ∙ j)))
        (less_or r x)

    all : (s : ℕ) → s < ρ → Used (n - 1) g s
    all s sb = let (r, rb, j) = h s sb in ⊎_elim (λ i. place s y yb d (e ∙ ap f (sym i) ∙ j)) (λ i. place s r rb i j) (eq_or r x)

-- the first free slot, if there is one
pub free_is : (regs : List ℕ) (k i : ℕ)
    → ((free_from regs i k < i + k) × (get_or regs (free_from regs i k) 0 ≡ 0)) ⊎ ((j : ℕ) → i ≤ j → j < i + k → get_or regs j 0 ≢ 0)
unfolding free_from
free_is regs zero i = inr (λ j a b. absurd (omega arith))
free_is regs (suc k) i = by_test (eqb (get_or regs i 0) 0)
    (λ t. rw t (inl (omega arith, eqb-true (get_or regs i 0) 0 t)))
    (λ t. rw t (⊎_elim
    (λ (a, e). inl (omega arith, e))
    (λ h. inr (λ j a b. ⊎_elim (λ l. subst (λ z. get_or regs z 0 ≢ 0) (omega arith) (eqb-false (get_or regs i 0) 0 t)) (λ l. h j l (omega arith))
    (less_or j (suc i))))
    (free_is regs k (suc i))))

-- a mask that is not empty has a register
pub some_in : (ρ m : ℕ) → m < 2 ^ ρ → m ≢ 0 → (c : ℕ) × (c < ρ) × T (has m c)
some_in ρ m b n = ⊎_elim (λ l. (least_in ρ m, l, truth (has m (least_in ρ m)) (least-in ρ m l)))
    (λ l. absurd (n (bits_same ρ m 0 b (none_small ρ) (λ i h. bit_same m 0 i (least_below ρ m i (omega arith) ∙ sym (none_zero i))))))
    (less_or (least_in ρ m) ρ)

module _ (ρ n : ℕ) (slot regs : List ℕ) (k : Grouped ρ n slot regs) where
  -- a slot with no registers is free
  pub unused : (s : ℕ) → s < ρ → get_or regs s 0 ≡ 0 → ¬ Used n (slot_of slot) s
  unused s sb e (r, rb, h) = none_in r (subst (λ z. T (has z r)) e ((k.members s r sb).1 (rb, h)))

  pub free_slot : (x y : ℕ) → x < n → y < n → y ≢ x → slot_of slot y ≡ slot_of slot x → n ≤ ρ
      → (free_from regs 0 ρ < ρ) × (¬ Used n (slot_of slot) (free_from regs 0 ρ))
  free_slot x y xb yb d e fits = ⊎_elim
      (λ (a, h). let b : free_from regs 0 ρ < ρ = omega arith in (b, unused (free_from regs 0 ρ) b h))
      (λ h. absurd (room n ρ (slot_of slot) x y xb yb d e fits
      (λ s sb. let (r, _, t) = some_in ρ (get_or regs s 0) (k.bytes s) (h s (omega arith) (omega arith)) in let (rb, i) = (k.members s r sb).0 t in
      (r, rb, i))))
      (free_is regs ρ 0)
