-- A register goes to another slot.
use mathlib.Core.Path.{◌≡◌, refl, sym, ap, ◌∙◌, subst}
use mathlib.Core.Logic.Iff
use mathlib.Core.Logic.{◌⊎◌, inl, inr, ◌↔◌, ◌≢◌, ⊎_elim}
use mathlib.Core.List.{List}
use Prim.Native.Nat.{ℕ, ◌^◌, ◌≤◌, ◌<◌}
use native.Mathlib.Omega.{arith}
use lib.Dec.{T}
use lib.Bits.{bit_or, xor_lt}
use lib.ListN.{length, get_or, set, length-set}
use lib.Seq.{get_or-set_same, get_or-set_other, set_out}
use Rattle.base.specs.Masks.{has}
use Rattle.window.proofs.Theory.Bits.{or_is, single_is, same_iff, eq_or, less_or, minus_is, or_small, pow_small}
use Rattle.window.specs.Bits.{minus}
use Rattle.window.proofs.Theory.Size.{other}
use Rattle.window.specs.Viewing.{Masks}
use Rattle.window.specs.declared.Window.{Window}
use Rattle.slots.specs.Slots.{Slots, slot_of, Low}
use Rattle.slots.specs.Performing.{regs_moved}
use Rattle.slots.specs.Represents.{Used, Grouped, Mirrors}
use Rattle.slots.proofs.Theory.Marking.{up, alone_is}

pub minus_small : (ρ m k : ℕ) → m < 2 ^ ρ → k < 2 ^ ρ → minus m k < 2 ^ ρ
unfolding minus
minus_small ρ m k p q = xor_lt ρ (bit_or m k) k (or_small ρ m k p q) q

pub bytes_set : (ρ : ℕ) (l : List ℕ) (i v : ℕ) → v < 2 ^ ρ → Masks ρ l → Masks ρ (set l i v)
bytes_set ρ l i v h f k = ⊎_elim
    (λ e. subst (λ j. get_or (set l i v) j 0 < 2 ^ ρ) (sym e)
    (⊎_elim (λ b. subst (λ z. z < 2 ^ ρ) (sym (get_or-set_same l i v 0 b)) h) (λ b. subst (λ z. get_or z i 0 < 2 ^ ρ) (sym (set_out l i v b)) (f i))
    (less_or i (length l))))
    (λ d. subst (λ z. z < 2 ^ ρ) (sym (get_or-set_other l i k v 0 d)) (f k))
    (eq_or k i)

module _ (ρ n : ℕ) (slot regs : List ℕ) (x t : ℕ) (fits : n ≤ ρ) (lo : Low ρ slot) (long : length regs ≡ ρ) (k : Grouped ρ n slot regs) (xb : x < n)
    (tb : t < ρ) where
  pub at_same : slot_of (set slot x t) x ≡ t
  at_same = get_or-set_same slot x t 0 (omega (arith, lo.long))

  pub at_other : (r : ℕ) → r ≢ x → slot_of (set slot x t) r ≡ slot_of slot r
  at_other r d = get_or-set_other slot x r t 0 d

  -- a slot that has another register than x keeps it
  pub keep : (p : ℕ) → p ≢ slot_of slot x → Used n (slot_of slot) p → Used n (slot_of (set slot x t)) p
  keep p d (r, rb, e) = (r, rb, at_other r (λ h. d (sym e ∙ ap (slot_of slot) h)) ∙ e)

  module _ (d : t ≢ slot_of slot x) where
    abbrev next : List ℕ
    next = set regs (slot_of slot x) (minus (get_or regs (slot_of slot x) 0) (2 ^ x))

    here : (r : ℕ) → ((r < n) × (slot_of slot r ≡ t)) ⊎ (r ≡ x) → (r < n) × (slot_of (set slot x t) r ≡ t)
    here r h = ⊎_elim
        (λ e. (subst (λ z. z < n) (sym e) xb, subst (λ z. slot_of (set slot x t) z ≡ t) (sym e) at_same))
        (λ e. ⊎_elim (λ (rb, i). (rb, at_other r e ∙ i)) (λ i. absurd (e i)) h)
        (eq_or r x)

    here' : (r : ℕ) → (r < n) × (slot_of (set slot x t) r ≡ t) → ((r < n) × (slot_of slot r ≡ t)) ⊎ (r ≡ x)
    here' r (rb, h) = ⊎_elim inr (λ e. inl (rb, sym (at_other r e) ∙ h)) (eq_or r x)

    moved_members : (p r : ℕ) → p < ρ → T (has (get_or (regs_moved regs x (slot_of slot x) t) p 0) r) ↔ ((r < n) × (slot_of (set slot x t) r ≡ p))
    unfolding regs_moved
    moved_members p r pb = ⊎_elim
        (λ e. subst (λ z. T (has (get_or (set next t (bit_or (get_or next t 0) (2 ^ x))) z 0) r) ↔ ((r < n) × (slot_of (set slot x t) r ≡ z))) (sym e)
        (Iff.trans (same_iff (ap (λ z. has z r) (get_or-set_same next t (bit_or (get_or next t 0) (2 ^ x)) 0 (simp length-set (omega (arith, long))))))
        (Iff.trans (or_is (get_or next t 0) (2 ^ x) r) (
          (λ h. here r (⊎_elim (λ i. inl ((k.members t r tb).0
              (subst (λ z. T (has z r)) (get_or-set_other regs (slot_of slot x) t (minus (get_or regs (slot_of slot x) 0) (2 ^ x)) 0 d) i)))
              (λ i. inr ((single_is x r).0 i)) h)),
          (λ h. ⊎_elim (λ i. inl (subst (λ z. T (has z r)) (sym (get_or-set_other regs (slot_of slot x) t (minus (get_or regs (slot_of slot x) 0) (2 ^ x)) 0 d))
              ((k.members t r tb).1 i))) (λ i. inr ((single_is x r).1 i)) (here' r h)),
        ))))
        (λ e. Iff.trans (same_iff (ap (λ z. has z r) (get_or-set_other next t p (bit_or (get_or next t 0) (2 ^ x)) 0 e))) (⊎_elim
        (λ i. subst (λ z. T (has (get_or next z 0) r) ↔ ((r < n) × (slot_of (set slot x t) r ≡ z))) (sym i)
        (Iff.trans (same_iff (ap (λ z. has z r)
        (get_or-set_same regs (slot_of slot x) (minus (get_or regs (slot_of slot x) 0) (2 ^ x)) 0
        (subst (λ z. slot_of slot x < z) (sym long) (lo.below x (omega arith))))))
        (Iff.trans (minus_is (get_or regs (slot_of slot x) 0) (2 ^ x) r) (
          (λ (h, o). let (rb, q) = (k.members (slot_of slot x) r (lo.below x (omega arith))).0 h in (rb, at_other r (λ z. o ((single_is x r).1 z)) ∙ q)),
          (λ (rb, h). let o : r ≢ x = (λ z. d (sym (subst (λ j. slot_of (set slot x t) j ≡ t) (sym z) at_same) ∙ h)) in
              ((k.members (slot_of slot x) r (lo.below x (omega arith))).1 (rb, sym (at_other r o) ∙ h), (λ z. o ((single_is x r).0 z)))),
        ))))
        (λ i. Iff.trans (same_iff (ap (λ z. has z r) (get_or-set_other regs (slot_of slot x) p (minus (get_or regs (slot_of slot x) 0) (2 ^ x)) 0 i)))
        (Iff.trans (k.members p r pb) (
          (λ (rb, h). (rb, at_other r (λ z. i (sym h ∙ ap (slot_of slot) z)) ∙ h)),
          (λ (rb, h). (rb, sym (at_other r (λ z. e (sym h ∙ subst (λ j. slot_of (set slot x t) j ≡ t) (sym z) at_same))) ∙ h)),
        )))
        (eq_or p (slot_of slot x))))
        (eq_or p t)

    moved_bytes : Masks ρ (regs_moved regs x (slot_of slot x) t)
    unfolding regs_moved
    moved_bytes =
        let s = pow_small ρ x (omega arith) in
        let b = bytes_set ρ regs (slot_of slot x) (minus (get_or regs (slot_of slot x) 0) (2 ^ x))
        (minus_small ρ (get_or regs (slot_of slot x) 0) (2 ^ x) (k.bytes (slot_of slot x)) s) k.bytes in
        bytes_set ρ next t (bit_or (get_or next t 0) (2 ^ x)) (or_small ρ (get_or next t 0) (2 ^ x) (b t) s) b

    pub grouped_moved : Grouped ρ n (set slot x t) (regs_moved regs x (slot_of slot x) t)
    grouped_moved = record { members = moved_members; bytes = moved_bytes }

-- a slot that is not x's alone has another register
pub another : (ρ φ n : ℕ) (s : Slots) (w : Window) (m : Mirrors ρ φ n s w) (x : ℕ) (xb : x < n) → get_or s.regs (slot_of s.slot x) 0 ≢ 2 ^ x
    → (j : ℕ) × (j < n) × (j ≢ x) × (slot_of s.slot j ≡ slot_of s.slot x)
another ρ φ n s w m x xb d =
    let (j, jb, o, t) = other ρ (get_or w.class x 0) x (up ρ φ n s w m x xb) ((m.pulled.same x x xb xb).1 refl) (λ e. d ((alone_is ρ φ n s w m x xb).0 e)) in
    let jn = (m.inside.same x j (up ρ φ n s w m x xb) jb t).1 in
    (j, jn, o, sym ((m.pulled.same x j xb jn).0 t))

-- so x leaves no slot unused
pub keep_all : (ρ φ n : ℕ) (s : Slots) (w : Window) (m : Mirrors ρ φ n s w) (x t : ℕ) (xb : x < n) → get_or s.regs (slot_of s.slot x) 0 ≢ 2 ^ x → (p : ℕ)
    → Used n (slot_of s.slot) p → Used n (slot_of (set s.slot x t)) p
keep_all ρ φ n s w m x t xb d p (r, rb, e) = ⊎_elim
    (λ i. let (j, jb, o, h) = another ρ φ n s w m x xb d in (j, jb, get_or-set_other s.slot x j t 0 o ∙ h ∙ ap (slot_of s.slot) (sym i) ∙ e))
    (λ i. (r, rb, get_or-set_other s.slot x r t 0 i ∙ e))
    (eq_or r x)
