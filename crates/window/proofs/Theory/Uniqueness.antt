-- A state has one window: two windows that hold it are the same value.
use mathlib.Core.Path.{◌≡◌, sym, ap, ◌∙◌}
use mathlib.Core.Logic.Iff
use mathlib.Core.Logic.{◌⊎◌, inl, inr, ◌↔◌, ⊎_elim}
use mathlib.Core.Bool.{Bool, false}
use mathlib.Core.List.{List}
use Prim.Native.Nat.{ℕ, ◌*◌, ◌/◌, ◌%◌, ◌<◌}
use native.Mathlib.Omega.{arith}
use native.Mathlib.Nat.{mod-lt}
use lib.Dec.{T}
use lib.ListN.{get_or, length}
use lib.Seq.{ext_get_or}
use borrow.Author.Tests.{lt-ltb, eqb-true, eqb-false}
use Rattle.base.proofs.Theory.Choice.{by_test}
use Rattle.base.specs.Masks.{bit, has}
use Rattle.base.proofs.Theory.MaskLaws.{bits_same}
use Rattle.semantics.proofs.Theory.Of.{same_test}
use Rattle.semantics.specs.Terms.{State}
use Rattle.window.specs.Places.{place_function, place_first, place_second}
use Rattle.window.proofs.Theory.Places.{entry_is, place_is, some, line_below, function_below, first_below, second_below}
use Rattle.window.proofs.Theory.Bits.{less_or}
use Rattle.window.specs.Viewing.{view, Masks}
use Rattle.window.specs.Counting.{counted_classes}
use Rattle.window.specs.Stepping.{IsWindowInLayout}
use Rattle.window.specs.declared.Window.{Window}

pub bit_same : (m n i : ℕ) → has m i ≡ has n i → bit m i ≡ bit n i
bit_same m n i e = by_test (has m i)
    (λ t. eqb-true (bit m i) 1 t ∙ sym (eqb-true (bit n i) 1 (sym e ∙ t)))
    (λ t. let a = eqb-false (bit m i) 1 t in let b = eqb-false (bit n i) 1 (sym e ∙ t) in omega arith)

module _ (ρ φ : ℕ) where
  masks_same : (n : ℕ) (l m : List ℕ) → (length l ≡ n) × Masks ρ l → (length m ≡ n) × Masks ρ m
      → ((k s : ℕ) → k < n → s < ρ → T (has (get_or l k 0) s) ↔ T (has (get_or m k 0) s)) → l ≡ m
  masks_same n l m (a, b) (c, d) f =
      ext_get_or 0 l m (a ∙ sym c) (λ k h. bits_same ρ (get_or l k 0) (get_or m k 0) (b k) (d k)
      (λ s sb. bit_same (get_or l k 0) (get_or m k 0) s (same_test (has (get_or l k 0) s) (has (get_or m k 0) s) (f k s (omega arith) sb))))

  flags_same : (n : ℕ) (l m : List Bool) → length l ≡ n → length m ≡ n → ((k : ℕ) → k < n → T (get_or l k false) ↔ T (get_or m k false)) → l ≡ m
  flags_same n l m a c f = ext_get_or false l m (a ∙ sym c) (λ k h. same_test (get_or l k false) (get_or m k false) (f k (omega arith)))

  module _ (σ : State) (w w' : Window) (h : IsWindowInLayout ρ φ σ w) (h' : IsWindowInLayout ρ φ σ w') where
    -- a fact that holds within the count, and of which neither window says anything outside
    within : (P : Type 0) (b c : Bool) → P ⊎ ¬ P → (P → T b ↔ T c) → (T b → P) → (T c → P) → T b ↔ T c
    within P b c (inl p) f g k = f p
    within P b c (inr n) f g k = ((λ t. absurd (n (g t))), (λ t. absurd (n (k t))))

    abbrev n : ℕ
    n = σ.header.registers

    both : (r q : ℕ) → ((r < n) × (q < n)) ⊎ ¬ ((r < n) × (q < n))
    both r q = ⊎_elim (λ a. ⊎_elim (λ b. inl (a, b)) (λ b. inr (λ (_, c). omega arith)) (less_or q n)) (λ a. inr (λ (c, _). omega arith)) (less_or r n)

    all : (r q c : ℕ) → ((r < n) × (q < n) × (c < n)) ⊎ ¬ ((r < n) × (q < n) × (c < n))
    all r q c = ⊎_elim (λ (a, b). ⊎_elim (λ d. inl (a, b, d)) (λ d. inr (λ (_, _, k). omega arith)) (less_or c n)) (λ d. inr (λ (a, b, _). d (a, b))) (both r q)

    class_same : w.class ≡ w'.class
    class_same = masks_same ρ w.class w'.class (h.shaped.class, h.shaped.class_bytes) (h'.shaped.class, h'.shaped.class_bytes) (λ r q rb qb.
        within ((r < n) × (q < n)) ((view ρ φ w).same r q) ((view ρ φ w').same r q) (both r q)
        (λ (a, b). Iff.trans (h.tracks.same r q a b) (Iff.symm (h'.tracks.same r q a b))) (h.inside.same r q rb qb) (h'.inside.same r q rb qb))

    unequal_same : w.unequal ≡ w'.unequal
    unequal_same = masks_same ρ w.unequal w'.unequal (h.shaped.unequal, h.shaped.unequal_bytes) (h'.shaped.unequal, h'.shaped.unequal_bytes)
        (λ r q rb qb.
        within ((r < n) × (q < n)) ((view ρ φ w).apart r q) ((view ρ φ w').apart r q) (both r q)
        (λ (a, b). Iff.trans (h.tracks.apart r q a b) (Iff.symm (h'.tracks.apart r q a b))) (h.inside.apart r q rb qb) (h'.inside.apart r q rb qb))

    result_at : (f a b c : ℕ) → a < ρ → b < ρ → c < ρ → T ((view ρ φ w).result f a b c) ↔ T ((view ρ φ w').result f a b c)
    result_at f a b c ab bb cb = within ((a < n) × (b < n) × (c < n)) ((view ρ φ w).result f a b c) ((view ρ φ w').result f a b c) (all a b c)
        (λ (p, q, r). Iff.trans (h.tracks.result f a b c p q r) (Iff.symm (h'.tracks.result f a b c p q r))) (h.inside.result f a b c ab bb cb)
        (h'.inside.result f a b c ab bb cb)

    ever_at : (f a b : ℕ) → a < ρ → b < ρ → T ((view ρ φ w).ever f a b) ↔ T ((view ρ φ w').ever f a b)
    ever_at f a b ab bb = within ((a < n) × (b < n)) ((view ρ φ w).ever f a b) ((view ρ φ w').ever f a b) (both a b)
        (λ (p, q). Iff.trans (h.tracks.ever f a b p q) (Iff.symm (h'.tracks.ever f a b p q))) (h.inside.ever f a b ab bb) (h'.inside.ever f a b ab bb)

    cell : (k c : ℕ) → k < φ * ρ * ρ → c < ρ → T (has (get_or w.result k 0) c) ↔ T (has (get_or w'.result k 0) c)
    cell k c kb cb = rw (lt-ltb (place_function ρ k) φ (function_below ρ φ k kb), place_is ρ k) at
        (result_at (place_function ρ k) (place_first ρ k) (place_second ρ k) c (first_below ρ φ k kb) (second_below ρ φ k kb) cb)

    flag : (k s : ℕ) → k < φ * ρ → s < ρ → T (has (get_or w.ever k 0) s) ↔ T (has (get_or w'.ever k 0) s)
    flag k q kb qb = rw (lt-ltb (k / ρ) φ (line_below ρ φ k kb), entry_is ρ k) at (ever_at (k / ρ) (k % ρ) q (mod-lt k (some ρ φ k kb)) qb)

    result_same : w.result ≡ w'.result
    result_same = masks_same (φ * ρ * ρ) w.result w'.result (h.shaped.result, h.shaped.result_bytes)
        (h'.shaped.result, h'.shaped.result_bytes) cell

    ever_same : w.ever ≡ w'.ever
    ever_same = masks_same (φ * ρ) w.ever w'.ever (h.shaped.ever, h.shaped.ever_bytes) (h'.shaped.ever, h'.shaped.ever_bytes) flag

    mark_same : w.mark ≡ w'.mark
    mark_same = flags_same ρ w.mark w'.mark h.shaped.mark h'.shaped.mark (λ r rb.
        within (r < n) ((view ρ φ w).marked r) ((view ρ φ w').marked r) (⊎_elim inl (λ a. inr (λ b. omega arith)) (less_or r n))
        (λ a. Iff.trans (h.tracks.marked r a) (Iff.symm (h'.tracks.marked r a))) (h.inside.marked r rb) (h'.inside.marked r rb))

    -- the number "follows from the classes" (document 02, 6)
    count_same : w.classes ≡ w'.classes
    count_same = h.counted ∙ ap (counted_classes ρ) class_same ∙ sym h'.counted

    pub unique : w ≡ w'
    unique = let i = same_test w.infeasible w'.infeasible (Iff.trans h.tracks.infeasible (Iff.symm h'.tracks.infeasible)) in
        λ k. record {
          class = class_same k;
          unequal = unequal_same k;
          result = result_same k;
          ever = ever_same k;
          mark = mark_same k;
          infeasible = i k;
          classes = count_same k;
        }
