-- The window of a trace can be stored: a record holds the window that tracks a state, in every format.
use mathlib.Core.Path.{◌≡◌, sym, ap, ◌∙◌, subst}
use mathlib.Core.Logic.{◌⊎◌, inl, inr}
use mathlib.Core.Bool.{Bool, true, false}
use Prim.Native.Nat.{ℕ, ◌+◌, ◌*◌, ◌/◌, ◌%◌, ◌^◌, ◌<◌}
use native.Mathlib.Omega.{arith}
use native.Mathlib.Nat.{zero-div, div-div-eq-div-mul}
use lib.Dec.{T, eqb, eqb→eq, ltb}
use lib.ListN.{get_or}
use borrow.Author.Tests.{eqb-true, eqb-false, lt-ltb, ltb-true, ltb-false}
use Rattle.base.proofs.Theory.Choice.{by_test}
use Rattle.base.specs.Masks.{bit, has}
use Rattle.base.specs.LeastAndSize.{least_in}
use Rattle.base.proofs.Theory.MaskLaws.{least-in, least_below, bits_same}
use Rattle.semantics.specs.Terms.{State}
use Rattle.semantics.specs.Closure.{symmetric, transitive, congruence}
use Rattle.semantics.specs.View.{Tracks}
use Rattle.semantics.specs.Facts.{Valid}
use Rattle.window.specs.declared.Window.{Window}
use Rattle.window.proofs.Theory.Bits.{same_bit, none_small}
use Rattle.window.specs.Places.{place_function, place_first, place_second}
use Rattle.window.proofs.Theory.Places.{place_is, entry_is, function_below, first_below, second_below}
use Rattle.window.specs.Viewing.{view, Shaped}
use Rattle.window.specs.Stepping as stepping
use Rattle.window.specs.Step.{IsWindow}
use Rattle.records.specs.Formats.{Format, results_of_format}
use Rattle.records.specs.Records.{first_format}
use Rattle.records.proofs.Theory.FormatLaws as laws
use Rattle.records.proofs.Theory.Storable.{Storable}

true-T : {b : Bool} → b ≡ true → T b
true-T e = subst T (sym e) tt

-- a mask that is not 0 has a lowest register
lowest : (ρ m : ℕ) → m < 2 ^ ρ → (m ≡ 0 → ⊥) → least_in ρ m < ρ
lowest ρ m h n = by_test (ltb (least_in ρ m) ρ) (λ t. ltb-true (least_in ρ m) ρ t)
    λ t. let l = ltb-false (least_in ρ m) ρ t in
    absurd (n (bits_same ρ m 0 h (none_small ρ) (λ i b. clear i (least_below ρ m i (omega arith)) ∙ sym (zero_bit i))))
  where
    clear : (i : ℕ) → has m i ≡ false → bit m i ≡ 0
    clear i f = let g = eqb-false (bit m i) 1 f in omega arith

    zero_bit : (i : ℕ) → bit 0 i ≡ 0
    zero_bit i = rw zero-div

module _ (ϕ : Format) (σ : State) (v : Valid σ) (w : Window) (holds : stepping.IsWindowInLayout ϕ.registers ϕ.functions σ w) where
  abbrev ρ : ℕ
  ρ = ϕ.registers

  abbrev φ : ℕ
  φ = ϕ.functions

  abbrev t : Tracks σ (view ϕ.registers ϕ.functions w)
  t = holds.tracks

  abbrev y : Shaped ϕ.registers ϕ.functions w
  y = holds.shaped

  module _ (i : ℕ) (ib : i < results_of_format ϕ) where
    abbrev f : ℕ
    f = place_function ϕ.registers i

    abbrev a : ℕ
    a = place_first ϕ.registers i

    abbrev b : ℕ
    b = place_second ϕ.registers i

    abbrev m : ℕ
    m = get_or w.result i 0

    entry : (r : ℕ) → T (has m r) → T ((view ρ φ w).result f a b r)
    entry r h = rw (lt-ltb f φ (function_below ρ φ i ib), place_is ρ i) h

    entry_back : (r : ℕ) → T ((view ρ φ w).result f a b r) → T (has m r)
    entry_back r = rw (lt-ltb f φ (function_below ρ φ i ib), place_is ρ i) λ h. h

    within : (r : ℕ) → r < ρ → T (has m r) → (a < σ.header.registers) × (b < σ.header.registers) × (r < σ.header.registers)
    within r rb h = holds.inside.result f a b r (first_below ρ φ i ib) (second_below ρ φ i ib) rb (entry r h)

    -- the class of a register that holds the result holds it, and nothing else does
    held_class : (c : ℕ) → c < ρ → T (has m c) → get_or w.class c 0 ≡ m
    held_class c cb h =
        let (an, bn, cn) = within c cb h in
        let e = (t.result f a b c an bn cn).0 (entry c h) in
        bits_same ρ (get_or w.class c 0) m (y.class_bytes c) (y.result_bytes i) λ r rb. same_bit (get_or w.class c 0) m r (
          (λ s. let (_, rn) = holds.inside.same c r cb rb s in
              entry_back r ((t.result f a b r an bn rn).1 (record {
                first = e.first;
                second = e.second;
                listed = e.listed;
                at_first = e.at_first;
                at_second = e.at_second;
                gives = transitive e.gives ((t.same c r cn rn).0 s);
              }))),
          (λ s. let (_, _, rn) = within r rb s in
              let g = (t.result f a b r an bn rn).0 (entry r s) in
              (t.same c r cn rn).1 (transitive (symmetric e.gives) (transitive
              (congruence e.listed g.listed (transitive e.at_first (symmetric g.at_first)) (transitive e.at_second (symmetric g.at_second)))
              g.gives))),
        )

    named : (m ≡ 0) ⊎ ((least_in ρ m < ρ) × (get_or w.class (least_in ρ m) 0 ≡ m))
    named = by_test (eqb m 0) (λ u. inl (eqb-true m 0 u))
        λ u. let l = lowest ρ m (y.result_bytes i) (eqb-false m 0 u) in inr (l, held_class (least_in ρ m) l (true-T (least-in ρ m l)))

    was_computed : (m ≡ 0) ⊎ (bit (get_or w.ever (i / ρ) 0) (i % ρ) ≡ 1)
    was_computed = by_test (eqb m 0) (λ u. inl (eqb-true m 0 u))
        λ u. let l = lowest ρ m (y.result_bytes i) (eqb-false m 0 u) in
        let h = true-T (least-in ρ m l) in
        let (an, bn, cn) = within (least_in ρ m) l h in
        let e = (t.result f a b (least_in ρ m) an bn cn).0 (entry (least_in ρ m) h) in
        let k : ρ * f + a ≡ i / ρ = ap (λ z. ρ * z + a) (sym (div-div-eq-div-mul i ρ ρ)) ∙ entry_is ρ (i / ρ) in
        inr (eqb→eq _ 1 (back k ((t.ever f a b an bn).1 (_, e))))
      where
        back : ρ * f + a ≡ i / ρ → T ((view ρ φ w).ever f a b) → T (has (get_or w.ever (i / ρ) 0) (i % ρ))
        back k = rw (lt-ltb f φ (function_below ρ φ i ib), k) λ h. h

  -- the window of a state can be stored
  pub storable_in : laws.StorableInFormat ϕ w
  storable_in = record {
    classes = y.class;
    unequals = y.unequal;
    marks = y.mark;
    result_count = y.result;
    evers = y.ever;
    class_masks = y.class_bytes;
    unequal_masks = y.unequal_bytes;
    lines = y.ever_bytes;
    named = named;
    computed = was_computed;
    counted = holds.counted;
  }

-- and so in the first edition's
pub storable : (σ : State) → Valid σ → (w : Window) → IsWindow σ w → Storable w
storable = storable_in first_format
