-- An application on slots is one on the window.
use mathlib.Core.Path.{◌≡◌, refl, sym, ap, ap₂, ◌∙◌, subst}
use mathlib.Core.Logic.Iff
use mathlib.Core.Logic.{◌⊎◌, inl, inr, ◌↔◌, ◌≢◌, ⊎_elim}
use mathlib.Core.Bool.{Bool, false, ◌||◌}
use mathlib.Core.List.{List}
use Prim.Native.Nat.{ℕ, ◌^◌, ◌≤◌, ◌<◌}
use native.Mathlib.Omega.{arith}
use lib.Dec.{eqb, ltb, T, lt→ltb}
use lib.Bits.{bit_or}
use lib.ListN.{length, get_or, set}
use lib.Seq.{get_or-set_same, get_or-set_other}
use borrow.Author.Tests.{eqb-true, eqb-false, eq-eqb, ne_eqb, lt-ltb, le-ltb}
use Rattle.base.proofs.Theory.Choice.{by_test}
use Rattle.base.specs.Masks.{has}
use Rattle.base.specs.LeastAndSize.{least_in, size_of}
use Rattle.base.proofs.Theory.MaskLaws.{least-in, least_below, bits_same}
use Rattle.semantics.proofs.Theory.Booleans.{or_e, or_l, or_r, and_r, and_i}
use Rattle.semantics.proofs.Theory.Of.{same_test}
use Rattle.semantics.specs.View.{View}
use Rattle.letters.specs.declared.Letter.TheVariants.{Apply}
use Rattle.window.proofs.Theory.Bits.{truth, no_truth, none_small, none_in, or_is, or_small, pow_small, single_is, same_iff, eq_or, less_or}
use Rattle.window.specs.Places.{place}
use Rattle.window.specs.Adding.{masks_forgotten}
use Rattle.window.specs.Marks.{lost_of, marked_with}
use Rattle.window.proofs.Theory.Marks.{Beneath}
use Rattle.window.specs.Performing as windows
use Rattle.window.specs.Performing.{fallen_of, arguments_of}
use Rattle.window.proofs.Theory.Laws.{Laws}
use Rattle.window.specs.Viewing.{view, Shaped}
use Rattle.window.proofs.Theory.Copying.{fallen_is, marked_at, marked_length}
use Rattle.window.proofs.Theory.Applying.{renamed_applied, inside_applied}
use Rattle.window.proofs.Theory.Shape.{shaped_performed}
use Rattle.window.proofs.Theory.Uniqueness.{bit_same}
use Rattle.window.specs.Counting.{counted_classes}
use Rattle.window.proofs.Theory.Counted.{partition_of, counted_applied}
use Rattle.window.specs.declared.Window.{Window}
use Rattle.slots.specs.Slots.{Slots, slot_of, SlotTableLengths}
use Rattle.slots.specs.Performing.{placed, marks_in, free_from, register_in, results_dropped, result_recorded, ever_recorded, dropped_slots, recorded_slots}
use Rattle.slots.specs.Performing.{renewed_slots, freshened_slots, new_slots, apply_slots}
use Rattle.slots.proofs.Theory.Laying.{LaidIn, marks_length, tabled_dropped, laid_renewed, laid_placed, laid_recorded}
use Rattle.slots.specs.Represents.{Used, Single, slot_view, Mirrors, RepresentsWindow}
use Rattle.slots.proofs.Theory.Pulling.{laws_pulled, pulled_applied, Renewed, renewed_dropped, renewed_free, clean_renewed, single_renewed}
use Rattle.slots.proofs.Theory.Tables.{dropped, recorded}
use Rattle.slots.proofs.Theory.Marking.{one_more, up, low, only, alone_is, lost_is}
use Rattle.slots.proofs.Theory.Moving.{at_same, grouped_moved, another, keep_all}
use Rattle.slots.proofs.Theory.Copies.{marks_at, copied_represents}
use Rattle.slots.proofs.Theory.Room.{free_slot}

module _ (ρ φ n : ℕ) (s : Slots) (w : Window) (m : Mirrors ρ φ n s w) (x f y z : ℕ) (xb : x < n) (fb : f < φ) (yb : y < n) (zb : z < n) where
  abbrev g : ℕ → ℕ
  g = slot_of s.slot

  abbrev K : View
  K = slot_view ρ φ s.unequal s.result s.ever

  abbrev w' : Window
  w' = windows.applied_of ρ φ w x f y z

  laws : Laws n (view ρ φ w)
  laws = laws_pulled n g (view ρ φ w) K m.pulled

  abbrev more : ℕ
  more = arguments_of x y z (get_or w.class y 0) (get_or w.class z 0)

  abbrev more' : ℕ
  more' = arguments_of (slot_of s.slot x) (slot_of s.slot y) (slot_of s.slot z) (2 ^ slot_of s.slot y) (2 ^ slot_of s.slot z)

  more_small : more < 2 ^ ρ
  unfolding arguments_of
  more_small = by_test (eqb y x || eqb z x)
      (λ t. rw t (or_small ρ (get_or w.class y 0) (get_or w.class z 0) (m.shaped.class_bytes y) (m.shaped.class_bytes z))) (λ t. rw t (none_small ρ))

  more_small' : more' < 2 ^ ρ
  unfolding arguments_of
  more_small' = by_test (eqb (g y) (g x) || eqb (g z) (g x))
      (λ t. rw t (or_small ρ (2 ^ g y) (2 ^ g z) (pow_small ρ (g y) (low ρ φ n s w m y yb)) (pow_small ρ (g z) (low ρ φ n s w m z zb))))
      (λ t. rw t (none_small ρ))

  -- ---- marks

  fall : (q : ℕ) → T (has (fallen_of ρ φ (get_or w.class x 0) w.result x more) q) ↔ ((size_of ρ (get_or w.class x 0) ≡ 1) × Beneath ρ φ w.result x more q)
  fall = fallen_is ρ φ (get_or w.class x 0) w.result x more (up ρ φ n s w m x xb) more_small

  module _ (mk : List Bool) (long : length mk ≡ ρ)
      (at_mark : (q : ℕ) → q < n → q ≢ x
      → (T ((view ρ φ w).marked q) ⊎ T (has (fallen_of ρ φ (get_or w.class x 0) w.result x more) q)) ↔ T (get_or mk q false)) where
    marks : (r : ℕ) → r < n → T ((view ρ φ w').marked r) ↔ T (get_or (set mk x false) r false)
    unfolding windows.applied_of
    marks r rb = ⊎_elim
        (λ e. let i : get_or (set (marked_with ρ w.mark F) x false) r false ≡ false =
        ap (λ k. get_or (set (marked_with ρ w.mark F) x false) k false) e
        ∙ get_or-set_same (marked_with ρ w.mark F) x false false (subst (λ k. x < k) (sym (marked_length ρ φ w.mark F)) xu) in
        let j : get_or (set mk x false) r false ≡ false =
        ap (λ k. get_or (set mk x false) k false) e ∙ get_or-set_same mk x false false (subst (λ k. x < k) (sym long) xu) in
        same_iff (i ∙ sym j))
        (λ d. Iff.trans (same_iff (get_or-set_other (marked_with ρ w.mark F) x r false false d ∙ marked_at ρ φ w.mark F r (up ρ φ n s w m r rb)))
        (Iff.trans (
          (λ t. or_e ((view ρ φ w).marked r) (has F r) t),
          (λ k. ⊎_elim (or_l ((view ρ φ w).marked r) (has F r)) (or_r ((view ρ φ w).marked r) (has F r)) k),
        )
        (Iff.trans (at_mark r rb d) (same_iff (sym (get_or-set_other mk x r false false d))))))
        (eq_or r x)
      where
        F : ℕ
        F = fallen_of ρ φ (get_or w.class x 0) w.result x more

        xu : x < ρ
        xu = up ρ φ n s w m x xb

  counts : w'.classes ≡ counted_classes ρ w'.class
  counts = counted_applied ρ φ w m.shaped n (partition_of ρ φ n w laws m.inside) m.counted x f y z xb

  kept_infeasible : w'.infeasible ≡ w.infeasible
  unfolding windows.applied_of
  kept_infeasible = refl

  module _ (o : Single ρ (slot_view ρ φ s.unequal s.result s.ever))
      (none : (c : ℕ) → c < ρ → ¬ T ((slot_view ρ φ s.unequal s.result s.ever).result f (slot_of s.slot y) (slot_of s.slot z) c))
      (sh : Shaped ρ φ w') where
    -- ---- x is alone in its slot

    module _ (e : get_or s.regs (slot_of s.slot x) 0 ≡ 2 ^ x) where
      alone : (r : ℕ) → r < n → slot_of s.slot r ≡ slot_of s.slot x → r ≡ x
      alone = only ρ φ n s w m x xb e

      test_same : (q : ℕ) → q < n → eqb (slot_of s.slot q) (slot_of s.slot x) ≡ eqb q x
      test_same q qb = ⊎_elim (λ i. eq-eqb (g q) (g x) (ap g i) ∙ sym (eq-eqb q x i)) (λ i. ne_eqb (g q) (g x) (λ j. i (alone q qb j)) ∙ sym (ne_eqb q x i))
          (eq_or q x)

      more_is : (r : ℕ) → r < n → T (has more r) ↔ T (has more' (slot_of s.slot r))
      unfolding arguments_of
      more_is r rb =
          let t' = ap₂ ◌||◌ (test_same y yb) (test_same z zb) in
          by_test (eqb y x || eqb z x)
          (λ t. rw (t', t) (Iff.trans (or_is (get_or w.class y 0) (get_or w.class z 0) r) (Iff.trans (
            (λ k. ⊎_elim (λ i. inl ((single_is (g y) (g r)).1 (sym ((m.pulled.same y r yb rb).0 i))))
                (λ i. inr ((single_is (g z) (g r)).1 (sym ((m.pulled.same z r zb rb).0 i)))) k),
            (λ k. ⊎_elim (λ i. inl ((m.pulled.same y r yb rb).1 (sym ((single_is (g y) (g r)).0 i))))
                (λ i. inr ((m.pulled.same z r zb rb).1 (sym ((single_is (g z) (g r)).0 i)))) k),
          ) ((λ k. (or_is (2 ^ g y) (2 ^ g z) (g r)).1 k), (λ k. (or_is (2 ^ g y) (2 ^ g z) (g r)).0 k)))))
          (λ t. rw (t', t) ((λ k. absurd (none_in r k)), (λ k. absurd (none_in (g r) k))))

      abbrev lost : ℕ
      lost = bit_or (lost_of ρ φ s.result (slot_of s.slot x) more') (2 ^ slot_of s.slot x)

      at_mark : (q : ℕ) → q < n → q ≢ x
          → (T ((view ρ φ w).marked q) ⊎ T (has (fallen_of ρ φ (get_or w.class x 0) w.result x more) q))
          ↔ T (get_or (marks_in ρ s.slot s.mark (bit_or (lost_of ρ φ s.result (slot_of s.slot x) more') (2 ^ slot_of s.slot x))) q false)
      at_mark q qb i =
          let below = Iff.trans (lost_is ρ φ n s w m x more more' xb alone more_is more_small' q qb)
          (one_more (lost_of ρ φ s.result (g x) more') (g x) (g q) (λ h. i (alone q qb h))) in
          let here = marks_at ρ s.slot s.mark lost q (up ρ φ n s w m q qb) in (
            (λ k. subst T (sym here) (⊎_elim (λ t. or_l (get_or s.mark q false) (has lost (g q)) ((m.marked q qb).0 t))
                (λ t. or_r (get_or s.mark q false) (has lost (g q)) (below.0 ((fall q).0 t).1)) k)),
            (λ k. ⊎_elim (λ t. inl ((m.marked q qb).1 t)) (λ t. inr ((fall q).1 ((alone_is ρ φ n s w m x xb).1 e, below.1 t)))
                (or_e (get_or s.mark q false) (has lost (g q)) (subst T here k))),
          )

      abbrev D : View
      D = slot_view ρ φ (masks_forgotten ρ (slot_of s.slot x) s.unequal) (results_dropped ρ (slot_of s.slot x) s.result)
          (masks_forgotten ρ (slot_of s.slot x) s.ever)

      abbrev K₁ : View
      K₁ = slot_view ρ φ (masks_forgotten ρ (slot_of s.slot x) s.unequal)
          (result_recorded ρ f (slot_of s.slot y) (slot_of s.slot z) (slot_of s.slot x) (results_dropped ρ (slot_of s.slot x) s.result))
          (ever_recorded ρ f (slot_of s.slot y) (slot_of s.slot z) (slot_of s.slot x) (masks_forgotten ρ (slot_of s.slot x) s.ever))

      pub renewed : RepresentsWindow ρ φ n (renewed_slots ρ φ s x f (slot_of s.slot y) (slot_of s.slot z)) w'
      unfolding renewed_slots recorded_slots dropped_slots
      renewed = record {
        mirrors = record {
          shaped = sh;
          inside = inside_applied ρ φ w m.shaped n laws m.inside x f y z xb fb yb zb;
          laid = laid_renewed ρ φ s x f (g y) (g z) m.laid;
          grouped = m.grouped;
          clean = clean_renewed ρ (g x) (Used n g) (Used n g) K K₁ m.clean (λ p _ u. u) f (g y) (g z) (y, yb, refl) (z, zb, refl) (x, xb, refl) new;
          pulled = pulled_applied ρ n g g (view ρ φ w) (view ρ φ w') K K₁ m.pulled (low ρ φ n s w m) x f y z (g x) xb yb zb
              (λ r rb d. (refl, λ h. d (alone r rb h))) refl
              (renamed_applied ρ φ w m.shaped n laws m.inside x f y z xb fb yb zb) new;
          marked = marks (marks_in ρ s.slot s.mark (bit_or (lost_of ρ φ s.result (slot_of s.slot x) more') (2 ^ slot_of s.slot x)))
              (marks_length ρ s.slot s.mark lost) at_mark;
          infeasible = kept_infeasible ∙ m.infeasible;
          counted = counts;
        };
        single = single_renewed ρ f (g y) (g z) (g x) K K₁ o none new;
      }
        where
          t : SlotTableLengths ρ φ (masks_forgotten ρ (slot_of s.slot x) s.unequal) (results_dropped ρ (slot_of s.slot x) s.result)
              (masks_forgotten ρ (slot_of s.slot x) s.ever)
          t = tabled_dropped ρ φ (slot_of s.slot x) s.unequal s.result s.ever m.laid.tables

          new : Renewed ρ f (slot_of s.slot y) (slot_of s.slot z) (slot_of s.slot x) (slot_view ρ φ s.unequal s.result s.ever)
              (slot_view ρ φ (masks_forgotten ρ (slot_of s.slot x) s.unequal)
              (result_recorded ρ f (slot_of s.slot y) (slot_of s.slot z) (slot_of s.slot x) (results_dropped ρ (slot_of s.slot x) s.result))
              (ever_recorded ρ f (slot_of s.slot y) (slot_of s.slot z) (slot_of s.slot x) (masks_forgotten ρ (slot_of s.slot x) s.ever)))
          new = renewed_dropped ρ f (g y) (g z) (g x) K D K₁
              (dropped ρ φ s.unequal s.result s.ever m.laid.tables.unequal_long m.laid.tables.result_long m.laid.tables.ever_long (g x))
              (recorded ρ φ (masks_forgotten ρ (g x) s.unequal) (results_dropped ρ (g x) s.result) (masks_forgotten ρ (g x) s.ever) t.unequal_long
              t.result_long t.ever_long f (g y) (g z) (g x) fb (low ρ φ n s w m y yb) (low ρ φ n s w m z zb))

    -- ---- x leaves its slot to others

    module _ (e : get_or s.regs (slot_of s.slot x) 0 ≢ 2 ^ x) where
      abbrev c : ℕ
      c = free_from s.regs 0 ρ

      free : (free_from s.regs 0 ρ < ρ) × (¬ Used n (slot_of s.slot) (free_from s.regs 0 ρ))
      free = let (j, jb, d, h) = another ρ φ n s w m x xb e in free_slot ρ n s.slot s.regs m.grouped x j xb jb d h m.inside.fits

      abbrev g' : ℕ → ℕ
      g' = slot_of (set s.slot x (free_from s.regs 0 ρ))

      abbrev K₂ : View
      K₂ = slot_view ρ φ s.unequal (result_recorded ρ f (slot_of s.slot y) (slot_of s.slot z) (free_from s.regs 0 ρ) s.result)
          (ever_recorded ρ f (slot_of s.slot y) (slot_of s.slot z) (free_from s.regs 0 ρ) s.ever)

      own : slot_of (set s.slot x (free_from s.regs 0 ρ)) x ≡ free_from s.regs 0 ρ
      own = at_same ρ n s.slot s.regs x c m.inside.fits m.laid.low m.laid.regs_long m.grouped xb free.0

      lay : LaidIn ρ φ (recorded_slots ρ φ (placed s x (free_from s.regs 0 ρ)) x f (slot_of s.slot y) (slot_of s.slot z) (free_from s.regs 0 ρ))
      lay = laid_recorded ρ φ (placed s x c) x f (g y) (g z) c (laid_placed ρ φ s x c (up ρ φ n s w m x xb) free.0 m.laid)

      new : Renewed ρ f (slot_of s.slot y) (slot_of s.slot z) (free_from s.regs 0 ρ) (slot_view ρ φ s.unequal s.result s.ever) K₂
      new = renewed_free ρ f (g y) (g z) c (Used n g) K K₂ m.clean free.1 (y, yb, refl) (z, zb, refl)
          (recorded ρ φ s.unequal s.result s.ever m.laid.tables.unequal_long m.laid.tables.result_long m.laid.tables.ever_long f (g y)
          (g z) c fb (low ρ φ n s w m y yb) (low ρ φ n s w m z zb))

      pub freshened : RepresentsWindow ρ φ n (freshened_slots ρ φ s x f (slot_of s.slot y) (slot_of s.slot z)) w'
      unfolding freshened_slots recorded_slots
      freshened = rw (lt-ltb c ρ free.0) (record {
        mirrors = record {
          shaped = sh;
          inside = inside_applied ρ φ w m.shaped n laws m.inside x f y z xb fb yb zb;
          laid = lay;
          grouped = grouped_moved ρ n s.slot s.regs x c m.inside.fits m.laid.low m.laid.regs_long m.grouped xb free.0
              (λ i. free.1 (x, xb, sym i));
          clean = clean_renewed ρ c (Used n g) (Used n g') K K₂ m.clean (λ p _ u. keep_all ρ φ n s w m x c xb e p u) f (g y) (g z) (y, yb, refl)
              (z, zb, refl) (x, xb, own) new;
          pulled = pulled_applied ρ n g g' (view ρ φ w) (view ρ φ w') K K₂ m.pulled (λ r rb. lay.low.below r (up ρ φ n s w m r rb)) x f y z c xb yb zb
              (λ r rb d. (sym (get_or-set_other s.slot x r c 0 d), λ h. free.1 (r, rb, h))) own
              (renamed_applied ρ φ w m.shaped n laws m.inside x f y z xb fb yb zb) new;
          marked = marks s.mark m.laid.mark_long (λ q qb d. (
            (λ k. ⊎_elim (λ t. (m.marked q qb).0 t) (λ t. absurd (e ((alone_is ρ φ n s w m x xb).0 ((fall q).0 t).0))) k),
            (λ k. inl ((m.marked q qb).1 k)),
          ));
          infeasible = kept_infeasible ∙ m.infeasible;
          counted = counts;
        };
        single = single_renewed ρ f (g y) (g z) c K K₂ o none new;
      })

    pub new_represents : RepresentsWindow ρ φ n (new_slots ρ φ s x f (slot_of s.slot y) (slot_of s.slot z)) w'
    unfolding new_slots
    new_represents = by_test (eqb (get_or s.regs (g x) 0) (2 ^ x)) (λ t. rw t (renewed (eqb-true (get_or s.regs (g x) 0) (2 ^ x) t)))
        (λ t. rw t (freshened (eqb-false (get_or s.regs (g x) 0) (2 ^ x) t)))

-- ---- a known value

module _ (ρ φ n : ℕ) (s : Slots) (w : Window) (h : RepresentsWindow ρ φ n s w) (x f y z : ℕ) (xb : x < n) (fb : f < φ) (yb : y < n) (zb : z < n) where
  -- the slots that hold the value, and the registers
  abbrev E : ℕ
  E = get_or s.result (place ρ f (slot_of s.slot y) (slot_of s.slot z)) 0

  abbrev R : ℕ
  R = get_or w.result (place ρ f y z) 0

  pub entry_is : (r : ℕ) → r < ρ → T (has R r) ↔ ((r < n) × T (has E (slot_of s.slot r)))
  entry_is r rb = (
    (λ t. let u = and_i (ltb f φ) (has R r) (lt→ltb f φ fb) t in
        let (_, _, rn) = h.mirrors.inside.result f y z r (up ρ φ n s w h.mirrors y yb) (up ρ φ n s w h.mirrors z zb) rb u in
        (rn, and_r (ltb f φ) (has E (slot_of s.slot r)) ((h.mirrors.pulled.result f y z r yb zb rn).0 u))),
    (λ (rn, t). and_r (ltb f φ) (has R r) ((h.mirrors.pulled.result f y z r yb zb rn).1 (and_i (ltb f φ) (has E (slot_of s.slot r)) (lt→ltb f φ fb) t))),
  )

  -- with a slot in it, the registers are that slot's
  known : (t : ℕ) → t < ρ → T (has E t) → R ≡ get_or s.regs t 0
  known t tb u = bits_same ρ R B (h.mirrors.shaped.result_bytes (place ρ f y z)) (h.mirrors.grouped.bytes t)
      (λ i ib. bit_same R B i (same_test (has R i) (has B i) (
        (λ k. let (ni, e) = (entry_is i ib).0 k in
            (h.mirrors.grouped.members t i tb).1 (
              ni,
              h.single.one f (slot_of s.slot y) (slot_of s.slot z) (slot_of s.slot i) t (low ρ φ n s w h.mirrors y yb)
                  (low ρ φ n s w h.mirrors z zb)
                  (low ρ φ n s w h.mirrors i ni) tb
                  (and_i (ltb f φ) (has E (slot_of s.slot i)) (lt→ltb f φ fb) e) (and_i (ltb f φ) (has E t) (lt→ltb f φ fb) u),
            )),
        (λ k. let (ni, e) = (h.mirrors.grouped.members t i tb).0 k in (entry_is i ib).1 (ni, subst (λ j. T (has E j)) (sym e) u)),
      )))
    where
      B : ℕ
      B = get_or s.regs t 0

  -- the register that the value is copied from is the window's, and there is none where the window has none
  found : ((register_in ρ s.regs E ≡ least_in ρ R) × (least_in ρ R < n))
      ⊎ ((ρ ≤ register_in ρ s.regs E) × (ρ ≤ least_in ρ R) × ((c : ℕ) → c < ρ → ¬ T (has E c)))
  unfolding register_in
  found = ⊎_elim
      (λ l. let u = truth (has E (least_in ρ E)) (least-in ρ E l) in
      let k = known (least_in ρ E) l u in
      let (_, _, (r, rn, e)) = h.mirrors.clean.result f (slot_of s.slot y) (slot_of s.slot z) (least_in ρ E) (low ρ φ n s w h.mirrors y yb)
      (low ρ φ n s w h.mirrors z zb) l (and_i (ltb f φ) (has E (least_in ρ E)) (lt→ltb f φ fb) u) in
      let ru = up ρ φ n s w h.mirrors r rn in
      let ir = (entry_is r ru).1 (rn, subst (λ j. T (has E j)) (sym e) u) in
      let lr : least_in ρ R < ρ = ⊎_elim (λ q. q) (λ q. absurd (no_truth (has R r) (least_below ρ R r (omega arith)) ir)) (less_or (least_in ρ R) ρ) in
      inl (rw (lt-ltb (least_in ρ E) ρ l) (ap (least_in ρ) (sym k)), ((entry_is (least_in ρ R) lr).0 (truth (has R (least_in ρ R)) (least-in ρ R lr))).0))
      (λ l. let none : (c : ℕ) → c < ρ → ¬ T (has E c) = (λ c cb. no_truth (has E c) (least_below ρ E c (omega arith))) in
      let lr : ρ ≤ least_in ρ R = ⊎_elim
      (λ q. let (rn, t) = (entry_is (least_in ρ R) q).0 (truth (has R (least_in ρ R)) (least-in ρ R q)) in
      absurd (none (slot_of s.slot (least_in ρ R)) (low ρ φ n s w h.mirrors (least_in ρ R) rn) t)) (λ q. q) (less_or (least_in ρ R) ρ) in
      inr (rw (le-ltb (least_in ρ E) ρ l) (omega arith), lr, none))
      (less_or (least_in ρ E) ρ)

  shaped_new : ρ ≤ least_in ρ R → Shaped ρ φ (windows.applied_of ρ φ w x f y z)
  unfolding windows.apply_of
  shaped_new l = rw (le-ltb (least_in ρ R) ρ l) at
      (shaped_performed ρ φ w (Apply x f y z) (up ρ φ n s w h.mirrors x xb, fb, up ρ φ n s w h.mirrors y yb, up ρ φ n s w h.mirrors z zb)
      h.mirrors.shaped)

  pub apply_represents : RepresentsWindow ρ φ n (apply_slots ρ φ s x f y z) (windows.apply_of ρ φ w x f y z)
  unfolding apply_slots windows.apply_of
  apply_represents = ⊎_elim
      (λ (e, l). rw (e, lt-ltb (least_in ρ R) ρ (up ρ φ n s w h.mirrors (least_in ρ R) l)) (copied_represents ρ φ n s w h x (least_in ρ R) xb l))
      (λ (i, j, none). rw (le-ltb (register_in ρ s.regs E) ρ i, le-ltb (least_in ρ R) ρ j)
      (new_represents ρ φ n s w h.mirrors x f y z xb fb yb zb h.single (λ c cb t. none c cb (and_r (ltb f φ) (has E c) t)) (shaped_new j)))
      found
