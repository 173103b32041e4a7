-- The number of classes that a window keeps is that of its classes: letter by letter, for every window value whose classes are classes.
use mathlib.Core.Path.{◌≡◌, refl, sym, ◌∙◌, subst}
use mathlib.Core.Logic.Iff
use mathlib.Core.Logic.{◌⊎◌, inl, inr, ◌↔◌, ◌≢◌, ⊎_elim}
use mathlib.Core.Bool.{Bool, true, false, ◌||◌}
use mathlib.Core.List.{List}
use Prim.Native.Nat.{ℕ, ◌-◌, ◌^◌, ◌≤◌, ◌<◌}
use native.Mathlib.Omega.{arith}
use lib.Dec.{eqb, T}
use lib.ListN.{length, get_or, set}
use lib.Seq.{get_or-set_same, get_or-set_other}
use borrow.Author.Tests.{eqb-true, eqb-false, lt-ltb}
use Rattle.base.proofs.Theory.Choice.{by_test}
use Rattle.base.specs.Masks.{has}
use Rattle.base.specs.LeastAndSize.{size_of}
use Rattle.semantics.proofs.Theory.Steps.{copied}
use Rattle.window.specs.Adding.{masks_forgotten}
use Rattle.window.specs.Counting.{one_fewer, one_more, count_left, count_made, counted_classes}
use Rattle.window.specs.Performing.{copied_tables, copied_of, merged_of, applied_of, settled_of, unequal_of}
use Rattle.window.specs.Viewing.{view, Inside, Shaped}
use Rattle.window.specs.declared.Window.{Window}
use Rattle.window.proofs.Theory.Bits.{no_truth, eq_or, single_is}
use Rattle.window.proofs.Theory.Laws.{Laws}
use Rattle.window.proofs.Theory.Size.{alone, other}
use Rattle.window.proofs.Theory.Sizes.{size_most}
use Rattle.window.proofs.Theory.Shape.{forgotten_length}
use Rattle.window.proofs.Theory.Copying.{copied_same, copied_other, same_copied}
use Rattle.window.proofs.Theory.Applying.{row_forgotten}
use Rattle.window.proofs.Theory.Counting.{Together, Partition, counted_left, counted_stays, counted_merged}

module _ (ρ φ : ℕ) where
  -- the number that is kept is that of the classes
  abbrev pub Counted : Window → Type 0
  Counted w = w.classes ≡ counted_classes ρ w.class

  pub counted_most : (l : List ℕ) → counted_classes ρ l ≤ ρ
  unfolding counted_classes
  counted_most l = size_most ρ _

  pub partition_of : (n : ℕ) (w : Window) → Laws n (view ρ φ w) → Inside ρ n (view ρ φ w) → Partition ρ n w.class
  partition_of n w g i = record { fits = i.fits; within = i.same; self = g.self; turned = g.turned; joined = g.joined }

  -- ---- the table in which x is a class of its own

  abbrev freed : ℕ → List ℕ → List ℕ
  freed x l = set (masks_forgotten ρ x l) x (2 ^ x)

  module _ (n : ℕ) (l : List ℕ) (long : length l ≡ ρ) (p : Partition ρ n l) (x : ℕ) (xb : x < n) where
    low : (r : ℕ) → r < n → r < ρ
    low r b = omega (arith, p.fits)

    freed_own : get_or (freed x l) x 0 ≡ 2 ^ x
    freed_own = get_or-set_same (masks_forgotten ρ x l) x (2 ^ x) 0 (subst (λ k. x < k) (sym (forgotten_length ρ φ x l ∙ long)) (low x xb))

    freed_is : (r s : ℕ) → r < ρ → Together (freed x l) r s ↔ (((r ≢ x) × Together l r s × (s ≢ x)) ⊎ ((r ≡ x) × (s ≡ x)))
    freed_is r s rb = ⊎_elim
        (λ e. subst (λ k. Together (freed x l) k s ↔ (((k ≢ x) × Together l k s × (s ≢ x)) ⊎ ((k ≡ x) × (s ≡ x)))) (sym e) (
          (λ t. inr (refl, (single_is x s).0 (subst (λ m. T (has m s)) freed_own t))),
          (λ k. ⊎_elim (λ (d, _, _). absurd (d refl)) (λ (_, h). subst (λ m. T (has m s)) (sym freed_own) ((single_is x s).1 h)) k),
        ))
        (λ d. let e = get_or-set_other (masks_forgotten ρ x l) x r (2 ^ x) 0 d in (
          (λ t. inl ((row_forgotten ρ φ x l r s long rb).0 (subst (λ m. T (has m s)) e t))),
          (λ k. ⊎_elim (λ h. subst (λ m. T (has m s)) (sym e) ((row_forgotten ρ φ x l r s long rb).1 h)) (λ (h, _). absurd (d h)) k),
        ))
        (eq_or r x)

    pub partition_freed : Partition ρ n (freed x l)
    partition_freed = record {
      fits = p.fits;
      within = λ r s rb sb t. ⊎_elim (λ (_, u, _). p.within r s rb sb u) (λ (e, h). (subst (λ k. k < n) (sym e) xb, subst (λ k. k < n) (sym h) xb))
          ((freed_is r s rb).0 t);
      self = λ r b. (freed_is r r (low r b)).1 (⊎_elim (λ e. inr (e, e)) (λ d. inl (d, p.self r b, d)) (eq_or r x));
      turned = λ r s rb sb t. (freed_is s r (low s sb)).1
          (⊎_elim (λ (d, u, e). inl (e, p.turned r s rb sb u, d)) (λ (e, h). inr (h, e)) ((freed_is r s (low r rb)).0 t));
      joined = λ r s q rb sb qb t u. (freed_is r q (low r rb)).1 (go r s q rb sb qb ((freed_is r s (low r rb)).0 t) ((freed_is s q (low s sb)).0 u));
    }
      where
        go : (r s q : ℕ) → r < n → s < n → q < n → (((r ≢ x) × Together l r s × (s ≢ x)) ⊎ ((r ≡ x) × (s ≡ x)))
            → (((s ≢ x) × Together l s q × (q ≢ x)) ⊎ ((s ≡ x) × (q ≡ x))) → (((r ≢ x) × Together l r q × (q ≢ x)) ⊎ ((r ≡ x) × (q ≡ x)))
        go r s q rb sb qb (inl (d, t, _)) (inl (_, u, e)) = inl (d, p.joined r s q rb sb qb t u, e)
        go r s q rb sb qb (inl (_, _, d)) (inr (e, _)) = absurd (d e)
        go r s q rb sb qb (inr (_, e)) (inl (d, _, _)) = absurd (d e)
        go r s q rb sb qb (inr (e, _)) (inr (_, h)) = inr (e, h)

    pub freed_others : (r s : ℕ) → r < n → s < n → r ≢ x → s ≢ x → Together (freed x l) r s ↔ Together l r s
    freed_others r s rb sb d e = (
      (λ t. ⊎_elim (λ (_, u, _). u) (λ (h, _). absurd (d h)) ((freed_is r s (low r rb)).0 t)),
      (λ t. (freed_is r s (low r rb)).1 (inl (d, t, e))),
    )

    pub freed_one : size_of ρ (get_or (freed x l) x 0) ≡ 1
    freed_one = ⊎_elim (λ e. e)
        (λ d. let (j, jb, n', t) = other ρ (get_or (freed x l) x 0) x (low x xb) (partition_freed.self x xb) d in
        absurd (⊎_elim (λ (h, _, _). h refl) (λ (_, h). n' h) ((freed_is x j (low x xb)).0 t)))
        (eq_or (size_of ρ (get_or (freed x l) x 0)) 1)

  module _ (w : Window) (sh : Shaped ρ φ w) (n : ℕ) (p : Partition ρ n w.class) (c : Counted w) where
    up : (r : ℕ) → r < n → r < ρ
    up r b = omega (arith, p.fits)

    -- ---- a new application

    pub counted_applied : (x f y z : ℕ) → x < n → Counted (applied_of ρ φ w x f y z)
    unfolding applied_of count_made one_more
    counted_applied x f y z xb =
        let q = partition_freed n w.class sh.class p x xb in
        let one = freed_one n w.class sh.class p x xb in
        let others = freed_others n w.class sh.class p x xb in
        by_test (eqb (size_of ρ (get_or w.class x 0)) 1)
        (λ t. rw t (c ∙ sym (counted_stays ρ q p x xb others one (eqb-true (size_of ρ (get_or w.class x 0)) 1 t))))
        (λ t. let e = counted_left ρ q p x xb others one (eqb-false (size_of ρ (get_or w.class x 0)) 1 t) in
        let most = counted_most (freed x w.class) in
        let few : w.classes < ρ = omega arith in
        rw (t, lt-ltb w.classes ρ few) (omega arith))

    -- ---- a copy

    module _ (x y : ℕ) (xb : x < n) (yb : y < n) (d : ¬ Together w.class x y) where
      abbrev w' : Window
      w' = copied_tables ρ φ w x y

      y_other : y ≢ x
      y_other e = d (subst (λ k. Together w.class x k) (sym e) (p.self x xb))

      same : (r s : ℕ) → r < ρ → Together w'.class r s ↔ Together w.class (copied x y r) (copied x y s)
      same = same_copied ρ φ w sh x y (up x xb) (up y yb)

      copied_below : (r : ℕ) → r < n → copied x y r < n
      copied_below r b = ⊎_elim (λ e. subst (λ k. k < n) (sym (subst (λ k. copied x y k ≡ y) (sym e) (copied_same x y))) yb)
          (λ e. subst (λ k. k < n) (sym (copied_other x y r e)) b) (eq_or r x)

      back_below : (r : ℕ) → copied x y r < n → r < n
      back_below r b = ⊎_elim (λ e. subst (λ k. k < n) (sym e) xb) (λ e. subst (λ k. k < n) (copied_other x y r e) b) (eq_or r x)

      small : (r : ℕ) → r < ρ → copied x y r < ρ
      small r b = ⊎_elim (λ e. subst (λ k. k < ρ) (sym (subst (λ k. copied x y k ≡ y) (sym e) (copied_same x y))) (up y yb))
          (λ e. subst (λ k. k < ρ) (sym (copied_other x y r e)) b) (eq_or r x)

      pub partition_copied : Partition ρ n w'.class
      partition_copied = record {
        fits = p.fits;
        within = λ r s rb sb t. let (a, b) = p.within (copied x y r) (copied x y s) (small r rb) (small s sb) ((same r s rb).0 t) in
            (back_below r a, back_below s b);
        self = λ r b. (same r r (up r b)).1 (p.self (copied x y r) (copied_below r b));
        turned = λ r s rb sb t. (same s r (up s sb)).1
            (p.turned (copied x y r) (copied x y s) (copied_below r rb) (copied_below s sb) ((same r s (up r rb)).0 t));
        joined = λ r s q rb sb qb t u. (same r q (up r rb)).1
            (p.joined (copied x y r) (copied x y s) (copied x y q) (copied_below r rb) (copied_below s sb) (copied_below q qb) ((same r s (up r rb)).0 t)
            ((same s q (up s sb)).0 u));
      }

      others : (r s : ℕ) → r < n → s < n → r ≢ x → s ≢ x → Together w.class r s ↔ Together w'.class r s
      others r s rb sb e h =
          subst (λ k. Together w.class k s ↔ Together w'.class r s) (copied_other x y r e)
          (subst (λ k. Together w.class (copied x y r) k ↔ Together w'.class r s) (copied_other x y s h) ((same r s (up r rb)).1, (same r s (up r rb)).0))

      -- y is with x
      many : size_of ρ (get_or w'.class x 0) ≢ 1
      many e = y_other (alone ρ (get_or w'.class x 0) x (up x xb) (partition_copied.self x xb) e y (up y yb)
          ((same x y (up x xb)).1
          (subst (λ k. Together w.class k (copied x y y)) (sym (copied_same x y))
          (subst (λ k. Together w.class y k) (sym (copied_other x y y y_other)) (p.self y yb)))))

      left_one : eqb (size_of ρ (get_or w.class x 0)) 1 ≡ true → (copied_tables ρ φ w x y).classes ≡ w.classes - 1
      unfolding copied_tables count_left one_fewer
      left_one t = rw t

      left_none : eqb (size_of ρ (get_or w.class x 0)) 1 ≡ false → (copied_tables ρ φ w x y).classes ≡ w.classes
      unfolding copied_tables count_left
      left_none t = rw t

      pub counted_tables : Counted (copied_tables ρ φ w x y)
      counted_tables = by_test (eqb (size_of ρ (get_or w.class x 0)) 1)
          (λ t. let e = counted_left ρ p partition_copied x xb others (eqb-true (size_of ρ (get_or w.class x 0)) 1 t) many in
          left_one t ∙ (omega arith))
          (λ t. let q = partition_freed n w.class sh.class p x xb in
          let one = freed_one n w.class sh.class p x xb in
          let freed_like = freed_others n w.class sh.class p x xb in
          let a = counted_left ρ q p x xb freed_like one (eqb-false (size_of ρ (get_or w.class x 0)) 1 t) in
          let b = counted_left ρ q partition_copied x xb (λ r s rb sb e h. Iff.trans (freed_like r s rb sb e h) (others r s rb sb e h)) one many in
          left_none t ∙ (omega arith))

    pub counted_copied : (x y : ℕ) → x < n → y < n → Counted (copied_of ρ φ w x y)
    unfolding copied_of
    counted_copied x y xb yb = by_test (has (get_or w.class x 0) y) (λ t. rw t c)
        (λ t. rw t (counted_tables x y xb yb (no_truth (has (get_or w.class x 0) y) t)))

    -- ---- two classes become one

    merged_fewer : (a b : ℕ) → (merged_of ρ φ w a b).classes ≡ w.classes - 1
    unfolding merged_of one_fewer
    merged_fewer a b = refl

    pub counted_merges : (a b : ℕ) → a < n → b < n → ¬ Together w.class a b → Partition ρ n (merged_of ρ φ w a b).class
        → ((r s : ℕ) → r < n → s < n → Together (merged_of ρ φ w a b).class r s ↔ (Together w.class r s
        ⊎ ((Together w.class a r ⊎ Together w.class b r) × (Together w.class a s ⊎ Together w.class b s))))
        → Counted (merged_of ρ φ w a b)
    counted_merges a b ab bb d q merged = let e = counted_merged ρ p q a b ab bb d merged in merged_fewer a b ∙ omega arith

  -- ---- what leaves the classes alone

  pub counted_settled : (w : Window) (bad : Bool) → Counted w → Counted (settled_of ρ φ w bad)
  unfolding settled_of
  counted_settled w bad c = by_test (w.infeasible || bad) (λ t. rw t c) (λ t. rw t c)

  pub counted_unequal : (w : Window) (x y : ℕ) → Counted w → Counted (unequal_of ρ φ w x y)
  unfolding unequal_of
  counted_unequal w x y c = counted_settled _ (has (get_or w.class x 0) y) c
