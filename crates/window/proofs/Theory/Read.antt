-- The tables in which some registers are read as others, register by register.
use mathlib.Core.Path.{◌≡◌, refl, sym, ap, ap₂, ◌∙◌, subst}
use mathlib.Core.Logic.Iff
use mathlib.Core.Logic.{◌⊎◌, inl, inr, ◌↔◌, ⊎_elim}
use mathlib.Core.Bool.{Bool, true, false, cond}
use mathlib.Core.List.{List}
use Prim.Native.Nat.{ℕ, ◌+◌, ◌*◌, ◌^◌, ◌<◌}
use lib.Dec.{T}
use lib.Bits.{bit_or}
use lib.ListN.{length, get_or}
use Rattle.base.specs.Masks.{has}
use Rattle.semantics.proofs.Theory.Booleans.{or_not}
use Rattle.semantics.proofs.Theory.Steps.{copied}
use borrow.Author.Tests.{eq-eqb, ne_eqb}
use Rattle.window.specs.Places.{place}
use Rattle.window.proofs.Theory.Places.{place_sum, line_entry, along_entry, place_below}
use Rattle.window.specs.Bits.{mask_moved}
use Rattle.window.proofs.Theory.Bits.{moved_in, moved_out, or_is, single_is, same_iff, or_small, pow_small, eq_or}
use Rattle.window.specs.Lines.{TableLines, columns, rows, united_at, united}
use Rattle.window.proofs.Theory.Lines.{Partition, columns_partition, rows_partition, united-at, united_length}
use Rattle.window.proofs.Theory.Through.{moved_at}
use Rattle.window.specs.Through.{masks_through, results_through}

module _ (ρ φ a b to : ℕ) (ab : a < ρ) (bb : b < ρ) where
  -- z is what register r is read as: a or b if it is in `to`, else itself
  abbrev pub Pick : ℕ → ℕ → Type 0
  Pick r z = (T (has to r) × ((z ≡ a) ⊎ (z ≡ b))) ⊎ ((¬ T (has to r)) × (z ≡ r))

  pub pick_below : (r z : ℕ) → r < ρ → Pick r z → z < ρ
  pick_below r z rb p = ⊎_elim (λ (_, h). ⊎_elim (λ e. subst (λ k. k < ρ) (sym e) ab) (λ e. subst (λ k. k < ρ) (sym e) bb) h)
      (λ (_, e). subst (λ k. k < ρ) (sym e) rb) p

  from_small : bit_or (2 ^ a) (2 ^ b) < 2 ^ ρ
  from_small = or_small ρ (2 ^ a) (2 ^ b) (pow_small ρ a ab) (pow_small ρ b bb)

  from_is : (d : ℕ) → T (has (bit_or (2 ^ a) (2 ^ b)) d) ↔ ((d ≡ a) ⊎ (d ≡ b))
  from_is d = Iff.trans (or_is (2 ^ a) (2 ^ b) d) (
    (λ k. ⊎_elim (λ t. inl ((single_is a d).0 t)) (λ t. inr ((single_is b d).0 t)) k),
    (λ k. ⊎_elim (λ t. inl ((single_is a d).1 t)) (λ t. inr ((single_is b d).1 t)) k),
  )

  -- in a mask
  pub mask_is : (m c : ℕ) → T (has (mask_moved m (bit_or (2 ^ a) (2 ^ b)) to) c) ↔ ((d : ℕ) × Pick c d × T (has m d))
  mask_is m c = ⊎_elim
      (λ t. Iff.trans (moved_in ρ m (bit_or (2 ^ a) (2 ^ b)) to c from_small t) (
        (λ (d, p, q). (d, inl (t, (from_is d).0 p), q)),
        (λ (d, p, q). ⊎_elim (λ (_, h). (d, (from_is d).1 h, q)) (λ (n, _). absurd (n t)) p),
      ))
      (λ n. Iff.trans (moved_out m (bit_or (2 ^ a) (2 ^ b)) to c n) (
        (λ k. (c, inr (n, refl), k)),
        (λ (d, p, q). ⊎_elim (λ (t, _). absurd (n t)) (λ (_, e). subst (λ k. T (has m k)) e q) p),
      ))
      (or_not (has to c))

  -- along the lines of a table
  pub line_is : (L : TableLines ρ) (partition : Partition L) (l : List ℕ) (j r s : ℕ) → r < ρ
      → T (has (united_at L (has to) a b l (L.entry j r)) s) ↔ ((z : ℕ) × Pick r z × T (has (get_or l (L.entry j z) 0) s))
  unfolding united_at
  line_is L partition l j r s rb = ⊎_elim
      (λ t. let t' : has to (L.along (L.entry j r)) ≡ true = ap (has to) (partition.along_entry j r rb) ∙ true_of (has to r) t in
      let x = get_or l (L.entry j a) 0 in
      let y = get_or l (L.entry j b) 0 in
      Iff.trans (same_iff (ap (λ m. has m s)
      (ap (λ v. cond v (bit_or (get_or l (L.entry (L.line (L.entry j r)) a) 0) (get_or l (L.entry (L.line (L.entry j r)) b) 0)) (get_or l (L.entry j r) 0))
      t'
      ∙ ap (λ k. bit_or (get_or l (L.entry k a) 0) (get_or l (L.entry k b) 0)) (partition.line_entry j r rb)))) (Iff.trans (or_is x y s) (
        (λ k. ⊎_elim (λ u. (a, inl (t, inl refl), u)) (λ u. (b, inl (t, inr refl), u)) k),
        (λ (z, p, q). ⊎_elim (λ (_, h). ⊎_elim (λ e. inl (subst (λ k. T (has (get_or l (L.entry j k) 0) s)) e q))
            (λ e. inr (subst (λ k. T (has (get_or l (L.entry j k) 0) s)) e q)) h) (λ (n, _). absurd (n t)) p),
      )))
      (λ n. let t' : has to (L.along (L.entry j r)) ≡ false = ap (has to) (partition.along_entry j r rb) ∙ false_of (has to r) n in
      Iff.trans (same_iff (ap (λ m. has m s)
      (ap (λ v. cond v (bit_or (get_or l (L.entry (L.line (L.entry j r)) a) 0) (get_or l (L.entry (L.line (L.entry j r)) b) 0)) (get_or l (L.entry j r) 0))
      t'))) (
        (λ k. (r, inr (n, refl), k)),
        (λ (z, p, q). ⊎_elim (λ (t, _). absurd (n t)) (λ (_, e). subst (λ k. T (has (get_or l (L.entry j k) 0) s)) e q) p),
      ))
      (or_not (has to r))
    where
      true_of : (b : Bool) → T b → b ≡ true
      true_of true t = refl
      true_of false t = absurd t

      false_of : (b : Bool) → ¬ T b → b ≡ false
      false_of true n = absurd (n tt)
      false_of false n = refl

  -- a table of masks
  pub masks_is : (l : List ℕ) (j r s : ℕ) → r < ρ → ρ * j + r < length l
      → T (has (get_or (masks_through ρ a b to l) (ρ * j + r) 0) s) ↔ ((z : ℕ) × (y : ℕ) × Pick r z × Pick s y × T (has (get_or l (ρ * j + z) 0) y))
  unfolding masks_through
  masks_is l j r s rb h =
      let u = united (columns ρ) (has to) a b l in
      let e = moved_at (bit_or (2 ^ a) (2 ^ b)) to u (ρ * j + r) (rw (united_length (columns ρ) (has to) a b l) h)
      ∙ ap (λ m. mask_moved m (bit_or (2 ^ a) (2 ^ b)) to) (united-at (columns ρ) (has to) a b l (ρ * j + r) h) in
      Iff.trans (same_iff (ap (λ m. has m s) e)) (Iff.trans (mask_is (united_at (columns ρ) (has to) a b l (ρ * j + r)) s) (
        (λ (y, p, t). let (z, q, k) = (line_is (columns ρ) (columns_partition ρ) l j r y rb).0 t in (z, y, q, p, k)),
        (λ (z, y, q, p, k). (y, p, (line_is (columns ρ) (columns_partition ρ) l j r y rb).1 (z, q, k))),
      ))

  at_row : (f r s : ℕ) → s < ρ → place ρ f r s ≡ (rows ρ).entry (ρ * f + s) r
  at_row f r s sb = sym (ap₂ (λ p q. ρ * ρ * p + ρ * r + q) (line_entry ρ f s sb) (along_entry ρ f s sb) ∙ place_sum ρ f r s)

  -- the table of results
  pub results_is : (l : List ℕ) → length l ≡ φ * ρ * ρ → (f r s c : ℕ) → f < φ → r < ρ → s < ρ
      → T (has (get_or (results_through ρ a b to l) (place ρ f r s) 0) c)
      ↔ ((z : ℕ) × (y : ℕ) × (d : ℕ) × Pick r z × Pick s y × Pick c d × T (has (get_or l (place ρ f z y) 0) d))
  unfolding results_through
  results_is l len f r s c fb rb sb =
      let C = united (columns ρ) (has to) a b l in
      let R = united (rows ρ) (has to) a b C in
      let h = subst (λ z. place ρ f r s < z) (sym len) (place_below ρ f r s rb sb φ fb) in
      let h_c : place ρ f r s < length C = rw (united_length (columns ρ) (has to) a b l) h in
      let e = moved_at (bit_or (2 ^ a) (2 ^ b)) to R (place ρ f r s) (rw (united_length (rows ρ) (has to) a b C) h_c)
      ∙ ap (λ m. mask_moved m (bit_or (2 ^ a) (2 ^ b)) to)
      (united-at (rows ρ) (has to) a b C (place ρ f r s) h_c ∙ ap (united_at (rows ρ) (has to) a b C) (at_row f r s sb)) in
      Iff.trans (same_iff (ap (λ m. has m c) e)) (Iff.trans (mask_is (united_at (rows ρ) (has to) a b C ((rows ρ).entry (ρ * f + s) r)) c) (
        (λ (d, o, t). let (z, p, k) = (line_is (rows ρ) (rows_partition ρ) C (ρ * f + s) r d rb).0 t in
            let (y, q, m) = (column z d (pick_below r z rb p)).0 (subst (λ i. T (has (get_or C i 0) d)) (sym (at_row f z s sb)) k) in (z, y, d, p, q, o, m)),
        (λ (z, y, d, p, q, o, m). (
          d,
          o,
          (line_is (rows ρ) (rows_partition ρ) C (ρ * f + s) r d rb).1
              (z, p, subst (λ i. T (has (get_or C i 0) d)) (at_row f z s sb) ((column z d (pick_below r z rb p)).1 (y, q, m))),
        )),
      ))
    where
      column : (z d : ℕ) → z < ρ → T (has (get_or (united (columns ρ) (has to) a b l) (place ρ f z s) 0) d)
          ↔ ((y : ℕ) × Pick s y × T (has (get_or l (place ρ f z y) 0) d))
      column z d zb = Iff.trans (same_iff
          (ap (λ m. has m d) (united-at (columns ρ) (has to) a b l (place ρ f z s)
          (subst (λ k. place ρ f z s < k) (sym len) (place_below ρ f z s zb sb φ fb))))) (line_is (columns ρ) (columns_partition ρ) l (ρ * f + z) s d sb)

-- ---- a copy: one register is read as another

pub pick_copied : (ρ φ x y : ℕ) (xb : x < ρ) (yb : y < ρ) (r z : ℕ) → Pick ρ φ y y (2 ^ x) yb yb r z ↔ (z ≡ copied x y r)
pick_copied ρ φ x y xb yb r z = ⊎_elim
    (λ e. let t = (single_is x r).1 e in let c : copied x y r ≡ y = rw (eq-eqb r x e) in (
      (λ p. ⊎_elim (λ (_, h). ⊎_elim (λ k. k ∙ sym c) (λ k. k ∙ sym c) h) (λ (n, _). absurd (n t)) p),
      (λ k. inl (t, inl (k ∙ c))),
    ))
    (λ d. let n : ¬ T (has (2 ^ x) r) = (λ t. d ((single_is x r).0 t)) in let c : copied x y r ≡ r = rw (ne_eqb r x d) in (
      (λ p. ⊎_elim (λ (t, _). absurd (n t)) (λ (_, k). k ∙ sym c) p),
      (λ k. inr (n, k ∙ c)),
    ))
    (eq_or r x)
