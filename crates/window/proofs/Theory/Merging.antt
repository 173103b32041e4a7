-- The window after two classes are made one, register by register: what the code makes is what Merged asks.
use mathlib.Core.Path.{◌≡◌, refl, sym, ap, subst}
use mathlib.Core.Logic.Iff
use mathlib.Core.Logic.{◌⊎◌, inl, inr, ◌↔◌, ⊎_elim}
use mathlib.Core.List.{List}
use Prim.Native.Nat.{ℕ, ◌+◌, ◌*◌, ◌^◌, ◌<◌}
use native.Mathlib.Omega.{arith}
use lib.Dec.{ltb, T}
use lib.Bits.{bit_or}
use lib.ListN.{length, get_or}
use borrow.Author.Tests.{ltb-true}
use Rattle.base.proofs.Theory.Choice.{by_test}
use Rattle.base.specs.Masks.{has}
use Rattle.semantics.proofs.Theory.Booleans.{or_not}
use Rattle.window.proofs.Theory.Places.{entry_below}
use Rattle.window.proofs.Theory.Bits.{same_iff, or_is, single_is}
use Rattle.window.specs.Through.{masks_through}
use Rattle.window.proofs.Theory.Read.{Pick, masks_is, results_is}
use Rattle.window.specs.Performing.{both_classes, merged_of}
use Rattle.window.specs.Viewing.{view, Inside, Shaped}
use Rattle.window.proofs.Theory.Laws.{Laws}
use Rattle.window.proofs.Theory.Merge.{In, ClassesMerged}
use Rattle.window.specs.declared.Window.{Window}

module _ (ρ φ : ℕ) where
  module _ (w : Window) (sh : Shaped ρ φ w) (n : ℕ) (g : Laws n (view ρ φ w)) (i : Inside ρ n (view ρ φ w)) (a b : ℕ) (ab : a < n) (bb : b < n) where
    abbrev to : ℕ
    to = both_classes w a b

    abbrev w' : Window
    w' = merged_of ρ φ w a b

    low : (r : ℕ) → r < n → r < ρ
    low r h = omega (arith, i.fits)

    -- z is what r is read as
    abbrev As : ℕ → ℕ → Type 0
    As r z = Pick ρ φ a b (both_classes w a b) (low a ab) (low b bb) r z

    -- the registers of the union
    in_to : (r : ℕ) → T (has (both_classes w a b) r) ↔ In n (view ρ φ w) a b r
    in_to r = (
      (λ t. ⊎_elim (λ k. (or_is (get_or w.class a 0) (get_or w.class b 0) r).0 k)
          (λ k. inl (subst (λ z. T ((view ρ φ w).same a z)) (sym ((single_is a r).0 k)) (g.self a ab)))
          ((or_is (bit_or (get_or w.class a 0) (get_or w.class b 0)) (2 ^ a) r).0 t)),
      (λ k. (or_is (bit_or (get_or w.class a 0) (get_or w.class b 0)) (2 ^ a) r).1 (inl ((or_is (get_or w.class a 0) (get_or w.class b 0) r).1 k))),
    )

    in_or : (r : ℕ) → In n (view ρ φ w) a b r ⊎ ¬ In n (view ρ φ w) a b r
    in_or r = ⊎_elim (λ k. inl (inl k)) (λ k. ⊎_elim (λ l. inl (inr l)) (λ l. inr (⊎_elim k l)) (or_not ((view ρ φ w).same b r))) (or_not
        ((view ρ φ w).same a r))

    in_below : (r : ℕ) → r < ρ → In n (view ρ φ w) a b r → r < n
    in_below r rb (inl k) = (i.same a r (low a ab) rb k).1
    in_below r rb (inr k) = (i.same b r (low b bb) rb k).1

    -- what is picked for r: r itself, outside the union; a or b, inside
    picked : (r z : ℕ) → As r z → (In n (view ρ φ w) a b r × ((z ≡ a) ⊎ (z ≡ b))) ⊎ ((¬ In n (view ρ φ w) a b r) × (z ≡ r))
    picked r z p = ⊎_elim (λ (t, h). inl ((in_to r).0 t, h)) (λ (k, h). inr ((λ t. k ((in_to r).1 t)), h)) p

    pick_a : (r : ℕ) → In n (view ρ φ w) a b r → As r a
    pick_a r k = inl ((in_to r).1 k, inl refl)

    pick_b : (r : ℕ) → In n (view ρ φ w) a b r → As r b
    pick_b r k = inl ((in_to r).1 k, inr refl)

    pick_self : (r : ℕ) → ¬ In n (view ρ φ w) a b r → As r r
    pick_self r k = inr ((λ t. k ((in_to r).0 t)), refl)

    below_pick : (r z : ℕ) → r < n → As r z → z < n
    below_pick r z rb p = ⊎_elim (λ (k, h). ⊎_elim (λ q. subst (λ v. v < n) (sym q) ab) (λ q. subst (λ v. v < n) (sym q) bb) h)
        (λ (k, h). subst (λ v. v < n) (sym h) rb) (picked r z p)

    back_pick : (r z : ℕ) → r < ρ → As r z → z < n → r < n
    back_pick r z rb p zb = ⊎_elim (λ (k, h). in_below r rb k) (λ (k, h). subst (λ v. v < n) h zb) (picked r z p)

    small_pick : (r z : ℕ) → r < ρ → As r z → z < ρ
    small_pick r z rb p = ⊎_elim (λ (k, h). ⊎_elim (λ q. subst (λ v. v < ρ) (sym q) (low a ab)) (λ q. subst (λ v. v < ρ) (sym q) (low b bb)) h)
        (λ (k, h). subst (λ v. v < ρ) (sym h) rb) (picked r z p)

    in_of : (r z : ℕ) → r < n → z < n → T ((view ρ φ w).same z r) → In n (view ρ φ w) a b z → In n (view ρ φ w) a b r
    in_of r z rb zb t (inl k) = inl (g.joined a z r ab zb rb k t)
    in_of r z rb zb t (inr k) = inr (g.joined b z r bb zb rb k t)

    in_a : In n (view ρ φ w) a b a
    in_a = inl (g.self a ab)

    in_b : In n (view ρ φ w) a b b
    in_b = inr (g.self b bb)

    in_pick : (z : ℕ) → (z ≡ a) ⊎ (z ≡ b) → In n (view ρ φ w) a b z × (z < n)
    in_pick z h = ⊎_elim (λ q. subst (λ v. In n (view ρ φ w) a b v × (v < n)) (sym q) (in_a, ab))
        (λ q. subst (λ v. In n (view ρ φ w) a b v × (v < n)) (sym q) (in_b, bb)) h

    -- a table of masks of the merged window
    table_merged : (l : List ℕ) (j r s : ℕ) → r < ρ → ρ * j + r < length l
        → T (has (get_or (masks_through ρ a b (both_classes w a b) l) (ρ * j + r) 0) s) ↔ ((z : ℕ) × (y : ℕ) × As r z × As s y × T (has (get_or l
        (ρ * j + z) 0) y))
    table_merged l j r s rb h = masks_is ρ φ a b (both_classes w a b) (low a ab) (low b bb) l j r s rb h

    row_merged : (l : List ℕ) (r s : ℕ) → length l ≡ ρ → r < ρ
        → T (has (get_or (masks_through ρ a b (both_classes w a b) l) r 0) s) ↔ ((z : ℕ) × (y : ℕ) × As r z × As s y × T (has (get_or l z 0) y))
    row_merged l r s e rb = Iff.trans (same_iff (ap (λ k. has (get_or (masks_through ρ a b (both_classes w a b) l) k 0) s) (omega arith)))
        (Iff.trans (table_merged l 0 r s rb (omega arith)) (
          (λ (z, y, p, q, t). (z, y, p, q, subst (λ k. T (has (get_or l k 0) y)) (omega arith) t)),
          (λ (z, y, p, q, t). (z, y, p, q, subst (λ k. T (has (get_or l k 0) y)) (omega arith) t)),
        ))

    same_table : (r s : ℕ) → r < ρ → T ((view ρ φ w').same r s) ↔ ((z : ℕ) × (y : ℕ) × As r z × As s y × T ((view ρ φ w).same z y))
    unfolding merged_of
    same_table r s rb = row_merged w.class r s sh.class rb

    same_merged : (r s : ℕ) → r < n → s < n → T ((view ρ φ w').same r s) ↔ (T ((view ρ φ w).same r s) ⊎ (In n (view ρ φ w) a b r × In n (view ρ φ w) a b s))
    same_merged r s rb sb = ((λ t. into ((same_table r s (low r rb)).0 t)), (λ k. (same_table r s (low r rb)).1 (out k)))
      where
        into : (z : ℕ) × (y : ℕ) × As r z × As s y × T ((view ρ φ w).same z y) → T ((view ρ φ w).same r s) ⊎ (In n (view ρ φ w) a b r × In n (view ρ φ w) a b s)
        into (z, y, p, q, t) = go (picked r z p) (picked s y q) t
          where
            go : (In n (view ρ φ w) a b r × ((z ≡ a) ⊎ (z ≡ b))) ⊎ ((¬ In n (view ρ φ w) a b r) × (z ≡ r))
                → (In n (view ρ φ w) a b s × ((y ≡ a) ⊎ (y ≡ b))) ⊎ ((¬ In n (view ρ φ w) a b s) × (y ≡ s))
                → T ((view ρ φ w).same z y) → T ((view ρ φ w).same r s) ⊎ (In n (view ρ φ w) a b r × In n (view ρ φ w) a b s)
            go (inl (k, h)) (inl (l, h')) t = inr (k, l)
            go (inl (k, h)) (inr (l, h')) t = absurd (l (in_of s z sb (in_pick z h).1 (subst (λ v. T ((view ρ φ w).same z v)) h' t) (in_pick z h).0))
            go (inr (k, h)) (inl (l, h')) t =
                absurd (k (in_of r y rb (in_pick y h').1 (g.turned r y rb (in_pick y h').1 (subst (λ v. T ((view ρ φ w).same v y)) h t)) (in_pick y h').0))
            go (inr (k, h)) (inr (l, h')) t = inl (subst (λ v. T ((view ρ φ w).same v s)) h (subst (λ v. T ((view ρ φ w).same z v)) h' t))

        out : T ((view ρ φ w).same r s) ⊎ (In n (view ρ φ w) a b r × In n (view ρ φ w) a b s) → (z : ℕ) × (y : ℕ) × As r z × As s y × T ((view ρ φ w).same z y)
        out (inr (k, l)) = (a, a, pick_a r k, pick_a s l, g.self a ab)
        out (inl t) = ⊎_elim
            (λ k. (a, a, pick_a r k, pick_a s (in_of s r sb rb t k), g.self a ab))
            (λ k. (r, s, pick_self r k, pick_self s (λ l. k (in_of r s rb sb (g.turned r s rb sb t) l)), t))
            (in_or r)

    near : (r z : ℕ) → r < n → As r z → T ((view ρ φ w').same z r)
    near r z rb p = ⊎_elim
        (λ (k, h). (same_merged z r (in_pick z h).1 rb).1 (inr ((in_pick z h).0, k)))
        (λ (k, h). subst (λ v. T ((view ρ φ w').same v r)) (sym h) ((same_merged r r rb rb).1 (inl (g.self r rb))))
        (picked r z p)

    pick : (p r : ℕ) → p < n → r < n → T ((view ρ φ w').same p r) → (z : ℕ) × (z < n) × As r z × T ((view ρ φ w).same p z)
    pick p r pb rb t = go ((same_merged p r pb rb).0 t)
      where
        inside : In n (view ρ φ w) a b p → In n (view ρ φ w) a b r → (z : ℕ) × (z < n) × As r z × T ((view ρ φ w).same p z)
        inside (inl k) l = (a, ab, pick_a r l, g.turned a p ab pb k)
        inside (inr k) l = (b, bb, pick_b r l, g.turned b p bb pb k)

        go : T ((view ρ φ w).same p r) ⊎ (In n (view ρ φ w) a b p × In n (view ρ φ w) a b r) → (z : ℕ) × (z < n) × As r z × T ((view ρ φ w).same p z)
        go (inr (k, l)) = inside k l
        go (inl k) = ⊎_elim (λ l. inside (in_of p r pb rb (g.turned p r pb rb k) l) l) (λ l. (r, rb, pick_self r l, k)) (in_or r)

    result_table : (f r s c : ℕ) → r < ρ → s < ρ
        → T ((view ρ φ w').result f r s c) ↔ ((z : ℕ) × (y : ℕ) × (d : ℕ) × As r z × As s y × As c d × T ((view ρ φ w).result f z y d))
    unfolding merged_of
    result_table f r s c rb sb = by_test (ltb f φ)
        (λ u. rw u (results_is ρ φ a b (both_classes w a b) (low a ab) (low b bb) w.result sh.result f r s c (ltb-true f φ u) rb sb))
        (λ u. rw u ((λ k. absurd k), (λ (_, _, _, _, _, _, k). k)))

    ever_table : (f r s : ℕ) → r < ρ → s < ρ → T ((view ρ φ w').ever f r s) ↔ ((z : ℕ) × (y : ℕ) × As r z × As s y × T ((view ρ φ w).ever f z y))
    unfolding merged_of
    ever_table f r s rb sb = by_test (ltb f φ)
        (λ u. let l = ltb-true f φ u in rw u (table_merged w.ever f r s rb (subst (λ z. ρ * f + r < z) (sym sh.ever) (entry_below ρ φ f r l rb))))
        (λ u. rw u ((λ k. absurd k), (λ (_, _, _, _, k). k)))

    apart_table : (r s : ℕ) → r < ρ → T ((view ρ φ w').apart r s) ↔ ((z : ℕ) × (y : ℕ) × As r z × As s y × T ((view ρ φ w).apart z y))
    unfolding merged_of
    apart_table r s rb = row_merged w.unequal r s sh.unequal rb

    mark_kept : (r : ℕ) → (view ρ φ w').marked r ≡ (view ρ φ w).marked r
    unfolding merged_of
    mark_kept r = refl

    infeasible_kept : (view ρ φ w').infeasible ≡ (view ρ φ w).infeasible
    unfolding merged_of
    infeasible_kept = refl

    pub merged : ClassesMerged n (view ρ φ w) a b (view ρ φ w')
    merged = record {
      same = same_merged;
      apart = λ r s rb sb. (
        (λ t. let (z, y, p, q, h) = (apart_table r s (low r rb)).0 t in (z, y, below_pick r z rb p, below_pick s y sb q, h, near r z rb p, near s y sb q)),
        (λ (p, q, pb, qb, h, k, l).
            let (z, zb, i₀, u) = pick p r pb rb k in
            let (y, yb, j₀, v) = pick q s qb sb l in
            (apart_table r s (low r rb)).1 (z, y, i₀, j₀, g.apart p q z y pb qb zb yb h u v)),
      );
      result = λ f r s c rb sb cb. (
        (λ t. let (z, y, d, p, q, o, h) = (result_table f r s c (low r rb) (low s sb)).0 t in
            (z, y, d, below_pick r z rb p, below_pick s y sb q, below_pick c d cb o, h, near r z rb p, near s y sb q, near c d cb o)),
        (λ (p, q, d, pb, qb, db, h, k, l, m).
            let (z, zb, i₀, u) = pick p r pb rb k in
            let (y, yb, j₀, v) = pick q s qb sb l in
            let (x, xb, k₀, o) = pick d c db cb m in
            (result_table f r s c (low r rb) (low s sb)).1 (z, y, x, i₀, j₀, k₀, g.result f p q d z y x pb qb db zb yb xb h u v o)),
      );
      ever = λ f r s rb sb. (
        (λ t. let (z, y, p, q, h) = (ever_table f r s (low r rb) (low s sb)).0 t in
            (z, y, below_pick r z rb p, below_pick s y sb q, h, near r z rb p, near s y sb q)),
        (λ (p, q, pb, qb, h, k, l).
            let (z, zb, i₀, u) = pick p r pb rb k in
            let (y, yb, j₀, v) = pick q s qb sb l in
            (ever_table f r s (low r rb) (low s sb)).1 (z, y, i₀, j₀, g.ever f p q z y pb qb zb yb h u v)),
      );
      marked = λ r rb. same_iff (mark_kept r);
      infeasible = same_iff infeasible_kept;
    }

    pub inside_merged : Inside ρ n (view ρ φ w')
    inside_merged = record {
      fits = i.fits;
      same = λ r s rb sb t. let (z, y, p, q, h) = (same_table r s rb).0 t in let (zb, yb) = i.same z y (small_pick r z rb p) (small_pick s y sb q) h in
          (back_pick r z rb p zb, back_pick s y sb q yb);
      apart = λ r s rb sb t. let (z, y, p, q, h) = (apart_table r s rb).0 t in let (zb, yb) = i.apart z y (small_pick r z rb p) (small_pick s y sb q) h in
          (back_pick r z rb p zb, back_pick s y sb q yb);
      result = λ f r s c rb sb cb t. let (z, y, d, p, q, o, h) = (result_table f r s c rb sb).0 t in
          let (zb, yb, db) = i.result f z y d (small_pick r z rb p) (small_pick s y sb q) (small_pick c d cb o) h in
          (back_pick r z rb p zb, back_pick s y sb q yb, back_pick c d cb o db);
      ever = λ f r s rb sb t. let (z, y, p, q, h) = (ever_table f r s rb sb).0 t in let (zb, yb) = i.ever f z y (small_pick r z rb p) (small_pick s y sb q) h in
          (back_pick r z rb p zb, back_pick s y sb q yb);
      marked = λ r rb t. i.marked r rb (subst T (mark_kept r) t);
    }
