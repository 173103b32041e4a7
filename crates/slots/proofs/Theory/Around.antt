-- What follows from the definitions of specs/Around.antt.
use mathlib.Core.Path.{◌≡◌, refl, sym, ap, ap₂, ◌∙◌, subst}
use mathlib.Core.Logic.Iff
use mathlib.Core.Logic.{◌⊎◌, inl, inr, ◌↔◌, ⊎_elim}
use mathlib.Core.Bool.{◌||◌}
use mathlib.Core.List.{List}
use Prim.Native.Nat.{ℕ, zero, suc, ◌+◌, ◌*◌, ◌/◌, ◌%◌, ◌^◌, ◌≤◌, ◌<◌}
use native.Mathlib.Omega.{arith}
use native.Mathlib.Nat.{mul-zero, mul_comm, one-mul}
use lib.Dec.{eqb, T}
use lib.Bits.{bit_and, bit_or}
use lib.ListN.{length, get_or, set, length-set}
use Rattle.base.proofs.Theory.Choice.{by_test}
use Rattle.base.specs.Masks.{has}
use Rattle.base.proofs.Theory.MaskLaws.{bits_same}
use Rattle.semantics.proofs.Theory.Booleans.{and_l, and_r, and_i}
use Rattle.semantics.proofs.Theory.Of.{same_test}
use Rattle.window.specs.Places.{place}
use Rattle.window.proofs.Theory.Places.{first_place, second_place, place_is, function_place, line_entry, along_entry}
use Rattle.window.proofs.Theory.Places.{place_below, function_below, first_below, second_below, entry_below}
use Rattle.window.specs.Places.{place_function, place_first, place_second}
use Rattle.window.specs.Table.{table}
use Rattle.window.proofs.Theory.Table.{table_at, table_length}
use Rattle.window.specs.Bits.{nonempty}
use Rattle.window.proofs.Theory.Bits.{nonempty_is, or_is, or_small, pow_small, has_and, single_is, same_iff}
use Rattle.window.proofs.Theory.Uniqueness.{bit_same}
use Rattle.window.specs.Through.{results_through}
use Rattle.window.proofs.Theory.Through.{results_length}
use Rattle.window.proofs.Theory.Read.{pick_below, results_is}
use Rattle.window.specs.Marks.{union_of, flag_of, below_of, beside_of, passes, raised_of, above_of, folded_of, lost_of}
use Rattle.window.proofs.Theory.Marks.{union_is, folded_is, above_is, beside_is, beside_small, raised_is, raised_small, lost_small, lost_beneath}
use Rattle.window.proofs.Theory.Marks.{BelowSeed, seeded, lower, Beneath, extra, direct, beneath}
use Rattle.slots.specs.Performing.{results_dropped, results_renamed, result_recorded, above_slots, beside_slots, lost_slots, pair_recorded}
use Rattle.slots.proofs.Theory.Laying.{dropped_length}
use Rattle.slots.proofs.Theory.Tables.{added, results_dropped_is}
use Rattle.slots.specs.Around.{Around, around_of}

module _ (ρ φ : ℕ) where
  union_at : (l : List ℕ) (a b c : ℕ) → a < ρ → b < ρ → T (has (union_of l (ρ * a + b) (ρ * ρ) φ) c)
      ↔ ((f : ℕ) × (f < φ) × T (has (get_or l (place ρ f a b) 0) c))
  unfolding folded_of
  union_at l a b c ab bb = Iff.trans
      (same_iff (ap (λ m. has m c) (sym (table_at (λ i. union_of l i (ρ * ρ) φ) (ρ * ρ) (ρ * a + b) 0 (entry_below ρ ρ a b ab bb)))))
      (folded_is ρ φ l a b c ab bb)

  pub around_made : (l : List ℕ) → Around ρ φ l (around_of ρ φ l)
  unfolding around_of
  around_made l = record {
    long = table_length _ (ρ * ρ);
    holds = λ a b c ab bb cb. Iff.trans (same_iff (ap (λ m. has m c) (at_pair a b ab bb)))
        (Iff.trans (or_is (union_of l (ρ * a + b) (ρ * ρ) φ) (union_of l (ρ * b + a) (ρ * ρ) φ) c) (
          (λ k. ⊎_elim (λ t. let (f, fb, u) = (union_at l a b c ab bb).0 t in (f, fb, inl u))
              (λ t. let (f, fb, u) = (union_at l b a c bb ab).0 t in (f, fb, inr u)) k),
          (λ (f, fb, k). ⊎_elim (λ t. inl ((union_at l a b c ab bb).1 (f, fb, t))) (λ t. inr ((union_at l b a c bb ab).1 (f, fb, t))) k),
        ));
  }
    where
      at_pair : (a b : ℕ) → a < ρ → b < ρ
          → get_or (table (λ k. bit_or (union_of l k (ρ * ρ) φ) (union_of l (ρ * (k % ρ) + k / ρ) (ρ * ρ) φ)) (ρ * ρ)) (ρ * a + b) 0 ≡ bit_or
          (union_of l (ρ * a + b) (ρ * ρ) φ) (union_of l (ρ * b + a) (ρ * ρ) φ)
      at_pair a b ab bb = table_at (λ k. bit_or (union_of l k (ρ * ρ) φ) (union_of l (ρ * (k % ρ) + k / ρ) (ρ * ρ) φ)) (ρ * ρ) (ρ * a + b) 0
          (entry_below ρ ρ a b ab bb)
          ∙ ap₂ (λ i j. bit_or (union_of l (ρ * a + b) (ρ * ρ) φ) (union_of l (ρ * i + j) (ρ * ρ) φ)) (along_entry ρ a b bb) (line_entry ρ a b bb)

-- the table of pairs is a table of results of one function
module _ (ρ : ℕ) where
  one_place : (a b : ℕ) → place ρ 0 a b ≡ ρ * a + b
  one_place a b = ap (λ z. ρ * z + b) (omega (arith, mul-zero ρ))

  one_long : (n : ℕ) → n ≡ ρ * ρ → n ≡ 1 * ρ * ρ
  one_long n e = e ∙ ap (λ z. z * ρ) (sym (one-mul ρ))

  at_one : (t : List ℕ) (a b c : ℕ) → T (has (get_or t (ρ * a + b) 0) c) ↔ T (has (get_or t (place ρ 0 a b) 0) c)
  at_one t a b c = same_iff (ap (λ k. has (get_or t k 0) c) (sym (one_place a b)))

module _ (ρ φ : ℕ) (l t : List ℕ) (ll : length l ≡ φ * ρ * ρ) (h : Around ρ φ l t) where
  -- ---- a slot is dropped

  pub around_dropped : (s : ℕ) → Around ρ φ (results_dropped ρ s l) (results_dropped ρ s t)
  around_dropped s = record {
    long = dropped_length ρ s t ∙ h.long;
    holds = λ a b c ab bb cb. Iff.trans (at_one ρ (results_dropped ρ s t) a b c)
        (Iff.trans (results_dropped_is ρ 1 s t (one_long ρ (length t) h.long) 0 a b c (omega arith) ab bb) (
          (λ (i, j, k, u). let (f, fb, v) = (h.holds a b c ab bb cb).0 ((at_one ρ t a b c).1 u) in (
            f,
            fb,
            ⊎_elim (λ z. inl ((results_dropped_is ρ φ s l ll f a b c fb ab bb).1 (i, j, k, z)))
                (λ z. inr ((results_dropped_is ρ φ s l ll f b a c fb bb ab).1 (j, i, k, z))) v,
          )),
          (λ (f, fb, v). ⊎_elim
              (λ z. let (i, j, k, u) = (results_dropped_is ρ φ s l ll f a b c fb ab bb).0 z in
              (i, j, k, (at_one ρ t a b c).0 ((h.holds a b c ab bb cb).1 (f, fb, inl u))))
              (λ z. let (j, i, k, u) = (results_dropped_is ρ φ s l ll f b a c fb bb ab).0 z in
              (i, j, k, (at_one ρ t a b c).0 ((h.holds a b c ab bb cb).1 (f, fb, inr u)))) v),
        ));
  }

  -- ---- slot b is called a

  module _ (a b : ℕ) (ab : a < ρ) (bb : b < ρ) where
    around_through : Around ρ φ (results_through ρ a b (2 ^ a) l) (results_through ρ a b (2 ^ a) t)
    around_through = record {
      long = results_length ρ a b (2 ^ a) t ∙ h.long;
      holds = λ p q c pb qb cb. Iff.trans (at_one ρ (results_through ρ a b (2 ^ a) t) p q c)
          (Iff.trans (results_is ρ 1 a b (2 ^ a) ab bb t (one_long ρ (length t) h.long) 0 p q c (omega arith) pb qb) (
            (λ (z, y, d, i, j, k, u). let (f, fb, v) =
                (h.holds z y d (pick_below ρ φ a b (2 ^ a) ab bb p z pb i) (pick_below ρ φ a b (2 ^ a) ab bb q y qb j)
                (pick_below ρ φ a b (2 ^ a) ab bb c d cb k)).0 ((at_one ρ t z y d).1 u) in (
                  f,
                  fb,
                  ⊎_elim (λ o. inl ((results_is ρ φ a b (2 ^ a) ab bb l ll f p q c fb pb qb).1 (z, y, d, i, j, k, o)))
                      (λ o. inr ((results_is ρ φ a b (2 ^ a) ab bb l ll f q p c fb qb pb).1 (y, z, d, j, i, k, o))) v,
                )),
            (λ (f, fb, v). ⊎_elim
                (λ o. let (z, y, d, i, j, k, u) = (results_is ρ φ a b (2 ^ a) ab bb l ll f p q c fb pb qb).0 o in (
                  z,
                  y,
                  d,
                  i,
                  j,
                  k,
                  (at_one ρ t z y d).0
                      ((h.holds z y d (pick_below ρ φ a b (2 ^ a) ab bb p z pb i) (pick_below ρ φ a b (2 ^ a) ab bb q y qb j)
                      (pick_below ρ φ a b (2 ^ a) ab bb c d cb k)).1 (f, fb, inl u)),
                ))
                (λ o. let (y, z, d, j, i, k, u) = (results_is ρ φ a b (2 ^ a) ab bb l ll f q p c fb qb pb).0 o in (
                  z,
                  y,
                  d,
                  i,
                  j,
                  k,
                  (at_one ρ t z y d).0
                      ((h.holds z y d (pick_below ρ φ a b (2 ^ a) ab bb p z pb i) (pick_below ρ φ a b (2 ^ a) ab bb q y qb j)
                      (pick_below ρ φ a b (2 ^ a) ab bb c d cb k)).1 (f, fb, inr u)),
                )) v),
          ));
    }

  -- ---- a result is recorded

  module _ (f a b m : ℕ) (fb : f < φ) (ab : a < ρ) (bb : b < ρ) where
    -- the entry of a pair of slots to which m is added
    pair_added : (u : List ℕ) → length u ≡ ρ * ρ → (a b s q c : ℕ) → a < ρ → b < ρ → s < ρ → q < ρ
        → T (has (get_or (set u (ρ * a + b) (bit_or (get_or u (ρ * a + b) 0) (2 ^ m))) (ρ * s + q) 0) c)
        ↔ (T (has (get_or u (ρ * s + q) 0) c) ⊎ ((s ≡ a) × (q ≡ b) × (c ≡ m)))
    pair_added u ul a b s q c ab bb sb qb = Iff.trans (added u (ρ * a + b) (ρ * s + q) m c (subst (λ z. ρ * a + b < z) (sym ul) (entry_below ρ ρ a b ab bb))) (
      (λ k. ⊎_elim inl (λ (e, i). inr
          (sym (line_entry ρ s q qb) ∙ ap (λ z. z / ρ) e ∙ line_entry ρ a b bb, sym (along_entry ρ s q qb) ∙ ap (λ z. z % ρ) e ∙ along_entry ρ a b bb, i)) k),
      (λ k. ⊎_elim inl (λ (i, j, e). inr (ap₂ (λ x y. ρ * x + y) i j, e)) k),
    )

    both_added : (s q c : ℕ) → s < ρ → q < ρ
        → T (has (get_or (set (set t (ρ * a + b) (bit_or (get_or t (ρ * a + b) 0) (2 ^ m))) (ρ * b + a)
        (bit_or (get_or (set t (ρ * a + b) (bit_or (get_or t (ρ * a + b) 0) (2 ^ m))) (ρ * b + a) 0) (2 ^ m))) (ρ * s + q) 0) c)
        ↔ (T (has (get_or t (ρ * s + q) 0) c) ⊎ ((c ≡ m) × (((s ≡ a) × (q ≡ b)) ⊎ ((s ≡ b) × (q ≡ a)))))
    both_added s q c sb qb =
        let n = set t (ρ * a + b) (bit_or (get_or t (ρ * a + b) 0) (2 ^ m)) in
        Iff.trans (pair_added n (length-set t (ρ * a + b) (bit_or (get_or t (ρ * a + b) 0) (2 ^ m)) ∙ h.long) b a s q c bb ab sb qb) (
          (λ k. ⊎_elim (λ u. ⊎_elim inl (λ (i, j, e). inr (e, inl (i, j))) ((pair_added t h.long a b s q c ab bb sb qb).0 u))
              (λ (i, j, e). inr (e, inr (i, j))) k),
          (λ k. ⊎_elim (λ u. inl ((pair_added t h.long a b s q c ab bb sb qb).1 (inl u)))
              (λ (e, o). ⊎_elim (λ (i, j). inl ((pair_added t h.long a b s q c ab bb sb qb).1 (inr (i, j, e)))) (λ (i, j). inr (i, j, e)) o) k),
        )

    -- the entry of a result to which m is added
    result_added : (g s q c : ℕ) → g < φ → s < ρ → q < ρ
        → T (has (get_or (set l (place ρ f a b) (bit_or (get_or l (place ρ f a b) 0) (2 ^ m))) (place ρ g s q) 0) c)
        ↔ (T (has (get_or l (place ρ g s q) 0) c) ⊎ ((g ≡ f) × (s ≡ a) × (q ≡ b) × (c ≡ m)))
    result_added g s q c gb sb qb =
        Iff.trans (added l (place ρ f a b) (place ρ g s q) m c (subst (λ z. place ρ f a b < z) (sym ll) (place_below ρ f a b ab bb φ fb))) (
          (λ k. ⊎_elim inl (λ (e, i). inr (
            sym (function_place ρ g s q sb qb) ∙ ap (λ z. z / (ρ * ρ)) e ∙ function_place ρ f a b ab bb,
            sym (first_place ρ g s q sb qb) ∙ ap (λ z. z / ρ % ρ) e
                ∙ first_place ρ f a b ab bb,
            sym (second_place ρ g s q sb qb) ∙ ap (λ z. z % ρ) e ∙ second_place ρ f a b ab bb,
            i,
          )) k),
          (λ k. ⊎_elim inl (λ (i, j, o, e). inr (ap₂ (λ x y. ρ * x + y) (ap₂ (λ x y. ρ * x + y) i j) o, e)) k),
        )

    pub around_recorded : Around ρ φ (result_recorded ρ f a b m l) (pair_recorded ρ a b m t)
    unfolding result_recorded pair_recorded
    around_recorded = by_test (eqb a m || eqb b m) (λ e. rw e h) (λ e. rw e (record {
      long = simp length-set h.long;
      holds = λ s q c sb qb cb. Iff.trans (both_added s q c sb qb) (
        (λ k. ⊎_elim
            (λ u. let (g, gb, v) = (h.holds s q c sb qb cb).0 u in
            (g, gb, ⊎_elim (λ z. inl ((result_added g s q c gb sb qb).1 (inl z))) (λ z. inr ((result_added g q s c gb qb sb).1 (inl z))) v))
            (λ (i, o). (
              f,
              fb,
              ⊎_elim (λ (x, y). inl ((result_added f s q c fb sb qb).1 (inr (refl, x, y, i))))
                  (λ (x, y). inr ((result_added f q s c fb qb sb).1 (inr (refl, y, x, i)))) o,
            )) k),
        (λ (g, gb, v). ⊎_elim
            (λ z. ⊎_elim (λ u. inl ((h.holds s q c sb qb cb).1 (g, gb, inl u))) (λ (_, x, y, i). inr (i, inl (x, y))) ((result_added g s q c gb sb qb).0 z))
            (λ z. ⊎_elim (λ u. inl ((h.holds s q c sb qb cb).1 (g, gb, inr u))) (λ (_, y, x, i). inr (i, inr (x, y))) ((result_added g q s c gb qb sb).0 z)) v),
      );
    }))

pub around_renamed : (ρ φ : ℕ) (l t : List ℕ) → length l ≡ φ * ρ * ρ → Around ρ φ l t → (a b : ℕ) → a < ρ → b < ρ
    → Around ρ φ (results_renamed ρ a b l) (results_renamed ρ a b t)
unfolding results_renamed
around_renamed ρ φ l t ll h a b ab bb =
    around_dropped ρ φ (results_through ρ a b (2 ^ a) l) (results_through ρ a b (2 ^ a) t) (results_length ρ a b (2 ^ a) l ∙ ll)
    (around_through ρ φ l t ll h a b ab bb) b

-- ---- what gets a mark

module _ (ρ : ℕ) where
  -- what is above each slot is the same
  pub record SameAbove (up up' : List ℕ) : Type 0 where
    pub same : (h c : ℕ) → h < ρ → c < ρ → T (has (get_or up h 0) c) ↔ T (has (get_or up' h 0) c)

  flag_same : (m n h : ℕ) → ((c : ℕ) → c < ρ → T (has m c) ↔ T (has n c)) → flag_of ρ m h ≡ flag_of ρ n h
  unfolding flag_of
  flag_same m n h e = rw (same_test (nonempty ρ m) (nonempty ρ n) (
    (λ t. let (c, cb, u) = (nonempty_is ρ m).0 t in (nonempty_is ρ n).1 (c, cb, (e c cb).0 u)),
    (λ t. let (c, cb, u) = (nonempty_is ρ n).0 t in (nonempty_is ρ m).1 (c, cb, (e c cb).1 u)),
  ))

  both : (m n s c : ℕ) → (T (has m c) ↔ T (has n c)) → T (has (bit_and m s) c) → T (has (bit_and n s) c)
  both m n s c e t = let u = subst T (has_and m s c) t in
      subst T (sym (has_and n s c)) (and_i (has n c) (has s c) (e.0 (and_l (has m c) (has s c) u)) (and_r (has m c) (has s c) u))

  below_same : (up up' : List ℕ) → SameAbove up up' → (s k : ℕ) → k ≤ ρ → below_of ρ up s k ≡ below_of ρ up' s k
  unfolding below_of
  below_same up up' e s zero b = refl
  below_same up up' e s (suc k) b = ap₂ bit_or (below_same up up' e s k (omega arith))
      (flag_same (bit_and (get_or up k 0) s) (bit_and (get_or up' k 0) s) k (λ c cb.
      let i = e.same k c (omega arith) cb in (both (get_or up k 0) (get_or up' k 0) s c i, both (get_or up' k 0) (get_or up k 0) s c (Iff.symm i))))

  passes_same : (up up' : List ℕ) → SameAbove up up' → (n s : ℕ) → passes ρ up n s ≡ passes ρ up' n s
  unfolding passes
  passes_same up up' e zero s = refl
  passes_same up up' e (suc n) s =
      ap (λ z. passes ρ up n (bit_or s z)) (below_same up up' e s ρ (omega arith)) ∙ passes_same up up' e n (bit_or s (below_of ρ up' s ρ))

module _ (ρ φ : ℕ) (l t : List ℕ) (h : Around ρ φ l t) where
  above_same : SameAbove ρ (above_slots ρ t) (above_of ρ (folded_of ρ φ l))
  unfolding above_slots
  above_same = record {
    same = λ g c gb cb. Iff.trans (same_iff (ap (λ m. has m c) (table_at (λ h. union_of t h ρ ρ) ρ g 0 gb))) (Iff.trans (union_is t g ρ ρ c) (Iff.trans (
      (λ (j, jb, u). let (f, fb, v) = (h.holds j g c jb gb cb).0 (subst (λ z. T (has (get_or t z 0) c)) (down j g) u) in ⊎_elim
          (λ z. (place ρ f j g, place_below ρ f j g jb gb φ fb, z, inr (sym (second_place ρ f j g jb gb))))
          (λ z. (place ρ f g j, place_below ρ f g j gb jb φ fb, z, inl (sym (first_place ρ f g j gb jb)))) v),
      (λ (k, kb, u, d). ⊎_elim
          (λ e. (
            place_second ρ k,
            second_below ρ φ k kb,
            subst (λ z. T (has (get_or t z 0) c)) (sym (down (place_second ρ k) g)) ((h.holds (place_second ρ k) g c (second_below ρ φ k kb) gb cb).1 (
              place_function ρ k,
              function_below ρ φ k kb,
              inr
                  (subst (λ z. T (has (get_or l z 0) c)) (sym (place_is ρ k) ∙ ap (λ z. place ρ (place_function ρ k) z (place_second ρ k)) (sym e)) u),
            )),
          ))
          (λ e. (
            place_first ρ k,
            first_below ρ φ k kb,
            subst (λ z. T (has (get_or t z 0) c)) (sym (down (place_first ρ k) g)) ((h.holds (place_first ρ k) g c (first_below ρ φ k kb) gb cb).1 (
              place_function ρ k,
              function_below ρ φ k kb,
              inl
                  (subst (λ z. T (has (get_or l z 0) c)) (sym (place_is ρ k) ∙ ap (λ z. place ρ (place_function ρ k) (place_first ρ k) z) (sym e)) u),
            )),
          )) d),
    ) (Iff.symm (above_is ρ φ l g c gb))));
  }
    where
      down : (j g : ℕ) → g + j * ρ ≡ ρ * j + g
      down j g = omega (arith, mul_comm j ρ)

  beside_same : (x : ℕ) → x < ρ → (k : ℕ) → k ≤ ρ → beside_slots ρ t x k ≡ beside_of ρ (folded_of ρ φ l) x k
  unfolding beside_slots beside_of
  beside_same x xb zero b = refl
  beside_same x xb (suc k) b =
      let kb : k < ρ = omega arith in
      ap₂ bit_or (beside_same x xb k (omega arith))
      (flag_same ρ (get_or t (ρ * x + k) 0) (bit_or (get_or (folded_of ρ φ l) (ρ * x + k) 0) (get_or (folded_of ρ φ l) (ρ * k + x) 0)) k (λ c cb.
      Iff.trans (h.holds x k c xb kb cb) (Iff.trans (
        (λ (f, fb, v). ⊎_elim (λ z. inl ((folded_is ρ φ l x k c xb kb).1 (f, fb, z))) (λ z. inr ((folded_is ρ φ l k x c kb xb).1 (f, fb, z))) v),
        (λ v. ⊎_elim (λ z. let (f, fb, u) = (folded_is ρ φ l x k c xb kb).0 z in (f, fb, inl u))
            (λ z. let (f, fb, u) = (folded_is ρ φ l k x c kb xb).0 z in (f, fb, inr u)) v),
      ) (Iff.symm (or_is (get_or (folded_of ρ φ l) (ρ * x + k) 0) (get_or (folded_of ρ φ l) (ρ * k + x) 0) c)))))

  module _ (x more : ℕ) (xb : x < ρ) (mb : more < 2 ^ ρ) where
    abbrev seed : ℕ
    seed = bit_or (bit_or (2 ^ x) (beside_of ρ (folded_of ρ φ l) x ρ)) more

    seed_small : bit_or (bit_or (2 ^ x) (beside_of ρ (folded_of ρ φ l) x ρ)) more < 2 ^ ρ
    seed_small = or_small ρ (bit_or (2 ^ x) (beside_of ρ (folded_of ρ φ l) x ρ)) more
        (or_small ρ (2 ^ x) (beside_of ρ (folded_of ρ φ l) x ρ) (pow_small ρ x xb) (beside_small ρ (folded_of ρ φ l) x ρ (omega arith))) mb

    -- what lies beside x stands in an entry with it
    near : (h : ℕ) → T (has (beside_of ρ (folded_of ρ φ l) x ρ) h) → Beneath ρ φ l x more h
    near h t =
        let (hb, (c, cb, p)) = (beside_is ρ (folded_of ρ φ l) x ρ h).0 t in
        ⊎_elim
        (λ u. let (f, fb, v) = (folded_is ρ φ l x h c xb hb).0 u in
        direct (place ρ f x h) (place_below ρ f x h xb hb φ fb) cb v (inl (first_place ρ f x h xb hb)) (inr (sym (second_place ρ f x h xb hb))))
        (λ u. let (f, fb, v) = (folded_is ρ φ l h x c hb xb).0 u in
        direct (place ρ f h x) (place_below ρ f h x hb xb φ fb) cb v (inr (inl (second_place ρ f h x hb xb))) (inl (sym (first_place ρ f h x hb xb))))
        p

    into : {h : ℕ} → BelowSeed ρ φ l seed h → Beneath ρ φ l x more h ⊎ (h ≡ x)
    into {h} (seeded t) = ⊎_elim
        (λ u. ⊎_elim (λ v. inr ((single_is x h).0 v)) (λ v. inl (near h v)) ((or_is (2 ^ x) (beside_of ρ (folded_of ρ φ l) x ρ) h).0 u))
        (λ u. inl (extra u)) ((or_is (bit_or (2 ^ x) (beside_of ρ (folded_of ρ φ l) x ρ)) more h).0 t)
    into (lower {c} hb cb (k, kb, u, d) o) = ⊎_elim (λ b. inl (beneath k kb cb u b d)) (λ e. inl (direct k kb cb u (inr (inr e)) d)) (into o)

    self : BelowSeed ρ φ l seed x
    self = seeded ((or_is (bit_or (2 ^ x) (beside_of ρ (folded_of ρ φ l) x ρ)) more x).1
        (inl ((or_is (2 ^ x) (beside_of ρ (folded_of ρ φ l) x ρ) x).1 (inl ((single_is x x).1 refl)))))

    -- an argument of a result at x lies beside x, or is x
    beside : (k : ℕ) {c h : ℕ} → k < φ * ρ * ρ → c < ρ → T (has (get_or l k 0) c) → (place_first ρ k ≡ x) ⊎ (place_second ρ k ≡ x)
        → (h ≡ place_first ρ k) ⊎ (h ≡ place_second ρ k) → BelowSeed ρ φ l seed h
    beside k {c} {h} kb cb t d e = go d e
      where
        from : (h : ℕ) → h < ρ → T (has (get_or (folded_of ρ φ l) (ρ * x + h) 0) c) ⊎ T (has (get_or (folded_of ρ φ l) (ρ * h + x) 0) c)
            → BelowSeed ρ φ l seed h
        from h hb p = seeded ((or_is (bit_or (2 ^ x) (beside_of ρ (folded_of ρ φ l) x ρ)) more h).1
            (inl ((or_is (2 ^ x) (beside_of ρ (folded_of ρ φ l) x ρ) h).1 (inr ((beside_is ρ (folded_of ρ φ l) x ρ h).1 (hb, (c, cb, p)))))))

        go : (place_first ρ k ≡ x) ⊎ (place_second ρ k ≡ x) → (h ≡ place_first ρ k) ⊎ (h ≡ place_second ρ k) → BelowSeed ρ φ l seed h
        go (inl p) (inl q) = subst (BelowSeed ρ φ l seed) (sym (q ∙ p)) self
        go (inl p) (inr q) = let hb = subst (λ z. z < ρ) (sym q) (second_below ρ φ k kb) in
            from h hb (inl ((folded_is ρ φ l x h c xb hb).1 (
              place_function ρ k,
              function_below ρ φ k kb,
              subst (λ z. T (has (get_or l z 0) c))
                  (sym (place_is ρ k) ∙ ap₂ (place ρ (place_function ρ k)) p (sym q)) t,
            )))
        go (inr p) (inl q) = let hb = subst (λ z. z < ρ) (sym q) (first_below ρ φ k kb) in
            from h hb (inr ((folded_is ρ φ l h x c hb xb).1 (
              place_function ρ k,
              function_below ρ φ k kb,
              subst (λ z. T (has (get_or l z 0) c))
                  (sym (place_is ρ k) ∙ ap₂ (place ρ (place_function ρ k)) (sym q) p) t,
            )))
        go (inr p) (inr q) = subst (BelowSeed ρ φ l seed) (sym (q ∙ p)) self

    argument : (k h : ℕ) → k < φ * ρ * ρ → (h ≡ place_first ρ k) ⊎ (h ≡ place_second ρ k) → h < ρ
    argument k h kb d = ⊎_elim (λ e. subst (λ z. z < ρ) (sym e) (first_below ρ φ k kb)) (λ e. subst (λ z. z < ρ) (sym e) (second_below ρ φ k kb)) d

    back : {h : ℕ} → Beneath ρ φ l x more h → BelowSeed ρ φ l seed h
    back {h} (extra t) = seeded ((or_is (bit_or (2 ^ x) (beside_of ρ (folded_of ρ φ l) x ρ)) more h).1 (inr t))
    back {h} (direct k {c} kb cb t d e) =
        ⊎_elim (λ p. beside k kb cb t (inl p) e)
        (⊎_elim (λ p. beside k kb cb t (inr p) e) (λ p. lower (argument k h kb e) xb (k, kb, subst (λ z. T (has (get_or l k 0) z)) p t, e) self)) d
    back {h} (beneath k {c} kb cb t o e) = lower (argument k h kb e) cb (k, kb, t, e) (back o)

    -- x and the slots that get a mark are found in the table of pairs
    pub lost_around : lost_slots ρ t x more ≡ bit_or (lost_of ρ φ l x more) (2 ^ x)
    unfolding lost_slots raised_of
    lost_around =
        let u = above_slots ρ t in
        let v = above_of ρ (folded_of ρ φ l) in
        passes_same ρ u v above_same (2 ^ ρ) _ ∙ ap (λ m. passes ρ v (2 ^ ρ) (bit_or (bit_or (2 ^ x) m) more)) (beside_same x xb ρ (omega arith))
        ∙ bits_same ρ A B (raised_small ρ (above_of ρ (folded_of ρ φ l)) seed seed_small)
        (or_small ρ (lost_of ρ φ l x more) (2 ^ x) (lost_small ρ φ l x more xb mb) (pow_small ρ x xb))
        (λ i ib. bit_same A B i (same_test (has A i) (has B i) (
          (λ k. (or_is (lost_of ρ φ l x more) (2 ^ x) i).1
              (⊎_elim (λ b. inl ((lost_beneath ρ φ l x more xb mb i).1 b)) (λ e. inr ((single_is x i).1 e)) (into ((raised_is ρ φ l seed i seed_small).0 k)))),
          (λ k. (raised_is ρ φ l seed i seed_small).1
              (⊎_elim (λ b. back ((lost_beneath ρ φ l x more xb mb i).0 b)) (λ e. subst (BelowSeed ρ φ l seed) (sym ((single_is x i).0 e)) self)
              ((or_is (lost_of ρ φ l x more) (2 ^ x) i).0 k))),
        )))
      where
        A : ℕ
        A = raised_of ρ (above_of ρ (folded_of ρ φ l)) (bit_or (bit_or (2 ^ x) (beside_of ρ (folded_of ρ φ l) x ρ)) more)

        B : ℕ
        B = bit_or (lost_of ρ φ l x more) (2 ^ x)
