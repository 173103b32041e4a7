-- What follows from the definitions of specs/Marks.antt.
use mathlib.Core.Path.{◌≡◌, refl, sym, ap, ap₂, ◌∙◌, subst}
use mathlib.Core.Logic.Iff
use mathlib.Core.Logic.{◌⊎◌, inl, inr, ◌↔◌, ◌≢◌, ⊎_elim}
use mathlib.Core.Bool.{Bool, false, ◌||◌}
use Prim.Native.Nat.{ℕ, zero, suc, ◌+◌, ◌*◌, ◌/◌, ◌^◌, ◌-◌, ◌≤◌, ◌<◌}
use native.Mathlib.Omega.{arith}
use native.Mathlib.Nat.{add-suc, suc-add, mul_comm, mul-le-mul_right, mod-lt}
use native.Mathlib.Numerals.{add-one}
use mathlib.Core.List.{List}
use lib.Dec.{eqb, T}
use lib.Bits.{bit_and, bit_or}
use lib.ListN.{get_or}
use borrow.Author.Tests.{eqb-true, eqb-false}
use Rattle.base.proofs.Theory.Choice.{by_test}
use Rattle.base.specs.Masks.{has}
use Rattle.semantics.proofs.Theory.Booleans.{and_l, and_r, and_i}
use Rattle.window.specs.Places.{place, place_function, place_first, place_second}
use Rattle.window.proofs.Theory.Places.{place_sum, place_is, first_place, second_place}
use Rattle.window.proofs.Theory.Places.{place_below, function_below, first_below, second_below, entry_below}
use Rattle.window.proofs.Theory.Table.{table_at}
use Rattle.window.specs.Bits.{nonempty}
use Rattle.window.proofs.Theory.Bits.{nonempty_is, or_is, has_and, single_is, none_in, same_iff, or_ge, or_small, pow_small, none_small, truth, no_truth}
use Rattle.window.proofs.Theory.Bits.{less_or}
use Rattle.window.specs.Marks.{union_of, above_of, flag_of, below_of, beside_of, passes, raised_of, folded_of, lost_of}

pub union_more : (t : List ℕ) (start step j m : ℕ) → m ≡ union_of t start step j → bit_or m (get_or t (start + j * step) 0) ≡ union_of t start step (j + 1)
unfolding union_of
union_more t start step j m e = rw (add-one, e)

pub union_none : (t : List ℕ) (start step : ℕ) → 0 ≡ union_of t start step 0
unfolding union_of
union_none t start step = refl

pub union_all : (t : List ℕ) (start step m j k : ℕ) → j ≤ k → k ≤ j → m ≡ union_of t start step j → m ≡ union_of t start step k
union_all t start step m j k h g e = e ∙ ap (union_of t start step) (omega arith)

-- the entries of a union lie inside
pub stepped : (ρ n start step j : ℕ) → j < ρ → start + (ρ - 1) * step < n → start + j * step < n
stepped ρ n start step j h g = let l : j * step ≤ (ρ - 1) * step = mul-le-mul_right {m = j} {n = ρ - 1} step (omega arith) in omega arith

pub union_is : (t : List ℕ) (start step k c : ℕ) → T (has (union_of t start step k) c) ↔ ((j : ℕ) × (j < k) × T (has (get_or t (start + j * step) 0) c))
unfolding union_of
union_is t start step zero c = ((λ h. absurd (none_in c h)), (λ (j, h, _). absurd (omega arith)))
union_is t start step (suc k) c = Iff.trans (or_is (union_of t start step k) (get_or t (start + k * step) 0) c) (
  (λ h. ⊎_elim (λ u. let (j, l, v) = (union_is t start step k c).0 u in (j, omega arith, v)) (λ u. (k, omega arith, u)) h),
  (λ (j, l, v). by_test (eqb j k)
      (λ e. inr (subst (λ i. T (has (get_or t (start + i * step) 0) c)) (eqb-true j k e) v))
      (λ e. let d = eqb-false j k e in inl ((union_is t start step k c).1 (j, omega arith, v)))),
)

pub mark_is : (l : List Bool) (s i : ℕ) (v : Bool) → v ≡ has s i → (get_or l i false || v) ≡ (get_or l i false || has s i)
mark_is l s i v e = rw e

module _ (ρ : ℕ) where
  -- ---- one turn of each loop

  pub below_more : (up : List ℕ) (s h m v : ℕ) → m ≡ below_of ρ up s h → v ≡ flag_of ρ (bit_and (get_or up h 0) s) h → bit_or m v ≡ below_of ρ up s (h + 1)
  unfolding below_of
  below_more up s h m v e d = rw (add-one, e, d)

  pub beside_more : (t : List ℕ) (x h m v : ℕ) → m ≡ beside_of ρ t x h → v ≡ flag_of ρ (bit_or (get_or t (ρ * x + h) 0) (get_or t (ρ * h + x) 0)) h
      → bit_or m v ≡ beside_of ρ t x (h + 1)
  unfolding beside_of
  beside_more t x h m v e d = rw (add-one, e, d)

  pub below_none : (up : List ℕ) (s : ℕ) → 0 ≡ below_of ρ up s 0
  unfolding below_of
  below_none up s = refl

  pub beside_none : (t : List ℕ) (x : ℕ) → 0 ≡ beside_of ρ t x 0
  unfolding beside_of
  beside_none t x = refl

  pub below_all : (up : List ℕ) (s m h : ℕ) → h ≤ ρ → ρ ≤ h → m ≡ below_of ρ up s h → m ≡ below_of ρ up s ρ
  below_all up s m h k g e = e ∙ ap (below_of ρ up s) (omega arith)

  pub beside_all : (t : List ℕ) (x m h : ℕ) → h ≤ ρ → ρ ≤ h → m ≡ beside_of ρ t x h → m ≡ beside_of ρ t x ρ
  beside_all t x m h k g e = e ∙ ap (beside_of ρ t x) (omega arith)

  -- ---- bounds

  flag_small : (hits h : ℕ) → h < ρ → flag_of ρ hits h < 2 ^ ρ
  unfolding flag_of
  flag_small hits h b = by_test (nonempty ρ hits) (λ t. rw t (pow_small ρ h b)) (λ t. rw t (none_small ρ))

  below_small : (up : List ℕ) (s k : ℕ) → k ≤ ρ → below_of ρ up s k < 2 ^ ρ
  unfolding below_of
  below_small up s zero h = none_small ρ
  below_small up s (suc k) h = or_small ρ (below_of ρ up s k) (flag_of ρ (bit_and (get_or up k 0) s) k) (below_small up s k (omega arith))
      (flag_small (bit_and (get_or up k 0) s) k (omega arith))

  pub beside_small : (t : List ℕ) (x k : ℕ) → k ≤ ρ → beside_of ρ t x k < 2 ^ ρ
  unfolding beside_of
  beside_small t x zero h = none_small ρ
  beside_small t x (suc k) h =
      or_small ρ (beside_of ρ t x k) (flag_of ρ (bit_or (get_or t (ρ * x + k) 0) (get_or t (ρ * k + x) 0)) k) (beside_small t x k (omega arith))
      (flag_small (bit_or (get_or t (ρ * x + k) 0) (get_or t (ρ * k + x) 0)) k (omega arith))

  -- ---- the passes come to an end

  abbrev next : List ℕ → ℕ → ℕ
  next up s = bit_or s (below_of ρ up s ρ)

  next_small : (up : List ℕ) (s : ℕ) → s < 2 ^ ρ → bit_or s (below_of ρ up s ρ) < 2 ^ ρ
  next_small up s b = or_small ρ s (below_of ρ up s ρ) b (below_small up s ρ (omega arith))

  passes_small : (up : List ℕ) (n s : ℕ) → s < 2 ^ ρ → passes ρ up n s < 2 ^ ρ
  unfolding passes
  passes_small up zero s b = b
  passes_small up (suc n) s b = passes_small up n (next up s) (next_small up s b)

  pub raised_small : (up : List ℕ) (seed : ℕ) → seed < 2 ^ ρ → raised_of ρ up seed < 2 ^ ρ
  unfolding raised_of
  raised_small up seed b = passes_small up (2 ^ ρ) seed b

  passes_still : (up : List ℕ) (s : ℕ) → next up s ≡ s → (n : ℕ) → passes ρ up n s ≡ s
  unfolding passes
  passes_still up s e zero = refl
  passes_still up s e (suc n) = ap (passes ρ up n) e ∙ passes_still up s e n

  passes_ended : (up : List ℕ) (n s : ℕ) → s < 2 ^ ρ → 2 ^ ρ ≤ n + s → next up (passes ρ up n s) ≡ passes ρ up n s
  unfolding passes
  passes_ended up zero s b h = absurd (omega arith)
  passes_ended up (suc n) s b h = by_test (eqb (next up s) s)
      (λ t. let e = eqb-true (next up s) s t in let k = ap (passes ρ up n) e ∙ passes_still up s e n in rw k e)
      (λ t. let d = eqb-false (next up s) s t in passes_ended up n (next up s) (next_small up s b) (omega (arith, or_ge s (below_of ρ up s ρ))))

  -- what the loop keeps: s is the seed after some passes, as many at most as s is large, and one more gives t
  pub record Rising (up : List ℕ) (seed s t : ℕ) : Type 0 where
    pub turns : ℕ
    pub few : turns ≤ s
    pub small : s < 2 ^ ρ
    pub left : (n : ℕ) → passes ρ up (turns + n) seed ≡ passes ρ up n s
    pub more : t ≡ bit_or s (below_of ρ up s ρ)

  pub rising_none : (up : List ℕ) (seed v : ℕ) → seed < 2 ^ ρ → v ≡ below_of ρ up seed ρ → Rising up seed seed (bit_or seed v)
  rising_none up seed v b e = record {
    turns = 0;
    few = omega arith;
    small = b;
    left = λ n. ap (λ k. passes ρ up k seed) (omega arith);
    more =
        ap (bit_or seed) e;
  }

  pub rising_more : (up : List ℕ) (seed s t v : ℕ) → Rising up seed s t → t ≢ s → v ≡ below_of ρ up t ρ → Rising up seed t (bit_or t v)
  unfolding passes
  rising_more up seed s t v r d e = record {
    turns = suc r.turns;
    few = let l = or_ge s (below_of ρ up s ρ) in let m = r.more in omega (arith, r.few);
    small = subst (λ k. k < 2 ^ ρ) (sym r.more) (next_small up s r.small);
    left = λ n. ap (λ k. passes ρ up k seed) (suc-add r.turns n ∙ sym (add-suc r.turns n)) ∙ r.left (suc n) ∙ ap (passes ρ up n) (sym r.more);
    more = ap (bit_or t) e;
  }

  pub rising_grows : (up : List ℕ) (seed s t : ℕ) → Rising up seed s t → s ≤ t
  rising_grows up seed s t r = let l = or_ge s (below_of ρ up s ρ) in let m = r.more in omega arith

  pub rising_all : (up : List ℕ) (seed s t : ℕ) → Rising up seed s t → t ≡ s → s ≡ raised_of ρ up seed
  unfolding raised_of
  rising_all up seed s t r e =
      let k : r.turns + (2 ^ ρ - r.turns) ≡ 2 ^ ρ = omega (arith, r.few, r.small) in
      sym (ap (λ n. passes ρ up n seed) (sym k) ∙ r.left (2 ^ ρ - r.turns) ∙ passes_still up s (sym r.more ∙ e) (2 ^ ρ - r.turns))

  -- ---- the same with two passes a turn

  passes_add : (up : List ℕ) (m n s : ℕ) → passes ρ up (m + n) s ≡ passes ρ up n (passes ρ up m s)
  unfolding passes
  passes_add up zero n s = let e : zero + n ≡ n = omega arith in ap (λ k. passes ρ up k s) e
  passes_add up (suc m) n s = ap (λ k. passes ρ up k s) (suc-add m n) ∙ passes_add up m n (next up s)

  -- s is the seed after some passes, and one more gives t
  pub record Reaching (up : List ℕ) (seed s t : ℕ) : Type 0 where
    pub turns : ℕ
    pub start : seed < 2 ^ ρ
    pub here : s ≡ passes ρ up turns seed
    pub more : t ≡ bit_or s (below_of ρ up s ρ)

  pub reaching_none : (up : List ℕ) (seed v w : ℕ) → seed < 2 ^ ρ → v ≡ below_of ρ up seed ρ → w ≡ below_of ρ up (bit_or seed v) ρ
      → Reaching up seed (bit_or seed v) (bit_or (bit_or seed v) w)
  unfolding passes
  reaching_none up seed v w b e d = record { turns = 1; start = b; here = ap (bit_or seed) e; more = ap (bit_or (bit_or seed v)) d }

  pub reaching_more : (up : List ℕ) (seed s t v w : ℕ) → Reaching up seed s t → v ≡ below_of ρ up t ρ → w ≡ below_of ρ up (bit_or t v) ρ
      → Reaching up seed (bit_or t v) (bit_or (bit_or t v) w)
  unfolding passes
  reaching_more up seed s t v w r e d = record {
    turns = r.turns + 2;
    start = r.start;
    here = ap (bit_or t) e ∙ ap (next up) (r.more ∙ ap (next up) r.here) ∙ sym (passes_add up r.turns 2 seed);
    more = ap (bit_or (bit_or t v)) d;
  }

  pub reaching_small : (up : List ℕ) (seed s t : ℕ) → Reaching up seed s t → s < 2 ^ ρ
  reaching_small up seed s t r = subst (λ k. k < 2 ^ ρ) (sym r.here) (passes_small up r.turns seed r.start)

  pub reaching_grows : (up : List ℕ) (seed s t v : ℕ) → Reaching up seed s t → t ≢ s → s < bit_or t v
  reaching_grows up seed s t v r d = let l = or_ge s (below_of ρ up s ρ) in let m = r.more in let k = or_ge t v in omega arith

  pub reaching_all : (up : List ℕ) (seed s t : ℕ) → Reaching up seed s t → t ≡ s → s ≡ raised_of ρ up seed
  unfolding raised_of
  reaching_all up seed s t r e =
      let closed : next up s ≡ s = sym r.more ∙ e in
      let N = 2 ^ ρ in
      ⊎_elim
      (λ l. let k : 2 ^ ρ ≡ r.turns + (2 ^ ρ - r.turns) = omega arith in
      sym (ap (λ n. passes ρ up n seed) k ∙ passes_add up r.turns (N - r.turns) seed ∙ ap (passes ρ up (N - r.turns)) (sym r.here)
      ∙ passes_still up s closed (N - r.turns)))
      (λ l. let k : r.turns ≡ 2 ^ ρ + (r.turns - 2 ^ ρ) = omega arith in
      r.here ∙ ap (λ n. passes ρ up n seed) k ∙ passes_add up N (r.turns - N) seed
      ∙ passes_still up (passes ρ up N seed) (passes_ended up N seed r.start (omega arith)) (r.turns - N))
      (less_or r.turns N)

  -- ---- what the definitions say

  pub flag_is : (hits h g : ℕ) → T (has (flag_of ρ hits h) g) ↔ ((g ≡ h) × ((c : ℕ) × (c < ρ) × T (has hits c)))
  unfolding flag_of
  flag_is hits h g = by_test (nonempty ρ hits)
      (λ t. rw t ((λ k. ((single_is h g).0 k, (nonempty_is ρ hits).0 (truth (nonempty ρ hits) t))), (λ (e, _). (single_is h g).1 e)))
      (λ t. rw t ((λ k. absurd (none_in g k)), (λ (_, k). absurd (no_truth (nonempty ρ hits) t ((nonempty_is ρ hits).1 k)))))

  pub below_is : (up : List ℕ) (s k h : ℕ) → T (has (below_of ρ up s k) h) ↔ ((h < k) × ((c : ℕ) × (c < ρ) × T (has (get_or up h 0) c) × T (has s c)))
  unfolding below_of
  below_is up s zero h = ((λ t. absurd (none_in h t)), (λ (l, _). absurd (omega arith)))
  below_is up s (suc k) h = Iff.trans (or_is (below_of ρ up s k) (flag_of ρ (bit_and (get_or up k 0) s) k) h) (
    (λ t. ⊎_elim (λ u. let (l, v) = (below_is up s k h).0 u in (omega arith, v))
        (λ u. let (e, (c, cb, v)) = (flag_is (bit_and (get_or up k 0) s) k h).0 u in
        let v' = subst T (has_and (get_or up k 0) s c) v in (
          omega arith,
          (
            c,
            cb,
            subst (λ i. T (has (get_or up i 0) c)) (sym e) (and_l (has (get_or up k 0) c) (has s c) v'),
            and_r (has (get_or up k 0) c)
                (has s c) v',
          ),
        )) t),
    (λ (l, (c, cb, p, q)). by_test (eqb h k)
        (λ e. let z = eqb-true h k e in
        inr ((flag_is (bit_and (get_or up k 0) s) k h).1
        (z, (c, cb, subst T (sym (has_and (get_or up k 0) s c)) (and_i (has (get_or up k 0) c) (has s c) (subst (λ i. T (has (get_or up i 0) c)) z p) q)))))
        (λ e. let d = eqb-false h k e in inl ((below_is up s k h).1 (omega arith, (c, cb, p, q))))),
  )

  pub beside_is : (t : List ℕ) (x k h : ℕ)
      → T (has (beside_of ρ t x k) h) ↔ ((h < k) × ((c : ℕ) × (c < ρ) × (T (has (get_or t (ρ * x + h) 0) c) ⊎ T (has (get_or t (ρ * h + x) 0) c))))
  unfolding beside_of
  beside_is t x zero h = ((λ k. absurd (none_in h k)), (λ (l, _). absurd (omega arith)))
  beside_is t x (suc k) h = Iff.trans (or_is (beside_of ρ t x k) (flag_of ρ (bit_or (get_or t (ρ * x + k) 0) (get_or t (ρ * k + x) 0)) k) h) (
    (λ u. ⊎_elim (λ v. let (l, p) = (beside_is t x k h).0 v in (omega arith, p))
        (λ v. let (e, (c, cb, p)) = (flag_is (bit_or (get_or t (ρ * x + k) 0) (get_or t (ρ * k + x) 0)) k h).0 v in (
          omega arith,
          (
            c,
            cb,
            subst (λ i. T (has (get_or t (ρ * x + i) 0) c) ⊎ T (has (get_or t (ρ * i + x) 0) c)) (sym e)
                ((or_is (get_or t (ρ * x + k) 0) (get_or t (ρ * k + x) 0) c).0 p),
          ),
        )) u),
    (λ (l, (c, cb, p)). by_test (eqb h k)
        (λ e. let z = eqb-true h k e in
        inr ((flag_is (bit_or (get_or t (ρ * x + k) 0) (get_or t (ρ * k + x) 0)) k h).1 (
          z,
          (
            c,
            cb,
            (or_is (get_or t (ρ * x + k) 0) (get_or t (ρ * k + x) 0) c).1
                (subst (λ i. T (has (get_or t (ρ * x + i) 0) c) ⊎ T (has (get_or t (ρ * i + x) 0) c)) z p),
          ),
        )))
        (λ e. let d = eqb-false h k e in inl ((beside_is t x k h).1 (omega arith, (c, cb, p))))),
  )

module _ (ρ φ : ℕ) where
  -- what `lost` calls, one after the other
  pub lost_is : (l t up : List ℕ) (x more one b e f r : ℕ) → t ≡ folded_of ρ φ l → up ≡ above_of ρ t → one ≡ 2 ^ x → b ≡ below_of ρ up one ρ
      → e ≡ beside_of ρ t x ρ
      → f ≡ flag_of ρ (get_or up x 0) x → r ≡ raised_of ρ up (bit_or (bit_or (bit_or b e) f) more) → r ≡ lost_of ρ φ l x more
  unfolding lost_of
  lost_is l t up x more one b e f r p q o i j k h = rw (h, i, j, k, o, q, p)

  pub folded_is : (l : List ℕ) (a b c : ℕ) → a < ρ → b < ρ
      → T (has (get_or (folded_of ρ φ l) (ρ * a + b) 0) c) ↔ ((f : ℕ) × (f < φ) × T (has (get_or l (place ρ f a b) 0) c))
  unfolding folded_of
  folded_is l a b c ab bb =
      let e = table_at (λ i. union_of l i (ρ * ρ) φ) (ρ * ρ) (ρ * a + b) 0 (entry_below ρ ρ a b ab bb) in
      Iff.trans (same_iff (ap (λ m. has m c) e)) (Iff.trans (union_is l (ρ * a + b) (ρ * ρ) φ c) (
        (λ (f, fb, t). (f, fb, subst (λ z. T (has (get_or l z 0) c)) (place_at f) t)),
        (λ (f, fb, t). (f, fb, subst (λ z. T (has (get_or l z 0) c)) (sym (place_at f)) t)),
      ))
    where
      place_at : (f : ℕ) → ρ * a + b + f * (ρ * ρ) ≡ place ρ f a b
      place_at f = omega (arith, mul_comm f (ρ * ρ), place_sum ρ f a b)

  -- c holds a result with h as an argument
  abbrev pub Up : List ℕ → ℕ → ℕ → Type 0
  Up l h c = (k : ℕ) × (k < φ * ρ * ρ) × T (has (get_or l k 0) c) × ((h ≡ place_first ρ k) ⊎ (h ≡ place_second ρ k))

  pub above_is : (l : List ℕ) (h c : ℕ) → h < ρ → T (has (get_or (above_of ρ (folded_of ρ φ l)) h 0) c) ↔ Up l h c
  unfolding above_of
  above_is l h c hb =
      let t = folded_of ρ φ l in
      let e = table_at (λ g. bit_or (union_of (folded_of ρ φ l) (ρ * g) 1 ρ) (union_of (folded_of ρ φ l) g ρ ρ)) ρ h 0 hb in
      Iff.trans (same_iff (ap (λ m. has m c) e)) (Iff.trans (or_is (union_of t (ρ * h) 1 ρ) (union_of t h ρ ρ) c) (
        (λ k. ⊎_elim
            (λ u. let (j, b, v) = (union_is t (ρ * h) 1 ρ c).0 u in
            let (f, fb, w) = (folded_is l h j c hb b).0 (subst (λ z. T (has (get_or (folded_of ρ φ l) z 0) c)) (across j) v) in
            (place ρ f h j, place_below ρ f h j hb b φ fb, w, inl (sym (first_place ρ f h j hb b))))
            (λ u. let (j, b, v) = (union_is t h ρ ρ c).0 u in
            let (f, fb, w) = (folded_is l j h c b hb).0 (subst (λ z. T (has (get_or (folded_of ρ φ l) z 0) c)) (down j) v) in
            (place ρ f j h, place_below ρ f j h b hb φ fb, w, inr (sym (second_place ρ f j h b hb)))) k),
        (λ (k, kb, w, d). ⊎_elim
            (λ p. inl ((union_is t (ρ * h) 1 ρ c).1 (
              place_second ρ k,
              second_below ρ φ k kb,
              subst (λ z. T (has (get_or (folded_of ρ φ l) z 0) c)) (sym (across (place_second ρ k)))
                  ((folded_is l h (place_second ρ k) c hb (second_below ρ φ k kb)).1 (
                    place_function ρ k,
                    function_below ρ φ k kb,
                    subst (λ z. T (has (get_or l z 0) c))
                        (sym (ap (λ a. place ρ (place_function ρ k) a (place_second ρ k)) p ∙ place_is ρ k)) w,
                  )),
            )))
            (λ p. inr ((union_is t h ρ ρ c).1 (
              place_first ρ k,
              first_below ρ φ k kb,
              subst (λ z. T (has (get_or (folded_of ρ φ l) z 0) c)) (sym (down (place_first ρ k)))
                  ((folded_is l (place_first ρ k) h c (first_below ρ φ k kb) hb).1 (
                    place_function ρ k,
                    function_below ρ φ k kb,
                    subst (λ z. T (has (get_or l z 0) c))
                        (sym (ap (λ b. place ρ (place_function ρ k) (place_first ρ k) b) p ∙ place_is ρ k)) w,
                  )),
            ))) d),
      ))
    where
      across : (j : ℕ) → ρ * h + j * 1 ≡ ρ * h + j
      across j = omega arith

      down : (j : ℕ) → h + j * ρ ≡ ρ * j + h
      down j = omega (arith, mul_comm j ρ)

-- ---- the registers from which a set is reached by held results

pub data BelowSeed (ρ φ : ℕ) (l : List ℕ) (seed : ℕ) : ℕ → Type 0 where
  seeded : {h : ℕ} → T (has seed h) → BelowSeed ρ φ l seed h
  lower : {c h : ℕ} → h < ρ → c < ρ → Up ρ φ l h c → BelowSeed ρ φ l seed c → BelowSeed ρ φ l seed h

module _ (ρ φ : ℕ) (l : List ℕ) where
  passes_sound : (n seed s h : ℕ) → ((g : ℕ) → T (has s g) → BelowSeed ρ φ l seed g) → T (has (passes ρ (above_of ρ (folded_of ρ φ l)) n s) h)
      → BelowSeed ρ φ l seed h
  unfolding passes
  passes_sound zero seed s h f t = f h t
  passes_sound (suc n) seed s h f t = passes_sound n seed (bit_or s (below_of ρ (above_of ρ (folded_of ρ φ l)) s ρ)) h
      (λ g u. ⊎_elim (f g) (λ v. let (gb, (c, cb, p, q)) = (below_is ρ (above_of ρ (folded_of ρ φ l)) s ρ g).0 v in
      lower gb cb ((above_is ρ φ l g c gb).0 p) (f c q)) ((or_is s (below_of ρ (above_of ρ (folded_of ρ φ l)) s ρ) g).0 u)) t

  passes_keep : (n s h : ℕ) → T (has s h) → T (has (passes ρ (above_of ρ (folded_of ρ φ l)) n s) h)
  unfolding passes
  passes_keep zero s h t = t
  passes_keep (suc n) s h t = passes_keep n (bit_or s (below_of ρ (above_of ρ (folded_of ρ φ l)) s ρ)) h
      ((or_is s (below_of ρ (above_of ρ (folded_of ρ φ l)) s ρ) h).1 (inl t))

  pub raised_is : (seed h : ℕ) → seed < 2 ^ ρ → T (has (raised_of ρ (above_of ρ (folded_of ρ φ l)) seed) h) ↔ BelowSeed ρ φ l seed h
  unfolding raised_of
  raised_is seed h b = (passes_sound (2 ^ ρ) seed seed h (λ g t. seeded t), back)
    where
      p : ℕ
      p = passes ρ (above_of ρ (folded_of ρ φ l)) (2 ^ ρ) seed

      back : {h : ℕ} → BelowSeed ρ φ l seed h → T (has (passes ρ (above_of ρ (folded_of ρ φ l)) (2 ^ ρ) seed) h)
      back {h} (seeded t) = passes_keep (2 ^ ρ) seed h t
      back {h} (lower {c} hb cb u o) = subst (λ m. T (has m h)) (passes_ended ρ (above_of ρ (folded_of ρ φ l)) (2 ^ ρ) seed b (omega arith))
          ((or_is p (below_of ρ (above_of ρ (folded_of ρ φ l)) p ρ) h).1
          (inr ((below_is ρ (above_of ρ (folded_of ρ φ l)) p ρ h).1 (hb, (c, cb, (above_is ρ φ l h c hb).1 u, back o)))))

-- h reaches, by zero or more results, an argument of a result that has x, or a register of `more`
pub data Beneath (ρ φ : ℕ) (l : List ℕ) (x more : ℕ) : ℕ → Type 0 where
  extra : {h : ℕ} → T (has more h) → Beneath ρ φ l x more h
  direct : (k : ℕ) {c h : ℕ} → k < φ * ρ * ρ → c < ρ → T (has (get_or l k 0) c) → (place_first ρ k ≡ x) ⊎ ((place_second ρ k ≡ x) ⊎ (c ≡ x))
      → (h ≡ place_first ρ k) ⊎ (h ≡ place_second ρ k) → Beneath ρ φ l x more h
  beneath : (k : ℕ) {c h : ℕ} → k < φ * ρ * ρ → c < ρ → T (has (get_or l k 0) c) → Beneath ρ φ l x more c → (h ≡ place_first ρ k) ⊎ (h ≡ place_second ρ k)
      → Beneath ρ φ l x more h

module _ (ρ φ : ℕ) (l : List ℕ) (x more : ℕ) (xb : x < ρ) (mb : more < 2 ^ ρ) where
  argument_below : (k h : ℕ) → (h ≡ place_first ρ k) ⊎ (h ≡ place_second ρ k) → h < ρ
  argument_below k h d = let p : 0 < ρ = omega arith in
      ⊎_elim (λ e. subst (λ z. z < ρ) (sym e) (mod-lt (k / ρ) p)) (λ e. subst (λ z. z < ρ) (sym e) (mod-lt k p)) d

  seed_is : (h : ℕ) → T (has (bit_or
      (bit_or (bit_or (below_of ρ (above_of ρ (folded_of ρ φ l)) (2 ^ x) ρ) (beside_of ρ (folded_of ρ φ l) x ρ)) (flag_of ρ (get_or (above_of ρ
      (folded_of ρ φ l)) x 0) x))
      more) h)
      ↔ (T (has more h) ⊎ ((k : ℕ) × (c : ℕ) × (k < φ * ρ * ρ) × (c < ρ) × T (has (get_or l k 0) c) × ((place_first ρ k ≡ x) ⊎ ((place_second ρ k
      ≡ x) ⊎ (c ≡ x)))
      × ((h ≡ place_first ρ k) ⊎ (h ≡ place_second ρ k))))
  seed_is h = (into, out)
    where
      B : ℕ
      B = below_of ρ (above_of ρ (folded_of ρ φ l)) (2 ^ x) ρ

      S : ℕ
      S = beside_of ρ (folded_of ρ φ l) x ρ

      G : ℕ
      G = flag_of ρ (get_or (above_of ρ (folded_of ρ φ l)) x 0) x

      Found : Type 0
      Found = (k : ℕ) × (c : ℕ) × (k < φ * ρ * ρ) × (c < ρ) × T (has (get_or l k 0) c) × ((place_first ρ k ≡ x) ⊎ ((place_second ρ k ≡ x) ⊎ (c ≡ x)))
          × ((h ≡ place_first ρ k) ⊎ (h ≡ place_second ρ k))

      from_below : T (has (below_of ρ (above_of ρ (folded_of ρ φ l)) (2 ^ x) ρ) h)
          → (k : ℕ) × (c : ℕ) × (k < φ * ρ * ρ) × (c < ρ) × T (has (get_or l k 0) c) × ((place_first ρ k ≡ x) ⊎ ((place_second ρ k ≡ x) ⊎ (c ≡ x)))
          × ((h ≡ place_first ρ k) ⊎ (h ≡ place_second ρ k))
      from_below t =
          let (hb, (c, cb, p, q)) = (below_is ρ (above_of ρ (folded_of ρ φ l)) (2 ^ x) ρ h).0 t in
          let (k, kb, u, d) = (above_is ρ φ l h c hb).0 p in
          (k, c, kb, cb, u, inr (inr ((single_is x c).0 q)), d)

      from_beside : T (has (beside_of ρ (folded_of ρ φ l) x ρ) h)
          → (k : ℕ) × (c : ℕ) × (k < φ * ρ * ρ) × (c < ρ) × T (has (get_or l k 0) c) × ((place_first ρ k ≡ x) ⊎ ((place_second ρ k ≡ x) ⊎ (c ≡ x)))
          × ((h ≡ place_first ρ k) ⊎ (h ≡ place_second ρ k))
      from_beside t =
          let (hb, (c, cb, p)) = (beside_is ρ (folded_of ρ φ l) x ρ h).0 t in
          ⊎_elim
          (λ u. let (f, fb, v) = (folded_is ρ φ l x h c xb hb).0 u in
          (place ρ f x h, c, place_below ρ f x h xb hb φ fb, cb, v, inl (first_place ρ f x h xb hb), inr (sym (second_place ρ f x h xb hb))))
          (λ u. let (f, fb, v) = (folded_is ρ φ l h x c hb xb).0 u in
          (place ρ f h x, c, place_below ρ f h x hb xb φ fb, cb, v, inr (inl (second_place ρ f h x hb xb)), inl (sym (first_place ρ f h x hb xb))))
          p

      from_own : T (has (flag_of ρ (get_or (above_of ρ (folded_of ρ φ l)) x 0) x) h)
          → (k : ℕ) × (c : ℕ) × (k < φ * ρ * ρ) × (c < ρ) × T (has (get_or l k 0) c) × ((place_first ρ k ≡ x) ⊎ ((place_second ρ k ≡ x) ⊎ (c ≡ x)))
          × ((h ≡ place_first ρ k) ⊎ (h ≡ place_second ρ k))
      from_own t =
          let (e, (c, cb, p)) = (flag_is ρ (get_or (above_of ρ (folded_of ρ φ l)) x 0) x h).0 t in
          let (k, kb, u, d) = (above_is ρ φ l x c xb).0 p in
          (k, c, kb, cb, u, ⊎_elim (λ z. inl (sym z)) (λ z. inr (inl (sym z))) d, ⊎_elim (λ z. inl (e ∙ z)) (λ z. inr (e ∙ z)) d)

      into : T (has (bit_or (bit_or (bit_or B S) G) more) h) → T (has more h) ⊎ Found
      into t = ⊎_elim
          (λ u. inr (⊎_elim (λ v. ⊎_elim from_below from_beside ((or_is B S h).0 v)) from_own ((or_is (bit_or B S) G h).0 u)))
          inl
          ((or_is (bit_or (bit_or B S) G) more h).0 t)

      out : T (has more h) ⊎ Found → T (has (bit_or (bit_or (bit_or B S) G) more) h)
      out (inl t) = (or_is (bit_or (bit_or B S) G) more h).1 (inr t)
      out (inr (k, c, kb, cb, t, d, e)) = (or_is (bit_or (bit_or B S) G) more h).1 (inl ((or_is (bit_or B S) G h).1 (find d e)))
        where
          hb : h < ρ
          hb = argument_below k h e

          beside : T (has (get_or (folded_of ρ φ l) (ρ * x + h) 0) c) ⊎ T (has (get_or (folded_of ρ φ l) (ρ * h + x) 0) c)
              → T (has (bit_or B S) h) ⊎ T (has G h)
          beside p = inl ((or_is B S h).1 (inr ((beside_is ρ (folded_of ρ φ l) x ρ h).1 (hb, (c, cb, p)))))

          own : (x ≡ place_first ρ k) ⊎ (x ≡ place_second ρ k) → h ≡ x → T (has (bit_or B S) h) ⊎ T (has G h)
          own p q = inr ((flag_is ρ (get_or (above_of ρ (folded_of ρ φ l)) x 0) x h).1 (q, (c, cb, (above_is ρ φ l x c xb).1 (k, kb, t, p))))

          find : (place_first ρ k ≡ x) ⊎ ((place_second ρ k ≡ x) ⊎ (c ≡ x)) → (h ≡ place_first ρ k) ⊎ (h ≡ place_second ρ k)
              → T (has (bit_or B S) h) ⊎ T (has G h)
          find (inl p) (inl q) = own (inl (sym p)) (q ∙ p)
          find (inl p) (inr q) = beside (inl
              ((folded_is ρ φ l x h c xb hb).1 (
                place_function ρ k,
                function_below ρ φ k kb,
                subst (λ z. T (has (get_or l z 0) c))
                    (sym (place_is ρ k) ∙ ap₂ (place ρ (place_function ρ k)) p (sym q)) t,
              )))
          find (inr (inl p)) (inl q) = beside
              (inr ((folded_is ρ φ l h x c hb xb).1 (
                place_function ρ k,
                function_below ρ φ k kb,
                subst (λ z. T (has (get_or l z 0) c))
                    (sym (place_is ρ k) ∙ ap₂ (place ρ (place_function ρ k)) (sym q) p) t,
              )))
          find (inr (inl p)) (inr q) = own (inr (sym p)) (q ∙ p)
          find (inr (inr p)) q = inl ((or_is B S h).1
              (inl ((below_is ρ (above_of ρ (folded_of ρ φ l)) (2 ^ x) ρ h).1 (hb, (c, cb, (above_is ρ φ l h c hb).1 (k, kb, t, q), (single_is x c).1 p)))))

  seed_small : bit_or (bit_or (bit_or (below_of ρ (above_of ρ (folded_of ρ φ l)) (2 ^ x) ρ) (beside_of ρ (folded_of ρ φ l) x ρ))
      (flag_of ρ (get_or (above_of ρ (folded_of ρ φ l)) x 0) x)) more < 2 ^ ρ
  seed_small =
      let B = below_of ρ (above_of ρ (folded_of ρ φ l)) (2 ^ x) ρ in
      let S = beside_of ρ (folded_of ρ φ l) x ρ in
      let G = flag_of ρ (get_or (above_of ρ (folded_of ρ φ l)) x 0) x in
      or_small ρ (bit_or (bit_or B S) G) more
      (or_small ρ (bit_or B S) G (or_small ρ B S (below_small ρ (above_of ρ (folded_of ρ φ l)) (2 ^ x) ρ (omega arith))
      (beside_small ρ (folded_of ρ φ l) x ρ (omega arith))) (flag_small ρ (get_or (above_of ρ (folded_of ρ φ l)) x 0) x xb)) mb

  pub lost_small : lost_of ρ φ l x more < 2 ^ ρ
  unfolding lost_of
  lost_small = raised_small ρ (above_of ρ (folded_of ρ φ l)) _ seed_small

  -- the registers that get a mark are those beneath the lost class
  pub lost_beneath : (h : ℕ) → T (has (lost_of ρ φ l x more) h) ↔ Beneath ρ φ l x more h
  unfolding lost_of
  lost_beneath h = Iff.trans (raised_is ρ φ l seed h seed_small) (into, back)
    where
      seed : ℕ
      seed = bit_or (bit_or (bit_or (below_of ρ (above_of ρ (folded_of ρ φ l)) (2 ^ x) ρ) (beside_of ρ (folded_of ρ φ l) x ρ))
          (flag_of ρ (get_or (above_of ρ (folded_of ρ φ l)) x 0) x)) more

      into : {h : ℕ} → BelowSeed ρ φ l seed h → Beneath ρ φ l x more h
      into {h} (seeded t) = ⊎_elim extra (λ (k, c, kb, cb, u, d, e). direct k kb cb u d e) ((seed_is h).0 t)
      into (lower hb cb (k, kb, u, d) o) = beneath k kb cb u (into o) d

      back : {h : ℕ} → Beneath ρ φ l x more h → BelowSeed ρ φ l seed h
      back {h} (extra t) = seeded ((seed_is h).1 (inl t))
      back {h} (direct k {c} kb cb u d e) = seeded ((seed_is h).1 (inr (k, c, kb, cb, u, d, e)))
      back {h} (beneath k {c} kb cb u o e) = lower (argument_below k h e) cb (k, kb, u, e) (back o)
