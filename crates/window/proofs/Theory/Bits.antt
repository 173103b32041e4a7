-- What follows from the definitions of specs/Bits.antt.
use mathlib.Core.Path.{◌≡◌, refl, sym, ◌∙◌, subst}
use mathlib.Core.Logic.Iff
use mathlib.Core.Logic.{◌⊎◌, inl, inr, ◌↔◌, ◌≢◌, ⊎_elim}
use mathlib.Core.Bool.{Bool, true, false, not, ◌&&◌, ◌||◌}
use Prim.Native.Nat.{ℕ, zero, suc, ◌+◌, ◌/◌, ◌^◌, ◌≤◌, ◌<◌}
use native.Mathlib.Omega.{arith}
use native.Mathlib.Nat.{zero-div, mod-lt, one-le-pow}
use lib.Dec.{eqb, ltb, T, eqb→eq, eqb_refl}
use lib.Bits.{bit_and, bit_or, bit_xor, xor_shr, xor_mod, and_le_r, or_add_and, or_lt, xor_lt}
use lib.Pow.{pow-lt}
use borrow.Author.Tests.{ne_eqb, eqb-true, eqb-false, ltb-true, ltb-false, lt-ltb, le-ltb}
use Rattle.base.proofs.Theory.Choice.{by_test}
use Rattle.base.specs.Masks.{bit, has}
use Rattle.base.specs.LeastAndSize.{least_in}
use Rattle.base.proofs.Theory.MaskLaws.{bit-or, bit-and, bit_single_same, bit_single_other, least_below, least-in, bits_same}
use Rattle.semantics.proofs.Theory.Booleans.{or_e, or_l, or_r, and_l, and_r, and_i}
use Rattle.semantics.proofs.Theory.Of.{same_test}
use Rattle.window.specs.Bits.{minus, nonempty, mask_moved}

-- ---- tests as facts

pub truth : (b : Bool) → b ≡ true → T b
truth b e = subst T (sym e) tt

pub no_truth : (b : Bool) → b ≡ false → T b → ⊥
no_truth b e t = subst T e t

pub true_of : (b : Bool) → T b → b ≡ true
true_of true t = refl
true_of false t = absurd t

pub false_of : (b : Bool) → ¬ T b → b ≡ false
false_of true n = absurd (n tt)
false_of false n = refl

pub same_iff : {a b : Bool} → a ≡ b → T a ↔ T b
same_iff e = (subst T e, subst T (sym e))

pub eq_or : (a b : ℕ) → (a ≡ b) ⊎ (a ≢ b)
eq_or a b = by_test (eqb a b) (λ t. inl (eqb-true a b t)) (λ t. inr (eqb-false a b t))

pub less_or : (a b : ℕ) → (a < b) ⊎ (b ≤ a)
less_or a b = by_test (ltb a b) (λ t. inl (ltb-true a b t)) (λ t. inr (ltb-false a b t))

-- ---- union, common part, difference

two_cases : (P : ℕ → Type 0) (x : ℕ) → x < 2 → P 0 → P 1 → P x
two_cases P zero h p q = p
two_cases P (suc zero) h p q = q
two_cases P (suc (suc x)) h p q = absurd (omega arith)

bit_lt : (m i : ℕ) → bit m i < 2
bit_lt m i = mod-lt (m / 2 ^ i) (omega arith)

pub has_or : (m n i : ℕ) → has (bit_or m n) i ≡ (has m i || has n i)
has_or m n i = rw bit-or (two_cases (λ x. eqb (bit_or x (bit n i)) 1 ≡ (eqb x 1 || has n i)) (bit m i) (bit_lt m i)
    (two_cases (λ y. eqb (bit_or 0 y) 1 ≡ (eqb 0 1 || eqb y 1)) (bit n i) (bit_lt n i) refl refl)
    (two_cases (λ y. eqb (bit_or 1 y) 1 ≡ (eqb 1 1 || eqb y 1)) (bit n i) (bit_lt n i) refl refl))

pub has_and : (m n i : ℕ) → has (bit_and m n) i ≡ (has m i && has n i)
has_and m n i = rw bit-and (two_cases (λ x. eqb (bit_and x (bit n i)) 1 ≡ (eqb x 1 && has n i)) (bit m i) (bit_lt m i)
    (two_cases (λ y. eqb (bit_and 0 y) 1 ≡ (eqb 0 1 && eqb y 1)) (bit n i) (bit_lt n i) refl refl)
    (two_cases (λ y. eqb (bit_and 1 y) 1 ≡ (eqb 1 1 && eqb y 1)) (bit n i) (bit_lt n i) refl refl))

bit-xor : (m n i : ℕ) → bit (bit_xor m n) i ≡ bit_xor (bit m i) (bit n i)
bit-xor m n i = rw xor_shr (xor_mod (m / 2 ^ i) (n / 2 ^ i) 1)

abbrev differ : Bool → Bool → Bool
differ true b = not b
differ false b = b

has_xor : (m n i : ℕ) → has (bit_xor m n) i ≡ differ (has m i) (has n i)
has_xor m n i = rw bit-xor (two_cases (λ x. eqb (bit_xor x (bit n i)) 1 ≡ differ (eqb x 1) (has n i)) (bit m i) (bit_lt m i)
    (two_cases (λ y. eqb (bit_xor 0 y) 1 ≡ differ (eqb 0 1) (eqb y 1)) (bit n i) (bit_lt n i) refl refl)
    (two_cases (λ y. eqb (bit_xor 1 y) 1 ≡ differ (eqb 1 1) (eqb y 1)) (bit n i) (bit_lt n i) refl refl))

-- bits that are 1 at the same places
pub same_bit : (m n i : ℕ) → T (has m i) ↔ T (has n i) → bit m i ≡ bit n i
same_bit m n i e = by_test (has m i)
    (λ t. eqb-true (bit m i) 1 t ∙ sym (eqb-true (bit n i) 1 (true_of (has n i) (e.0 (truth (has m i) t)))))
    (λ t. let d = eqb-false (bit m i) 1 t in
    let f = eqb-false (bit n i) 1 (false_of (has n i) (λ k. no_truth (has m i) t (e.1 k))) in
    omega (arith, bit_lt m i, bit_lt n i))

pub or_is : (m n i : ℕ) → T (has (bit_or m n) i) ↔ (T (has m i) ⊎ T (has n i))
or_is m n i = Iff.trans (same_iff (has_or m n i)) (or_e (has m i) (has n i), ⊎_elim (or_l (has m i) (has n i)) (or_r (has m i) (has n i)))

pub minus_is : (m n j : ℕ) → T (has (minus m n) j) ↔ (T (has m j) × (¬ T (has n j)))
unfolding minus
minus_is m n j = rw (has_xor, has_or) (go (has m j) (has n j))
  where
    go : (a b : Bool) → T (differ (a || b) b) ↔ (T a × (¬ T b))
    go true true = ((λ t. absurd t), (λ (p, q). absurd (q tt)))
    go true false = ((λ t. (tt, λ u. u)), (λ k. tt))
    go false true = ((λ t. absurd t), (λ (p, q). absurd p))
    go false false = ((λ t. absurd t), (λ (p, q). absurd p))

-- ---- the empty mask, the mask of one register, and a mask that is not empty

pub single_is : (i j : ℕ) → T (has (2 ^ i) j) ↔ (j ≡ i)
single_is i j = (
  (λ t. by_test (eqb i j) (λ e. sym (eqb-true i j e)) (λ e. absurd (no_truth (has (2 ^ i) j) (rw (bit_single_other i j (eqb-false i j e))) t))),
  (λ e. truth (has (2 ^ i) j) (subst (λ k. has (2 ^ i) k ≡ true) (sym e) (rw (bit_single_same i)))),
)

pub single_test : (x r : ℕ) → has (2 ^ x) r ≡ eqb r x
single_test x r = same_test (has (2 ^ x) r) (eqb r x)
    ((λ t. subst (λ k. T (eqb r k)) ((single_is x r).0 t) (eqb_refl r)), (λ t. (single_is x r).1 (eqb→eq r x t)))

pub none_zero : (j : ℕ) → has 0 j ≡ false
none_zero j = ne_eqb (bit 0 j) 1 (λ e. let z : bit 0 j ≡ 0 = rw (zero-div (2 ^ j)) in omega arith)

pub none_in : (j : ℕ) → ¬ T (has 0 j)
none_in j t = no_truth (has 0 j) (none_zero j) t

pub nonempty_is : (ρ m : ℕ) → T (nonempty ρ m) ↔ ((c : ℕ) × (c < ρ) × T (has m c))
unfolding nonempty
nonempty_is ρ m = (
  (λ t. let l = ltb-true (least_in ρ m) ρ (true_of (ltb (least_in ρ m) ρ) t) in (least_in ρ m, l, truth (has m (least_in ρ m)) (least-in ρ m l))),
  (λ (c, b, t). ⊎_elim (λ l. truth (ltb (least_in ρ m) ρ) (lt-ltb (least_in ρ m) ρ l)) (λ l. absurd (no_truth (has m c) (least_below ρ m c (omega arith)) t))
      (less_or (least_in ρ m) ρ)),
)

pub none_small : (ρ : ℕ) → 0 < 2 ^ ρ
none_small ρ = one-le-pow ρ 2 (omega arith)

-- two masks that meet, the second of them of registers below ρ
pub meets : (ρ e s : ℕ) → s < 2 ^ ρ → bit_and e s ≢ 0 → (c : ℕ) × (c < ρ) × T (has e c) × T (has s c)
meets ρ e s b n =
    let found : (c : ℕ) × (c < ρ) × T (has m c) = ⊎_elim (λ l. (least_in ρ m, l, truth (has m (least_in ρ m)) (least-in ρ m l)))
    (λ l. absurd (n (bits_same ρ m 0 (omega (arith, and_le_r e s)) (none_small ρ) (λ i h. bit_of i (least_below ρ m i (omega arith))))))
    (less_or (least_in ρ m) ρ) in
    let (c, h, t) = found in
    let u = subst T (has_and e s c) t in
    (c, h, and_l (has e c) (has s c) u, and_r (has e c) (has s c) u)
  where
    m : ℕ
    m = bit_and e s

    bit_of : (i : ℕ) → has (bit_and e s) i ≡ false → bit (bit_and e s) i ≡ bit 0 i
    bit_of i z = rw (zero-div (2 ^ i)) (let d = eqb-false (bit (bit_and e s) i) 1 z in omega (arith, bit_lt (bit_and e s) i))

pub meets_not : (e s c : ℕ) → T (has e c) → T (has s c) → bit_and e s ≢ 0
meets_not e s c p q z = none_in c (subst (λ m. T (has m c)) z (subst T (sym (has_and e s c)) (and_i (has e c) (has s c) p q)))

-- a union is no smaller, as a number
pub or_ge : (a b : ℕ) → a ≤ bit_or a b
or_ge a b = omega (arith, or_add_and a b, and_le_r a b)

pub pow_small : (ρ i : ℕ) → i < ρ → 2 ^ i < 2 ^ ρ
pow_small ρ i h = pow-lt {i = i} {j = ρ} h

pub or_small : (ρ a b : ℕ) → a < 2 ^ ρ → b < 2 ^ ρ → bit_or a b < 2 ^ ρ
or_small ρ a b p q = or_lt ρ a b p q

-- a register of `to` is in it if some register of `from` was, and any other if it was itself
pub moved_in : (ρ m from to c : ℕ) → from < 2 ^ ρ → T (has to c) → T (has (mask_moved m from to) c) ↔ ((d : ℕ) × T (has from d) × T (has m d))
unfolding mask_moved
moved_in ρ m from to c b t = by_test (eqb (bit_and m from) 0)
    (λ e. rw e ((λ k. absurd (((minus_is m to c).0 k).1 t)), (λ (d, p, q). absurd (meets_not m from d q p (eqb-true (bit_and m from) 0 e)))))
    (λ e. rw e ((λ k. let (d, _, q, p) = meets ρ m from b (eqb-false (bit_and m from) 0 e) in (d, p, q)), (λ k. (or_is m to c).1 (inr t))))

pub moved_out : (m from to c : ℕ) → ¬ T (has to c) → T (has (mask_moved m from to) c) ↔ T (has m c)
unfolding mask_moved
moved_out m from to c n = by_test (eqb (bit_and m from) 0)
    (λ e. rw e ((λ k. ((minus_is m to c).0 k).0), (λ k. (minus_is m to c).1 (k, n))))
    (λ e. rw e ((λ k. ⊎_elim (λ j. j) (λ j. absurd (n j)) ((or_is m to c).0 k)), (λ k. (or_is m to c).1 (inl k))))

pub moved_small : (ρ m from to : ℕ) → m < 2 ^ ρ → to < 2 ^ ρ → mask_moved m from to < 2 ^ ρ
unfolding mask_moved minus
moved_small ρ m from to p q = by_test (eqb (bit_and m from) 0) (λ t. rw t (xor_lt ρ (bit_or m to) to (or_small ρ m to p q) q)) (λ t. rw t (or_small ρ m to p q))

-- ---- a loop over the registers of a mask

-- the registers of the mask below r
abbrev pub until : ℕ → ℕ → ℕ → Bool
until to r s = ltb s r && has to s

pub until_none : (to s : ℕ) → until to 0 s ≡ false
until_none to s = rw (le-ltb s 0 (omega arith))

pub until_more : (to r s : ℕ) → has to r ≡ true → until to (r + 1) s ≡ (eqb s r || until to r s)
until_more to r s t = by_test (eqb s r)
    (λ e. let k = eqb-true s r e in rw (lt-ltb s (r + 1) (omega arith), e, k, t))
    (λ e. let d = eqb-false s r e in by_test (ltb s r)
    (λ u. let k = ltb-true s r u in rw (lt-ltb s (r + 1) (omega arith), e, u))
    (λ u. let k = ltb-false s r u in rw (le-ltb s (r + 1) (omega arith), e, u)))

pub until_skip : (to r s : ℕ) → has to r ≡ false → until to (r + 1) s ≡ until to r s
until_skip to r s t = by_test (eqb s r)
    (λ e. let k = eqb-true s r e in rw (lt-ltb s (r + 1) (omega arith), k, le-ltb r r (omega arith), t))
    (λ e. let d = eqb-false s r e in by_test (ltb s r)
    (λ u. let k = ltb-true s r u in rw (lt-ltb s (r + 1) (omega arith), u))
    (λ u. let k = ltb-false s r u in rw (le-ltb s (r + 1) (omega arith), u)))
