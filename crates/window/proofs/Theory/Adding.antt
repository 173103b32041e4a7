-- What follows from the definitions of specs/Adding.antt.
use mathlib.Core.Path.{◌≡◌, refl, sym, ap, ap₂, ◌∙◌, subst, fun_ext}
use mathlib.Core.Bool.{Bool, true, false, cond, ◌&&◌}
use Prim.Native.Nat.{ℕ, ◌+◌, ◌*◌, ◌/◌, ◌%◌, ◌^◌, ◌≤◌, ◌<◌}
use native.Mathlib.Omega.{arith}
use native.Mathlib.Nat.{mod-lt, div-div-eq-div-mul}
use mathlib.Core.List.{List}
use lib.Dec.{eqb, ltb}
use lib.Bits.{bit_or, or_zero_r}
use lib.ListN.{length, get_or, set, length-set}
use lib.Seq.{get_or-set_same, get_or-set_other}
use borrow.Author.Tests.{eq-eqb, ne_eqb, eqb-true, eqb-false, lt-ltb, le-ltb, ltb-true, ltb-false}
use Rattle.base.proofs.Theory.Choice.{by_test}
use Rattle.base.specs.Masks.{has}
use Rattle.window.proofs.Theory.Places.{entry_is, line_entry, along_entry}
use Rattle.window.proofs.Theory.Table.{table_length, table_at, table_is}
use Rattle.window.specs.Lines.{columns, rows, cleared}
use Rattle.window.specs.Through.{bits_moved}
use Rattle.window.proofs.Theory.Bits.{none_zero, until, until_skip}
use Rattle.window.specs.Adding.{part_of, line_added, results_added, masks_forgotten, results_forgotten}

pub line-length : (ρ j mask what : ℕ) (l : List ℕ) → length (line_added ρ j mask what l) ≡ length l
unfolding line_added
line-length ρ j mask what l = table_length (λ i. bit_or (get_or l i 0) (cond (eqb (i / ρ) j && has mask (i % ρ)) what 0)) (length l)

pub added_length : (ρ : ℕ) (P : ℕ → Bool) (f second what : ℕ) (l : List ℕ) → length (results_added ρ P f second what l) ≡ length l
unfolding results_added
added_length ρ P f second what l =
    table_length (λ i. bit_or (get_or l i 0) (cond ((eqb (i / (ρ * ρ)) f && P (i / ρ % ρ)) && has second (i % ρ)) what 0)) (length l)

pub line_at : (ρ j mask what : ℕ) (l : List ℕ) (i : ℕ) → i < length l
    → get_or (line_added ρ j mask what l) i 0 ≡ bit_or (get_or l i 0) (cond (eqb (i / ρ) j && has mask (i % ρ)) what 0)
unfolding line_added
line_at ρ j mask what l i h = table_at (λ i. bit_or (get_or l i 0) (cond (eqb (i / ρ) j && has mask (i % ρ)) what 0)) (length l) i 0 h

pub added_at : (ρ : ℕ) (P : ℕ → Bool) (f second what : ℕ) (l : List ℕ) (i : ℕ) → i < length l
    → get_or (results_added ρ P f second what l) i 0 ≡ bit_or (get_or l i 0) (cond ((eqb (i / (ρ * ρ)) f && P (i / ρ % ρ)) && has second (i % ρ)) what 0)
unfolding results_added
added_at ρ P f second what l i h =
    table_at (λ i. bit_or (get_or l i 0) (cond ((eqb (i / (ρ * ρ)) f && P (i / ρ % ρ)) && has second (i % ρ)) what 0)) (length l) i 0 h

pub forgotten_is : (ρ x to : ℕ) (l m k : List ℕ) → to ≡ 2 ^ x → m ≡ bits_moved 0 to l → k ≡ cleared (columns ρ) x m → k ≡ masks_forgotten ρ x l
unfolding masks_forgotten
forgotten_is ρ x to l m k e p q = rw (q, p, e)

pub renewed_is : (ρ x f first second own : ℕ) (l m n o k : List ℕ) → own ≡ 2 ^ x → m ≡ bits_moved 0 own l → n ≡ results_added ρ (has first) f second own m
    → o ≡ cleared (columns ρ) x n → k ≡ cleared (rows ρ) x o → k ≡ results_forgotten ρ x f first second l
unfolding results_forgotten
renewed_is ρ x f first second own l m n o k e p q r s = rw (s, r, q, p, e)

-- ---- the loop over a line

module _ (ρ j mask what : ℕ) (old : List ℕ) where
  -- the entries of line j below r are done
  pub record Adding (r : ℕ) (l : List ℕ) : Type 0 where
    pub long : length l ≡ length old
    pub within : r ≤ ρ
    pub new : (d : ℕ) → d < r → get_or l (ρ * j + d) 0 ≡ bit_or (get_or old (ρ * j + d) 0) (part_of mask what d)
    pub ahead : (d : ℕ) → r ≤ d → d < ρ → get_or l (ρ * j + d) 0 ≡ get_or old (ρ * j + d) 0
    pub other : (i : ℕ) → (i / ρ ≡ j → ⊥) → get_or l i 0 ≡ get_or old i 0

  pub adding_none : Adding 0 old
  adding_none = record { long = refl; within = omega arith; new = λ d h. absurd (omega arith); ahead = λ d h g. refl; other = λ i n. refl }

  pub adding_more : ρ * j + ρ ≤ length old → (r : ℕ) (l : List ℕ) (v : ℕ) → Adding r l → r < ρ → v ≡ part_of mask what r
      → Adding (r + 1) (set l (ρ * j + r) (bit_or (get_or l (ρ * j + r) 0) v))
  adding_more lb r l v w h e = record {
    long = simp length-set w.long;
    within = omega arith;
    new = λ d b. by_test (eqb d r)
        (λ t. rw (eqb-true d r t) (get_or-set_same l (ρ * j + r) (bit_or (get_or l (ρ * j + r) 0) v) 0 (omega (arith, w.long))
        ∙ ap₂ bit_or (w.ahead r (omega arith) h) e))
        (λ t. let n = eqb-false d r t in
        get_or-set_other l (ρ * j + r) (ρ * j + d) (bit_or (get_or l (ρ * j + r) 0) v) 0 (λ p. n (omega arith)) ∙ w.new d (omega arith));
    ahead = λ d b g. get_or-set_other l (ρ * j + r) (ρ * j + d) (bit_or (get_or l (ρ * j + r) 0) v) 0 (λ p. absurd (omega arith)) ∙ w.ahead d (omega arith) g;
    other = λ i n. get_or-set_other l (ρ * j + r) i (bit_or (get_or l (ρ * j + r) 0) v) 0 (λ p. n (ap (λ z. z / ρ) p ∙ line_entry ρ j r h)) ∙ w.other i n;
  }

  pub adding_all : 0 < ρ → (r : ℕ) (l : List ℕ) → Adding r l → ρ ≤ r → l ≡ line_added ρ j mask what old
  unfolding line_added part_of
  adding_all some r l w h = table_is (λ i. bit_or (get_or old i 0) (cond (eqb (i / ρ) j && has mask (i % ρ)) what 0)) (length old) l 0 w.long
      (λ i b. by_test (eqb (i / ρ) j)
      (λ t. let k : ρ * j + i % ρ ≡ i = ap (λ z. ρ * z + i % ρ) (sym (eqb-true (i / ρ) j t)) ∙ entry_is ρ i in
      rw t (subst (λ z. get_or l z 0 ≡ bit_or (get_or old z 0) (cond (has mask (i % ρ)) what 0)) k (w.new (i % ρ) (omega (arith, mod-lt i some)))))
      (λ t. rw t (w.other i (eqb-false (i / ρ) j t) ∙ sym (or_zero_r (get_or old i 0)))))

-- ---- the loop over the lines of f

module _ (ρ f first second what : ℕ) (old : List ℕ) where
  pub added_none : old ≡ results_added ρ (until first 0) f second what old
  unfolding results_added
  added_none = table_is (λ i. bit_or (get_or old i 0) (cond ((eqb (i / (ρ * ρ)) f && until first 0 (i / ρ % ρ)) && has second (i % ρ)) what 0))
      (length old) old 0 refl
      (λ i h. rw (le-ltb (i / ρ % ρ) 0 (omega arith))
      (sym (ap (λ b. bit_or (get_or old i 0) (cond (b && has second (i % ρ)) what 0)) (and_none (eqb (i / (ρ * ρ)) f)) ∙ or_zero_r (get_or old i 0))))
    where
      and_none : (b : Bool) → (b && false) ≡ false
      and_none true = refl
      and_none false = refl

  line_is : (i a : ℕ) → a < ρ → eqb (i / ρ) (ρ * f + a) ≡ (eqb (i / (ρ * ρ)) f && eqb (i / ρ % ρ) a)
  line_is i a h = by_test (eqb (i / ρ) (ρ * f + a))
      (λ t. let z = eqb-true (i / ρ) (ρ * f + a) t in
      rw (
        t,
        eq-eqb (i / (ρ * ρ)) f (sym (div-div-eq-div-mul i ρ ρ) ∙ ap (λ q. q / ρ) z ∙ line_entry ρ f a h),
        eq-eqb (i / ρ % ρ) a
            (ap (λ q. q % ρ) z ∙ along_entry ρ f a h),
      ))
      (λ t. let n = eqb-false (i / ρ) (ρ * f + a) t in by_test (eqb (i / (ρ * ρ)) f)
      (λ u. let z = eqb-true (i / (ρ * ρ)) f u in
      rw (t, u, ne_eqb (i / ρ % ρ) a (λ k. n (sym (entry_is ρ (i / ρ)) ∙ ap₂ (λ p q. ρ * p + q) (div-div-eq-div-mul i ρ ρ ∙ z) k))))
      (λ u. rw (t, u)))

  line_more : (a mask : ℕ) (l m : List ℕ) → a < ρ → l ≡ results_added ρ (until first a) f second what old → mask ≡ part_of first second a
      → m ≡ line_added ρ (ρ * f + a) mask what l → m ≡ results_added ρ (until first (a + 1)) f second what old
  unfolding results_added part_of
  line_more a mask l m ab e p d =
      table_is (λ i. bit_or (get_or old i 0) (cond ((eqb (i / (ρ * ρ)) f && until first (a + 1) (i / ρ % ρ)) && has second (i % ρ)) what 0)) (length old) m 0
      (ap length d ∙ line-length ρ (ρ * f + a) mask what l ∙ size)
      (λ i h. ap (λ z. get_or z i 0) d ∙ line_at ρ (ρ * f + a) mask what l i (rw size h)
      ∙ ap₂ (λ x y. bit_or x (cond (y && has mask (i % ρ)) what 0)) (ap (λ z. get_or z i 0) e ∙ added_at ρ (until first a) f second what old i h)
      (line_is i a ab)
      ∙ step i)
    where
      size : length l ≡ length old
      size = ap length e ∙ added_length ρ (until first a) f second what old

      step : (i : ℕ) → bit_or (bit_or (get_or old i 0) (cond ((eqb (i / (ρ * ρ)) f && until first a (i / ρ % ρ)) && has second (i % ρ)) what 0))
          (cond ((eqb (i / (ρ * ρ)) f && eqb (i / ρ % ρ) a) && has mask (i % ρ)) what 0)
          ≡ bit_or (get_or old i 0) (cond ((eqb (i / (ρ * ρ)) f && until first (a + 1) (i / ρ % ρ)) && has second (i % ρ)) what 0)
      step i = by_test (eqb (i / ρ % ρ) a)
          (λ t. let z = eqb-true (i / ρ % ρ) a t in
          rw (t, le-ltb (i / ρ % ρ) a (omega arith), lt-ltb (i / ρ % ρ) (a + 1) (omega arith), z, p) (by_test (has first a)
          (λ u. rw u (here (eqb (i / (ρ * ρ)) f) (has second (i % ρ)) (get_or old i 0)))
          (λ u. rw (u, none_zero (i % ρ)) (none (eqb (i / (ρ * ρ)) f) (has second (i % ρ)) (get_or old i 0)))))
          (λ t. let n = eqb-false (i / ρ % ρ) a t in rw t (by_test (ltb (i / ρ % ρ) a)
          (λ u. let z = ltb-true (i / ρ % ρ) a u in rw (u, lt-ltb (i / ρ % ρ) (a + 1) (omega arith)) (last (eqb (i / (ρ * ρ)) f) (has mask (i % ρ)) _))
          (λ u. let z = ltb-false (i / ρ % ρ) a u in rw (u, le-ltb (i / ρ % ρ) (a + 1) (omega arith)) (last (eqb (i / (ρ * ρ)) f) (has mask (i % ρ)) _))))
        where
          here : (g s : Bool) (x : ℕ) → bit_or (bit_or x (cond ((g && (false && true)) && s) what 0)) (cond ((g && true) && s) what 0) ≡ bit_or x
              (cond ((g && (true && true)) && s) what 0)
          here true true x = ap (λ z. bit_or z what) (or_zero_r x)
          here true false x = ap (λ z. bit_or z 0) (or_zero_r x)
          here false s x = ap (λ z. bit_or z 0) (or_zero_r x)

          none : (g s : Bool) (x : ℕ) → bit_or (bit_or x (cond ((g && (false && false)) && s) what 0)) (cond ((g && true) && false) what 0) ≡ bit_or x
              (cond ((g && (true && false)) && s) what 0)
          none true s x = ap (λ z. bit_or z 0) (or_zero_r x)
          none false s x = ap (λ z. bit_or z 0) (or_zero_r x)

          last : (g s : Bool) (x : ℕ) → bit_or x (cond ((g && false) && s) what 0) ≡ x
          last true s x = or_zero_r x
          last false s x = or_zero_r x

  -- one turn of the loop, at a register of the mask and at another
  pub added_more : (a : ℕ) (l m : List ℕ) → a < ρ → l ≡ results_added ρ (until first a) f second what old → has first a ≡ true
      → m ≡ line_added ρ (ρ * f + a) second what l → m ≡ results_added ρ (until first (a + 1)) f second what old
  unfolding part_of
  added_more a l m ab e t d = line_more a second l m ab e (rw t) d

  pub added_skip : (a : ℕ) (l : List ℕ) → l ≡ results_added ρ (until first a) f second what old → has first a ≡ false
      → l ≡ results_added ρ (until first (a + 1)) f second what old
  added_skip a l e t = e ∙ ap (λ P. results_added ρ P f second what old) (fun_ext λ s. sym (until_skip first a s t))

  pub added_all : 0 < ρ → (a : ℕ) (l : List ℕ) → l ≡ results_added ρ (until first a) f second what old → ρ ≤ a
      → l ≡ results_added ρ (has first) f second what old
  unfolding results_added
  added_all some a l e h = table_is (λ i. bit_or (get_or old i 0) (cond ((eqb (i / (ρ * ρ)) f && has first (i / ρ % ρ)) && has second (i % ρ)) what 0))
      (length old) l 0
      (ap length e ∙ added_length ρ (until first a) f second what old)
      (λ i b. ap (λ z. get_or z i 0) e ∙ added_at ρ (until first a) f second what old i b ∙ rw (lt-ltb (i / ρ % ρ) a (omega (arith, mod-lt (i / ρ) some))))
