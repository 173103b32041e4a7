-- From the window of a trace to the window after one more letter. Each theorem says what a next window has to be, in terms of
-- the window alone, and that it then is the window after the letter.
use mathlib.Core.Path.{◌≡◌, refl, sym, subst, fun_ext}
use mathlib.Core.Bool.{Bool, true, false, cond, ◌&&◌, ◌||◌}
use mathlib.Core.Logic.Iff
use mathlib.Core.Logic.{◌⊎◌, inl, inr, ◌↔◌}
use mathlib.Core.List.Memᴰ
use mathlib.Core.List.{◌∷◌}
use Prim.Native.Nat.{ℕ, zero, suc, ◌<◌, suc-le-suc}
use native.Mathlib.Omega.{arith}
use lib.Dec.{T, eqb, eqb→eq, eqb_refl}
use Rattle.semantics.proofs.Theory.Booleans.{and_l, and_r, and_i, or_e, or_l, or_r}
use Rattle.letters.specs.declared.Letter.TheVariants.{Copy, Apply, Equal, Unequal}
use Rattle.semantics.specs.Terms.{◌∈◌, app, State, after}
use Rattle.semantics.specs.Closure.{symmetric}
use Rattle.semantics.specs.Coherence.{Early, Kept, Memoizing}
use Rattle.semantics.specs.Models.{Feasible}
use Rattle.semantics.proofs.Theory.Shown.{Clash, corollary_2}
use Rattle.semantics.specs.View.{View, Tracks}
use Rattle.semantics.specs.Window.{Same, Apart, Result, EverComputed, Marked}
use Rattle.semantics.specs.Facts.{Valid}
use Rattle.semantics.proofs.Theory.Facts.{after_valid, con_app}
use Rattle.semantics.proofs.Theory.Judge.{exposed_or_kept, clash_or_feasible}
use Rattle.semantics.proofs.Theory.Local.{Local, class, tested, turned, joined, lifted, equate_registers}
use Rattle.semantics.proofs.Theory.Rename.{Over, at, above, Bared, exposed_after}
use Rattle.semantics.proofs.Theory.Equate
use Rattle.semantics.proofs.Theory.Apply
use Rattle.semantics.proofs.Theory.Apply.{grown, down, push}
use Rattle.semantics.proofs.Theory.Unequal

-- the registers of a state
abbrev regs : State → ℕ
regs σ = σ.header.registers

-- ── the local closure, in the window's words ──
-- The least equivalence over n registers that holds the classes and the test of x and y, and equates held results at equivalent arguments.
pub data Joined (n : ℕ) (w : View) (x y : ℕ) : ℕ → ℕ → Type 0 where
  alike : {r s : ℕ} → r < n → s < n → T (w.same r s) → Joined n w x y r s
  test : Joined n w x y x y
  turn' : {r s : ℕ} → Joined n w x y r s → Joined n w x y s r
  join' : {r s q : ℕ} → Joined n w x y r s → Joined n w x y s q → Joined n w x y r q
  lift' : (f : ℕ) {a b c d r s : ℕ} → r < n → s < n → T (w.result f a b r) → T (w.result f c d s) → Joined n w x y a c → Joined n w x y b d
      → Joined n w x y r s

module _ (σ : State) (w : View) (t : Tracks σ w) (x y : ℕ) (xb : x < regs σ) (yb : y < regs σ) where
  joined_below : {r s : ℕ} → Joined (regs σ) w x y r s → (r < regs σ) × (s < regs σ)
  joined_below (alike p q c) = (p, q)
  joined_below test = (xb, yb)
  joined_below (turn' j) = let (p, q) = joined_below j in (q, p)
  joined_below (join' j k) = ((joined_below j).0, (joined_below k).1)
  joined_below (lift' f p q m n j k) = (p, q)

  local_below : {r s : ℕ} → Local σ x y r s → (r < regs σ) × (s < regs σ)
  local_below (class p q c) = (p, q)
  local_below tested = (xb, yb)
  local_below (turned j) = let (p, q) = local_below j in (q, p)
  local_below (joined j k) = ((local_below j).0, (local_below k).1)
  local_below (lifted p q m n j k) = (p, q)

  joined_e : {r s : ℕ} → Joined (regs σ) w x y r s → Local σ x y r s
  joined_e (alike p q c) = class p q ((t.same _ _ p q).0 c)
  joined_e test = tested
  joined_e (turn' j) = turned (joined_e j)
  joined_e (join' j k) = joined (joined_e j) (joined_e k)
  joined_e (lift' f p q m n j k) =
      let (a, c) = joined_below j in
      let (b, d) = joined_below k in
      lifted p q ((t.result _ _ _ _ a b p).0 m) ((t.result _ _ _ _ c d q).0 n) (joined_e j) (joined_e k)

  joined_i : {r s : ℕ} → Local σ x y r s → Joined (regs σ) w x y r s
  joined_i (class p q c) = alike p q ((t.same _ _ p q).1 c)
  joined_i tested = test
  joined_i (turned j) = turn' (joined_i j)
  joined_i (joined j k) = join' (joined_i j) (joined_i k)
  joined_i (lifted p q m n j k) =
      let (a, c) = local_below j in
      let (b, d) = local_below k in
      lift' _ p q ((t.result _ _ _ _ a b p).1 m) ((t.result _ _ _ _ c d q).1 n) (joined_i j) (joined_i k)

-- ── clash and feasibility ──
pub infeasible_is : (σ : State) → Valid σ → (¬ Feasible σ) ↔ Clash σ
infeasible_is σ v = (λ n. elim (clash_or_feasible σ v) [ inl c ↦ c | inr f ↦ absurd (n f) ], λ c f. (corollary_2 σ v).0 f c)

pub feasible_of : (σ : State) (w : View) → Valid σ → T w.infeasible ↔ (¬ Feasible σ) → ¬ T w.infeasible → Feasible σ
feasible_of σ w v t n = elim (clash_or_feasible σ v) [ inl c ↦ absurd (n (t.1 ((infeasible_is σ v).1 c))) | inr f ↦ f ]

-- ── an equal test ──
-- w' is w after the equal test of x and y: its classes are the local closure, all else is read up to it, and the marks stay.
pub record Equated (n : ℕ) (w : View) (x y : ℕ) (w' : View) : Type 0 where
  pub same : (r s : ℕ) → r < n → s < n → T (w'.same r s) ↔ Joined n w x y r s
  pub result : (f a b r : ℕ) → a < n → b < n → r < n
      → T (w'.result f a b r)
      ↔ ((p : ℕ) × (q : ℕ) × (s : ℕ) × (p < n) × (q < n) × (s < n) × T
      (w.result f p q s) × Joined n w x y p a × Joined n w x y q b × Joined n w x y s r)
  pub ever : (f a b : ℕ) → a < n → b < n
      → T (w'.ever f a b) ↔ ((p : ℕ) × (q : ℕ) × (p < n) × (q < n) × T (w.ever f p q) × Joined n w x y p a × Joined n w x y q b)
  pub marked : (r : ℕ) → r < n → T (w'.marked r) ↔ T (w.marked r)
  pub infeasible : T w'.infeasible ↔ (T w.infeasible ⊎ ((p : ℕ) × (q : ℕ) × (p < n) × (q < n) × T (w.apart p q) × Joined n w x y p q))
  pub apart : (r s : ℕ) → r < n → s < n
      → T (w'.apart r s)
      ↔ ((¬ T w'.infeasible) × ((p : ℕ) × (q : ℕ) × (p < n) × (q < n) × T (w.apart p q) × Joined n w x y p r × Joined n w x y q s))

-- What the parts of the window after the test are, in the words of the window before it.
module _ (σ : State) (v : Valid σ) (x y : ℕ) (xb : x < regs σ) (yb : y < regs σ) (early : Early σ x y) (w : View) (t : Tracks σ w) where
  abbrev equal_after : State
  equal_after = after σ (Equal x y)

  equal_valid : Valid (after σ (Equal x y))
  equal_valid = after_valid σ (Equal x y) v (xb, yb)

  abbrev J : ℕ → ℕ → Type 0
  J = Joined (regs σ) w x y

  ji : {r s : ℕ} → Local σ x y r s → J r s
  ji = joined_i σ w t x y xb yb

  je : {r s : ℕ} → J r s → Local σ x y r s
  je = joined_e σ w t x y xb yb

  equal_same : (r s : ℕ) → r < regs σ → s < regs σ → Same equal_after r s ↔ J r s
  equal_same r s p q = Iff.trans (equate_registers σ v x y xb yb early r s p q) (ji, je)

  equal_result : (f a b r : ℕ) → a < regs σ → b < regs σ → r < regs σ → Result equal_after f a b r
      ↔ ((p : ℕ) × (q : ℕ) × (s : ℕ) × (p < regs σ) × (q < regs σ) × (s < regs σ) × T (w.result f p q s) × J p a × J q b × J s r)
  equal_result f a b r ab bb rb = Iff.trans (Equate.result_after σ v x y xb yb early f a b r ab bb rb) (
    (λ (p, q, s, pb, qb, sb, m, i, j, k). (p, q, s, pb, qb, sb, (t.result f p q s pb qb sb).1 m, ji i, ji j, ji k)),
    (λ (p, q, s, pb, qb, sb, m, i, j, k). (p, q, s, pb, qb, sb, (t.result f p q s pb qb sb).0 m, je i, je j, je k)),
  )

  equal_ever : (f a b : ℕ) → a < regs σ → b < regs σ → EverComputed equal_after f a b
      ↔ ((p : ℕ) × (q : ℕ) × (p < regs σ) × (q < regs σ) × T (w.ever f p q) × J p a × J q b)
  equal_ever f a b ab bb = Iff.trans (Equate.ever_after σ v x y xb yb early f a b ab bb) (
    (λ (p, q, pb, qb, m, i, j). (p, q, pb, qb, (t.ever f p q pb qb).1 m, ji i, ji j)),
    (λ (p, q, pb, qb, m, i, j). (p, q, pb, qb, (t.ever f p q pb qb).0 m, je i, je j)),
  )

  equal_marked : (r : ℕ) → r < regs σ → Marked equal_after r ↔ T (w.marked r)
  equal_marked r b = Iff.trans (Equate.marked_after σ v x y xb yb early r) (Iff.symm (t.marked r b))

  equal_infeasible : (¬ Feasible equal_after) ↔ (T w.infeasible ⊎ ((p : ℕ) × (q : ℕ) × (p < regs σ) × (q < regs σ) × T (w.apart p q) × J p q))
  equal_infeasible = Iff.trans (infeasible_is equal_after equal_valid) (Iff.trans (Equate.clash_after σ v x y xb yb early) (fwd, bwd))
    where
      fwd : Clash σ ⊎ ((p : ℕ) × (q : ℕ) × (p < regs σ) × (q < regs σ) × Apart σ p q × Local σ x y p q)
          → T w.infeasible ⊎ ((p : ℕ) × (q : ℕ) × (p < regs σ) × (q < regs σ) × T (w.apart p q) × J p q)
      fwd (inl c) = inl (t.infeasible.1 ((infeasible_is σ v).1 c))
      fwd (inr (p, q, pb, qb, m, l)) = elim (clash_or_feasible σ v) [
        | inl c ↦ inl (t.infeasible.1 ((infeasible_is σ v).1 c))
        | inr f ↦ inr (p, q, pb, qb, (t.apart p q pb qb).1 (f, m), ji l)
      ]

      bwd : T w.infeasible ⊎ ((p : ℕ) × (q : ℕ) × (p < regs σ) × (q < regs σ) × T (w.apart p q) × J p q)
          → Clash σ ⊎ ((p : ℕ) × (q : ℕ) × (p < regs σ) × (q < regs σ) × Apart σ p q × Local σ x y p q)
      bwd (inl i) = inl ((infeasible_is σ v).0 (t.infeasible.0 i))
      bwd (inr (p, q, pb, qb, m, l)) = inr (p, q, pb, qb, ((t.apart p q pb qb).0 m).1, je l)

  equal_apart : (w' : View) → T w'.infeasible ↔ (¬ Feasible equal_after) → (r s : ℕ) → r < regs σ → s < regs σ
      → ((¬ T w'.infeasible) × ((p : ℕ) × (q : ℕ) × (p < regs σ) × (q < regs σ) × T (w.apart p q) × J p r × J q s))
      ↔ (Feasible equal_after × Apart equal_after r s)
  equal_apart w' infeasible r s rb sb = (
    λ (n, (p, q, pb, qb, m, i, j)). (
      feasible_of equal_after w' equal_valid infeasible n,
      (Equate.apart_after σ v x y xb yb early r s rb sb).1 (p, q, pb, qb, ((t.apart p q pb qb).0 m).1, je i, je j),
    ),
    λ (f, m). let (p, q, pb, qb, k, i, j) = (Equate.apart_after σ v x y xb yb early r s rb sb).0 m in
        (λ n. infeasible.0 n f, (p, q, pb, qb, (t.apart p q pb qb).1 (before f, k), ji i, ji j)),
  )
    where
      before : Feasible (after σ (Equal x y)) → Feasible σ
      before f = elim (clash_or_feasible σ v) [
        | inl c ↦ absurd ((corollary_2 (after σ (Equal x y)) equal_valid).0 f ((Equate.clash_after σ v x y xb yb early).1 (inl c)))
        | inr g ↦ g
      ]

pub tracks_equal : (σ : State) (v : Valid σ) (x y : ℕ) → x < regs σ → y < regs σ → Early σ x y → (w w' : View) → Tracks σ w
    → Equated (regs σ) w x y w'
    → Tracks (after σ (Equal x y)) w'
tracks_equal σ v x y xb yb early w w' t e = record {
  same = λ r s p q. Iff.trans (e.same r s p q) (Iff.symm (equal_same σ v x y xb yb early w t r s p q));
  apart = λ r s p q. Iff.trans (e.apart r s p q) (equal_apart σ v x y xb yb early w t w' infeasible r s p q);
  result = λ f a b r ab bb rb. Iff.trans (e.result f a b r ab bb rb) (Iff.symm (equal_result σ v x y xb yb early w t f a b r ab bb rb));
  ever = λ f a b ab bb. Iff.trans (e.ever f a b ab bb) (Iff.symm (equal_ever σ v x y xb yb early w t f a b ab bb));
  marked = λ r b. Iff.trans (e.marked r b) (Iff.symm (equal_marked σ v x y xb yb early w t r b));
  infeasible = infeasible;
}
  where
    infeasible : T w'.infeasible ↔ (¬ Feasible (after σ (Equal x y)))
    infeasible = Iff.trans e.infeasible (Iff.symm (equal_infeasible σ v x y xb yb early w t))

-- The window after the test can be no other.
pub equated_is : (σ : State) (v : Valid σ) (x y : ℕ) → x < regs σ → y < regs σ → Early σ x y → (w w' : View) → Tracks σ w
    → Tracks (after σ (Equal x y)) w' → Equated (regs σ) w x y w'
equated_is σ v x y xb yb early w w' t u = record {
  same = λ r s p q. Iff.trans (u.same r s p q) (equal_same σ v x y xb yb early w t r s p q);
  apart = λ r s p q. Iff.trans (u.apart r s p q) (Iff.symm (equal_apart σ v x y xb yb early w t w' u.infeasible r s p q));
  result = λ f a b r ab bb rb. Iff.trans (u.result f a b r ab bb rb) (equal_result σ v x y xb yb early w t f a b r ab bb rb);
  ever = λ f a b ab bb. Iff.trans (u.ever f a b ab bb) (equal_ever σ v x y xb yb early w t f a b ab bb);
  marked = λ r b. Iff.trans (u.marked r b) (equal_marked σ v x y xb yb early w t r b);
  infeasible = Iff.trans u.infeasible (equal_infeasible σ v x y xb yb early w t);
}

-- ── an unequal test ──
-- w' is w after the unequal test of x and y: the pair is known unequal, or the trace is infeasible.
pub record Separated (n : ℕ) (w : View) (x y : ℕ) (w' : View) : Type 0 where
  pub same : (r s : ℕ) → r < n → s < n → T (w'.same r s) ↔ T (w.same r s)
  pub result : (f a b r : ℕ) → a < n → b < n → r < n → T (w'.result f a b r) ↔ T (w.result f a b r)
  pub ever : (f a b : ℕ) → a < n → b < n → T (w'.ever f a b) ↔ T (w.ever f a b)
  pub marked : (r : ℕ) → r < n → T (w'.marked r) ↔ T (w.marked r)
  pub infeasible : T w'.infeasible ↔ (T w.infeasible ⊎ T (w.same x y))
  pub apart : (r s : ℕ) → r < n → s < n
      → T (w'.apart r s)
      ↔ ((¬ T w'.infeasible) × (T (w.apart r s) ⊎ ((T (w.same x r) × T (w.same y s)) ⊎ (T (w.same y r) × T (w.same x s)))))

-- What changes by the test, in the words of the window before it.
module _ (σ : State) (v : Valid σ) (x y : ℕ) (xb : x < regs σ) (yb : y < regs σ) (w : View) (t : Tracks σ w) where
  abbrev unequal_after : State
  unequal_after = after σ (Unequal x y)

  unequal_valid : Valid (after σ (Unequal x y))
  unequal_valid = after_valid σ (Unequal x y) v (xb, yb)

  -- the sides of the test in one order or the other
  abbrev Sides : ℕ → ℕ → Type 0
  Sides r s = (T (w.same x r) × T (w.same y s)) ⊎ (T (w.same y r) × T (w.same x s))

  unequal_infeasible : (¬ Feasible unequal_after) ↔ (T w.infeasible ⊎ T (w.same x y))
  unequal_infeasible = Iff.trans (infeasible_is unequal_after unequal_valid) (Iff.trans (Unequal.clash_after σ v x y xb yb) (
    (λ k. elim k [ inl c ↦ inl (t.infeasible.1 ((infeasible_is σ v).1 c)) | inr c ↦ inr ((t.same x y xb yb).1 c) ]),
    (λ k. elim k [ inl i ↦ inl ((infeasible_is σ v).0 (t.infeasible.0 i)) | inr c ↦ inr ((t.same x y xb yb).0 c) ]),
  ))

  unequal_apart : (w' : View) → T w'.infeasible ↔ (¬ Feasible unequal_after) → (r s : ℕ) → r < regs σ → s < regs σ
      → ((¬ T w'.infeasible) × (T (w.apart r s) ⊎ Sides r s)) ↔ (Feasible unequal_after × Apart unequal_after r s)
  unequal_apart w' infeasible r s rb sb = (
    (λ (n, k). (feasible_of unequal_after w' unequal_valid infeasible n, (Unequal.apart_after σ v x y xb yb r s).1 (into k))),
    (λ (f, m). ((λ n. infeasible.0 n f), out f ((Unequal.apart_after σ v x y xb yb r s).0 m))),
  )
    where
      into : T (w.apart r s) ⊎ Sides r s → Apart σ r s ⊎ ((Same σ x r × Same σ y s) ⊎ (Same σ y r × Same σ x s))
      into (inl k) = inl ((t.apart r s rb sb).0 k).1
      into (inr (inl (p, q))) = inr (inl ((t.same x r xb rb).0 p, (t.same y s yb sb).0 q))
      into (inr (inr (p, q))) = inr (inr ((t.same y r yb rb).0 p, (t.same x s xb sb).0 q))

      before : Feasible (after σ (Unequal x y)) → Feasible σ
      before f = elim (clash_or_feasible σ v) [
        | inl c ↦ absurd ((corollary_2 (after σ (Unequal x y)) unequal_valid).0 f ((Unequal.clash_after σ v x y xb yb).1 (inl c)))
        | inr g ↦ g
      ]

      out : Feasible (after σ (Unequal x y)) → Apart σ r s ⊎ ((Same σ x r × Same σ y s) ⊎ (Same σ y r × Same σ x s)) → T (w.apart r s) ⊎ Sides r s
      out f (inl k) = inl ((t.apart r s rb sb).1 (before f, k))
      out f (inr (inl (p, q))) = inr (inl ((t.same x r xb rb).1 p, (t.same y s yb sb).1 q))
      out f (inr (inr (p, q))) = inr (inr ((t.same y r yb rb).1 p, (t.same x s xb sb).1 q))

pub tracks_unequal : (σ : State) (v : Valid σ) (x y : ℕ) → x < regs σ → y < regs σ → (w w' : View) → Tracks σ w → Separated (regs σ) w x y w'
    → Tracks (after σ (Unequal x y)) w'
tracks_unequal σ v x y xb yb w w' t e = record {
  same = λ r s p q. Iff.trans (e.same r s p q) (t.same r s p q);
  apart = λ r s p q. Iff.trans (e.apart r s p q) (unequal_apart σ v x y xb yb w t w' infeasible r s p q);
  result = λ f a b r ab bb rb. Iff.trans (e.result f a b r ab bb rb) (t.result f a b r ab bb rb);
  ever = λ f a b ab bb. Iff.trans (e.ever f a b ab bb) (t.ever f a b ab bb);
  marked = λ r b. Iff.trans (e.marked r b) (t.marked r b);
  infeasible = infeasible;
}
  where
    infeasible : T w'.infeasible ↔ (¬ Feasible (after σ (Unequal x y)))
    infeasible = Iff.trans e.infeasible (Iff.symm (unequal_infeasible σ v x y xb yb w t))

-- The window after the test can be no other.
pub separated_is : (σ : State) (v : Valid σ) (x y : ℕ) → x < regs σ → y < regs σ → (w w' : View) → Tracks σ w
    → Tracks (after σ (Unequal x y)) w' → Separated (regs σ) w x y w'
separated_is σ v x y xb yb w w' t u = record {
  same = λ r s p q. Iff.trans (u.same r s p q) (Iff.symm (t.same r s p q));
  apart = λ r s p q. Iff.trans (u.apart r s p q) (Iff.symm (unequal_apart σ v x y xb yb w t w' u.infeasible r s p q));
  result = λ f a b r ab bb rb. Iff.trans (u.result f a b r ab bb rb) (Iff.symm (t.result f a b r ab bb rb));
  ever = λ f a b ab bb. Iff.trans (u.ever f a b ab bb) (Iff.symm (t.ever f a b ab bb));
  marked = λ r b. Iff.trans (u.marked r b) (Iff.symm (t.marked r b));
  infeasible = Iff.trans u.infeasible (unequal_infeasible σ v x y xb yb w t);
}

-- ── registers renamed: the window of m registers becomes one of n, register r holding what (src r) held ──
-- Register s is in the class of r, or lies above it through held results.
pub data Over' (m : ℕ) (w : View) (r : ℕ) : ℕ → Type 0 where
  at' : {s : ℕ} → s < m → T (w.same r s) → Over' m w r s
  above' : (f : ℕ) {a b c u s : ℕ} → a < m → b < m → c < m → s < m → Over' m w r u → T (w.same u a) ⊎ T (w.same u b) → T (w.result f a b c)
      → T (w.same c s) → Over' m w r s

-- One of the n registers still holds what register q held.
abbrev pub Still' : ℕ → View → (ℕ → ℕ) → ℕ → ℕ → Type 0
Still' m w src n q = (r : ℕ) × (r < n) × T (w.same q (src r))

-- A held result above register r of which the result or an argument is held no more.
pub record Bared' (m : ℕ) (w : View) (src : ℕ → ℕ) (n r : ℕ) : Type 0 where
  pub function : ℕ
  pub first : ℕ
  pub second : ℕ
  pub to : ℕ
  pub first_below : first < m
  pub second_below : second < m
  pub to_below : to < m
  pub holds : T (w.result function first second to)
  pub over : Over' m w r first ⊎ Over' m w r second
  pub lost : ¬ (Still' m w src n to × Still' m w src n first × Still' m w src n second)

-- w' is w with registers renamed: everything is read through src, and a class is newly marked if a held result above it loses its result or an argument.
pub record Renamed (m : ℕ) (w : View) (src : ℕ → ℕ) (n : ℕ) (w' : View) : Type 0 where
  pub same : (r s : ℕ) → r < n → s < n → T (w'.same r s) ↔ T (w.same (src r) (src s))
  pub apart : (r s : ℕ) → r < n → s < n → T (w'.apart r s) ↔ T (w.apart (src r) (src s))
  pub result : (f a b r : ℕ) → a < n → b < n → r < n → T (w'.result f a b r) ↔ T (w.result f (src a) (src b) (src r))
  pub ever : (f a b : ℕ) → a < n → b < n → T (w'.ever f a b) ↔ T (w.ever f (src a) (src b))
  pub marked : (r : ℕ) → r < n → T (w'.marked r) ↔ (T (w.marked (src r)) ⊎ Bared' m w src n (src r))
  pub infeasible : T w'.infeasible ↔ T w.infeasible

-- The state in which register r, of n, holds what register (src r) held.
abbrev pub renamed : State → (ℕ → ℕ) → ℕ → State
renamed σ src n = record {
  header = record {
    registers = n;
    functions = σ.header.functions;
    binary = σ.header.binary;
  };
  terms = σ.terms;
  equals = σ.equals;
  unequals = σ.unequals;
  value = λ r. σ.value (src r);
}

module _ (σ : State) (v : Valid σ) (w : View) (t : Tracks σ w) where
  over_e : {r s : ℕ} → r < regs σ → Over' (regs σ) w r s → Over σ r s × (s < regs σ)
  over_e rb (at' p c) = (at p ((t.same _ _ rb p).0 c), p)
  over_e rb (above' f ab bb cb sb o e m c) =
      let (k, ub) = over_e rb o in (
        above ab bb cb sb k (elim e [
          | inl d ↦ inl ((t.same _ _ ub ab).0 d)
          | inr d ↦ inr ((t.same _ _ ub bb).0 d)
        ]) ((t.result _ _ _ _ ab bb cb).0 m) ((t.same _ _ cb sb).0 c),
        sb,
      )

  over_i : {r s : ℕ} → r < regs σ → Over σ r s → Over' (regs σ) w r s × (s < regs σ)
  over_i rb (at p c) = (at' p ((t.same _ _ rb p).1 c), p)
  over_i rb (above ab bb cb sb o e m c) =
      let (k, ub) = over_i rb o in (
        above' _ ab bb cb sb k (elim e [
          | inl d ↦ inl ((t.same _ _ ub ab).1 d)
          | inr d ↦ inr ((t.same _ _ ub bb).1 d)
        ]) ((t.result _ _ _ _ ab bb cb).1 m) ((t.same _ _ cb sb).1 c),
        sb,
      )

  module _ (n : ℕ) (src : ℕ → ℕ) (below : (r : ℕ) → r < n → src r < regs σ) where
    bared_is : (r : ℕ) → r < regs σ → Bared σ v n src below r ↔ Bared' (regs σ) w src n r
    bared_is r rb = (
      (λ e. record {
        function = e.function;
        first = e.first;
        second = e.second;
        to = e.to;
        first_below = e.first_below;
        second_below = e.second_below;
        to_below = e.to_below;
        holds = (t.result _ _ _ _ e.first_below e.second_below e.to_below).1 e.holds;
        over = elim e.over [ inl o ↦ inl (over_i rb o).0 | inr o ↦ inr (over_i rb o).0 ];
        lost = λ (p, q, o). e.lost (still e.to_below p, still e.first_below q, still e.second_below o);
      }),
      (λ e. record {
        function = e.function;
        first = e.first;
        second = e.second;
        to = e.to;
        first_below = e.first_below;
        second_below = e.second_below;
        to_below = e.to_below;
        holds = (t.result _ _ _ _ e.first_below e.second_below e.to_below).0 e.holds;
        over = elim e.over [ inl o ↦ inl (over_e rb o).0 | inr o ↦ inr (over_e rb o).0 ];
        lost = λ (p, q, o). e.lost (still' e.to_below p, still' e.first_below q, still' e.second_below o);
      }),
    )
      where
        still : {q : ℕ} → q < regs σ → Still' (regs σ) w src n q → (r : ℕ) × (r < n) × Same σ q (src r)
        still qb (r, b, c) = (r, b, (t.same _ _ qb (below r b)).0 c)

        still' : {q : ℕ} → q < regs σ → (r : ℕ) × (r < n) × Same σ q (src r) → Still' (regs σ) w src n q
        still' qb (r, b, c) = (r, b, (t.same _ _ qb (below r b)).1 c)

    renamed_marked : (r : ℕ) → r < n → Marked (renamed σ src n) r ↔ (T (w.marked (src r)) ⊎ Bared' (regs σ) w src n (src r))
    renamed_marked r b = Iff.trans (exposed_after σ v n src below (src r) (below r b)) (
      (λ k. elim k [ inl m ↦ inl ((t.marked (src r) (below r b)).1 m) | inr m ↦ inr ((bared_is (src r) (below r b)).0 m) ]),
      (λ k. elim k [ inl m ↦ inl ((t.marked (src r) (below r b)).0 m) | inr m ↦ inr ((bared_is (src r) (below r b)).1 m) ]),
    )

    pub tracks_renamed : (w' : View) → Renamed (regs σ) w src n w' → Tracks (renamed σ src n) w'
    tracks_renamed w' e = record {
      same = λ r s p q. Iff.trans (e.same r s p q) (t.same (src r) (src s) (below r p) (below s q));
      apart = λ r s p q. Iff.trans (e.apart r s p q) (t.apart (src r) (src s) (below r p) (below s q));
      result = λ f a b r ab bb rb. Iff.trans (e.result f a b r ab bb rb)
          (t.result f (src a) (src b) (src r) (below a ab) (below b bb) (below r rb));
      ever = λ f a b ab bb. Iff.trans (e.ever f a b ab bb) (t.ever f (src a) (src b) (below a ab) (below b bb));
      marked = λ r b. Iff.trans (e.marked r b) (Iff.symm (renamed_marked r b));
      infeasible = Iff.trans e.infeasible t.infeasible;
    }

    -- The window of the renamed registers can be no other.
    pub renamed_is : (w' : View) → Tracks (renamed σ src n) w' → Renamed (regs σ) w src n w'
    renamed_is w' u = record {
      same = λ r s p q. Iff.trans (u.same r s p q) (Iff.symm (t.same (src r) (src s) (below r p) (below s q)));
      apart = λ r s p q. Iff.trans (u.apart r s p q) (Iff.symm (t.apart (src r) (src s) (below r p) (below s q)));
      result = λ f a b r ab bb rb. Iff.trans (u.result f a b r ab bb rb)
          (Iff.symm (t.result f (src a) (src b) (src r) (below a ab) (below b bb) (below r rb)));
      ever = λ f a b ab bb. Iff.trans (u.ever f a b ab bb) (Iff.symm (t.ever f (src a) (src b) (below a ab) (below b bb)));
      marked = λ r b. Iff.trans (u.marked r b) (renamed_marked r b);
      infeasible = Iff.trans u.infeasible (Iff.symm t.infeasible);
    }

-- ── a copy ──
abbrev pub copied : ℕ → ℕ → ℕ → ℕ
copied x y r = cond (eqb r x) y r

pub copied_below : {n : ℕ} (x : ℕ) {y : ℕ} → y < n → (r : ℕ) → r < n → copied x y r < n
copied_below {n} x {y} yb r b = elim (eqb r x) as (λ k. cond k y r < n) [ true ↦ yb | false ↦ b ]

pub tracks_copy : (σ : State) (v : Valid σ) (x y : ℕ) → y < regs σ → (w w' : View) → Tracks σ w → Renamed (regs σ) w (copied x y) (regs σ) w'
    → Tracks (after σ (Copy x y)) w'
tracks_copy σ v x y yb w w' t e = tracks_renamed σ v w t (regs σ) (copied x y) (copied_below x yb) w' e

-- ── an application ──
-- the window with registers relabelled: (relabelled w (down r)) has one more, number 0, that holds what register r of the others holds
abbrev pub relabelled : View → (ℕ → ℕ) → View
relabelled w d = record {
  same = λ a b. w.same (d a) (d b);
  apart = λ a b. w.apart (d a) (d b);
  result = λ f a b c. w.result f (d a) (d b) (d c);
  ever = λ f a b. w.ever f (d a) (d b);
  marked = λ a. w.marked (d a);
  infeasible = w.infeasible;
}

-- the window with one more register, number 0, that holds a new term, f at y and z
abbrev same_fresh : View → ℕ → ℕ → Bool
same_fresh w zero zero = true
same_fresh w zero (suc s) = false
same_fresh w (suc r) zero = false
same_fresh w (suc r) (suc s) = w.same r s

abbrev apart_fresh : View → ℕ → ℕ → Bool
apart_fresh w zero s = false
apart_fresh w (suc r) zero = false
apart_fresh w (suc r) (suc s) = w.apart r s

abbrev result_fresh : View → ℕ → ℕ → ℕ → ℕ → ℕ → ℕ → ℕ → Bool
result_fresh w f y z g zero b c = false
result_fresh w f y z g (suc a) zero c = false
result_fresh w f y z g (suc a) (suc b) zero = eqb g f && (w.same y a && w.same z b)
result_fresh w f y z g (suc a) (suc b) (suc c) = w.result g a b c

abbrev ever_fresh : View → ℕ → ℕ → ℕ → ℕ → ℕ → ℕ → Bool
ever_fresh w f y z g zero b = false
ever_fresh w f y z g (suc a) zero = false
ever_fresh w f y z g (suc a) (suc b) = w.ever g a b || (eqb g f && (w.same y a && w.same z b))

abbrev marked_fresh : View → ℕ → Bool
marked_fresh w zero = false
marked_fresh w (suc r) = w.marked r

abbrev pub freshened : View → ℕ → ℕ → ℕ → View
freshened w f y z = record {
  same = same_fresh w;
  apart = apart_fresh w;
  result = result_fresh w f y z;
  ever = ever_fresh w f y z;
  marked = marked_fresh w;
  infeasible = w.infeasible;
}

module _ (σ : State) (v : Valid σ) (f y z : ℕ) (yb : y < regs σ) (zb : z < regs σ) (w : View) (t : Tracks σ w) where
  pub tracks_known : (r : ℕ) → r < regs σ → Result σ f y z r → Tracks (grown σ f y z) (relabelled w (down r))
  tracks_known r rb k = record {
    same = λ a b ab bb. Iff.trans (t.same (down r a) (down r b) (low a ab) (low b bb))
        (Iff.symm (Apply.same_known σ v f y z yb zb r rb k a b ab bb));
    apart = λ a b ab bb. Iff.trans (t.apart (down r a) (down r b) (low a ab) (low b bb)) (
      (λ (g, m). (g, (Apply.apart_known σ v f y z yb zb r rb k a b ab bb).1 m)),
      (λ (g, m). (g, (Apply.apart_known σ v f y z yb zb r rb k a b ab bb).0 m)),
    );
    result = λ g a b c ab bb cb. Iff.trans (t.result g (down r a) (down r b) (down r c) (low a ab) (low b bb) (low c cb))
        (Iff.symm (Apply.result_known σ v f y z yb zb r rb k g a b c ab bb cb));
    ever = λ g a b ab bb. Iff.trans (t.ever g (down r a) (down r b) (low a ab) (low b bb))
        (Iff.symm (Apply.ever_known σ v f y z yb zb r rb k g a b ab bb));
    marked = λ a ab. Iff.trans (t.marked (down r a) (low a ab)) (Iff.symm (Apply.marked_known σ v f y z yb zb r rb k a ab));
    infeasible = t.infeasible;
  }
    where
      low : (a : ℕ) → a < suc (regs σ) → down r a < regs σ
      low zero b = rb
      low (suc s) b = omega arith

  here : (g a b : ℕ) → a < regs σ → b < regs σ → T (eqb g f && (w.same y a && w.same z b)) ↔ ((g ≡ f) × Same σ y a × Same σ z b)
  here g a b ab bb = (
    (λ k. let l = and_r (eqb g f) (w.same y a && w.same z b) k in (
      eqb→eq g f (and_l (eqb g f) (w.same y a && w.same z b) k),
      (t.same y a yb ab).0 (and_l (w.same y a) (w.same z b) l),
      (t.same z b zb bb).0 (and_r (w.same y a) (w.same z b) l),
    )),
    (λ (e, c, d). and_i (eqb g f) (w.same y a && w.same z b) (subst (λ k. T (eqb g k)) e (eqb_refl g))
        (and_i (w.same y a) (w.same z b) ((t.same y a yb ab).1 c) ((t.same z b zb bb).1 d))),
  )

  pub tracks_new : ¬ EverComputed σ f y z → Tracks (grown σ f y z) (freshened w f y z)
  tracks_new fresh = record { same = same''; apart = apart''; result = result''; ever = ever''; marked = marked''; infeasible = t.infeasible }
    where
      σ⁺ : State
      σ⁺ = grown σ f y z

      same'' : (a b : ℕ) → a < suc (regs σ) → b < suc (regs σ) → T (same_fresh w a b) ↔ Same (grown σ f y z) a b
      same'' zero zero ab bb = (λ k. Apply.same_new_new σ v f y z yb zb fresh, λ c. tt)
      same'' zero (suc s) ab bb = (λ k. absurd k, λ c. Apply.same_new_old σ v f y z yb zb fresh s (omega arith) c)
      same'' (suc r) zero ab bb = (λ k. absurd k, λ c. Apply.same_new_old σ v f y z yb zb fresh r (omega arith) (symmetric c))
      same'' (suc r) (suc s) ab bb =
          Iff.trans (t.same r s (omega arith) (omega arith)) (Iff.symm (Apply.same_old_old σ v f y z yb zb fresh r s (omega arith) (omega arith)))

      apart'' : (a b : ℕ) → a < suc (regs σ) → b < suc (regs σ) → T (apart_fresh w a b) ↔ (Feasible (grown σ f y z) × Apart (grown σ f y z) a b)
      apart'' zero s ab bb = (λ k. absurd k, λ (g, m). Apply.apart_new_left σ v f y z yb zb fresh s m)
      apart'' (suc r) zero ab bb = (λ k. absurd k, λ (g, m). Apply.apart_new_right σ v f y z yb zb fresh (suc r) m)
      apart'' (suc r) (suc s) ab bb = Iff.trans (t.apart r s (omega arith) (omega arith)) (
        (λ (g, m). (g, (Apply.apart_old σ v f y z yb zb fresh r s (omega arith) (omega arith)).1 m)),
        (λ (g, m). (g, (Apply.apart_old σ v f y z yb zb fresh r s (omega arith) (omega arith)).0 m)),
      )

      result'' : (g a b c : ℕ) → a < suc (regs σ) → b < suc (regs σ) → c < suc (regs σ)
          → T (result_fresh w f y z g a b c) ↔ Result (grown σ f y z) g a b c
      result'' g zero b c ab bb cb = (λ k. absurd k, λ m. Apply.ever_new_first σ v f y z yb zb fresh g b (_, m))
      result'' g (suc a) zero c ab bb cb = (λ k. absurd k, λ m. Apply.ever_new_second σ v f y z yb zb fresh g (suc a) (_, m))
      result'' g (suc a) (suc b) zero ab bb cb =
          Iff.trans (here g a b (omega arith) (omega arith)) (Iff.symm (Apply.result_new σ v f y z yb zb fresh g a b (omega arith) (omega arith)))
      result'' g (suc a) (suc b) (suc c) ab bb cb =
          Iff.trans (t.result g a b c (omega arith) (omega arith) (omega arith))
          (Iff.symm (Apply.result_old σ v f y z yb zb fresh g a b c (omega arith) (omega arith) (omega arith)))

      ever'' : (g a b : ℕ) → a < suc (regs σ) → b < suc (regs σ) → T (ever_fresh w f y z g a b) ↔ EverComputed (grown σ f y z) g a b
      ever'' g zero b ab bb = (λ k. absurd k, λ m. Apply.ever_new_first σ v f y z yb zb fresh g b m)
      ever'' g (suc a) zero ab bb = (λ k. absurd k, λ m. Apply.ever_new_second σ v f y z yb zb fresh g (suc a) m)
      ever'' g (suc a) (suc b) ab bb = Iff.trans (
        (λ k. elim (or_e (w.ever g a b) (eqb g f && (w.same y a && w.same z b)) k)
            [ inl i ↦ inl ((t.ever g a b (omega arith) (omega arith)).0 i) | inr i ↦ inr ((here g a b (omega arith) (omega arith)).0 i) ]),
        (λ k. elim k [
          | inl i ↦ or_l (w.ever g a b) (eqb g f && (w.same y a && w.same z b)) ((t.ever g a b (omega arith) (omega arith)).1 i)
          | inr i ↦ or_r (w.ever g a b) (eqb g f && (w.same y a && w.same z b)) ((here g a b (omega arith) (omega arith)).1 i)
        ]),
      )
          (Iff.symm (Apply.ever_old σ v f y z yb zb fresh g a b (omega arith) (omega arith)))

      marked'' : (a : ℕ) → a < suc (regs σ) → T (marked_fresh w a) ↔ Marked (grown σ f y z) a
      marked'' zero ab = (λ k. absurd k, λ m. Apply.marked_new σ v f y z yb zb fresh m)
      marked'' (suc r) ab = Iff.trans (t.marked r (omega arith)) (Iff.symm (Apply.marked_old σ v f y z yb zb fresh r (omega arith)))

-- the letter renames the registers of the grown state
abbrev pub target : ℕ → ℕ → ℕ
target x r = cond (eqb r x) 0 (suc r)

applied : (σ : State) (x f y z : ℕ) → renamed (grown σ f y z) (target x) (regs σ) ≡ after σ (Apply x f y z)
applied σ x f y z = λ i. record {
  header = σ.header;
  terms = app f (σ.value y) (σ.value z) ∷ σ.terms;
  equals = σ.equals;
  unequals = σ.unequals;
  value = fun_ext {f = λ r. push (app f (σ.value y) (σ.value z)) σ.value (target x r)} {g = λ r. elim (eqb r x) [
    | true ↦ app f (σ.value y) (σ.value z)
    | false ↦ σ.value r
  ]} values i;
}
  where
    values : (r : ℕ)
        → push (app f (σ.value y) (σ.value z)) σ.value (target x r) ≡ elim (eqb r x) [
          | true ↦ app f (σ.value y) (σ.value z)
          | false ↦ σ.value r
        ]
    values r =
        elim (eqb r x) as (λ b. push (app f (σ.value y) (σ.value z)) σ.value
        (cond b 0 (suc r)) ≡ elim b [ true ↦ app f (σ.value y) (σ.value z) | false ↦ σ.value r ])
        [ true ↦ refl | false ↦ refl ]

grown_valid : (σ : State) → Valid σ → (f y z : ℕ) → y < regs σ → z < regs σ → Valid (grown σ f y z)
grown_valid σ v f y z yb zb = record {
  values = values;
  arguments = λ g a b m. elim (Memᴰ.cases_cons m) [
    | inl e ↦ (Memᴰ.tail (Memᴰ.cast (cc) (v.values y yb)), Memᴰ.tail (Memᴰ.cast (cc) (v.values z zb)))
    | inr k ↦ (Memᴰ.tail (v.arguments g a b k).0, Memᴰ.tail (v.arguments g a b k).1)
  ];
  equal_sides = λ s t m. (Memᴰ.tail (v.equal_sides s t m).0, Memᴰ.tail (v.equal_sides s t m).1);
  unequal_sides = λ s t m. (Memᴰ.tail (v.unequal_sides s t m).0, Memᴰ.tail (v.unequal_sides s t m).1);
  constants = λ r m. elim (Memᴰ.cases_cons m) [ inl e ↦ absurd (con_app e) | inr k ↦ omega (arith, v.constants r k) ];
}
  where
    values : (r : ℕ) → r < suc (regs σ) → push (app f (σ.value y) (σ.value z)) σ.value r ∈ app f (σ.value y) (σ.value z) ∷ σ.terms
    values zero b = Memᴰ.head refl
    values (suc r) b = Memᴰ.tail (v.values r (omega arith))

target_below : {n : ℕ} (x : ℕ) (r : ℕ) → r < n → target x r < suc n
target_below {n} x r b = elim (eqb r x) as (λ k. cond k 0 (suc r) < suc n) [ true ↦ omega arith | false ↦ omega arith ]

-- an application whose term no register holds and no term equals
pub tracks_apply_new : (σ : State) (v : Valid σ) (x f y z : ℕ) → y < regs σ → z < regs σ → (w w' : View) → Tracks σ w → ¬ T (w.ever f y z)
    → Renamed (suc (regs σ)) (freshened w f y z) (target x) (regs σ) w' → Tracks (after σ (Apply x f y z)) w'
tracks_apply_new σ v x f y z yb zb w w' t n e =
    subst (λ τ. Tracks τ w') (applied σ x f y z)
    (tracks_renamed (grown σ f y z) (grown_valid σ v f y z yb zb) (freshened w f y z)
    (tracks_new σ v f y z yb zb w t (λ m. n ((t.ever f y z yb zb).1 m))) (regs σ) (target x) (target_below x) w' e)

pub fresh_is : (σ : State) (v : Valid σ) (x f y z : ℕ) → y < regs σ → z < regs σ → (w w' : View) → Tracks σ w → ¬ T (w.ever f y z)
    → Tracks (after σ (Apply x f y z)) w' → Renamed (suc (regs σ)) (freshened w f y z) (target x) (regs σ) w'
fresh_is σ v x f y z yb zb w w' t n u =
    renamed_is (grown σ f y z) (grown_valid σ v f y z yb zb) (freshened w f y z) (tracks_new σ v f y z yb zb w t (λ m. n ((t.ever f y z yb zb).1 m)))
    (regs σ) (target x) (target_below x) w' (subst (λ τ. Tracks τ w') (sym (applied σ x f y z)) u)

-- an application whose term register r holds is the copy of r
module _ (n : ℕ) (w : View) (r x : ℕ) (rb : r < n) where
  low : (a : ℕ) → a < suc n → down r a < n
  low zero b = rb
  low (suc s) b = omega arith

  over_up : {q k : ℕ} → Over' n w (down r q) k → Over' (suc n) (relabelled w (down r)) q (suc k)
  over_up (at' p c) = at' (suc-le-suc p) c
  over_up (above' f ab bb cb sb o e m c) = above' f (suc-le-suc ab) (suc-le-suc bb) (suc-le-suc cb) (suc-le-suc sb) (over_up o) e m c

  over_down : {q k : ℕ} → Over' (suc n) (relabelled w (down r)) q k → Over' n w (down r q) (down r k)
  over_down (at' p c) = at' (low _ p) c
  over_down (above' f ab bb cb sb o e m c) = above' f (low _ ab) (low _ bb) (low _ cb) (low _ sb) (over_down o) e m c

  bared_known : (q : ℕ) → Bared' n w (λ a. down r (target x a)) n (down r q) ↔ Bared' (suc n) (relabelled w (down r)) (target x) n q
  bared_known q = (
    (λ e. record {
      function = e.function;
      first = suc e.first;
      second = suc e.second;
      to = suc e.to;
      first_below = omega (arith, e.first_below);
      second_below = omega (arith, e.second_below);
      to_below = omega (arith, e.to_below);
      holds = e.holds;
      over = elim e.over [ inl o ↦ inl (over_up o) | inr o ↦ inr (over_up o) ];
      lost = e.lost;
    }),
    (λ e. record {
      function = e.function;
      first = down r e.first;
      second = down r e.second;
      to = down r e.to;
      first_below = low e.first e.first_below;
      second_below = low e.second e.second_below;
      to_below = low e.to e.to_below;
      holds = e.holds;
      over = elim e.over [ inl o ↦ inl (over_down o) | inr o ↦ inr (over_down o) ];
      lost = e.lost;
    }),
  )

copied_is : (x y : ℕ) → copied x y ≡ (λ r. down y (target x r))
copied_is x y = fun_ext λ r. elim (eqb r x) as (λ b. cond b y r ≡ down y (cond b 0 (suc r))) [ true ↦ refl | false ↦ refl ]

pub tracks_apply_known : (σ : State) (v : Valid σ) (x f y z : ℕ) → y < regs σ → z < regs σ → (w w' : View) → Tracks σ w
    → (r : ℕ) → r < regs σ → T (w.result f y z r) → Renamed (regs σ) w (copied x r) (regs σ) w' → Tracks (after σ (Apply x f y z)) w'
tracks_apply_known σ v x f y z yb zb w w' t r rb k e' =
    subst (λ τ. Tracks τ w') (applied σ x f y z)
    (tracks_renamed (grown σ f y z) (grown_valid σ v f y z yb zb) (relabelled w (down r))
    (tracks_known σ v f y z yb zb w t r rb ((t.result f y z r yb zb rb).0 k)) (regs σ) (target x) (target_below x) w'
    (go (subst (λ s. Renamed (regs σ) w s (regs σ) w') (copied_is x r) e')))
  where
    go : Renamed (regs σ) w (λ a. down r (target x a)) (regs σ) w' → Renamed (suc (regs σ)) (relabelled w (down r)) (target x) (regs σ) w'
    go e = record {
      same = e.same;
      apart = e.apart;
      result = e.result;
      ever = e.ever;
      marked = λ a ab. Iff.trans (e.marked a ab) (
        (λ k. elim k [ inl m ↦ inl m | inr b ↦ inr ((bared_known (regs σ) w r x rb (target x a)).0 b) ]),
        (λ k. elim k [ inl m ↦ inl m | inr b ↦ inr ((bared_known (regs σ) w r x rb (target x a)).1 b) ]),
      );
      infeasible = e.infeasible;
    }

pub known_is : (σ : State) (v : Valid σ) (x f y z : ℕ) → y < regs σ → z < regs σ → (w w' : View) → Tracks σ w
    → (r : ℕ) → r < regs σ → T (w.result f y z r) → Tracks (after σ (Apply x f y z)) w' → Renamed (regs σ) w (copied x r) (regs σ) w'
known_is σ v x f y z yb zb w w' t r rb k u =
    subst (λ s. Renamed (regs σ) w s (regs σ) w') (sym (copied_is x r))
    (go (renamed_is (grown σ f y z) (grown_valid σ v f y z yb zb) (relabelled w (down r))
    (tracks_known σ v f y z yb zb w t r rb ((t.result f y z r yb zb rb).0 k)) (regs σ) (target x) (target_below x) w'
    (subst (λ τ. Tracks τ w') (sym (applied σ x f y z)) u)))
  where
    go : Renamed (suc (regs σ)) (relabelled w (down r)) (target x) (regs σ) w' → Renamed (regs σ) w (λ a. down r (target x a)) (regs σ) w'
    go e = record {
      same = e.same;
      apart = e.apart;
      result = e.result;
      ever = e.ever;
      marked = λ a ab. Iff.trans (e.marked a ab) (
        (λ k. elim k [ inl m ↦ inl m | inr b ↦ inr ((bared_known (regs σ) w r x rb (target x a)).1 b) ]),
        (λ k. elim k [ inl m ↦ inl m | inr b ↦ inr ((bared_known (regs σ) w r x rb (target x a)).0 b) ]),
      );
      infeasible = e.infeasible;
    }

-- ── coherence, read off the window ──
pub fine_apply : (σ : State) (v : Valid σ) (x f y z : ℕ) → y < regs σ → z < regs σ → (w : View) → Tracks σ w
    → Memoizing σ x f y z ↔ (T (w.ever f y z) → (r : ℕ) × (r < regs σ) × T (w.result f y z r))
fine_apply σ v x f y z yb zb w t = Iff.trans (Apply.memoizing σ v f y z yb zb x) (
  (λ h k. let (r, b, m) = h ((t.ever f y z yb zb).0 k) in (r, b, (t.result f y z r yb zb b).1 m)),
  (λ h k. let (r, b, m) = h ((t.ever f y z yb zb).1 k) in (r, b, (t.result f y z r yb zb b).0 m)),
)

pub fine_equal : (σ : State) (v : Valid σ) (x y : ℕ) → x < regs σ → y < regs σ → (w : View) → Tracks σ w
    → Early σ x y ↔ ((¬ T (w.marked x)) × (¬ T (w.marked y)))
fine_equal σ v x y xb yb w t = (
  (λ (p, q). ((λ m. no x xb p m), (λ m. no y yb q m))),
  (λ (p, q). (yes' x xb p, yes' y yb q)),
)
  where
    no : (r : ℕ) → r < regs σ → Kept σ (σ.value r) → ¬ T (w.marked r)
    no r b k m = let e = (t.marked r b).0 m in e.unheld (k e.function e.first e.second e.listed e.above)

    yes' : (r : ℕ) → r < regs σ → ¬ T (w.marked r) → Kept σ (σ.value r)
    yes' r b n = elim (exposed_or_kept σ v (σ.value r) (v.values r b)) [ inl e ↦ absurd (n ((t.marked r b).1 e)) | inr k ↦ k ]
