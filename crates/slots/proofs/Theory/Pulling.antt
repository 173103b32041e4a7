-- Slots and registers after a step, in the words of views alone: no widths and no lists.
use mathlib.Core.Path.{◌≡◌, refl, sym, ap, ◌∙◌, subst}
use mathlib.Core.Logic.Iff
use mathlib.Core.Logic.{◌⊎◌, inl, inr, ◌↔◌, ◌≢◌, ⊎_elim}
use mathlib.Core.Bool.{cond, ◌&&◌}
use Prim.Native.Nat.{ℕ, suc, ◌<◌}
use lib.Dec.{eqb, T, eqb→eq, eqb_refl}
use Rattle.semantics.proofs.Theory.Booleans.{and_l, and_r, and_i, or_e, or_l, or_r}
use Rattle.semantics.specs.View.{View}
use Rattle.semantics.proofs.Theory.Steps.{Renamed, freshened, target}
use borrow.Author.Tests.{eq-eqb, ne_eqb}
use Rattle.window.proofs.Theory.Bits.{eq_or}
use Rattle.window.proofs.Theory.Laws.{Laws}
use Rattle.window.proofs.Theory.Merge.{In, ClassesMerged}
use Rattle.window.proofs.Theory.Applying.{GrownRegister, here, there, at}
use Rattle.slots.specs.Represents.{Used, Pulled, Clean, Single}

pub move2 : (P : ℕ → ℕ → Type 0) {a b c d : ℕ} → a ≡ c → b ≡ d → P a b → P c d
move2 P {a} {b} {c} {d} e h p = subst (λ u. P u d) e (subst (λ u. P a u) h p)

pub move3 : (P : ℕ → ℕ → ℕ → Type 0) {a b c a' b' c' : ℕ} → a ≡ a' → b ≡ b' → c ≡ c' → P a b c → P a' b' c'
move3 P {a} {b} {c} {a'} {b'} {c'} e h k p = subst (λ u. P u b' c') e (move2 (P a) h k p)

-- a window that has slots obeys the laws
pub laws_pulled : (n : ℕ) (g : ℕ → ℕ) (w v : View) → Pulled n g w v → Laws n w
laws_pulled n g w v p = record {
  self = λ r rb. (p.same r r rb rb).1 refl;
  turned = λ r s rb sb t. (p.same s r sb rb).1 (sym ((p.same r s rb sb).0 t));
  joined = λ r s q rb sb qb t u. (p.same r q rb qb).1 ((p.same r s rb sb).0 t ∙ (p.same s q sb qb).0 u);
  result = λ f a b c a' b' c' ab bb cb ab' bb' cb' t i j k. (p.result f a' b' c' ab' bb' cb').1
      (move3 (λ x y z. T (v.result f x y z)) ((p.same a a' ab ab').0 i) ((p.same b b' bb bb').0 j) ((p.same c c' cb cb').0 k)
      ((p.result f a b c ab bb cb).0 t));
  ever = λ f a b a' b' ab bb ab' bb' t i j. (p.ever f a' b' ab' bb').1
      (move2 (λ x y. T (v.ever f x y)) ((p.same a a' ab ab').0 i) ((p.same b b' bb bb').0 j) ((p.ever f a b ab bb).0 t));
  apart = λ a b a' b' ab bb ab' bb' t i j. (p.apart a' b' ab' bb').1
      (move2 (λ x y. T (v.apart x y)) ((p.same a a' ab ab').0 i) ((p.same b b' bb bb').0 j) ((p.apart a b ab bb).0 t));
}

-- ---- a copy: no table says anything else of the slots that are left

pub record SlotsAlike (n : ℕ) (g : ℕ → ℕ) (v v' : View) : Type 0 where
  pub apart : (r s : ℕ) → r < n → s < n → T (v.apart (g r) (g s)) ↔ T (v'.apart (g r) (g s))
  pub result : (f a b c : ℕ) → a < n → b < n → c < n → T (v.result f (g a) (g b) (g c)) ↔ T (v'.result f (g a) (g b) (g c))
  pub ever : (f a b : ℕ) → a < n → b < n → T (v.ever f (g a) (g b)) ↔ T (v'.ever f (g a) (g b))

module _ (n : ℕ) (g g' c : ℕ → ℕ) (w w' v v' : View) (p : Pulled n g w v) (cb : (r : ℕ) → r < n → c r < n) (e : (r : ℕ) → r < n → g (c r) ≡ g' r)
    (t : Renamed n w c n w') (k : SlotsAlike n g' v v') where
  pub pulled_copied : Pulled n g' w' v'
  pulled_copied = record {
    same = λ r s rb sb. Iff.trans (t.same r s rb sb) (Iff.trans (p.same (c r) (c s) (cb r rb) (cb s sb)) (
      (λ h. sym (e r rb) ∙ h ∙ e s sb),
      (λ h. e r rb ∙ h ∙ sym (e s sb)),
    ));
    apart = λ r s rb sb. Iff.trans (t.apart r s rb sb) (Iff.trans (p.apart (c r) (c s) (cb r rb) (cb s sb)) (Iff.trans (
      (λ h. move2 (λ x y. T (v.apart x y)) (e r rb) (e s sb) h),
      (λ h. move2 (λ x y. T (v.apart x y)) (sym (e r rb)) (sym (e s sb)) h),
    ) (k.apart r s rb sb)));
    result = λ f a b d ab bb db. Iff.trans (t.result f a b d ab bb db) (Iff.trans (p.result f (c a) (c b) (c d) (cb a ab) (cb b bb) (cb d db)) (Iff.trans (
      (λ h. move3 (λ x y z. T (v.result f x y z)) (e a ab) (e b bb) (e d db) h),
      (λ h. move3 (λ x y z. T (v.result f x y z)) (sym (e a ab)) (sym (e b bb)) (sym (e d db)) h),
    ) (k.result f a b d ab bb db)));
    ever = λ f a b ab bb. Iff.trans (t.ever f a b ab bb) (Iff.trans (p.ever f (c a) (c b) (cb a ab) (cb b bb)) (Iff.trans (
      (λ h. move2 (λ x y. T (v.ever f x y)) (e a ab) (e b bb) h),
      (λ h. move2 (λ x y. T (v.ever f x y)) (sym (e a ab)) (sym (e b bb)) h),
    ) (k.ever f a b ab bb)));
  }

-- ---- a new value, in a slot m of its own

-- the tables have nothing of slot m but that it holds the result of f at slots a and b
pub record Renewed (ρ f a b m : ℕ) (v v' : View) : Type 0 where
  pub apart : (s t : ℕ) → s < ρ → t < ρ → T (v'.apart s t) ↔ ((s ≢ m) × (t ≢ m) × T (v.apart s t))
  pub result : (h s t c : ℕ) → s < ρ → t < ρ → c < ρ
      → T (v'.result h s t c) ↔ ((s ≢ m) × (t ≢ m) × ((T (v.result h s t c) × (c ≢ m)) ⊎ ((c ≡ m) × (h ≡ f) × (s ≡ a) × (t ≡ b))))
  pub ever : (h s t : ℕ) → s < ρ → t < ρ → T (v'.ever h s t) ↔ ((s ≢ m) × (t ≢ m) × (T (v.ever h s t) ⊎ ((h ≡ f) × (s ≡ a) × (t ≡ b))))

module _ (ρ n : ℕ) (g g' : ℕ → ℕ) (w w' v v' : View) (p : Pulled n g w v) (low : (r : ℕ) → r < n → g' r < ρ) (x f y z m : ℕ) (xb : x < n) (yb : y < n)
    (zb : z < n)
    (e : (r : ℕ) → r < n → r ≢ x → (g r ≡ g' r) × (g r ≢ m)) (ex : g' x ≡ m) (t : Renamed (suc n) (freshened w f y z) (target x) n w')
    (k : Renewed ρ f (g y) (g z) m v v') where
  own : (r : ℕ) → r ≡ x → g' r ≡ m
  own r h = subst (λ u. g' u ≡ m) (sym h) ex

  off : (r : ℕ) → r < n → r ≢ x → g' r ≢ m
  off r rb d h = (e r rb d).1 ((e r rb d).0 ∙ h)

  same_go : {r s r' s' : ℕ} → r < n → s < n → GrownRegister x r r' → GrownRegister x s s' → T ((freshened w f y z).same r' s') ↔ (g' r ≡ g' s)
  same_go {r} {s} rb sb (here i) (here j) = ((λ _. own r i ∙ sym (own s j)), (λ _. tt))
  same_go {r} {s} rb sb (here i) (there j) = ((λ u. absurd u), (λ h. absurd (off s sb j (sym h ∙ own r i))))
  same_go {r} {s} rb sb (there i) (here j) = ((λ u. absurd u), (λ h. absurd (off r rb i (h ∙ own s j))))
  same_go {r} {s} rb sb (there i) (there j) =
      Iff.trans (p.same r s rb sb) ((λ h. sym (e r rb i).0 ∙ h ∙ (e s sb j).0), (λ h. (e r rb i).0 ∙ h ∙ sym (e s sb j).0))

  apart_go : {r s r' s' : ℕ} → r < n → s < n → GrownRegister x r r' → GrownRegister x s s' → T ((freshened w f y z).apart r' s') ↔ T (v'.apart (g' r) (g' s))
  apart_go {r} {s} rb sb (here i) j = ((λ u. absurd u), (λ h. absurd (((k.apart (g' r) (g' s) (low r rb) (low s sb)).0 h).0 (own r i))))
  apart_go {r} {s} rb sb (there i) (here j) = ((λ u. absurd u), (λ h. absurd (((k.apart (g' r) (g' s) (low r rb) (low s sb)).0 h).1 (own s j))))
  apart_go {r} {s} rb sb (there i) (there j) = Iff.trans (p.apart r s rb sb) (
    (λ h. (k.apart (g' r) (g' s) (low r rb) (low s sb)).1 (off r rb i, off s sb j, move2 (λ a b. T (v.apart a b)) (e r rb i).0 (e s sb j).0 h)),
    (λ h. move2 (λ a b. T (v.apart a b)) (sym (e r rb i).0) (sym (e s sb j).0) ((k.apart (g' r) (g' s) (low r rb) (low s sb)).0 h).2),
  )

  -- the entry of the new result
  new_is : (h r s : ℕ) (rb : r < n) (sb : s < n) → r ≢ x → s ≢ x → T (eqb h f && (w.same y r && w.same z s)) ↔ ((h ≡ f) × (g' r ≡ g y) × (g' s ≡ g z))
  new_is h r s rb sb i j = (
    (λ u. let q = and_r (eqb h f) (w.same y r && w.same z s) u in (
      eqb→eq h f (and_l (eqb h f) (w.same y r && w.same z s) u),
      sym ((p.same y r yb rb).0 (and_l (w.same y r) (w.same z s) q) ∙ (e r rb i).0),
      sym
          ((p.same z s zb sb).0 (and_r (w.same y r) (w.same z s) q) ∙ (e s sb j).0),
    )),
    (λ (a, b, c). and_i (eqb h f) (w.same y r && w.same z s) (subst (λ q. T (eqb h q)) a (eqb_refl h))
        (and_i (w.same y r) (w.same z s) ((p.same y r yb rb).1 (sym b ∙ sym (e r rb i).0)) ((p.same z s zb sb).1 (sym c ∙ sym (e s sb j).0)))),
  )

  result_go : (h : ℕ) {r s c r' s' c' : ℕ} → r < n → s < n → c < n → GrownRegister x r r' → GrownRegister x s s' → GrownRegister x c c'
      → T ((freshened w f y z).result h r' s' c') ↔ T (v'.result h (g' r) (g' s) (g' c))
  result_go h {r} {s} {c} rb sb cb (here i) j l =
      ((λ u. absurd u), (λ q. absurd (((k.result h (g' r) (g' s) (g' c) (low r rb) (low s sb) (low c cb)).0 q).0 (own r i))))
  result_go h {r} {s} {c} rb sb cb (there i) (here j) l =
      ((λ u. absurd u), (λ q. absurd (((k.result h (g' r) (g' s) (g' c) (low r rb) (low s sb) (low c cb)).0 q).1 (own s j))))
  result_go h {r} {s} {c} rb sb cb (there i) (there j) (here l) = Iff.trans (new_is h r s rb sb i j) (
    (λ q. (k.result h (g' r) (g' s) (g' c) (low r rb) (low s sb) (low c cb)).1 (off r rb i, off s sb j, inr (own c l, q.0, q.1, q.2))),
    (λ q. ⊎_elim (λ (_, d). absurd (d (own c l))) (λ (_, a, b, d). (a, b, d)) ((k.result h (g' r) (g' s) (g' c) (low r rb) (low s sb) (low c cb)).0 q).2),
  )
  result_go h {r} {s} {c} rb sb cb (there i) (there j) (there l) = Iff.trans (p.result h r s c rb sb cb) (
    (λ q. (k.result h (g' r) (g' s) (g' c) (low r rb) (low s sb) (low c cb)).1
        (off r rb i, off s sb j, inl (move3 (λ a b d. T (v.result h a b d)) (e r rb i).0 (e s sb j).0 (e c cb l).0 q, off c cb l))),
    (λ q. ⊎_elim (λ (u, _). move3 (λ a b d. T (v.result h a b d)) (sym (e r rb i).0) (sym (e s sb j).0) (sym (e c cb l).0) u)
        (λ (d, _, _, _). absurd (off c cb l d)) ((k.result h (g' r) (g' s) (g' c) (low r rb) (low s sb) (low c cb)).0 q).2),
  )

  ever_go : (h : ℕ) {r s r' s' : ℕ} → r < n → s < n → GrownRegister x r r' → GrownRegister x s s'
      → T ((freshened w f y z).ever h r' s') ↔ T (v'.ever h (g' r) (g' s))
  ever_go h {r} {s} rb sb (here i) j = ((λ u. absurd u), (λ q. absurd (((k.ever h (g' r) (g' s) (low r rb) (low s sb)).0 q).0 (own r i))))
  ever_go h {r} {s} rb sb (there i) (here j) = ((λ u. absurd u), (λ q. absurd (((k.ever h (g' r) (g' s) (low r rb) (low s sb)).0 q).1 (own s j))))
  ever_go h {r} {s} rb sb (there i) (there j) = (
    (λ u. (k.ever h (g' r) (g' s) (low r rb) (low s sb)).1 (
      off r rb i,
      off s sb j,
      ⊎_elim (λ q. inl (move2 (λ a b. T (v.ever h a b)) (e r rb i).0 (e s sb j).0 ((p.ever h r s rb sb).0 q)))
          (λ q. inr ((new_is h r s rb sb i j).0 q)) (or_e (w.ever h r s) (eqb h f && (w.same y r && w.same z s)) u),
    )),
    (λ q. ⊎_elim (λ u. or_l (w.ever h r s) (eqb h f && (w.same y r && w.same z s))
        ((p.ever h r s rb sb).1 (move2 (λ a b. T (v.ever h a b)) (sym (e r rb i).0) (sym (e s sb j).0) u)))
        (λ u. or_r (w.ever h r s) (eqb h f && (w.same y r && w.same z s)) ((new_is h r s rb sb i j).1 u))
        ((k.ever h (g' r) (g' s) (low r rb) (low s sb)).0 q).2),
  )

  pub pulled_applied : Pulled n g' w' v'
  pulled_applied = record {
    same = λ r s rb sb. Iff.trans (t.same r s rb sb) (same_go rb sb (at x r) (at x s));
    apart = λ r s rb sb. Iff.trans (t.apart r s rb sb) (apart_go rb sb (at x r) (at x s));
    result = λ h r s c rb sb cb. Iff.trans (t.result h r s c rb sb cb) (result_go h rb sb cb (at x r) (at x s) (at x c));
    ever = λ h r s rb sb. Iff.trans (t.ever h r s rb sb) (ever_go h rb sb (at x r) (at x s));
  }

-- ---- two slots made one

-- what slot s is called, where slot b is called a
abbrev pub called : ℕ → ℕ → ℕ → ℕ
called a b s = cond (eqb s b) a s

-- the tables with slot b called a
pub record Called (ρ a b : ℕ) (v v' : View) : Type 0 where
  pub apart : (s t : ℕ) → s < ρ → t < ρ
      → T (v'.apart s t) ↔ ((p : ℕ) × (q : ℕ) × (p < ρ) × (q < ρ) × T (v.apart p q) × (called a b p ≡ s) × (called a b q ≡ t))
  pub result : (f s t c : ℕ) → s < ρ → t < ρ → c < ρ
      → T (v'.result f s t c) ↔ ((p : ℕ) × (q : ℕ) × (d : ℕ) × (p < ρ) × (q < ρ) × (d < ρ) × T (v.result f p q d) × (called a b p ≡ s) × (called a b q ≡ t)
      × (called a b d ≡ c))
  pub ever : (f s t : ℕ) → s < ρ → t < ρ
      → T (v'.ever f s t) ↔ ((p : ℕ) × (q : ℕ) × (p < ρ) × (q < ρ) × T (v.ever f p q) × (called a b p ≡ s) × (called a b q ≡ t))

pub called_same : (a b s : ℕ) → s ≡ b → called a b s ≡ a
called_same a b s e = rw (eq-eqb s b e)

pub called_other : (a b s : ℕ) → s ≢ b → called a b s ≡ s
called_other a b s d = rw (ne_eqb s b d)

-- two slots are called the same exactly if they are, or are a and b
called_is : (a b s t : ℕ) → (called a b s ≡ called a b t) ↔ ((s ≡ t) ⊎ (((a ≡ s) ⊎ (b ≡ s)) × ((a ≡ t) ⊎ (b ≡ t))))
called_is a b s t = (
  (λ e. ⊎_elim
      (λ i. ⊎_elim (λ j. inl (i ∙ sym j)) (λ j. inr (inr (sym i), inl (sym (called_same a b s i) ∙ e ∙ called_other a b t j))) (eq_or t b))
      (λ i. ⊎_elim (λ j. inr (inl (sym (sym (called_other a b s i) ∙ e ∙ called_same a b t j)), inr (sym j)))
      (λ j. inl (sym (called_other a b s i) ∙ e ∙ called_other a b t j)) (eq_or t b))
      (eq_or s b)),
  (λ k. ⊎_elim (λ e. ap (called a b) e) (λ (i, j). to_a s i ∙ sym (to_a t j)) k),
)
  where
    to_a : (s : ℕ) → (a ≡ s) ⊎ (b ≡ s) → called a b s ≡ a
    to_a s (inl i) = ⊎_elim (λ j. called_same a b s j) (λ j. called_other a b s j ∙ sym i) (eq_or s b)
    to_a s (inr i) = called_same a b s (sym i)

module _ (ρ n : ℕ) (g g' : ℕ → ℕ) (w w' v v' : View) (p : Pulled n g w v) (c : Clean ρ (Used n g) v) (low : (r : ℕ) → r < n → g r < ρ)
    (low' : (r : ℕ) → r < n → g' r < ρ)
    (x y : ℕ) (xb : x < n) (yb : y < n) (e : (r : ℕ) → r < n → called (g x) (g y) (g r) ≡ g' r) (k : Called ρ (g x) (g y) v v') where
  module _ (m : ClassesMerged n w x y w') where
    in_is : (r : ℕ) → r < n → In n w x y r ↔ ((g x ≡ g r) ⊎ (g y ≡ g r))
    in_is r rb = (
      (λ i. ⊎_elim (λ t. inl ((p.same x r xb rb).0 t)) (λ t. inr ((p.same y r yb rb).0 t)) i),
      (λ i. ⊎_elim (λ t. inl ((p.same x r xb rb).1 t)) (λ t. inr ((p.same y r yb rb).1 t)) i),
    )

    same' : (r s : ℕ) → r < n → s < n → T (w'.same r s) ↔ (g' r ≡ g' s)
    same' r s rb sb = Iff.trans (m.same r s rb sb) (Iff.trans (
      (λ h. ⊎_elim (λ t. inl ((p.same r s rb sb).0 t)) (λ (i, j). inr ((in_is r rb).0 i, (in_is s sb).0 j)) h),
      (λ h. ⊎_elim (λ t. inl ((p.same r s rb sb).1 t)) (λ (i, j). inr ((in_is r rb).1 i, (in_is s sb).1 j)) h),
    ) (Iff.trans (Iff.symm (called_is (g x) (g y) (g r) (g s))) ((λ h. sym (e r rb) ∙ h ∙ e s sb), (λ h. e r rb ∙ h ∙ sym (e s sb)))))

    -- a register of a slot that is called like that of r
    from : (r s t : ℕ) → r < n → s < n → g s ≡ t → called (g x) (g y) t ≡ g' r → T (w'.same s r)
    from r s t rb sb h i = (same' s r sb rb).1 (sym (e s sb) ∙ ap (called (g x) (g y)) h ∙ i)

    pub pulled_merged : Pulled n g' w' v'
    pulled_merged = record {
      same = same';
      apart = λ r s rb sb. Iff.trans (m.apart r s rb sb) (
        (λ (i, j, ib, jb, h, t, u). (k.apart (g' r) (g' s) (low' r rb) (low' s sb)).1
            (g i, g j, low i ib, low j jb, (p.apart i j ib jb).0 h, e i ib ∙ (same' i r ib rb).0 t, e j jb ∙ (same' j s jb sb).0 u)),
        (λ q. let (i, j, ib, jb, h, t, u) = (k.apart (g' r) (g' s) (low' r rb) (low' s sb)).0 q in
            let ((i₀, il, ie), (j₀, jl, je)) = c.apart i j ib jb h in
            (i₀, j₀, il, jl, (p.apart i₀ j₀ il jl).1 (move2 (λ a b. T (v.apart a b)) (sym ie) (sym je) h), from r i₀ i rb il ie t, from s j₀ j sb jl je u)),
      );
      result = λ f r s o rb sb ob. Iff.trans (m.result f r s o rb sb ob) (
        (λ (i, j, l, ib, jb, lb, h, t, u, d). (k.result f (g' r) (g' s) (g' o) (low' r rb) (low' s sb) (low' o ob)).1 (
          g i,
          g j,
          g l,
          low i ib,
          low j jb,
          low l lb,
          (p.result f i j l ib jb lb).0 h,
          e i ib ∙ (same' i r ib rb).0 t,
          e j jb ∙ (same' j s jb sb).0 u,
          e l lb
              ∙ (same' l o lb ob).0 d,
        )),
        (λ q. let (i, j, l, ib, jb, lb, h, t, u, d) = (k.result f (g' r) (g' s) (g' o) (low' r rb) (low' s sb) (low' o ob)).0 q in
            let ((i₀, il, ie), (j₀, jl, je), (l₀, ll, le)) = c.result f i j l ib jb lb h in (
              i₀,
              j₀,
              l₀,
              il,
              jl,
              ll,
              (p.result f i₀ j₀ l₀ il jl ll).1
                  (move3 (λ a b d. T (v.result f a b d)) (sym ie) (sym je) (sym le) h),
              from r i₀ i rb il ie t,
              from s j₀ j sb jl je u,
              from o l₀ l ob ll le d,
            )),
      );
      ever = λ f r s rb sb. Iff.trans (m.ever f r s rb sb) (
        (λ (i, j, ib, jb, h, t, u). (k.ever f (g' r) (g' s) (low' r rb) (low' s sb)).1
            (g i, g j, low i ib, low j jb, (p.ever f i j ib jb).0 h, e i ib ∙ (same' i r ib rb).0 t, e j jb ∙ (same' j s jb sb).0 u)),
        (λ q. let (i, j, ib, jb, h, t, u) = (k.ever f (g' r) (g' s) (low' r rb) (low' s sb)).0 q in
            let ((i₀, il, ie), (j₀, jl, je)) = c.ever f i j ib jb h in
            (i₀, j₀, il, jl, (p.ever f i₀ j₀ il jl).1 (move2 (λ a b. T (v.ever f a b)) (sym ie) (sym je) h), from r i₀ i rb il ie t, from s j₀ j sb jl je u)),
      );
    }

  used_called : (s t : ℕ) → Used n g s → called (g x) (g y) s ≡ t → Used n g' t
  used_called s t (r, rb, h) i = (r, rb, sym (e r rb) ∙ ap (called (g x) (g y)) h ∙ i)

  pub clean_merged : Clean ρ (Used n g') v'
  clean_merged = record {
    apart = λ s t sb tb h. let (i, j, ib, jb, q, d, o) = (k.apart s t sb tb).0 h in let (a, b) = c.apart i j ib jb q in
        (used_called i s a d, used_called j t b o);
    result = λ f s t l sb tb lb h. let (i, j, m, ib, jb, mb, q, d, o, u) = (k.result f s t l sb tb lb).0 h in let (a, b, z) = c.result f i j m ib jb mb q in
        (used_called i s a d, used_called j t b o, used_called m l z u);
    ever = λ f s t sb tb h. let (i, j, ib, jb, q, d, o) = (k.ever f s t sb tb).0 h in let (a, b) = c.ever f i j ib jb q in
        (used_called i s a d, used_called j t b o);
  }

-- ---- a slot that is dropped

pub record Dropped (ρ m : ℕ) (v v' : View) : Type 0 where
  pub apart : (s t : ℕ) → s < ρ → t < ρ → T (v'.apart s t) ↔ ((s ≢ m) × (t ≢ m) × T (v.apart s t))
  pub result : (f s t c : ℕ) → s < ρ → t < ρ → c < ρ → T (v'.result f s t c) ↔ ((s ≢ m) × (t ≢ m) × (c ≢ m) × T (v.result f s t c))
  pub ever : (f s t : ℕ) → s < ρ → t < ρ → T (v'.ever f s t) ↔ ((s ≢ m) × (t ≢ m) × T (v.ever f s t))

pub alike_same : (n : ℕ) (g : ℕ → ℕ) (v : View) → SlotsAlike n g v v
alike_same n g v = record {
  apart = λ r s rb sb. ((λ t. t), (λ t. t));
  result = λ f a b c ab bb cb. ((λ t. t), (λ t. t));
  ever =
      λ f a b ab bb. ((λ t. t), (λ t. t));
}

pub alike_dropped : (ρ n m : ℕ) (g : ℕ → ℕ) (v v' : View) → ((r : ℕ) → r < n → (g r < ρ) × (g r ≢ m)) → Dropped ρ m v v' → SlotsAlike n g v v'
alike_dropped ρ n m g v v' e d = record {
  apart = λ r s rb sb. (
    (λ t. (d.apart (g r) (g s) (e r rb).0 (e s sb).0).1 ((e r rb).1, (e s sb).1, t)),
    (λ t. ((d.apart (g r) (g s) (e r rb).0 (e s sb).0).0 t).2),
  );
  result = λ f a b c ab bb cb. (
    (λ t. (d.result f (g a) (g b) (g c) (e a ab).0 (e b bb).0 (e c cb).0).1 ((e a ab).1, (e b bb).1, (e c cb).1, t)),
    (λ t. ((d.result f (g a) (g b) (g c) (e a ab).0 (e b bb).0 (e c cb).0).0 t).3),
  );
  ever = λ f a b ab bb. (
    (λ t. (d.ever f (g a) (g b) (e a ab).0 (e b bb).0).1 ((e a ab).1, (e b bb).1, t)),
    (λ t. ((d.ever f (g a) (g b) (e a ab).0 (e b bb).0).0 t).2),
  );
}

module _ (ρ m : ℕ) (U U' : ℕ → Type 0) (v v' : View) (c : Clean ρ U v) (keep : (s : ℕ) → s ≢ m → U s → U' s) where
  pub clean_dropped : Dropped ρ m v v' → Clean ρ U' v'
  clean_dropped d = record {
    apart = λ s t sb tb h. let (i, j, q) = (d.apart s t sb tb).0 h in let (a, b) = c.apart s t sb tb q in (keep s i a, keep t j b);
    result = λ f s t o sb tb ob h. let (i, j, l, q) = (d.result f s t o sb tb ob).0 h in let (a, b, u) = c.result f s t o sb tb ob q in
        (keep s i a, keep t j b, keep o l u);
    ever = λ f s t sb tb h. let (i, j, q) = (d.ever f s t sb tb).0 h in let (a, b) = c.ever f s t sb tb q in (keep s i a, keep t j b);
  }

  pub clean_renewed : (f a b : ℕ) → U a → U b → U' m → Renewed ρ f a b m v v' → Clean ρ U' v'
  clean_renewed f a b ua ub um d = record {
    apart = λ s t sb tb h. let (i, j, q) = (d.apart s t sb tb).0 h in let (p, o) = c.apart s t sb tb q in (keep s i p, keep t j o);
    result = λ h s t o sb tb ob k. let (i, j, q) = (d.result h s t o sb tb ob).0 k in ⊎_elim
        (λ (u, l). let (p, r, z) = c.result h s t o sb tb ob u in (keep s i p, keep t j r, keep o l z))
        (λ (l, _, p, r). (keep s i (subst U (sym p) ua), keep t j (subst U (sym r) ub), subst U' (sym l) um)) q;
    ever = λ h s t sb tb k. let (i, j, q) = (d.ever h s t sb tb).0 k in
        ⊎_elim (λ u. let (p, r) = c.ever h s t sb tb u in (keep s i p, keep t j r))
        (λ (_, p, r). (keep s i (subst U (sym p) ua), keep t j (subst U (sym r) ub))) q;
  }

pub clean_kept : (ρ : ℕ) (U U' : ℕ → Type 0) (v : View) → Clean ρ U v → ((s : ℕ) → U s → U' s) → Clean ρ U' v
clean_kept ρ U U' v c keep = record {
  apart = λ s t sb tb h. let (a, b) = c.apart s t sb tb h in (keep s a, keep t b);
  result = λ f s t o sb tb ob h. let (a, b, d) = c.result f s t o sb tb ob h in (keep s a, keep t b, keep o d);
  ever = λ f s t sb tb h. let (a, b) = c.ever f s t sb tb h in (keep s a, keep t b);
}

pub single_dropped : (ρ m : ℕ) (v v' : View) → Single ρ v → Dropped ρ m v v' → Single ρ v'
single_dropped ρ m v v' o d = record {
  one =
      λ f a b c e ab bb cb eb t u. o.one f a b c e ab bb cb eb ((d.result f a b c ab bb cb).0 t).3 ((d.result f a b e ab bb eb).0 u).3;
}

pub single_renewed : (ρ f a b m : ℕ) (v v' : View) → Single ρ v → ((c : ℕ) → c < ρ → ¬ T (v.result f a b c)) → Renewed ρ f a b m v v' → Single ρ v'
single_renewed ρ f a b m v v' o none d =
    record { one = λ h s t c e sb tb cb eb p q. go h s t c e sb tb cb eb ((d.result h s t c sb tb cb).0 p).2 ((d.result h s t e sb tb eb).0 q).2 }
  where
    empty : (h s t c : ℕ) → c < ρ → T (v.result h s t c) → (h ≡ f) × (s ≡ a) × (t ≡ b) → ⊥
    empty h s t c cb u (i, j, l) = none c cb (move3 (λ x y z. T (v.result x y z c)) i j l u)

    go : (h s t c e : ℕ) → s < ρ → t < ρ → c < ρ → e < ρ → (T (v.result h s t c) × (c ≢ m)) ⊎ ((c ≡ m) × (h ≡ f) × (s ≡ a) × (t ≡ b))
        → (T (v.result h s t e) × (e ≢ m)) ⊎ ((e ≡ m) × (h ≡ f) × (s ≡ a) × (t ≡ b)) → c ≡ e
    go h s t c e sb tb cb eb (inl (u, _)) (inl (u', _)) = o.one h s t c e sb tb cb eb u u'
    go h s t c e sb tb cb eb (inl (u, _)) (inr (_, i, j, l)) = absurd (empty h s t c cb u (i, j, l))
    go h s t c e sb tb cb eb (inr (_, i, j, l)) (inl (u, _)) = absurd (empty h s t e eb u (i, j, l))
    go h s t c e sb tb cb eb (inr (i, _, _, _)) (inr (j, _, _, _)) = i ∙ sym j

-- ---- a result that is recorded

-- slot m holds the result of f at slots a and b too, unless it is one of them
pub record Recorded (ρ f a b m : ℕ) (v v' : View) : Type 0 where
  pub apart : (s t : ℕ) → s < ρ → t < ρ → T (v'.apart s t) ↔ T (v.apart s t)
  pub result : (h s t c : ℕ) → s < ρ → t < ρ → c < ρ
      → T (v'.result h s t c) ↔ (T (v.result h s t c) ⊎ ((a ≢ m) × (b ≢ m) × (c ≡ m) × (h ≡ f) × (s ≡ a) × (t ≡ b)))
  pub ever : (h s t : ℕ) → s < ρ → t < ρ → T (v'.ever h s t) ↔ (T (v.ever h s t) ⊎ ((a ≢ m) × (b ≢ m) × (h ≡ f) × (s ≡ a) × (t ≡ b)))

-- in a slot that was dropped
pub renewed_dropped : (ρ f a b m : ℕ) (v u v' : View) → Dropped ρ m v u → Recorded ρ f a b m u v' → Renewed ρ f a b m v v'
renewed_dropped ρ f a b m v u v' d k = record {
  apart = λ s t sb tb. Iff.trans (k.apart s t sb tb) (d.apart s t sb tb);
  result = λ h s t c sb tb cb. Iff.trans (k.result h s t c sb tb cb) (
    (λ q. ⊎_elim (λ o. let (i, j, l, z) = (d.result h s t c sb tb cb).0 o in (i, j, inl (z, l)))
        (λ (i, j, l, o, x, y). ((λ e. i (sym x ∙ e)), (λ e. j (sym y ∙ e)), inr (l, o, x, y))) q),
    (λ (i, j, q). ⊎_elim (λ (o, l). inl ((d.result h s t c sb tb cb).1 (i, j, l, o))) (λ (l, o, x, y). inr ((λ e. i (x ∙ e)), (λ e. j (y ∙ e)), l, o, x, y)) q),
  );
  ever = λ h s t sb tb. Iff.trans (k.ever h s t sb tb) (
    (λ q. ⊎_elim (λ o. let (i, j, z) = (d.ever h s t sb tb).0 o in (i, j, inl z))
        (λ (i, j, o, x, y). ((λ e. i (sym x ∙ e)), (λ e. j (sym y ∙ e)), inr (o, x, y))) q),
    (λ (i, j, q). ⊎_elim (λ o. inl ((d.ever h s t sb tb).1 (i, j, o))) (λ (o, x, y). inr ((λ e. i (x ∙ e)), (λ e. j (y ∙ e)), o, x, y)) q),
  );
}

-- in a slot that was free
pub renewed_free : (ρ f a b m : ℕ) (U : ℕ → Type 0) (v v' : View) → Clean ρ U v → ¬ U m → U a → U b → Recorded ρ f a b m v v' → Renewed ρ f a b m v v'
renewed_free ρ f a b m U v v' c n ua ub k = record {
  apart = λ s t sb tb. Iff.trans (k.apart s t sb tb) ((λ o. let (p, q) = c.apart s t sb tb o in (off s p, off t q, o)), (λ (_, _, o). o));
  result = λ h s t d sb tb db. Iff.trans (k.result h s t d sb tb db) (
    (λ q. ⊎_elim (λ o. let (x, y, z) = c.result h s t d sb tb db o in (off s x, off t y, inl (o, off d z)))
        (λ (i, j, l, o, x, y). ((λ e. i (sym x ∙ e)), (λ e. j (sym y ∙ e)), inr (l, o, x, y))) q),
    (λ (i, j, q). ⊎_elim (λ (o, _). inl o) (λ (l, o, x, y). inr (off a ua, off b ub, l, o, x, y)) q),
  );
  ever = λ h s t sb tb. Iff.trans (k.ever h s t sb tb) (
    (λ q. ⊎_elim (λ o. let (x, y) = c.ever h s t sb tb o in (off s x, off t y, inl o))
        (λ (i, j, o, x, y). ((λ e. i (sym x ∙ e)), (λ e. j (sym y ∙ e)), inr (o, x, y))) q),
    (λ (i, j, q). ⊎_elim inl (λ (o, x, y). inr (off a ua, off b ub, o, x, y)) q),
  );
}
  where
    off : (s : ℕ) → U s → s ≢ m
    off s u e = n (subst U e u)
