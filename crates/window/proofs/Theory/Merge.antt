-- Two classes made one, and the local closure by such steps, in the window's words.
use mathlib.Core.Logic.Iff
use mathlib.Core.Logic.{◌⊎◌, inl, inr, ◌↔◌, ⊎_elim}
use Prim.Native.Nat.{ℕ, ◌<◌}
use lib.Dec.{T}
use Rattle.semantics.specs.View.{View}
use Rattle.semantics.proofs.Theory.Steps.{Joined, alike, test, turn', join', lift'}
use Rattle.window.proofs.Theory.Laws.{Laws}

module _ (n : ℕ) (w : View) (a b : ℕ) where
  abbrev pub In : ℕ → Type 0
  In r = T (w.same a r) ⊎ T (w.same b r)

  -- w' is w with the classes of a and b made one: its tables are the images of those of w
  pub record ClassesMerged (w' : View) : Type 0 where
    pub same : (r s : ℕ) → r < n → s < n → T (w'.same r s) ↔ (T (w.same r s) ⊎ (In r × In s))
    pub apart : (r s : ℕ) → r < n → s < n → T (w'.apart r s) ↔ ((p : ℕ) × (q : ℕ) × (p < n) × (q < n) × T (w.apart p q) × T (w'.same p r) × T (w'.same q s))
    pub result : (f r s c : ℕ) → r < n → s < n → c < n
        → T (w'.result f r s c) ↔ ((p : ℕ) × (q : ℕ) × (d : ℕ) × (p < n) × (q < n) × (d < n) × T (w.result f p q d) × T (w'.same p r) × T (w'.same q s)
        × T (w'.same d c))
    pub ever : (f r s : ℕ) → r < n → s < n
        → T (w'.ever f r s) ↔ ((p : ℕ) × (q : ℕ) × (p < n) × (q < n) × T (w.ever f p q) × T (w'.same p r) × T (w'.same q s))
    pub marked : (r : ℕ) → r < n → T (w'.marked r) ↔ T (w.marked r)
    pub infeasible : T w'.infeasible ↔ T w.infeasible

  module _ (g : Laws n w) (ab : a < n) (bb : b < n) (w' : View) (m : ClassesMerged w') where
    in_same : {r s : ℕ} → r < n → s < n → T (w.same r s) → In r → In s
    in_same {r} {s} rb sb k (inl i) = inl (g.joined a r s ab rb sb i k)
    in_same {r} {s} rb sb k (inr i) = inr (g.joined b r s bb rb sb i k)

    self' : (r : ℕ) → r < n → T (w'.same r r)
    self' r rb = (m.same r r rb rb).1 (inl (g.self r rb))

    turned' : (r s : ℕ) → r < n → s < n → T (w'.same r s) → T (w'.same s r)
    turned' r s rb sb t = (m.same s r sb rb).1 (⊎_elim (λ k. inl (g.turned r s rb sb k)) (λ (p, q). inr (q, p)) ((m.same r s rb sb).0 t))

    joined' : (r s q : ℕ) → r < n → s < n → q < n → T (w'.same r s) → T (w'.same s q) → T (w'.same r q)
    joined' r s q rb sb qb t u = (m.same r q rb qb).1 (go ((m.same r s rb sb).0 t) ((m.same s q sb qb).0 u))
      where
        go : T (w.same r s) ⊎ (In r × In s) → T (w.same s q) ⊎ (In s × In q) → T (w.same r q) ⊎ (In r × In q)
        go (inl k) (inl l) = inl (g.joined r s q rb sb qb k l)
        go (inl k) (inr (i, j)) = inr (in_same sb rb (g.turned r s rb sb k) i, j)
        go (inr (i, j)) (inl l) = inr (i, in_same sb qb l j)
        go (inr (i, j)) (inr (i', j')) = inr (i, j')

    pub laws_merged : Laws n w'
    laws_merged = record {
      self = self';
      turned = turned';
      joined = joined';
      result = λ f r s c r' s' c' rb sb cb rb' sb' cb' t i j k.
          let (p, q, d, pb, qb, db, h, i₀, j₀, k₀) = (m.result f r s c rb sb cb).0 t in
          (m.result f r' s' c' rb' sb' cb').1
          (p, q, d, pb, qb, db, h, joined' p r r' pb rb rb' i₀ i, joined' q s s' qb sb sb' j₀ j, joined' d c c' db cb cb' k₀ k);
      ever = λ f r s r' s' rb sb rb' sb' t i j.
          let (p, q, pb, qb, h, i₀, j₀) = (m.ever f r s rb sb).0 t in
          (m.ever f r' s' rb' sb').1 (p, q, pb, qb, h, joined' p r r' pb rb rb' i₀ i, joined' q s s' qb sb sb' j₀ j);
      apart = λ r s r' s' rb sb rb' sb' t i j.
          let (p, q, pb, qb, h, i₀, j₀) = (m.apart r s rb sb).0 t in
          (m.apart r' s' rb' sb').1 (p, q, pb, qb, h, joined' p r r' pb rb rb' i₀ i, joined' q s s' qb sb sb' j₀ j);
    }

-- w is on the way from w₀ to its local closure by the test of x and y
pub record Joining (n : ℕ) (w₀ : View) (x y : ℕ) (w : View) : Type 0 where
  pub laws : Laws n w
  pub same_e : (r s : ℕ) → r < n → s < n → T (w.same r s) → Joined n w₀ x y r s
  pub apart_e : (r s : ℕ) → r < n → s < n → T (w.apart r s)
      → (p : ℕ) × (q : ℕ) × (p < n) × (q < n) × T (w₀.apart p q) × Joined n w₀ x y p r × Joined n w₀ x y q s
  pub result_e : (f r s c : ℕ) → r < n → s < n → c < n → T (w.result f r s c)
      → (p : ℕ) × (q : ℕ) × (d : ℕ) × (p < n) × (q < n) × (d < n) × T (w₀.result f p q d) × Joined n w₀ x y p r × Joined n w₀ x y q s × Joined n w₀ x y d c
  pub ever_e : (f r s : ℕ) → r < n → s < n → T (w.ever f r s)
      → (p : ℕ) × (q : ℕ) × (p < n) × (q < n) × T (w₀.ever f p q) × Joined n w₀ x y p r × Joined n w₀ x y q s
  pub same_i : (r s : ℕ) → r < n → s < n → T (w₀.same r s) → T (w.same r s)
  pub apart_i : (r s : ℕ) → r < n → s < n → T (w₀.apart r s) → T (w.apart r s)
  pub result_i : (f r s c : ℕ) → r < n → s < n → c < n → T (w₀.result f r s c) → T (w.result f r s c)
  pub ever_i : (f r s : ℕ) → r < n → s < n → T (w₀.ever f r s) → T (w.ever f r s)
  pub marked : (r : ℕ) → r < n → T (w.marked r) ↔ T (w₀.marked r)
  pub infeasible : T w.infeasible ↔ T w₀.infeasible

pub joining_none : (n : ℕ) (w : View) (x y : ℕ) → Laws n w → Joining n w x y w
joining_none n w x y g = record {
  laws = g;
  same_e = λ r s rb sb t. alike rb sb t;
  apart_e = λ r s rb sb t. (r, s, rb, sb, t, alike rb rb (g.self r rb), alike sb sb (g.self s sb));
  result_e = λ f r s c rb sb cb t. (r, s, c, rb, sb, cb, t, alike rb rb (g.self r rb), alike sb sb (g.self s sb), alike cb cb (g.self c cb));
  ever_e = λ f r s rb sb t. (r, s, rb, sb, t, alike rb rb (g.self r rb), alike sb sb (g.self s sb));
  same_i = λ r s rb sb t. t;
  apart_i = λ r s rb sb t. t;
  result_i = λ f r s c rb sb cb t. t;
  ever_i = λ f r s rb sb t. t;
  marked = λ r rb. ((λ t. t), (λ t. t));
  infeasible = ((λ t. t), (λ t. t));
}

module _ (n : ℕ) (w₀ : View) (x y : ℕ) (w : View) (j : Joining n w₀ x y w) (a b : ℕ) (ab : a < n) (bb : b < n) (l : Joined n w₀ x y a b) (w' : View)
    (m : ClassesMerged n w a b w') where
  to_a : {r : ℕ} → r < n → In n w a b r → Joined n w₀ x y a r
  to_a {r} rb (inl t) = j.same_e a r ab rb t
  to_a {r} rb (inr t) = join' l (j.same_e b r bb rb t)

  link : (r s : ℕ) → r < n → s < n → T (w'.same r s) → Joined n w₀ x y r s
  link r s rb sb t = ⊎_elim (λ k. j.same_e r s rb sb k) (λ (i, i'). join' (turn' (to_a rb i)) (to_a sb i')) ((m.same r s rb sb).0 t)

  pub joining_more : Joining n w₀ x y w'
  joining_more =
      let g = laws_merged n w a b j.laws ab bb w' m in
      record {
        laws = g;
        same_e = link;
        apart_e = λ r s rb sb t.
            let (p, q, pb, qb, h, i, k) = (m.apart r s rb sb).0 t in
            let (p₀, q₀, pb₀, qb₀, h₀, i₀, k₀) = j.apart_e p q pb qb h in
            (p₀, q₀, pb₀, qb₀, h₀, join' i₀ (link p r pb rb i), join' k₀ (link q s qb sb k));
        result_e = λ f r s c rb sb cb t.
            let (p, q, d, pb, qb, db, h, i, k, o) = (m.result f r s c rb sb cb).0 t in
            let (p₀, q₀, d₀, pb₀, qb₀, db₀, h₀, i₀, k₀, o₀) = j.result_e f p q d pb qb db h in
            (p₀, q₀, d₀, pb₀, qb₀, db₀, h₀, join' i₀ (link p r pb rb i), join' k₀ (link q s qb sb k), join' o₀ (link d c db cb o));
        ever_e = λ f r s rb sb t.
            let (p, q, pb, qb, h, i, k) = (m.ever f r s rb sb).0 t in
            let (p₀, q₀, pb₀, qb₀, h₀, i₀, k₀) = j.ever_e f p q pb qb h in
            (p₀, q₀, pb₀, qb₀, h₀, join' i₀ (link p r pb rb i), join' k₀ (link q s qb sb k));
        same_i = λ r s rb sb t. (m.same r s rb sb).1 (inl (j.same_i r s rb sb t));
        apart_i = λ r s rb sb t. (m.apart r s rb sb).1 (r, s, rb, sb, j.apart_i r s rb sb t, g.self r rb, g.self s sb);
        result_i = λ f r s c rb sb cb t. (m.result f r s c rb sb cb).1
            (r, s, c, rb, sb, cb, j.result_i f r s c rb sb cb t, g.self r rb, g.self s sb, g.self c cb);
        ever_i = λ f r s rb sb t. (m.ever f r s rb sb).1 (r, s, rb, sb, j.ever_i f r s rb sb t, g.self r rb, g.self s sb);
        marked = λ r rb. Iff.trans (m.marked r rb) (j.marked r rb);
        infeasible = Iff.trans m.infeasible j.infeasible;
      }

-- a window on the way in which the test holds and no result is in two classes is the local closure; what is left is to judge it
module _ (n : ℕ) (w₀ : View) (x y : ℕ) (xb : x < n) (yb : y < n) (w : View) (j : Joining n w₀ x y w) (t : T (w.same x y))
    (stable : (f r s c d : ℕ) → r < n → s < n → c < n → d < n → T (w.result f r s c) → T (w.result f r s d) → T (w.same c d)) where
  closed : {r s : ℕ} → Joined n w₀ x y r s → (r < n) × (s < n) × T (w.same r s)
  closed (alike {r} {s} rb sb k) = (rb, sb, j.same_i r s rb sb k)
  closed test = (xb, yb, t)
  closed {r} {s} (turn' k) = let (p, q, u) = closed k in (q, p, j.laws.turned s r p q u)
  closed {r} {s} (join' {s = o} k l) = let (p, q, u) = closed k in let (p', q', u') = closed l in (p, q', j.laws.joined r o s p q q' u u')
  closed {r} {s} (lift' f {a} {b} {c} {d} rb sb h i k l) =
      let (ab, cb, u) = closed k in
      let (bb, db, v) = closed l in
      let h' = j.result_i f a b r ab bb rb h in
      let i' = j.laws.result f c d s a b s cb db sb ab bb sb (j.result_i f c d s cb db sb i) (j.laws.turned a c ab cb u) (j.laws.turned b d bb db v)
      (j.laws.self s sb) in
      (rb, sb, stable f a b r s ab bb rb sb h' i')

  pub same_joined : (r s : ℕ) → r < n → s < n → T (w.same r s) ↔ Joined n w₀ x y r s
  same_joined r s rb sb = (j.same_e r s rb sb, λ k. (closed k).2)

  pub result_joined : (f r s c : ℕ) → r < n → s < n → c < n
      → T (w.result f r s c) ↔ ((p : ℕ) × (q : ℕ) × (d : ℕ) × (p < n) × (q < n) × (d < n) × T (w₀.result f p q d) × Joined n w₀ x y p r × Joined n w₀ x y q s
      × Joined n w₀ x y d c)
  result_joined f r s c rb sb cb = (
    j.result_e f r s c rb sb cb,
    λ (p, q, d, pb, qb, db, h, i, k, o).
        j.laws.result f p q d r s c pb qb db rb sb cb (j.result_i f p q d pb qb db h) (closed i).2 (closed k).2 (closed o).2,
  )

  pub ever_joined : (f r s : ℕ) → r < n → s < n
      → T (w.ever f r s) ↔ ((p : ℕ) × (q : ℕ) × (p < n) × (q < n) × T (w₀.ever f p q) × Joined n w₀ x y p r × Joined n w₀ x y q s)
  ever_joined f r s rb sb = (
    j.ever_e f r s rb sb,
    λ (p, q, pb, qb, h, i, k). j.laws.ever f p q r s pb qb rb sb (j.ever_i f p q pb qb h) (closed i).2
        (closed k).2,
  )

  pub apart_joined : (r s : ℕ) → r < n → s < n
      → T (w.apart r s) ↔ ((p : ℕ) × (q : ℕ) × (p < n) × (q < n) × T (w₀.apart p q) × Joined n w₀ x y p r × Joined n w₀ x y q s)
  apart_joined r s rb sb = (
    j.apart_e r s rb sb,
    λ (p, q, pb, qb, h, i, k). j.laws.apart p q r s pb qb rb sb (j.apart_i p q pb qb h) (closed i).2
        (closed k).2,
  )
