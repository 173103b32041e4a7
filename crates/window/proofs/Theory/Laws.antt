-- What is true of every window of a state, in the window's own words.
use mathlib.Core.Logic.{inl, inr, ⊎_elim}
use Prim.Native.Nat.{ℕ, ◌<◌}
use lib.Dec.{T}
use Rattle.semantics.specs.Terms.{Term, State}
use Rattle.semantics.specs.Closure.{Equivalent, reflexive, symmetric, transitive}
use Rattle.semantics.specs.View.{View, Tracks}
use Rattle.semantics.specs.Facts.{Valid}
use Rattle.semantics.proofs.Theory.Climb.{Climb, from, up, above_climbs, climbs_above}

pub record Laws (n : ℕ) (w : View) : Type 0 where
  pub self : (r : ℕ) → r < n → T (w.same r r)
  pub turned : (r s : ℕ) → r < n → s < n → T (w.same r s) → T (w.same s r)
  pub joined : (r s q : ℕ) → r < n → s < n → q < n → T (w.same r s) → T (w.same s q) → T (w.same r q)
  pub result : (f a b c a' b' c' : ℕ) → a < n → b < n → c < n → a' < n → b' < n → c' < n
      → T (w.result f a b c) → T (w.same a a') → T (w.same b b') → T (w.same c c') → T (w.result f a' b' c')
  pub ever : (f a b a' b' : ℕ) → a < n → b < n → a' < n → b' < n → T (w.ever f a b) → T (w.same a a') → T (w.same b b') → T (w.ever f a' b')
  pub apart : (a b a' b' : ℕ) → a < n → b < n → a' < n → b' < n → T (w.apart a b) → T (w.same a a') → T (w.same b b') → T (w.apart a' b')

pub laws_of : (σ : State) → Valid σ → (w : View) → Tracks σ w → Laws σ.header.registers w
laws_of σ v w t = record {
  self = λ r b. (t.same r r b b).1 (reflexive (v.values r b));
  turned = λ r s rb sb c. (t.same s r sb rb).1 (symmetric ((t.same r s rb sb).0 c));
  joined = λ r s q rb sb qb c d. (t.same r q rb qb).1 (transitive ((t.same r s rb sb).0 c) ((t.same s q sb qb).0 d));
  result = λ f a b c a' b' c' ab bb cb ab' bb' cb' m i j k.
      let e = (t.result f a b c ab bb cb).0 m in
      (t.result f a' b' c' ab' bb' cb').1 (record {
        first = e.first;
        second = e.second;
        listed = e.listed;
        at_first = transitive e.at_first ((t.same a a' ab ab').0 i);
        at_second = transitive e.at_second ((t.same b b' bb bb').0 j);
        gives = transitive e.gives ((t.same c c' cb cb').0 k);
      });
  ever = λ f a b a' b' ab bb ab' bb' m i j.
      let (s, e) = (t.ever f a b ab bb).0 m in
      (t.ever f a' b' ab' bb').1 (
        s,
        record {
          first = e.first;
          second = e.second;
          listed = e.listed;
          at_first = transitive e.at_first ((t.same a a' ab ab').0 i);
          at_second = transitive e.at_second ((t.same b b' bb bb').0 j);
          gives = e.gives;
        },
      );
  apart = λ a b a' b' ab bb ab' bb' m i j.
      let (g, e) = (t.apart a b ab bb).0 m in
      (t.apart a' b' ab' bb').1 (
        g,
        record {
          left = e.left;
          right = e.right;
          tested = e.tested;
          at_left = transitive e.at_left ((t.same a a' ab ab').0 i);
          at_right = transitive e.at_right ((t.same b b' bb bb').0 j);
        },
      );
}

-- what is true of the window of a state, and not of every window that obeys the laws: a class has one mark
pub record Sound (n : ℕ) (w : View) : Type 0 where
  pub marked : (r s : ℕ) → r < n → s < n → T (w.marked r) → T (w.same r s) → T (w.marked s)

-- what lies above a term lies above an equal one
climb_same : (σ : State) {s t u : Term} → Equivalent σ s t → Climb σ.terms σ.equals s u → Climb σ.terms σ.equals t u
climb_same σ e (from c) = from (transitive (symmetric e) c)
climb_same σ e (up k l h c) = up (climb_same σ e k) l h c

pub sound_of : (σ : State) (w : View) → Tracks σ w → Sound σ.header.registers w
sound_of σ w t = record {
  marked = λ r s rb sb m i.
      let e = (t.marked r rb).0 m in
      let q = (t.same r s rb sb).0 i in
      (t.marked s sb).1 (record {
        function = e.function;
        first = e.first;
        second = e.second;
        listed = e.listed;
        above = climbs_above (⊎_elim (λ k. inl (climb_same σ q k)) (λ k. inr (climb_same σ q k)) (above_climbs e.above));
        unheld = e.unheld;
      });
}
