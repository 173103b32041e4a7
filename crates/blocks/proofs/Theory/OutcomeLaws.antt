-- The laws of what a reader of statements leaves.
use mathlib.Core.Path.{◌≡◌, refl, sym, ap, subst, ◌∙◌}
use Prim.Native.Nat.{ℕ, ◌+◌, ◌≤◌, ◌<◌}
use native.Mathlib.Omega.{arith}
use mathlib.Core.Bool.{true, false}
use mathlib.Core.List.{List, [], ◌∷◌, ◌++◌, append_assoc, append-nil}
use lib.Dec.{leb}
use lib.ListN.{length, set, take, drop, length-append, take-append-drop}
use lib.Seq.{length-take-le}
use borrow.Author.Tests.{leb-true, leb-false, le-ltb, lt-leb, le-leb}
use Rattle.std.proofs.Common.{Some, None}
use Rattle.base.proofs.Theory.Choice.{by_test}
use Rattle.base.specs.Each.{each}
use Rattle.letters.specs.declared.Letter.{Letter}
use Rattle.grammar.specs.Limits.{most_points}
use Rattle.grammar.specs.Reading.{Got, got, exhausted, and_then}
use Rattle.blocks.specs.Held.{point, Progress, progress, HoldsPoints, unknown, too_many, within}
use Rattle.phrases.specs.declared.Condition.{Condition}
use Rattle.blocks.specs.Outcome.{Fine, ReadAs, Adds, waiting, leading, condition_points, begins, changed_to, forked}
use Rattle.blocks.specs.declared.PointKind.TheVariants.{Step}
use Rattle.blocks.proofs.Theory.Outcome.{with_points, changed, joined, branched, looped}
use Rattle.blocks.proofs.Theory.TableLaws.{over_push}
use Rattle.blocks.specs.declared.PointKind.{PointKind}
use Rattle.blocks.specs.declared.PointEntry.{PointEntry}
use Rattle.blocks.specs.declared.points.Points.{Points}

-- ---- one step

-- at a place, with a count of points in a table
abbrev pub on : ℕ → ℕ → List PointEntry → Progress
on at n ps = record { ok = true; refusal = None; at = at; count = n; points = ps }

-- to another place, with no point more
pub fine_moved : (ps : Points) (a e : ℕ) → Fine (progress a ps) (progress e ps) [] e
fine_moved ps a e = record {
  ok = refl;
  refusal = refl;
  at = refl;
  low = λ l. omega arith;
  high = λ l. omega (arith, ps.counted);
  laid = λ old ds H l. subst (HoldsPoints old (progress e ps)) (sym (append-nil ds))
      (record { size = H.size; count = H.count; points = H.points });
}

module _ (n : ℕ) (ps : List PointEntry) (k : PointKind) (w : Letter) (next : ℕ) where
  -- with one point more
  pub fine_pushed : n < most_points → (a e : ℕ) → Fine (on a n ps) (on e (n + 1) (set ps n (point k w next 0))) (point k w next 0 ∷ []) e
  fine_pushed h a e = record {
    ok = refl;
    refusal = refl;
    at = refl;
    low = λ l. refl;
    high = λ l. absurd (omega arith);
    laid = λ old ds H l. record {
      size = H.size;
      count = let c = H.count in let m = length-append ds (point k w next 0 ∷ []) in omega arith;
      points =
          (λ i. set (H.points i) (H.count i) (point k w next 0))
          ∙ over_push old ds (point k w next 0) (let c = H.count in let m = H.size in omega arith);
    };
  }

  pub fine_full : most_points ≤ n → (a e : ℕ) → Fine (on a n ps) (on e too_many ps) (point k w next 0 ∷ []) e
  fine_full h a e = record {
    ok = refl;
    refusal = refl;
    at = refl;
    low = λ l. absurd (omega arith);
    high = λ l. refl;
    laid = λ old ds H l. absurd (let c = H.count in omega arith);
  }

pub fine_count : {st r : Progress} {ps : List PointEntry} {e : ℕ} → Fine st r ps e → r.count ≤ too_many
fine_count {st} {r} {ps} f = by_test (leb (st.count + length ps) most_points)
    (λ t. let l = leb-true (st.count + length ps) most_points t in omega (arith, f.low l))
    λ t. omega (arith, f.high (leb-false (st.count + length ps) most_points t))

-- some point was read
pub fine_some : {st r : Progress} {ps : List PointEntry} {e : ℕ} → Fine st r ps e → 0 < length ps → 0 < r.count
fine_some {st} {r} {ps} f h = by_test (leb (st.count + length ps) most_points)
    (λ t. let l = leb-true (st.count + length ps) most_points t in omega (arith, f.low l))
    λ t. omega (arith, f.high (leb-false (st.count + length ps) most_points t))

-- one reading behind another: the points of the second are numbered on from those of the first
pub fine_then : {st q r : Progress} {ps qs : List PointEntry} {a e : ℕ} → Fine st q ps a → Fine q r qs e → Fine st r (ps ++ qs) e
fine_then {st} {q} {r} {ps} {qs} f g = record {
  ok = g.ok;
  refusal = g.refusal;
  at = g.at;
  low = λ h. omega (arith, n, f.low (omega (arith, n)), g.low (omega (arith, n, f.low (omega (arith, n)))));
  high = λ h. go (omega (arith, n));
  laid = λ old ds H l. subst (HoldsPoints old r) (append_assoc ds ps qs)
      (g.laid old (ds ++ ps) (f.laid old ds H (omega (arith, n))) (let m = length-append ds ps in omega (arith, n)));
}
  where
    n : length (ps ++ qs) ≡ length ps + length qs
    n = length-append ps qs

    go : most_points < st.count + (length ps + length qs) → r.count ≡ too_many
    go h = by_test (leb (st.count + length ps) most_points)
        (λ t. let l = leb-true (st.count + length ps) most_points t in let c = f.low l in g.high (omega arith))
        λ t. let l = leb-false (st.count + length ps) most_points t in let c = f.high l in g.high (omega arith)

-- points added one after another
pub adds_then : (old mid new : Points) {ps qs : List PointEntry} → Adds old mid ps → Adds mid new qs → Adds old new (ps ++ qs)
adds_then old mid new f g at e = fine_then (f at e) (g e e)

-- the points of a condition
module _ (old mid new : Points) (k : PointKind) (c : Condition) (f : Adds mid new (waiting k c.test ∷ [])) where
  pub adds_posed : {a : Letter} {q : Points} → c.application ≡ Some a → mid ≡ q → Adds old q (point Step a (old.count + 1) 0 ∷ [])
      → Adds old new (condition_points k c old.count)
  adds_posed {a} i j g at e =
      subst (λ o. Fine (progress at old) (progress e new) (leading o old.count ++ waiting k c.test ∷ []) e) (sym i)
      (adds_then old mid new (subst (λ m. Adds old m (point Step a (old.count + 1) 0 ∷ [])) (sym j) g) f at e)

  pub adds_tested : c.application ≡ None → mid ≡ old → Adds old new (condition_points k c old.count)
  adds_tested i j at e =
      subst (λ o. Fine (progress at old) (progress e new) (leading o old.count ++ waiting k c.test ∷ []) e) (sym i)
      (subst (λ m. Fine (progress at m) (progress e new) (waiting k c.test ∷ []) e) j (f at e))

-- ---- a reading that came out well, or not

pub outcome_fine : {A : Type 0} (code : A → ℕ → List PointEntry) (st r : Progress) (g : Got A) → ReadAs code st r g → r.ok ≡ true
    → (a : A) × (e : ℕ) × (g ≡ got a e) × Fine st r (code a st.count) e
outcome_fine code st r (got a e) o h = (a, e, refl, o)
outcome_fine code st r (Got.refused n p) o h = let b = o.ok in let z : ◌≡◌ {A = ℕ} 0 1 = cc in absurd (omega arith)
outcome_fine code st r exhausted o h = absurd o

pub outcome_refused : {A B : Type 0} (code : A → ℕ → List PointEntry) (code' : B → ℕ → List PointEntry) (st st' r : Progress) (g : Got A) (f : A → ℕ → Got B)
    → ReadAs code st r g → r.ok ≡ false → ReadAs code' st' r (and_then g f)
outcome_refused code code' st st' r (got a e) f o h = let k = o.ok in let z : ◌≡◌ {A = ℕ} 0 1 = cc in absurd (omega arith)
outcome_refused code code' st st' r (Got.refused n p) f o h = o
outcome_refused code code' st st' r exhausted f o h = absurd o

-- ---- changes to the table

module _ (q : Progress) (n : ℕ) (ps : List PointEntry) where
  pub changed_none : q.count ≤ most_points → q.count ≤ n → q ≡ changed q n ps
  changed_none h g = rw (le-ltb most_points q.count h, le-leb q.count n g)

  pub changed_some : q.count ≤ most_points → n < q.count → with_points q ps ≡ changed q n ps
  changed_some h g = rw (le-ltb most_points q.count h, lt-leb q.count n g)

-- the same reading, with other points, as many
pub fine_changed : {st q : Progress} {ps : List PointEntry} {e : ℕ} (n : ℕ) (xs qs : List PointEntry) → Fine st q ps e → length qs ≡ length ps
    → ((old ds : List PointEntry) → HoldsPoints old st ds → length ds + length ps ≤ most_points → HoldsPoints old q (ds ++ ps)
    → HoldsPoints old (changed q n xs) (ds ++ qs))
    → Fine st (changed q n xs) qs e
fine_changed {st} {q} {ps} n xs qs f h k = record {
  ok = f.ok;
  refusal = f.refusal;
  at = f.at;
  low = λ l. f.low (omega arith) ∙ ap (λ m. st.count + m) (sym h);
  high = λ l. f.high (omega arith);
  laid = λ old ds H l. k old ds H (omega arith) (f.laid old ds H (omega arith));
}

-- ---- what the changes to the table make of reading

module _ (e : ℕ) (old new : Points) (c : new.count ≡ old.count) where
  table_changed : {ps : List PointEntry} → new.entries ≡ ps → progress e new ≡ with_points (progress e old) ps
  table_changed p = λ i. record { ok = true; refusal = None; at = e; count = c i; points = p i }

  pub points_joined : (from to : ℕ) → new.entries ≡ changed_to old.count to (each (within from to to) old.entries) old.entries
      → progress e new ≡ joined (progress e old) from to
  unfolding joined
  points_joined from to p = table_changed p

  pub points_branched : (test mid : ℕ)
      → new.entries ≡ changed_to old.count test (forked old.entries test (begins (test + 1) mid unknown) (begins mid old.count unknown)) old.entries
      → progress e new ≡ branched (progress e old) test mid
  unfolding branched
  points_branched test mid p = table_changed p

  pub points_looped : (test back : ℕ)
      → new.entries ≡ changed_to old.count test
      (forked (each (within (test + 1) old.count back) old.entries) test (begins (test + 1) old.count back) unknown) old.entries
      → progress e new ≡ looped (progress e old) test back
  unfolding looped
  points_looped test back p = table_changed p

-- ---- what the table holds, whatever stood in it

-- any table of 256 entries holds its first points
pub lent_holds : (st : Progress) → length st.points ≡ most_points → st.count ≤ most_points → HoldsPoints st.points st (take st.count st.points)
lent_holds st h g =
    let n : length (take st.count st.points) ≡ st.count = length-take-le st.count st.points (omega arith) in
    record {
      size = h;
      count = sym n;
      points = sym (take-append-drop st.count st.points) ∙ ap (λ m. take st.count st.points ++ drop m st.points) (sym n);
    }

-- the entries in front of the points read, and those behind them, are as lent
pub fine_points : (st r : Progress) (ps : List PointEntry) (e : ℕ) → Fine st r ps e → length st.points ≡ most_points → st.count + length ps ≤ most_points
    → r.points ≡ take st.count st.points ++ (ps ++ drop (st.count + length ps) st.points)
fine_points st r ps e f h g =
    let front = take st.count st.points in
    let n : length front ≡ st.count = length-take-le st.count st.points (omega arith) in
    let m : length (front ++ ps) ≡ st.count + length ps = length-append front ps ∙ ap (λ k. k + length ps) n in
    (f.laid st.points front (lent_holds st h (omega arith)) (omega arith)).points
    ∙ append_assoc front ps (drop (length (front ++ ps)) st.points)
    ∙ ap (λ k. front ++ (ps ++ drop k st.points)) m
