-- The laws of a range of the points that follow.
use mathlib.Core.Path.{◌≡◌, refl, sym, ap, subst, ◌∙◌}
use mathlib.Core.Logic.{◌≢◌}
use Prim.Native.Nat.{ℕ, zero, suc, ◌+◌, ◌≤◌, ◌<◌}
use native.Mathlib.Omega.{arith}
use native.Mathlib.Numerals.{add-one}
use mathlib.Core.List.{List}
use lib.Dec.{eqb, ltb}
use lib.ListN.{length, get_or}
use borrow.Author.Tests.{lt-ltb, le-ltb, le-leb, lt-leb, ltb-true, ltb-false, eqb-false, ne_eqb}
use Rattle.std.proofs.Common.{max}
use Rattle.std.proofs.Math.Nat.{max-le}
use Rattle.std.proofs.Math.ListN.{get_or-eq_default}
use Rattle.base.proofs.Theory.Choice.{by_test}
use Rattle.base.specs.Each.{each, each_up_to}
use Rattle.base.proofs.Theory.Each.{each_none, each_skip, each_all, each_at, each_length}
use Rattle.grammar.specs.Limits.{most_points}
use Rattle.blocks.specs.Followed.{Followed, FollowedBelow}
use Rattle.blocks.specs.Held.{unknown, unused_point, backpatched, redirected, within}
use Rattle.blocks.specs.Outcome.{changed_to}
use Rattle.blocks.specs.declared.PointEntry.{PointEntry}

-- ---- a range

module _ (from to f : ℕ) where
  -- nothing changes before the range
  pub range_begun : (xs : List PointEntry) → xs ≡ each_up_to (within from to f) from xs
  range_begun xs = go from (omega arith)
    where
      go : (k : ℕ) → k ≤ from → xs ≡ each_up_to (within from to f) k xs
      go zero h = each_none (within from to f) xs
      go (suc k) h =
          let same : get_or xs k unused_point ≡ within from to f k (get_or xs k unused_point) = rw (lt-ltb k from (omega arith)) refl in
          each_skip (within from to f) k xs xs unused_point (go k (omega arith)) same ∙ ap (λ n. each_up_to (within from to f) n xs) (add-one k)

  pub range_turn : (i : ℕ) (p u : PointEntry) → from ≤ i → i < to → u ≡ redirected f p → u ≡ within from to f i p
  range_turn i p u h g e = rw (le-ltb i from h, lt-ltb i to g) e

  -- nor a point that others are known to follow
  stays : (i : ℕ) (p : PointEntry) → (from ≤ i → Followed p) → p ≡ within from to f i p
  stays i p h = by_test (ltb i from) (λ t. rw t refl)
      (λ t.
      let k = h (ltb-false i from t) in
      by_test (ltb i to) (λ u. rw (t, u, ne_eqb p.first unknown k.0, ne_eqb p.second unknown k.1) refl) (λ u. rw (t, u) refl))

  -- so the range may begin where what follows is not known
  pub range_known : (n : ℕ) (xs : List PointEntry) → FollowedBelow n xs → xs ≡ each_up_to (within from to f) (max from n) xs
  range_known n xs h = go (max from n) (omega arith)
    where
      go : (k : ℕ) → k ≤ max from n → xs ≡ each_up_to (within from to f) k xs
      go zero l = each_none (within from to f) xs
      go (suc k) l =
          let below : from ≤ k → k < n = λ q. by_test (ltb k n) (λ t. ltb-true k n t)
          (λ t. let z = max-le q (ltb-false k n t) in absurd (omega (arith, l, z))) in
          let same : get_or xs k unused_point ≡ within from to f k (get_or xs k unused_point) =
          stays k (get_or xs k unused_point) (λ q. h k (below q)) in
          each_skip (within from to f) k xs xs unused_point (go k (omega arith)) same ∙ ap (λ n. each_up_to (within from to f) n xs) (add-one k)

  -- nor behind it
  pub range_ended : (xs ys : List PointEntry) (i : ℕ) → from ≤ i → to ≤ i → ys ≡ each_up_to (within from to f) i xs → ys ≡ each (within from to f) xs
  range_ended xs ys i h g e = go (length xs) i h g (omega arith) e
    where
      go : (m k : ℕ) → from ≤ k → to ≤ k → length xs ≤ k + m → ys ≡ each_up_to (within from to f) k xs → ys ≡ each (within from to f) xs
      go zero k h g l e = e ∙ each_all (within from to f) k xs (omega arith)
      go (suc m) k h g l e =
          let same : get_or ys k unused_point ≡ within from to f k (get_or ys k unused_point) = rw (le-ltb k from h, le-ltb k to g) refl in
          go m (k + 1) (omega arith) (omega arith) (omega arith) (each_skip (within from to f) k xs ys unused_point e same)

  -- behind which what follows is known
  pub range_followed : (n : ℕ) (xs ys : List PointEntry) → from ≤ n → f ≢ unknown → FollowedBelow n ys → ys ≡ each (within from to f) xs
      → FollowedBelow (max n to) ys
  range_followed n xs ys l g h e i b = by_test (ltb i n) (λ t. h i (ltb-true i n t)) (λ t. inside (ltb-false i n t))
    where
      put : (n : ℕ) → backpatched f n ≢ unknown
      put n = by_test (eqb n unknown) (λ t. rw t g) (λ t. rw t (eqb-false n unknown t))

      long : length (each (within from to f) xs) ≡ length xs
      long = sym (ap length (each_all (within from to f) (length xs) xs (omega arith))) ∙ each_length (within from to f) (length xs) xs

      inside : n ≤ i → Followed (get_or ys i unused_point)
      inside q =
          let r : i < to = by_test (ltb i to) (λ t. ltb-true i to t) (λ t. let z = max-le q (ltb-false i to t) in absurd (omega (arith, b, z))) in
          by_test (ltb i (length xs))
          (λ t.
          let at : get_or ys i unused_point ≡ redirected f (get_or xs i unused_point) =
          ap (λ ys. get_or ys i unused_point) e ∙ each_at (within from to f) i xs unused_point (ltb-true i (length xs) t)
          ∙ rw (le-ltb i from (omega (arith, l, q)), lt-ltb i to r) refl in
          subst Followed (sym at) (put (get_or xs i unused_point).first, put (get_or xs i unused_point).second))
          (λ t.
          let past : length ys ≤ i = let z = ltb-false i (length xs) t in let w = ap length e in omega (arith, z, w, long) in
          subst Followed (sym (get_or-eq_default ys unused_point past)) ((λ z. absurd (omega (arith, z))), λ z. absurd (omega (arith, z))))

-- ---- a change to what follows

module _ {A : Type 0} (count n : ℕ) (new old : A) where
  pub change_high : most_points < count → old ≡ changed_to count n new old
  change_high h = rw (lt-ltb most_points count h)

  pub change_none : count ≤ most_points → count ≤ n → old ≡ changed_to count n new old
  change_none h g = rw (le-ltb most_points count h, le-leb count n g)

  pub change_some : count ≤ most_points → n < count → (x : A) → x ≡ new → x ≡ changed_to count n new old
  change_some h g x e = rw (le-ltb most_points count h, lt-leb count n g) e
