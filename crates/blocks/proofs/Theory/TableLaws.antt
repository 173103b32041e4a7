-- The laws of the table of points: a point more, a point anew, and a range with something else that follows.
use mathlib.Core.Path.{◌≡◌, refl, sym, ap, ◌∙◌}
use Prim.Native.Nat.{ℕ, zero, suc, ◌+◌, ◌-◌, ◌≤◌, ◌<◌}
use native.Mathlib.Omega.{arith}
use mathlib.Core.List.{List, [], ◌∷◌, ◌++◌, map, append_assoc}
use lib.ListN.{length, get_or, set, drop, replicate, length-append, length-map}
use borrow.Author.Tests.{lt-ltb, le-ltb}
use Rattle.base.specs.Each.{each, each_from}
use Rattle.base.proofs.Theory.Each.{each_all, each_at, each_length}
use native.Mathlib.Nat.{add-suc, suc-add, add-zero, zero-add, sub-zero, zero-sub, suc-sub-suc}
use lib.Seq.{ext_get_or, drop-cons, set-append_seam, get_or-append_seam}
use Rattle.grammar.specs.Limits.{most_points}
use Rattle.blocks.specs.Held.{point, point_table, points_over, unused_point, redirected, within}
use Rattle.blocks.specs.Outcome.{forked}
use Rattle.blocks.specs.declared.PointEntry.{PointEntry}

pub map-append : {A B : Type 0} (f : A → B) (l m : List A) → map f (l ++ m) ≡ map f l ++ map f m
map-append f [] m = refl
map-append f (x ∷ l) m = ap (λ l. f x ∷ l) (map-append f l m)

-- the next entry behind the points
pub over_push : (old ds : List PointEntry) (p : PointEntry) → length ds < length old → set (points_over old ds) (length ds) p ≡ points_over old (ds ++ p ∷ [])
over_push old ds p h =
    let e : length (ds ++ p ∷ []) ≡ suc (length ds) = length-append ds (p ∷ []) ∙ one_more (length ds) in
    ap (λ l. set (ds ++ l) (length ds) p) (drop-cons old (length ds) unused_point h)
    ∙ set-append_seam ds (get_or old (length ds) unused_point) (drop (suc (length ds)) old) p
    ∙ sym (append_assoc ds (p ∷ []) (drop (suc (length ds)) old))
    ∙ ap (λ n. (ds ++ p ∷ []) ++ drop n old) (sym e)
  where
    one_more : (n : ℕ) → n + 1 ≡ suc n
    one_more n = omega arith

-- lists of one length, over the same table
over_same : (old ds es : List PointEntry) → length ds ≡ length es → points_over old ds ≡ ds ++ drop (length es) old
over_same old ds es h = ap (λ n. ds ++ drop n old) h

-- a point in the table, followed by a and b
pub over_forked : (old ds bs : List PointEntry) (x : PointEntry) (a b : ℕ)
    → forked (points_over old (ds ++ x ∷ bs)) (length ds) a b ≡ points_over old (ds ++ point x.kind x.letter a b ∷ bs)
over_forked old ds bs x a b =
    let y = point x.kind x.letter a b in
    let m = length-append ds (x ∷ bs) in
    let n = length-append ds (y ∷ bs) in
    let e : length (ds ++ x ∷ bs) ≡ length (ds ++ y ∷ bs) = omega arith in
    let rest = drop (length (ds ++ y ∷ bs)) old in
    ap (λ l. forked l (length ds) a b) (over_same old (ds ++ x ∷ bs) (ds ++ y ∷ bs) e ∙ append_assoc ds (x ∷ bs) rest)
    ∙ ap (λ z. set (ds ++ x ∷ (bs ++ rest)) (length ds) (point z.kind z.letter a b)) (get_or-append_seam ds x (bs ++ rest) unused_point)
    ∙ set-append_seam ds x (bs ++ rest) y
    ∙ sym (append_assoc ds (y ∷ bs) rest)

-- ---- a range

module _ (from to f : ℕ) where
  behind : (i : ℕ) (l : List PointEntry) → from ≤ i → to ≤ i → each_from (within from to f) i l ≡ l
  unfolding each_from
  behind i [] h g = refl
  behind i (x ∷ l) h g = rw (le-ltb i from h, le-ltb i to g) (ap (λ l. x ∷ l) (behind (suc i) l (omega arith) (omega arith)))

  inside : (i : ℕ) (mid post : List PointEntry) → from ≤ i → i + length mid ≡ to → each_from (within from to f) i (mid ++ post) ≡ map (redirected f) mid ++ post
  unfolding each_from
  inside i [] post h g = behind i post h (omega arith)
  inside i (x ∷ mid) post h g = rw (le-ltb i from h, lt-ltb i to (omega arith))
      (ap (λ l. redirected f x ∷ l) (inside (suc i) mid post (omega arith) (omega arith)))

  before : (i : ℕ) (pre mid post : List PointEntry) → i + length pre ≡ from → from + length mid ≡ to
      → each_from (within from to f) i (pre ++ (mid ++ post)) ≡ pre ++ (map (redirected f) mid ++ post)
  unfolding each_from
  before i [] mid post h g = inside i mid post (omega arith) (omega arith)
  before i (x ∷ pre) mid post h g = rw (lt-ltb i from (omega arith)) (ap (λ l. x ∷ l) (before (suc i) pre mid post (omega arith) g))

each-from : {A : Type 0} (g : ℕ → A → A) (d : A) (xs : List A) → each g xs ≡ each_from g 0 xs
unfolding each_from
each-from {A = A} g d xs =
    let n : length (each g xs) ≡ length xs = sym (ap length (each_all g (length xs) xs (omega arith))) ∙ each_length g (length xs) xs in
    ext_get_or d (each g xs) (each_from g 0 xs) (n ∙ sym (from_length 0 xs)) λ k h. each_at g k xs d (omega arith) ∙ ap (λ i. g i (get_or xs k d))
    (sym (zero-add k))
    ∙ sym (from_at 0 k xs (omega arith))
  where
    from_length : (i : ℕ) (xs : List A) → length (each_from g i xs) ≡ length xs
    from_length i [] = refl
    from_length i (x ∷ xs) = ap suc (from_length (suc i) xs)

    from_at : (i k : ℕ) (xs : List A) → k < length xs → get_or (each_from g i xs) k d ≡ g (i + k) (get_or xs k d)
    from_at i k [] h = absurd (omega arith)
    from_at i zero (x ∷ xs) h = rw add-zero
    from_at i (suc k) (x ∷ xs) h = from_at (suc i) k xs (omega arith) ∙ ap (λ m. g m (get_or xs k d)) (suc-add i k ∙ sym (add-suc i k))

-- the points ps of a table with f for what follows them
pub over_range : (old ds ps qs : List PointEntry) (from to f : ℕ) → length ds ≡ from → from + length ps ≡ to
    → each (within from to f) (points_over old (ds ++ (ps ++ qs))) ≡ points_over old (ds ++ (map (redirected f) ps ++ qs))
over_range old ds ps qs from to f h g =
    let a = length-append ds (ps ++ qs) in let b = length-append ps qs in
    let ts = map (redirected f) ps in
    let c = length-append ds (ts ++ qs) in let d = length-append ts qs in let m = length-map ps (redirected f) in
    let e : length (ds ++ (ps ++ qs)) ≡ length (ds ++ (ts ++ qs)) = omega arith in
    let rest = drop (length (ds ++ (ts ++ qs))) old in
    each-from (within from to f) unused_point (points_over old (ds ++ (ps ++ qs)))
    ∙ ap (each_from (within from to f) 0)
    (over_same old (ds ++ (ps ++ qs)) (ds ++ (ts ++ qs)) e ∙ append_assoc ds (ps ++ qs) rest ∙ ap (λ l. ds ++ l) (append_assoc ps qs rest))
    ∙ before from to f 0 ds ps (qs ++ rest) (omega arith) g
    ∙ sym (append_assoc ds (ts ++ qs) rest ∙ ap (λ l. ds ++ l) (append_assoc ts qs rest))

-- ---- a table of points

-- points over a table without points
pub over_table : (ds : List PointEntry) → points_over (replicate most_points unused_point) ds ≡ point_table ds
over_table ds = ap (λ l. ds ++ l) (drop_replicate most_points (length ds))
  where
    drop_replicate : (n k : ℕ) → drop k (replicate n unused_point) ≡ replicate (n - k) unused_point
    drop_replicate n zero = ap (λ m. replicate m unused_point) (sym (sub-zero n))
    drop_replicate zero (suc k) = ap (λ m. replicate m unused_point) (sym (zero-sub (suc k)))
    drop_replicate (suc n) (suc k) = drop_replicate n k ∙ ap (λ m. replicate m unused_point) (sym (suc-sub-suc n k))
