-- The search breadth first, move by move: what holds of the listing all along, and what follows at its end.
use mathlib.Core.Path.{◌≡◌, refl, sym, ap, ◌∙◌, subst}
use mathlib.Core.Logic.{◌⊎◌, inl, inr, ◌≢◌}
use mathlib.Core.Option.{Option, none, some}
use Prim.Native.Nat.{ℕ, zero, suc, ◌+◌, ◌≤◌, ◌<◌}
use native.Mathlib.Omega.{arith}
use mathlib.Core.Bool.{Bool, true, false}
use lib.Dec.{T, eqb, eqb→eq, eqb_refl}
use Rattle.macros.proofs.Theory.Numbers.{less_or, three, strong}
use Rattle.macros.specs.Order.{Branch, first, second, Path, root, ◌▹◌, steps, BranchBefore, Before}
use Rattle.macros.proofs.Theory.Order.{AtOrBefore, before_more, before_grow, before_last, till_grow, before_till, till_join, till_not}
use Rattle.verdict_theory.proofs.Theory.System.{BranchResult, stop, event, next, begun, onto, follow, Leads, LeadAlike, Meets, FirstMet}
use Rattle.verdict_theory.specs.Count.{First, Counted, Lists, More}

-- A listing: how many states it has, and of each the state, the number of the state that it was reached from, and the branch taken there.
-- State 0 is the start.
pub record Listing (S : Type 0) : Type 0 where
  pub count : ℕ
  pub state : ℕ → S
  pub parent : ℕ → ℕ
  pub branch : ℕ → Branch

-- The moves are performed state by state, the first branch before the second: this is the number of a move.
abbrev pub turn : ℕ → Branch → ℕ
turn i first = i + i
turn i second = suc (i + i)

pub turn_below : (i n : ℕ) (b : Branch) → turn i b < n + n → i < n
turn_below i n first h = omega arith
turn_below i n second h = omega arith

pub turn_above : (i n : ℕ) (b : Branch) → i < n → turn i b < n + n
turn_above i n first h = omega arith
turn_above i n second h = omega arith

pub turn_from : (i n : ℕ) (b : Branch) → n ≤ i → n + n ≤ turn i b
turn_from i n first h = omega arith
turn_from i n second h = omega arith

-- the move after a move
pub turn_next : (i : ℕ) (b : Branch) → (j : ℕ) × (c : Branch) × (suc (turn i b) ≡ turn j c)
turn_next i first = (i, second, refl)
turn_next i second = (suc i, first, omega arith)

-- the earlier of two moves has the earlier state, or the same state and the earlier branch
turn_less : (i j : ℕ) (b c : Branch) → turn i b < turn j c → (i < j) ⊎ ((i ≡ j) × BranchBefore b c)
turn_less i j first first h = inl (omega arith)
turn_less i j first second h = elim (three i j) [ inl l ↦ inl l | inr k ↦ elim k [ inl e ↦ inr (e, tt) | inr l ↦ absurd (omega arith) ] ]
turn_less i j second first h = inl (omega arith)
turn_less i j second second h = inl (omega arith)

turn_same : (i j : ℕ) (b c : Branch) → turn i b ≡ turn j c → (i ≡ j) × (b ≡ c)
turn_same i j first first e = (omega arith, refl)
turn_same i j first second e = absurd (omega arith)
turn_same i j second first e = absurd (omega arith)
turn_same i j second second e = (omega arith, refl)

-- The path to state i of a listing: that to its parent, and its branch.
abbrev pub trail : (ℕ → ℕ) → (ℕ → Branch) → ℕ → ℕ → Path
trail parent branch zero i = root
trail parent branch (suc n) zero = root
trail parent branch (suc n) (suc i) = trail parent branch n (parent (suc i)) ▹ branch (suc i)

abbrev pub path : {S : Type 0} → Listing S → ℕ → Path
path t i = trail t.parent t.branch i i

pub trail_same : (f : ℕ → ℕ) (g : ℕ → Branch) (c : ℕ) → ((j : ℕ) → 0 < j → j < c → f j < j) → (m n i : ℕ) → i < c → i ≤ m → i ≤ n
    → trail f g m i ≡ trail f g n i
trail_same f g c h zero zero i l p q = refl
trail_same f g c h zero (suc n) zero l p q = refl
trail_same f g c h zero (suc n) (suc i) l p q = absurd (omega arith)
trail_same f g c h (suc m) zero zero l p q = refl
trail_same f g c h (suc m) zero (suc i) l p q = absurd (omega arith)
trail_same f g c h (suc m) (suc n) zero l p q = refl
trail_same f g c h (suc m) (suc n) (suc i) l p q =
    let k = h (suc i) (omega arith) l in
    ap (λ x. x ▹ g (suc i)) (trail_same f g c h m n (f (suc i)) (omega arith) (omega arith) (omega arith))

module _ {S E : Type 0} (start : Option S) (move : S → Branch → BranchResult S E) where
  -- What holds of the listing t before move number d: all moves before it are performed.
  pub record Searching (t : Listing S) (d : ℕ) : Type 0 where
    pub starts : (s : S) → start ≡ some s → (0 < t.count) × (t.state 0 ≡ s)
    pub start_is : 0 < t.count → start ≡ some (t.state 0)
    pub older : (j : ℕ) → 0 < j → j < t.count → t.parent j < j
    pub listed : (j : ℕ) → 0 < j → j < t.count → turn (t.parent j) (t.branch j) < d
    pub leads : (j : ℕ) → 0 < j → j < t.count → move (t.state (t.parent j)) (t.branch j) ≡ next (t.state j)
    pub sorted : (i j : ℕ) → 0 < i → i < j → j < t.count → turn (t.parent i) (t.branch i) < turn (t.parent j) (t.branch j)
    pub once : (i j : ℕ) → i < t.count → j < t.count → t.state i ≡ t.state j → i ≡ j
    pub quiet : (i : ℕ) (b : Branch) (e : E) → i < t.count → turn i b < d → move (t.state i) b ≢ event e
    pub closed : (i : ℕ) (b : Branch) (s : S) → i < t.count → turn i b < d → move (t.state i) b ≡ next s
        → (j : ℕ) × (j < t.count) × (t.state j ≡ s) × ((j ≡ 0) ⊎ (turn (t.parent j) (t.branch j) ≤ turn i b))

-- One more state: s, reached from state i by the branch b.
pub record Extends {S : Type 0} (t : Listing S) (s : S) (i : ℕ) (b : Branch) (t' : Listing S) : Type 0 where
  pub count : t'.count ≡ suc t.count
  pub states : (j : ℕ) → j < t.count → t'.state j ≡ t.state j
  pub parents : (j : ℕ) → j < t.count → t'.parent j ≡ t.parent j
  pub branches : (j : ℕ) → j < t.count → t'.branch j ≡ t.branch j
  pub state : t'.state t.count ≡ s
  pub parent : t'.parent t.count ≡ i
  pub branch : t'.branch t.count ≡ b

module _ {S E : Type 0} (start : Option S) (move : S → Branch → BranchResult S E) where
  -- ── the first listing ──
  pub begins_none : (t : Listing S) → start ≡ none → t.count ≡ 0 → Searching start move t 0
  begins_none t e c = record {
    starts = λ s f. absurd (let z : ◌≡◌ {A = ℕ} 0 1 = cc in omega arith);
    start_is = λ l. absurd (omega arith);
    older = λ j l m. absurd (omega arith);
    listed = λ j l m. absurd (omega arith);
    leads = λ j l m. absurd (omega arith);
    sorted = λ i j l m n. absurd (omega arith);
    once = λ i j l m. absurd (omega arith);
    quiet = λ i b e l m. absurd (omega arith);
    closed = λ i b s l m. absurd (omega arith);
  }

  pub begins_one : (t : Listing S) (s : S) → start ≡ some s → t.count ≡ 1 → t.state 0 ≡ s → Searching start move t 0
  begins_one t s e c f = record {
    starts = λ u g. (omega arith, cc);
    start_is = λ l. cc;
    older = λ j l m. absurd (omega arith);
    listed = λ j l m. absurd (omega arith);
    leads = λ j l m. absurd (omega arith);
    sorted = λ i j l m n. absurd (omega arith);
    once = λ i j l m g. omega arith;
    quiet = λ i b e l m. absurd (omega arith);
    closed = λ i b s l m. absurd (omega arith);
  }

  -- ── one move ──
  -- move number turn i b is the only new one
  advance : (t : Listing S) (i : ℕ) (b : Branch) → Searching start move t (turn i b) → ((e : E) → move (t.state i) b ≢ event e)
      → ((s : S) → move (t.state i) b ≡ next s → (j : ℕ) × (j < t.count) × (t.state j ≡ s) × ((j ≡ 0) ⊎ (turn (t.parent j) (t.branch j) ≤ turn i b)))
      → Searching start move t (suc (turn i b))
  advance t i b v n c = record {
    starts = v.starts;
    start_is = v.start_is;
    older = v.older;
    listed = λ j l m. let h = v.listed j l m in omega arith;
    leads = v.leads;
    sorted = v.sorted;
    once = v.once;
    quiet = λ k d e l m. quiet k d e l (three (turn k d) (turn i b)) m;
    closed = λ k d s l m g. closed k d s l (three (turn k d) (turn i b)) m g;
  }
    where
      quiet : (k : ℕ) (d : Branch) (e : E) → k < t.count → (turn k d < turn i b) ⊎ ((turn k d ≡ turn i b) ⊎ (turn i b < turn k d)) → turn k d < suc (turn i b)
          → move (t.state k) d ≢ event e
      quiet k d e l (inl u) m = v.quiet k d e l u
      quiet k d e l (inr (inl u)) m = λ g. let (p, q) = turn_same k i d b u in n e (cc)
      quiet k d e l (inr (inr u)) m = absurd (omega arith)

      closed : (k : ℕ) (d : Branch) (s : S) → k < t.count → (turn k d < turn i b) ⊎ ((turn k d ≡ turn i b) ⊎ (turn i b < turn k d)) → turn k d < suc (turn i b)
          → move (t.state k) d ≡ next s
          → (j : ℕ) × (j < t.count) × (t.state j ≡ s) × ((j ≡ 0) ⊎ (turn (t.parent j) (t.branch j) ≤ turn k d))
      closed k d s l (inl u) m g = v.closed k d s l u g
      closed k d s l (inr (inl u)) m g =
          let (p, q) = turn_same k i d b u in
          let (j, w, x, y) = c s (cc) in
          (j, w, x, elim y [ inl z ↦ inl z | inr z ↦ inr (omega arith) ])
      closed k d s l (inr (inr u)) m g = absurd (omega arith)

  -- nothing comes of it
  pub passes : (t : Listing S) (i : ℕ) (b : Branch) → Searching start move t (turn i b) → move (t.state i) b ≡ stop → Searching start move t (suc (turn i b))
  passes t i b v m = advance t i b v (λ e g. let z : ◌≡◌ {A = ℕ} 0 1 = cc in omega arith) (λ s g. absurd (let z : ◌≡◌ {A = ℕ} 0 1 = cc in omega arith))

  -- a state that is listed
  pub meets : (t : Listing S) (i : ℕ) (b : Branch) (s : S) (j : ℕ) → Searching start move t (turn i b) → move (t.state i) b ≡ next s → j < t.count
      → t.state j ≡ s
      → Searching start move t (suc (turn i b))
  meets t i b s j v m l f = advance t i b v (λ e g. let z : ◌≡◌ {A = ℕ} 0 1 = cc in omega arith) (λ u g. (j, l, cc, old j l (three j 0)))
    where
      old : (j : ℕ) → j < t.count → (j < 0) ⊎ ((j ≡ 0) ⊎ (0 < j)) → (j ≡ 0) ⊎ (turn (t.parent j) (t.branch j) ≤ turn i b)
      old j l (inl u) = absurd (omega arith)
      old j l (inr (inl u)) = inl u
      old j l (inr (inr u)) = inr (let h = v.listed j u l in omega arith)

  -- a new state
  pub grows : (t : Listing S) (i : ℕ) (b : Branch) (s : S) (t' : Listing S) → Searching start move t (turn i b) → i < t.count → move (t.state i) b ≡ next s
      → ((j : ℕ) → j < t.count → t.state j ≢ s) → Extends t s i b t' → Searching start move t' (suc (turn i b))
  grows t i b s t' v l m n x = record {
    starts = λ u g. let (p, q) = v.starts u g in (omega (arith, x.count), x.states 0 p ∙ q);
    start_is = λ p. v.start_is (omega arith) ∙ ap some (sym (x.states 0 (omega arith)));
    older = λ j p q. older j p (which j q);
    listed = λ j p q. listed j p (which j q);
    leads = λ j p q. leads j p (which j q);
    sorted = λ h j p q r. sorted h j p q (which j r);
    once = λ h j p q g. once h j (which h p) (which j q) g;
    quiet = λ k d e p q. quiet k d e (which k p) (three (turn k d) (turn i b)) q;
    closed = λ k d u p q g. closed k d u (which k p) (three (turn k d) (turn i b)) q g;
  }
    where
      which : (j : ℕ) → j < t'.count → (j < t.count) ⊎ (j ≡ t.count)
      which j p = elim (less_or j t.count) [ inl u ↦ inl u | inr u ↦ inr (omega (arith, x.count)) ]

      same_turn : (j : ℕ) → j < t.count → turn (t'.parent j) (t'.branch j) ≡ turn (t.parent j) (t.branch j)
      same_turn j u = λ i. turn (x.parents j u i) (x.branches j u i)

      new_turn : (j : ℕ) → j ≡ t.count → turn (t'.parent j) (t'.branch j) ≡ turn i b
      new_turn j e = let p = x.parent in let q = x.branch in cc

      older : (j : ℕ) → 0 < j → (j < t.count) ⊎ (j ≡ t.count) → t'.parent j < j
      older j p (inl u) = omega (arith, v.older j p u, x.parents j u)
      older j p (inr u) = let e : t'.parent j ≡ i = (let g = x.parent in cc) in omega arith

      listed : (j : ℕ) → 0 < j → (j < t.count) ⊎ (j ≡ t.count) → turn (t'.parent j) (t'.branch j) < suc (turn i b)
      listed j p (inl u) = omega (arith, v.listed j p u, same_turn j u)
      listed j p (inr u) = omega (arith, new_turn j u)

      leads : (j : ℕ) → 0 < j → (j < t.count) ⊎ (j ≡ t.count) → move (t'.state (t'.parent j)) (t'.branch j) ≡ next (t'.state j)
      leads j p (inl u) =
          let o = v.older j p u in
          let y = v.leads j p u in
          let pj = x.parents j u in
          let bj = x.branches j u in
          let sj = x.states j u in
          let sp = x.states (t.parent j) (omega arith) in
          cc
      leads j p (inr u) =
          let pj = x.parent in
          let bj = x.branch in
          let sj = x.state in
          let sp = x.states i l in
          cc

      sorted : (h j : ℕ) → 0 < h → h < j → (j < t.count) ⊎ (j ≡ t.count) → turn (t'.parent h) (t'.branch h) < turn (t'.parent j) (t'.branch j)
      sorted h j p q (inl u) = omega (arith, same_turn h (omega arith), same_turn j u, v.sorted h j p q u)
      sorted h j p q (inr u) = omega (arith, same_turn h (omega arith), new_turn j u, v.listed h p (omega arith))

      once : (h j : ℕ) → (h < t.count) ⊎ (h ≡ t.count) → (j < t.count) ⊎ (j ≡ t.count) → t'.state h ≡ t'.state j → h ≡ j
      once h j (inl p) (inl q) g = v.once h j p q (sym (x.states h p) ∙ g ∙ x.states j q)
      once h j (inl p) (inr q) g = absurd (n h p (let a = x.states h p in let c = x.state in cc))
      once h j (inr p) (inl q) g = absurd (n j q (let a = x.states j q in let c = x.state in cc))
      once h j (inr p) (inr q) g = cc

      -- a state that is listed anew has no move before its own
      late : (k : ℕ) (d : Branch) → k ≡ t.count → turn k d < suc (turn i b) → ⊥
      late k d e q = let h = turn_above i t.count b l in
          elim d as (λ c. turn k c < suc (turn i b) → ⊥) [ first ↦ λ g. omega arith | second ↦ λ g. omega arith ] q

      quiet : (k : ℕ) (d : Branch) (e : E) → (k < t.count) ⊎ (k ≡ t.count) → (turn k d < turn i b) ⊎ ((turn k d ≡ turn i b) ⊎ (turn i b < turn k d))
          → turn k d < suc (turn i b)
          → move (t'.state k) d ≢ event e
      quiet k d e (inl p) (inl u) q = λ g. v.quiet k d e p u (let a = x.states k p in cc)
      quiet k d e (inl p) (inr (inl u)) q = λ g. let (c, f) = turn_same k i d b u in let a = x.states k p in let z : ◌≡◌ {A = ℕ} 0 1 = cc in omega arith
      quiet k d e (inl p) (inr (inr u)) q = absurd (omega arith)
      quiet k d e (inr p) o q = absurd (late k d p q)

      closed : (k : ℕ) (d : Branch) (u : S) → (k < t.count) ⊎ (k ≡ t.count) → (turn k d < turn i b) ⊎ ((turn k d ≡ turn i b) ⊎ (turn i b < turn k d))
          → turn k d < suc (turn i b)
          → move (t'.state k) d ≡ next u
          → (j : ℕ) × (j < t'.count) × (t'.state j ≡ u) × ((j ≡ 0) ⊎ (turn (t'.parent j) (t'.branch j) ≤ turn k d))
      closed k d u (inl p) (inl o) q g =
          let (j, w, y, z) = v.closed k d u p o (let a = x.states k p in cc) in
          (j, omega (arith, x.count), x.states j w ∙ y, elim z [ inl a ↦ inl a | inr a ↦ inr (omega (arith, same_turn j w)) ])
      closed k d u (inl p) (inr (inl o)) q g =
          let (c, f) = turn_same k i d b o in
          (t.count, omega (arith, x.count), (let a = x.states k p in let y = x.state in cc), inr (omega (arith, new_turn t.count refl)))
      closed k d u (inl p) (inr (inr o)) q g = absurd (omega arith)
      closed k d u (inr p) o q g = absurd (late k d p q)

-- ── what the invariant says of paths ──
module _ {S E : Type 0} (start : Option S) (move : S → Branch → BranchResult S E) (t : Listing S) (d : ℕ) (v : Searching start move t d) where
  pub path_parent : (j : ℕ) → 0 < j → j < t.count → path t j ≡ path t (t.parent j) ▹ t.branch j
  path_parent zero p q = absurd (omega arith)
  path_parent (suc j) p q =
      let o = v.older (suc j) p q in
      ap (λ x. x ▹ t.branch (suc j))
      (trail_same t.parent t.branch t.count v.older j (t.parent (suc j)) (t.parent (suc j)) (omega arith) (omega arith) (omega arith))

  -- a path has at most as many letters as states are listed before its state
  pub path_steps : (j : ℕ) → j < t.count → steps (path t j) ≤ j
  path_steps = strong (λ j. j < t.count → steps (path t j) ≤ j) go
    where
      go : (j : ℕ) → ((i : ℕ) → i < j → i < t.count → steps (path t i) ≤ i) → j < t.count → steps (path t j) ≤ j
      go zero ih q = omega arith
      go (suc j) ih q =
          let o = v.older (suc j) (omega arith) q in
          let i = ih (t.parent (suc j)) (omega arith) (omega arith) in
          let e = ap steps (path_parent (suc j) (omega arith) q) in
          omega arith

  -- the path of a state leads to it
  pub path_leads : (j : ℕ) → j < t.count → follow start move (path t j) ≡ next (t.state j)
  path_leads = strong (λ j. j < t.count → follow start move (path t j) ≡ next (t.state j)) go
    where
      go : (j : ℕ) → ((i : ℕ) → i < j → i < t.count → follow start move (path t i) ≡ next (t.state i)) → j < t.count
          → follow start move (path t j) ≡ next (t.state j)
      go zero ih q = ap begun (v.start_is q)
      go (suc j) ih q =
          let o = v.older (suc j) (omega arith) q in
          ap (follow start move) (path_parent (suc j) (omega arith) q)
          ∙ ap (λ r. onto start move r (t.branch (suc j))) (ih (t.parent (suc j)) (omega arith) (omega arith))
          ∙ v.leads (suc j) (omega arith) q

  -- moves in the order of their numbers have paths in that order, as far as the states before them have
  turn_order : (i j : ℕ) (b c : Branch) → ((k : ℕ) → k < j → Before (path t k) (path t j)) → turn i b < turn j c → Before (path t i ▹ b) (path t j ▹ c)
  turn_order i j b c h l = elim (turn_less i j b c l) [
    | inl u ↦ before_grow (path t i) (path t j) b c (h i u)
    | inr u ↦ subst (λ k. Before (path t k ▹ b) (path t j ▹ c)) (sym u.0) (before_last (path t j) b c u.1)
  ]

  -- the states are listed by their paths
  pub path_sorted : (j : ℕ) → j < t.count → (i : ℕ) → i < j → Before (path t i) (path t j)
  path_sorted = strong (λ j. j < t.count → (i : ℕ) → i < j → Before (path t i) (path t j)) go
    where
      under : (j : ℕ) → suc j < t.count → ((k : ℕ) → k < t.parent (suc j) → Before (path t k) (path t (t.parent (suc j)))) → (i : ℕ) → i < suc j
          → Before (path t i) (path t (t.parent (suc j)) ▹ t.branch (suc j))
      under j q h zero l = inl (omega arith)
      under j q h (suc i) l = subst (λ x. Before x (path t (t.parent (suc j)) ▹ t.branch (suc j))) (sym (path_parent (suc i) (omega arith) (omega arith)))
          (turn_order (t.parent (suc i)) (t.parent (suc j)) (t.branch (suc i)) (t.branch (suc j)) h (v.sorted (suc i) (suc j) (omega arith) l q))

      go : (j : ℕ) → ((n : ℕ) → n < j → n < t.count → (i : ℕ) → i < n → Before (path t i) (path t n)) → j < t.count → (i : ℕ) → i < j
          → Before (path t i) (path t j)
      go zero ih q i l = absurd (omega arith)
      go (suc j) ih q i l =
          let o = v.older (suc j) (omega arith) q in
          subst (Before (path t i)) (sym (path_parent (suc j) (omega arith) q)) (under j q (ih (t.parent (suc j)) (omega arith) (omega arith)) i l)

  move_sorted : (i j : ℕ) (b c : Branch) → j < t.count → turn i b < turn j c → Before (path t i ▹ b) (path t j ▹ c)
  move_sorted i j b c q l = turn_order i j b c (path_sorted j q) l

  move_till : (i j : ℕ) (b c : Branch) → j < t.count → turn i b ≤ turn j c → AtOrBefore (path t i ▹ b) (path t j ▹ c)
  move_till i j b c q l = elim (less_or (turn i b) (turn j c)) [
    | inl u ↦ inr (move_sorted i j b c q u)
    | inr u ↦ inl (let e : turn i b ≡ turn j c = omega arith in let (x, y) = turn_same i j b c e in λ k. path t (x k) ▹ y k)
  ]

  -- A move that is not performed yet, at or before the path q.
  pub record Todo (q : Path) : Type 0 where
    pub state : ℕ
    pub branch : Branch
    pub listed : state < t.count
    pub later : d ≤ turn state branch
    pub till : AtOrBefore (path t state ▹ branch) q

  -- the path of a listed state comes before all that is to do
  early_todo : (j : ℕ) → j < t.count → (q : Path) → Todo q → Before (path t j) q
  early_todo zero p q x = before_till root (path t x.state ▹ x.branch) q (inl (omega arith)) x.till
  early_todo (suc j) p q x =
      before_till (path t (suc j)) (path t x.state ▹ x.branch) q
      (subst (λ y. Before y (path t x.state ▹ x.branch)) (sym (path_parent (suc j) (omega arith) p))
      (move_sorted (t.parent (suc j)) x.state (t.branch (suc j)) x.branch x.listed (omega (arith, v.listed (suc j) (omega arith) p, x.later))))
      x.till

  -- a state that some path leads to is listed with a path that is no later, or something is to do no later
  abbrev Met : Path → S → Type 0
  Met q s = ((j : ℕ) × (j < t.count) × (t.state j ≡ s) × AtOrBefore (path t j) q) ⊎ Todo q

  still_todo : (q : Path) (b : Branch) → Todo q → Todo (q ▹ b)
  still_todo q b x = record {
    state = x.state;
    branch = x.branch;
    listed = x.listed;
    later = x.later;
    till = till_join (path t x.state ▹ x.branch) q (q ▹ b) x.till (inr (before_more q b));
  }

  now_todo : (q : Path) (b : Branch) (j : ℕ) → j < t.count → d ≤ turn j b → AtOrBefore (path t j) q → Todo (q ▹ b)
  now_todo q b j l u p = record { state = j; branch = b; listed = l; later = u; till = till_grow (path t j) q b p }

  root_till : (q : Path) → AtOrBefore root q
  root_till root = inl refl
  root_till (q ▹ b) = inr (inl (omega arith))

  -- a state whose move was performed up to turn n has a path that is no later
  path_till : (k j : ℕ) (b : Branch) → k < t.count → j < t.count → (k ≡ 0) ⊎ (turn (t.parent k) (t.branch k) ≤ turn j b)
      → AtOrBefore (path t k) (path t j ▹ b)
  path_till zero j b p q u = root_till (path t j ▹ b)
  path_till (suc k) j b p q (inl u) = absurd (omega arith)
  path_till (suc k) j b p q (inr u) =
      subst (λ x. AtOrBefore x (path t j ▹ b)) (sym (path_parent (suc k) (omega arith) p)) (move_till (t.parent (suc k)) j (t.branch (suc k)) b q u)

  met_next : (q : Path) (b : Branch) (u s : S) → move u b ≡ next s → Met q u → Met (q ▹ b) s
  met_next q b u s m (inr x) = inr (still_todo q b x)
  met_next q b u s m (inl (j, l, e, p)) = go (less_or (turn j b) d)
    where
      go : (turn j b < d) ⊎ (d ≤ turn j b) → Met (q ▹ b) s
      go (inr g) = inr (now_todo q b j l g p)
      go (inl g) =
          let (k, i, f, r) = v.closed j b s l g (ap (λ x. move x b) e ∙ m) in
          inl (k, i, f, till_join (path t k) (path t j ▹ b) (q ▹ b) (path_till k j b i l r) (till_grow (path t j) q b p))

  met_event : (q : Path) (b : Branch) (u : S) (e : E) → move u b ≡ event e → Met q u → Todo (q ▹ b)
  met_event q b u e m (inr x) = still_todo q b x
  met_event q b u e m (inl (j, l, f, p)) = elim (less_or (turn j b) d)
      [ inl g ↦ absurd (v.quiet j b e l g (ap (λ x. move x b) f ∙ m)) | inr g ↦ now_todo q b j l g p ]

  covers : (q : Path) (s : S) → follow start move q ≡ next s → Met q s
  covers root s m = go start refl m
    where
      go : (o : Option S) → start ≡ o → begun {E = E} o ≡ next s → Met root s
      go none e f = absurd (let z : ◌≡◌ {A = ℕ} 0 1 = cc in omega arith)
      go (some u) e f = let (p, q) = v.starts u e in inl (0, p, cc, inl refl)
  covers (q ▹ b) s m = go (follow start move q) (λ u. covers q u) m
    where
      go : (r : BranchResult S E) → ((u : S) → r ≡ next u → Met q u) → onto start move r b ≡ next s → Met (q ▹ b) s
      go stop h f = absurd (let z : ◌≡◌ {A = ℕ} 0 1 = cc in omega arith)
      go (event e) h f = absurd (let z : ◌≡◌ {A = ℕ} 0 1 = cc in omega arith)
      go (next u) h f = met_next q b u s f (h u refl)

  event_todo : (q : Path) (e : E) → follow start move q ≡ event e → Todo q
  event_todo root e m = go start m
    where
      go : (o : Option S) → begun o ≡ event e → Todo root
      go none f = absurd (let z : ◌≡◌ {A = ℕ} 0 1 = cc in omega arith)
      go (some u) f = absurd (let z : ◌≡◌ {A = ℕ} 0 1 = cc in omega arith)
  event_todo (q ▹ b) e m = go (follow start move q) (λ u. covers q u) m
    where
      go : (r : BranchResult S E) → ((u : S) → r ≡ next u → Met q u) → onto start move r b ≡ event e → Todo (q ▹ b)
      go stop h f = absurd (let z : ◌≡◌ {A = ℕ} 0 1 = cc in omega arith)
      go (event e) h f = absurd (let z : ◌≡◌ {A = ℕ} 0 1 = cc in omega arith)
      go (next u) h f = met_event q b u e f (h u refl)

  -- ── every listed state counts, and its path is the first that leads to it ──
  pub path_first : (j : ℕ) → j < t.count → First Before (Leads start move) (LeadAlike start move) (Meets start move) (path t j)
  path_first j l = record { leaves = (t.state j, path_leads j l); least = λ q m s. go q (covers q (t.state j) (s ∙ path_leads j l)) }
    where
      go : (q : Path) → Met q (t.state j) → AtOrBefore (path t j) q
      go q (inr x) = inr (early_todo j l q x)
      go q (inl (k, i, e, p)) = subst (λ n. AtOrBefore (path t n) q) (v.once k j i l e) p

  pub path_counted : (j : ℕ) → j < t.count → Counted Before (Leads start move) (LeadAlike start move) (Meets start move) (path t j)
  path_counted j l = record { is_first = path_first j l; early = λ q (e, m). early_todo j l q (event_todo q e m) }

  -- a path that counts and whose state is listed is the path of that state
  path_listed : (q : Path) (s : S) → follow start move q ≡ next s → Counted Before (Leads start move) (LeadAlike start move) (Meets start move) q
      → (j : ℕ) × (j < t.count) × (t.state j ≡ s) × AtOrBefore (path t j) q → (j : ℕ) × (j < t.count) × (path t j ≡ q)
  path_listed q s m c (j, l, e, p) =
      let f : follow start move (path t j) ≡ follow start move q = path_leads j l ∙ ap next e ∙ sym m in
      (j, l, same p (c.is_first.least (path t j) (t.state j, path_leads j l) f))
    where
      same : AtOrBefore (path t j) q → AtOrBefore q (path t j) → path t j ≡ q
      same (inl e) u = e
      same (inr b) u = absurd (till_not q (path t j) u b)

-- ── the end of the search ──
module _ {S E : Type 0} (start : Option S) (move : S → Branch → BranchResult S E) where
  module _ (t : Listing S) (d : ℕ) (v : Searching start move t d) where
    -- all moves are performed: there is no event, and the listing has all states
    pub finished_quiet : d ≡ t.count + t.count → (q : Path) (e : E) → follow start move q ≢ event e
    finished_quiet f q e m =
        let x = event_todo start move t d v q e m in
        omega (arith, turn_above x.state t.count x.branch x.listed, x.later)

    pub finished_lists : d ≡ t.count + t.count → Lists Before (Leads start move) (LeadAlike start move) (Meets start move) (path t) t.count
    finished_lists f = record {
      counted = path_counted start move t d v;
      every = λ q c. let (s, m) = c.is_first.leaves in path_listed start move t d v q s m c (go q s (covers start move t d v q s m));
      sorted = λ i j l m. path_sorted start move t d v j m i l;
    }
      where
        go : (q : Path) (s : S) → Met start move t d v q s → (j : ℕ) × (j < t.count) × (t.state j ≡ s) × AtOrBefore (path t j) q
        go q s (inl x) = x
        go q s (inr x) = absurd (omega (arith, turn_above x.state t.count x.branch x.listed, x.later))

  module _ (t : Listing S) (i : ℕ) (b : Branch) (v : Searching start move t (turn i b)) (l : i < t.count) where
    -- the move leads to an event: it is the first, and the listing has the states before it
    pub event_first : (e : E) → move (t.state i) b ≡ event e → FirstMet start move (path t i ▹ b) e
    event_first e m = record {
      happens = ap (λ r. onto start move r b) (path_leads start move t (turn i b) v i l) ∙ m;
      least = λ q f g. let x = event_todo start move t (turn i b) v q f g in
          till_join (path t i ▹ b) (path t x.state ▹ x.branch) q (move_till start move t (turn i b) v i x.state b x.branch x.listed x.later)
          x.till;
    }

    pub event_lists : (e : E) → move (t.state i) b ≡ event e → Lists Before (Leads start move) (LeadAlike start move) (Meets start move) (path t) t.count
    event_lists e m = record {
      counted = path_counted start move t (turn i b) v;
      every = λ q c. let (s, f) = c.is_first.leaves in path_listed start move t (turn i b) v q s f c (go q s c (covers start move t (turn i b) v q s f));
      sorted = λ h j p q. path_sorted start move t (turn i b) v j q h p;
    }
      where
        go : (q : Path) (s : S) → Counted Before (Leads start move) (LeadAlike start move) (Meets start move) q → Met start move t (turn i b) v q s
            → (j : ℕ) × (j < t.count) × (t.state j ≡ s) × AtOrBefore (path t j) q
        go q s c (inl x) = x
        go q s c (inr x) = absurd (till_not (path t i ▹ b) q
            (till_join (path t i ▹ b) (path t x.state ▹ x.branch) q (move_till start move t (turn i b) v i x.state b x.branch x.listed x.later)
            x.till)
            (c.early (path t i ▹ b) (e, (event_first e m).happens)))

-- ── a listing with one state more ──
pick : {A : Type 0} → ℕ → ℕ → A → A → A
pick j c x y = elim (eqb j c) [ true ↦ x | false ↦ y ]

pick_same : {A : Type 0} (c : ℕ) (x y : A) → pick c c x y ≡ x
unfolding pick
pick_same c x y = go (eqb c c) (eqb_refl c)
  where
    go : (b : Bool) → T b → elim b [ true ↦ x | false ↦ y ] ≡ x
    go true t = refl
    go false t = absurd t

pick_other : {A : Type 0} (j c : ℕ) (x y : A) → j < c → pick j c x y ≡ y
unfolding pick
pick_other j c x y l = go (eqb j c) (eqb→eq j c)
  where
    go : (b : Bool) → (T b → j ≡ c) → elim b [ true ↦ x | false ↦ y ] ≡ y
    go true t = absurd (let e = t tt in omega arith)
    go false t = refl

pub extend : {S : Type 0} → Listing S → S → ℕ → Branch → Listing S
extend t s i b = record {
  count = suc t.count;
  state = λ j. pick j t.count s (t.state j);
  parent = λ j. pick j t.count i (t.parent j);
  branch = λ j. pick j t.count b (t.branch j);
}

pub extends : {S : Type 0} (t : Listing S) (s : S) (i : ℕ) (b : Branch) → Extends t s i b (extend t s i b)
unfolding extend
extends t s i b = record {
  count = refl;
  states = λ j l. pick_other j t.count s (t.state j) l;
  parents = λ j l. pick_other j t.count i (t.parent j) l;
  branches = λ j l. pick_other j t.count b (t.branch j) l;
  state = pick_same t.count s (t.state t.count);
  parent = pick_same t.count i (t.parent t.count);
  branch = pick_same t.count b (t.branch t.count);
}

module _ {S E : Type 0} (start : Option S) (move : S → Branch → BranchResult S E) where
  pub listed_more : (t : Listing S) (d n : ℕ) → Searching start move t d → n < t.count
      → More Before (Leads start move) (LeadAlike start move) (Meets start move) n
  listed_more t d n v l = record {
    sample = path t;
    counted = λ i m. path_counted start move t d v i (omega arith);
    distinct = λ i j p q e. v.once i j (omega arith) (omega arith) (same i j (omega arith) (omega arith) e);
  }
    where
      same : (i j : ℕ) → i < t.count → j < t.count → path t i ≡ path t j → t.state i ≡ t.state j
      same i j p q e = let f = path_leads start move t d v i p in let g = path_leads start move t d v j q in cc

  -- the move leads to a new state: more states count than are listed
  pub new_more : (t : Listing S) (i : ℕ) (b : Branch) (s : S) → Searching start move t (turn i b) → i < t.count → move (t.state i) b ≡ next s
      → ((j : ℕ) → j < t.count → t.state j ≢ s) → More Before (Leads start move) (LeadAlike start move) (Meets start move) t.count
  unfolding extend
  new_more t i b s v l m n = listed_more (extend t s i b) (suc (turn i b)) t.count (grows start move t i b s (extend t s i b) v l m n (extends t s i b))
      (omega arith)
