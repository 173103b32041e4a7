-- What follows from the definitions of specs/Walk.antt.
use mathlib.Core.Path.{◌≡◌, refl, sym, ap, ◌∙◌, subst}
use Prim.Native.Nat.{ℕ, ◌+◌}
use native.Mathlib.Omega.{arith}
use Rattle.letters.specs.declared.Letter.{Letter}
use Rattle.semantics.specs.Terms.{Trace, ◌▸◌}
use Rattle.semantics.specs.Judgement.{size as letters}
use Rattle.semantics.specs.Prefixes.{Begins, whole, before}
use Rattle.semantics.proofs.Theory.Prefixes.{begins_join}
use Rattle.semantics.proofs.Theory.Prefixes.{begins_size}
use Rattle.macros.specs.Order.{Branch, Path, root, ◌▹◌, steps}
use Rattle.macros.specs.Walk.{Place, at, failure, Move, no_move, move, Stand, nowhere, stand, take_move, take_branch, walk}

-- ── laws ──
-- What holds at the start, and after each move from where it holds, holds of every walk.
module _ {A : Type 0} (moves : A → Branch → Move A) (P : Stand A → Type 0) (none : P nowhere)
    (step : (k : A) (ρ : Trace) (b : Branch) → P (stand (at k) ρ) → P (take_move ρ (moves k b))) where
  keeps_onward : (z : Stand A) (b : Branch) → P z → P (take_branch moves z b)
  keeps_onward nowhere b x = none
  keeps_onward (stand failure ρ) b x = none
  keeps_onward (stand (at k) ρ) b x = step k ρ b x

  pub walk_keeps : (origin : A) (start : Trace) → P (stand (at origin) start) → (p : Path) → P (walk moves origin start p)
  walk_keeps origin start x root = x
  walk_keeps origin start x (p ▹ b) = keeps_onward (walk moves origin start p) b (walk_keeps origin start x p)

module _ {A : Type 0} (moves : A → Branch → Move A) (origin : A) (start : Trace) where
  -- the letters of a walk come after those of the start
  abbrev After : Stand A → Type 0
  After nowhere = Unit {0}
  After (stand l ρ) = Begins start ρ

  after_move : (ρ : Trace) → Begins start ρ → (y : Move A) → After (take_move ρ y)
  after_move ρ x no_move = tt
  after_move ρ x (move a l) = before x

  pub walk_begins : (p : Path) (l : Place A) (ρ : Trace) → walk moves origin start p ≡ stand l ρ → Begins start ρ
  walk_begins p l ρ e = subst After e (walk_keeps moves After tt (λ k ρ b x. after_move ρ x (moves k b)) origin start whole p)

  -- the last move of a walk that has letters of its own
  pub record Last (p : Path) (l : Place A) (ρ : Trace) (a : Letter) : Type 0 where
    pub path : Path
    pub branch : Branch
    pub place : A
    pub is : p ≡ path ▹ branch
    pub stood : walk moves origin start path ≡ stand (at place) ρ
    pub moved : moves place branch ≡ move a l

  pub last : (p : Path) (l : Place A) (ρ : Trace) (a : Letter) → walk moves origin start p ≡ stand l (ρ ▸ a) → Begins start ρ → Last p l ρ a
  last root l ρ a e x =
      let f : start ≡ ρ ▸ a = cc in
      let g = begins_size x in
      let h = ap letters f in
      absurd (omega arith)
  last (p ▹ b) l ρ a e x = go (walk moves origin start p) refl e
    where
      taken : (k : A) (π : Trace) (y : Move A) → walk moves origin start p ≡ stand (at k) π → moves k b ≡ y → take_move π y ≡ stand l (ρ ▸ a)
          → Last (p ▹ b) l ρ a
      taken k π no_move u v w = absurd (let z : ◌≡◌ {A = ℕ} 0 1 = cc in omega arith)
      taken k π (move c j) u v w = record { path = p; branch = b; place = k; is = refl; stood = cc; moved = cc }

      go : (z : Stand A) → walk moves origin start p ≡ z → take_branch moves z b ≡ stand l (ρ ▸ a) → Last (p ▹ b) l ρ a
      go nowhere u w = absurd (let z : ◌≡◌ {A = ℕ} 0 1 = cc in omega arith)
      go (stand failure π) u w = absurd (let z : ◌≡◌ {A = ℕ} 0 1 = cc in omega arith)
      go (stand (at k) π) u w = taken k π (moves k b) u refl w

  -- a beginning of a walk's letters is that of a walk
  pub shorter : {ρ π : Trace} → Begins ρ π → Begins start ρ → (p : Path) (l : Place A) → walk moves origin start p ≡ stand l π
      → (q : Path) × (k : Place A) × (walk moves origin start q ≡ stand k ρ)
  shorter whole s p l e = (p, l, e)
  shorter (before {π} {a} b) s p l e =
      let z = last p l π a e (begins_join s b) in
      shorter b s z.path (at z.place) z.stood

  -- a walk that has no letters but those of the start
  pub no_letters : (p : Path) (l : Place A) → walk moves origin start p ≡ stand l start → p ≡ root
  no_letters root l e = refl
  no_letters (p ▹ b) l e = absurd (go (walk moves origin start p) refl e)
    where
      taken : (k : A) (π : Trace) (y : Move A) → walk moves origin start p ≡ stand (at k) π → take_move π y ≡ stand l start → ⊥
      taken k π no_move u w = let z : ◌≡◌ {A = ℕ} 0 1 = cc in omega arith
      taken k π (move c j) u w =
          let f : π ▸ c ≡ start = cc in
          let g = begins_size (walk_begins p (at k) π u) in
          let h = ap letters f in
          omega arith

      go : (z : Stand A) → walk moves origin start p ≡ z → take_branch moves z b ≡ stand l start → ⊥
      go nowhere u w = let z : ◌≡◌ {A = ℕ} 0 1 = cc in omega arith
      go (stand failure π) u w = let z : ◌≡◌ {A = ℕ} 0 1 = cc in omega arith
      go (stand (at k) π) u w = taken k π (moves k b) u w

  -- a path has as many branches as its walk has letters behind the start
  pub walk_steps : {ρ : Trace} → Begins start ρ → (p : Path) (l : Place A) → walk moves origin start p ≡ stand l ρ → letters ρ ≡ letters start + steps p
  walk_steps whole p l e = let f = ap steps (no_letters p l e) in omega arith
  walk_steps (before {π} {a} b) p l e =
      let z = last p l π a e b in
      let f = ap steps z.is in
      let g = walk_steps b z.path (at z.place) z.stood in
      omega arith

  -- the letters tell the branches, if they do so at each place
  module _ (told : (k : A) (a : Letter) (b c : Branch) (i j : Place A) → moves k b ≡ move a i → moves k c ≡ move a j → b ≡ c) where
    pub walk_once : {ρ : Trace} → Begins start ρ → (p q : Path) (k l : Place A) → walk moves origin start p ≡ stand k ρ → walk moves origin start q ≡ stand l ρ
        → p ≡ q
    walk_once whole p q k l u v = no_letters p k u ∙ sym (no_letters q l v)
    walk_once (before {π} {a} s) p q k l u v =
        let x = last p k π a u s in
        let y = last q l π a v s in
        let e = walk_once s x.path y.path (at x.place) (at y.place) x.stood y.stood in
        let f : x.place ≡ y.place = same_place x.path y.path x.place y.place π e x.stood y.stood in
        let g = told x.place a x.branch y.branch k l x.moved (subst (λ z. moves z y.branch ≡ move a l) (sym f) y.moved) in
        x.is ∙ (λ i. e i ▹ g i) ∙ sym y.is
      where
        same_place : (p q : Path) (i j : A) (π : Trace) → p ≡ q → walk moves origin start p ≡ stand (at i) π → walk moves origin start q ≡ stand (at j) π
            → i ≡ j
        same_place p q i j π e u v = cc

-- ── the same walk among other places ──
module _ {A B : Type 0} (f : A → B) where
  abbrev pub on_place : Place A → Place B
  on_place (at k) = at (f k)
  on_place failure = failure

  abbrev pub on_move : Move A → Move B
  on_move no_move = no_move
  on_move (move a l) = move a (on_place l)

  abbrev pub on_stand : Stand A → Stand B
  on_stand nowhere = nowhere
  on_stand (stand l ρ) = stand (on_place l) ρ

  -- what stands somewhere after f stood somewhere before it
  pub on_stand_back : (z : Stand A) (l : Place B) (ρ : Trace) → on_stand z ≡ stand l ρ → (k : Place A) × (z ≡ stand k ρ) × (on_place k ≡ l)
  on_stand_back nowhere l ρ e = absurd (let z : ◌≡◌ {A = ℕ} 0 1 = cc in omega arith)
  on_stand_back (stand k π) l ρ e =
      let f : π ≡ ρ = cc in
      let g : on_place k ≡ l = cc in
      (k, ap (stand k) f, g)

  module _ (moves : A → Branch → Move A) (others : B → Branch → Move B) (alike : (k : A) (b : Branch) → others (f k) b ≡ on_move (moves k b)) where
    on_take : (ρ : Trace) (x : Move A) → take_move ρ (on_move x) ≡ on_stand (take_move ρ x)
    on_take ρ no_move = refl
    on_take ρ (move a l) = refl

    on_onward : (z : Stand A) (b : Branch) → take_branch others (on_stand z) b ≡ on_stand (take_branch moves z b)
    on_onward nowhere b = refl
    on_onward (stand failure ρ) b = refl
    on_onward (stand (at k) ρ) b = ap (take_move ρ) (alike k b) ∙ on_take ρ (moves k b)

    -- if each place has the moves of the place that f makes of it, the walks are the same
    pub same_walk : (origin : A) (start : Trace) (p : Path) → walk others (f origin) start p ≡ on_stand (walk moves origin start p)
    same_walk origin start root = refl
    same_walk origin start (p ▹ b) = ap (λ z. take_branch others z b) (same_walk origin start p) ∙ on_onward (walk moves origin start p) b
