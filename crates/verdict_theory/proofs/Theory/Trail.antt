-- The execution that a listing shows: the letters along the parents.
use mathlib.Core.Path.{◌≡◌, refl, sym, ap, ◌∙◌}
use mathlib.Core.List.{List}
use Prim.Native.Nat.{ℕ, zero, suc, ◌+◌, ◌≤◌, ◌<◌}
use native.Mathlib.Omega.{arith}
use Rattle.letters.specs.declared.Letter.{Letter}
use Rattle.letters.specs.declared.Letter.TheVariants.{Copy}
use Rattle.semantics.specs.Terms.{Trace, ◌▸◌}
use Rattle.semantics.specs.Judgement.{size as letters}
use Rattle.macros.proofs.Theory.Numbers.{strong}
use Rattle.macros.specs.Order.{Branch, Path, ◌▹◌}
use Rattle.macros.specs.Walk.{Place, at, Move, no_move, move, Stand, stand, take_move, take_branch}
use Rattle.macros.specs.Points.{Point, points, moves_at, run}
use Rattle.macros.proofs.Theory.Runs.{run_steps}
use Rattle.verdict_theory.proofs.Theory.Listing.{Listing, path, Searching, path_parent, path_leads, path_steps}
use Rattle.verdict_theory.proofs.Theory.Pairs.{Setting, Pair, starting, stepping, lead_left}

-- The letter of a move. There is none where there is no such branch, and a copy that no macro needs stands for it.
abbrev pub letter-of : Move ℕ → Letter
letter-of no_move = Copy 0 0
letter-of (move a l) = a

-- The letters up to pair j of a listing, after a start, the points being ps.
module _ {W : Type 0} (start : Trace) (ps : List Point) (t : Listing (ℕ × W)) where
  -- the letter that leads to pair j from its parent
  abbrev pub letter_to : ℕ → Letter
  letter_to j = letter-of (moves_at ps (t.state (t.parent j)).0 (t.branch j))

  -- n is at least j
  abbrev pub letters_to : ℕ → ℕ → Trace
  letters_to zero j = start
  letters_to (suc n) zero = start
  letters_to (suc n) (suc j) = letters_to n (t.parent (suc j)) ▸ letter_to (suc j)

  letters_same : (c : ℕ) → ((j : ℕ) → 0 < j → j < c → t.parent j < j) → (k n j : ℕ) → j < c → j ≤ k → j ≤ n → letters_to k j ≡ letters_to n j
  letters_same c o zero zero j l p q = refl
  letters_same c o zero (suc n) zero l p q = refl
  letters_same c o zero (suc n) (suc j) l p q = absurd (omega arith)
  letters_same c o (suc k) zero zero l p q = refl
  letters_same c o (suc k) zero (suc j) l p q = absurd (omega arith)
  letters_same c o (suc k) (suc n) zero l p q = refl
  letters_same c o (suc k) (suc n) (suc j) l p q =
      let i = o (suc j) (omega arith) l in
      ap (λ ρ. ρ ▸ letter_to (suc j)) (letters_same c o k n (t.parent (suc j)) (omega arith) (omega arith) (omega arith))

-- one move, whatever it leads to
moved_on : (ρ π : Trace) (l : Place ℕ) (y : Move ℕ) → take_move ρ y ≡ stand l π → π ≡ ρ ▸ letter-of y
moved_on ρ π l no_move e = absurd (let z : ◌≡◌ {A = ℕ} 0 1 = cc in omega arith)
moved_on ρ π l (move a k) e = cc

module _ (x : Setting) (t : Listing (Pair x)) (d : ℕ) (v : Searching (starting x) (stepping x) t d) where
  abbrev shown_to : ℕ → Trace
  shown_to j = letters_to x.start (points x.body) t j j

  abbrev walks : Path → Stand ℕ
  walks p = run x.start x.body p

  -- the execution of pair j has the letters along the parents
  pub listed_letters : (j : ℕ) → j < t.count
      → run x.start x.body (path t j) ≡ stand (at (t.state j).0) (letters_to x.start (points x.body) t j j)
  listed_letters = strong (λ j. j < t.count → walks (path t j) ≡ stand (at (t.state j).0) (shown_to j)) go
    where
      go : (j : ℕ) → ((i : ℕ) → i < j → i < t.count → walks (path t i) ≡ stand (at (t.state i).0) (shown_to i)) → j < t.count
          → walks (path t j) ≡ stand (at (t.state j).0) (shown_to j)
      go zero ih l =
          let y = lead_left x (path t 0) (t.state 0) (path_leads (starting x) (stepping x) t d v 0 l) in
          let s = y.stands in
          let e : y.trace ≡ x.start = cc in
          s ∙ ap (stand (at (t.state 0).0)) e
      go (suc j) ih l =
          let o = v.older (suc j) (omega arith) l in
          let y = lead_left x (path t (suc j)) (t.state (suc j)) (path_leads (starting x) (stepping x) t d v (suc j) l) in
          let p = path_parent (starting x) (stepping x) t d v (suc j) (omega arith) l in
          let i = ih (t.parent (suc j)) (omega arith) (omega arith) in
          let f : take_move (shown_to (t.parent (suc j))) (moves_at (points x.body) (t.state (t.parent (suc j))).0 (t.branch (suc j))) ≡ stand
          (at (t.state (suc j)).0) y.trace
          = sym (ap walks p ∙ ap (λ z. take_branch (moves_at (points x.body)) z (t.branch (suc j))) i) ∙ y.stands in
          let g = moved_on (shown_to (t.parent (suc j))) y.trace (at (t.state (suc j)).0)
          (moves_at (points x.body) (t.state (t.parent (suc j))).0 (t.branch (suc j))) f in
          y.stands ∙ ap (stand (at (t.state (suc j)).0))
          (g ∙ ap (λ ρ. ρ ▸ letter_to x.start (points x.body) t (suc j))
          (letters_same x.start (points x.body) t t.count v.older (t.parent (suc j)) j (t.parent (suc j)) (omega arith) (omega arith)
          (omega arith)))

  -- a move at pair i comes after its letters
  pub move_letters : (i : ℕ) (b : Branch) (a : Letter) (l : Place ℕ) → i < t.count → moves_at (points x.body) (t.state i).0 b ≡ move a l
      → run x.start x.body (path t i ▹ b) ≡ stand l (letters_to x.start (points x.body) t i i ▸ a)
  move_letters i b a l q e = ap (λ z. take_branch (moves_at (points x.body)) z b) (listed_letters i q) ∙ ap (take_move (shown_to i)) e

  -- the execution of pair i has at most i letters
  pub few_letters : (i : ℕ) → i < t.count → letters (letters_to x.start (points x.body) t i i) ≤ letters x.start + i
  few_letters i q =
      let e = run_steps x.start x.body (shown_to i) (path t i) (at (t.state i).0) (listed_letters i q) in
      let f = path_steps (starting x) (stepping x) t d v i q in
      omega arith
