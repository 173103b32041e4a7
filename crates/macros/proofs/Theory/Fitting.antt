-- The letters of a proper macro fit its header: at each point, and in each of its executions.
use mathlib.Core.Path.{◌≡◌, sym, subst}
use Prim.Native.Nat.{ℕ, ◌+◌}
use Rattle.letters.specs.declared.Header.{Header}
use Rattle.letters.specs.Letters.{Fits}
use Rattle.semantics.specs.Terms.{Trace, state}
use Rattle.semantics.specs.Facts.{WellFormed}
use Rattle.macros.specs.Tree.{Condition, equal, unequal, test, opposite, Statement, skip, perform, assert, if, while, while_after, Else, absent, present}
use Rattle.macros.specs.Tree.{Block, empty, ◌then◌, Proper, ProperElse, ProperBlock}
use Rattle.macros.specs.Executions.{Partial}
use Rattle.macros.specs.Order.{Branch, first, second, Path}
use Rattle.macros.specs.Walk.{Place, Move, no_move, move, Stand, nowhere, stand, take_move, walk}
use Rattle.macros.proofs.Theory.Walk.{walk_keeps}
use Rattle.macros.specs.Points.{Point, step, check, fork, size_statement, size_block, entry, compile, compile_else, compile_block, points, entrance, moves}
use Rattle.macros.specs.Points.{moves_at, run}
use Rattle.macros.proofs.Theory.Points.{Every, every_append, every_moves}
use Rattle.macros.proofs.Theory.Runs.{partial_is}

-- A trace of the header's, every letter of which fits.
abbrev pub FormedUnder : Header → Trace → Type 0
FormedUnder h ρ = WellFormed ρ × ((state ρ).header ≡ h)

-- The letter of a move fits.
abbrev pub FitsMove : {A : Type 0} → Header → Move A → Type 0
FitsMove h no_move = Unit {0}
FitsMove h (move a l) = Fits h a

-- The letters of a point fit.
abbrev FitsPoint : Header → Point → Type 0
FitsPoint h (step a n) = Fits h a
FitsPoint h (check c n) = Fits h (test c)
FitsPoint h (fork c i j) = Fits h (test c)

fits_opposite : (h : Header) (c : Condition) → Fits h (test c) → Fits h (opposite c)
fits_opposite h (equal x y) f = f
fits_opposite h (unequal x y) f = f

fits_moves : (h : Header) (x : Point) (d : Branch) → FitsPoint h x → FitsMove h (moves x d)
fits_moves h (step a n) first f = f
fits_moves h (step a n) second f = tt
fits_moves h (check c n) first f = fits_opposite h c f
fits_moves h (check c n) second f = f
fits_moves h (fork c i j) first f = f
fits_moves h (fork c i j) second f = fits_opposite h c f

module _ (h : Header) where
  mutual
    unfolding compile

    fit_compile : (s : Statement) (b n : ℕ) → Proper s h → Every (FitsPoint h) (compile s b n)
    fit_compile skip b n p = tt
    fit_compile (perform a) b n p = (p, tt)
    fit_compile (assert c) b n p = (p, tt)
    fit_compile (if c t e) b n p = (
      p.0,
      every_append (FitsPoint h) (compile_block t (b + 1) n) (compile_else e (b + 1 + size_block t) n) (fit_block t (b + 1) n p.1)
          (fit_else e (b + 1 + size_block t) n p.2),
    )
    fit_compile (while c t) b n p = (p.0, fit_block t (b + 1) b p.1)
    fit_compile (while_after a c t) b n p = (p.0, (p.1, fit_block t (b + 2) _ p.2))

    fit_else : (e : Else) (b n : ℕ) → ProperElse e h → Every (FitsPoint h) (compile_else e b n)
    fit_else absent b n p = tt
    fit_else (present t) b n p = fit_block t b n p

    fit_block : (t : Block) (b n : ℕ) → ProperBlock t h → Every (FitsPoint h) (compile_block t b n)
    fit_block empty b n p = tt
    fit_block (s then t) b n p =
        every_append (FitsPoint h) (compile s b (entry (size_block t) (b + size_statement s) n)) (compile_block t (b + size_statement s) n)
        (fit_compile s b (entry (size_block t) (b + size_statement s) n) p.0) (fit_block t (b + size_statement s) n p.1)

  -- The letters at the points of a proper macro fit.
  pub points_fit : (m : Block) → ProperBlock m h → (n : ℕ) (d : Branch) → FitsMove h (moves_at (points m) n d)
  points_fit m p n d = every_moves (FitsPoint h) (FitsMove h) tt (fits_moves h) (points m) n d (fit_block m 0 (size_block m) p)

  -- ── the letters of a walk ──
  module _ {A : Type 0} (moves : A → Branch → Move A) (fit : (k : A) (d : Branch) → FitsMove h (moves k d)) (origin : A) (start : Trace)
      (formed : FormedUnder h start) where
    abbrev FormedStand : Stand A → Type 0
    FormedStand nowhere = Unit {0}
    FormedStand (stand l ρ) = FormedUnder h ρ

    formed_move : (ρ : Trace) → FormedUnder h ρ → (y : Move A) → FitsMove h y → FormedStand (take_move ρ y)
    formed_move ρ x no_move f = tt
    formed_move ρ x (move a l) f = ((x.0, subst (λ g. Fits g a) (sym x.1) f), x.1)

    pub formed_walk : (p : Path) → FormedStand (walk moves origin start p)
    formed_walk p = walk_keeps moves FormedStand tt (λ k ρ d x. formed_move ρ x (moves k d) (fit k d)) origin start formed p

  -- The executions of a proper macro from a formed start are formed.
  pub run_formed : (start : Trace) (m : Block) → FormedUnder h start → ProperBlock m h → (p : Path) (l : Place ℕ) (ρ : Trace) → run start m p ≡ stand l ρ
      → FormedUnder h ρ
  run_formed start m f x p l ρ e =
      subst (FormedStand (moves_at (points m)) (points_fit m x) (entrance m) start f) e
      (formed_walk (moves_at (points m)) (points_fit m x) (entrance m) start f p)

  pub partial_formed : (start : Trace) (m : Block) (ρ : Trace) → FormedUnder h start → ProperBlock m h → Partial start m ρ → FormedUnder h ρ
  partial_formed start m ρ f x y = let (p, l, e) = (partial_is start m ρ).0 y in run_formed start m f x p l ρ e
