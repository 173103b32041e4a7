-- Where the search has ended, its answer is the verdict.
use mathlib.Core.Path.{◌≡◌, refl, sym, ap, ◌∙◌, subst}
use mathlib.Core.List.{List, [], ◌∷◌}
use mathlib.Core.Option.{none}
use Prim.Native.Nat.{ℕ, zero, suc, ◌+◌, ◌*◌, ◌/◌, ◌%◌, ◌≤◌, ◌<◌}
use native.Mathlib.Omega.{arith}
use lib.ListN.{length}
use Rattle.letters.specs.declared.Letter.{Letter}
use Rattle.letters.specs.Editions.{Edition, most_letters}
use Rattle.semantics.specs.Terms.{Trace, begin, ◌▸◌, extend, state}
use Rattle.semantics.specs.Facts.{WellFormed}
use Rattle.semantics.specs.Models.{Feasible}
use Rattle.grammar.proofs.Theory.Expanded.{expanded_fits}
use Rattle.macros.specs.Order.{Branch, Path, ◌▹◌}
use Rattle.macros.specs.Walk.{Place, Move, no_move, move, stand}
use Rattle.macros.specs.Points.{points, entry, moves_at, run}
use Rattle.macros.proofs.Theory.Runs.{run_steps}
use Rattle.macros.proofs.Theory.Fitting.{run_formed}
use Rattle.verdict_theory.proofs.Theory.System.{event}
use Rattle.verdict_theory.proofs.Theory.Listing.{Listing, turn, path, path_steps, Searching, begins_none, event_first}
use Rattle.verdict_theory.proofs.Theory.Since.{since_letters}
use Rattle.verdict_theory.proofs.Theory.Trail.{letter-of, letters_to, move_letters}
use Rattle.verdict_theory.specs.Verdict.{VerdictAnswer, pass, full, Kind, failing, showing, Delivered, IsVerdict}
use Rattle.verdict_theory.specs.AnswerPacking.{packed}
use Rattle.verdict_theory.proofs.Theory.Moves.{moving}
use Rattle.verdict_theory.proofs.Theory.Pairs.{first_pair, meets_failing}
use Rattle.verdict_theory.proofs.Theory.Answers.{answers_full, answers_pass, answers_event}
use Rattle.window.specs.declared.Window.{Window}
use Rattle.table.specs.Table.{point_at, window_at, parent_at, branch_at}
use Rattle.exploration.specs.declared.PointMove as enum
use Rattle.exploration.specs.declared.PointMove.TheVariants.{Nothing, Goes, Fails}
use Rattle.exploration.specs.Moves.{move_of, letter_of}
use Rattle.exploration.specs.Exploring.{point_of}
use Rattle.exploration.proofs.Theory.Store.{branch_numbered, listed}
use Rattle.exploration.specs.HeldPoints.{meant}
use Rattle.exploration.proofs.Theory.Watching.{performing, infeasible_in}
use Rattle.exploration.specs.Given.{Given}
use Rattle.exploration.proofs.Theory.Given.{header, body, end, held, fresh, setting, branch_held}
use Rattle.exploration.proofs.Theory.Going.{turn-of, starts, step, Passing, Going}
use Rattle.exploration.proofs.Theory.Explored.{Met}
use Rattle.search.specs.Trails.{letter_of_branch, trail_to, trail_of}

letter_meant : (o : enum.PointMove) → letter-of (meant o) ≡ letter_of o
letter_meant Nothing = refl
letter_meant (Goes a k) = refl
letter_meant (Fails a) = refl

-- ── an event, and its execution: the letters along the parents ──
module _ (given : Given) (n : ℕ) (kind : Kind) (k d : ℕ) (t : List ℕ) (met : Met given n kind k d t) where
  abbrev start : Trace
  start = begin (header given)

  abbrev branch : Branch
  branch = branch_numbered (d % 2)

  -- the letter at a listed pair
  letter_stored : (i b : ℕ) → i < k → letter-of (moves_at (points (body given)) (point_at t i) (branch_numbered b)) ≡ letter_of_branch (held given) t i b
  unfolding letter_of_branch
  letter_stored i b q = ap letter-of (sym (branch_held given (point_at t i) b (met.going.due i q))) ∙ letter_meant (move_of (point_of (held given) t i) b)

  -- the letters along the parents are those of the table
  trail_is : (f j : ℕ) (rest : List Letter) → j < k
      → extend (letters_to start (points (body given)) (listed t k) f j) rest ≡ extend start (trail_to (held given) t f j rest)
  unfolding trail_to
  trail_is zero j rest q = refl
  trail_is (suc f) zero rest q = refl
  trail_is (suc f) (suc j) rest q =
      let o = met.going.searching.older (suc j) (omega arith) q in
      ap (λ a. extend (letters_to start (points (body given)) (listed t k) f (parent_at t (suc j))) (a ∷ rest))
      (letter_stored (parent_at t (suc j)) (branch_at t (suc j)) (omega arith))
      ∙ trail_is f (parent_at t (suc j)) (letter_of_branch (held given) t (parent_at t (suc j)) (branch_at t (suc j)) ∷ rest) (omega arith)

  abbrev way : Path
  way = path (listed t k) (d / 2) ▹ branch

  abbrev execution : Trace
  execution = extend start (trail_of (held given) t d)

  moved_to : (y : Move ℕ) → moves_at (points (body given)) (point_at t (d / 2)) branch ≡ y
      → moving performing infeasible_in (end given) (window_at t (d / 2)) y ≡ event kind
      → (p : Place ℕ) × (run start (body given) way ≡ stand p execution)
  unfolding trail_of
  moved_to no_move u v = absurd (let z : ◌≡◌ {A = ℕ} 0 1 = cc in omega arith)
  moved_to (move a p) u v =
      let l = met.due in
      let s = move_letters (setting given) (listed t k) d met.going.searching (d / 2) branch a p (omega arith) u in
      let c : a ≡ letter_of_branch (held given) t (d / 2) (d % 2) = ap letter-of (sym u) ∙ letter_stored (d / 2) (d % 2) (omega arith) in (
        p,
        s ∙ ap (stand p) (ap (λ z. letters_to start (points (body given)) (listed t k) (d / 2) (d / 2) ▸ z) c
            ∙ trail_is (d / 2) (d / 2) (letter_of_branch (held given) t (d / 2) (d % 2) ∷ []) (omega arith)),
      )

  came : (p : Place ℕ) × (run start (body given) way ≡ stand p execution)
  came = moved_to (moves_at (points (body given)) (point_at t (d / 2)) branch) refl met.happens

  here : Searching (starts given) (step given) (listed t k) (turn (d / 2) branch)
  here = subst (Searching (starts given) (step given) (listed t k)) (sym (turn-of d)) met.going.searching

  pub event_formed : WellFormed (extend (begin (header given)) (trail_of (held given) t d))
  event_formed = (run_formed (header given) start (body given) (tt, refl) (expanded_fits given.macro given.in_order) way came.0 execution came.1).0

  pub event_few : length (trail_of (held given) t d) ≤ most_letters
  event_few =
      let l = met.due in
      let a = run_steps start (body given) execution way came.0 came.1 in
      let b = since_letters start (trail_of (held given) t d) in
      let c = path_steps (starts given) (step given) (listed t k) d met.going.searching (d / 2) (omega arith) in
      let w = met.going.within in
      let o = met.going.most in
      omega arith

  pub event_older : (j : ℕ) → 0 < j → j < d / 2 + 1 → parent_at t j < j
  event_older j p q = let l = met.due in met.going.searching.older j p (omega arith)

  pub event_feasible : kind ≡ failing → Feasible (state (extend (begin (header given)) (trail_of (held given) t d)))
  event_feasible f =
      let l = met.due in
      let z = event_first (starts given) (step given) (listed t k) (d / 2) branch here (omega arith) failing (met.happens ∙ ap event f) in
      let (ρ, u, c, y) = meets_failing (setting given) way z.happens in
      let v = came.1 in
      let i : ρ ≡ execution = cc in
      subst (λ π. Feasible (state π)) i y

  pub concluded_event : (edition : Edition) (output : List ℕ) (answer : VerdictAnswer) (output' : List ℕ)
      → Delivered (packed edition (begin (header given)) kind (trail_of (held given) t d))
      (showing kind k (length (trail_of (held given) t d))) output answer output'
      → IsVerdict Feasible (begin (header given)) (body given) edition n output answer output'
  concluded_event edition output answer output' y =
      let l = met.due in
      answers_event (setting given) edition n output (listed t k) (d / 2) branch here (omega arith) met.going.within kind met.happens came.0
      (trail_of (held given) t d) came.1 answer output' y

-- ── the other ends ──
module _ (given : Given) (edition : Edition) (n : ℕ) (output : List ℕ) where
  abbrev Right : VerdictAnswer → Type 0
  Right a = IsVerdict Feasible (begin (header given)) (body given) edition n output a output

  pub concluded_full : Passing given n → Right full
  concluded_full y = answers_full (setting given) edition n output y

  pub concluded_pass : (k : ℕ) (t : List ℕ) → Going given n k (2 * k) t → Right (pass k)
  concluded_pass k t g =
      answers_pass (setting given) edition n output (listed t k)
      (subst (Searching (starts given) (step given) (listed t k)) (let e : 2 * k ≡ k + k = omega arith in e) g.searching) g.within

  -- no point: nothing is searched
  pub concluded_empty : end given ≡ 0 → Right (pass 0)
  unfolding entry
  concluded_empty e = answers_pass (setting given) edition n output nothing (begins_none (starts given) (step given) nothing none_begins refl) (omega arith)
    where
      nothing : Listing (ℕ × Window)
      nothing = record { count = 0; state = λ j. (0, fresh given); parent = λ j. 0; branch = λ j. branch_numbered 0 }

      none_begins : starts given ≡ none
      none_begins = ap (λ k. first_pair (fresh given) k (entry k 0 k)) e
