-- The search for a verdict goes from pair to pair: it sees exactly document 01's pairs and first events.
use mathlib.Core.Path.{◌≡◌, refl, sym, ap, ◌∙◌, subst}
use mathlib.Core.Logic.{inl, inr, ◌≢◌}
use mathlib.Core.Bool.{Bool, true, false}
use mathlib.Core.Option.{Option, none, some}
use Prim.Native.Nat.{ℕ, ◌≤◌, ◌<◌}
use native.Mathlib.Omega.{arith}
use lib.Dec.{T, ltb, ltb→lt, not_T, nltb→le}
use Rattle.letters.specs.declared.Header.{Header}
use Rattle.letters.specs.declared.Letter.{Letter}
use Rattle.semantics.specs.Terms.{Trace, begin, ◌▸◌, State, state}
use Rattle.semantics.specs.Models.{Feasible}
use Rattle.semantics.specs.SameWindow.{SameWindow}
use Rattle.semantics.specs.Coherence.{Coherent, CoherentLetter}
use Rattle.macros.specs.Tree.{Block, ProperBlock}
use Rattle.macros.specs.Executions.{Partial, Failing}
use Rattle.macros.specs.Order.{Branch, Path, root, ◌▹◌, Before}
use Rattle.macros.proofs.Theory.Order.{AtOrBefore, before_more, before_join}
use Rattle.macros.specs.Walk.{Place, at, failure, Move, no_move, move, Stand, nowhere, stand, take_move, take_branch}
use Rattle.macros.specs.Points.{points, size_block, entrance, moves_at, run}
use Rattle.macros.proofs.Theory.Runs.{partial_is, failing_is, past_points, run_once}
use Rattle.macros.proofs.Theory.Fitting.{FormedUnder, run_formed}
use Rattle.verdict_theory.proofs.Theory.System.{stop, event, next, begun, onto, follow, Leads, LeadAlike, Meets}
use Rattle.verdict_theory.specs.Verdict.{Kind, breaking, failing, Breaks, Event, EventAt, Leaves, SamePair}
use Rattle.verdict_theory.specs.Verdict
use Rattle.verdict_theory.proofs.Theory.Moves.{Step, reach, reached, performed, moving, pair_moves}

-- What is asked of a monitor, for traces of the header h after a start: windows, the fresh one, a letter performed (none where it is incoherent),
-- and whether the trace is infeasible. Tracks σ w: w is the window of a trace that leaves the state σ.
pub record MonitorLaws (h : Header) (start : Trace) (W : Type 0) (Tracks : State → W → Type 0)
    (fresh : W) (perform : W → Letter → Option W) (infeasible : W → Bool) : Type 0 where
  pub begins : Tracks (state start) fresh
  pub goes : (ρ : Trace) (a : Letter) (w v : W) → FormedUnder h (ρ ▸ a) → Coherent ρ → Tracks (state ρ) w → perform w a ≡ some v
      → CoherentLetter (state ρ) a × Tracks (state (ρ ▸ a)) v
  pub stops : (ρ : Trace) (a : Letter) (w : W) → FormedUnder h (ρ ▸ a) → Coherent ρ → Tracks (state ρ) w → perform w a ≡ none → ¬ CoherentLetter (state ρ) a
  -- equal windows are the same
  pub alike : (ρ π : Trace) (w : W) → FormedUnder h ρ → FormedUnder h π → Coherent ρ → Coherent π → Tracks (state ρ) w → Tracks (state π) w
      → SameWindow (state ρ) (state π)
  pub equal : (ρ π : Trace) (w v : W) → FormedUnder h ρ → FormedUnder h π → Coherent ρ → Coherent π → Tracks (state ρ) w → Tracks (state π) v
      → SameWindow (state ρ) (state π) → w ≡ v
  pub tells_infeasible : (ρ : Trace) (w : W) → FormedUnder h ρ → Coherent ρ → Tracks (state ρ) w → infeasible w ≡ true → ¬ Feasible (state ρ)
  pub tells_feasible : (ρ : Trace) (w : W) → FormedUnder h ρ → Coherent ρ → Tracks (state ρ) w → infeasible w ≡ false → Feasible (state ρ)

-- The pair that the empty execution leaves, in a macro of n points whose entrance is e: there is none if it has no point.
abbrev pub first_pair : {W : Type 0} → W → ℕ → ℕ → Option (ℕ × W)
first_pair fresh n e = elim (ltb e n) [ true ↦ some (e, fresh) | false ↦ none ]

-- What is searched: the executions of a proper macro after a coherent start, with a monitor for them.
pub record Setting : Type 1 where
  pub header : Header
  pub start : Trace
  pub formed : FormedUnder header start
  pub coherent : Coherent start
  pub body : Block
  pub proper : ProperBlock body header
  pub Window : Type 0
  pub Tracks : State → Window → Type 0
  pub fresh : Window
  pub perform : Window → Letter → Option Window
  pub infeasible : Window → Bool
  pub monitor : MonitorLaws header start Window Tracks fresh perform infeasible

module _ (x : Setting) where
  abbrev pub Pair : Type 0
  Pair = ℕ × x.Window

  abbrev pub starting : Option (ℕ × x.Window)
  starting = first_pair x.fresh (size_block x.body) (entrance x.body)

  abbrev pub stepping : ℕ × x.Window → Branch → Step x.Window
  stepping = pair_moves x.perform x.infeasible (size_block x.body) (points x.body)

  abbrev pub leads : Path → Step x.Window
  leads p = follow starting stepping p

  abbrev walks : Path → Stand ℕ
  walks p = run x.start x.body p

  -- Where a path comes to, in the macro and in the search.
  data View (p : Path) : Stand ℕ → Step x.Window → Type 0 where
    off : View p nowhere stop
    pair : {k : ℕ} {ρ : Trace} {w : x.Window} → Coherent ρ → x.Tracks (state ρ) w → k < size_block x.body → View p (stand (at k) ρ) (next (k, w))
    ended : {k : ℕ} {ρ : Trace} → Coherent ρ → size_block x.body ≤ k → View p (stand (at k) ρ) stop
    safe : {ρ : Trace} → Coherent ρ → ¬ Feasible (state ρ) → View p (stand failure ρ) stop
    fails : {ρ : Trace} → Coherent ρ → Feasible (state ρ) → View p (stand failure ρ) (event failing)
    breaks : {l : Place ℕ} {ρ : Trace} {a : Letter} → Coherent ρ → ¬ CoherentLetter (state ρ) a → View p (stand l (ρ ▸ a)) (event breaking)
    behind : {l : Place ℕ} {ρ : Trace} (q : Path) → ¬ Coherent ρ → Before q p → leads q ≡ event breaking → View p (stand l ρ) stop

  formed_at : (p : Path) (l : Place ℕ) (ρ : Trace) → walks p ≡ stand l ρ → FormedUnder x.header ρ
  formed_at p l ρ e = run_formed x.header x.start x.body x.formed x.proper p l ρ e

  view_reach : (p : Path) (k : ℕ) (ρ : Trace) (w : x.Window) → Coherent ρ → x.Tracks (state ρ) w
      → View p (stand (at k) ρ) (reach x.perform x.infeasible (size_block x.body) k w)
  view_reach p k ρ w c t = go (ltb k (size_block x.body)) refl
    where
      go : (b : Bool) → ltb k (size_block x.body) ≡ b → View p (stand (at k) ρ) (elim b [ true ↦ next (k, w) | false ↦ stop ])
      go true e = pair c t (ltb→lt k (size_block x.body) (subst T (sym e) tt))
      go false e = ended c (nltb→le k (size_block x.body) (not_T (ltb k (size_block x.body)) (subst T e)))

  view_reached : (p : Path) (l : Place ℕ) (ρ : Trace) (w : x.Window) → FormedUnder x.header ρ → Coherent ρ → x.Tracks (state ρ) w
      → View p (stand l ρ) (reached x.perform x.infeasible (size_block x.body) l w)
  view_reached p (at k) ρ w f c t = view_reach p k ρ w c t
  view_reached p failure ρ w f c t = go (x.infeasible w) refl
    where
      go : (b : Bool) → x.infeasible w ≡ b → View p (stand failure ρ) (elim b [ true ↦ stop | false ↦ event failing ])
      go true e = safe c (x.monitor.tells_infeasible ρ w f c t e)
      go false e = fails c (x.monitor.tells_feasible ρ w f c t e)

  -- behind an incoherent letter
  view_later : (p : Path) (b : Branch) (l : Place ℕ) (ρ : Trace) (q : Path) → ¬ Coherent ρ → Before q (p ▹ b) → leads q ≡ event breaking
      → View (p ▹ b) (take_branch (moves_at (points x.body)) (stand l ρ) b) stop
  view_later p b failure ρ q n u e = off
  view_later p b (at k) ρ q n u e = go (moves_at (points x.body) k b)
    where
      go : (y : Move ℕ) → View (p ▹ b) (take_move ρ y) stop
      go no_move = off
      go (move a l) = behind {ρ = ρ ▸ a} q (λ c. n c.0) u e

  -- a move at a pair
  view_move : (p : Path) (b : Branch) (k : ℕ) (ρ : Trace) (w : x.Window) → walks p ≡ stand (at k) ρ → Coherent ρ → x.Tracks (state ρ) w
      → View (p ▹ b) (take_move ρ (moves_at (points x.body) k b))
      (moving x.perform x.infeasible (size_block x.body) w (moves_at (points x.body) k b))
  view_move p b k ρ w e c t = go (moves_at (points x.body) k b) refl
    where
      done : (a : Letter) (l : Place ℕ) → FormedUnder x.header (ρ ▸ a) → (o : Option x.Window) → x.perform w a ≡ o
          → View (p ▹ b) (stand l (ρ ▸ a)) (performed x.perform x.infeasible (size_block x.body) l o)
      done a l f none u = breaks c (x.monitor.stops ρ a w f c t u)
      done a l f (some v) u =
          let (i, j) = x.monitor.goes ρ a w v f c t u in
          view_reached (p ▹ b) l (ρ ▸ a) v f (c, i) j

      go : (y : Move ℕ) → moves_at (points x.body) k b ≡ y → View (p ▹ b) (take_move ρ y) (moving x.perform x.infeasible (size_block x.body) w y)
      go no_move u = off
      go (move a l) u = done a l (formed_at (p ▹ b) l (ρ ▸ a) (ap (λ z. take_branch (moves_at (points x.body)) z b) e ∙ ap (take_move ρ) u))
          (x.perform w a) refl

  view_step : (p : Path) (b : Branch) {z : Stand ℕ} {r : Step x.Window} → walks p ≡ z → leads p ≡ r → View p z r
      → View (p ▹ b) (take_branch (moves_at (points x.body)) z b) (onto starting stepping r b)
  view_step p b e f off = off
  view_step p b e f (pair {k} {ρ} {w} c t l) = view_move p b k ρ w e c t
  view_step p b e f (ended {k} {ρ} c l) = subst (λ y. View (p ▹ b) (take_move ρ y) stop) (sym (past_points x.body k b l)) off
  view_step p b e f (safe c n) = off
  view_step p b e f (fails c n) = off
  view_step p b e f (breaks {l} {ρ} {a} c n) = view_later p b l (ρ ▸ a) p (λ d. n d.1) (before_more p b) f
  view_step p b e f (behind {l} {ρ} q n u g) = view_later p b l ρ q n (before_join q p (p ▹ b) u (before_more p b)) g

  view_root : View root (walks root) (leads root)
  view_root = go (ltb (entrance x.body) (size_block x.body)) refl
    where
      go : (b : Bool) → ltb (entrance x.body) (size_block x.body) ≡ b
          → View root (stand (at (entrance x.body)) x.start) (begun (elim b [ true ↦ some (entrance x.body, x.fresh) | false ↦ none ]))
      go true e = pair x.coherent x.monitor.begins (ltb→lt (entrance x.body) (size_block x.body) (subst T (sym e) tt))
      go false e = ended x.coherent (nltb→le (entrance x.body) (size_block x.body) (not_T (ltb (entrance x.body) (size_block x.body)) (subst T e)))

  view : (p : Path) → View p (walks p) (leads p)
  view root = view_root
  view (p ▹ b) = view_step p b refl refl (view p)

  -- ── the search leads to the pairs that executions leave ──
  -- what is known of a path that leads to a pair
  pub record LeftByPath (p : Path) (s : Pair) : Type 0 where
    pub trace : Trace
    pub stands : run x.start x.body p ≡ stand (at s.0) trace
    pub due : s.0 < size_block x.body
    pub coherent : Coherent trace
    pub tracks : x.Tracks (state trace) s.1

  pub lead_left : (p : Path) (s : Pair) → leads p ≡ next s → LeftByPath p s
  lead_left p s e = go refl e (view p)
    where
      go : {z : Stand ℕ} {r : Step x.Window} → walks p ≡ z → r ≡ next s → View p z r → LeftByPath p s
      go u f off = absurd (let z : ◌≡◌ {A = ℕ} 0 1 = cc in omega arith)
      go u f (pair {k} {ρ} {w} c t l) =
          let g : (k, w) ≡ s = cc in
          subst (LeftByPath p) g (record { trace = ρ; stands = u; due = l; coherent = c; tracks = t })
      go u f (ended c l) = absurd (let z : ◌≡◌ {A = ℕ} 0 1 = cc in omega arith)
      go u f (safe c n) = absurd (let z : ◌≡◌ {A = ℕ} 0 1 = cc in omega arith)
      go u f (fails c n) = absurd (let z : ◌≡◌ {A = ℕ} 0 1 = cc in omega arith)
      go u f (breaks c n) = absurd (let z : ◌≡◌ {A = ℕ} 0 1 = cc in omega arith)
      go u f (behind q n b g) = absurd (let z : ◌≡◌ {A = ℕ} 0 1 = cc in omega arith)

  pub lead_leaves : (p : Path) → Leads starting stepping p → Leaves x.start x.body p
  lead_leaves p (s, e) =
      let y = lead_left p s e in
      record { point = s.0; trace = y.trace; stands = y.stands; due = y.due; coherent = y.coherent }

  pub leaves_lead : (p : Path) → Leaves x.start x.body p → Leads starting stepping p
  leaves_lead p y = go y.stands refl (view p)
    where
      go : {z : Stand ℕ} {r : Step x.Window} → z ≡ stand (at y.point) y.trace → leads p ≡ r → View p z r → Leads starting stepping p
      go u f off = absurd (let z : ◌≡◌ {A = ℕ} 0 1 = cc in omega arith)
      go u f (pair {k} {ρ} {w} c t l) = ((k, w), f)
      go u f (ended {k} {ρ} c l) = let i : k ≡ y.point = cc in absurd (let d = y.due in omega arith)
      go u f (safe c n) = absurd (let z : ◌≡◌ {A = ℕ} 0 1 = cc in omega arith)
      go u f (fails c n) = absurd (let z : ◌≡◌ {A = ℕ} 0 1 = cc in omega arith)
      go u f (breaks {ρ} {a} c n) = let j : y.trace ≡ ρ ▸ a = cc in absurd (n (subst Coherent j y.coherent).1)
      go u f (behind {ρ} q n b g) = let j : y.trace ≡ ρ = cc in absurd (n (subst Coherent j y.coherent))

  -- and to the same pair if they leave the same pair
  pub alike_same : (p q : Path) → Leads starting stepping p → Leads starting stepping q → LeadAlike starting stepping p q → SamePair x.start x.body p q
  alike_same p q (s, e) (t, f) g =
      let i : t ≡ s = cc in
      let y = lead_left p s e in
      let z = lead_left q s (f ∙ ap next i) in
      record {
        point = s.0;
        trace = y.trace;
        other = z.trace;
        stands = y.stands;
        other_stands = z.stands;
        windows = x.monitor.alike y.trace z.trace s.1 (formed_at p (at s.0) y.trace y.stands)
            (formed_at q (at s.0) z.trace z.stands)
            y.coherent z.coherent y.tracks z.tracks;
      }

  pub same_alike : (p q : Path) → Leads starting stepping p → Leads starting stepping q → SamePair x.start x.body p q → LeadAlike starting stepping p q
  same_alike p q (s, e) (t, f) g = e ∙ ap next (λ i. (points_same i, windows_same i)) ∙ sym f
    where
      y : LeftByPath p s
      y = lead_left p s e

      z : LeftByPath q t
      z = lead_left q t f

      points_same : s.0 ≡ t.0
      points_same = let a = y.stands in let b = z.stands in let c = g.stands in let d = g.other_stands in cc

      first_trace : g.trace ≡ y.trace
      first_trace = let a = y.stands in let c = g.stands in cc

      second_trace : g.other ≡ z.trace
      second_trace = let b = z.stands in let d = g.other_stands in cc

      windows : SameWindow (state y.trace) (state z.trace)
      windows = subst (λ π. SameWindow (state y.trace) (state π)) second_trace
          (subst (λ ρ. SameWindow (state ρ) (state g.other)) first_trace g.windows)

      windows_same : s.1 ≡ t.1
      windows_same = x.monitor.equal y.trace z.trace s.1 t.1 (formed_at p (at s.0) y.trace y.stands)
          (formed_at q (at t.0) z.trace z.stands)
          y.coherent z.coherent y.tracks z.tracks windows

  -- ── and meets the first events ──
  pub meets_breaking : (p : Path) → leads p ≡ event breaking → (ρ : Trace) × (l : Place ℕ) × (run x.start x.body p ≡ stand l ρ) × Breaks ρ
  meets_breaking p e = go refl e (view p)
    where
      go : {z : Stand ℕ} {r : Step x.Window} → walks p ≡ z → r ≡ event breaking → View p z r → (ρ : Trace) × (l : Place ℕ) × (walks p ≡ stand l ρ) × Breaks ρ
      go u f off = absurd (let z : ◌≡◌ {A = ℕ} 0 1 = cc in omega arith)
      go u f (pair c t l) = absurd (let z : ◌≡◌ {A = ℕ} 0 1 = cc in omega arith)
      go u f (ended c l) = absurd (let z : ◌≡◌ {A = ℕ} 0 1 = cc in omega arith)
      go u f (safe c n) = absurd (let z : ◌≡◌ {A = ℕ} 0 1 = cc in omega arith)
      go u f (fails c n) = absurd (let z : ◌≡◌ {A = ℕ} 0 1 = cc in omega arith)
      go u f (breaks {l} {ρ} {a} c n) = (ρ ▸ a, l, u, (c, λ d. n d.1))
      go u f (behind q n b g) = absurd (let z : ◌≡◌ {A = ℕ} 0 1 = cc in omega arith)

  pub meets_failing : (p : Path) → leads p ≡ event failing → (ρ : Trace) × (run x.start x.body p ≡ stand failure ρ) × Coherent ρ × Feasible (state ρ)
  meets_failing p e = go refl e (view p)
    where
      go : {z : Stand ℕ} {r : Step x.Window} → walks p ≡ z → r ≡ event failing → View p z r
          → (ρ : Trace) × (walks p ≡ stand failure ρ) × Coherent ρ × Feasible (state ρ)
      go u f off = absurd (let z : ◌≡◌ {A = ℕ} 0 1 = cc in omega arith)
      go u f (pair c t l) = absurd (let z : ◌≡◌ {A = ℕ} 0 1 = cc in omega arith)
      go u f (ended c l) = absurd (let z : ◌≡◌ {A = ℕ} 0 1 = cc in omega arith)
      go u f (safe c n) = absurd (let z : ◌≡◌ {A = ℕ} 0 1 = cc in omega arith)
      go u f (fails {ρ} c n) = (ρ, u, c, n)
      go u f (breaks c n) = absurd (let z : ◌≡◌ {A = ℕ} 0 1 = cc in omega arith)
      go u f (behind q n b g) = absurd (let z : ◌≡◌ {A = ℕ} 0 1 = cc in omega arith)

  -- every event is met, or comes after one that is
  abbrev SoonerMet : Path → Type 0
  SoonerMet p = (q : Path) × Meets starting stepping q × AtOrBefore q p

  breaks_not : (ρ : Trace) → Breaks ρ → ¬ Coherent ρ
  breaks_not (begin g) y c = y
  breaks_not (ρ ▸ a) y c = y.1 c

  breaking_met : (p : Path) (l : Place ℕ) (ρ : Trace) → walks p ≡ stand l ρ → Breaks ρ → SoonerMet p
  breaking_met p l ρ e y = go e refl (view p)
    where
      no_good : {k : Place ℕ} {π : Trace} → stand k π ≡ stand l ρ → Coherent π → ⊥
      no_good {π} u c = let j : π ≡ ρ = cc in breaks_not ρ y (subst Coherent j c)

      go : {z : Stand ℕ} {r : Step x.Window} → z ≡ stand l ρ → leads p ≡ r → View p z r → SoonerMet p
      go u f off = absurd (let z : ◌≡◌ {A = ℕ} 0 1 = cc in omega arith)
      go u f (pair c t i) = absurd (no_good u c)
      go u f (ended c i) = absurd (no_good u c)
      go u f (safe c n) = absurd (no_good u c)
      go u f (fails c n) = absurd (no_good u c)
      go u f (breaks c n) = (p, (breaking, f), inl refl)
      go u f (behind q n b g) = (q, (breaking, g), inr b)

  failing_met : (p : Path) (ρ : Trace) → walks p ≡ stand failure ρ → Feasible (state ρ) → SoonerMet p
  failing_met p ρ e y = go e refl (view p)
    where
      go : {z : Stand ℕ} {r : Step x.Window} → z ≡ stand failure ρ → leads p ≡ r → View p z r → SoonerMet p
      go u f off = absurd (let z : ◌≡◌ {A = ℕ} 0 1 = cc in omega arith)
      go u f (pair c t i) = absurd (let z : ◌≡◌ {A = ℕ} 0 1 = cc in omega arith)
      go u f (ended c i) = absurd (let z : ◌≡◌ {A = ℕ} 0 1 = cc in omega arith)
      go u f (safe {ρ = π} c n) = absurd (let j : ρ ≡ π = cc in n (subst (λ y. Feasible (state y)) j y))
      go u f (fails c n) = (p, (failing, f), inl refl)
      go u f (breaks c n) = (p, (breaking, f), inl refl)
      go u f (behind q n b g) = (q, (breaking, g), inr b)

  event_met_at : (p : Path) (l : Place ℕ) (ρ : Trace) → walks p ≡ stand l ρ → Event Feasible x.start x.body ρ → SoonerMet p
  event_met_at p l ρ e (Verdict.breaks y b) = breaking_met p l ρ e b
  event_met_at p l ρ e (Verdict.fails y f) =
      let (q, g) = (failing_is x.start x.body ρ).0 y in
      subst SoonerMet (run_once x.start x.body ρ q p failure l g e) (failing_met q ρ g f)

  pub event_met : (p : Path) → EventAt Feasible x.start x.body p → (q : Path) × Meets starting stepping q × AtOrBefore q p
  event_met p (ρ, (l, e), y) = event_met_at p l ρ e y

  pub met_event : (p : Path) → Meets starting stepping p → EventAt Feasible x.start x.body p
  met_event p (breaking, f) = let (ρ, l, e, b) = meets_breaking p f in (ρ, (l, e), Verdict.breaks ((partial_is x.start x.body ρ).1 (p, l, e)) b)
  met_event p (failing, f) = let (ρ, e, c, y) = meets_failing p f in (ρ, (failure, e), Verdict.fails ((failing_is x.start x.body ρ).1 (p, e)) y)

  -- ── if the search meets nothing ──
  module _ (quiet : (p : Path) (e : Kind) → leads p ≢ event e) where
    pub quiet_coherent : (ρ : Trace) → Partial x.start x.body ρ → Coherent ρ
    quiet_coherent ρ y = let (p, l, e) = (partial_is x.start x.body ρ).0 y in go p l e refl (view p)
      where
        go : (p : Path) (l : Place ℕ) {z : Stand ℕ} {r : Step x.Window} → z ≡ stand l ρ → leads p ≡ r → View p z r → Coherent ρ
        go p l u f off = absurd (let z : ◌≡◌ {A = ℕ} 0 1 = cc in omega arith)
        go p l u f (pair {ρ = π} c t i) = let j : π ≡ ρ = cc in subst Coherent j c
        go p l u f (ended {ρ = π} c i) = let j : π ≡ ρ = cc in subst Coherent j c
        go p l u f (safe {ρ = π} c n) = let j : π ≡ ρ = cc in subst Coherent j c
        go p l u f (fails c n) = absurd (quiet p failing f)
        go p l u f (breaks c n) = absurd (quiet p breaking f)
        go p l u f (behind q n b g) = absurd (quiet q breaking g)

    pub quiet_safe : (ρ : Trace) → Failing x.start x.body ρ → ¬ Feasible (state ρ)
    quiet_safe ρ y f =
        let (p, e) = (failing_is x.start x.body ρ).0 y in
        let (q, (k, g), t) = failing_met p ρ e f in
        quiet q k g
