-- The first event has no more letters than there are pairs before it.
-- Each beginning of its execution leaves a pair. The first execution of that pair is as long as the beginning: with a shorter one the rest
-- would lead to an event before the first. So the list of pairs has an execution of every smaller length.
use mathlib.Core.Path.{◌≡◌, refl, sym, ap, ◌∙◌, subst}
use mathlib.Core.Logic.{◌⊎◌, inl, inr}
use mathlib.Core.List.{List, [], ◌∷◌}
use mathlib.Core.Option.{Option}
use Prim.Native.Nat.{ℕ, zero, suc, ◌+◌, ◌*◌, ◌≤◌, ◌<◌}
use native.Mathlib.Omega.{arith}
use lib.ListN.{length}
use Rattle.letters.specs.declared.Letter.{Letter}
use Rattle.semantics.specs.Terms.{Trace, extend}
use Rattle.semantics.specs.Models.{Feasible}
use Rattle.macros.proofs.Theory.Numbers.{less_or, three, strong}
use Rattle.macros.specs.Order.{Branch, first, second, Path, root, ◌▹◌, steps, LexicallyBefore, Before}
use Rattle.macros.proofs.Theory.Order.{AtOrBefore, before_or, before_till, till_not, till_steps}
use Rattle.macros.specs.Walk.{Place, failure, stand}
use Rattle.macros.specs.Points.{run}
use Rattle.macros.proofs.Theory.Runs.{partial_is, failing_is, run_once, run_steps}
use Rattle.verdict_theory.specs.Count.{Counted}
use Rattle.verdict_theory.proofs.Theory.Since.{since_letters}
use Rattle.verdict_theory.proofs.Theory.System.{BranchResult, stop, event, next, onto, follow, Leads, LeadAlike, Meets, FirstMet}
use Rattle.verdict_theory.specs.Verdict.{Kind, Event, breaks, fails, EventAt, Leaves, SamePair, FirstEvent, Shows}
use Rattle.verdict_theory.proofs.Theory.Pairs.{Setting, starting, stepping, lead_leaves, leaves_lead, same_alike, event_met, met_event}

-- p, and then these branches
abbrev beyond : Path → List Branch → Path
beyond p [] = p
beyond p (b ∷ bs) = beyond (p ▹ b) bs

beyond_steps : (p : Path) (bs : List Branch) → steps (beyond p bs) ≡ steps p + length bs
beyond_steps p [] = omega arith
beyond_steps p (b ∷ bs) = omega (arith, beyond_steps (p ▹ b) bs)

-- a path cut after j steps
cut : (p : Path) (bs : List Branch) (j : ℕ) → j ≤ steps p → (a : Path) × (cs : List Branch) × (steps a ≡ j) × (beyond a cs ≡ beyond p bs)
cut root bs j l = (root, bs, omega arith, refl)
cut (p ▹ b) bs j l = elim (less_or (steps p) j) [ inl k ↦ (p ▹ b, bs, omega arith, refl) | inr k ↦ cut p (b ∷ bs) j k ]

-- its number in the order, among the paths of as many steps
abbrev place : Path → ℕ
place root = 0
place (p ▹ first) = 2 * place p
place (p ▹ second) = 2 * place p + 1

place_below : (p q : Path) → LexicallyBefore p q → place p < place q
place_below root q s = absurd s
place_below (p ▹ b) root s = absurd s
place_below (p ▹ first) (q ▹ first) (inl s) = omega (arith, place_below p q s)
place_below (p ▹ first) (q ▹ second) (inl s) = omega (arith, place_below p q s)
place_below (p ▹ second) (q ▹ first) (inl s) = omega (arith, place_below p q s)
place_below (p ▹ second) (q ▹ second) (inl s) = omega (arith, place_below p q s)
place_below (p ▹ first) (q ▹ first) (inr s) = absurd s.1
place_below (p ▹ first) (q ▹ second) (inr s) = omega (arith, ap place s.0)
place_below (p ▹ second) (q ▹ c) (inr s) = absurd s.1

-- ── in the search ──
module _ {S E : Type 0} (start : Option S) (move : S → Branch → BranchResult S E) where
  abbrev Numbered : Path → Type 0
  Numbered = Counted Before (Leads start move) (LeadAlike start move) (Meets start move)

  -- from one state the same branches lead to the same
  alike_beyond : (p q : Path) (bs : List Branch) → LeadAlike start move p q → LeadAlike start move (beyond p bs) (beyond q bs)
  alike_beyond p q [] e = e
  alike_beyond p q (b ∷ bs) e = alike_beyond (p ▹ b) (q ▹ b) bs (ap (λ r. onto start move r b) e)

  stopped : (p : Path) (bs : List Branch) → follow start move p ≡ stop → follow start move (beyond p bs) ≡ stop
  stopped p [] e = e
  stopped p (b ∷ bs) e = stopped (p ▹ b) bs (ap (λ r. onto start move r b) e)

  stop_not : {e : E} → ◌≡◌ {A = BranchResult S E} stop (event e) → ⊥
  stop_not e = let z : ◌≡◌ {A = ℕ} 0 1 = cc in omega arith

  -- an event that lies beyond a path and is not on it
  on_the_way : (p : Path) (bs : List Branch) (e : E) → steps p < steps (beyond p bs) → follow start move (beyond p bs) ≡ event e → Leads start move p
  on_the_way p [] e l f = absurd (omega arith)
  on_the_way p (b ∷ bs) e l f = go (follow start move p) refl
    where
      go : (r : BranchResult S E) → follow start move p ≡ r → Leads start move p
      go stop u = absurd (stop_not (sym (stopped (p ▹ b) bs (ap (λ r. onto start move r b) u)) ∙ f))
      go (event d) u = absurd (stop_not (sym (stopped (p ▹ b) bs (ap (λ r. onto start move r b) u)) ∙ f))
      go (next s) u = (s, u)

  -- The first event, behind the path p.
  module _ (p : Path) (e : E) (met : FirstMet start move p e) where
    -- a path of j steps, less than those to the event, from which some branches lead to an event of as many steps
    record Opening (j : ℕ) (a : Path) : Type 0 where
      size : steps a ≡ j
      less : j < steps p
      rest : List Branch
      long : steps (beyond a rest) ≡ steps p
      ends : follow start move (beyond a rest) ≡ event e

    opening_leads : (j : ℕ) (a : Path) → Opening j a → Leads start move a
    opening_leads j a o = on_the_way a o.rest e (let u = o.size in let v = o.less in let w = o.long in omega arith) o.ends

    -- another path to the same state
    module _ (j : ℕ) (a q : Path) (o : Opening j a) (same : LeadAlike start move q a) where
      ends_too : follow start move (beyond q o.rest) ≡ event e
      ends_too = alike_beyond q a o.rest same ∙ o.ends

      no_shorter : steps q < steps a → ⊥
      no_shorter l =
          let u = till_steps p (beyond q o.rest) (met.least (beyond q o.rest) e ends_too) in
          omega (arith, o.long, beyond_steps a o.rest, beyond_steps q o.rest)

      opens_too : steps q ≡ steps a → Opening j q
      opens_too l = record {
        size = l ∙ o.size;
        less = o.less;
        rest = o.rest;
        long =
            omega (arith, o.long, beyond_steps a o.rest, beyond_steps q o.rest);
        ends = ends_too;
      }

    -- a counted path has j steps
    first_opening : (j : ℕ) → ((q : Path) → Numbered q → steps q ≡ j → ⊥) → (n : ℕ) → (a : Path) → place a ≡ n → Opening j a → ⊥
    first_opening j none = strong (λ n. (a : Path) → place a ≡ n → Opening j a → ⊥) go
      where
        go : (n : ℕ) → ((i : ℕ) → i < n → (a : Path) → place a ≡ i → Opening j a → ⊥) → (a : Path) → place a ≡ n → Opening j a → ⊥
        go n ih a f o = none a (record { is_first = record { leaves = opening_leads j a o; least = least }; early = early }) o.size
          where
            earlier : (q : Path) → LeadAlike start move q a → Before q a → ⊥
            earlier q same (inl l) = no_shorter j a q o same l
            earlier q same (inr (l, s)) = ih (place q) (omega (arith, place_below q a s)) q refl (opens_too j a q o same l)

            least : (q : Path) → Leads start move q → LeadAlike start move q a → (a ≡ q) ⊎ Before a q
            least q l same = elim (before_or a q) [ inl u ↦ inl u | inr v ↦ elim v [ inl u ↦ inr u | inr u ↦ absurd (earlier q same u) ] ]

            early : (q : Path) → Meets start move q → Before a q
            early q (d, m) = inl (let u = till_steps p q (met.least q d m) in let v = o.size in let w = o.less in omega arith)

    some_numbered : (j : ℕ) → j < steps p → ((q : Path) → Numbered q → steps q ≡ j → ⊥) → ⊥
    some_numbered j l none =
        let (a, bs, u, v) = cut p [] j (omega arith) in
        first_opening j none (place a) a refl (record { size = u; less = l; rest = bs; long = ap steps v; ends = ap (follow start move) v ∙ met.happens })

    -- k paths are counted, and f lists them in order
    module _ (f : ℕ → Path) (k : ℕ) (every : (q : Path) → Numbered q → (i : ℕ) × (i < k) × (f i ≡ q))
        (sorted : (i j : ℕ) → i < j → j < k → Before (f i) (f j)) where
      later : (i i' : ℕ) → i < k → steps (f i) < steps (f i') → i < i'
      later i i' l s = elim (three i i') [
        | inl u ↦ u
        | inr (inl u) ↦ absurd (let v = ap (λ z. steps (f z)) u in omega arith)
        | inr (inr u) ↦ absurd (let v = till_steps (f i') (f i) (inr (sorted i' i u l)) in omega arith)
      ]

      -- one of j steps has a number that is not below j
      high : (j : ℕ) → j < steps p → ((i : ℕ) → i < k → j ≤ i → steps (f i) ≡ j → ⊥) → ⊥
      high zero l none = some_numbered 0 l (λ q c s. let (i, u, v) = every q c in none i u (omega arith) (ap steps v ∙ s))
      high (suc j) l none = high j (omega arith) (λ i u w s. some_numbered (suc j) l (λ q c t.
          let (i', u', v) = every q c in
          let g : steps (f i') ≡ suc j = ap steps v ∙ t in
          none i' u' (let h = later i i' u (omega arith) in omega arith) g))

      pub few_steps : steps p ≤ k
      few_steps = elim (less_or k (steps p)) [ inl l ↦ absurd (last (steps p) refl l) | inr l ↦ l ]
        where
          last : (n : ℕ) → steps p ≡ n → k < steps p → ⊥
          last zero u l = omega arith
          last (suc n) u l = high n (omega arith) (λ i v w s. omega arith)

-- ── in a macro ──
module _ (x : Setting) where
  abbrev Counts : Path → Type 0
  Counts = Counted Before (Leaves x.start x.body) (SamePair x.start x.body) (EventAt Feasible x.start x.body)

  counts : (q : Path) → Numbered (starting x) (stepping x) q → Counts q
  counts q c = record {
    is_first = record {
      leaves = lead_leaves x q c.is_first.leaves;
      least = λ r l s. c.is_first.least r (leaves_lead x r l) (same_alike x r q (leaves_lead x r l) c.is_first.leaves s);
    };
    early = λ r e. let (d, m, t) = event_met x r e in before_till q d r (c.early d m) t;
  }

  event_path : (ρ : Trace) → Event Feasible x.start x.body ρ → (p : Path) × (l : Place ℕ) × (run x.start x.body p ≡ stand l ρ)
  event_path ρ (breaks y b) = (partial_is x.start x.body ρ).0 y
  event_path ρ (fails y f) = let (p, e) = (failing_is x.start x.body ρ).0 y in (p, failure, e)

  module _ (ρ : Trace) (y : FirstEvent Feasible x.start x.body ρ) (p : Path) (l : Place ℕ) (u : run x.start x.body p ≡ stand l ρ) where
    -- an event of the search lies at p or behind it
    not_before : (q : Path) → Meets (starting x) (stepping x) q → AtOrBefore p q
    not_before q m =
        let (π, (k, v), e) = met_event x q m in
        elim (y.least π e) [
          | inl i ↦ inl (run_once x.start x.body ρ p q l k u (v ∙ ap (stand k) i))
          | inr z ↦
              let a = run_once x.start x.body ρ z.path p z.takes.0 l z.takes.1 u in
              let b = run_once x.start x.body π z.other q z.other_takes.0 k z.other_takes.1 v in
              inr (subst (Before p) b (subst (λ r. Before r z.other) a z.before))
        ]

    met_there : (e : Kind) × FirstMet (starting x) (stepping x) p e
    met_there =
        let (q, (e, m), t) = event_met x p (ρ, (l, u), y.event) in
        let i : q ≡ p = same q t (not_before q (e, m)) in
        (e, record { happens = ap (follow (starting x) (stepping x)) (sym i) ∙ m; least = λ r d n. not_before r (d, n) })
      where
        same : (q : Path) → AtOrBefore q p → AtOrBefore p q → q ≡ p
        same q (inl i) t = i
        same q (inr b) t = absurd (till_not p q t b)

  pub few_letters : (kind : Kind) (k : ℕ) (ls : List Letter) → Shows Feasible x.start x.body kind k ls → length ls ≤ k
  few_letters kind k ls s =
      let ρ : Trace = extend x.start ls in
      let (p, l, u) = event_path ρ s.first_event.event in
      let (e, met) = met_there ρ s.first_event p l u in
      let (f, lists) = s.count in
      let a = few_steps (starting x) (stepping x) p e met f k (λ q c. lists.every q (counts q c)) lists.sorted in
      let b = run_steps x.start x.body ρ p l u in
      let c = since_letters x.start ls in
      omega arith
