-- An application: the facts of the state that has the new term in a register of its own, number 0, the others following it.
-- The letter itself then renames registers: its target holds what number 0 held.
use mathlib.Core.Path.{◌≡◌, refl, sym, ap, subst}
use mathlib.Core.Logic.{◌⊎◌, inl, inr, ◌↔◌}
use mathlib.Core.List.Memᴰ
use mathlib.Core.List.{◌∷◌}
use Prim.Native.Nat.{ℕ, zero, suc, ◌<◌}
use native.Mathlib.Omega.{arith}
use Rattle.semantics.specs.Terms.{◌∈◌, Term, app, State}
use Rattle.semantics.specs.Closure.{reflexive, symmetric, transitive, Equivalent, Held}
use Rattle.semantics.specs.Coherence.{Memoizing}
use Rattle.semantics.proofs.Theory.Climb.{from, up, Reaches, reaches_equal, above_climbs, climbs_above}
use Rattle.semantics.specs.Window.{Match, Same, Apart, Result, EverComputed, Marked}
use Rattle.semantics.specs.Facts.{Valid}
use Rattle.semantics.proofs.Theory.Facts.{closure_in}
use Rattle.semantics.proofs.Theory.ClosureLaws.{weaken}
use Rattle.semantics.proofs.Theory.Extend.{extend_old, extend_new}

-- the values with t in register 0
abbrev pub push : Term → (ℕ → Term) → ℕ → Term
push t v zero = t
push t v (suc r) = v r

-- the old register that holds what a register holds, where number 0 holds what register w does
abbrev pub down : ℕ → ℕ → ℕ
down w zero = w
down w (suc r) = r

-- the state in which app f (value y) (value z) is computed and held by a register of its own
abbrev pub grown : State → ℕ → ℕ → ℕ → State
grown σ f y z = record {
  header = record { registers = suc σ.header.registers; functions = σ.header.functions; binary = σ.header.binary };
  terms = app f (σ.value y) (σ.value z) ∷ σ.terms;
  equals = σ.equals;
  unequals = σ.unequals;
  value = push (app f (σ.value y) (σ.value z)) σ.value;
}

-- the sides of an unequal test, in either order, are computed terms
tested_in : (σ : State) → Valid σ → (s t : Term) → ((s, t) ∈ σ.unequals) ⊎ ((t, s) ∈ σ.unequals) → (s ∈ σ.terms) × (t ∈ σ.terms)
tested_in σ v s t (inl k) = v.unequal_sides s t k
tested_in σ v s t (inr k) = let (i, j) = v.unequal_sides t s k in (j, i)

module _ (σ : State) (v : Valid σ) (f y z : ℕ) (yb : y < σ.header.registers) (zb : z < σ.header.registers) where
  abbrev Y : Term
  Y = σ.value y

  abbrev Z : Term
  Z = σ.value z

  abbrev new : Term
  new = app f Y Z

  abbrev σ⁺ : State
  σ⁺ = grown σ f y z

  ym : Y ∈ σ.terms
  ym = v.values y yb

  zm : Z ∈ σ.terms
  zm = v.values z zb

  more : {s t : Term} → Equivalent σ s t → Equivalent σ⁺ s t
  more c = weaken (λ t k. Memᴰ.tail k) c

  older : {s t : Term} → s ∈ σ.terms → t ∈ σ.terms → Equivalent σ⁺ s t → Equivalent σ s t
  older i j c = (extend_old σ v f ym zm i j).0 c

  -- a computed application is an old one, or the new one
  data Listed (g : ℕ) (a b : Term) : Type 0 where
    before : app g a b ∈ σ.terms → a ∈ σ.terms → b ∈ σ.terms → Listed g a b
    now : g ≡ f → a ≡ Y → b ≡ Z → Listed g a b

  listed : {g : ℕ} {a b : Term} → app g a b ∈ σ⁺.terms → Listed g a b
  listed {g} {a} {b} m = elim (Memᴰ.cases_cons m) [
    | inl e ↦ now (cc) (cc) (cc)
    | inr k ↦ before k (v.arguments g a b k).0 (v.arguments g a b k).1
  ]

  -- ── where a register holds an equal term: as if that register were number 0 ──
  module _ (w : ℕ) (wb : w < σ.header.registers) (known : Result σ f y z w) where
    abbrev Down : ℕ → Term
    Down a = σ.value (down w a)

    down_below : (a : ℕ) → a < suc σ.header.registers → down w a < σ.header.registers
    down_below zero b = wb
    down_below (suc r) b = omega arith

    link : (a : ℕ) → a < suc σ.header.registers → Equivalent σ⁺ (push new σ.value a) (Down a)
    link zero b = (extend_new σ v f ym zm (v.values w wb)).1 known
    link (suc r) b = more (reflexive (v.values r (omega arith)))

    -- a term that equals the new one has an old application to show for it
    shown : {s : Term} → s ∈ σ.terms → Equivalent σ⁺ new s → Match σ.terms σ.equals f Y Z s
    shown m c = (extend_new σ v f ym zm m).0 c

    pub same_known : (a b : ℕ) → a < suc σ.header.registers → b < suc σ.header.registers → Same σ⁺ a b ↔ Same σ (down w a) (down w b)
    same_known a b ab bb = (
      λ c. older (v.values (down w a) (down_below a ab)) (v.values (down w b) (down_below b bb))
          (transitive (symmetric (link a ab)) (transitive c (link b bb))),
      λ c. transitive (link a ab) (transitive (more c) (symmetric (link b bb))),
    )

    match_known : {g : ℕ} {a b s p q r : Term} → p ∈ σ.terms → q ∈ σ.terms → r ∈ σ.terms → Equivalent σ⁺ a p → Equivalent σ⁺ b q
        → Equivalent σ⁺ s r
        → Match σ⁺.terms σ⁺.equals g a b s → Match σ.terms σ.equals g p q r
    match_known {g} {a} {b} {s} {p} {q} {r} pm qm rm c d e m = go (listed m.listed)
      where
        go : Listed g m.first m.second → Match σ.terms σ.equals g p q r
        go (before k i j) = record {
          first = m.first;
          second = m.second;
          listed = k;
          at_first = older i pm (transitive m.at_first c);
          at_second = older j qm (transitive m.at_second d);
          gives = older k rm (transitive m.gives e);
        }
        go (now h i j) =
            let n = shown rm (transitive (subst (λ u. Equivalent σ⁺ u s) (λ k. app (h k) (i k) (j k)) m.gives) e) in
            subst (λ g. Match σ.terms σ.equals g p q r) (sym h) (record {
              first = n.first;
              second = n.second;
              listed = n.listed;
              at_first = transitive n.at_first (older ym pm (transitive (subst (λ u. Equivalent σ⁺ u a) i m.at_first) c));
              at_second = transitive n.at_second (older zm qm (transitive (subst (λ u. Equivalent σ⁺ u b) j m.at_second) d));
              gives = n.gives;
            })

    match_more : {g : ℕ} {a b s p q r : Term} → Equivalent σ⁺ a p → Equivalent σ⁺ b q → Equivalent σ⁺ s r → Match σ.terms σ.equals g a b s
        → Match σ⁺.terms σ⁺.equals g p q r
    match_more c d e m = record {
      first = m.first;
      second = m.second;
      listed = Memᴰ.tail m.listed;
      at_first = transitive (more m.at_first) c;
      at_second = transitive (more m.at_second) d;
      gives = transitive (more m.gives) e;
    }

    abbrev Below⁺ : ℕ → Type 0
    Below⁺ r = r < suc σ.header.registers

    down_in : (a : ℕ) → Below⁺ a → Down a ∈ σ.terms
    down_in a b = v.values (down w a) (down_below a b)

    pub result_known : (g a b c : ℕ) → Below⁺ a → Below⁺ b → Below⁺ c → Result σ⁺ g a b c ↔ Result σ g (down w a) (down w b) (down w c)
    result_known g a b c ab bb cb = (
      match_known (down_in a ab) (down_in b bb) (down_in c cb) (link a ab) (link b bb) (link c cb),
      match_more (symmetric (link a ab)) (symmetric (link b bb)) (symmetric (link c cb)),
    )

    pub ever_known : (g a b : ℕ) → Below⁺ a → Below⁺ b → EverComputed σ⁺ g a b ↔ EverComputed σ g (down w a) (down w b)
    ever_known g a b ab bb = (
      λ (s, m). fwd s m (listed m.listed),
      λ (s, m). (s, match_more (symmetric (link a ab)) (symmetric (link b bb)) (more (reflexive (closure_in σ v m.gives).1)) m),
    )
      where
        fwd : (s : Term) (m : Match σ⁺.terms σ⁺.equals g (push new σ.value a) (push new σ.value b) s) → Listed g m.first m.second
            → EverComputed σ g (down w a) (down w b)
        fwd s m (before k i j) =
            (app g m.first m.second, match_known (down_in a ab) (down_in b bb) k (link a ab) (link b bb) (symmetric m.gives) m)
        fwd s m (now h i j) = (
          σ.value w,
          match_known (down_in a ab) (down_in b bb) (v.values w wb) (link a ab) (link b bb)
              (transitive (subst (Equivalent σ⁺ s) (λ k. app (h k) (i k) (j k)) (symmetric m.gives)) (link zero (omega arith))) m,
        )

    pub apart_known : (a b : ℕ) → Below⁺ a → Below⁺ b → Apart σ⁺ a b ↔ Apart σ (down w a) (down w b)
    apart_known a b ab bb = (
      fwd,
      λ m. record {
        left = m.left;
        right = m.right;
        tested = m.tested;
        at_left = transitive (more m.at_left) (symmetric (link a ab));
        at_right = transitive (more m.at_right) (symmetric (link b bb));
      },
    )
      where
        fwd : Apart σ⁺ a b → Apart σ (down w a) (down w b)
        fwd m =
            let (i, j) = tested_in σ v m.left m.right m.tested in
            record {
              left = m.left;
              right = m.right;
              tested = m.tested;
              at_left = older i (down_in a ab) (transitive m.at_left (link a ab));
              at_right = older j (down_in b bb) (transitive m.at_right (link b bb));
            }

    held_known : {s t : Term} → t ∈ σ.terms → Equivalent σ⁺ s t → Held σ⁺ s ↔ Held σ t
    held_known i c = (
      λ (a, b, d). (down w a, down_below a b, older i (down_in a b) (transitive (symmetric c) (transitive d (link a b)))),
      λ (r, b, d). (suc r, omega arith, transitive c (more d)),
    )

    -- what is reached in the grown state is reached by old applications
    climb_known : {t p : Term} → p ∈ σ.terms → Equivalent σ⁺ t p → {s : Term} → Reaches σ⁺ t s → {q : Term} → q ∈ σ.terms → Equivalent σ⁺ s q
        → Reaches σ p q
    climb_known pm e (from c) qm d = from (older pm qm (transitive (symmetric e) (transitive c d)))
    climb_known {t} {p} pm e (up {u} {s} {a} {b} {f = g} r m x c) {q} qm d = go (λ k i l. climb_known pm e r {q = k} i l) (listed m) x
      where
        go : ((k : Term) → k ∈ σ.terms → Equivalent σ⁺ u k → Reaches σ p k) → Listed g a b → Equivalent σ⁺ u a ⊎ Equivalent σ⁺ u b → Reaches σ p q
        go ih (before k i j) (inl y) = up (ih a i y) k (inl (reflexive i)) (older k qm (transitive c d))
        go ih (before k i j) (inr y) = up (ih b j y) k (inr (reflexive j)) (older k qm (transitive c d))
        go ih (now h i j) y =
            let n = shown qm (transitive (subst (λ k. Equivalent σ⁺ k s) (λ k. app (h k) (i k) (j k)) c) d) in
            elim y [
              | inl k ↦ up (ih Y ym (subst (Equivalent σ⁺ u) i k)) n.listed (inl (symmetric n.at_first)) n.gives
              | inr k ↦ up (ih Z zm (subst (Equivalent σ⁺ u) j k)) n.listed (inr (symmetric n.at_second)) n.gives
            ]

    climb_more : {t p : Term} → Equivalent σ⁺ t p → {s : Term} → Reaches σ p s → Reaches σ⁺ t s
    climb_more e (from c) = from (transitive e (more c))
    climb_more e (up r m x c) = up (climb_more e r) (Memᴰ.tail m) (elim x [ inl d ↦ inl (more d) | inr d ↦ inr (more d) ]) (more c)

    pub marked_known : (a : ℕ) → Below⁺ a → Marked σ⁺ a ↔ Marked σ (down w a)
    marked_known a ab = (λ e. fwd e (listed e.listed), bwd)
      where
        reached : {k : Term} → k ∈ σ.terms → Reaches σ⁺ (push new σ.value a) k → Reaches σ (Down a) k
        reached i r = climb_known (down_in a ab) (link a ab) r i (more (reflexive i))

        fwd : (e : Marked σ⁺ a) → Listed e.function e.first e.second → Marked σ (down w a)
        fwd e (before k i j) = record {
          function = e.function;
          first = e.first;
          second = e.second;
          listed = k;
          above = climbs_above (elim (above_climbs e.above) [ inl r ↦ inl (reached i r) | inr r ↦ inr (reached j r) ]);
          unheld = λ (p, q, o). e.unheld
              ((held_known k (more (reflexive k))).1 p, (held_known i (more (reflexive i))).1 q, (held_known j (more (reflexive j))).1 o);
        }
        fwd e (now h i j) = record {
          function = f;
          first = known.first;
          second = known.second;
          listed = known.listed;
          above = climbs_above (elim (above_climbs e.above) [
            | inl r ↦ inl (reaches_equal (reached ym (subst (Reaches σ⁺ (push new σ.value a)) i r)) (symmetric known.at_first))
            | inr r ↦ inr (reaches_equal (reached zm (subst (Reaches σ⁺ (push new σ.value a)) j r)) (symmetric known.at_second))
          ]);
          unheld = λ (p, q, o). e.unheld (
            subst (Held σ⁺) (sym (λ k. app (h k) (i k) (j k)))
                ((held_known known.listed (transitive (link zero (omega arith)) (symmetric (more known.gives)))).1 p),
            subst (Held σ⁺) (sym i) ((held_known (closure_in σ v known.at_first).0 (more (symmetric known.at_first))).1 q),
            subst (Held σ⁺) (sym j) ((held_known (closure_in σ v known.at_second).0 (more (symmetric known.at_second))).1 o),
          );
        }

        bwd : Marked σ (down w a) → Marked σ⁺ a
        bwd e =
            let (i, j) = v.arguments e.function e.first e.second e.listed in
            record {
              function = e.function;
              first = e.first;
              second = e.second;
              listed = Memᴰ.tail e.listed;
              above = climbs_above (elim (above_climbs e.above) [
                | inl r ↦ inl (climb_more (link a ab) r)
                | inr r ↦ inr (climb_more (link a ab) r)
              ]);
              unheld = λ (p, q, o). e.unheld (
                (held_known e.listed (more (reflexive e.listed))).0 p,
                (held_known i (more (reflexive i))).0 q,
                (held_known j (more (reflexive j))).0 o,
              );
            }

  -- ── where the term is new: number 0 is alone in its class, and nothing lies above it ──
  module _ (fresh : ¬ EverComputed σ f y z) where
    far : {s : Term} → s ∈ σ.terms → Equivalent σ⁺ s new → ⊥
    far m c = fresh (_, (extend_new σ v f ym zm m).0 (symmetric c))

    pub same_new_new : Same σ⁺ 0 0
    same_new_new = reflexive (Memᴰ.head refl)

    pub same_new_old : (r : ℕ) → r < σ.header.registers → Same σ⁺ 0 (suc r) → ⊥
    same_new_old r b c = far (v.values r b) (symmetric c)

    pub same_old_old : (r s : ℕ) → r < σ.header.registers → s < σ.header.registers → Same σ⁺ (suc r) (suc s) ↔ Same σ r s
    same_old_old r s rb sb = (older (v.values r rb) (v.values s sb), more)

    argument_in : {g : ℕ} {a b : Term} → Listed g a b → (a ∈ σ.terms) × (b ∈ σ.terms)
    argument_in (before k i j) = (i, j)
    argument_in (now h i j) = (Memᴰ.cast i ym, Memᴰ.cast j zm)

    -- the new term is no argument
    pub ever_new_first : (g b : ℕ) → EverComputed σ⁺ g 0 b → ⊥
    ever_new_first g b (s, m) = far (argument_in (listed m.listed)).0 m.at_first

    pub ever_new_second : (g a : ℕ) → EverComputed σ⁺ g a 0 → ⊥
    ever_new_second g a (s, m) = far (argument_in (listed m.listed)).1 m.at_second

    pub ever_old : (g a b : ℕ) → a < σ.header.registers → b < σ.header.registers
        → EverComputed σ⁺ g (suc a) (suc b) ↔ (EverComputed σ g a b ⊎ ((g ≡ f) × Same σ y a × Same σ z b))
    ever_old g a b ab bb = (λ (s, m). fwd s m (listed m.listed), bwd)
      where
        fwd : (s : Term) (m : Match σ⁺.terms σ⁺.equals g (σ.value a) (σ.value b) s) → Listed g m.first m.second
            → EverComputed σ g a b ⊎ ((g ≡ f) × Same σ y a × Same σ z b)
        fwd s m (before k i j) = inl (
          app g m.first m.second,
          record {
            first = m.first;
            second = m.second;
            listed = k;
            at_first = older i (v.values a ab) m.at_first;
            at_second = older j (v.values b bb) m.at_second;
            gives = reflexive k;
          },
        )
        fwd s m (now h i j) =
            inr (
              h,
              older ym (v.values a ab) (subst (λ u. Equivalent σ⁺ u (σ.value a)) i m.at_first),
              older zm (v.values b bb) (subst (λ u. Equivalent σ⁺ u (σ.value b)) j m.at_second),
            )

        bwd : EverComputed σ g a b ⊎ ((g ≡ f) × Same σ y a × Same σ z b) → EverComputed σ⁺ g (suc a) (suc b)
        bwd (inl (s, m)) = (
          s,
          record {
            first = m.first;
            second = m.second;
            listed = Memᴰ.tail m.listed;
            at_first = more m.at_first;
            at_second = more m.at_second;
            gives = more m.gives;
          },
        )
        bwd (inr (h, c, d)) = (
          new,
          record {
            first = Y;
            second = Z;
            listed = Memᴰ.head (ap (λ k. app k Y Z) h);
            at_first = more c;
            at_second = more d;
            gives = subst (λ k. Equivalent σ⁺ (app k Y Z) new) (sym h) (reflexive (Memᴰ.head refl));
          },
        )

    pub result_old : (g a b c : ℕ) → a < σ.header.registers → b < σ.header.registers → c < σ.header.registers
        → Result σ⁺ g (suc a) (suc b) (suc c) ↔ Result σ g a b c
    result_old g a b c ab bb cb = (
      λ m. fwd m (listed m.listed),
      λ m. record {
        first = m.first;
        second = m.second;
        listed = Memᴰ.tail m.listed;
        at_first = more m.at_first;
        at_second = more m.at_second;
        gives = more m.gives;
      },
    )
      where
        fwd : (m : Result σ⁺ g (suc a) (suc b) (suc c)) → Listed g m.first m.second → Result σ g a b c
        fwd m (before k i j) = record {
          first = m.first;
          second = m.second;
          listed = k;
          at_first = older i (v.values a ab) m.at_first;
          at_second = older j (v.values b bb) m.at_second;
          gives = older k (v.values c cb) m.gives;
        }
        fwd m (now h i j) =
            absurd (far (v.values c cb) (symmetric (subst (λ u. Equivalent σ⁺ u (σ.value c)) (λ k. app (h k) (i k) (j k)) m.gives)))

    pub result_new : (g a b : ℕ) → a < σ.header.registers → b < σ.header.registers
        → Result σ⁺ g (suc a) (suc b) 0 ↔ ((g ≡ f) × Same σ y a × Same σ z b)
    result_new g a b ab bb = (
      λ m. fwd m (listed m.listed),
      λ (h, c, d). record {
        first = Y;
        second = Z;
        listed = Memᴰ.head (ap (λ k. app k Y Z) h);
        at_first = more c;
        at_second = more d;
        gives = subst (λ k. Equivalent σ⁺ (app k Y Z) new) (sym h) (reflexive (Memᴰ.head refl));
      },
    )
      where
        fwd : (m : Result σ⁺ g (suc a) (suc b) 0) → Listed g m.first m.second → (g ≡ f) × Same σ y a × Same σ z b
        fwd m (before k i j) = absurd (far k m.gives)
        fwd m (now h i j) = (
          h,
          older ym (v.values a ab) (subst (λ u. Equivalent σ⁺ u (σ.value a)) i m.at_first),
          older zm (v.values b bb) (subst (λ u. Equivalent σ⁺ u (σ.value b)) j m.at_second),
        )

    pub apart_new_left : (b : ℕ) → Apart σ⁺ 0 b → ⊥
    apart_new_left b m = far (tested_in σ v m.left m.right m.tested).0 m.at_left

    pub apart_new_right : (a : ℕ) → Apart σ⁺ a 0 → ⊥
    apart_new_right a m = far (tested_in σ v m.left m.right m.tested).1 m.at_right

    pub apart_old : (a b : ℕ) → a < σ.header.registers → b < σ.header.registers → Apart σ⁺ (suc a) (suc b) ↔ Apart σ a b
    apart_old a b ab bb = (
      λ m. let (i, j) = tested_in σ v m.left m.right m.tested in
          record {
            left = m.left;
            right = m.right;
            tested = m.tested;
            at_left = older i (v.values a ab) m.at_left;
            at_right = older j (v.values b bb) m.at_right;
          },
      λ m. record { left = m.left; right = m.right; tested = m.tested; at_left = more m.at_left; at_right = more m.at_right },
    )

    -- no old term is reached from the new one
    climb_new : {s : Term} → Reaches σ⁺ new s → {q : Term} → q ∈ σ.terms → Equivalent σ⁺ s q → ⊥
    climb_new (from c) m d = far m (symmetric (transitive c d))
    climb_new (up r k e c) m d = let (i, j) = argument_in (listed k) in elim e [ inl g ↦ climb_new r i g | inr g ↦ climb_new r j g ]

    -- and old ones are reached as before
    climb_old : {p : Term} → p ∈ σ.terms → {s : Term} → Reaches σ⁺ p s → {q : Term} → q ∈ σ.terms → Equivalent σ⁺ s q → Reaches σ p q
    climb_old pm (from c) qm d = from (older pm qm (transitive c d))
    climb_old {p} pm (up {u} {s} {a} {b} {f = g} r m x c) {q} qm d = go (λ k i l. climb_old pm r {q = k} i l) (listed m) x
      where
        go : ((k : Term) → k ∈ σ.terms → Equivalent σ⁺ u k → Reaches σ p k) → Listed g a b → Equivalent σ⁺ u a ⊎ Equivalent σ⁺ u b → Reaches σ p q
        go ih (before k i j) (inl y) = up (ih a i y) k (inl (reflexive i)) (older k qm (transitive c d))
        go ih (before k i j) (inr y) = up (ih b j y) k (inr (reflexive j)) (older k qm (transitive c d))
        go ih (now h i j) y = absurd (far qm (symmetric (transitive (subst (λ k. Equivalent σ⁺ k s) (λ k. app (h k) (i k) (j k)) c) d)))

    climb_more' : {p s : Term} → Reaches σ p s → Reaches σ⁺ p s
    climb_more' (from c) = from (more c)
    climb_more' (up r m x c) = up (climb_more' r) (Memᴰ.tail m) (elim x [ inl d ↦ inl (more d) | inr d ↦ inr (more d) ]) (more c)

    held_old : {s : Term} → s ∈ σ.terms → Held σ⁺ s ↔ Held σ s
    held_old {s} i = (λ (a, b, d). fwd a b d, λ (r, b, d). (suc r, omega arith, more d))
      where
        fwd : (a : ℕ) → a < suc σ.header.registers → Equivalent σ⁺ s (push new σ.value a) → Held σ s
        fwd zero b d = absurd (far i d)
        fwd (suc r) b d = (r, omega arith, older i (v.values r (omega arith)) d)

    pub marked_new : Marked σ⁺ 0 → ⊥
    marked_new e = let (i, j) = argument_in (listed e.listed) in elim (above_climbs e.above) [
      | inl r ↦ climb_new r i (more (reflexive i))
      | inr r ↦ climb_new r j (more (reflexive j))
    ]

    pub marked_old : (r : ℕ) → r < σ.header.registers → Marked σ⁺ (suc r) ↔ Marked σ r
    marked_old r rb = (λ e. fwd e (listed e.listed), bwd)
      where
        fwd : (e : Marked σ⁺ (suc r)) → Listed e.function e.first e.second → Marked σ r
        fwd e (before k i j) = record {
          function = e.function;
          first = e.first;
          second = e.second;
          listed = k;
          above = climbs_above (elim (above_climbs e.above) [
            | inl c ↦ inl (climb_old (v.values r rb) c i (more (reflexive i)))
            | inr c ↦ inr (climb_old (v.values r rb) c j (more (reflexive j)))
          ]);
          unheld = λ (p, q, o). e.unheld ((held_old k).1 p, (held_old i).1 q, (held_old j).1 o);
        }
        fwd e (now h i j) = absurd (e.unheld (
          (0, omega arith, subst (λ u. Equivalent σ⁺ u new) (sym (λ k. app (h k) (i k) (j k))) (reflexive (Memᴰ.head refl))),
          subst (Held σ⁺) (sym i) (suc y, omega arith, more (reflexive ym)),
          subst (Held σ⁺) (sym j) (suc z, omega arith, more (reflexive zm)),
        ))

        bwd : Marked σ r → Marked σ⁺ (suc r)
        bwd e =
            let (i, j) = v.arguments e.function e.first e.second e.listed in
            record {
              function = e.function;
              first = e.first;
              second = e.second;
              listed = Memᴰ.tail e.listed;
              above = climbs_above (elim (above_climbs e.above) [ inl c ↦ inl (climb_more' c) | inr c ↦ inr (climb_more' c) ]);
              unheld = λ (p, q, o). e.unheld ((held_old e.listed).0 p, (held_old i).0 q, (held_old j).0 o);
            }

  -- ── memoizing, in the window's words ──
  pub memoizing : (x : ℕ) → Memoizing σ x f y z ↔ (EverComputed σ f y z → (r : ℕ) × (r < σ.header.registers) × Result σ f y z r)
  memoizing x = (
    λ h (s, m). let (r, b, c) = h (app f m.first m.second) m.listed ((extend_new σ v f ym zm m.listed).1 (record {
      first = m.first;
      second = m.second;
      listed = m.listed;
      at_first = m.at_first;
      at_second = m.at_second;
      gives = reflexive m.listed;
    })) in
        (r, b, (extend_new σ v f ym zm (v.values r b)).0 c),
    λ h s m c. let (r, b, k) = h (s, (extend_new σ v f ym zm m).0 c) in (r, b, (extend_new σ v f ym zm (v.values r b)).1 k),
  )
