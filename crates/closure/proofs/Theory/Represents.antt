-- What follows from the definitions of specs/Represents.antt.
use mathlib.Core.Path.{◌≡◌, refl, sym, ◌∙◌, ap, subst}
use mathlib.Core.Logic.{◌⊎◌, inl, inr, ◌≢◌}
use mathlib.Core.Bool.{Bool, true, false, cond}
use mathlib.Core.List.Memᴰ
use mathlib.Core.List.{List, [], ◌∷◌}
use Prim.Native.Nat.{ℕ, zero, suc, ◌≤◌, ◌<◌}
use native.Mathlib.Omega.{arith}
use lib.Dec.{eqb, ltb}
use lib.ListN.{length}
use borrow.Author.Tests.{eqb-true, eqb-false, ltb-true, ltb-false}
use Rattle.base.proofs.Theory.Choice.{by_test}
use Rattle.letters.specs.declared.Header.{Header}
use Rattle.letters.specs.declared.Letter.TheVariants.{Copy, Apply, Equal, Unequal}
use Rattle.letters.specs.Letters.{Fits}
use Rattle.semantics.specs.Terms.{◌∈◌, Term, con, app, State, begin, start, constants, after}
use Rattle.semantics.specs.Closure.{Closure, reflexive, symmetric, transitive, congruence}
use Rattle.semantics.specs.Facts.{Valid}
use Rattle.semantics.proofs.Theory.Facts.{after_valid, state_valid, closure_in}
use Rattle.semantics.proofs.Theory.ClosureLaws.{weaken, more_tests}
use Rattle.semantics.specs.Models.{Feasible}
use Rattle.semantics.proofs.Theory.Shown.{corollary_2}
use Rattle.closure.specs.Numbering.{nth, Numbered, Closed}
use Rattle.closure.proofs.Theory.Numbering.{nth_in, nth_of, nth_last, nth_old, exact}
use Rattle.closure.specs.Merging.{Entailed}
use Rattle.closure.specs.Represents.{RepresentsState, Sides}

-- a number is old or the new one
old_or : (i n : ℕ) → i < suc n → (i < n) ⊎ (i ≡ n)
old_or i n h = by_test (ltb i n) (λ e. inl (ltb-true i n e)) (λ e. inr (let g = ltb-false i n e in omega arith))

module _ (σ : State) (function first second representative : ℕ → ℕ) (registers n : ℕ) (value : ℕ → ℕ)
    (w : RepresentsState σ function first second representative registers n value) where
  number : {t : Term} → t ∈ σ.terms → (i : ℕ) × (i < n) × (nth σ.terms i ≡ t)
  number m = let (i, l, e) = nth_of m in let c = w.numbered.count in (i, omega arith, e)

  -- what the earlier tests joined
  old_tests : (s t : Term) → (s, t) ∈ σ.equals
      → (i : ℕ) × (j : ℕ) × (i < n) × (j < n) × (nth σ.terms i ≡ s) × (nth σ.terms j ≡ t) × (representative i ≡ representative j)
  old_tests s t m =
      let (a, b) = w.valid.equal_sides s t m in
      let (i, li, ei) = number a in
      let (j, lj, ej) = number b in (
        i,
        j,
        li,
        lj,
        ei,
        ej,
        w.exactly.complete i j li lj
            (subst (λ u. Closure σ.terms σ.equals u (nth σ.terms j)) (sym ei)
            (subst (λ u. Closure σ.terms σ.equals s u) (sym ej) (Closure.test m))),
      )

  -- ── an equal test ──
  module _ (x y : ℕ) (lx : x < registers) (ly : y < registers) where
    entailed : {i j : ℕ} → Entailed function first second registers n representative (value x) (value y) i j
        → Closure σ.terms ((σ.value x, σ.value y) ∷ σ.equals) (nth σ.terms i) (nth σ.terms j)
    entailed (Entailed.already h k e) = more_tests (σ.value x, σ.value y) (w.exactly.sound _ _ h k e)
    entailed Entailed.tested = subst (λ u. Closure σ.terms ((σ.value x, σ.value y) ∷ σ.equals) u (nth σ.terms (value y))) (sym (w.value_is x lx))
        (subst (λ u. Closure σ.terms ((σ.value x, σ.value y) ∷ σ.equals) (σ.value x) u) (sym (w.value_is y ly)) (Closure.test (Memᴰ.head refl)))
    entailed (Entailed.reversed c) = symmetric (entailed c)
    entailed (Entailed.chained c d) = transitive (entailed c) (entailed d)
    entailed (Entailed.congruent {i} {j} p h q k e c d) =
        let a = w.numbered.application i p h in
        let b = w.numbered.application j q k in
        let b' : nth σ.terms j ≡ app (function i) (nth σ.terms (first j)) (nth σ.terms (second j)) =
        subst (λ f. nth σ.terms j ≡ app f (nth σ.terms (first j)) (nth σ.terms (second j))) (sym e) b in
        let l = w.numbered.count in
        let m = nth_in σ.terms i (omega arith) in
        let o = nth_in σ.terms j (omega arith) in
        subst (λ u. Closure σ.terms ((σ.value x, σ.value y) ∷ σ.equals) u (nth σ.terms j)) (sym a)
        (subst (λ u. Closure σ.terms ((σ.value x, σ.value y) ∷ σ.equals) (app (function i) (nth σ.terms (first i)) (nth σ.terms (second i))) u)
        (sym b')
        (congruence (subst (λ u. u ∈ σ.terms) a m) (subst (λ u. u ∈ σ.terms) b' o) (entailed c) (entailed d)))

    module _ (representative' : ℕ → ℕ)
        (sound : (i j : ℕ) → i < n → j < n → representative' i ≡ representative' j
        → Entailed function first second registers n representative (value x) (value y) i j)
        (keeps : (i j : ℕ) → i < n → j < n → representative i ≡ representative j → representative' i ≡ representative' j)
        (joins : representative' (value x) ≡ representative' (value y))
        (closed : Closed function first second registers n representative') (named : (i : ℕ) → i < n → representative' i < n) where
      abbrev σ' : State
      σ' = after σ (Equal x y)

      valid' : Valid σ'
      valid' = after_valid σ (Equal x y) w.valid (let r = w.header_registers in (omega arith, omega arith))

      tests : (s t : Term) → (s, t) ∈ σ'.equals
          → (i : ℕ) × (j : ℕ) × (i < n) × (j < n) × (nth σ.terms i ≡ s) × (nth σ.terms j ≡ t) × (representative' i ≡ representative' j)
      tests s t m = elim (Memᴰ.cases_cons m) [
        | inl e ↦ (
          value x,
          value y,
          w.value_below x lx,
          w.value_below y ly,
          w.value_is x lx ∙ sym (ap (λ (p : Term × Term). p.0) e),
          w.value_is y ly
              ∙ sym (ap (λ (p : Term × Term). p.1) e),
          joins,
        )
        | inr k ↦ let (i, j, li, lj, ei, ej, c) = old_tests s t k in (i, j, li, lj, ei, ej, keeps i j li lj c)
      ]

      pub represents_equal : RepresentsState (after σ (Equal x y)) function first second representative' registers n value
      represents_equal = record {
        valid = valid';
        header_registers = w.header_registers;
        numbered = w.numbered;
        closed = closed;
        exactly = exact σ.terms σ'.equals function first second registers n w.numbered representative' closed tests (λ s t c. closure_in σ' valid' c)
            (λ i j h k e. entailed (sound i j h k e));
        named = named;
        value_below = w.value_below;
        value_is = w.value_is;
      }

  -- ── an unequal test, and what it says of feasibility ──
  pub represents_unequal : (x y : ℕ) → x < registers → y < registers
      → RepresentsState (after σ (Unequal x y)) function first second representative registers n value
  represents_unequal x y lx ly = record {
    valid = after_valid σ (Unequal x y) w.valid (let r = w.header_registers in (omega arith, omega arith));
    header_registers = w.header_registers;
    numbered = w.numbered;
    closed = w.closed;
    exactly = w.exactly;
    named = w.named;
    value_below = w.value_below;
    value_is = w.value_is;
  }

  module _ (left right left' right' : ℕ → ℕ) (m : ℕ) (s : Sides σ n left right m) where
    -- one more unequal test
    pub sides_unequal : (x y : ℕ) → x < registers → y < registers → ((q : ℕ) → q < m → left' q ≡ left q) → ((q : ℕ) → q < m → right' q ≡ right q)
        → left' m ≡ value x → right' m ≡ value y
        → Sides (after σ (Unequal x y)) n left' right' (suc m)
    sides_unequal x y lx ly le re ln rn = record {
      left_below = λ q h. elim (old_or q m h)
          [ inl l ↦ subst (λ v. v < n) (sym (le q l)) (s.left_below q l) | inr e ↦ subst (λ v. v < n) (sym (ap left' e ∙ ln)) (w.value_below x lx) ];
      right_below = λ q h. elim (old_or q m h)
          [ inl l ↦ subst (λ v. v < n) (sym (re q l)) (s.right_below q l) | inr e ↦ subst (λ v. v < n) (sym (ap right' e ∙ rn)) (w.value_below y ly) ];
      listed = λ q h. elim (old_or q m h) [
        | inl l ↦ Memᴰ.tail (subst (λ v. (nth σ.terms v, nth σ.terms (right' q)) ∈ σ.unequals) (sym (le q l))
            (subst (λ v. (nth σ.terms (left q), nth σ.terms v) ∈ σ.unequals) (sym (re q l)) (s.listed q l)))
        | inr e ↦ Memᴰ.head (λ i. (at_left q e i, at_right q e i))
      ];
      all = λ u v k. elim (Memᴰ.cases_cons k) [
        | inl e ↦ (m, omega arith, at_left m refl ∙ sym (ap (λ (p : Term × Term). p.0) e), at_right m refl ∙ sym (ap (λ (p : Term × Term). p.1) e))
        | inr k ↦ let (q, h, a, b) = s.all u v k in (q, omega arith, ap (nth σ.terms) (le q h) ∙ a, ap (nth σ.terms) (re q h) ∙ b)
      ];
    }
      where
        at_left : (q : ℕ) → q ≡ m → nth σ.terms (left' q) ≡ σ.value x
        at_left q e = ap (nth σ.terms) (ap left' e ∙ ln) ∙ w.value_is x lx

        at_right : (q : ℕ) → q ≡ m → nth σ.terms (right' q) ≡ σ.value y
        at_right q e = ap (nth σ.terms) (ap right' e ∙ rn) ∙ w.value_is y ly

    -- one more term
    pub sides_apply : (x f y z : ℕ) → Sides (after σ (Apply x f y z)) (suc n) left right m
    sides_apply x f y z = record {
      left_below = λ q h. let a = s.left_below q h in omega arith;
      right_below = λ q h. let a = s.right_below q h in omega arith;
      listed = λ q h. subst (λ u. (u, nth U' (right q)) ∈ σ.unequals) (sym (still (left q) (s.left_below q h)))
          (subst (λ u. (nth σ.terms (left q), u) ∈ σ.unequals) (sym (still (right q) (s.right_below q h))) (s.listed q h));
      all = λ u v k. let (q, h, a, b) = s.all u v k in (q, h, still (left q) (s.left_below q h) ∙ a, still (right q) (s.right_below q h) ∙ b);
    }
      where
        U' : List Term
        U' = app f (σ.value y) (σ.value z) ∷ σ.terms

        still : (i : ℕ) → i < n → nth U' i ≡ nth σ.terms i
        still i h = let c = w.numbered.count in nth_old (app f (σ.value y) (σ.value z)) σ.terms i (omega arith)

  pub infeasible_i : (left right : ℕ → ℕ) (m : ℕ) → Sides σ n left right m → (q : ℕ) → q < m → representative (left q) ≡ representative (right q) → ¬ Feasible σ
  infeasible_i left right m a q h e f =
      (corollary_2 σ w.valid).0 f
      (nth σ.terms (left q), nth σ.terms (right q), a.listed q h, w.exactly.sound _ _ (a.left_below q h) (a.right_below q h) e)

  pub feasible_i : (left right : ℕ → ℕ) (m : ℕ) → Sides σ n left right m → ((q : ℕ) → q < m → representative (left q) ≢ representative (right q)) → Feasible σ
  feasible_i left right m a none = (corollary_2 σ w.valid).1 (λ c.
      let (q, h, es, et) = a.all c.0 c.1 c.2 in
      none q h (w.exactly.complete _ _ (a.left_below q h) (a.right_below q h)
      (subst (λ u. Closure σ.terms σ.equals u (nth σ.terms (right q))) (sym es)
      (subst (λ u. Closure σ.terms σ.equals c.0 u) (sym et) c.3))))

  -- ── a copy ──
  pub represents_copy : (x y : ℕ) (value' : ℕ → ℕ) → x < registers → y < registers → ((r : ℕ) → value' r ≡ value (cond (eqb r x) y r))
      → RepresentsState (after σ (Copy x y)) function first second representative registers n value'
  represents_copy x y value' lx ly same = record {
    valid = after_valid σ (Copy x y) w.valid (let r = w.header_registers in (omega arith, omega arith));
    header_registers = w.header_registers;
    numbered = w.numbered;
    closed = w.closed;
    exactly = w.exactly;
    named = w.named;
    value_below = λ r h. subst (λ v. v < n) (sym (same r)) (w.value_below (cond (eqb r x) y r) (source r h));
    value_is = λ r h. ap (nth σ.terms) (same r) ∙ w.value_is (cond (eqb r x) y r) (source r h);
  }
    where
      source : (r : ℕ) → r < registers → cond (eqb r x) y r < registers
      source r h = elim (eqb r x) as (λ b. cond b y r < registers) [ true ↦ ly | false ↦ h ]

  -- ── an application ──
  -- k is the class of f of the terms a and b: that of a computed one, or a new name
  pub data Looked (f a b k : ℕ) : Type 0 where
    known : (m : ℕ) → registers ≤ m → m < n → function m ≡ f → representative (first m) ≡ representative a → representative (second m) ≡ representative b
        → k ≡ representative m → Looked f a b k
    fresh : k ≡ n → ((m : ℕ) → registers ≤ m → m < n → function m ≡ f → representative (first m) ≡ representative a
        → representative (second m) ≡ representative b → ⊥) → Looked f a b k

  module _ (x f y z k : ℕ) (fits : Fits σ.header (Apply x f y z)) (look : Looked f (value y) (value z) k)
      (function' first' second' representative' value' : ℕ → ℕ)
      (function_old : (i : ℕ) → i < n → function' i ≡ function i) (first_old : (i : ℕ) → i < n → first' i ≡ first i)
      (second_old : (i : ℕ) → i < n → second' i ≡ second i) (representative_old : (i : ℕ) → i < n → representative' i ≡ representative i)
      (function_new : function' n ≡ f) (first_new : first' n ≡ value y) (second_new : second' n ≡ value z) (representative_new : representative' n ≡ k)
      (value_new : value' x ≡ n) (value_old : (r : ℕ) → r ≢ x → value' r ≡ value r) where
    U : List Term
    U = σ.terms

    abbrev t : Term
    t = app f (σ.value y) (σ.value z)

    abbrev U' : List Term
    U' = t ∷ σ.terms

    abbrev E : List (Term × Term)
    E = σ.equals

    ly : y < registers
    ly = let r = w.header_registers in let a = fits.2 in omega arith

    lz : z < registers
    lz = let r = w.header_registers in let a = fits.3 in omega arith

    nth_new : nth U' n ≡ t
    nth_new = nth_last t σ.terms n (sym w.numbered.count)

    nth_same : (i : ℕ) → i < n → nth U' i ≡ nth σ.terms i
    nth_same i h = let c = w.numbered.count in nth_old t σ.terms i (omega arith)

    app_path : {g h : ℕ} {a b c d : Term} → g ≡ h → a ≡ c → b ≡ d → app g a b ≡ app h c d
    app_path p q r = λ i. app (p i) (q i) (r i)

    first_n : (i : ℕ) → registers ≤ i → i < n → first i < n
    first_n i p h = let a = w.numbered.first_before i p h in omega arith

    second_n : (i : ℕ) → registers ≤ i → i < n → second i < n
    second_n i p h = let a = w.numbered.second_before i p h in omega arith

    vy : value y < n
    vy = w.value_below y ly

    vz : value z < n
    vz = w.value_below z lz

    at_old : (i : ℕ) → registers ≤ i → i < n → nth U' i ≡ app (function' i) (nth U' (first' i)) (nth U' (second' i))
    at_old i p h = nth_same i h ∙ w.numbered.application i p h ∙ app_path (sym (function_old i h))
        (sym (ap (nth U') (first_old i h) ∙ nth_same (first i) (first_n i p h))) (sym (ap (nth U') (second_old i h) ∙ nth_same (second i) (second_n i p h)))

    at_new : nth U' n ≡ app (function' n) (nth U' (first' n)) (nth U' (second' n))
    at_new = nth_new ∙ app_path (sym function_new) (sym (ap (nth U') first_new ∙ nth_same (value y) vy ∙ w.value_is y ly))
        (sym (ap (nth U') second_new ∙ nth_same (value z) vz ∙ w.value_is z lz))

    numbered' : Numbered U' function' first' second' registers (suc n)
    numbered' = record {
      count = ap suc w.numbered.count;
      some = let a = w.numbered.some in omega arith;
      constant = λ i h. let a = w.numbered.some in nth_same i (omega arith) ∙ w.numbered.constant i h;
      application = λ i p h. elim (old_or i n h)
          [ inl l ↦ at_old i p l | inr e ↦ subst (λ i. nth U' i ≡ app (function' i) (nth U' (first' i)) (nth U' (second' i))) (sym e) at_new ];
      first_before = λ i p h. elim (old_or i n h) [
        | inl l ↦ subst (λ v. v < i) (sym (first_old i l)) (w.numbered.first_before i p l)
        | inr e ↦
            subst (λ i. first' i < i) (sym e) (subst (λ v. v < n) (sym first_new) vy)
      ];
      second_before = λ i p h. elim (old_or i n h) [
        | inl l ↦ subst (λ v. v < i) (sym (second_old i l)) (w.numbered.second_before i p l)
        | inr e ↦
            subst (λ i. second' i < i) (sym e) (subst (λ v. v < n) (sym second_new) vz)
      ];
    }

    first_class : (i : ℕ) → registers ≤ i → i < n → representative' (first' i) ≡ representative (first i)
    first_class i p h = ap representative' (first_old i h) ∙ representative_old (first i) (first_n i p h)

    second_class : (i : ℕ) → registers ≤ i → i < n → representative' (second' i) ≡ representative (second i)
    second_class i p h = ap representative' (second_old i h) ∙ representative_old (second i) (second_n i p h)

    first_class_new : representative' (first' n) ≡ representative (value y)
    first_class_new = ap representative' first_new ∙ representative_old (value y) vy

    second_class_new : representative' (second' n) ≡ representative (value z)
    second_class_new = ap representative' second_new ∙ representative_old (value z) vz

    -- an old application that is congruent to the new one has its class
    meets : (i : ℕ) → registers ≤ i → i < n → function i ≡ f → representative (first i) ≡ representative (value y)
        → representative (second i) ≡ representative (value z) → representative i ≡ k
    unfolding Closed
    meets i p h e u v = go look
      where
        go : Looked f (value y) (value z) k → representative i ≡ k
        go (known m q l a b c d) = w.closed i m p h q l (e ∙ sym a) (u ∙ sym b) (v ∙ sym c) ∙ sym d
        go (fresh a none) = absurd (none i p h e u v)

    closed' : Closed function' first' second' registers (suc n) representative'
    unfolding Closed
    closed' i j p h q l e u v = elim (old_or i n h) [
      | inl a ↦ elim (old_or j n l) [
        | inl b ↦ representative_old i a
            ∙ w.closed i j p a q b (sym (function_old i a) ∙ e ∙ function_old j b) (sym (first_class i p a) ∙ u ∙ first_class j q b)
            (sym (second_class i p a) ∙ v ∙ second_class j q b) ∙ sym (representative_old j b)
        | inr b ↦ first_new' i j p a b e u v
      ]
      | inr a ↦ elim (old_or j n l) [
        | inl b ↦ sym (first_new' j i q b a (sym e) (sym u) (sym v))
        | inr b ↦ ap representative' (a ∙ sym b)
      ]
    ]
      where
        first_new' : (i j : ℕ) → registers ≤ i → i < n → j ≡ n → function' i ≡ function' j → representative' (first' i) ≡ representative' (first' j)
            → representative' (second' i) ≡ representative' (second' j) → representative' i ≡ representative' j
        first_new' i j p a b e u v = representative_old i a
            ∙ meets i p a (sym (function_old i a) ∙ e ∙ ap function' b ∙ function_new)
            (sym (first_class i p a) ∙ u ∙ ap (λ n. representative' (first' n)) b ∙ first_class_new)
            (sym (second_class i p a) ∙ v ∙ ap (λ n. representative' (second' n)) b ∙ second_class_new)
            ∙ sym representative_new ∙ ap representative' (sym b)

    wider : {s u : Term} → Closure σ.terms E s u → Closure U' E s u
    wider c = weaken (λ t m. Memᴰ.tail m) c

    -- the new term is equal to the old ones of its class
    new_sound : (j : ℕ) → j < n → k ≡ representative j → Closure U' E t (nth σ.terms j)
    new_sound j h e = go look
      where
        go : Looked f (value y) (value z) k → Closure U' E t (nth σ.terms j)
        go (known m q l a b c d) =
            let o = w.numbered.count in
            let r : nth σ.terms m ≡ app f (nth σ.terms (first m)) (nth σ.terms (second m)) =
            w.numbered.application m q l ∙ ap (λ g. app g (nth σ.terms (first m)) (nth σ.terms (second m))) a in
            let i : app f (nth σ.terms (first m)) (nth σ.terms (second m)) ∈ σ.terms = subst (λ s. s ∈ σ.terms) r (nth_in σ.terms m (omega arith)) in
            let cy : Closure σ.terms E (σ.value y) (nth σ.terms (first m)) =
            subst (λ s. Closure σ.terms E s (nth σ.terms (first m))) (w.value_is y ly)
            (w.exactly.sound (value y) (first m) vy (first_n m q l) (sym b)) in
            let cz : Closure σ.terms E (σ.value z) (nth σ.terms (second m)) =
            subst (λ s. Closure σ.terms E s (nth σ.terms (second m))) (w.value_is z lz)
            (w.exactly.sound (value z) (second m) vz (second_n m q l) (sym c)) in
            transitive (subst (Closure U' E t) (sym r) (congruence (Memᴰ.head refl) (Memᴰ.tail i) (wider cy) (wider cz)))
            (wider (w.exactly.sound m j l h (sym d ∙ e)))
        go (fresh a none) = absurd (let b = w.named j h in omega arith)

    sound' : (i j : ℕ) → i < suc n → j < suc n → representative' i ≡ representative' j → Closure U' E (nth U' i) (nth U' j)
    sound' i j h l e = elim (old_or i n h) [
      | inl a ↦ elim (old_or j n l) [
        | inl b ↦ subst (λ s. Closure U' E s (nth U' j)) (sym (nth_same i a))
            (subst (Closure U' E (nth σ.terms i)) (sym (nth_same j b))
            (wider (w.exactly.sound i j a b (sym (representative_old i a) ∙ e ∙ representative_old j b))))
        | inr b ↦ symmetric (mixed j i b a (sym e))
      ]
      | inr a ↦ elim (old_or j n l) [
        | inl b ↦ mixed i j a b e
        | inr b ↦ subst (λ v. Closure U' E (nth U' i) (nth U' v)) (a ∙ sym b)
            (subst (λ v. Closure U' E v v) (sym (ap (nth U') a ∙ nth_new)) (reflexive (Memᴰ.head refl)))
      ]
    ]
      where
        mixed : (i j : ℕ) → i ≡ n → j < n → representative' i ≡ representative' j → Closure U' E (nth U' i) (nth U' j)
        mixed i j a b e = subst (λ s. Closure U' E s (nth U' j)) (sym (ap (nth U') a ∙ nth_new))
            (subst (Closure U' E t) (sym (nth_same j b)) (new_sound j b (sym representative_new ∙ ap representative' (sym a) ∙ e ∙ representative_old j b)))

    k_below : k < suc n
    k_below = go look
      where
        go : Looked f (value y) (value z) k → k < suc n
        go (known m q l a b c d) = let e = w.named m l in omega arith
        go (fresh a none) = omega arith

    valid'' : Valid (after σ (Apply x f y z))
    valid'' = after_valid σ (Apply x f y z) w.valid fits

    pub represents_apply : RepresentsState (after σ (Apply x f y z)) function' first' second' representative' registers (suc n) value'
    represents_apply = record {
      valid = valid'';
      header_registers = w.header_registers;
      numbered = numbered';
      closed = closed';
      exactly = exact U' E function' first' second' registers (suc n) numbered' representative' closed'
          (λ s u m. let (i, j, li, lj, ei, ej, c) = old_tests s u m in
          (i, j, omega arith, omega arith, nth_same i li ∙ ei, nth_same j lj ∙ ej, representative_old i li ∙ c ∙ sym (representative_old j lj)))
          (λ s u c. closure_in (after σ (Apply x f y z)) valid'' c) sound';
      named = λ i h. elim (old_or i n h) [
        | inl l ↦ let a = representative_old i l in let b = w.named i l in
            omega arith
        | inr e ↦ subst (λ v. v < suc n) (sym (ap representative' e ∙ representative_new)) k_below
      ];
      value_below = λ r h. by_test (eqb r x) (λ e. let q = eqb-true r x e in subst (λ v. v < suc n) (sym (ap value' q ∙ value_new)) (omega arith))
          (λ e. let a = value_old r (eqb-false r x e) in let b = w.value_below r h in omega arith);
      value_is = λ r h. after_value r h (eqb r x) refl;
    }
      where
        after_value : (r : ℕ) → r < registers → (b : Bool) → eqb r x ≡ b → nth U' (value' r) ≡ elim b [ true ↦ t | false ↦ σ.value r ]
        after_value r h true e = ap (nth U') (ap value' (eqb-true r x e) ∙ value_new) ∙ nth_new
        after_value r h false e = ap (nth U') (value_old r (eqb-false r x e)) ∙ nth_same (value r) (w.value_below r h) ∙ w.value_is r h

-- ── before any letter ──
constants_length : (r : ℕ) → length (constants r) ≡ r
constants_length zero = refl
constants_length (suc r) = ap suc (constants_length r)

constants_nth : (r i : ℕ) → i < r → nth (constants r) i ≡ con i
constants_nth zero i h = absurd (omega arith)
constants_nth (suc r) i h = by_test (eqb i r)
    (λ e. let q = eqb-true i r e in nth_last (con r) (constants r) i (q ∙ sym (constants_length r)) ∙ ap con (sym q))
    (λ e. let d : i ≢ r = eqb-false i r e in let l = constants_length r in nth_old (con r) (constants r) i (omega arith) ∙ constants_nth r i (omega arith))

pub represents_start : (h : Header) (function first second representative value : ℕ → ℕ) → ((i : ℕ) → i < h.registers → representative i ≡ i)
    → ((i : ℕ) → i < h.registers → value i ≡ i)
    → RepresentsState (start h) function first second representative h.registers h.registers value
unfolding Closed
represents_start h function first second representative value c v = record {
  valid = ok;
  header_registers = refl;
  numbered = num;
  closed = st;
  exactly = exact (constants h.registers) [] function first second h.registers h.registers num representative st
      (λ s t m. absurd (Memᴰ.not-nil m)) (λ s t d. closure_in (start h) ok d)
      (λ i j p q e. let l = constants_length h.registers in
      subst (λ k. Closure (constants h.registers) [] (nth (constants h.registers) i) (nth (constants h.registers) k)) (sym (c i p) ∙ e ∙ c j q)
      (reflexive (nth_in (constants h.registers) i (omega arith))));
  named = λ i p. let e = c i p in omega arith;
  value_below = λ r p. let e = v r p in omega arith;
  value_is = λ r p. ap (nth (constants h.registers)) (v r p) ∙ constants_nth h.registers r p;
}
  where
    ok : Valid (start h)
    ok = state_valid (begin h) tt

    num : Numbered (constants h.registers) function first second h.registers h.registers
    num = record {
      count = constants_length h.registers;
      some = omega arith;
      constant = constants_nth h.registers;
      application = λ i p q. absurd (omega arith);
      first_before = λ i p q. absurd (omega arith);
      second_before = λ i p q. absurd (omega arith);
    }

    st : Closed function first second h.registers h.registers representative
    st i j p q a b e u w = absurd (omega arith)
