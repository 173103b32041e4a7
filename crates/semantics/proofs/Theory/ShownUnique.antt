-- The shown tables are those that document 01 asks for, and there are no others.
use mathlib.Core.Path.{◌≡◌, refl, sym, ◌∙◌, ap, subst}
use mathlib.Core.List.Memᴰ
use mathlib.Core.List.{List, [], ◌∷◌, reverse}
use Prim.Native.Nat.{ℕ, suc, ◌<◌}
use native.Mathlib.Omega.{arith}
use lib.ListN.{length, get_or}
use Rattle.semantics.specs.Terms.{◌∈◌, Term, con, app, Trace, state}
use Rattle.semantics.specs.Facts.{WellFormed}
use Rattle.semantics.specs.Facts.{Valid}
use Rattle.semantics.proofs.Theory.Facts.{state_valid}
use Rattle.semantics.specs.Tables.{Row, Tables, row_of}
use Rattle.semantics.specs.ShownTables.{classes_of, class_value, shown_tables}
use Rattle.semantics.specs.Numbering.{RowListing, IsShown}
use Rattle.semantics.proofs.Theory.NumberingLaws.{numbering, numbering_unique, listing_unique}
use Rattle.semantics.specs.ShownTables.{tables_of}
use Rattle.semantics.proofs.Theory.Shown.{start_at, listing, to, back}
use Rattle.semantics.proofs.Theory.ShownPacked.{starts_length}
use Rattle.semantics.proofs.Theory.PaperLaws.{constants_computed}

-- lists of one length with the same entries
same_entries : (l m : List ℕ) → length l ≡ length m → ((i : ℕ) → i < length l → get_or l i 0 ≡ get_or m i 0) → l ≡ m
same_entries [] [] e h = refl
same_entries [] (y ∷ m) e h = absurd (omega arith)
same_entries (x ∷ l) [] e h = absurd (omega arith)
same_entries (x ∷ l) (y ∷ m) e h =
    let p : x ≡ y = h 0 (omega arith) in
    let q : l ≡ m = same_entries l m (omega arith) (λ i b. h (suc i) (omega arith)) in
    λ i. p i ∷ q i

module _ (n : ℕ) (U : List Term) (E : List (Term × Term)) (sub : (f : ℕ) (a b : Term) → app f a b ∈ U → (a ∈ U) × (b ∈ U)) where
  pub shown_is : IsShown n U E (shown_tables n U E)
  unfolding shown_tables
  shown_is = record {
    value = class_value U E;
    classes = length (classes_of U E);
    numbering = numbering U E sub;
    count = refl;
    registers = starts_length (class_value U E) 0 n;
    starts = λ r b. start_at (class_value U E) 0 n r b ∙ ap (λ (k : ℕ). class_value U E (con k)) (omega arith);
    listing = listing n U E sub;
  }

  -- values that agree on the computed terms have the same rows
  listing_along : (v w : Term → ℕ) {rows : List Row} → ((t : Term) → t ∈ U → v t ≡ w t) → RowListing U v rows → RowListing U w rows
  listing_along v w e h = record {
    computed = λ r m. let (f, s, t, i, p) = h.computed r m in (f, s, t, i, p ∙ row f s t i);
    complete = λ f s t m. Memᴰ.cast (sym (row f s t m)) (h.complete f s t m);
    distinct = h.distinct;
    ordered = λ earlier later r p.
        let (b, a, f, s, t, q, o, g) = h.ordered earlier later r p in
        let here : app f s t ∈ U = subst (λ l. app f s t ∈ l) (sym q) (Memᴰ.append_right b (Memᴰ.head refl)) in (
          b,
          a,
          f,
          s,
          t,
          q,
          o ∙ row f s t here,
          λ k u x m.
              Memᴰ.cast (sym (row k u x (subst (λ l. app k u x ∈ l) (sym q) (Memᴰ.append_left (app f s t ∷ a) m)))) (g k u x m),
        );
  }
    where
      row : (f : ℕ) (s t : Term) → app f s t ∈ U → row_of v f s t ≡ row_of w f s t
      row f s t m =
          let (i, j) = sub f s t m in
          let a = e s i in
          let b = e t j in
          let c = e (app f s t) m in
          λ k. record { function = f; first = a k; second = b k; result = c k }

  -- where the initial constants are computed
  pub shown_unique : ((r : ℕ) → r < n → con r ∈ U) → (t u : Tables) → IsShown n U E t → IsShown n U E u → t ≡ u
  shown_unique constants t u x y =
      let (agree, classes) = numbering_unique U E sub x.value y.value x.classes y.classes x.numbering y.numbering in
      let counts : t.count ≡ u.count = x.count ∙ ap suc classes ∙ sym y.count in
      let starts : t.starts ≡ u.starts = same_entries t.starts u.starts (x.registers ∙ sym y.registers) (λ r b.
      let below : r < n = omega (arith, x.registers) in
      x.starts r below ∙ agree (con r) (constants r below) ∙ sym (y.starts r below)) in
      let rows : t.rows ≡ u.rows = listing_unique U y.value t.rows u.rows (listing_along x.value y.value agree x.listing) y.listing in
      λ i. record { count = counts i; starts = starts i; rows = rows i }

-- ── for a trace ──
module _ (ρ : Trace) (w : WellFormed ρ) where
  valid : Valid (state ρ)
  valid = state_valid ρ w

  sub : (f : ℕ) (a b : Term) → app f a b ∈ reverse (state ρ).terms → (a ∈ reverse (state ρ).terms) × (b ∈ reverse (state ρ).terms)
  sub f a b m = let (i, j) = valid.arguments f a b (back (state ρ) valid m) in (to (state ρ) valid i, to (state ρ) valid j)

  pub tables_are : IsShown (state ρ).header.registers (reverse (state ρ).terms) (state ρ).equals (tables_of (state ρ))
  unfolding tables_of
  tables_are = shown_is (state ρ).header.registers (reverse (state ρ).terms) (state ρ).equals sub

  pub tables_unique : (t : Tables) → IsShown (state ρ).header.registers (reverse (state ρ).terms) (state ρ).equals t → t ≡ tables_of (state ρ)
  tables_unique t x =
      shown_unique (state ρ).header.registers (reverse (state ρ).terms) (state ρ).equals sub
      (λ r b. to (state ρ) valid (constants_computed ρ r b)) t (tables_of (state ρ)) x tables_are
