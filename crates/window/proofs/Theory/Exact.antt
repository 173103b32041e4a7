-- The number of classes that the window of a state keeps is that of the state: "it equals the count of classes" (document 02, 6).
use mathlib.Core.Path.{◌≡◌, sym, ap, ◌∙◌, subst}
use mathlib.Core.Logic.{◌⊎◌, inl, inr, ◌↔◌, ◌≢◌, ⊎_elim}
use mathlib.Core.List.{List}
use Prim.Native.Nat.{ℕ, zero, suc, ◌≤◌, ◌<◌}
use native.Mathlib.Omega.{arith}
use lib.Dec.{T, eqb, ltb}
use lib.ListN.{get_or}
use borrow.Author.Tests.{eqb-true, eqb-false, ltb-true, ltb-false}
use Rattle.base.specs.Choice.{pick}
use Rattle.base.proofs.Theory.Choice.{by_test}
use Rattle.base.specs.Masks.{has}
use Rattle.base.specs.LeastAndSize.{least_in, size_of}
use Rattle.semantics.specs.Terms.{Trace, State, state}
use Rattle.semantics.specs.Facts.{WellFormed, Valid}
use Rattle.semantics.specs.View.{Tracks}
use Rattle.semantics.specs.FirstLetters.{coherent_part}
use Rattle.semantics.specs.Judgement.{Longest}
use Rattle.semantics.proofs.Theory.Facts.{state_valid}
use Rattle.semantics.proofs.Theory.JudgementLaws.{part_formed, longest_is, longest_unique}
use Rattle.window.specs.Layout.{registers, functions}
use Rattle.window.specs.Naming.{naming_registers}
use Rattle.window.specs.Counting.{counted_classes}
use Rattle.window.specs.Classes.{ClassCount}
use Rattle.window.specs.Viewing.{view, Inside}
use Rattle.window.specs.Step.{IsWindow}
use Rattle.window.specs.Stepping.{IsWindowInLayout}
use Rattle.window.specs.declared.Window.{Window}
use Rattle.window.proofs.Theory.Bits.{less_or}
use Rattle.window.proofs.Theory.Laws.{laws_of}
use Rattle.window.proofs.Theory.Naming.{names_is}
use Rattle.window.proofs.Theory.Sizes.{size_before, size_onto}
use Rattle.window.proofs.Theory.Counting.{Together, Partition, name_of, named_is}
use Rattle.window.proofs.Theory.Counted.{partition_of}

-- ---- the classes of a table are numbered by their names

module _ (ρ n : ℕ) (l : List ℕ) (p : Partition ρ n l) where
  -- how many names are lower than that of the register's class
  abbrev pub number_in : ℕ → ℕ
  number_in r = size_of (least_in ρ (get_or l r 0)) (naming_registers ρ l)

  name_below : (r : ℕ) → r < n → least_in ρ (get_or l r 0) < n
  name_below r b = let (low, _, _) = name_of ρ p r b in omega arith

  name_names : (r : ℕ) → r < n → T (has (naming_registers ρ l) (least_in ρ (get_or l r 0)))
  name_names r b =
      let (low, t, none) = name_of ρ p r b in
      let k = name_below r b in
      (named_is ρ p (least_in ρ (get_or l r 0))).1 (k, λ s h u. none s h (p.joined r (least_in ρ (get_or l r 0)) s b k (omega arith) t u))

  -- registers of one class have one name
  same_name : (r s : ℕ) → r < n → s < n → Together l r s → least_in ρ (get_or l r 0) ≡ least_in ρ (get_or l s 0)
  same_name r s rb sb t =
      let (_, a, none) = name_of ρ p r rb in
      let (_, b, none') = name_of ρ p s sb in
      let ab = name_below r rb in
      let bb = name_below s sb in
      ⊎_elim
      (λ h. absurd (none' (least_in ρ (get_or l r 0)) h (p.joined s r (least_in ρ (get_or l r 0)) sb rb ab (p.turned r s rb sb t) a)))
      (λ h. ⊎_elim (λ k. absurd (none (least_in ρ (get_or l s 0)) k (p.joined r s (least_in ρ (get_or l s 0)) rb sb bb t b))) (λ k. omega arith)
      (less_or (least_in ρ (get_or l s 0)) (least_in ρ (get_or l r 0))))
      (less_or (least_in ρ (get_or l r 0)) (least_in ρ (get_or l s 0)))

  -- registers of one name are of one class
  one_name : (r s : ℕ) → r < n → s < n → least_in ρ (get_or l r 0) ≡ least_in ρ (get_or l s 0) → Together l r s
  one_name r s rb sb e =
      let (_, a, _) = name_of ρ p r rb in
      let (_, b, _) = name_of ρ p s sb in
      let k = name_below s sb in
      p.joined r (least_in ρ (get_or l s 0)) s rb k sb (subst (λ z. Together l r z) e a) (p.turned s (least_in ρ (get_or l s 0)) sb k b)

  pub number_below : (r : ℕ) → r < n → number_in r < counted_classes ρ l
  unfolding counted_classes
  number_below r b = let k = name_below r b in
      size_before (naming_registers ρ l) (least_in ρ (get_or l r 0)) ρ (omega (arith, p.fits)) (name_names r b)

  pub number_same : (r s : ℕ) → r < n → s < n → number_in r ≡ number_in s → Together l r s
  number_same r s rb sb e = one_name r s rb sb (⊎_elim
      (λ h. let d = size_before (naming_registers ρ l) (least_in ρ (get_or l r 0)) (least_in ρ (get_or l s 0)) h (name_names r rb) in absurd (omega arith))
      (λ h. ⊎_elim
      (λ k. let d = size_before (naming_registers ρ l) (least_in ρ (get_or l s 0)) (least_in ρ (get_or l r 0)) k (name_names s sb) in absurd (omega arith))
      (λ k. omega arith) (less_or (least_in ρ (get_or l s 0)) (least_in ρ (get_or l r 0))))
      (less_or (least_in ρ (get_or l r 0)) (least_in ρ (get_or l s 0))))

  pub same_number : (r s : ℕ) → r < n → s < n → Together l r s → number_in r ≡ number_in s
  same_number r s rb sb t = ap (λ k. size_of k (naming_registers ρ l)) (same_name r s rb sb t)

  pub number_onto : (k : ℕ) → k < counted_classes ρ l → (r : ℕ) × (r < n) × (number_in r ≡ k)
  unfolding counted_classes
  number_onto k h =
      let (r, _, t, e) = size_onto (naming_registers ρ l) ρ k h in
      let (rb, _) = (named_is ρ p r).0 t in
      let (_, own) = (names_is ρ l r).0 t in
      (r, rb, ap (λ z. size_of z (naming_registers ρ l)) own ∙ e)

-- ---- the window of a state

-- the number counted anew in a window whose parts are those of a state
module _ (ρ φ : ℕ) (σ : State) (v : Valid σ) (w : Window) (t : Tracks σ (view ρ φ w)) (i : Inside ρ σ.header.registers (view ρ φ w)) where
  abbrev n : ℕ
  n = σ.header.registers

  parts : Partition ρ σ.header.registers w.class
  parts = partition_of ρ φ σ.header.registers w (laws_of σ v (view ρ φ w) t) i

  pub classes_counted : ClassCount σ (counted_classes ρ w.class)
  classes_counted = record {
    number = number_in ρ n w.class parts;
    below = number_below ρ n w.class parts;
    same = λ r s rb sb. (
      (λ e. (t.same r s rb sb).0 (number_same ρ n w.class parts r s rb sb e)),
      (λ k. same_number ρ n w.class parts r s rb sb ((t.same r s rb sb).1 k)),
    );
    onto = number_onto ρ n w.class parts;
  }

pub count_exact_in : (ρ φ : ℕ) (σ : State) → Valid σ → (w : Window) → IsWindowInLayout ρ φ σ w → ClassCount σ w.classes
count_exact_in ρ φ σ v w h = subst (ClassCount σ) (sym h.counted) (classes_counted ρ φ σ v w h.tracks h.inside)

pub count_exact : (σ : State) → Valid σ → (w : Window) → IsWindow σ w → ClassCount σ w.classes
count_exact = count_exact_in registers functions

-- a monitor holds the window of the longest coherent beginning, and its number is that of this beginning
pub count_of_longest : (ρ π : Trace) → WellFormed ρ → Longest ρ π → (w : Window) → IsWindow (state (coherent_part ρ)) w → ClassCount (state π) w.classes
count_of_longest ρ π f l w h =
    subst (λ κ. ClassCount (state κ) w.classes) (longest_unique ρ (coherent_part ρ) π (longest_is ρ f) l)
    (count_exact (state (coherent_part ρ)) (state_valid (coherent_part ρ) (part_formed ρ f)) w h)

-- ---- a state has one number of classes

-- numbers that differ are sent to numbers that differ: no fewer of them
few : (n m : ℕ) (f : ℕ → ℕ) → ((k : ℕ) → k < n → f k < m) → ((j k : ℕ) → j < n → k < n → f j ≡ f k → j ≡ k) → n ≤ m
few zero m f b i = omega arith
few (suc n) zero f b i = absurd (let h = b n (omega arith) in omega arith)
few (suc n) (suc m) f b i = let r = few n m g below injective in omega arith
  where
    -- m is left out: what was sent to it goes where n went
    g : ℕ → ℕ
    g k = pick (eqb (f k) m) (λ _. f n) λ _. f k

    at : (k : ℕ) → ((f k ≡ m) × (g k ≡ f n)) ⊎ ((f k ≢ m) × (g k ≡ f k))
    at k = by_test (eqb (f k) m) (λ t. inl (eqb-true (f k) m t, rw t)) (λ t. inr (eqb-false (f k) m t, rw t))

    apart : (k : ℕ) → k < n → f k ≢ f n
    apart k h e = let d = i k n (omega arith) (omega arith) e in omega arith

    below : (k : ℕ) → k < n → g k < m
    below k h = ⊎_elim
        (λ (e, d). let o = b n (omega arith) in let q : f n ≢ m = (λ z. apart k h (e ∙ sym z)) in omega arith)
        (λ (e, d). let o = b k (omega arith) in omega arith)
        (at k)

    injective : (j k : ℕ) → j < n → k < n → g j ≡ g k → j ≡ k
    injective j k jb kb e = ⊎_elim
        (λ (a, d). ⊎_elim
        (λ (a', d'). i j k (omega arith) (omega arith) (a ∙ sym a'))
        (λ (a', d'). absurd (apart k kb (sym d' ∙ sym e ∙ d))) (at k))
        (λ (a, d). ⊎_elim
        (λ (a', d'). absurd (apart j jb (sym d ∙ e ∙ d')))
        (λ (a', d'). i j k (omega arith) (omega arith) (sym d ∙ e ∙ d')) (at k))
        (at j)

module _ (σ : State) (n m : ℕ) (c : ClassCount σ n) (d : ClassCount σ m) where
  -- a register of class k
  chosen : (k : ℕ) → (r : ℕ) × ((k < n) → (r < σ.header.registers) × (c.number r ≡ k))
  chosen k = by_test (ltb k n) (λ t. let (r, b, e) = c.onto k (ltb-true k n t) in (r, λ _. (b, e)))
      (λ t. (0, λ h. absurd (let l = ltb-false k n t in omega arith)))

  no_fewer : n ≤ m
  no_fewer = few n m (λ k. d.number (chosen k).0) (λ k h. d.below (chosen k).0 ((chosen k).1 h).0)
      (λ j k jb kb h.
      let (b, q) = (chosen j).1 jb in
      let (b', q') = (chosen k).1 kb in
      sym q ∙ (c.same (chosen j).0 (chosen k).0 b b').1 ((d.same (chosen j).0 (chosen k).0 b b').0 h) ∙ q')

pub count_unique : (σ : State) (n m : ℕ) → ClassCount σ n → ClassCount σ m → n ≡ m
count_unique σ n m c d = let a = no_fewer σ n m c d in let b = no_fewer σ m n d c in omega arith

-- what `IsWindowInLayout` asks of the number is that it is the state's
pub counted_is : (ρ φ : ℕ) (σ : State) → Valid σ → (w : Window) → Tracks σ (view ρ φ w) → Inside ρ σ.header.registers (view ρ φ w)
    → (w.classes ≡ counted_classes ρ w.class) ↔ ClassCount σ w.classes
counted_is ρ φ σ v w t i =
    let c = classes_counted ρ φ σ v w t i in
    ((λ e. subst (ClassCount σ) (sym e) c), (λ d. count_unique σ w.classes (counted_classes ρ w.class) d c))

-- the number follows from the classes
pub count_follows : (ρ φ : ℕ) (σ τ : State) (w w' : Window) → IsWindowInLayout ρ φ σ w → IsWindowInLayout ρ φ τ w' → w.class ≡ w'.class
    → w.classes ≡ w'.classes
count_follows ρ φ σ τ w w' h h' e = h.counted ∙ ap (counted_classes ρ) e ∙ sym h'.counted
