-- The fresh window is that of a header alone.
use mathlib.Core.Path.{◌≡◌, refl, sym, ◌∙◌, subst}
use mathlib.Core.Logic.Iff
use mathlib.Core.Logic.{◌↔◌}
use mathlib.Core.Bool.{Bool, false}
use Prim.Native.Nat.{ℕ, ◌+◌, ◌*◌, ◌≤◌, ◌<◌}
use native.Mathlib.Omega.{arith}
use lib.Dec.{ltb, T, eqb, eqb→eq, eqb_refl, ltb→lt}
use lib.ListN.{get_or, get_or-replicate}
use borrow.Author.Tests.{ltb-true, ltb-false}
use Rattle.base.proofs.Theory.Choice.{by_test}
use Rattle.base.specs.Masks.{has}
use Rattle.letters.specs.declared.Header.{Header}
use Rattle.semantics.proofs.Theory.Booleans.{and_l, and_r}
use Rattle.semantics.specs.Terms.{start}
use Rattle.semantics.specs.View.{Tracks}
use Rattle.semantics.proofs.Theory.Start.{initial, tracks_start}
use Rattle.window.specs.Places.{place}
use Rattle.window.proofs.Theory.Places.{place_below, entry_below}
use Rattle.window.proofs.Theory.Table.{table_at}
use Rattle.window.proofs.Theory.Bits.{single_is, no_truth, none_zero}
use Rattle.window.specs.Performing.{own_of, fresh_in_layout}
use Rattle.window.specs.Viewing.{view, Inside}
use Rattle.window.specs.Naming.{naming_registers}
use Rattle.window.specs.Counting.{counted_classes}
use Rattle.window.specs.declared.Window.{Window}
use Rattle.window.proofs.Theory.Sizes.{size_first}
use Rattle.window.proofs.Theory.Counting.{Partition, named_is}
use Rattle.window.proofs.Theory.Counted.{Counted}

module _ (ρ φ : ℕ) where
  module _ (n : ℕ) (nb : n ≤ ρ) where
    abbrev w : Window
    w = fresh_in_layout ρ φ n

    first_has : (r s : ℕ) → r < ρ → T ((view ρ φ w).same r s) ↔ ((r < n) × (s ≡ r))
    unfolding own_of
    first_has r s rb = by_test (ltb r n)
        (λ t. let d = table_at (own_of n) ρ r 0 rb ∙ rw t in
        ((λ k. (ltb-true r n t, (single_is r s).0 (subst (λ m. T (has m s)) d k))), (λ (_, k). subst (λ m. T (has m s)) (sym d) ((single_is r s).1 k))))
        (λ t. let d = table_at (own_of n) ρ r 0 rb ∙ rw t in let l = ltb-false r n t in
        ((λ k. absurd (no_truth (has 0 s) (none_zero s) (subst (λ m. T (has m s)) d k))), (λ (k, _). absurd (omega arith))))

    no_apart : (r s : ℕ) → r < ρ → ¬ T ((view ρ φ w).apart r s)
    no_apart r s rb t = no_truth (has 0 s) (none_zero s) (subst (λ m. T (has m s)) (get_or-replicate ρ r 0 0 rb) t)

    no_result : (f a b c : ℕ) → a < ρ → b < ρ → ¬ T ((view ρ φ w).result f a b c)
    no_result f a b c ab bb t =
        let l = ltb→lt f φ (and_l (ltb f φ) (has (get_or w.result (place ρ f a b) 0) c) t) in
        no_truth (has 0 c) (none_zero c)
        (subst (λ m. T (has m c)) (get_or-replicate (φ * ρ * ρ) (place ρ f a b) 0 0 (place_below ρ f a b ab bb φ l))
        (and_r (ltb f φ) (has (get_or w.result (place ρ f a b) 0) c) t))

    no_ever : (f a b : ℕ) → a < ρ → ¬ T ((view ρ φ w).ever f a b)
    no_ever f a b ab t =
        let l = ltb→lt f φ (and_l (ltb f φ) (has (get_or w.ever (ρ * f + a) 0) b) t) in
        no_truth (has 0 b) (none_zero b)
        (subst (λ m. T (has m b)) (get_or-replicate (φ * ρ) (ρ * f + a) 0 0 (entry_below ρ φ f a l ab))
        (and_r (ltb f φ) (has (get_or w.ever (ρ * f + a) 0) b) t))

    no_mark : (r : ℕ) → r < ρ → ¬ T ((view ρ φ w).marked r)
    no_mark r rb t = no_truth ((view ρ φ w).marked r) (get_or-replicate ρ r false false rb) t

    none_iff : {A : Type 0} (b : Bool) → ¬ T b → T false ↔ A → T b ↔ A
    none_iff b f i = ((λ t. absurd (f t)), (λ a. absurd (i.1 a)))

    pub inside_fresh : Inside ρ n (view ρ φ w)
    inside_fresh = record {
      fits = nb;
      same = λ r s rb sb t. let (a, b) = (first_has r s rb).0 t in (a, subst (λ k. k < n) (sym b) a);
      apart = λ r s rb sb t. absurd (no_apart r s rb t);
      result = λ f a b c ab bb cb t. absurd (no_result f a b c ab bb t);
      ever = λ f a b ab bb t. absurd (no_ever f a b ab t);
      marked = λ r rb t. absurd (no_mark r rb t);
    }

  -- each of the n registers names a class
  pub counted_fresh : (n : ℕ) → n ≤ ρ → Counted ρ φ (fresh_in_layout ρ φ n)
  unfolding counted_classes
  counted_fresh n nb = sym (size_first (naming_registers ρ (fresh_in_layout ρ φ n).class) n ρ (λ j jb. Iff.trans (named_is ρ classes j) (
    (λ (b, _). b),
    (λ b. (b, λ s h t. let (_, e) = (first_has n nb j s jb).0 t in omega arith)),
  )))
    where
      classes : Partition ρ n (fresh_in_layout ρ φ n).class
      classes = record {
        fits = nb;
        within = (inside_fresh n nb).same;
        self = λ r b. (first_has n nb r r (omega arith)).1 (b, refl);
        turned = λ r s rb sb t. let (_, e) = (first_has n nb r s (omega arith)).0 t in (first_has n nb s r (omega arith)).1 (sb, sym e);
        joined = λ r s q rb sb qb t u.
            let (_, e) = (first_has n nb r s (omega arith)).0 t in
            let (_, f) = (first_has n nb s q (omega arith)).0 u in
            (first_has n nb r q (omega arith)).1 (rb, f ∙ e);
      }

  pub tracks_fresh : (h : Header) → h.registers ≤ ρ → Tracks (start h) (view ρ φ (fresh_in_layout ρ φ h.registers))
  unfolding initial
  tracks_fresh h nb =
      let n = h.registers in
      let w = fresh_in_layout ρ φ n in
      let t = tracks_start h in
      record {
        same = λ r s rb sb. Iff.trans (Iff.trans (first_has n nb r s (omega arith))
            ((λ (_, k). subst (λ z. T (eqb r z)) (sym k) (eqb_refl r)), (λ k. (rb, sym (eqb→eq r s k))))) (t.same r s rb sb);
        apart = λ r s rb sb. none_iff n nb ((view ρ φ w).apart r s) (no_apart n nb r s (omega arith)) (t.apart r s rb sb);
        result = λ f a b c ab bb cb. none_iff n nb ((view ρ φ w).result f a b c) (no_result n nb f a b c (omega arith) (omega arith))
            (t.result f a b c ab bb cb);
        ever = λ f a b ab bb. none_iff n nb ((view ρ φ w).ever f a b) (no_ever n nb f a b (omega arith)) (t.ever f a b ab bb);
        marked = λ r rb. none_iff n nb ((view ρ φ w).marked r) (no_mark n nb r (omega arith)) (t.marked r rb);
        infeasible = none_iff n nb false (λ k. k) t.infeasible;
      }
