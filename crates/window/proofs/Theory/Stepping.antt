-- What follows from the definitions of specs/Stepping.antt.
use mathlib.Core.Path.{◌≡◌, subst}
use mathlib.Core.Logic.Iff
use mathlib.Core.Logic.{◌⊎◌, inl, inr, ◌↔◌, ◌≢◌}
use mathlib.Core.Bool.{Bool, true, false, cond, ◌||◌}
use Prim.Native.Nat.{ℕ, ◌+◌, ◌*◌, ◌≤◌, ◌<◌}
use native.Mathlib.Omega.{arith}
use lib.Dec.{T, ltb, lt→ltb}
use lib.ListN.{get_or}
use borrow.Author.Tests.{ltb-true, ltb-false}
use Rattle.base.specs.Choice.{pick}
use Rattle.base.proofs.Theory.Choice.{by_test}
use Rattle.base.specs.Masks.{has}
use Rattle.base.specs.LeastAndSize.{least_in}
use Rattle.base.proofs.Theory.MaskLaws.{least-in, least_below}
use Rattle.letters.specs.declared.Header.{Header}
use Rattle.letters.specs.declared.Letter.{Letter}
use Rattle.letters.specs.declared.Letter.TheVariants.{Copy, Apply, Equal, Unequal}
use Rattle.letters.specs.Letters.{Fits}
use Rattle.semantics.proofs.Theory.Booleans.{and_r, and_i}
use Rattle.semantics.specs.Terms.{State, start, after}
use Rattle.semantics.specs.Coherence.{Early, CoherentLetter}
use Rattle.semantics.specs.Facts.{Valid}
use Rattle.semantics.proofs.Theory.Steps.{copied, Renamed, tracks_copy, tracks_unequal, tracks_equal, tracks_apply_known, tracks_apply_new, fine_apply}
use Rattle.semantics.proofs.Theory.Steps.{fine_equal}
use Rattle.semantics.proofs.Theory.Redundant.{tracks_redundant}
use Rattle.window.specs.Places.{place}
use Rattle.window.proofs.Theory.Bits.{truth, no_truth, nonempty_is}
use Rattle.window.specs.Bits.{nonempty}
use Rattle.window.specs.Performing.{copied_of, equal_of, unequal_of, applied_of, apply_of, WithinLayout, memoizing_of, early_of}
use Rattle.window.specs.Performing.{judge_in_layout, perform_in_layout, fresh_in_layout}
use Rattle.window.specs.Viewing.{view, Inside}
use Rattle.window.proofs.Theory.Laws.{Laws, laws_of, Sound, sound_of}
use Rattle.window.proofs.Theory.Shape.{shaped_copied, shaped_performed, shaped_fresh}
use Rattle.window.proofs.Theory.Copying.{renamed_copied, inside_copied, renamed_within}
use Rattle.window.proofs.Theory.Judging.{equated, inside_equated, counted_equated, separated, inside_separated}
use Rattle.window.proofs.Theory.Applying.{renamed_applied, inside_applied}
use Rattle.window.proofs.Theory.Starting.{tracks_fresh, inside_fresh, counted_fresh}
use Rattle.window.proofs.Theory.Counting.{Partition}
use Rattle.window.proofs.Theory.Counted.{partition_of, counted_copied, counted_applied, counted_unequal}
use Rattle.window.specs.declared.Window.{Window}
use Rattle.window.specs.Stepping.{IsWindowInLayout}

module _ (ρ φ : ℕ) where
  -- the window of a header alone
  pub holds_fresh : (h : Header) → h.registers ≤ ρ → IsWindowInLayout ρ φ (start h) (fresh_in_layout ρ φ h.registers)
  holds_fresh h b = record {
    tracks = tracks_fresh ρ φ h b;
    inside = inside_fresh ρ φ h.registers b;
    shaped = shaped_fresh ρ φ h.registers;
    counted = counted_fresh ρ φ h.registers b;
  }

  module _ (σ : State) (v : Valid σ) (w : Window) (h : IsWindowInLayout ρ φ σ w) where
    abbrev n : ℕ
    n = σ.header.registers

    laws : Laws σ.header.registers (view ρ φ w)
    laws = laws_of σ v (view ρ φ w) h.tracks

    sound : Sound σ.header.registers (view ρ φ w)
    sound = sound_of σ (view ρ φ w) h.tracks

    classes : Partition ρ σ.header.registers w.class
    classes = partition_of ρ φ σ.header.registers w laws h.inside

    low : (r : ℕ) → r < σ.header.registers → r < ρ
    low r b = omega (arith, h.inside.fits)

    -- x has come to hold what y holds
    renamed : (x y : ℕ) → x < σ.header.registers → y < σ.header.registers
        → Renamed σ.header.registers (view ρ φ w) (copied x y) σ.header.registers (view ρ φ (copied_of ρ φ w x y))
        × Inside ρ σ.header.registers (view ρ φ (copied_of ρ φ w x y))
    unfolding copied_of
    renamed x y xb yb = by_test (has (get_or w.class x 0) y)
        (λ t. rw t (renamed_within (view ρ φ w) σ.header.registers laws sound x y xb yb (truth ((view ρ φ w).same x y) t), h.inside))
        (λ t. let d : x ≢ y = (λ e. no_truth ((view ρ φ w).same x y) t (subst (λ k. T ((view ρ φ w).same x k)) e (laws.self x xb))) in
        rw t (
          renamed_copied ρ φ w h.shaped σ.header.registers laws h.inside x y xb yb d,
          inside_copied ρ φ w h.shaped σ.header.registers laws
              h.inside x y xb yb d,
        ))

    copy_holds : (x y : ℕ) → x < σ.header.registers → y < σ.header.registers → IsWindowInLayout ρ φ (after σ (Copy x y)) (copied_of ρ φ w x y)
    copy_holds x y xb yb = record {
      tracks = tracks_copy σ v x y yb (view ρ φ w) (view ρ φ (copied_of ρ φ w x y)) h.tracks (renamed x y xb yb).0;
      inside = (renamed x y xb yb).1;
      shaped = shaped_copied ρ φ w x y (low x xb) h.shaped;
      counted = counted_copied ρ φ w h.shaped σ.header.registers classes h.counted x y xb yb;
    }

    unequal_holds : (x y : ℕ) → x < σ.header.registers → y < σ.header.registers → IsWindowInLayout ρ φ (after σ (Unequal x y)) (unequal_of ρ φ w x y)
    unfolding unequal_of
    unequal_holds x y xb yb = record {
      tracks = tracks_unequal σ v x y xb yb (view ρ φ w) (view ρ φ (unequal_of ρ φ w x y)) h.tracks
          (separated ρ φ w σ.header.registers h.inside x y xb yb);
      inside = inside_separated ρ φ w σ.header.registers h.inside x y xb yb;
      shaped = shaped_performed ρ φ w (Unequal x y) (low x xb, low y yb) h.shaped;
      counted = counted_unequal ρ φ w x y h.counted;
    }

    equal_holds : (x y : ℕ) → x < σ.header.registers → y < σ.header.registers → CoherentLetter σ (Equal x y)
        → IsWindowInLayout ρ φ (after σ (Equal x y)) (equal_of ρ φ w x y)
    unfolding equal_of
    equal_holds x y xb yb c = record {
      tracks = by_test (has (get_or w.class x 0) y)
          (λ t. rw t (tracks_redundant σ x y ((h.tracks.same x y xb yb).0 (truth ((view ρ φ w).same x y) t)) (view ρ φ w) h.tracks))
          (λ t. let early = elim c as (λ _. Early σ x y) [ inl s ↦ absurd (no_truth ((view ρ φ w).same x y) t ((h.tracks.same x y xb yb).1 s)) | inr e ↦ e ] in
          rw t (tracks_equal σ v x y xb yb early (view ρ φ w) _ h.tracks (equated ρ φ w h.shaped σ.header.registers laws h.inside x y xb yb)));
      inside = by_test (has (get_or w.class x 0) y) (λ t. rw t h.inside)
          (λ t. rw t (inside_equated ρ φ w h.shaped σ.header.registers laws h.inside x y xb yb));
      shaped = shaped_performed ρ φ w (Equal x y) (low x xb, low y yb) h.shaped;
      counted = by_test (has (get_or w.class x 0) y) (λ t. rw t h.counted)
          (λ t. rw t (counted_equated ρ φ w h.shaped σ.header.registers laws h.inside x y xb yb (no_truth ((view ρ φ w).same x y) t) h.counted));
    }

    -- the entry of an application, and the register that names its class
    module _ (f y z : ℕ) (fb : f < φ) where
      entry_result : (r : ℕ) → T (has (get_or w.result (place ρ f y z) 0) r) → T ((view ρ φ w).result f y z r)
      entry_result r t = and_i (ltb f φ) (has (get_or w.result (place ρ f y z) 0) r) (lt→ltb f φ fb) t

      entry_ever : T (has (get_or w.ever (ρ * f + y) 0) z) → T ((view ρ φ w).ever f y z)
      entry_ever t = and_i (ltb f φ) (has (get_or w.ever (ρ * f + y) 0) z) (lt→ltb f φ fb) t

    memoizing_is : (x f y z : ℕ) → f < φ → y < σ.header.registers → z < σ.header.registers → T (memoizing_of ρ φ w f y z) ↔ CoherentLetter σ (Apply x f y z)
    unfolding memoizing_of
    memoizing_is x f y z fb yb zb = Iff.trans (implied (has E z) (nonempty ρ R)) (Iff.trans (
      (λ k u. let (c, cb, t) = (nonempty_is ρ R).0 (k (and_r (ltb f φ) (has E z) u)) in let m = entry_result f y z fb c t in
          let (_, _, cn) = h.inside.result f y z c (low y yb) (low z zb) cb m in (c, cn, m)),
      (λ k t. let (c, cn, m) = k (entry_ever f y z fb t) in (nonempty_is ρ R).1 (c, low c cn, and_r (ltb f φ) (has R c) m)),
    ) (Iff.symm (fine_apply σ v x f y z yb zb (view ρ φ w) h.tracks)))
      where
        E : ℕ
        E = get_or w.ever (ρ * f + y) 0

        R : ℕ
        R = get_or w.result (place ρ f y z) 0

        implied : (a b : Bool) → T (cond a b true) ↔ (T a → T b)
        implied true b = ((λ t _. t), (λ k. k tt))
        implied false b = ((λ _ k. absurd k), (λ _. tt))

    early_is : (x y : ℕ) → x < σ.header.registers → y < σ.header.registers → T (early_of w x y) ↔ CoherentLetter σ (Equal x y)
    unfolding early_of
    early_is x y xb yb = Iff.trans (either ((view ρ φ w).marked x) ((view ρ φ w).marked y) ((view ρ φ w).same x y)) (
      (λ k. elim k [ inl s ↦ inl ((h.tracks.same x y xb yb).0 s) | inr n ↦ inr (unmarked.1 n) ]),
      (λ c. elim c [ inl s ↦ inl ((h.tracks.same x y xb yb).1 s) | inr e ↦ inr (unmarked.0 e) ]),
    )
      where
        unmarked : Early σ x y ↔ ((¬ T ((view ρ φ w).marked x)) × (¬ T ((view ρ φ w).marked y)))
        unmarked = fine_equal σ v x y xb yb (view ρ φ w) h.tracks

        either : (a b s : Bool) → T (pick (a || b) (λ _. s) λ _. true) ↔ (T s ⊎ ((¬ T a) × (¬ T b)))
        either true true s = (inl, (λ k. elim k [ inl t ↦ t | inr (p, _) ↦ absurd (p tt) ]))
        either true false s = (inl, (λ k. elim k [ inl t ↦ t | inr (p, _) ↦ absurd (p tt) ]))
        either false true s = (inl, (λ k. elim k [ inl t ↦ t | inr (_, q) ↦ absurd (q tt) ]))
        either false false s = ((λ _. inr ((λ t. t), (λ t. t))), (λ _. tt))

    -- the letter is coherent exactly if the window says so
    pub judged : (l : Letter) → WithinLayout ρ φ l → Fits σ.header l → T (judge_in_layout ρ φ w l) ↔ CoherentLetter σ l
    judged (Copy x y) b f = ((λ t. tt), (λ t. tt))
    judged (Apply x f y z) (_, fb, _, _) (_, _, yb, zb, _) = memoizing_is x f y z fb yb zb
    judged (Equal x y) b (xb, yb) = early_is x y xb yb
    judged (Unequal x y) b f = ((λ t. tt), (λ t. tt))

    apply_holds : (x f y z : ℕ) → x < σ.header.registers → f < φ → y < σ.header.registers → z < σ.header.registers → CoherentLetter σ (Apply x f y z)
        → IsWindowInLayout ρ φ (after σ (Apply x f y z)) (apply_of ρ φ w x f y z)
    unfolding apply_of
    apply_holds x f y z xb fb yb zb c = record {
      tracks = by_test (ltb r ρ)
          (λ t. let rb = ltb-true r ρ t in
          let m = entry_result f y z fb r (truth (has R r) (least-in ρ R rb)) in
          let (_, _, rn) = h.inside.result f y z r (low y yb) (low z zb) rb m in
          rw t (tracks_apply_known σ v x f y z yb zb (view ρ φ w) (view ρ φ (copied_of ρ φ w x r)) h.tracks r rn m (renamed x r xb rn).0))
          (λ t. rw t (tracks_apply_new σ v x f y z yb zb (view ρ φ w) (view ρ φ (applied_of ρ φ w x f y z)) h.tracks (never t)
          (renamed_applied ρ φ w h.shaped σ.header.registers laws h.inside x f y z xb fb yb zb)));
      inside = by_test (ltb r ρ)
          (λ t. let rb = ltb-true r ρ t in
          let m = entry_result f y z fb r (truth (has R r) (least-in ρ R rb)) in
          let (_, _, rn) = h.inside.result f y z r (low y yb) (low z zb) rb m in
          rw t (renamed x r xb rn).1)
          (λ t. rw t (inside_applied ρ φ w h.shaped σ.header.registers laws h.inside x f y z xb fb yb zb));
      shaped = shaped_performed ρ φ w (Apply x f y z) (low x xb, fb, low y yb, low z zb) h.shaped;
      counted = by_test (ltb r ρ)
          (λ t. let rb = ltb-true r ρ t in
          let m = entry_result f y z fb r (truth (has R r) (least-in ρ R rb)) in
          let (_, _, rn) = h.inside.result f y z r (low y yb) (low z zb) rb m in
          rw t (counted_copied ρ φ w h.shaped σ.header.registers classes h.counted x r xb rn))
          (λ t. rw t (counted_applied ρ φ w h.shaped σ.header.registers classes h.counted x f y z xb));
    }
      where
        R : ℕ
        R = get_or w.result (place ρ f y z) 0

        r : ℕ
        r = least_in ρ (get_or w.result (place ρ f y z) 0)

        -- a coherent application whose value no register holds was never computed
        never : ltb r ρ ≡ false → ¬ T ((view ρ φ w).ever f y z)
        never t u =
            let (q, qb, m) = (fine_apply σ v x f y z yb zb (view ρ φ w) h.tracks).0 c u in
            let l = ltb-false r ρ t in
            no_truth (has R q) (least_below ρ R q (let k = low q qb in omega arith)) (and_r (ltb f φ) (has R q) m)

    -- after a coherent letter `perform` gives the window of the longer trace
    pub performed : (l : Letter) → WithinLayout ρ φ l → Fits σ.header l → CoherentLetter σ l → IsWindowInLayout ρ φ (after σ l) (perform_in_layout ρ φ w l)
    performed (Copy x y) b (xb, yb) c = copy_holds x y xb yb
    performed (Apply x f y z) (_, fb, _, _) (xb, _, yb, zb, _) c = apply_holds x f y z xb fb yb zb c
    performed (Equal x y) b (xb, yb) c = equal_holds x y xb yb c
    performed (Unequal x y) b (xb, yb) c = unequal_holds x y xb yb

  -- a header of the layout has letters within the packing
  pub fits_within : (h : Header) (l : Letter) → h.registers ≤ ρ → h.functions ≤ φ → Fits h l → WithinLayout ρ φ l
  fits_within h (Copy x y) a b (p, q) = (omega arith, omega arith)
  fits_within h (Apply x f y z) a b (p, q, r, s, _) = (omega arith, omega arith, omega arith, omega arith)
  fits_within h (Equal x y) a b (p, q) = (omega arith, omega arith)
  fits_within h (Unequal x y) a b (p, q) = (omega arith, omega arith)
