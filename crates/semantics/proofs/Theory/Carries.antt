-- "The window carries everything the next letter needs": states with the same window agree on whether a letter is coherent,
-- and have the same window after it.
use mathlib.Core.Path.{sym, subst}
use mathlib.Core.Logic.Iff
use mathlib.Core.Logic.{inl, inr, ◌↔◌}
use mathlib.Core.List.{List, [], ◌∷◌}
use Prim.Native.Nat.{suc, ◌<◌}
use lib.Dec.{T}
use Rattle.letters.specs.declared.Letter.{Letter}
use Rattle.letters.specs.declared.Letter.TheVariants.{Copy, Apply, Equal, Unequal}
use Rattle.letters.specs.Letters.{Fits}
use Rattle.semantics.proofs.Theory.Booleans.{or_not}
use Rattle.semantics.specs.Terms.{State, after, Trace, ◌▸◌, state, extend}
use Rattle.semantics.specs.Facts.{WellFormed}
use Rattle.semantics.specs.Facts.{Valid}
use Rattle.semantics.proofs.Theory.Facts.{after_valid, state_valid}
use Rattle.semantics.specs.Coherence.{CoherentLetter, Coherent}
use Rattle.semantics.proofs.Theory.Prefixes.{begins_extend, begins_has}
use Rattle.semantics.proofs.Theory.JudgementLaws.{coherent_closed}
use Rattle.semantics.specs.View.{View, Tracks}
use Rattle.semantics.specs.SameWindow.{SameWindow}
use Rattle.semantics.proofs.Theory.SameWindow.{same_window_sym, agree_is, view_unique, tracks_same}
use Rattle.semantics.proofs.Theory.Of.{view_of, tracks_of}
use Rattle.semantics.proofs.Theory.Steps.{Equated, Separated, Renamed, equated_is, separated_is, renamed_is, fresh_is, known_is, tracks_copy}
use Rattle.semantics.proofs.Theory.Steps.{tracks_equal, tracks_unequal, tracks_apply_new, tracks_apply_known, fine_apply, copied, copied_below}
use Rattle.semantics.proofs.Theory.Steps.{freshened, target, fine_equal}
use Rattle.semantics.proofs.Theory.Redundant.{redundant_test, tracks_redundant}
use Rattle.semantics.proofs.Theory.JudgeView.{coherent_in, coherent-in}

module _ (σ τ : State) (v : Valid σ) (u : Valid τ) (same : SameWindow σ τ) where
  abbrev w : View
  w = view_of σ

  at-σ : Tracks σ (view_of σ)
  at-σ = tracks_of σ v

  at-τ : Tracks τ (view_of σ)
  at-τ = tracks_same same at-σ

  -- A letter is coherent in both or in neither.
  pub coherent_same : (a : Letter) → Fits σ.header a → Fits τ.header a → CoherentLetter σ a ↔ CoherentLetter τ a
  coherent_same a f g =
      Iff.trans (Iff.symm (coherent-in σ v a f w at-σ))
      (subst (λ n. T (coherent_in n w a) ↔ CoherentLetter τ a) (sym same.registers) (coherent-in τ u a g w at-τ))

  -- One window tracks both after a coherent letter.
  tracks_both : (a : Letter) → Fits σ.header a → Fits τ.header a → CoherentLetter σ a → (w' : View) → Tracks (after σ a) w' → Tracks (after τ a) w'
  tracks_both (Copy x y) (xb, yb) (xc, yc) c w' t =
      tracks_copy τ u x y yc w w' at-τ
      (subst (λ n. Renamed n w (copied x y) n w') same.registers (renamed_is σ v w at-σ σ.header.registers (copied x y) (copied_below x yb) w' t))
  tracks_both (Equal x y) (xb, yb) (xc, yc) (inl s) w' t =
      tracks_redundant τ x y ((same.same x y xb yb).0 s) w' (tracks_same same (tracks_same (same_window_sym (redundant_test σ x y s)) t))
  tracks_both (Equal x y) (xb, yb) (xc, yc) (inr e) w' t =
      tracks_equal τ u x y xc yc ((fine_equal τ u x y xc yc w at-τ).1 ((fine_equal σ v x y xb yb w at-σ).0 e)) w w' at-τ
      (subst (λ n. Equated n w x y w') same.registers (equated_is σ v x y xb yb e w w' at-σ t))
  tracks_both (Unequal x y) (xb, yb) (xc, yc) c w' t =
      tracks_unequal τ u x y xc yc w w' at-τ (subst (λ n. Separated n w x y w') same.registers (separated_is σ v x y xb yb w w' at-σ t))
  tracks_both (Apply x f y z) (xb, fb, yb, zb, one) (xc, fc, yc, zc, two) c w' t = elim (or_not (w.ever f y z)) [
    | inr n ↦ tracks_apply_new τ u x f y z yc zc w w' at-τ n
        (subst (λ n. Renamed (suc n) (freshened w f y z) (target x) n w') same.registers (fresh_is σ v x f y z yb zb w w' at-σ n t))
    | inl e ↦
        let (r, rb, k) = (fine_apply σ v x f y z yb zb w at-σ).0 c e in
        tracks_apply_known τ u x f y z yc zc w w' at-τ r (subst (λ n. r < n) same.registers rb) k
        (subst (λ n. Renamed n w (copied x r) n w') same.registers (known_is σ v x f y z yb zb w w' at-σ r rb k t))
  ]

  -- After a coherent letter the windows are the same.
  pub window_after : (a : Letter) → Fits σ.header a → Fits τ.header a → CoherentLetter σ a → SameWindow (after σ a) (after τ a)
  window_after a f g c =
      let t = tracks_of (after σ a) (after_valid σ a v f) in
      (agree_is t (tracks_both a f g c (view_of (after σ a)) t) same.registers).0 (view_unique t t)

-- Letters that are coherent after one of two traces with the same window are so after the other, and leave the same window.
pub carries : (ρ π : Trace) (l : List Letter) → SameWindow (state ρ) (state π) → WellFormed (extend ρ l) → WellFormed (extend π l)
    → Coherent (extend ρ l) → Coherent π
    → Coherent (extend π l) × SameWindow (state (extend ρ l)) (state (extend π l))
carries ρ π [] same f g c d = (d, same)
carries ρ π (a ∷ l) same f g c d =
    let h = begins_has WellFormed (λ κ b w. w.0) (begins_extend (ρ ▸ a) l) f in
    let k = begins_has WellFormed (λ κ b w. w.0) (begins_extend (π ▸ a) l) g in
    let v = state_valid ρ h.0 in
    let u = state_valid π k.0 in
    let e = (begins_has Coherent coherent_closed (begins_extend (ρ ▸ a) l) c).1 in
    carries (ρ ▸ a) (π ▸ a) l (window_after (state ρ) (state π) v u same a h.1 k.1 e) f g c
    (d, (coherent_same (state ρ) (state π) v u same a h.1 k.1).0 e)
