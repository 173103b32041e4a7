-- Equal records are the same pair (SPEC 10.2; document 01: "A pair is a point still to be performed and a window"): the bytes of two pairs
-- are equal exactly if the points are, and the two states agree on the window's six parts. So the count of pairs does not depend on how a pair is stored.
use mathlib.Core.Path.{◌≡◌, sym, subst}
use mathlib.Core.Logic.{inl, inr, ◌↔◌}
use Prim.Native.Nat.{ℕ, ◌≤◌, ◌<◌}
use native.Mathlib.Omega.{arith}
use Rattle.semantics.specs.Terms.{State}
use Rattle.semantics.specs.Closure.{reflexive}
use Rattle.semantics.specs.Facts.{Valid}
use Rattle.semantics.specs.SameWindow.{SameWindow}
use Rattle.semantics.proofs.Theory.SameWindow.{agree_is, view_unique, tracks_same}
use Rattle.window.specs.declared.Window.{Window}
use Rattle.window.proofs.Theory.Bits.{less_or}
use Rattle.window.proofs.Theory.View.{view_in_first_edition, InsideInFirstEdition}
use Rattle.window.specs.Step.{IsWindow}
use Rattle.window.proofs.Theory.Unique.{unique}
use Rattle.records.specs.Records.{encoded}
use Rattle.records.proofs.Theory.Storable.{encoded_injective}
use Rattle.stored.proofs.Theory.Stored.{storable}

-- a window tells how many registers there are: those that are in a class
registers_told : (σ τ : State) → Valid σ → (w : Window) → IsWindow σ w → IsWindow τ w → σ.header.registers ≤ τ.header.registers
registers_told σ τ u w x y = elim (less_or τ.header.registers σ.header.registers) [
  | inl l ↦ let n = τ.header.registers in
      let b = x.inside.fits in
      let (c, _) = y.inside.same n n (omega arith) (omega arith) ((x.tracks.same n n l l).1 (reflexive (u.values n l))) in
      absurd (omega arith)
  | inr l ↦ l
]

-- the window of a state is that of every state with the same window
same_holds : (σ τ : State) (w : Window) → SameWindow σ τ → IsWindow σ w → IsWindow τ w
same_holds σ τ w z x = record {
  tracks = tracks_same z x.tracks;
  inside =
      subst (λ n. InsideInFirstEdition n (view_in_first_edition w)) z.registers x.inside;
  shaped = x.shaped;
  counted = x.counted;
}

module _ (σ τ : State) (u : Valid σ) (v : Valid τ) (w w' : Window) (x : IsWindow σ w) (y : IsWindow τ w') where
  -- Windows are equal exactly if the states have the same window.
  pub same-window : (w ≡ w') ↔ SameWindow σ τ
  same-window = (
    (λ e. let y' : IsWindow τ w = subst (IsWindow τ) (sym e) y in
        let n : σ.header.registers ≡ τ.header.registers = omega (arith, registers_told σ τ u w x y', registers_told τ σ v w y' x) in
        (agree_is x.tracks y'.tracks n).0 (view_unique x.tracks x.tracks)),
    (λ z. unique τ w w' (same_holds σ τ w z x) y),
  )

  -- The bytes of two pairs are equal exactly if the pairs are the same.
  pub same_pair : (p q : ℕ) → p < 65536 → q < 65536 → (encoded p w ≡ encoded q w') ↔ ((p ≡ q) × SameWindow σ τ)
  same_pair p q a b = (
    (λ e. let (f, g) = encoded_injective p q w w' a b (storable σ u w x) (storable τ v w' y) e in (f, same-window.0 g)),
    (λ (f, z). let g = same-window.1 z in λ i. encoded (f i) (g i)),
  )
