-- What follows from the definitions of specs/SameWindow.antt.
use mathlib.Core.Path.{◌≡◌, refl, sym, ◌∙◌, subst}
use mathlib.Core.Bool.{Bool}
use mathlib.Core.Logic.Iff
use mathlib.Core.Logic.{◌↔◌}
use Prim.Native.Nat.{ℕ, ◌<◌}
use lib.Dec.{T}
use Rattle.semantics.specs.Terms.{State}
use Rattle.semantics.specs.View.{View, Tracks}
use Rattle.semantics.proofs.Theory.Of.{same_test}
use Rattle.semantics.specs.SameWindow.{SameWindow}

-- Two views say the same of registers below n.
pub record ViewsAgree (n : ℕ) (v w : View) : Type 0 where
  pub same : (r s : ℕ) → r < n → s < n → v.same r s ≡ w.same r s
  pub apart : (r s : ℕ) → r < n → s < n → v.apart r s ≡ w.apart r s
  pub result : (f a b r : ℕ) → a < n → b < n → r < n → v.result f a b r ≡ w.result f a b r
  pub ever : (f a b : ℕ) → a < n → b < n → v.ever f a b ≡ w.ever f a b
  pub marked : (r : ℕ) → r < n → v.marked r ≡ w.marked r
  pub infeasible : v.infeasible ≡ w.infeasible

-- ── an equivalence ──
pub same_window_refl : (σ : State) → SameWindow σ σ
same_window_refl σ = record {
  registers = refl;
  same = λ r s p q. Iff.rfl;
  apart = λ r s p q. Iff.rfl;
  result = λ f a b r ab bb rb. Iff.rfl;
  ever = λ f a b ab bb. Iff.rfl;
  marked = λ r b. Iff.rfl;
  infeasible = Iff.rfl;
}

pub same_window_sym : {σ τ : State} → SameWindow σ τ → SameWindow τ σ
same_window_sym {σ} {τ} w = record {
  registers = sym w.registers;
  same = λ r s p q. Iff.symm (w.same r s (to p) (to q));
  apart = λ r s p q. Iff.symm (w.apart r s (to p) (to q));
  result = λ f a b r ab bb rb. Iff.symm (w.result f a b r (to ab) (to bb) (to rb));
  ever = λ f a b ab bb. Iff.symm (w.ever f a b (to ab) (to bb));
  marked = λ r b. Iff.symm (w.marked r (to b));
  infeasible = Iff.symm w.infeasible;
}
  where
    to : {r : ℕ} → r < τ.header.registers → r < σ.header.registers
    to {r} h = subst (λ n. r < n) (sym w.registers) h

pub same_window_trans : {σ τ υ : State} → SameWindow σ τ → SameWindow τ υ → SameWindow σ υ
same_window_trans {σ} {τ} {υ} w z = record {
  registers = w.registers ∙ z.registers;
  same = λ r s p q. Iff.trans (w.same r s p q) (z.same r s (to p) (to q));
  apart = λ r s p q. Iff.trans (w.apart r s p q) (z.apart r s (to p) (to q));
  result = λ f a b r ab bb rb. Iff.trans (w.result f a b r ab bb rb) (z.result f a b r (to ab) (to bb) (to rb));
  ever = λ f a b ab bb. Iff.trans (w.ever f a b ab bb) (z.ever f a b (to ab) (to bb));
  marked = λ r b. Iff.trans (w.marked r b) (z.marked r (to b));
  infeasible = Iff.trans w.infeasible z.infeasible;
}
  where
    to : {r : ℕ} → r < σ.header.registers → r < τ.header.registers
    to {r} h = subst (λ n. r < n) w.registers h

-- ── views ──
both : {a b : Bool} → a ≡ b → T a ↔ T b
both e = (subst T e, subst T (sym e))

-- Views of two states of one count of registers agree exactly if the states have the same window.
pub agree_is : {σ τ : State} {v w : View} → Tracks σ v → Tracks τ w → σ.header.registers ≡ τ.header.registers
    → ViewsAgree σ.header.registers v w ↔ SameWindow σ τ
agree_is {σ} {τ} {v} {w} t u e = (
  (λ a. record {
    registers = e;
    same = λ r s p q. Iff.trans (Iff.symm (t.same r s p q)) (Iff.trans (both (a.same r s p q)) (u.same r s (to p) (to q)));
    apart = λ r s p q. Iff.trans (Iff.symm (t.apart r s p q)) (Iff.trans (both (a.apart r s p q)) (u.apart r s (to p) (to q)));
    result = λ f i j r ab bb rb. Iff.trans (Iff.symm (t.result f i j r ab bb rb))
        (Iff.trans (both (a.result f i j r ab bb rb)) (u.result f i j r (to ab) (to bb) (to rb)));
    ever = λ f i j ab bb. Iff.trans (Iff.symm (t.ever f i j ab bb)) (Iff.trans (both (a.ever f i j ab bb)) (u.ever f i j (to ab) (to bb)));
    marked = λ r b. Iff.trans (Iff.symm (t.marked r b)) (Iff.trans (both (a.marked r b)) (u.marked r (to b)));
    infeasible = Iff.trans (Iff.symm t.infeasible) (Iff.trans (both a.infeasible) u.infeasible);
  }),
  (λ z. record {
    same = λ r s p q. same_test (v.same r s) (w.same r s)
        (Iff.trans (t.same r s p q) (Iff.trans (z.same r s p q) (Iff.symm (u.same r s (to p) (to q)))));
    apart = λ r s p q. same_test (v.apart r s) (w.apart r s)
        (Iff.trans (t.apart r s p q) (Iff.trans (z.apart r s p q) (Iff.symm (u.apart r s (to p) (to q)))));
    result = λ f i j r ab bb rb. same_test (v.result f i j r) (w.result f i j r)
        (Iff.trans (t.result f i j r ab bb rb) (Iff.trans (z.result f i j r ab bb rb) (Iff.symm (u.result f i j r (to ab) (to bb) (to rb)))));
    ever = λ f i j ab bb. same_test (v.ever f i j) (w.ever f i j)
        (Iff.trans (t.ever f i j ab bb) (Iff.trans (z.ever f i j ab bb) (Iff.symm (u.ever f i j (to ab) (to bb)))));
    marked = λ r b. same_test (v.marked r) (w.marked r) (Iff.trans (t.marked r b) (Iff.trans (z.marked r b) (Iff.symm (u.marked r (to b)))));
    infeasible = same_test v.infeasible w.infeasible (Iff.trans t.infeasible (Iff.trans z.infeasible (Iff.symm u.infeasible)));
  }),
)
  where
    to : {r : ℕ} → r < σ.header.registers → r < τ.header.registers
    to {r} h = subst (λ n. r < n) e h

-- A window is fixed by what it says: two views of one state agree.
pub view_unique : {σ : State} {v w : View} → Tracks σ v → Tracks σ w → ViewsAgree σ.header.registers v w
view_unique {σ} t u = (agree_is t u refl).1 (same_window_refl σ)

-- A view of a state is one of every state with the same window.
pub tracks_same : {σ τ : State} {w : View} → SameWindow σ τ → Tracks σ w → Tracks τ w
tracks_same {σ} {τ} z t = record {
  same = λ r s p q. Iff.trans (t.same r s (to p) (to q)) (z.same r s (to p) (to q));
  apart = λ r s p q. Iff.trans (t.apart r s (to p) (to q)) (z.apart r s (to p) (to q));
  result = λ f a b r ab bb rb. Iff.trans (t.result f a b r (to ab) (to bb) (to rb)) (z.result f a b r (to ab) (to bb) (to rb));
  ever = λ f a b ab bb. Iff.trans (t.ever f a b (to ab) (to bb)) (z.ever f a b (to ab) (to bb));
  marked = λ r b. Iff.trans (t.marked r (to b)) (z.marked r (to b));
  infeasible = Iff.trans t.infeasible z.infeasible;
}
  where
    to : {r : ℕ} → r < τ.header.registers → r < σ.header.registers
    to {r} h = subst (λ n. r < n) (sym z.registers) h
