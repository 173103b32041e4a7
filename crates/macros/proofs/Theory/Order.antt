-- What follows from the definitions of specs/Order.antt.
use mathlib.Core.Path.{◌≡◌, refl, sym, ap, ◌∙◌, subst}
use mathlib.Core.Logic.{◌⊎◌, inl, inr}
use Prim.Native.Nat.{suc, ◌<◌, ◌≤◌}
use native.Mathlib.Omega.{arith}
use Rattle.macros.proofs.Theory.Numbers.{three}
use Rattle.macros.specs.Order.{Branch, first, second, Path, root, ◌▹◌, steps, BranchBefore, LexicallyBefore, Before}

-- p is q or comes before it.
abbrev pub AtOrBefore : Path → Path → Type 0
AtOrBefore p q = (p ≡ q) ⊎ Before p q

-- ── a strict total order ──
sooner_not : (b : Branch) → ¬ BranchBefore b b
sooner_not first s = s
sooner_not second s = s

sooner_join : (b c d : Branch) → BranchBefore b c → BranchBefore c d → BranchBefore b d
sooner_join first first d s t = absurd s
sooner_join first second d s t = absurd t
sooner_join second c d s t = s

sooner_or : (b c : Branch) → (b ≡ c) ⊎ (BranchBefore b c ⊎ BranchBefore c b)
sooner_or first first = inl refl
sooner_or first second = inr (inl tt)
sooner_or second first = inr (inr tt)
sooner_or second second = inl refl

parts_not : (p : Path) → ¬ LexicallyBefore p p
parts_not root s = s
parts_not (p ▹ b) (inl s) = parts_not p s
parts_not (p ▹ b) (inr s) = sooner_not b s.1

parts_join : (p q r : Path) → LexicallyBefore p q → LexicallyBefore q r → LexicallyBefore p r
parts_join root q r s t = absurd s
parts_join (p ▹ b) root r s t = absurd s
parts_join (p ▹ b) (q ▹ c) root s t = absurd t
parts_join (p ▹ b) (q ▹ c) (r ▹ d) (inl s) (inl t) = inl (parts_join p q r s t)
parts_join (p ▹ b) (q ▹ c) (r ▹ d) (inl s) (inr t) = inl (subst (LexicallyBefore p) t.0 s)
parts_join (p ▹ b) (q ▹ c) (r ▹ d) (inr s) (inl t) = inl (subst (λ x. LexicallyBefore x r) (sym s.0) t)
parts_join (p ▹ b) (q ▹ c) (r ▹ d) (inr s) (inr t) = inr (s.0 ∙ t.0, sooner_join b c d s.1 t.1)

parts_or : (p q : Path) → steps p ≡ steps q → (p ≡ q) ⊎ (LexicallyBefore p q ⊎ LexicallyBefore q p)
parts_or root root e = inl refl
parts_or root (q ▹ c) e = absurd (omega arith)
parts_or (p ▹ b) root e = absurd (omega arith)
parts_or (p ▹ b) (q ▹ c) e = go (parts_or p q (omega arith)) (sooner_or b c)
  where
    go : (p ≡ q) ⊎ (LexicallyBefore p q ⊎ LexicallyBefore q p) → (b ≡ c) ⊎ (BranchBefore b c ⊎ BranchBefore c b)
        → (p ▹ b ≡ q ▹ c) ⊎ (LexicallyBefore (p ▹ b) (q ▹ c) ⊎ LexicallyBefore (q ▹ c) (p ▹ b))
    go (inl u) (inl v) = inl (λ i. u i ▹ v i)
    go (inl u) (inr (inl v)) = inr (inl (inr (u, v)))
    go (inl u) (inr (inr v)) = inr (inr (inr (sym u, v)))
    go (inr (inl u)) v = inr (inl (inl u))
    go (inr (inr u)) v = inr (inr (inl u))

pub before_not : (p : Path) → ¬ Before p p
before_not p (inl l) = omega arith
before_not p (inr s) = parts_not p s.1

pub before_join : (p q r : Path) → Before p q → Before q r → Before p r
before_join p q r (inl l) (inl m) = inl (omega arith)
before_join p q r (inl l) (inr t) = inl (omega arith)
before_join p q r (inr s) (inl m) = inl (omega arith)
before_join p q r (inr s) (inr t) = inr (s.0 ∙ t.0, parts_join p q r s.1 t.1)

pub before_or : (p q : Path) → (p ≡ q) ⊎ (Before p q ⊎ Before q p)
before_or p q = go (three (steps p) (steps q))
  where
    go : (steps p < steps q) ⊎ ((steps p ≡ steps q) ⊎ (steps q < steps p)) → (p ≡ q) ⊎ (Before p q ⊎ Before q p)
    go (inl l) = inr (inl (inl l))
    go (inr (inr l)) = inr (inr (inl l))
    go (inr (inl e)) = elim (parts_or p q e) [ inl u ↦ inl u | inr v ↦ inr (elim v [ inl s ↦ inl (inr (e, s)) | inr s ↦ inr (inr (sym e, s)) ]) ]

-- ── one more branch ──
pub before_more : (p : Path) (b : Branch) → Before p (p ▹ b)
before_more p b = inl (omega arith)

pub before_grow : (p q : Path) (b c : Branch) → Before p q → Before (p ▹ b) (q ▹ c)
before_grow p q b c (inl l) = inl (omega arith)
before_grow p q b c (inr s) = inr (ap suc s.0, inl s.1)

pub before_last : (p : Path) (b c : Branch) → BranchBefore b c → Before (p ▹ b) (p ▹ c)
before_last p b c s = inr (refl, inr (refl, s))

pub till_grow : (p q : Path) (b : Branch) → AtOrBefore p q → AtOrBefore (p ▹ b) (q ▹ b)
till_grow p q b (inl e) = inl (ap (λ x. x ▹ b) e)
till_grow p q b (inr s) = inr (before_grow p q b b s)

pub till_before : (p q r : Path) → AtOrBefore p q → Before q r → Before p r
till_before p q r (inl e) t = subst (λ x. Before x r) (sym e) t
till_before p q r (inr s) t = before_join p q r s t

pub before_till : (p q r : Path) → Before p q → AtOrBefore q r → Before p r
before_till p q r s (inl e) = subst (Before p) e s
before_till p q r s (inr t) = before_join p q r s t

pub till_join : (p q r : Path) → AtOrBefore p q → AtOrBefore q r → AtOrBefore p r
till_join p q r s (inl e) = subst (AtOrBefore p) e s
till_join p q r s (inr t) = inr (till_before p q r s t)

pub till_not : (p q : Path) → AtOrBefore p q → ¬ Before q p
till_not p q s t = before_not p (till_before p q p s t)

pub till_steps : (p q : Path) → AtOrBefore p q → steps p ≤ steps q
till_steps p q (inl e) = let f = ap steps e in omega arith
till_steps p q (inr (inl l)) = omega arith
till_steps p q (inr (inr s)) = omega arith
