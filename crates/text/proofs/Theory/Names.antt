-- What follows from the definitions of specs/Names.antt.
use mathlib.Core.Path.{◌≡◌, ap, ◌∙◌}
use Prim.Native.Nat.{ℕ, zero, suc, ◌+◌, ◌*◌, ◌/◌, ◌%◌, ◌^◌, ◌≤◌, ◌<◌}
use native.Mathlib.Omega.{arith}
use native.Mathlib.Nat.{pow-suc}
use mathlib.Core.List.{List, [], ◌∷◌}
use lib.Dec.{eqb}
use lib.ListN.{length}
use borrow.Author.Tests.{eqb-false, ne_eqb}
use Rattle.base.specs.Choice.{pick}
use Rattle.base.proofs.Theory.Choice.{by_test}
use Rattle.base.proofs.Theory.Recursion.{fixed_law}
use Rattle.tokens.specs.Bytes.{spelling}
use Rattle.tokens.proofs.Theory.Keys.{TokenBytes}
use Rattle.text.specs.Names.{name_step, name_text}

pub name_law : (w : ℕ) → name_text w ≡ pick (eqb w 0) (λ _. []) λ _. w % 256 ∷ name_text (w / 256)
unfolding name_text
name_law w = fixed_law (λ n. n) (λ _. []) name_step (λ _ _. Unit {0}) (λ _. tt) (λ _ _ _. tt) local w
  where
    local : (f g : ℕ → List ℕ) → ((y : ℕ) → Unit {0}) → (x : ℕ) → ((y : ℕ) → y < x → f y ≡ g y) → name_step f x ≡ name_step g x
    local f g h x a = by_test (eqb x 0) (λ t. rw t) λ t. let l = eqb-false x 0 t in rw (t, a (x / 256) (omega arith))

pub name_next : (w : ℕ) → (w ≡ 0 → ⊥) → name_text w ≡ w % 256 ∷ name_text (w / 256)
name_next w h = name_law w ∙ rw (ne_eqb w 0 h)

pub name_none : (w : ℕ) → w ≡ 0 → name_text w ≡ []
name_none w e = rw e (name_law 0)

-- A name that is held as it is spelled is printed as it is.
pub name_back : (s : List ℕ) → TokenBytes s → name_text (spelling s) ≡ s
name_back [] h = name_law 0
name_back (b ∷ s) h =
    let n = spelling s in
    let some : (b + 256 * n ≡ 0) → ⊥ = λ e. positive b n h.0 e in
    rw (name_law (b + 256 * n), ne_eqb (b + 256 * n) 0 some, low b n h.1, high b n h.1) (ap (λ l. b ∷ l) (name_back s h.2))
  where
    positive : (b n : ℕ) → 0 < b → b + 256 * n ≡ 0 → ⊥
    positive b n h e = omega arith

    low : (b n : ℕ) → b < 256 → (b + 256 * n) % 256 ≡ b
    low b n h = omega arith

    high : (b n : ℕ) → b < 256 → (b + 256 * n) / 256 ≡ n
    high b n h = omega arith

-- A number below 256 to the k has at most k bytes.
pub name_length : (k w : ℕ) → w < 256 ^ k → length (name_text w) ≤ k
name_length zero w h = rw (name_none w (omega arith)) (omega arith)
name_length (suc k) w h = by_test (eqb w 0)
    (λ t. rw (name_law w, t) (omega arith))
    λ t. rw (name_law w, t) (omega (arith, name_length k (w / 256) (part w (256 ^ k) (rw (pow-suc 256 k) at h))))
  where
    part : (w p : ℕ) → w < p * 256 → w / 256 < p
    part w p h = omega arith
