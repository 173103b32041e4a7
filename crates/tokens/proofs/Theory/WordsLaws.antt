-- The laws of words and names.
use mathlib.Core.Path.{◌≡◌, sym, ap, ◌∙◌}
use Prim.Native.Nat.{ℕ, zero, suc, ◌≤◌}
use native.Mathlib.Omega.{arith}
use mathlib.Core.Bool.{true, false}
use lib.Dec.{eqb}
use borrow.Author.Tests.{ne_eqb}
use Rattle.tokens.specs.Words.{is_name}

-- a name is a token
pub name_real : (k : ℕ) → is_name k ≡ true → 2 ≤ k
name_real zero h = let z : ◌≡◌ {A = ℕ} 0 1 = cc in absurd (omega arith)
name_real (suc zero) h = let z : ◌≡◌ {A = ℕ} 0 1 = cc in absurd (omega arith)
name_real (suc (suc k)) h = omega arith

-- a name is none of the words and signs
pub not_word : (k w : ℕ) → is_name w ≡ false → is_name k ≡ true → eqb k w ≡ false
not_word k w f t = ne_eqb k w λ e. let z : true ≡ false = sym t ∙ ap is_name e ∙ f in let y : ◌≡◌ {A = ℕ} 0 1 = cc in omega arith
