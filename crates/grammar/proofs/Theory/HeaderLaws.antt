-- How many arguments a function takes, by the list and by the header's mask.
use mathlib.Core.Path.{◌≡◌, ap, ◌∙◌}
use Prim.Native.Nat.{ℕ, zero, suc, ◌+◌, ◌*◌, ◌/◌, ◌^◌}
use native.Mathlib.Omega.{arith}
use native.Mathlib.Nat.{div-one, zero-div, suc-add, zero-add}
use mathlib.Core.Bool.{true, false}
use mathlib.Core.List.{List, [], ◌∷◌}
use lib.Dec.{eqb}
use lib.ListN.{get_or}
use lib.Pow.{shr-shr}
use Rattle.base.specs.Choice.{pick}
use Rattle.base.proofs.Theory.Choice.{by_test}
use Rattle.base.specs.Masks.{bit}
use Rattle.letters.specs.Letters.{arity}
use Rattle.grammar.specs.Grammar.{binary_of, header, takes_two}

halves : (n i : ℕ) → n / 2 / 2 ^ i ≡ n / 2 ^ suc i
halves n i = shr-shr n 1 i ∙ ap (λ j. n / 2 ^ j) (suc-add 0 i ∙ ap suc (zero-add i))

bit_binary : (ns : List ℕ) (f : ℕ) → bit (binary_of ns) f ≡ pick (eqb (get_or ns f 0) 2) (λ _. 1) λ _. 0
bit_binary [] f = rw (zero-div (2 ^ f))
bit_binary (n ∷ ns) zero = by_test (eqb n 2) (λ t. rw (t, div-one) (omega arith)) λ t. rw (t, div-one) (omega arith)
bit_binary (n ∷ ns) (suc f) = by_test (eqb n 2)
    (λ t. let e : (1 + 2 * binary_of ns) / 2 ≡ binary_of ns = omega arith in rw (t, ← halves (1 + 2 * binary_of ns) f, e) (bit_binary ns f))
    λ t. let e : (0 + 2 * binary_of ns) / 2 ≡ binary_of ns = omega arith in rw (t, ← halves (0 + 2 * binary_of ns) f, e) (bit_binary ns f)

module _ (rs fs ns : List ℕ) (f : ℕ) where
  pub arity_two : takes_two rs fs ns f ≡ true → arity (header rs fs ns) f ≡ 2
  arity_two t = rw (bit_binary ns f, t)

  pub arity_one : takes_two rs fs ns f ≡ false → arity (header rs fs ns) f ≡ 1
  arity_one t = rw (bit_binary ns f, t)
