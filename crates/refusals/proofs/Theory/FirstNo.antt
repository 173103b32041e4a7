-- What follows from the definitions of specs/FirstNo.antt.
use mathlib.Core.Path.{◌≡◌, refl, sym, ap, subst, ◌∙◌}
use Prim.Native.Nat.{ℕ, zero, suc, ◌≤◌, ◌<◌}
use native.Mathlib.Omega.{arith}
use mathlib.Core.List.{List}
use lib.Dec.{ltb}
use borrow.Author.Tests.{ltb-true, ltb-false}
use Rattle.base.proofs.Theory.Choice.{by_test}
use Rattle.tokens.specs.Tokens.{token_at, place_of}
use Rattle.grammar.specs.Spelled.{Spells, Arities}
use Rattle.grammar.proofs.Theory.Sound.{spells_then, spells_one}
use Rattle.refusals.specs.FirstNo.{key_of, tokens_before, NoAt, Reached, FirstNo}

module _ (s : List ℕ) where
  -- While they are tokens, they are those that the text spells (crate `grammar`).
  pub before_spelled : (i : ℕ) → ((j : ℕ) → j < i → 2 ≤ key_of s j) → Spells s 0 (tokens_before s i) (place_of s i)
  before_spelled zero h = Spells.none
  before_spelled (suc i) h = spells_then s (before_spelled i λ j l. h j (omega arith))
      (spells_one s (place_of s i) (key_of s i) (place_of s (suc i)) refl (h i (omega arith)) refl)

  -- No token has a no, the end of the text included.
  abbrev pub AllYes : Type 0
  AllYes = (m i : ℕ) → Reached s i → NoAt s m i → ⊥

  -- The first no is one.
  pub first_unique : (n p m q : ℕ) → FirstNo s n p → FirstNo s m q → (n ≡ m) × (p ≡ q)
  first_unique n p m q F G =
      let i : F.index ≡ G.index = same F.index G.index (λ l. G.first n F.index l F.no) (λ l. F.first m G.index l G.no) in (
        same n m (λ l. G.lowest n l (subst (NoAt s n) i F.no)) (λ l. F.lowest m l (subst (NoAt s m) (sym i) G.no)),
        F.place ∙ ap (λ i. (token_at s (place_of s i)).start) i ∙ sym G.place,
      )
    where
      same : (i j : ℕ) → (i < j → ⊥) → (j < i → ⊥) → i ≡ j
      same i j h g =
          by_test (ltb i j) (λ t. absurd (h (ltb-true i j t)))
          λ t. by_test (ltb j i) (λ u. absurd (g (ltb-true j i u))) λ u. let x = ltb-false i j t in let y = ltb-false j i u in omega arith
