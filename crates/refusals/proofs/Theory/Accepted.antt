-- What follows from the definitions of specs/Accepted.antt.
use mathlib.Core.Path.{◌≡◌, refl, sym, ap, ◌∙◌}
use Prim.Native.Nat.{ℕ}
use native.Mathlib.Omega.{arith}
use mathlib.Core.List.{List}
use Rattle.grammar.specs.Grammar.{Macro}
use Rattle.grammar.specs.Reading.{Got, got, exhausted}
use Rattle.grammar.proofs.Theory.Reading.{read_macro}
use Rattle.grammar.specs.Reading
use Rattle.grammar.proofs.Theory.Whole.{read_sound, read_complete}
use Rattle.grammar.proofs.Theory.Enough.{read_answers}
use Rattle.refusals.specs.Order.{Refusal}
use Rattle.refusals.proofs.Theory.Order.{refused_refusal, refusal_refused}
use Rattle.refusals.specs.Accepted.{Accepted}

-- What may become of a text.
pub data Acceptance : Type 0 where
  accepted : Macro → Acceptance
  refused : ℕ → ℕ → Acceptance

-- It becomes of this text.
abbrev pub Becomes : List ℕ → Acceptance → Type 0
Becomes text (Acceptance.accepted m) = Accepted text m
Becomes text (Acceptance.refused number place) = Refusal text number place

-- ── as the reader has it ──
abbrev Gives : Acceptance → Got Macro → Type 0
Gives (Acceptance.accepted m) g = (end : ℕ) × (g ≡ got m end)
Gives (Acceptance.refused number place) g = g ≡ Reading.refused number place

module _ (text : List ℕ) where
  pub read_accepted : (m : Macro) (end : ℕ) → read_macro text ≡ got m end → Accepted text m
  read_accepted m end e = let (l, s, o, k) = read_sound text m end e in record { short = l; spelled = s; in_order = o; few = k }

  pub accepted_read : (m : Macro) → Accepted text m → (end : ℕ) × (read_macro text ≡ got m end)
  accepted_read m a = read_complete text m a.short a.spelled a.in_order a.few

  becomes_gives : (o : Acceptance) → Becomes text o → Gives o (read_macro text)
  becomes_gives (Acceptance.accepted m) a = accepted_read m a
  becomes_gives (Acceptance.refused number place) r = refusal_refused text number place r

  one_given : (g : Got Macro) (o q : Acceptance) → Gives o g → Gives q g → o ≡ q
  one_given g (Acceptance.accepted m) (Acceptance.accepted k) (i, e) (j, f) = let z : got m i ≡ got k j = sym e ∙ f in let y : m ≡ k = cc in
      ap Acceptance.accepted y
  one_given g (Acceptance.accepted m) (Acceptance.refused n p) (i, e) f =
      absurd (let z : got m i ≡ Reading.refused n p = sym e ∙ f in let y : ◌≡◌ {A = ℕ} 0 1 = cc in omega arith)
  one_given g (Acceptance.refused n p) (Acceptance.accepted m) e (i, f) =
      absurd (let z : Reading.refused n p ≡ got m i = sym e ∙ f in let y : ◌≡◌ {A = ℕ} 0 1 = cc in omega arith)
  one_given g (Acceptance.refused n p) (Acceptance.refused k q) e f =
      let z : Reading.refused n p ≡ Reading.refused k q = sym e ∙ f in
      let x : n ≡ k = cc in
      let y : p ≡ q = cc in
      λ i. Acceptance.refused (x i) (y i)

  -- ── each text is accepted as exactly one macro, or refused by exactly one number and place ──
  pub an_acceptance : (o : Acceptance) × Becomes text o
  an_acceptance = go (read_macro text) refl
    where
      go : (g : Got Macro) → read_macro text ≡ g → (o : Acceptance) × Becomes text o
      go (got m end) e = (Acceptance.accepted m, read_accepted m end e)
      go (Reading.refused n p) e = (Acceptance.refused n p, refused_refusal text n p e)
      go exhausted e = absurd (read_answers text e)

  pub one_acceptance : (o q : Acceptance) → Becomes text o → Becomes text q → o ≡ q
  one_acceptance o q x y = one_given (read_macro text) o q (becomes_gives o x) (becomes_gives q y)

  pub exactly_one : (o : Acceptance) × Becomes text o × ((q : Acceptance) → Becomes text q → q ≡ o)
  exactly_one = let (o, x) = an_acceptance in (o, x, λ q y. one_acceptance q o y x)

  -- The same, case by case.
  pub accepted_once : {m k : Macro} → Accepted text m → Accepted text k → m ≡ k
  accepted_once {m} {k} x y = let e = one_acceptance (Acceptance.accepted m) (Acceptance.accepted k) x y in cc

  pub refused_once : {n p k q : ℕ} → Refusal text n p → Refusal text k q → (n ≡ k) × (p ≡ q)
  refused_once {n} {p} {k} {q} x y = let e = one_acceptance (Acceptance.refused n p) (Acceptance.refused k q) x y in (cc, cc)

  pub never_both : {m : Macro} {n p : ℕ} → Accepted text m → Refusal text n p → ⊥
  never_both {m} {n} {p} x y = let e = one_acceptance (Acceptance.accepted m) (Acceptance.refused n p) x y in let z : ◌≡◌ {A = ℕ} 0 1 = cc in omega arith
