-- Traces made of letters one after the other.
use mathlib.Core.Path.{◌≡◌, refl, sym, ◌∙◌, subst}
use mathlib.Core.Logic.{◌↔◌, inl, inr}
use mathlib.Core.List.Memᴰ
use mathlib.Core.List.{List, [], ◌∷◌, ◌++◌}
use Prim.Native.Nat.{ℕ, zero, suc, ◌+◌, ◌≤◌}
use native.Mathlib.Omega.{arith}
use lib.ListN.{length}
use Rattle.letters.specs.declared.Header.{Header}
use Rattle.letters.specs.declared.Letter.{Letter}
use Rattle.letters.specs.declared.Letter.TheVariants.{Copy, Apply, Equal, Unequal}
use Rattle.letters.specs.Letters.{Fits}
use Rattle.letters.specs.Editions.{Edition}
use Rattle.letters.specs.Roomy.{Roomy}
use Rattle.traces.specs.Reading.{trace, reading}
use Rattle.traces.specs.Traces.{AllFit}
use Rattle.traces.proofs.Theory.TraceLaws.{reading_fits}
use Rattle.semantics.specs.Terms.{◌∈◌, Trace, begin, ◌▸◌, constants, state, extend, trace_of}
use Rattle.semantics.specs.Facts.{WellFormed}
use Rattle.semantics.specs.Judgement.{size, FailsAt}

pub extend_append : (ρ : Trace) (l m : List Letter) → extend ρ (l ++ m) ≡ extend (extend ρ l) m
extend_append ρ [] m = refl
extend_append ρ (a ∷ l) m = extend_append (ρ ▸ a) l m

pub extend_size : (ρ : Trace) (l : List Letter) → size (extend ρ l) ≡ size ρ + length l
extend_size ρ [] = omega arith
extend_size ρ (a ∷ l) = extend_size (ρ ▸ a) l ∙ omega arith

pub extend_header : (ρ : Trace) (l : List Letter) → (state (extend ρ l)).header ≡ (state ρ).header
extend_header ρ [] = refl
extend_header ρ (a ∷ l) = extend_header (ρ ▸ a) l

-- A trace is well formed exactly if its letters fit the header.
pub extend_formed : (ρ : Trace) (l : List Letter) → WellFormed (extend ρ l) ↔ (WellFormed ρ × ((a : Letter) → a ∈ l → Fits (state ρ).header a))
extend_formed ρ [] = (λ w. (w, λ a m. absurd (Memᴰ.not-nil m)), λ (w, h). w)
extend_formed ρ (a ∷ l) = (
  λ w. let ((u, f), h) = (extend_formed (ρ ▸ a) l).0 w in
      (u, λ b m. elim (Memᴰ.cases_cons m) [ inl e ↦ subst (Fits (state ρ).header) (sym e) f | inr k ↦ h b k ]),
  λ (w, h). (extend_formed (ρ ▸ a) l).1 ((w, h a (Memᴰ.head refl)), λ b m. h b (Memᴰ.tail m)),
)

-- What fails at a letter of a beginning fails at it.
pub extend_fails : (P : Trace → Type 0) (ρ : Trace) (l : List Letter) (k : ℕ) → FailsAt P ρ k → FailsAt P (extend ρ l) k
extend_fails P ρ [] k f = f
extend_fails P ρ (a ∷ l) k f = extend_fails P (ρ ▸ a) l k (inl f)

-- ── how many terms are computed ──
constants_length : (n : ℕ) → length (constants n) ≡ n
constants_length zero = refl
constants_length (suc n) = let i = constants_length n in omega arith

-- No more than there are registers and letters.
pub terms_length : (ρ : Trace) → length (state ρ).terms ≤ (state ρ).header.registers + size ρ
terms_length (begin h) = let i = constants_length h.registers in omega arith
terms_length (ρ ▸ Copy x y) = let i = terms_length ρ in omega arith
terms_length (ρ ▸ Apply x f y z) = let i = terms_length ρ in omega arith
terms_length (ρ ▸ Equal x y) = let i = terms_length ρ in omega arith
terms_length (ρ ▸ Unequal x y) = let i = terms_length ρ in omega arith

-- ── traces that were read ──
pub all_formed : (ρ : Trace) (l : List Letter) → WellFormed ρ → AllFit (state ρ).header l → WellFormed (extend ρ l)
all_formed ρ [] w f = w
all_formed ρ (a ∷ l) w f = all_formed (ρ ▸ a) l (w, f.0) f.1

-- A trace that is read from bytes is well formed, so that all that is proved of well-formed traces holds of it.
pub read_formed : (e : Edition) → Roomy e → (s : List ℕ) (h : Header) (ls : List Letter) → reading e s ≡ trace h ls → WellFormed (trace_of h ls)
read_formed e r s h ls q = all_formed (begin h) ls tt (reading_fits e r s h ls q).1
