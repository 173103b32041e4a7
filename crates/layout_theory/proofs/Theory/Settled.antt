-- What the writer of the house layout promises is settled, and 15 is given last.
use mathlib.Core.Path.{◌≡◌, refl, sym, ap, subst, ◌∙◌}
use mathlib.Core.Logic.{◌⊎◌, inl, inr}
use Prim.Native.Nat.{ℕ, ◌≤◌, ◌<◌}
use native.Mathlib.Omega.{arith}
use mathlib.Core.Bool.{true, false}
use mathlib.Core.List.{List, ◌++◌}
use lib.Dec.{leb}
use lib.ListN.{length, drop}
use borrow.Author.Tests.{leb-true, leb-false, le-leb, lt-leb}
use Rattle.base.proofs.Theory.Choice.{by_test}
use Rattle.letters.specs.MacroRefusalNumbers.{print_too_long}
use Rattle.letters.proofs.Theory.WordLaws.{and_true}
use Rattle.grammar.specs.Grammar.{Macro}
use Rattle.refusals.specs.Order.{Refusal}
use Rattle.refusals.specs.Accepted.{Accepted}
use Rattle.refusals.proofs.Theory.Basics.{and_false}
use Rattle.refusals.proofs.Theory.Order.{refusal_of_text}
use Rattle.refusals.proofs.Theory.Accepted.{Acceptance, Becomes, an_acceptance}
use Rattle.layout_theory.specs.Layout.{house_layout, longest_print}
use Rattle.layout_theory.specs.Writing.{LayoutAnswer, printed, refused, print_fits, WritesLayout}

-- ---- one way to meet it; that there is one at least stands in Somehow

pub written_once : (text entry : List ℕ) (a b : LayoutAnswer) (exit other : List ℕ) → WritesLayout text entry a exit → WritesLayout text entry b other
    → (a ≡ b) × (exit ≡ other)
written_once text entry a b exit other x y = let (o, k) = an_acceptance text in go o k
  where
    go : (o : Acceptance) → Becomes text o → (a ≡ b) × (exit ≡ other)
    go (Acceptance.refused n p) r = let (e, f) = x.unread n p r in let (g, h) = y.unread n p r in (e ∙ sym g, f ∙ sym h)
    go (Acceptance.accepted m) r = (x.answered m r ∙ sym (y.answered m r), x.bytes m r ∙ sym (y.bytes m r))

-- ---- a print that passes the lent buffer or the limit

abbrev pub PrintPasses : List ℕ → List ℕ → Type 0
PrintPasses print entry = (length entry < length print) ⊎ (longest_print < length print)

pub unfit_passes : (print entry : List ℕ) → print_fits print entry ≡ false → PrintPasses print entry
unfit_passes print entry = by_test (leb (length print) (length entry)) (λ t. rw t λ f. inr (leb-false (length print) longest_print f))
    λ t _. inl (leb-false (length print) (length entry) t)

pub passes_unfit : (print entry : List ℕ) → PrintPasses print entry → print_fits print entry ≡ false
passes_unfit print entry (inl l) = rw (lt-leb (length print) (length entry) l)
passes_unfit print entry (inr l) = rw (lt-leb (length print) longest_print l) (and_false (leb (length print) (length entry)))

pub short_fits : (print entry : List ℕ) → length print ≤ length entry → length print ≤ longest_print → print_fits print entry ≡ true
short_fits print entry w s = rw (le-leb (length print) (length entry) w, le-leb (length print) longest_print s)

-- ---- the ways to answer

-- A text is refused as it is read; or its print passes, or it stands in the buffer.
pub data WayWritten (text entry : List ℕ) (answer : LayoutAnswer) (exit : List ℕ) : Type 0 where
  unread : (n p : ℕ) → Refusal text n p → answer ≡ refused n p → exit ≡ entry → WayWritten text entry answer exit
  passing : (m : Macro) → Accepted text m → PrintPasses (house_layout m) entry → answer ≡ refused print_too_long 0 → exit ≡ entry
      → WayWritten text entry answer exit
  standing : (m : Macro) → Accepted text m → length (house_layout m) ≤ length entry → length (house_layout m) ≤ longest_print
      → answer ≡ printed (length (house_layout m)) → exit ≡ house_layout m ++ drop (length (house_layout m)) entry → WayWritten text entry answer exit

-- an answer is a print or a refusal
pub not_printed : {answer : LayoutAnswer} {n k p : ℕ} → answer ≡ printed n → answer ≡ refused k p → ⊥
not_printed e f = let z : ◌≡◌ {A = ℕ} 0 1 = cc in omega arith

module _ {text entry exit : List ℕ} {answer : LayoutAnswer} (x : WritesLayout text entry answer exit) where
  pub way_written : WayWritten text entry answer exit
  way_written = let (o, k) = an_acceptance text in go o k
    where
      go : (o : Acceptance) → Becomes text o → WayWritten text entry answer exit
      go (Acceptance.refused n p) r = let (e, f) = x.unread n p r in WayWritten.unread n p r e f
      go (Acceptance.accepted m) a = by_test (print_fits (house_layout m) entry)
          (λ t.
          let (w, s) = and_true (leb (length (house_layout m)) (length entry)) (leb (length (house_layout m)) longest_print) t in
          standing m a (leb-true (length (house_layout m)) (length entry) w) (leb-true (length (house_layout m)) longest_print s)
          (x.answered m a ∙ rw t refl) (x.bytes m a ∙ rw t refl))
          λ t. passing m a (unfit_passes (house_layout m) entry t) (x.answered m a ∙ rw t refl) (x.bytes m a ∙ rw t refl)

  -- ---- the numbers

  pub too_long_passes : answer ≡ refused print_too_long 0 → (m : Macro) × Accepted text m × PrintPasses (house_layout m) entry
  too_long_passes e = go way_written
    where
      go : WayWritten text entry answer exit → (m : Macro) × Accepted text m × PrintPasses (house_layout m) entry
      go (WayWritten.unread n p r f g) = absurd ((refusal_of_text n p r).1 (let z : n ≡ print_too_long = cc in z))
      go (passing m a p f g) = (m, a, p)
      go (standing m a w s f g) = absurd (not_printed f e)

  pub passes_too_long : (m : Macro) → Accepted text m → PrintPasses (house_layout m) entry → answer ≡ refused print_too_long 0
  passes_too_long m a p = x.answered m a ∙ rw (passes_unfit (house_layout m) entry p) refl

  pub other_as_read : (n p : ℕ) → answer ≡ refused n p → (n ≡ print_too_long → ⊥) → Refusal text n p
  other_as_read n p e l = go way_written
    where
      go : WayWritten text entry answer exit → Refusal text n p
      go (WayWritten.unread k q r f g) =
          let u : k ≡ n = cc in
          let v : q ≡ p = cc in
          subst (λ i. Refusal text i p) u (subst (Refusal text k) v r)
      go (passing m a _ f g) = absurd (l (let z : n ≡ print_too_long = cc in z))
      go (standing m a w s f g) = absurd (not_printed f e)

  -- ---- the buffer

  pub refused_kept : (n p : ℕ) → answer ≡ refused n p → exit ≡ entry
  refused_kept n p e = go way_written
    where
      go : WayWritten text entry answer exit → exit ≡ entry
      go (WayWritten.unread k q r f g) = g
      go (passing m a _ f g) = g
      go (standing m a w s f g) = absurd (not_printed f e)

  pub record PrintWritten (n : ℕ) : Type 0 where
    pub macro : Macro
    pub accepted : Accepted text macro
    pub size : n ≡ length (house_layout macro)
    pub within : n ≤ length entry
    pub short : n ≤ longest_print
    pub stands : exit ≡ house_layout macro ++ drop n entry

  pub printed_is : (n : ℕ) → answer ≡ printed n → PrintWritten n
  printed_is n e = go way_written
    where
      go : WayWritten text entry answer exit → PrintWritten n
      go (WayWritten.unread k q r f g) = absurd (not_printed e f)
      go (passing m a _ f g) = absurd (not_printed e f)
      go (standing m a w s f g) =
          let size : n ≡ length (house_layout m) = cc in
          record {
            macro = m;
            accepted = a;
            size = size;
            within = omega arith;
            short = omega arith;
            stands = g ∙ ap (λ k. house_layout m ++ drop k entry) (sym size);
          }
