-- When a text fits a buffer and was appended at its start, and when it does not fit.
use mathlib.Core.Path.{◌≡◌, refl, ap, ap₂, ◌∙◌}
use Prim.Native.Nat.{ℕ, ◌+◌, ◌≤◌, ◌<◌}
use native.Mathlib.Omega.{arith}
use native.Mathlib.Nat.{zero-add}
use mathlib.Core.List.{List, [], ◌∷◌, ◌++◌}
use lib.ListN.{length, take, drop}
use borrow.Author.Tests.{le-leb, lt-leb}
use Rattle.text.specs.Appending.{Appended}
use Rattle.text.proofs.Theory.Appending.{stored_between}
use Rattle.std.specs.Prelude.{Some, None}
use Rattle.report.specs.Shown.{WroteText}

take_none : (l : List ℕ) → take 0 l ≡ []
take_none [] = refl
take_none (x ∷ l) = refl

module _ {text entry : List ℕ} where
  pub wrote_none : {size : ℕ} → size ≡ 0 + length text → length entry < size → WroteText text entry entry None
  wrote_none e l = record { answered = rw (lt-leb (length text) (length entry) (omega arith)); bytes = rw (lt-leb (length text) (length entry) (omega arith)) }

  pub wrote_all : {size next : ℕ} {exit : List ℕ} → size ≡ 0 + length text → size ≤ length entry → Appended entry 0 text exit next
      → WroteText text entry exit (Some next)
  wrote_all {size} {next} {exit} e l a = record {
    answered = ap Some (a.place ∙ zero-add (length text)) ∙ rw (le-leb (length text) (length entry) (omega arith));
    bytes = a.bytes ∙ stored_between entry 0 text (omega arith)
        ∙ ap₂ (λ (x : List ℕ) (n : ℕ). x ++ text ++ drop n entry) (take_none entry) (zero-add (length text))
        ∙ rw (le-leb (length text) (length entry) (omega arith));
  }
