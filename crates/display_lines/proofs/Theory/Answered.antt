-- What follows from the definitions of specs/Answered.antt.
use mathlib.Core.Path.{◌≡◌, refl, sym, ◌∙◌, subst}
use mathlib.Core.List.{List}
use Prim.Native.Nat.{ℕ, ◌≤◌}
use native.Mathlib.Omega.{arith}
use lib.ListN.{length, take}
use Rattle.files.specs.declared.Input.{Input}
use Rattle.files.specs.declared.Input.TheVariants.{Full}
use Rattle.files.specs.Lines.{Known, bytes, unread, known}
use Rattle.std.specs.Prelude.{Result, Ok, Err}
use Rattle.display_lines.specs.declared.NotJudged.{NotJudged}
use Rattle.display_lines.specs.declared.NotJudged.TheVariants.{TooLong, Unread}
use Rattle.display_lines.specs.Prints.{PrintsDisplayLines, DisplaysTrace, DisplaysKnown}
use Rattle.display_lines.specs.Answered.{most_display_read, DisplaysInput}
use Rattle.display_lines.proofs.Theory.PrintsLaws.{prints_within, prints_length}

-- ── an input that has more bytes than are judged is not judged in half ──
pub full_too_long : (entry exit : List ℕ) (r : Result ℕ NotJudged) (x : DisplaysInput entry r exit) → x.input ≡ Full → (r ≡ Err TooLong) × (exit ≡ entry)
full_too_long entry exit r x e =
    let long : length x.buffer ≡ most_display_read = x.received.length_kept ∙ sym x.room in
    go r long (subst (λ (i : Input). DisplaysKnown (known i x.buffer) entry r exit) e x.answers)
  where
    go : (q : Result ℕ NotJudged) → length x.buffer ≡ most_display_read → DisplaysTrace x.buffer entry q exit → (q ≡ Err TooLong) × (exit ≡ entry)
    go (Ok size) l (short, _) = absurd (omega arith)
    go (Err TooLong) l (_, kept) = (refl, kept)
    go (Err Unread) l p = absurd p

-- ── lines that were written are those of some bytes ──
module _ (entry exit : List ℕ) (r : Result ℕ NotJudged) (x : DisplaysInput entry r exit) {size : ℕ} (e : r ≡ Ok size) where
  written : (s : List ℕ) × PrintsDisplayLines s entry size exit
  written = go (known x.input x.buffer) (subst (λ (a : Result ℕ NotJudged). DisplaysKnown (known x.input x.buffer) entry a exit) e x.answers)
    where
      go : (k : Known) → DisplaysKnown k entry (Ok size) exit → (s : List ℕ) × PrintsDisplayLines s entry size exit
      go (bytes s) p = (s, p.1)
      go unread p = absurd p

  pub written_within : size ≤ length exit
  written_within = prints_within written.1

  pub written_length : size ≡ length (take size exit)
  written_length = prints_length written.1
