-- A print that stands in a buffer: it is read, and printed again.
use mathlib.Core.Path.{◌≡◌, refl, sym, ap, ◌∙◌, subst}
use mathlib.Core.Bool.{true}
use mathlib.Core.List.{List, ◌++◌}
use Prim.Native.Nat.{ℕ, ◌≤◌}
use native.Mathlib.Omega.{arith}
use lib.ListN.{length, take, drop}
use lib.Seq.{take-append_seam}
use borrow.Author.Tests.{le-leb}
use Rattle.grammar.specs.Grammar.{Macro}
use Rattle.refusals.specs.Accepted.{Accepted}
use Rattle.refusals.proofs.Theory.Accepted.{accepted_once}
use Rattle.layout_theory.specs.Layout.{without_empty_elses, house_layout, longest_print}
use Rattle.layout_theory.specs.Writing.{LayoutAnswer, printed, print_fits, WritesLayout}
use Rattle.layout_theory.proofs.Theory.ReadBack.{print_accepted, print_of_print}
use Rattle.layout_theory.proofs.Theory.Settled.{PrintWritten, printed_is}

module _ (text entry exit : List ℕ) (n : ℕ) (x : WritesLayout text entry (printed n) exit) where
  written : PrintWritten x n
  written = printed_is x n refl

  -- the front of the buffer is the print
  front : take n exit ≡ house_layout written.macro
  front =
      let print = house_layout written.macro in
      ap (take n) written.stands ∙ ap (λ k. take k (print ++ drop n entry)) written.size ∙ take-append_seam print (drop n entry)

  front_accepted : Accepted (take n exit) (without_empty_elses written.macro)
  front_accepted = subst (λ s. Accepted s (without_empty_elses written.macro)) (sym front)
      (print_accepted text written.macro written.accepted (omega (arith, written.size, written.short)))

  pub written_accepted : (m : Macro) → Accepted text m → Accepted (take n exit) (without_empty_elses m)
  written_accepted m a =
      subst (λ (k : Macro). Accepted (take n exit) (without_empty_elses k)) (accepted_once text written.accepted a) front_accepted

module _ (text entry exit other other' : List ℕ) (n : ℕ) (again : LayoutAnswer) where
  pub printed_twice : WritesLayout text entry (printed n) exit → n ≤ length other → WritesLayout (take n exit) other again other'
      → (again ≡ printed n) × (other' ≡ take n exit ++ drop n other)
  printed_twice x room y =
      let p = written text entry exit n x in
      let m = p.macro in
      let a = front_accepted text entry exit n x in
      let same : house_layout (without_empty_elses m) ≡ house_layout m = print_of_print m in
      let fits : print_fits (house_layout m) other ≡ true = rw (
        le-leb (length (house_layout m)) (length other) (omega (arith, p.size)),
        le-leb (length (house_layout m)) longest_print (omega (arith, p.size, p.short)),
      ) refl in (
        y.answered (without_empty_elses m) a ∙ rw (same, fits) (ap printed (sym p.size)),
        y.bytes (without_empty_elses m) a ∙ rw (same, fits) (λ i. sym (front text entry exit n x) i ++ drop (sym p.size i) other),
      )
