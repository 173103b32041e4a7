-- What is printed for a text is settled, and never longer than `most_layout_line_bytes`; and what the layout writer leaves becomes the program's lines.
use mathlib.Core.Path.{◌≡◌, refl, sym, ap, ◌∙◌, subst}
use mathlib.Core.Logic.{⊎_elim}
use mathlib.Core.List.{List, ◌++◌}
use Prim.Native.Nat.{ℕ, ◌+◌, ◌≤◌, ◌<◌}
use native.Mathlib.Omega.{arith}
use lib.Dec.{leb, eqb}
use lib.ListN.{length, take, drop, length-append}
use lib.Seq.{length-take-le}
use borrow.Author.Tests.{leb-true, leb-false, le-leb, lt-leb}
use Rattle.base.specs.Choice.{pick}
use Rattle.base.proofs.Theory.Choice.{by_test}
use Rattle.letters.specs.MacroRefusalNumbers.{print_too_long}
use Rattle.tokens.specs.Bytes.{width}
use Rattle.tokens.specs.Tokens.{token_at, skip_blanks, place_of}
use Rattle.text.specs.Appending.{Appended}
use Rattle.text.proofs.Theory.Appending.{stored_between}
use Rattle.grammar.specs.Limits.{longest_text}
use Rattle.grammar.specs.Grammar.{Macro}
use Rattle.refusals.specs.Order.{Refusal}
use Rattle.refusals.specs.Accepted.{Accepted}
use Rattle.refusals.proofs.Theory.Order.{refusal_at_most}
use Rattle.refusals.proofs.Theory.Accepted.{Acceptance, Becomes, an_acceptance, accepted_once, refused_once, never_both}
use Rattle.refusals.proofs.Theory.Accepted as acceptance
use Rattle.report.specs.Lines.{refused_line}
use Rattle.report.proofs.Theory.Bound.{refused_few}
use Rattle.layout_theory.specs.Layout.{house_layout, longest_print}
use Rattle.layout_theory.specs.Writing.{LayoutAnswer, WritesLayout}
use Rattle.layout_theory.proofs.Theory.Settled.{WayWritten, passing, standing, way_written, not_printed, refused_kept, printed_is}
use Rattle.std.specs.Prelude.{Result, Ok}
use Rattle.letters.specs.declared.reasons.Refused.{Refused}
use Rattle.layout_writer.specs.Answer.{layout_answer}
use Rattle.layout_lines.specs.Prints.{print_lines, SaysLayout, most_layout_line_bytes, PrintsLayoutLines}

-- ── one way at most ──

pub one_layout_said : (text a b : List ℕ) → SaysLayout text a → SaysLayout text b → a ≡ b
one_layout_said text a b x y = let (o, k) = an_acceptance text in go o k
  where
    go : (o : Acceptance) → Becomes text o → a ≡ b
    go (acceptance.refused n p) r = x.unread n p r ∙ sym (y.unread n p r)
    go (Acceptance.accepted m) r = x.print m r ∙ sym (y.print m r)

pub one_layout_printed : (text entry : List ℕ) (n k : ℕ) (a b : List ℕ) → PrintsLayoutLines text entry n a → PrintsLayoutLines text entry k b
    → (n ≡ k) × (a ≡ b)
one_layout_printed text entry n k a b x y =
    let e = one_layout_said text x.lines y.lines x.says y.says in (
      x.given ∙ ap (λ (l : List ℕ). pick (leb most_layout_line_bytes (length entry)) (λ _. length l) λ _. 0) e ∙ sym y.given,
      x.bytes ∙ ap (λ (l : List ℕ). pick (leb most_layout_line_bytes (length entry)) (λ _. l ++ drop (length l) entry) λ _. entry) e ∙ sym y.bytes,
    )

-- ── the place of a refusal is small ──

-- a token begins within the text, or at its end
start_within : (s : List ℕ) (at : ℕ) → (token_at s at).start ≤ length s
unfolding token_at
start_within s at =
    let p = skip_blanks s at in
    by_test (leb (length s) p) (λ t. rw t (omega arith))
    λ t.
    let l = leb-false (length s) p t in
    rw t (by_test (eqb (width (drop p s)) 0) (λ u. rw u (omega (arith, l))) λ u. rw u (omega (arith, l)))

refusal_place : (text : List ℕ) {n p : ℕ} → Refusal text n p → p ≤ longest_text
refusal_place text (Refusal.long l) = omega arith
refusal_place text (Refusal.token l f) = omega (arith, l, f.place, start_within text (place_of text f.index))
refusal_place text (Refusal.points m l s o k) = omega arith

-- ── what is said of a text ──

-- Lines that a text has, and that are few.
record Said (text lines : List ℕ) : Type 0 where
  says : SaysLayout text lines
  few : length lines ≤ most_layout_line_bytes

-- two answers that are one have one line
same_line : {text : List ℕ} {number place : ℕ} (n p : ℕ) → LayoutAnswer.refused n p ≡ LayoutAnswer.refused number place → Said text (refused_line n p)
    → Said text (refused_line number place)
same_line {text} {number} {place} n p e s =
    let i : n ≡ number = cc in
    let j : p ≡ place = cc in
    subst (Said text) (λ k. refused_line (i k) (j k)) s

module _ (text : List ℕ) where
  refusal_said : (n p : ℕ) → Refusal text n p → Said text (refused_line n p)
  refusal_said n p r = record {
    says = record {
      unread = λ k q x. let (e, f) = refused_once text r x in λ i. refused_line (e i) (f i);
      print = λ m a. absurd (never_both text a r);
    };
    few = refused_few (omega arith) n p (omega (arith, refusal_at_most n p r)) (omega (arith, refusal_place text r));
  }

  print_said : (m : Macro) → Accepted text m → Said text (print_lines m)
  print_said m a = record {
    says = record { unread = λ n p r. absurd (never_both text a r); print = λ k b. ap print_lines (accepted_once text a b) };
    few = by_test (leb (length (house_layout m)) longest_print) (λ t. rw t (leb-true (length (house_layout m)) longest_print t))
        λ t. rw t (refused_few (omega arith) print_too_long 0 (omega arith) (omega arith));
  }

  some_said : (lines : List ℕ) × Said text lines
  some_said = let (o, k) = an_acceptance text in go o k
    where
      go : (o : Acceptance) → Becomes text o → (lines : List ℕ) × Said text lines
      go (acceptance.refused n p) r = (refused_line n p, refusal_said n p r)
      go (Acceptance.accepted m) a = (print_lines m, print_said m a)

  pub some_layout_lines : (lines : List ℕ) × SaysLayout text lines
  some_layout_lines = let (lines, x) = some_said in (lines, x.says)

  -- ── a buffer that is too small ──

  pub small_kept : (entry : List ℕ) → length entry < most_layout_line_bytes → PrintsLayoutLines text entry 0 entry
  small_kept entry l =
      let (lines, x) = some_said in
      let t = lt-leb most_layout_line_bytes (length entry) l in
      record { lines = lines; says = x.says; few = x.few; given = rw t refl; bytes = rw t refl }

  -- ── a buffer that is large enough ──

  module _ (entry : List ℕ) (room : most_layout_line_bytes ≤ length entry) where
    prints : (lines : List ℕ) (size : ℕ) (exit : List ℕ) → Said text lines → size ≡ length lines → exit ≡ lines ++ drop (length lines) entry
        → PrintsLayoutLines text entry size exit
    prints lines size exit x e f =
        let t = le-leb most_layout_line_bytes (length entry) room in
        record { lines = lines; says = x.says; few = x.few; given = rw t e; bytes = rw t f }

    module _ (answer : Result ℕ Refused) (n : ℕ) (is : answer ≡ Ok n) (exit : List ℕ) (wrote : WritesLayout text entry (layout_answer answer) exit) where
      pub print_printed : PrintsLayoutLines text entry n exit
      print_printed =
          let x = printed_is wrote n (ap layout_answer is) in
          let print = house_layout x.macro in
          let s : Said text print = rw (le-leb (length print) longest_print (omega arith)) at (print_said x.macro x.accepted) in
          prints print n exit s x.size (x.stands ∙ ap (λ k. print ++ drop k entry) x.size)

    module _ (answer : Result ℕ Refused) (number place : ℕ) (told : layout_answer answer ≡ LayoutAnswer.refused number place) (middle : List ℕ)
        (wrote : WritesLayout text entry (layout_answer answer) middle) where
      -- that line is the text's
      line_said : WayWritten text entry (layout_answer answer) middle → Said text (refused_line number place)
      line_said (WayWritten.unread n p r e _) = same_line n p (sym e ∙ told) (refusal_said n p r)
      line_said (passing m a p e _) =
          let l : longest_print < length (house_layout m) = ⊎_elim (λ h. omega arith) (λ h. h) p in
          same_line print_too_long 0 (sym e ∙ told) (rw (lt-leb (length (house_layout m)) longest_print l) at (print_said m a))
      line_said (standing m a _ _ e _) = absurd (not_printed e told)

      pub refusal_printed : (size : ℕ) (exit : List ℕ) → Appended middle 0 (refused_line number place) exit size → PrintsLayoutLines text entry size exit
      refusal_printed size exit b =
          let s = line_said (way_written wrote) in
          let e = refused_kept wrote number place told in
          let l = refused_line number place in
          let a : Appended entry 0 l exit size = subst (λ (x : List ℕ). Appended x 0 l exit size) e b in
          let f : exit ≡ l ++ drop (0 + length l) entry = a.bytes ∙ stored_between entry 0 l (omega (arith, s.few)) in
          let n : 0 + length l ≡ length l = omega arith in
          prints l size exit s (a.place ∙ n) (f ∙ ap (λ (k : ℕ). l ++ drop k entry) n)

-- ── what is given lies within the buffer ──

module _ {text entry exit : List ℕ} {size : ℕ} (x : PrintsLayoutLines text entry size exit) where
  -- So many bytes are there.
  pub prints_within : size ≤ length exit
  prints_within = by_test (leb most_layout_line_bytes (length entry))
      (λ t.
      let g : size ≡ length x.lines = x.given ∙ rw t refl in
      let e : exit ≡ x.lines ++ drop (length x.lines) entry = x.bytes ∙ rw t refl in
      omega (arith, ap length e, length-append x.lines (drop (length x.lines) entry)))
      (λ t. let g : size ≡ 0 = x.given ∙ rw t refl in omega arith)

  pub prints_length : size ≡ length (take size exit)
  prints_length = sym (length-take-le size exit prints_within)

  -- In a buffer that is large enough all lines are there.
  pub prints_all : most_layout_line_bytes ≤ length entry → (size ≡ length x.lines) × (exit ≡ x.lines ++ drop size entry)
  prints_all l =
      let t = le-leb most_layout_line_bytes (length entry) l in
      let g : size ≡ length x.lines = x.given ∙ rw t refl in
      (g, x.bytes ∙ rw t refl ∙ ap (λ n. x.lines ++ drop n entry) (sym g))
