-- Request 2, a house layout for macros, sentence by sentence.
use mathlib.Core.Path.{◌≡◌, refl, sym, ap, ◌∙◌, subst}
use mathlib.Core.Logic.{◌⊎◌, ◌↔◌, ◌≢◌}
use mathlib.Core.List.{List, ◌++◌}
use Prim.Native.Nat.{ℕ, ◌≤◌, ◌<◌}
use lib.ListN.{length, get_or, take, drop}
use Rattle.letters.specs.MacroRefusalNumbers.{text_too_long, print_too_long}
use Rattle.semantics.specs.Terms.{Trace, begin}
use Rattle.semantics.specs.Models.{Feasible}
use Rattle.macros.specs.Executions.{Complete, Partial, Failing}
use Rattle.macros.specs.Points.{points}
use Rattle.tokens.specs.Words as word
use Rattle.tokens.specs.Tokens.{token_at, place_of}
use Rattle.grammar.specs.Grammar.{Macro, header_of, expanded}
use Rattle.refusals.specs.Order.{Refusal}
use Rattle.refusals.specs.Accepted.{Accepted}
use Rattle.refusals.proofs.Theory.Accepted.{accepted_once, refused_once}
use Rattle.verdict_theory.specs.Verdict.{VerdictAnswer}
use Rattle.verdict_theory.specs.Demand3.{Demand3}
use Rattle.verdict_lines.specs.Prints.{declared_names, Says}
use Rattle.verdict_lines.proofs.Theory.Declared.{names_declared}
use Rattle.layout_theory.specs.Layout.{without_empty_elses, print_tokens, house_layout, longest_print}
use Rattle.layout_theory.specs.Writing.{LayoutAnswer, printed, refused, WritesLayout}
use Rattle.layout_theory.proofs.Theory.Dropping.{size_short, points_short, macro_short_twice}
use Rattle.layout_theory.proofs.Theory.ReadBack.{print_token, print_ended, print_accepted, print_not_refused, print_of_print}
use Rattle.layout_theory.proofs.Theory.Somehow.{written_somehow}
use Rattle.layout_theory.proofs.Theory.Settled.{written_once, too_long_passes, passes_too_long, other_as_read, refused_kept, printed_is}
use Rattle.layout_lines.specs.Prints.{SaysLayout, most_layout_line_bytes, PrintsLayoutLines}
use Rattle.layout_lines.proofs.Theory.PrintsLaws.{some_layout_lines, one_layout_said, prints_all}
use Rattle.theorems.specs.EmptyElses.{AlikeMacros}
use Rattle.theorems.proofs.Steps.EmptyElses.{macros_alike_exactly}
use Rattle.theorems.proofs.Steps.SamePoints.{complete_both, partial_both, failing_both}
use Rattle.theorems.proofs.Steps.LayoutVerdict.{demand_both, said_both}
use Rattle.theorems.proofs.Steps.PrintedTwice.{written_accepted, printed_twice}

-- "Writers want a macro printed back:" `house_layout m` is the print of the macro m. `layout_writer::write_layout` ensures
-- `WritesLayout text entry answer exit` of any text, and of any buffer that is lent: `entry` is what it holds, and `exit` what it holds afterwards.
-- It can always be met,
pub some_answer_is_written : (text entry : List ℕ) → (answer : LayoutAnswer) × (exit : List ℕ) × WritesLayout text entry answer exit
some_answer_is_written = written_somehow

-- and in one way: it settles the answer and every byte that is lent.
pub one_answer_is_written : (text entry : List ℕ) (a b : LayoutAnswer) (exit other : List ℕ) → WritesLayout text entry a exit → WritesLayout text entry b other
    → (a ≡ b) × (exit ≡ other)
one_answer_is_written = written_once

-- The macro m, of an accepted text.
module _ (text : List ℕ) (m : Macro) (accepted : Accepted text m) where
  -- "names as declared, keywords in lower case, one blank only between two words (`1` and `2` count as words), no blank elsewhere, an LF after each `;`,
  -- `{` and `}`, comments dropped, an empty else dropped." That is the definition (`print_tokens`, `spaced`). As the reader reads the print, its tokens
  -- are those, spelled so,
  pub tokens_of_the_print : (i : ℕ) → i < length (print_tokens m) → (token_at (house_layout m) (place_of (house_layout m) i)).spelling ≡ get_or (print_tokens m) i 0
  tokens_of_the_print = print_token text m accepted

  -- and no token stands behind them.
  pub no_more_tokens : (token_at (house_layout m) (place_of (house_layout m) (length (print_tokens m)))).key ≡ word.end
  no_more_tokens = print_ended text m accepted

  -- "Reading the print yields the macro that was printed, an absent else counting as an empty one,"
  module _ (short : length (house_layout m) ≤ longest_print) where
    pub print_is_read : Accepted (house_layout m) (without_empty_elses m)
    print_is_read = print_accepted text m accepted short

    -- `AlikeMacros` is the least congruence that equates an absent else with an empty one.
    pub read_as_alike : (k : Macro) → Accepted (house_layout m) k → AlikeMacros k m
    read_as_alike k a =
        (macros_alike_exactly k m).1 (ap (λ (n : Macro). without_empty_elses n) (accepted_once (house_layout m) a print_is_read) ∙ macro_short_twice m)

    -- So no number refuses it,
    pub print_is_not_refused : (number place : ℕ) → Refusal (house_layout m) number place → ⊥
    print_is_not_refused = print_not_refused text m accepted short

    -- it declares the same names,
    pub print_declares_alike : declared_names (house_layout m) (without_empty_elses m) ≡ declared_names text m
    print_declares_alike = sym (names_declared (house_layout m) (without_empty_elses m) print_is_read) ∙ names_declared text m accepted

    -- the verdict on it is the same, with the same bytes in the lent table and output,
    pub verdict_on_the_print : (table output : List ℕ) (answer : VerdictAnswer) (table' output' : List ℕ)
        → Demand3 Feasible text table output answer table' output' ↔ Demand3 Feasible (house_layout m) table output answer table' output'
    verdict_on_the_print =
        demand_both text (house_layout m) m (without_empty_elses m) accepted print_is_read refl (points_short m) (size_short m)

    -- and so are the lines that the verdict program prints for it.
    pub lines_on_the_print : (lines : List ℕ) → Says text lines ↔ Says (house_layout m) lines
    lines_on_the_print =
        said_both text (house_layout m) m (without_empty_elses m) accepted print_is_read refl (points_short m) (size_short m) print_declares_alike

  -- A longer print is no text of a macro, for its length and for nothing else; it is never written (`print-stands-in-front`).
  pub longer_print_is_refused : longest_print < length (house_layout m) → (number place : ℕ)
      → Refusal (house_layout m) number place ↔ ((number ≡ text_too_long) × (place ≡ 0))
  longer_print_is_refused l number place = (
    λ r. refused_once (house_layout m) r (Refusal.long l),
    λ x. subst (λ n. Refusal (house_layout m) n place) (sym x.0) (subst (Refusal (house_layout m) text_too_long) (sym x.1) (Refusal.long l)),
  )

  -- What was dropped was no point, and the points that are there keep their numbers;
  pub points_are_kept : points (expanded (without_empty_elses m)) ≡ points (expanded m)
  points_are_kept = points_short m

  -- so the executions are the same, whole, broken off anywhere, or ending at a failure.
  module _ (ρ : Trace) where
    pub complete_alike : Complete (begin (header_of m)) (expanded m) ρ ↔ Complete (begin (header_of m)) (expanded (without_empty_elses m)) ρ
    complete_alike = complete_both (begin (header_of m)) (expanded m) (expanded (without_empty_elses m)) (points_short m) (size_short m) ρ

    pub partial_alike : Partial (begin (header_of m)) (expanded m) ρ ↔ Partial (begin (header_of m)) (expanded (without_empty_elses m)) ρ
    partial_alike = partial_both (begin (header_of m)) (expanded m) (expanded (without_empty_elses m)) (points_short m) (size_short m) ρ

    pub failing_alike : Failing (begin (header_of m)) (expanded m) ρ ↔ Failing (begin (header_of m)) (expanded (without_empty_elses m)) ρ
    failing_alike = failing_both (begin (header_of m)) (expanded m) (expanded (without_empty_elses m)) (points_short m) (size_short m) ρ

  -- "and printing that yields the same bytes." Of the macro that is read,
  pub printed_alike : (k : Macro) → Accepted (house_layout m) k → house_layout k ≡ house_layout m
  printed_alike k a =
      ap (λ (n : Macro). house_layout n) (accepted_once (house_layout m) a (print_accepted text m accepted a.short)) ∙ print_of_print m

-- of macros that are the same, an absent else counting as an empty one,
pub alike_macros_print_alike : (m n : Macro) → AlikeMacros m n → house_layout m ≡ house_layout n
alike_macros_print_alike m n x = sym (print_of_print m) ∙ ap (λ (k : Macro). house_layout k) ((macros_alike_exactly m n).0 x) ∙ print_of_print n

-- and of what stands in the buffer: it is the text of that macro,
pub written_is_read : (text entry exit : List ℕ) (n : ℕ) → WritesLayout text entry (printed n) exit → (m : Macro) → Accepted text m
    → Accepted (take n exit) (without_empty_elses m)
written_is_read = written_accepted

-- and printed again, into any buffer that has room for it, it is the same bytes.
pub written_alike : (text entry exit other other' : List ℕ) (n : ℕ) (again : LayoutAnswer) → WritesLayout text entry (printed n) exit
    → n ≤ length other → WritesLayout (take n exit) other again other' → (again ≡ printed n) × (other' ≡ take n exit ++ drop n other)
written_alike = printed_twice

-- "New numbers: 15, given last, when the print passes the lent buffer or 4,096 bytes."
module _ (text entry : List ℕ) (answer : LayoutAnswer) (exit : List ℕ) (written : WritesLayout text entry answer exit) where
  pub fifteen_exactly : (answer ≡ refused print_too_long 0)
      ↔ ((m : Macro) × Accepted text m × ((length entry < length (house_layout m)) ⊎ (longest_print < length (house_layout m))))
  fifteen_exactly = (too_long_passes written, λ x. passes_too_long written x.0 x.1 x.2)

  -- Every other number is given exactly as the reader gives it.
  pub others_as_read : (number place : ℕ) → number ≢ print_too_long → (answer ≡ refused number place) ↔ Refusal text number place
  others_as_read number place other = (λ e. other_as_read written number place e other, λ r. (written.unread number place r).0)

  -- On a refusal every lent byte is as it was;
  pub refusal_leaves_the_buffer : (number place : ℕ) → answer ≡ refused number place → exit ≡ entry
  refusal_leaves_the_buffer = refused_kept written

  -- else the print stands in front, and the bytes behind it stay.
  pub print_stands_in_front : (n : ℕ) → answer ≡ printed n
      → (m : Macro) × Accepted text m × (n ≡ length (house_layout m)) × (n ≤ length entry) × (n ≤ longest_print) × (exit ≡ house_layout m ++ drop n entry)
  print_stands_in_front n e = let x = printed_is written n e in (x.macro, x.accepted, x.size, x.within, x.short, x.stands)

-- The program: `layout_lines::write_lines` ensures `PrintsLayoutLines`, whose lines are those that `SaysLayout` asks for. Every text has such lines,
pub some_layout_is_printed : (text : List ℕ) → (lines : List ℕ) × SaysLayout text lines
some_layout_is_printed = some_layout_lines

-- one way only to say it,
pub one_layout_is_printed : (text a b : List ℕ) → SaysLayout text a → SaysLayout text b → a ≡ b
one_layout_is_printed = one_layout_said

-- and all of them are in a buffer as long as the program's.
pub whole_layout_is_printed : (text entry : List ℕ) (size : ℕ) (exit : List ℕ) → (x : PrintsLayoutLines text entry size exit)
    → most_layout_line_bytes ≤ length entry → (size ≡ length x.lines) × (exit ≡ x.lines ++ drop size entry)
whole_layout_is_printed text entry size exit x = prints_all x
