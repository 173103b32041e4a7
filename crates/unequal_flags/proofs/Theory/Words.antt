-- What follows from the definitions of specs/Words.antt: which flags the words have.
use mathlib.Core.Path.{◌≡◌, sym, ap, ◌∙◌, subst}
use mathlib.Core.Logic.{◌↔◌}
use mathlib.Core.List.{List}
use Prim.Native.Nat.{ℕ, ◌+◌, ◌*◌, ◌/◌, ◌%◌, ◌^◌, ◌≤◌, ◌<◌}
use native.Mathlib.Omega.{arith}
use native.Mathlib.Nat.{div-add-mod, div-one, mod-eq_of_lt, mod-lt}
use lib.Dec.{T, eqb}
use lib.Bits.{bit_and, and_le_r}
use lib.ListN.{get_or}
use lib.Pow.{pow_pos, pow_mono, shr-shr}
use Rattle.base.proofs.Theory.Choice.{by_test}
use Rattle.base.specs.Masks.{has}
use Rattle.semantics.proofs.Theory.Booleans.{and_l, and_r, and_i}
use Rattle.window.specs.Adding.{part_of}
use Rattle.window.specs.Naming.{naming_registers}
use Rattle.window.specs.Layout.{word_bits}
use Rattle.window.specs.Rows.{SmallRows, joined_rows, flag_word}
use Rattle.window.specs.declared.Window.{Window}
use Rattle.window.proofs.Theory.Bits.{has_and, none_in}
use Rattle.window.proofs.Theory.Naming.{names_small}
use Rattle.window.proofs.Theory.Rows.{bit_mod, joined_small, flag_joined, part_below}
use Rattle.window.proofs.Theory.Table.{table_at}
use Rattle.unequal_flags.specs.Words.{named_row, named_rows, unequal_word}

module _ (ρ : ℕ) where
  -- flag b of row a, wherever its word ends
  pub flag_in_word : (l : List ℕ) (a b : ℕ) → SmallRows ρ l ρ → a < ρ → b < ρ
      → has (flag_word ρ l ((ρ * a + b) / word_bits)) ((ρ * a + b) % word_bits) ≡ has (get_or l a 0) b
  unfolding flag_word
  flag_in_word l a b s ab bb =
      let n = ρ * a + b in
      let whole = joined_rows ρ l ρ in
      ap (λ m. eqb m 1) (bit_mod (whole / 2 ^ (word_bits * (n / word_bits))) word_bits (n % word_bits) (mod-lt n (omega arith)))
      ∙ ap (λ m. eqb (m % 2) 1) (shr-shr whole (word_bits * (n / word_bits)) (n % word_bits))
      ∙ ap (λ k. has whole k) (div-add-mod n word_bits) ∙ flag_joined ρ l ρ a b s ab bb

  -- where all rows fit into one word, it is all of them
  pub one_word : (l : List ℕ) → SmallRows ρ l ρ → ρ * ρ ≤ word_bits → flag_word ρ l 0 ≡ joined_rows ρ l ρ
  unfolding flag_word
  one_word l s h = ap (λ m. m % 2 ^ word_bits) (div-one (joined_rows ρ l ρ))
      ∙ mod-eq_of_lt (let b = joined_small ρ l ρ s in let c = pow_mono {i = ρ * ρ} {j = word_bits} h in omega arith)

  module _ (class unequal : List ℕ) where
    row_small : (a : ℕ) → a < ρ → named_row ρ class unequal a < 2 ^ ρ
    unfolding named_row
    row_small a h = part_below ρ (naming_registers ρ class) (bit_and (get_or unequal a 0) (naming_registers ρ class))
        (omega (arith, and_le_r (get_or unequal a 0) (naming_registers ρ class), names_small ρ class)) a h

    pub named_small : SmallRows ρ (named_rows ρ class unequal) ρ
    unfolding named_rows
    named_small = record { row = λ a h. subst (λ m. m < 2 ^ ρ) (sym (table_at (named_row ρ class unequal) ρ a 0 h)) (row_small a h) }

    row_flag : (a b : ℕ) → T (has (named_row ρ class unequal a) b)
        ↔ (T (has (naming_registers ρ class) a) × T (has (naming_registers ρ class) b) × T (has (get_or unequal a 0) b))
    unfolding named_row part_of
    row_flag a b = by_test (has (naming_registers ρ class) a)
        (λ t. rw (t, has_and) (
          (λ u. (
            tt,
            and_r (has (get_or unequal a 0) b) (has (naming_registers ρ class) b) u,
            and_l (has (get_or unequal a 0) b) (has (naming_registers ρ class) b) u,
          )),
          (λ (_, q, p). and_i (has (get_or unequal a 0) b) (has (naming_registers ρ class) b) p q),
        ))
        (λ t. rw t ((λ u. absurd (none_in b u)), (λ (p, _, _). absurd p)))

    -- flag b of row a: both name a class, and they are known unequal
    pub named_flag : (a b : ℕ) → a < ρ → T (has (get_or (named_rows ρ class unequal) a 0) b)
        ↔ (T (has (naming_registers ρ class) a) × T (has (naming_registers ρ class) b) × T (has (get_or unequal a 0) b))
    unfolding named_rows
    named_flag a b h = rw (table_at (named_row ρ class unequal) ρ a 0 h) (row_flag a b)

  pub word_within : (w : Window) (k : ℕ) → unequal_word ρ w k < 2 ^ word_bits
  unfolding unequal_word flag_word
  word_within w k = mod-lt (joined_rows ρ (named_rows ρ w.class w.unequal) ρ / 2 ^ (word_bits * k)) (pow_pos word_bits)

  -- what the code joins
  pub word_made : (w : Window) (rows : List ℕ) (word : ℕ) → ρ * ρ ≤ word_bits → rows ≡ named_rows ρ w.class w.unequal → word ≡ joined_rows ρ rows ρ
      → word ≡ unequal_word ρ w 0
  unfolding unequal_word
  word_made w rows word h e f = f ∙ ap (λ l. joined_rows ρ l ρ) e ∙ sym (one_word (named_rows ρ w.class w.unequal) (named_small w.class w.unequal) h)
