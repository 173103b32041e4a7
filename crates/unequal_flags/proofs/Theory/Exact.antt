-- The words of the window of a state are those of the state, in every layout: "its bit 8a+b is set exactly where classes a and b, by name, are known
-- unequal" (document 02, 5).
use mathlib.Core.Path.{◌≡◌, subst}
use mathlib.Core.Logic.Iff
use mathlib.Core.Logic.{◌↔◌, ⊎_elim}
use Prim.Native.Nat.{ℕ, ◌+◌, ◌*◌, ◌/◌, ◌%◌, ◌<◌}
use native.Mathlib.Omega.{arith}
use lib.Dec.{T}
use lib.ListN.{get_or}
use Rattle.base.specs.Masks.{has}
use Rattle.base.specs.LeastAndSize.{least_in}
use Rattle.base.proofs.Theory.MaskLaws.{least-in}
use Rattle.semantics.specs.Terms.{Trace, State, state}
use Rattle.semantics.specs.Facts.{WellFormed, Valid}
use Rattle.semantics.specs.FirstLetters.{coherent_part}
use Rattle.semantics.specs.Judgement.{Longest}
use Rattle.semantics.specs.Models.{Feasible}
use Rattle.semantics.specs.Window.{Apart}
use Rattle.semantics.specs.ClassNames.{NamedBy}
use Rattle.semantics.proofs.Theory.Facts.{state_valid}
use Rattle.semantics.proofs.Theory.JudgementLaws.{part_formed, longest_is, longest_unique}
use Rattle.window.specs.Layout.{registers, functions, word_bits}
use Rattle.window.specs.Naming.{naming_registers}
use Rattle.window.specs.Rows.{joined_rows}
use Rattle.window.specs.Step.{IsWindow}
use Rattle.window.specs.Stepping.{IsWindowInLayout}
use Rattle.window.specs.declared.Window.{Window}
use Rattle.window.proofs.Theory.Bits.{truth, same_iff, less_or}
use Rattle.window.proofs.Theory.Names.{named}
use Rattle.window.proofs.Theory.Naming.{names_is}
use Rattle.window.proofs.Theory.Rows.{flag_joined}
use Rattle.unequal_flags.specs.Flags.{NamesClass, UnequalNames, WordsOfState, WordOfState}
use Rattle.unequal_flags.specs.Words.{named_rows, unequal_word}
use Rattle.unequal_flags.proofs.Theory.Words.{flag_in_word, named_small, named_flag, word_within}

module _ (ρ φ : ℕ) (σ : State) (v : Valid σ) (w : Window) (h : IsWindowInLayout ρ φ σ w) where
  -- the registers that the mask has are those that name a class
  pub names_exact : (a : ℕ) → T (has (naming_registers ρ w.class) a) ↔ NamesClass σ a
  names_exact a = (
    (λ t. let (b, e) = (names_is ρ w.class a).0 t in
        let own = truth (has (get_or w.class a 0) (least_in ρ (get_or w.class a 0))) (least-in ρ (get_or w.class a 0) (omega arith)) in
        let (d, _) = h.inside.same a a b b (subst (λ k. T (has (get_or w.class a 0) k)) e own) in
        record { declared = d; name = subst (λ k. NamedBy σ a k) e (named ρ φ σ v w h a d) }),
    (λ n. let lowest = named ρ φ σ v w h a n.declared in
        (names_is ρ w.class a).1 (
          omega (arith, h.inside.fits, n.declared),
          ⊎_elim
              (λ l. absurd (n.name.lowest (least_in ρ (get_or w.class a 0)) l lowest.member))
              (λ l. ⊎_elim (λ m. absurd (lowest.lowest a m n.name.member)) (λ m. omega arith) (less_or a (least_in ρ (get_or w.class a 0))))
              (less_or (least_in ρ (get_or w.class a 0)) a),
        )),
  )

  pub words_exact : WordsOfState ρ σ (unequal_word ρ w)
  unfolding unequal_word
  words_exact = record {
    within = word_within ρ w;
    flag = λ a b ab bb. Iff.trans (same_iff (flag_in_word ρ (named_rows ρ w.class w.unequal) a b (named_small ρ w.class w.unequal) ab bb))
        (Iff.trans (named_flag ρ w.class w.unequal a b ab) (
          (λ (p, q, u).
              let first = (names_exact a).0 p in
              let second = (names_exact b).0 q in
              let (feasible, apart) = (h.tracks.apart a b first.declared second.declared).0 u in
              record { first = first; second = second; feasible = feasible; apart = apart }),
          (λ k. (
            (names_exact a).1 k.first,
            (names_exact b).1 k.second,
            (h.tracks.apart a b k.first.declared k.second.declared).1 (k.feasible, k.apart),
          )),
        ));
  }

  -- the word of all rows, which `apart` reads: of registers whether they name a class or not
  pub rows_exact : (a b : ℕ) → a < ρ → b < ρ → T (has (joined_rows ρ w.unequal ρ) (ρ * a + b))
      ↔ ((a < σ.header.registers) × (b < σ.header.registers) × Feasible σ × Apart σ a b)
  rows_exact a b ab bb = Iff.trans (same_iff (flag_joined ρ w.unequal ρ a b (record { row = λ k _. h.shaped.unequal_bytes k }) ab bb)) (
    (λ u. let (d, e) = h.inside.apart a b ab bb u in let (f, p) = (h.tracks.apart a b d e).0 u in (d, e, f, p)),
    (λ (d, e, f, p). (h.tracks.apart a b d e).1 (f, p)),
  )

-- the first edition's one word
pub word_exact : (σ : State) → Valid σ → (w : Window) → IsWindow σ w → WordOfState σ (unequal_word registers w 0)
word_exact σ v w h = record {
  within = word_within registers w 0;
  flag = λ a b ab bb.
      let first : (registers * a + b) / word_bits ≡ 0 = omega arith in
      let place : (registers * a + b) % word_bits ≡ registers * a + b = omega arith in
      subst (λ k. T (has (unequal_word registers w 0) k) ↔ UnequalNames σ a b) place
      (subst (λ k. T (has (unequal_word registers w k) ((registers * a + b) % word_bits)) ↔ UnequalNames σ a b) first
      ((words_exact registers functions σ v w h).flag a b ab bb));
}

-- a monitor holds the window of the longest coherent beginning, and a word of that window is a word of that beginning
pub word_of_longest : (ρ π : Trace) → WellFormed ρ → Longest ρ π → (w : Window) → IsWindow (state (coherent_part ρ)) w → (word : ℕ)
    → ((σ : State) → Valid σ → IsWindow σ w → WordOfState σ word) → WordOfState (state π) word
word_of_longest ρ π f l w h word means =
    subst (λ κ. WordOfState (state κ) word) (longest_unique ρ (coherent_part ρ) π (longest_is ρ f) l)
    (means (state (coherent_part ρ)) (state_valid (coherent_part ρ) (part_formed ρ f)) h)
