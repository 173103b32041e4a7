-- The run on slots is the run on the window that they stand for.
use Rattle.std.specs.Simd.{first_chunks}
use mathlib.Core.Path.{◌≡◌, refl, sym, ap, subst, ◌∙◌}
use mathlib.Core.Bool.{Bool, true, false, not, ◌&&◌}
use mathlib.Core.List.{List}
use Prim.Native.Nat.{ℕ, ◌+◌, ◌*◌, ◌/◌, ◌≤◌, ◌<◌}
use lib.ListN.{length, get_or, drop}
use Rattle.letters.specs.declared.Header.{Header}
use Rattle.letters.specs.declared.Letter.{Letter}
use Rattle.letters.specs.Answers.{value, refusal}
use Rattle.letters.specs.Editions.{first_edition}
use Rattle.letters.specs.Coding.{decode_letter}
use Rattle.letters.proofs.Theory.WordLaws.{first_roomy, decode-letter}
use Rattle.letters.specs.RefusalNumbers.{letter_malformed}
use Rattle.window.specs.Layout.{registers, functions}
use Rattle.window.specs.declared.Window.{Window}
use Rattle.slots.specs.Slots.{Slots}
use Rattle.slots.specs.Performing.{judge_slots, window_of}
use Rattle.slots.proofs.Theory.Slotted.{RepresentsWindowInFirstEdition, RegistersBelowCount, judged, performed, read_back, fits_among}
use Rattle.streaming.specs.declared.Run.{Run}
use Rattle.streaming.specs.declared.RunAnswer.TheVariants.{Judged, Refused}
use Rattle.streaming.specs.Run.{run_of, performed_of, next_number, first_of}
use Rattle.streaming.specs.Stream.{taken_all}
use Rattle.streaming.specs.SlotRun.{slots_performed}
use Rattle.streaming.proofs.Theory.SlotRun.{Standing}
use Rattle.streaming.proofs.Pairs.{taken_more, taken_malformed, taken_done}

abbrev Stands : Header → Slots → Window → Type 0
Stands h = RepresentsWindowInFirstEdition h.registers

-- ---- a letter

letter_among : (h : Header) (word : ℕ) (a : Letter) → value a ≡ decode_letter first_edition h word → RegistersBelowCount h.registers a
letter_among h word a e =
    let (o, f, _) = (decode-letter first_roomy h word a).0 (sym e) in
    fits_among h a o.functions f

slots-performed : (h : Header) (s : Slots) (w : Window) → Stands h s w → (fine : Bool) (a : Letter) → RegistersBelowCount h.registers a
    → Stands h (slots_performed s fine a) (performed_of w fine a)
unfolding slots_performed performed_of
slots-performed h s w r true a m = performed h.registers s w r a m
slots-performed h s w r false a m = r

-- ---- the loop

pub standing_start : (h : Header) (w : Window) (s : Slots) (fine : Bool) (n one two : ℕ) (left : List ℕ) → Stands h s w
    → Standing h s fine n one two left (taken_all (run_of h w fine n (Judged one two)) left)
standing_start h w s fine n one two left r = record { window = w; represents = r; taken = refl }

module _ (h : Header) (s : Slots) (fine : Bool) (n one two : ℕ) (bytes : List ℕ) (words : List (List ℕ))
    (front : words ≡ first_chunks 2 (length bytes / 2) bytes) (i : ℕ) (whole : Run) (st : Standing h s fine n one two (drop (2 * i) bytes) whole) where
  abbrev w : Window
  w = st.window

  -- whether the letter is performed, if it was judged so
  abbrev due : Bool → Bool
  due j = fine && j

  -- one turn
  pub standing_more : (number word : ℕ) (d : List ℕ) (a : Letter) (j : Bool) (s' : Slots) (one' two' : ℕ) → i < length words
      → word ≡ get_or (get_or words i d) 0 0 * 256 + get_or (get_or words i d) 1 0 → value a ≡ decode_letter first_edition h word → number ≡ next_number n
      → j ≡ judge_slots registers functions s a → s' ≡ slots_performed s (due j) a
      → one' ≡ first_of one (not (fine && j)) number → two' ≡ first_of two s'.infeasible number
      → Standing h s' (fine && j) number one' two' (drop (2 * (i + 1)) bytes) whole
  standing_more number word d a j s' one' two' l k e c p q u v =
      let m = letter_among h word a e in
      let after : Stands h s' (performed_of w (due j) a) =
      subst (λ t. Stands h t (performed_of w (due j) a)) (sym q) (slots-performed h s w st.represents (due j) a m) in
      record {
        window = performed_of w (due j) a;
        represents = after;
        taken = taken_more h w fine n one two bytes words front i whole st.taken number word d a j (performed_of w (due j) a) one' two' l k e c
            (p ∙ judged h.registers s w st.represents a m) refl u (v ∙ ap (λ b. first_of two b number) (sym after.mirrors.infeasible));
      }

  -- the end at a word that is no letter
  pub standing_malformed : (last : Window) (number word : ℕ) (d : List ℕ) → last ≡ window_of registers functions s → i < length words
      → word ≡ get_or (get_or words i d) 0 0 * 256 + get_or (get_or words i d) 1 0 → refusal letter_malformed 0 ≡ decode_letter first_edition h word
      → number ≡ next_number n → run_of h last fine n (Refused letter_malformed number) ≡ whole
  standing_malformed last number word d b l k e c =
      ap (λ v. run_of h v fine n (Refused letter_malformed number)) (b ∙ read_back h.registers s w st.represents)
      ∙ taken_malformed h w fine n one two bytes words front i whole st.taken number word d l k e c

  -- the end of the loop
  pub standing_done : (last : Window) → last ≡ window_of registers functions s → length words ≤ i → run_of h last fine n (Judged one two) ≡ whole
  standing_done last b l =
      ap (λ v. run_of h v fine n (Judged one two)) (b ∙ read_back h.registers s w st.represents)
      ∙ taken_done h w fine n one two bytes words front i whole st.taken l
