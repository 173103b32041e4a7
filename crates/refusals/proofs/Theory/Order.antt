-- What follows from the definitions of specs/Order.antt.
use mathlib.Core.Path.{◌≡◌, refl, ap, subst, ◌∙◌}
use mathlib.Core.Logic.{◌⊎◌, inl, inr, ⊎_elim}
use Prim.Native.Nat.{ℕ, zero, suc, ◌≤◌, ◌<◌}
use native.Mathlib.Omega.{arith}
use mathlib.Core.List.{List}
use lib.Dec.{ltb}
use lib.ListN.{length}
use borrow.Author.Tests.{ltb-true, ltb-false, lt-ltb}
use Rattle.base.proofs.Theory.Choice.{by_test}
use Rattle.grammar.specs.Limits.{longest_text, most_points}
use Rattle.letters.specs.MacroRefusalNumbers.{no_room_for_tests, points_too_many, print_too_long, table_too_small, text_too_long}
use Rattle.macros.specs.Points.{size_block}
use Rattle.grammar.specs.Grammar.{Macro, expanded}
use Rattle.grammar.specs.Reading.{Got, got, exhausted, and_then, count_t}
use Rattle.grammar.proofs.Theory.Reading.{read_text, read_macro}
use Rattle.grammar.proofs.Theory.Sound.{pick_case}
use Rattle.grammar.proofs.Theory.Whole.{text_sound, read_long}
use Rattle.grammar.proofs.Theory.Enough.{read_answers}
use Rattle.refusals.proofs.Theory.Basics.{not_got, refused_number, refused_place, onward_case}
use Rattle.refusals.specs.Sentences.{Viable}
use Rattle.refusals.proofs.Theory.Rests.{viable_nothing, viable_decided}
use Rattle.refusals.specs.Questions.{No, Unfit}
use Rattle.refusals.specs.FirstNo.{key_of, tokens_before, NoAt, FirstNo}
use Rattle.refusals.proofs.Theory.FirstNo.{AllYes, first_unique}
use Rattle.refusals.proofs.Theory.Judged.{JudgedReading, judged_first, judged_fine}
use Rattle.refusals.proofs.Theory.Text.{text_judged}
use Rattle.refusals.specs.Order.{Refusal}

module _ (s : List ℕ) where
  answered : read_text s ≡ exhausted → ⊥
  unfolding read_macro
  answered h = read_answers s (ap (λ g. and_then g (count_t s)) h)

  module _ (l : length s ≤ longest_text) where
    -- A text is read only if no token has a no,
    pub read_all_yes : (m : Macro) (e : ℕ) → read_text s ≡ got m e → AllYes s
    read_all_yes m e h = judged_fine m e (subst (JudgedReading s Macro (λ m e. AllYes s)) h (text_judged s l))

    -- and refused only by its first no.
    pub refused_first : (n p : ℕ) → read_text s ≡ Got.refused n p → FirstNo s n p
    refused_first n p h = judged_first n p (subst (JudgedReading s Macro (λ m e. AllYes s)) h (text_judged s l))

    -- The other way round: the first no is the refusal, and a text without one is read.
    pub first_refused : (n p : ℕ) → FirstNo s n p → read_text s ≡ Got.refused n p
    first_refused n p F = go (read_text s) refl
      where
        go : (g : Got Macro) → read_text s ≡ g → read_text s ≡ Got.refused n p
        go (got m e) h = absurd (read_all_yes m e h n F.index F.reached F.no)
        go (Got.refused k q) h = let (x, y) = first_unique s k q n p (refused_first k q h) F in h ∙ λ i. Got.refused (x i) (y i)
        go exhausted h = absurd (answered h)

    pub all_yes_read : AllYes s → (m : Macro) × (e : ℕ) × (read_text s ≡ got m e)
    all_yes_read N = go (read_text s) refl
      where
        go : (g : Got Macro) → read_text s ≡ g → (m : Macro) × (e : ℕ) × (read_text s ≡ got m e)
        go (got m e) h = (m, e, h)
        go (Got.refused k q) h = let F = refused_first k q h in absurd (N k F.index F.reached F.no)
        go exhausted h = absurd (answered h)

  text_refusal : (n p : ℕ) → read_text s ≡ Got.refused n p → Refusal s n p
  unfolding read_text
  text_refusal n p h =
      by_test (ltb longest_text (length s))
      (λ t. let g : ◌≡◌ {A = Got Macro} (Got.refused text_too_long 0) (Got.refused n p) = rw t at h in subst (λ n. Refusal s n p) (refused_number g)
      (subst (Refusal s text_too_long) (refused_place g) (Refusal.long (ltb-true longest_text (length s) t))))
      λ t. let l = ltb-false 4096 (length s) t in Refusal.token l (refused_first l n p h)

  -- The reader refuses only as the questions say,
  pub refused_refusal : (n p : ℕ) → read_macro s ≡ Got.refused n p → Refusal s n p
  unfolding read_macro
  refused_refusal n p h =
      onward_case (read_text s) (count_t s) n p h (text_refusal n p)
      λ m e g k. pick_case (ltb most_points (size_block (expanded m))) _ _ _ k
      (λ t f. let (l, S, O) = text_sound s m e g in subst (λ n. Refusal s n p) (refused_number f)
      (subst (Refusal s points_too_many) (refused_place f) (Refusal.points m l S O (ltb-true most_points (size_block (expanded m)) t))))
      λ _ f. absurd (not_got f)

  -- and whenever they do.
  pub refusal_refused : (n p : ℕ) → Refusal s n p → read_macro s ≡ Got.refused n p
  unfolding read_macro read_text
  refusal_refused n p (Refusal.long l) = rw (lt-ltb longest_text (length s) l)
  refusal_refused n p (Refusal.token l F) = ap (λ g. and_then g (count_t s)) (first_refused l n p F)
  refusal_refused n p (Refusal.points m l S O c) = read_long s m l S O c

-- A refusal of a text has a number from 7 to 13, or 16.
pub refusal_number : {s : List ℕ} (n p : ℕ) → Refusal s n p → (7 ≤ n) × ((n ≤ 13) ⊎ (n ≡ 16))
refusal_number n p (Refusal.long l) = (omega arith, inl (omega arith))
refusal_number {s} n p (Refusal.token l F) = question F.no
  where
    question : {m : ℕ} {before : List ℕ} {k next : ℕ} → No m before k next → (7 ≤ m) × ((m ≤ 13) ⊎ (m ≡ 16))
    question (No.no_token h) = (omega arith, inl (omega arith))
    question (No.unfit h) = (omega arith, inl (omega arith))
    question (No.redeclared h) = (omega arith, inl (omega arith))
    question (No.misused h) = (omega arith, inl (omega arith))
    question (No.too_deep h) = (omega arith, inl (omega arith))
    question (No.no_room h) = (omega arith, inr refl)
refusal_number n p (Refusal.points m l S O c) = (omega arith, inl (omega arith))

-- So it is at most 16, and neither that of the table nor that of the layout.
pub refusal_at_most : {s : List ℕ} (n p : ℕ) → Refusal s n p → n ≤ no_room_for_tests
refusal_at_most n p r = ⊎_elim (λ l. omega arith) (λ e. omega arith) (refusal_number n p r).1

pub refusal_of_text : {s : List ℕ} (n p : ℕ) → Refusal s n p → (n ≡ table_too_small → ⊥) × (n ≡ print_too_long → ⊥)
refusal_of_text n p r = (
  λ f. ⊎_elim (λ l. omega arith) (λ e. omega arith) (refusal_number n p r).1,
  λ f. ⊎_elim (λ l. omega arith) (λ e. omega arith) (refusal_number n p r).1,
)

-- The tokens before the first no begin a sentence.
pub first_viable : {s : List ℕ} {n p : ℕ} (F : FirstNo s n p) → Viable (tokens_before s F.index)
first_viable {s} F = go F.index F.reached F.first
  where
    go : (i : ℕ) → ((j : ℕ) → j < i → key_of s j ≡ 0 → ⊥) → ((m j : ℕ) → j < i → NoAt s m j → ⊥) → Viable (tokens_before s i)
    go zero r f = viable_nothing
    go (suc i) r f = ⊎_elim (λ v. v) (λ n. absurd (f 9 i (omega arith) (No.unfit (Unfit.misplaced (r i (omega arith)) n))))
        (viable_decided (tokens_before s (suc i)))
