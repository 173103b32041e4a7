-- The verdict settles the answer and the output: there is one at most.
use mathlib.Core.Path.{◌≡◌, refl, sym, ap, ◌∙◌, subst}
use mathlib.Core.Logic.{◌⊎◌, inl, inr, ◌≢◌}
use mathlib.Core.List.{List, ◌++◌}
use Prim.Native.Nat.{ℕ}
use native.Mathlib.Omega.{arith}
use Rattle.macros.proofs.Theory.Numbers.{three}
use lib.ListN.{length, drop}
use Rattle.letters.specs.declared.Letter.{Letter}
use Rattle.semantics.specs.Terms.{Trace, begin, ◌▸◌, State, extend}
use Rattle.semantics.specs.Facts.{WellFormed}
use Rattle.letters.specs.Editions.{Edition}
use Rattle.semantics.specs.Coherence.{Coherent}
use Rattle.macros.specs.Tree.{Block}
use Rattle.macros.specs.Executions.{Failing}
use Rattle.macros.specs.Order.{Before}
use Rattle.macros.proofs.Theory.Order.{before_not, before_join}
use Rattle.macros.proofs.Theory.Runs.{run_once}
use Rattle.verdict_theory.proofs.Theory.Counting.{one_count}
use Rattle.verdict_theory.proofs.Theory.Since.{since_once}
use Rattle.verdict_theory.specs.Verdict.{VerdictAnswer, pass, fail, incoherent, refused, full, IsPass, Kind, breaking, failing, showing, Breaks, Precedes}
use Rattle.verdict_theory.specs.Verdict.{FirstEvent, EventAt, Leaves, SamePair, PairCount, OfKind, Shows, AnswerBytes, Delivered, IsVerdict}
use Rattle.verdict_theory.specs.AnswerPacking.{packed}
use Rattle.verdict_theory.proofs.Theory.AnswerPacking.{bytes_are}

module _ (start : Trace) (m : Block) where
  precedes_not : (ρ π : Trace) → Precedes start m ρ π → ¬ Precedes start m π ρ
  precedes_not ρ π x y =
      let e = run_once start m ρ x.path y.other x.takes.0 y.other_takes.0 x.takes.1 y.other_takes.1 in
      let f = run_once start m π x.other y.path x.other_takes.0 y.takes.0 x.other_takes.1 y.takes.1 in
      before_not x.path (before_join x.path x.other x.path x.before
      (subst (λ p. Before p x.path) (sym f) (subst (Before y.path) (sym e) y.before)))

breaks_not : (ρ : Trace) → Breaks ρ → ¬ Coherent ρ
breaks_not (begin h) x c = x
breaks_not (ρ ▸ a) x c = x.1 c

-- Whatever is taken to be possible.
module _ {ℓ} (Possible : State → Type ℓ) (start : Trace) (m : Block) where
  -- there is one first event
  pub one_event : (ρ π : Trace) → FirstEvent Possible start m ρ → FirstEvent Possible start m π → ρ ≡ π
  one_event ρ π x y = go (x.least π y.event) (y.least ρ x.event)
    where
      go : (π ≡ ρ) ⊎ Precedes start m ρ π → (ρ ≡ π) ⊎ Precedes start m π ρ → ρ ≡ π
      go (inl e) f = sym e
      go (inr e) (inl f) = f
      go (inr e) (inr f) = absurd (precedes_not start m ρ π e f)

  -- its failing executions are well formed, so that each has one shown model
  module _ (edition : Edition) (formed : (ρ : Trace) → Failing start m ρ → WellFormed ρ) where
    kind_formed : (kind : Kind) (ρ : Trace) → OfKind start m kind ρ → kind ≡ failing → WellFormed ρ
    kind_formed breaking ρ o e = absurd (let z : ◌≡◌ {A = ℕ} 0 1 = cc in omega arith)
    kind_formed failing ρ o e = formed ρ o.0

    -- it has one kind
    one_kind : (j k : Kind) (ρ : Trace) → OfKind start m j ρ → OfKind start m k ρ → j ≡ k
    one_kind breaking breaking ρ x y = refl
    one_kind failing failing ρ x y = refl
    one_kind breaking failing ρ x y = absurd (breaks_not ρ x.1 y.1)
    one_kind failing breaking ρ x y = absurd (breaks_not ρ y.1 x.1)

    -- two answers that show it are one
    record EventAnswered : Type ℓ where
      kind : Kind
      pairs : ℕ
      word : List Letter
      bytes : List ℕ
      shows : Shows Possible start m kind pairs word
      packs : AnswerBytes edition start kind word bytes

    one_word : (x y : EventAnswered) → x.word ≡ y.word
    one_word x y = since_once start x.word y.word
        (one_event (extend start x.word) (extend start y.word) x.shows.first_event y.shows.first_event)

    told_kind : (x y : EventAnswered) → x.kind ≡ y.kind
    told_kind x y = one_kind x.kind y.kind (extend start y.word)
        (subst (λ w. OfKind start m x.kind (extend start w)) (one_word x y) x.shows.of_kind) y.shows.of_kind

    count_once : (k l : ℕ) → PairCount Possible start m k → PairCount Possible start m l → k ≡ l
    count_once k l x y = one_count Before (Leaves start m) (SamePair start m) (EventAt Possible start m) before_not k l x y

    told_pairs : (x y : EventAnswered) → x.pairs ≡ y.pairs
    told_pairs x y = count_once x.pairs y.pairs x.shows.count y.shows.count

    abbrev answer_of : EventAnswered → VerdictAnswer
    answer_of x = showing x.kind x.pairs (length x.word)

    told_packed : (x : EventAnswered) → x.bytes ≡ packed edition start x.kind x.word
    told_packed x = bytes_are edition start x.word x.kind x.bytes (kind_formed x.kind (extend start x.word) x.shows.of_kind) x.packs

    told_answer : (x y : EventAnswered) → answer_of x ≡ answer_of y
    told_answer x y = λ i. showing (told_kind x y i) (told_pairs x y i) (length (one_word x y i))

    told_bytes : (x y : EventAnswered) → x.bytes ≡ y.bytes
    told_bytes x y = told_packed x ∙ (λ i. packed edition start (told_kind x y i) (one_word x y i)) ∙ sym (told_packed y)

    module _ (n : ℕ) (output : List ℕ) where
      one_given : (bs cs : List ℕ) (a b c d : VerdictAnswer) (o p : List ℕ) → bs ≡ cs → a ≡ b → Delivered bs a output c o → Delivered cs b output d p
          → (c ≡ d) × (o ≡ p)
      one_given bs cs a b c d o p e f (inl (l, u, v)) (inl (k, y, z)) = (u ∙ f ∙ sym y, v ∙ ap (λ l. l ++ drop (length l) output) e ∙ sym z)
      one_given bs cs a b c d o p e f (inl (l, u, v)) (inr (k, y, z)) = let g = ap length e in absurd (omega arith)
      one_given bs cs a b c d o p e f (inr (l, u, v)) (inl (k, y, z)) = let g = ap length e in absurd (omega arith)
      one_given bs cs a b c d o p e f (inr (l, u, v)) (inr (k, y, z)) = (u ∙ sym y, v ∙ sym z)

      abbrev Right : VerdictAnswer → List ℕ → Type ℓ
      Right a o = IsVerdict Possible start m edition n output a o

      module _ (a b : VerdictAnswer) (o p : List ℕ) (x : Right a o) (y : Right b p) where
        not_full : a ≢ full → b ≢ full
        not_full u e = u (x.full_exactly.1 (y.full_exactly.0 e))

        not_pass : a ≢ full → ¬ IsPass a → ¬ IsPass b
        not_pass u w q = w ((x.pass_exactly u).1 ((y.pass_exactly (not_full u)).0 q))

        shown_same : a ≢ full → ¬ IsPass a → (a ≡ b) × (o ≡ p)
        shown_same u w =
            let (j, k, l, bs, s, q, g) = x.otherwise u w in
            let (j', k', l', bs', s', q', g') = y.otherwise (not_full u) (not_pass u w) in
            let v : EventAnswered = record { kind = j; pairs = k; word = l; bytes = bs; shows = s; packs = q } in
            let v' : EventAnswered = record { kind = j'; pairs = k'; word = l'; bytes = bs'; shows = s'; packs = q' } in
            one_given bs bs' (showing j k (length l)) (showing j' k' (length l')) a b o p (told_bytes v v') (told_answer v v') g g'

      full_same : (b : VerdictAnswer) (o p : List ℕ) → Right full o → Right b p → (full ≡ b) × (o ≡ p)
      full_same b o p x y =
          let e : b ≡ full = y.full_exactly.1 (x.full_exactly.0 refl) in
          (sym e, x.full_output refl ∙ sym (y.full_output e))

      pass_same : (k : ℕ) (b : VerdictAnswer) (o p : List ℕ) → Right (pass k) o → Right b p → IsPass b → (pass k ≡ b) × (o ≡ p)
      pass_same k (pass l) o p x y u =
          let (c, e) = x.pass_count k refl in
          let (d, f) = y.pass_count l refl in
          (ap pass (count_once k l c d), e ∙ sym f)
      pass_same k (fail i j) o p x y u = absurd u
      pass_same k (incoherent i j) o p x y u = absurd u
      pass_same k (refused i j) o p x y u = absurd u

      pass_passes : (k : ℕ) (b : VerdictAnswer) (o p : List ℕ) → Right (pass k) o → Right b p → IsPass b
      pass_passes k b o p x y =
          let u : pass k ≢ full = λ e. let z : ◌≡◌ {A = ℕ} 0 1 = cc in omega arith in
          (y.pass_exactly (not_full (pass k) b o p x y u)).1 ((x.pass_exactly u).0 tt)

      full_or : (a : VerdictAnswer) → (a ≡ full) ⊎ (a ≢ full)
      full_or (pass k) = inr (λ e. let z : ◌≡◌ {A = ℕ} 0 1 = cc in omega arith)
      full_or (fail k l) = inr (λ e. let z : ◌≡◌ {A = ℕ} 0 1 = cc in omega arith)
      full_or (incoherent k l) = inr (λ e. let z : ◌≡◌ {A = ℕ} 0 1 = cc in omega arith)
      full_or (refused k l) = go (same_or k 14) (same_or l 0)
        where
          same_or : (i j : ℕ) → (i ≡ j) ⊎ (i ≢ j)
          same_or i j = elim (three i j) [ inl u ↦ inr (λ e. omega arith) | inr v ↦ elim v [ inl e ↦ inl e | inr u ↦ inr (λ e. omega arith) ] ]

          go : (k ≡ 14) ⊎ (k ≢ 14) → (l ≡ 0) ⊎ (l ≢ 0) → (refused k l ≡ full) ⊎ (refused k l ≢ full)
          go (inl e) (inl f) = inl (λ i. refused (e i) (f i))
          go (inl e) (inr f) = inr (λ g. f (cc))
          go (inr e) f = inr (λ g. e (cc))

      one_refused : (k l : ℕ) (b : VerdictAnswer) (o p : List ℕ) → Right (refused k l) o → Right b p → (refused k l ≡ full) ⊎ (refused k l ≢ full)
          → (refused k l ≡ b) × (o ≡ p)
      one_refused k l b o p x y (inr u) = shown_same (refused k l) b o p x y u (λ w. w)
      one_refused k l b o p x y (inl e) =
          let (f, g) = full_same b o p (subst (λ a. Right a o) e x) y in
          (e ∙ f, g)

      -- There is one answer at most, and one output.
      pub one_answer : (a b : VerdictAnswer) (o p : List ℕ) → Right a o → Right b p → (a ≡ b) × (o ≡ p)
      one_answer (pass k) b o p x y = pass_same k b o p x y (pass_passes k b o p x y)
      one_answer (fail k l) b o p x y = shown_same (fail k l) b o p x y (λ e. let z : ◌≡◌ {A = ℕ} 0 1 = cc in omega arith) (λ w. w)
      one_answer (incoherent k l) b o p x y = shown_same (incoherent k l) b o p x y (λ e. let z : ◌≡◌ {A = ℕ} 0 1 = cc in omega arith) (λ w. w)
      one_answer (refused k l) b o p x y = one_refused k l b o p x y (full_or (refused k l))
