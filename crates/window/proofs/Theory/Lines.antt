-- What follows from the definitions of specs/Lines.antt.
use mathlib.Core.Path.{◌≡◌, refl, sym, ap, ap₂, ◌∙◌, subst}
use mathlib.Core.Logic.{◌≢◌}
use mathlib.Core.Bool.{Bool, true, false, cond, ◌||◌}
use Prim.Native.Nat.{ℕ, ◌+◌, ◌*◌, ◌/◌, ◌%◌, ◌≤◌, ◌<◌}
use native.Mathlib.Omega.{arith}
use native.Mathlib.Nat.{mod-lt}
use mathlib.Core.List.{List}
use lib.Dec.{eqb, T}
use lib.Bits.{bit_or, or_self}
use lib.ListN.{length, get_or, set, length-set}
use lib.Seq.{get_or-set_same, get_or-set_other}
use borrow.Author.Tests.{eq-eqb, ne_eqb, eqb-true, eqb-false}
use Rattle.base.proofs.Theory.Choice.{by_test}
use Rattle.window.proofs.Theory.Table.{table_length, table_at, table_is}
use Rattle.window.specs.Places.{place}
use Rattle.window.proofs.Theory.Places as places
use Rattle.window.proofs.Theory.Places.{place_sum, place_is, function_place, first_place, second_place}
use Rattle.window.specs.Lines.{TableLines, columns, rows, entry_on_line, united_at, united, cleared_at, cleared}

-- each entry is on one line, at one place of it
pub record Partition {ρ : ℕ} (L : TableLines ρ) : Type 0 where
  pub entry_is : 0 < ρ → (i : ℕ) → L.entry (L.line i) (L.along i) ≡ i
  pub line_entry : (j d : ℕ) → d < ρ → L.line (L.entry j d) ≡ j
  pub along_entry : (j d : ℕ) → d < ρ → L.along (L.entry j d) ≡ d
  pub along_below : 0 < ρ → (i : ℕ) → L.along i < ρ

module _ (ρ : ℕ) where
  pub columns_partition : Partition (columns ρ)
  columns_partition = record {
    entry_is = λ p i. places.entry_is ρ i;
    line_entry = places.line_entry ρ;
    along_entry = places.along_entry ρ;
    along_below = λ p i. mod-lt i p;
  }

  -- an entry of a row is that of a result
  row_entry : (j d : ℕ) → ρ * ρ * (j / ρ) + ρ * d + j % ρ ≡ place ρ (j / ρ) d (j % ρ)
  row_entry j d = place_sum ρ (j / ρ) d (j % ρ)

  row_is : 0 < ρ → (i : ℕ) → (rows ρ).entry ((rows ρ).line i) ((rows ρ).along i) ≡ i
  row_is p i = ap₂ (λ f s. ρ * ρ * f + ρ * (i / ρ % ρ) + s) (places.line_entry ρ (i / (ρ * ρ)) (i % ρ) (mod-lt i p))
      (places.along_entry ρ (i / (ρ * ρ)) (i % ρ) (mod-lt i p))
      ∙ place_sum ρ (i / (ρ * ρ)) (i / ρ % ρ) (i % ρ) ∙ place_is ρ i

  row-line : (j d : ℕ) → d < ρ → (rows ρ).line ((rows ρ).entry j d) ≡ j
  row-line j d h = let s = mod-lt j {m = ρ} (omega arith) in
      ap (λ k. ρ * (k / (ρ * ρ)) + k % ρ) (row_entry j d)
      ∙ ap₂ (λ f b. ρ * f + b) (function_place ρ (j / ρ) d (j % ρ) h s) (second_place ρ (j / ρ) d (j % ρ) h s) ∙ places.entry_is ρ j

  row_along : (j d : ℕ) → d < ρ → (rows ρ).along ((rows ρ).entry j d) ≡ d
  row_along j d h = ap (λ k. k / ρ % ρ) (row_entry j d) ∙ first_place ρ (j / ρ) d (j % ρ) h (mod-lt j {m = ρ} (omega arith))

  pub rows_partition : Partition (rows ρ)
  rows_partition = record { entry_is = row_is; line_entry = row-line; along_entry = row_along; along_below = λ p i. mod-lt (i / ρ) p }

module _ {ρ : ℕ} (L : TableLines ρ) where
  pub united_length : (P : ℕ → Bool) (a b : ℕ) (l : List ℕ) → length (united L P a b l) ≡ length l
  unfolding united
  united_length P a b l = table_length (united_at L P a b l) (length l)

  pub cleared_length : (x : ℕ) (l : List ℕ) → length (cleared L x l) ≡ length l
  unfolding cleared
  cleared_length x l = table_length (cleared_at L x l) (length l)

  pub united-at : (P : ℕ → Bool) (a b : ℕ) (l : List ℕ) (i : ℕ) → i < length l → get_or (united L P a b l) i 0 ≡ united_at L P a b l i
  unfolding united
  united-at P a b l i h = table_at (united_at L P a b l) (length l) i 0 h

  pub cleared-at : (x : ℕ) (l : List ℕ) (i : ℕ) → i < length l → get_or (cleared L x l) i 0 ≡ cleared_at L x l i
  unfolding cleared
  cleared-at x l i h = table_at (cleared_at L x l) (length l) i 0 h

  -- the list has n lines
  pub record Spans (n : ℕ) (l : List ℕ) : Type 0 where
    pub inside : (j d : ℕ) → j < n → d < ρ → L.entry j d < length l
    pub reached : (i : ℕ) → i < length l → L.line i < n

  -- ---- a loop over the lines that changes the entry of register r on each

  -- on the first j lines the entry of r is what F says, and all else is as it was
  pub record Gone (F : ℕ → ℕ) (r : ℕ) (old : List ℕ) (j : ℕ) (l : List ℕ) : Type 0 where
    pub long : length l ≡ length old
    pub new : (i : ℕ) → i < length old → L.along i ≡ r → L.line i < j → get_or l i 0 ≡ F i
    pub other : (i : ℕ) → L.along i ≢ r → get_or l i 0 ≡ get_or old i 0
    pub ahead : (i : ℕ) → j ≤ L.line i → get_or l i 0 ≡ get_or old i 0

  pub gone_none : (F : ℕ → ℕ) (r : ℕ) (old : List ℕ) → Gone F r old 0 old
  gone_none F r old = record { long = refl; new = λ i h e l. absurd (omega arith); other = λ i n. refl; ahead = λ i h. refl }

  pub united_all : (r a b : ℕ) (old : List ℕ) (j n : ℕ) (l : List ℕ) → Spans n old → n ≤ j → Gone (united_at L (λ s. eqb s r) a b old) r old j l
      → l ≡ united L (λ s. eqb s r) a b old
  unfolding united united_at
  united_all r a b old j n l s h g = table_is (united_at L (λ s. eqb s r) a b old) (length old) l 0 g.long (λ i b. by_test (eqb (L.along i) r)
      (λ t. g.new i b (eqb-true (L.along i) r t) (let z = s.reached i b in omega arith))
      (λ t. g.other i (eqb-false (L.along i) r t) ∙ rw t))

  pub cleared_all : (r : ℕ) (old : List ℕ) (j n : ℕ) (l : List ℕ) → Spans n old → n ≤ j → Gone (cleared_at L r old) r old j l → l ≡ cleared L r old
  unfolding cleared cleared_at
  cleared_all r old j n l s h g = table_is (cleared_at L r old) (length old) l 0 g.long (λ i b. by_test (eqb (L.along i) r)
      (λ t. g.new i b (eqb-true (L.along i) r t) (let z = s.reached i b in omega arith))
      (λ t. g.other i (eqb-false (L.along i) r t) ∙ rw t))

  pub united_none : (a b : ℕ) (old : List ℕ) (P : ℕ → Bool) → ((s : ℕ) → P s ≡ false) → old ≡ united L P a b old
  unfolding united united_at
  united_none a b old P e = table_is (united_at L P a b old) (length old) old 0 refl (λ i h. rw (e (L.along i)))

  -- ---- where each entry is on one line, at one place of it

  module _ (partition : Partition L) where
    at_entry : (j r d : ℕ) → r < ρ → entry_on_line L (L.entry j r) d ≡ L.entry j d
    at_entry j r d rb = ap (λ k. L.entry k d) (partition.line_entry j r rb)

    pub gone_more : (F : ℕ → ℕ) (r : ℕ) (old : List ℕ) (j : ℕ) (l : List ℕ) (n : ℕ) → Spans n old → r < ρ → j < n → Gone F r old j l → (v : ℕ)
        → v ≡ F (L.entry j r) → Gone F r old (j + 1) (set l (L.entry j r) v)
    gone_more F r old j l n s rb jb g v e = record {
      long = simp length-set g.long;
      new = λ i h p q. by_test (eqb (L.line i) j)
          (λ t. let k : L.entry j r ≡ i = ap₂ L.entry (sym (eqb-true (L.line i) j t)) (sym p) ∙ partition.entry_is (omega arith) i in
          subst (λ z. get_or (set l (L.entry j r) v) z 0 ≡ F z) k (get_or-set_same l (L.entry j r) v 0 (rw g.long (s.inside j r jb rb)) ∙ e))
          (λ t. let d = eqb-false (L.line i) j t in
          get_or-set_other l (L.entry j r) i v 0 (λ k. d (ap L.line k ∙ partition.line_entry j r rb)) ∙ g.new i h p (omega arith));
      other = λ i d. get_or-set_other l (L.entry j r) i v 0 (λ k. d (ap L.along k ∙ partition.along_entry j r rb)) ∙ g.other i d;
      ahead = λ i h. get_or-set_other l (L.entry j r) i v 0 (λ k. let z = ap L.line k ∙ partition.line_entry j r rb in absurd (omega arith))
          ∙ g.ahead i (omega arith);
    }

    -- an entry of the line at hand is as it was
    pub gone_read : (F : ℕ → ℕ) (r : ℕ) (old : List ℕ) (j : ℕ) (l : List ℕ) → Gone F r old j l → (d : ℕ) → d < ρ
        → get_or l (L.entry j d) 0 ≡ get_or old (L.entry j d) 0
    gone_read F r old j l g d db = g.ahead (L.entry j d) (let z = partition.line_entry j d db in omega arith)

    -- what is stored, at an entry of line j
    pub united_here : (r a b : ℕ) (l : List ℕ) (j : ℕ) → r < ρ
        → united_at L (λ s. eqb s r) a b l (L.entry j r) ≡ bit_or (get_or l (L.entry j a) 0) (get_or l (L.entry j b) 0)
    unfolding united_at
    united_here r a b l j rb = rw (partition.along_entry j r rb, eq-eqb r r refl, at_entry j r a rb, at_entry j r b rb)

    pub cleared_here : (r : ℕ) (l : List ℕ) (j : ℕ) → r < ρ → cleared_at L r l (L.entry j r) ≡ 0
    unfolding cleared_at
    cleared_here r l j rb = rw (partition.along_entry j r rb, eq-eqb r r refl)

    -- one turn of the loop
    pub unite_more : (r a b : ℕ) (old : List ℕ) (j : ℕ) (l : List ℕ) (n : ℕ) → Spans n old → r < ρ → a < ρ → b < ρ → j < n
        → Gone (united_at L (λ s. eqb s r) a b old) r old j l
        → Gone (united_at L (λ s. eqb s r) a b old) r old (j + 1) (set l (L.entry j r) (bit_or (get_or l (L.entry j a) 0) (get_or l (L.entry j b) 0)))
    unite_more r a b old j l n s rb ab bb jb g = gone_more F r old j l n s rb jb g (bit_or (get_or l (L.entry j a) 0) (get_or l (L.entry j b) 0))
        (ap₂ bit_or (gone_read F r old j l g a ab) (gone_read F r old j l g b bb) ∙ sym (united_here r a b old j rb))
      where
        F : ℕ → ℕ
        F = united_at L (λ s. eqb s r) a b old

    pub clear_more : (r : ℕ) (old : List ℕ) (j : ℕ) (l : List ℕ) (n : ℕ) → Spans n old → r < ρ → j < n → Gone (cleared_at L r old) r old j l
        → Gone (cleared_at L r old) r old (j + 1) (set l (L.entry j r) 0)
    clear_more r old j l n s rb jb g = gone_more (cleared_at L r old) r old j l n s rb jb g 0 (sym (cleared_here r old j rb))

    -- ---- a loop over the registers that unites along the lines at each register of a mask

    module _ (n : ℕ) (old : List ℕ) (sp : Spans n old) (a : ℕ) (ab : a < ρ) where
      at_below : (i d : ℕ) → i < length old → d < ρ → entry_on_line L i d < length old
      at_below i d h db = sp.inside (L.line i) d (sp.reached i h) db

      -- the entry of a stays what it is
      still : (P : ℕ → Bool) (i : ℕ) → i < length old → get_or (united L P a a old) (entry_on_line L i a) 0 ≡ get_or old (entry_on_line L i a) 0
      unfolding united_at
      still P i h =
          let j = L.line i in
          united-at P a a old (entry_on_line L i a) (at_below i a h ab)
          ∙ rw (partition.along_entry j a ab, at_entry j a a ab) (both (P a) (get_or old (entry_on_line L i a) 0))
        where
          both : (p : Bool) (x : ℕ) → cond p (bit_or x x) x ≡ x
          both true x = or_self x
          both false x = refl

      -- one more register gets the entry of a
      pub united_turn : (P Q : ℕ → Bool) (r : ℕ) → ((s : ℕ) → Q s ≡ (eqb s r || P s)) → united L (λ s. eqb s r) a a (united L P a a old) ≡ united L Q a a old
      unfolding united united_at
      united_turn P Q r e = table_is (united_at L Q a a old) (length old) (united L (λ s. eqb s r) a a (united L P a a old)) 0
          (united_length (λ s. eqb s r) a a (united L P a a old) ∙ united_length P a a old)
          (λ i h. united-at (λ s. eqb s r) a a (united L P a a old) i (rw (united_length P a a old) h) ∙ by_test (eqb (L.along i) r)
          (λ t. rw (e (L.along i), t) (ap₂ bit_or (still P i h) (still P i h)))
          (λ t. rw (e (L.along i), t) (united-at P a a old i h)))

      -- a first gets the union of its entry and that of b, and then each register of P, a among them, gets the entry of a
      pub united_twice : (P : ℕ → Bool) (b : ℕ) → P a ≡ true → united L P a a (united L (λ s. eqb s a) a b old) ≡ united L P a b old
      unfolding united united_at
      united_twice P b e = table_is (united_at L P a b old) (length old) (united L P a a J) 0 (united_length P a a J ∙ united_length (λ s. eqb s a) a b old)
          (λ i h. united-at P a a J i (rw (united_length (λ s. eqb s a) a b old) h) ∙ by_test (P (L.along i))
          (λ t. rw t (ap₂ bit_or (joined i h) (joined i h) ∙ or_self (bit_or (get_or old (entry_on_line L i a) 0) (get_or old (entry_on_line L i b) 0))))
          (λ t. rw t (united-at (λ s. eqb s a) a b old i h ∙ rw (ne_eqb (L.along i) a (λ k. no (sym (ap P k ∙ e) ∙ t))))))
        where
          J : List ℕ
          J = united L (λ s. eqb s a) a b old

          no : ◌≡◌ {A = Bool} true false → ⊥
          no z = subst T z tt

          joined : (i : ℕ) → i < length old → get_or J (entry_on_line L i a) 0 ≡ bit_or (get_or old (entry_on_line L i a) 0) (get_or old
              (entry_on_line L i b) 0)
          joined i h = united-at (λ s. eqb s a) a b old (entry_on_line L i a) (at_below i a h ab) ∙ united_here a a b old (L.line i) ab

    pub united_same : (P Q : ℕ → Bool) (a b : ℕ) (l : List ℕ) → 0 < ρ → ((s : ℕ) → s < ρ → P s ≡ Q s) → united L P a b l ≡ united L Q a b l
    unfolding united united_at
    united_same P Q a b l p e = table_is (united_at L Q a b l) (length l) (united L P a b l) 0 (united_length P a b l)
        (λ i h. united-at P a b l i h ∙ rw (e (L.along i) (partition.along_below p i)))
