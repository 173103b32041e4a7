-- What the code makes of slots: a law for each way out of a function and for each turn of a loop, in plain variables.
use mathlib.Core.Path.{◌≡◌, refl, sym, ap, ap₂, ◌∙◌, subst, fun_ext}
use mathlib.Core.Logic.{◌≢◌}
use mathlib.Core.Bool.{Bool, true, false, cond, ◌||◌}
use mathlib.Core.List.{List}
use Prim.Native.Nat.{ℕ, suc, ◌+◌, ◌*◌, ◌^◌, ◌-◌, ◌≤◌, ◌<◌}
use native.Mathlib.Omega.{arith}
use native.Mathlib.Numerals.{add-one}
use lib.Dec.{eqb, T}
use lib.Bits.{bit_and, bit_or}
use lib.ListN.{length, get_or, set}
use borrow.Author.Tests.{eq-eqb, ne_eqb, lt-ltb, le-ltb}
use Rattle.base.proofs.Theory.Written.{written_none, written_more}
use Rattle.base.specs.Masks.{has}
use Rattle.base.specs.LeastAndSize.{least_in}
use Rattle.window.specs.Places.{place}
use Rattle.window.specs.Table.{table}
use Rattle.window.proofs.Theory.Table.{Swept, swept_more, swept_all}
use Rattle.window.specs.Bits.{nonempty, minus}
use Rattle.semantics.proofs.Theory.Booleans.{and_l, and_r, and_i}
use Rattle.semantics.proofs.Theory.Of.{same_test}
use Rattle.window.proofs.Theory.Bits.{single_test, has_and, nonempty_is}
use Rattle.window.proofs.Theory.Bits.{single_is as in_single}
use Rattle.window.specs.Lines.{columns, rows, united}
use Rattle.window.specs.Through.{bits_moved, masks_through, results_through}
use Rattle.window.specs.Adding.{masks_forgotten}
use Rattle.window.specs.Marks.{lost_of}
use Rattle.window.specs.Performing.{apart_of}
use Rattle.slots.specs.Slots.{Slots, slots_of, slot_of}
use Rattle.slots.specs.Performing.{with_mark, free_from, pulled_of, many_of, doubled_of}
use Rattle.slots.specs.Performing.{results_dropped, masks_renamed, results_renamed, slot_renamed, marks_in, result_recorded, ever_recorded}
use Rattle.slots.specs.Performing.{pair_recorded}
use Rattle.slots.specs.Performing.{entry_of, find_slots}
use Rattle.slots.specs.Performing.{dropped_slots, recorded_slots, merged_slots}
use Rattle.slots.specs.Performing.{closed_slots}

-- a list that is written entry by entry: its start, and a turn
pub ruleset written = (written_none, written_more)

-- ---- registers and slots

module _ (ρ : ℕ) (regs : List ℕ) where
  pub free_here : (i : ℕ) → i < ρ → get_or regs i 0 ≡ 0 → free_from regs i (ρ - i) ≡ i
  unfolding free_from
  free_here i h e = let k : ρ - i ≡ suc (ρ - (i + 1)) = omega arith in rw (k, eq-eqb (get_or regs i 0) 0 e)

  pub free_more : (i : ℕ) → i < ρ → get_or regs i 0 ≢ 0 → free_from regs i (ρ - i) ≡ free_from regs (i + 1) (ρ - (i + 1))
  unfolding free_from
  free_more i h n = let k : ρ - i ≡ suc (ρ - (i + 1)) = omega arith in rw (k, ne_eqb (get_or regs i 0) 0 n, add-one)

  pub free_none : (i : ℕ) → ρ ≤ i → free_from regs i (ρ - i) ≡ i
  unfolding free_from
  free_none i h = let k : ρ - i ≡ 0 = omega arith in rw k

-- ---- a slot without registers

-- the mark of a register, with those of the slots of a mask
abbrev pub marked_at : List ℕ → List Bool → ℕ → ℕ → Bool
marked_at slot old slots k = get_or old k false || has slots (slot_of slot k)

module _ (ρ : ℕ) (slot : List ℕ) (old : List Bool) (slots : ℕ) (long : length old ≡ ρ) where
  pub marks_more : (l : List Bool) (r s : ℕ) (v : Bool) → Swept (marked_at slot old slots) false old r l → r < ρ → s ≡ slot_of slot r → v ≡ has slots s
      → Swept (marked_at slot old slots) false old (r + 1) (set l r (get_or l r false || v))
  marks_more l r s v w h e d = swept_more (marked_at slot old slots) false old r l (get_or l r false || v) w (omega arith)
      (ap₂ ◌||◌ (w.ahead r (omega arith)) (d ∙ ap (has slots) e))

  pub marks_all : (l : List Bool) (r : ℕ) → Swept (marked_at slot old slots) false old r l → ρ ≤ r → l ≡ marks_in ρ slot old slots
  unfolding marks_in
  marks_all l r w h = swept_all (marked_at slot old slots) false old r l w (omega arith) ∙ ap (table (marked_at slot old slots)) long

module _ (ρ φ : ℕ) where
  pub dropped_is : (slot g u r e u' r' e' : List ℕ) (m m' : List Bool) (i : Bool) (s more lost : ℕ)
      → lost ≡ bit_or (lost_of ρ φ r s more) (2 ^ s) → m' ≡ marks_in ρ slot m lost
      → u' ≡ masks_forgotten ρ s u → r' ≡ results_dropped ρ s r → e' ≡ masks_forgotten ρ s e
      → slots_of slot g u' r' e' m' i ≡ dropped_slots ρ φ (slots_of slot g u r e m i) s more
  unfolding dropped_slots
  dropped_is slot g u r e u' r' e' m m' i s more lost a b c d f = rw (b, c, d, f, a)

-- ---- an application

module _ (ρ a b n : ℕ) (t : List ℕ) where
  pub pair-recorded : (eqb a n || eqb b n) ≡ false → (one two : ℕ) → one ≡ 2 ^ n → two ≡ 2 ^ n
      → set (set t (ρ * a + b) (bit_or (get_or t (ρ * a + b) 0) one)) (ρ * b + a)
      (bit_or (get_or (set t (ρ * a + b) (bit_or (get_or t (ρ * a + b) 0) one)) (ρ * b + a) 0) two)
      ≡ pair_recorded ρ a b n t
  unfolding pair_recorded
  pair-recorded e one two p q = rw (e, p, q)

module _ (ρ φ : ℕ) where
  pub recorded_still : (w : Slots) (x f a b n : ℕ) → (eqb a n || eqb b n) ≡ true → with_mark w (set w.mark x false) ≡ recorded_slots ρ φ w x f a b n
  unfolding recorded_slots result_recorded ever_recorded
  recorded_still w x f a b n t = rw t

  pub recorded_is : (w : Slots) (x f a b n one two : ℕ) → (eqb a n || eqb b n) ≡ false → one ≡ 2 ^ n → two ≡ 2 ^ b
      → slots_of w.slot w.regs w.unequal (set w.result (place ρ f a b) (bit_or (get_or w.result (place ρ f a b) 0) one))
      (set w.ever (ρ * f + a) (bit_or (get_or w.ever (ρ * f + a) 0) two)) (set w.mark x false) w.infeasible ≡ recorded_slots ρ φ w x f a b n
  unfolding recorded_slots result_recorded ever_recorded
  recorded_is w x f a b n one two t p q = rw (t, p, q)

-- ---- an equal test

-- the slot of a register, with slot b called a
abbrev pub renamed_at : List ℕ → ℕ → ℕ → ℕ → ℕ
renamed_at old a b k = cond (eqb (slot_of old k) b) a (slot_of old k)

module _ (ρ : ℕ) (old : List ℕ) (a b : ℕ) (long : length old ≡ ρ) where
  pub renamed_more : (l : List ℕ) (r v to from : ℕ) → to ≡ a → from ≡ b → Swept (renamed_at old a b) 0 old r l → r < ρ
      → v ≡ cond (eqb (get_or l r 0) from) to (get_or l r 0) → Swept (renamed_at old a b) 0 old (r + 1) (set l r v)
  renamed_more l r v to from p q w h e = swept_more (renamed_at old a b) 0 old r l v w (omega arith)
      (e ∙ rw (p, q) (ap (λ k. cond (eqb k b) a k) (w.ahead r (omega arith))))

  pub renamed_all : (l : List ℕ) (r : ℕ) → Swept (renamed_at old a b) 0 old r l → ρ ≤ r → l ≡ slot_renamed ρ a b old
  unfolding slot_renamed
  renamed_all l r w h = swept_all (renamed_at old a b) 0 old r l w (omega arith) ∙ ap (table (renamed_at old a b)) long

module _ (ρ a b : ℕ) where
  pub single_is : (λ (s : ℕ). eqb s a) ≡ has (2 ^ a)
  single_is = fun_ext λ s. sym (single_test a s)

  pub masks-renamed : (one two to : ℕ) (l m k n : List ℕ) → m ≡ united (columns ρ) (λ s. eqb s a) a b l → one ≡ 2 ^ a → two ≡ 2 ^ b → to ≡ 2 ^ a
      → k ≡ bits_moved (bit_or one two) to m → n ≡ masks_forgotten ρ b k → n ≡ masks_renamed ρ a b l
  unfolding masks_renamed masks_through
  masks-renamed one two to l m k n e p q o d g = rw (g, d, e, p, q, o, single_is)

  pub results-renamed : (one two to : ℕ) (l m k n o : List ℕ) → m ≡ united (columns ρ) (λ s. eqb s a) a b l → k ≡ united (rows ρ) (λ s. eqb s a) a b m
      → one ≡ 2 ^ a → two ≡ 2 ^ b → to ≡ 2 ^ a → n ≡ bits_moved (bit_or one two) to k → o ≡ results_dropped ρ b n → o ≡ results_renamed ρ a b l
  unfolding results_renamed results_through
  results-renamed one two to l m k n o e f p q t d g = rw (g, d, f, e, p, q, t, single_is)

module _ (ρ φ : ℕ) where
  pub merged_is : (w : Slots) (a b : ℕ) (slot u r e : List ℕ) → slot ≡ slot_renamed ρ a b w.slot → u ≡ masks_renamed ρ a b w.unequal
      → r ≡ results_renamed ρ a b w.result
      → e ≡ masks_renamed ρ a b w.ever
      → slots_of slot (set (set w.regs a (bit_or (get_or w.regs a 0) (get_or w.regs b 0))) b 0) u r e w.mark w.infeasible ≡ merged_slots ρ φ w a b
  unfolding merged_slots
  merged_is w a b slot u r e p q c d = rw (p, q, c, d)

module _ (ρ : ℕ) where
  pub doubled_all : (l : List ℕ) (b : Bool) (i n : ℕ) → i ≤ n → n ≤ i → b ≡ doubled_of ρ l i → b ≡ doubled_of ρ l n
  doubled_all l b i n h g e = e ∙ ap (doubled_of ρ l) (omega arith)

module _ (ρ : ℕ) (slot regs result : List ℕ) where
  pub find_here : (n i m v : ℕ) (t : Bool) → i < n → m ≡ entry_of ρ slot regs result i → t ≡ many_of ρ m → t ≡ true → v ≡ pulled_of regs m ρ
      → v ≡ find_slots ρ slot regs result i (n - i)
  unfolding find_slots
  find_here n i m v t h e q p d = let k : n - i ≡ suc (n - (i + 1)) = omega arith in rw (k, ← e, ← q, p) d

  pub find_more : (n i m : ℕ) (t : Bool) → i < n → m ≡ entry_of ρ slot regs result i → t ≡ many_of ρ m → t ≡ false
      → find_slots ρ slot regs result i (n - i) ≡ find_slots ρ slot regs result (i + 1) (n - (i + 1))
  unfolding find_slots
  find_more n i m t h e q p = let k : n - i ≡ suc (n - (i + 1)) = omega arith in rw (k, ← e, ← q, p, add-one)

  pub find_none : (n i : ℕ) → n ≤ i → find_slots ρ slot regs result i (n - i) ≡ 0
  unfolding find_slots
  find_none n i h = let k : n - i ≡ 0 = omega arith in rw k

module _ (ρ φ : ℕ) where
  module _ (fuel : ℕ) (d : Bool) (w : Slots) (h : 0 < fuel) (de : d ≡ doubled_of ρ w.result (φ * ρ * ρ)) where
    more : fuel ≡ suc (fuel - 1)
    more = omega arith

    pub closed_still : d ≡ false → closed_slots ρ φ fuel w ≡ w
    unfolding closed_slots
    closed_still t = rw (more, ← de, t)

    module _ (double : d ≡ true) (m one : ℕ) (me : m ≡ find_slots ρ w.slot w.regs w.result 0 (φ * ρ * ρ)) (oe : one ≡ least_in ρ m) where
      pub closed_none : ρ ≤ one → closed_slots ρ φ fuel w ≡ w
      unfolding closed_slots
      closed_none g = rw (more, ← de, double, ← me, ← oe, le-ltb one ρ g)

      module _ (others two : ℕ) (re : others ≡ minus m (get_or w.regs (slot_of w.slot one) 0)) (te : two ≡ least_in ρ others) (ob : one < ρ) where
        pub closed_one : ρ ≤ two → closed_slots ρ φ fuel w ≡ w
        unfolding closed_slots
        closed_one g = rw (more, ← de, double, ← me, ← oe, lt-ltb one ρ ob, ← re, ← te, le-ltb two ρ g)

        pub closed_more : two < ρ → (a b : ℕ) → a ≡ slot_of w.slot one → b ≡ slot_of w.slot two → (v : Slots) → v ≡ merged_slots ρ φ w a b
            → closed_slots ρ φ fuel w ≡ closed_slots ρ φ (fuel - 1) v
        unfolding closed_slots
        closed_more g a b ae be v ve = ap (λ n. closed_slots ρ φ n w) more ∙ step (fuel - 1)
          where
            step : (n : ℕ) → closed_slots ρ φ (suc n) w ≡ closed_slots ρ φ n v
            step n = rw (← de, double, ← me, ← oe, lt-ltb one ρ ob, ← re, ← te, lt-ltb two ρ g, ← ae, ← be, ve)

  pub closed_end : (fuel : ℕ) (w : Slots) → fuel ≤ 0 → closed_slots ρ φ fuel w ≡ w
  unfolding closed_slots
  closed_end fuel w h = let k : fuel ≡ 0 = omega arith in rw k

-- whether slot s is apart from itself
pub apart_itself : (ρ φ : ℕ) (unequal : List ℕ) (s own : ℕ) (v : Bool) → s < ρ → own ≡ 2 ^ s → v ≡ apart_of ρ φ unequal s own → v ≡ has (get_or unequal s 0) s
unfolding apart_of
apart_itself ρ φ unequal s own v h e d = d ∙ ap (λ m. nonempty ρ (bit_and (get_or unequal s 0) m)) e
    ∙ same_test (nonempty ρ (bit_and (get_or unequal s 0) (2 ^ s))) (has (get_or unequal s 0) s) (
      (λ t. let (c, _, u) = (nonempty_is ρ (bit_and (get_or unequal s 0) (2 ^ s))).0 t in
          let both = subst T (has_and (get_or unequal s 0) (2 ^ s) c) u in
          subst (λ k. T (has (get_or unequal s 0) k)) ((in_single s c).0 (and_r (has (get_or unequal s 0) c) (has (2 ^ s) c) both))
          (and_l (has (get_or unequal s 0) c) (has (2 ^ s) c) both)),
      (λ t. (nonempty_is ρ (bit_and (get_or unequal s 0) (2 ^ s))).1
          (s, h, subst T (sym (has_and (get_or unequal s 0) (2 ^ s) s)) (and_i (has (get_or unequal s 0) s) (has (2 ^ s) s) t ((in_single s s).1 refl)))),
    )
