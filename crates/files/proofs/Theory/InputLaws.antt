-- What one read gives lies within the buffer, and so does what a row of them gives.
use mathlib.Core.Path.{◌≡◌, refl, sym, ap, subst, ◌∙◌}
use mathlib.Core.Bool.{Bool, true, false}
use mathlib.Core.List.{List}
use Prim.Native.Nat.{ℕ, ◌+◌, ◌-◌, ◌<◌, ◌≤◌, min}
use native.Mathlib.Omega.{arith}
use lib.Dec.{eqb, T}
use Rattle.std.specs.Prelude.{Some, None, Result, Ok, Err}
use Rattle.std.specs.declared.ops.ControlFlow.{ControlFlow}
use Rattle.std.specs.declared.ops.ControlFlow.TheVariants.{Continue, Break}
use Rattle.files.specs.declared.Unread.{Unread}
use lib.ListN.{length, take, drop}
use lib.Seq.{length-paste, length-take-le, drop-paste, drop-drop}
use borrow.Author.Tests.{eqb-false}
use Rattle.base.proofs.Theory.Choice.{by_test}
use Rattle.files.specs.declared.Input.{Input}
use Rattle.files.specs.declared.Input.TheVariants.{Ended, Full}
use Rattle.files.specs.Input.{OneRead, meaning, given, Gave, Stored, read_count, following, ReadSequence, Received}
use Rattle.files.proofs.Theory.Input.{Short}

meaning_gave : (z : Result ℕ Unread) (most : ℕ) → 0 < most → Gave most (meaning z most)
meaning_gave (Err e) most h = tt
meaning_gave (Ok n) most h = by_test (eqb n 0) (λ t. rw t tt) λ t. let l = eqb-false n 0 t in rw t (some n most l h, omega arith)
  where
    some : (n most : ℕ) → (n ≡ 0 → ⊥) → 0 < most → 0 < min n most
    some n most l h = omega arith

pub gave : (z : Result ℕ Unread) (most : ℕ) (r : OneRead) → r ≡ meaning z most → 0 < most → Gave most r
gave z most r e h = subst (Gave most) (sym e) (meaning_gave z most h)

pub gave_most : (most : ℕ) (r : OneRead) → Gave most r → given r ≤ most
gave_most most (Ok (Some n)) h = h.1
gave_most most (Ok None) h = omega arith
gave_most most (Err x) h = omega arith

pub gave_wider : (most room : ℕ) (r : OneRead) → most ≤ room → Gave most r → Gave room r
gave_wider most room (Ok (Some n)) l h = (h.0, omega (arith, h.1))
gave_wider most room (Ok None) l h = tt
gave_wider most room (Err x) l h = tt

-- ── one read after the other ──
abbrev over_of : ControlFlow Input ℕ → Input
over_of (Continue n) = Full
over_of (Break i) = i

abbrev more_of : ControlFlow Input ℕ → ℕ
more_of (Continue n) = n
more_of (Break i) = 0

abbrev is_more : ControlFlow Input ℕ → Bool
is_more (Continue n) = true
is_more (Break i) = false

more_over : {n : ℕ} {i : Input} → Continue n ≡ Break i → ⊥
more_over e = subst T (ap is_more e) tt

following_more : (r : OneRead) (done n : ℕ) → following r done ≡ Continue n → given r ≡ n
following_more (Ok (Some k)) done n e = ap more_of e
following_more (Ok None) done n e = absurd (more_over (sym e))
following_more (Err x) done n e = absurd (more_over (sym e))

-- The last read gave no bytes.
following_none : (r : OneRead) (done : ℕ) (i : Input) → following r done ≡ Break i → given r ≡ 0
following_none (Ok (Some k)) done i e = absurd (more_over e)
following_none (Ok None) done i e = refl
following_none (Err x) done i e = refl

following_over : (r : OneRead) (done room : ℕ) (i : Input) → following r done ≡ Break i → (read_count i room ≡ done) × (done < room → Short i room)
following_over (Ok (Some k)) done room i e = absurd (more_over e)
following_over (Ok None) done room i e = subst (λ (j : Input). (read_count j room ≡ done) × (done < room → Short j room)) (ap over_of e) (refl, λ l. l)
following_over (Err x) done room i e = subst (λ (j : Input). (read_count j room ≡ done) × (done < room → Short j room)) (ap over_of e) (refl, λ l. l)

reads_short : {room : ℕ} {r : Input} {done : ℕ} → ReadSequence room r done → Short r room
reads_short {room} (ReadSequence.full e) = subst (λ (i : Input). Short i room) (sym e) tt
reads_short {room} {r} {done} (ReadSequence.over answer l f) = (following_over answer done room r f).1 l
reads_short (ReadSequence.more answer n f p w x) = reads_short x

-- So far `done` bytes were read into the buffer's front: what follows them follows from the beginning.
pub record SoFar (entry : List ℕ) (done : ℕ) (buffer : List ℕ) : Type 0 where
  pub length_kept : length buffer ≡ length entry
  pub within : done ≤ length entry
  pub behind : drop done buffer ≡ drop done entry
  pub onward : (r : Input) → ReadSequence (length entry) r done → ReadSequence (length entry) r 0

pub so_far_none : (entry : List ℕ) → SoFar entry 0 entry
so_far_none entry = record { length_kept = refl; within = omega arith; behind = refl; onward = λ r x. x }

module _ (entry buffer piece exit : List ℕ) (done : ℕ) (r : OneRead) (s : SoFar entry done buffer) (m : Stored buffer done piece r exit) where
  room : done + given r ≤ length buffer
  room = omega (arith, s.length_kept, s.within, gave_most (length buffer - done) r m.gave)

  stored_length : length exit ≡ length entry
  stored_length = ap length m.bytes ∙ length-paste buffer done piece (given r) room m.front ∙ s.length_kept

  stored_behind : drop (done + given r) exit ≡ drop (done + given r) entry
  stored_behind = ap (drop (done + given r)) m.bytes ∙ drop-paste buffer done piece (given r) (omega (arith, room)) m.front
      ∙ sym (drop-drop (given r) done buffer) ∙ ap (drop (given r)) s.behind ∙ drop-drop (given r) done entry

  gave_some : (q : OneRead) (n : ℕ) → Gave (length buffer - done) q → following q done ≡ Continue n → 0 < n
  gave_some (Ok (Some k)) n g f = subst (λ (j : ℕ). 0 < j) (ap more_of f) g.0
  gave_some (Ok None) n g f = absurd (more_over (sym f))
  gave_some (Err x) n g f = absurd (more_over (sym f))

  -- The read gave n bytes.
  pub so_far_more : (n : ℕ) → following r done ≡ Continue n → SoFar entry (done + n) exit × (0 < n)
  so_far_more n f =
      let e = following_more r done n f in
      let some = gave_some r n m.gave f in
      let all : done + n ≤ length entry = omega (arith, room, e, s.length_kept) in (
        record {
          length_kept = stored_length;
          within = all;
          behind = subst (λ (k : ℕ). drop (done + k) exit ≡ drop (done + k) entry) e stored_behind;
          onward = λ i x. s.onward i (ReadSequence.more r n f some all x);
        },
        some,
      )

  -- It was the last.
  pub received : (i : Input) → following r done ≡ Break i → done < length entry → Received entry i exit
  received i f l =
      let e : done + given r ≡ read_count i (length entry) = omega (arith, following_none r done i f, (following_over r done (length entry) i f).0) in
      record {
        reads = s.onward i (ReadSequence.over r l f);
        length_kept = stored_length;
        behind = subst (λ (k : ℕ). drop k exit ≡ drop k entry) e stored_behind;
      }

-- The buffer is full.
pub received_full : (entry buffer : List ℕ) (done : ℕ) → SoFar entry done buffer → length entry ≤ done → Received entry Full buffer
received_full entry buffer done s l =
    let e : done ≡ length entry = omega (arith, s.within) in
    record {
      reads = s.onward Full (subst (ReadSequence (length entry) Full) (sym e) (ReadSequence.full refl));
      length_kept = s.length_kept;
      behind = subst (λ (k : ℕ). drop k buffer ≡ drop k entry) e s.behind;
    }

module _ {entry exit : List ℕ} {r : Input} (x : Received entry r exit) {n : ℕ} (e : r ≡ Ended n) where
  -- An input that ended is a beginning of the buffer.
  pub ended_within : n ≤ length exit
  ended_within = omega (arith, x.length_kept, subst (λ (i : Input). Short i (length entry)) e (reads_short x.reads))

  pub ended_length : n ≡ length (take n exit)
  ended_length = sym (length-take-le n exit ended_within)
