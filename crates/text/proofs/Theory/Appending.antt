-- What follows from the definitions of specs/Appending.antt.
use mathlib.Core.Path.{◌≡◌, refl, sym, ap, ◌∙◌, subst}
use Prim.Native.Nat.{ℕ, suc, ◌+◌, ◌≤◌}
use native.Mathlib.Omega.{arith}
use native.Mathlib.Nat.{add-suc, suc-add, add-zero}
use mathlib.Core.List.{List, [], ◌∷◌, ◌++◌}
use lib.ListN.{length, take, drop, set, length-append}
use lib.Seq.{sets, sets-eq, length-sets, set_out}
use Rattle.text.specs.Appending.{stored, Appended, PlaceInRange}

-- Where there is room, that is the text between what stood before it and behind it.
pub stored_between : (out : List ℕ) (at : ℕ) (text : List ℕ) → at + length text ≤ length out
    → stored out at text ≡ take at out ++ text ++ drop (at + length text) out
unfolding stored
stored_between out at text h = sets-eq text out at h

pub stored_none : (out : List ℕ) (at : ℕ) → stored out at [] ≡ out
unfolding stored
stored_none out at = refl

-- The law of appending: one text and then the other are the two as one.
pub stored_append : (out : List ℕ) (at : ℕ) (s t : List ℕ) → stored (stored out at s) (at + length s) t ≡ stored out at (s ++ t)
unfolding stored
stored_append out at [] t = ap (λ n. sets out n t) (add-zero at)
stored_append out at (b ∷ s) t =
    ap (λ n. sets (sets (set out at b) (suc at) s) n t) (add-suc at (length s) ∙ sym (suc-add at (length s))) ∙ stored_append (set out at b) (suc at) s t

pub room_same : {at : ℕ} {s t : List ℕ} → s ≡ t → PlaceInRange at s → PlaceInRange at t
room_same {at} e h = subst (λ (x : List ℕ). PlaceInRange at x) e h

pub room_first : {at : ℕ} (s t : List ℕ) → PlaceInRange at (s ++ t) → PlaceInRange at s
room_first s t h = record { fits = omega (arith, h.fits, length-append s t) }

module _ {entry : List ℕ} {at : ℕ} where
  pub appended_length : {text exit : List ℕ} {next : ℕ} → Appended entry at text exit next → length exit ≡ length entry
  unfolding stored
  appended_length {text} a = ap (λ (l : List ℕ). length l) a.bytes ∙ length-sets entry at text

  pub appended_same : {s t exit : List ℕ} {next : ℕ} → s ≡ t → Appended entry at s exit next → Appended entry at t exit next
  appended_same {exit = exit} {next} e a = subst (λ (x : List ℕ). Appended entry at x exit next) e a

  -- a byte is stored, or lies past the end
  pub byte_stored : (b : ℕ) {exit : List ℕ} → exit ≡ set entry at b → Appended entry at (b ∷ []) exit (at + 1)
  unfolding stored
  byte_stored b e = record { bytes = e; place = refl }

  pub byte_dropped : (b : ℕ) {exit : List ℕ} → length entry ≤ at → exit ≡ entry → Appended entry at (b ∷ []) exit (at + 1)
  unfolding stored
  byte_dropped b h e = record { bytes = e ∙ sym (set_out entry at b h); place = refl }

-- Of a text to be appended, `rest` is left: with it at `next`, all of it is there.
pub record LeftToAppend (entry : List ℕ) (at : ℕ) (text rest now : List ℕ) (next : ℕ) : Type 0 where
  pub bytes : stored now next rest ≡ stored entry at text
  pub place : next + length rest ≡ at + length text

pub left_all : (entry : List ℕ) (at : ℕ) (text : List ℕ) → LeftToAppend entry at text text entry at
left_all entry at text = record { bytes = refl; place = refl }

module _ {entry : List ℕ} {at : ℕ} {text : List ℕ} where
  pub left_next : (s rest : List ℕ) {now exit : List ℕ} {n r : ℕ} → LeftToAppend entry at text (s ++ rest) now n → Appended now n s exit r
      → LeftToAppend entry at text rest exit r
  left_next s rest {now} {exit} {n} {r} l a = record {
    bytes = (λ i. stored (a.bytes i) (a.place i) rest) ∙ stored_append now n s rest ∙ l.bytes;
    place = omega (arith, a.place, l.place, length-append s rest);
  }

  pub left_none : {exit : List ℕ} {r : ℕ} → LeftToAppend entry at text [] exit r → Appended entry at text exit r
  left_none {exit} {r} l = record { bytes = sym (stored_none exit r) ∙ l.bytes; place = omega (arith, l.place) }

  pub left_room : (s rest : List ℕ) {now : List ℕ} {n : ℕ} → PlaceInRange at text → LeftToAppend entry at text (s ++ rest) now n → PlaceInRange n s
  left_room s rest h l = record { fits = omega (arith, h.fits, l.place, length-append s rest) }

  pub left_same : {s rest now : List ℕ} {n : ℕ} → rest ≡ s → LeftToAppend entry at text rest now n → LeftToAppend entry at text s now n
  left_same {s} {rest} {now} {n} e l = subst (λ (x : List ℕ). LeftToAppend entry at text x now n) e l

  pub left_length : {rest now : List ℕ} {n : ℕ} → LeftToAppend entry at text rest now n → length now ≡ length entry
  unfolding stored
  left_length {rest} {now} {n} l = sym (length-sets now n rest) ∙ ap (λ (x : List ℕ). length x) l.bytes ∙ length-sets entry at text

-- Two texts, one after the other.
pub appended_then : {entry : List ℕ} {at : ℕ} (s t : List ℕ) {middle exit : List ℕ} {n r : ℕ} → Appended entry at s middle n → Appended middle n t exit r
    → Appended entry at (s ++ t) exit r
appended_then {entry} {at} s t a b = record {
  bytes = b.bytes ∙ (λ i. stored (a.bytes i) (a.place i) t) ∙ stored_append entry at s t;
  place = omega (arith, a.place, b.place, length-append s t);
}

pub room_then : {entry : List ℕ} {at : ℕ} (s t : List ℕ) {middle : List ℕ} {n : ℕ} → PlaceInRange at (s ++ t) → Appended entry at s middle n → PlaceInRange n t
room_then s t h a = record { fits = omega (arith, h.fits, a.place, length-append s t) }
