-- What follows from the definitions of specs/Inserted.antt.
use mathlib.Core.Path.{◌≡◌, sym, ◌∙◌, ap}
use mathlib.Core.List.{List, [], ◌++◌, append_assoc}
use Prim.Native.Nat.{ℕ, ◌+◌, ◌≤◌}
use native.Mathlib.Omega.{arith}
use lib.ListN.{length, take, drop, length-append, length-take, length-drop, take-append-drop}
use lib.Seq.{length-take-le, take_at, drop-drop, drop-append-add}
use Rattle.model_writer.specs.Inserted.{inserted}

pub inserted_none : (at : ℕ) (l : List ℕ) → l ≡ inserted at [] l
unfolding inserted
inserted_none at l = sym (take-append-drop at l) ∙ ap (λ (k : ℕ). take at l ++ drop k l) (let e : at ≡ at + 0 = omega arith in e)

pub inserted_length : (at : ℕ) (bytes l : List ℕ) → at + length bytes ≤ length l → length (inserted at bytes l) ≡ length l
unfolding inserted
inserted_length at bytes l h = simp (length-append, length-take, length-drop) (omega arith)

-- one part after another
pub inserted_more : (at p : ℕ) (a b l : List ℕ) → p ≡ at + length a → at + length a + length b ≤ length l
    → inserted p b (inserted at a l) ≡ inserted at (a ++ b) l
unfolding inserted
inserted_more at p a b l e h = rw e (
    (λ k. front k ++ (b ++ back k))
    ∙ append_assoc (take at l) a (b ++ drop (at + length (a ++ b)) l) ∙ ap (λ r. take at l ++ r) (sym (append_assoc a b (drop (at + length (a ++ b)) l))))
  where
    long : length (take at l ++ a) ≡ at + length a
    long = length-append (take at l) a ∙ ap (λ n. n + length a) (length-take-le at l (omega arith))

    front : take (at + length a) (take at l ++ (a ++ drop (at + length a) l)) ≡ take at l ++ a
    front = ap (take (at + length a)) (sym (append_assoc (take at l) a (drop (at + length a) l)))
        ∙ take_at (take at l ++ a) (drop (at + length a) l) (at + length a) long

    back : drop (at + length a + length b) (take at l ++ (a ++ drop (at + length a) l)) ≡ drop (at + length (a ++ b)) l
    back = ap (drop (at + length a + length b)) (sym (append_assoc (take at l) a (drop (at + length a) l)))
        ∙ ap (λ n. drop (n + length b) ((take at l ++ a) ++ drop (at + length a) l)) (sym long)
        ∙ drop-append-add (take at l ++ a) (drop (at + length a) l) (length b)
        ∙ drop-drop (length b) (at + length a) l
        ∙ ap (λ n. drop n l) (let e = length-append a b in let q : at + length a + length b ≡ at + length (a ++ b) = omega arith in q)
