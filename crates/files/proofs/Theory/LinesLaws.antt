-- From the contracts of the calls to what is answered.
use mathlib.Core.Path.{◌≡◌, sym, ap, subst, ◌∙◌}
use mathlib.Core.List.{List}
use Prim.Native.Nat.{ℕ, ◌≤◌, min}
use native.Mathlib.Omega.{arith}
use lib.Dec.{leb}
use lib.ListN.{length, take}
use lib.Seq.{take_all, length-take-le}
use borrow.Author.Tests.{leb-true, leb-false}
use Rattle.base.proofs.Theory.Choice.{by_test}
use Rattle.std.specs.Prelude.{Result, Ok, Err}
use Rattle.files.specs.declared.Unread.{Unread}
use Rattle.files.specs.Lines.{Known, bytes, unread, Answers}

-- No more bytes than there are.
pub take_least : (n : ℕ) (s : List ℕ) → take (min n (length s)) s ≡ take n s
take_least n s = by_test (leb n (length s))
    (λ t. let l = leb-true n (length s) t in ap (λ (k : ℕ). take k s) (smaller n (length s) l))
    (λ t.
    let l = leb-false n (length s) t in
    take_all (min n (length s)) s (larger n (length s) (omega (arith, l))) ∙ sym (take_all n s (omega (arith, l))))
  where
    smaller : (a b : ℕ) → a ≤ b → min a b ≡ a
    smaller a b h = omega arith

    larger : (a b : ℕ) → b ≤ a → b ≤ min a b
    larger a b h = omega arith

pub least_length : (n end : ℕ) (s : List ℕ) → end ≡ min n (length s) → end ≡ length (take end s)
least_length n end s e = sym (length-take-le end s (within n (length s) end e))
  where
    within : (a b c : ℕ) → c ≡ min a b → c ≤ b
    within a b c h = omega (arith, h)

module _ (Prints : List ℕ → List ℕ → ℕ → List ℕ → Type 0) (k : Known) (s entry exit : List ℕ) where
  -- Bytes are to be judged, and their lines were written.
  pub answers_bytes : (size : ℕ) → k ≡ bytes s → Prints s entry size exit → Answers Prints k entry (Ok size) exit
  answers_bytes size e p = subst (λ (q : Known). Answers Prints q entry (Ok size) exit) (sym e) p

  -- The first n of them are, at most all.
  pub answers_first : (n end size : ℕ) → k ≡ bytes (take n s) → end ≡ min n (length s) → Prints (take end s) entry size exit
      → Answers Prints k entry (Ok size) exit
  answers_first n end size e l p = subst (λ (q : Known). Answers Prints q entry (Ok size) exit) (sym e)
      (subst (λ (t : List ℕ). Prints t entry size exit) (ap (λ (i : ℕ). take i s) l ∙ take_least n s) p)

-- There is nothing to judge.
pub answers_unread : (Prints : List ℕ → List ℕ → ℕ → List ℕ → Type 0) (k : Known) (entry exit : List ℕ) (u : Unread) → k ≡ unread → exit ≡ entry
    → Answers Prints k entry (Err u) exit
answers_unread Prints k entry exit u e p = subst (λ (q : Known). Answers Prints q entry (Err u) exit) (sym e) p

-- Lines that were written are those of some bytes.
pub answers_written : (Prints : List ℕ → List ℕ → ℕ → List ℕ → Type 0) (k : Known) (entry exit : List ℕ) (r : Result ℕ Unread) (size : ℕ) → r ≡ Ok size
    → Answers Prints k entry r exit → (s : List ℕ) × Prints s entry size exit
answers_written Prints k entry exit r size e x = go k (subst (λ (a : Result ℕ Unread). Answers Prints k entry a exit) e x)
  where
    go : (k : Known) → Answers Prints k entry (Ok size) exit → (s : List ℕ) × Prints s entry size exit
    go (bytes s) p = (s, p)
    go unread p = absurd p
