-- Lists that are given entry by entry: a mapped list, and one list within another.
use mathlib.Core.Path.{◌≡◌, refl, sym, ◌∙◌}
use Prim.Native.Nat.{ℕ, zero, suc, ◌<◌}
use native.Mathlib.Omega.{arith}
use mathlib.Core.List.{List, [], ◌∷◌, map}
use lib.ListN.{length, get_or, length-map}
use Rattle.window.specs.Table.{table}
use Rattle.window.proofs.Theory.Table.{table_is}

pub map_at : {A B : Type 0} (f : A → B) (l : List A) (i : ℕ) (d : A) (e : B) → i < length l → get_or (map f l) i e ≡ f (get_or l i d)
map_at f [] i d e h = absurd (omega arith)
map_at f (x ∷ l) zero d e h = refl
map_at f (x ∷ l) (suc i) d e h = map_at f l i d e (omega arith)

pub map_table : {A B : Type 0} (f : A → B) (l : List A) (n : ℕ) (d : A) → length l ≡ n → map f l ≡ table (λ i. f (get_or l i d)) n
map_table f l n d h = table_is (λ i. f (get_or l i d)) n (map f l) (f d) (length-map l f ∙ h) (λ i b. map_at f l i d (f d) (omega arith))

-- a list whose entries are those of another, each mapped
pub map_made : {A B : Type 0} (f : A → B) (l : List A) (m : List B) (n : ℕ) (d : A) (e : B) → length l ≡ n → length m ≡ n
    → ((i : ℕ) → i < n → get_or m i e ≡ f (get_or l i d)) → m ≡ map f l
map_made f l m n d e h g t = table_is (λ i. f (get_or l i d)) n m e g t ∙ sym (map_table f l n d h)
