-- Numbers as bytes and as codes, and back.
use mathlib.Core.Path.{◌≡◌, refl, sym, ap, ap₂, ◌∙◌, subst}
use mathlib.Core.List.{List, [], ◌∷◌, ◌++◌, append_assoc}
use Prim.Native.Nat.{ℕ, zero, suc, ◌+◌, ◌*◌, ◌^◌, ◌≤◌, ◌<◌}
use native.Mathlib.Omega.{arith}
use native.Mathlib.Nat.{div-one, mod-eq_of_lt}
use lib.ListN.{length, take, drop, replicate, length-drop, length-take, take-append-drop}
use lib.Seq.{drop_at, take_at}
use Rattle.letters.specs.Packing.{total, Sized, join, split}
use Rattle.letters.proofs.Theory.Packing.{split_join, join_split, join_lt}
use Rattle.traces.proofs.Theory.TraceLaws.{octets_total, octets_length}
use Rattle.semantics.specs.PackedTables.{units}
use Rattle.semantics.specs.TablesRead.{units_in}
use Rattle.records.specs.Codes.{gathered, scattered}

-- every entry lies below a bound
abbrev pub All< : ℕ → List ℕ → Type 0
All< b [] = Unit {0}
All< b (x ∷ l) = (x < b) × All< b l

-- numbers of k bytes come back
pub units_back : (k : ℕ) (ns rest : List ℕ) → All< (2 ^ (8 * k)) ns → units_in k (length ns) (units k ns ++ rest) ≡ ns
unfolding units units_in
units_back k [] rest h = refl
units_back k (n ∷ ns) rest h =
    let a : split (replicate k 8) n ++ units k ns ++ rest ≡ split (replicate k 8) n ++ (units k ns ++ rest) = append_assoc (split (replicate k 8) n)
    (units k ns) rest in
    ap₂ (λ x l. x ∷ l)
    (ap (λ s. join (replicate k 8) (take k s)) a ∙ ap (join (replicate k 8)) (take_at (split (replicate k 8) n) (units k ns ++ rest) k (octets_length k n))
    ∙ join_split (replicate k 8) n (subst (λ j. n < 2 ^ j) (sym (octets_total k)) h.0))
    (ap (λ s. units_in k (length ns) (drop k s)) a ∙ ap (units_in k (length ns))
    (drop_at (split (replicate k 8) n) (units k ns ++ rest) k (octets_length k n)) ∙ units_back k ns rest h.1)

-- g digits below 2^k
sized : (g k : ℕ) (ds : List ℕ) → length ds ≡ g → All< (2 ^ k) ds → Sized (replicate g k) ds
sized zero k [] e h = tt
sized zero k (d ∷ ds) e h = absurd (omega arith)
sized (suc g) k [] e h = absurd (omega arith)
sized (suc g) k (d ∷ ds) e h = (h.0, sized g k ds (omega arith) h.1)

all_take : (b n : ℕ) (l : List ℕ) → All< b l → All< b (take n l)
all_take b zero l h = tt
all_take b (suc n) [] h = tt
all_take b (suc n) (x ∷ l) h = (h.0, all_take b n l h.1)

all_drop : (b n : ℕ) (l : List ℕ) → All< b l → All< b (drop n l)
all_drop b zero l h = h
all_drop b (suc n) [] h = tt
all_drop b (suc n) (x ∷ l) h = all_drop b n l h.1

total_same : (g k : ℕ) → total (replicate g k) ≡ g * k
total_same zero k = omega arith
total_same (suc g) k = ap (λ n. k + n) (total_same g k) ∙ omega arith

-- digits come back
pub digits_back : (g k n : ℕ) (ds : List ℕ) → length ds ≡ n * g → All< (2 ^ k) ds → scattered g k (gathered g k n ds) ≡ ds
unfolding gathered scattered
digits_back g k zero [] e h = refl
digits_back g k zero (d ∷ ds) e h = absurd (omega arith)
digits_back g k (suc n) ds e h =
    let p : length (take g ds) ≡ g = length-take g ds ∙ omega arith in
    let q : length (drop g ds) ≡ n * g = length-drop g ds ∙ omega arith in
    ap₂ ◌++◌ (split_join (replicate g k) (take g ds) (sized g k (take g ds) p (all_take (2 ^ k) g ds h)))
    (digits_back g k n (drop g ds) q (all_drop (2 ^ k) g ds h)) ∙ take-append-drop g ds

-- and the numbers are small
pub gathered_small : (g k n : ℕ) (ds : List ℕ) → length ds ≡ n * g → All< (2 ^ k) ds → All< (2 ^ (g * k)) (gathered g k n ds)
unfolding gathered
gathered_small g k zero ds e h = tt
gathered_small g k (suc n) ds e h =
    let p : length (take g ds) ≡ g = length-take g ds ∙ omega arith in
    let q : length (drop g ds) ≡ n * g = length-drop g ds ∙ omega arith in (
      subst (λ j. join (replicate g k) (take g ds) < 2 ^ j) (total_same g k)
          (join_lt (replicate g k) (take g ds) (sized g k (take g ds) p (all_take (2 ^ k) g ds h))),
      gathered_small g k n (drop g ds) q (all_drop (2 ^ k) g ds h),
    )

pub gathered_length : (g k n : ℕ) (ds : List ℕ) → length (gathered g k n ds) ≡ n
unfolding gathered
gathered_length g k zero ds = refl
gathered_length g k (suc n) ds = ap suc (gathered_length g k n (drop g ds))

-- numbers of one byte are their bytes
pub units_one : (ns : List ℕ) → All< 256 ns → units 1 ns ≡ ns
unfolding units
units_one [] h = refl
units_one (n ∷ ns) h = ap₂ (λ x l. x ∷ l) (rw div-one (mod-eq_of_lt h.0)) (units_one ns h.1)

pub bytes_in : (n : ℕ) (s : List ℕ) → n ≤ length s → units_in 1 n s ≡ take n s
unfolding units_in
bytes_in zero s h = refl
bytes_in (suc n) [] h = absurd (omega arith)
bytes_in (suc n) (x ∷ s) h = ap₂ (λ y l. y ∷ l) (omega arith) (bytes_in n s (omega arith))
