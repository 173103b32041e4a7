-- What follows from the definitions of specs/Bytes.antt.
use mathlib.Core.Path.{◌≡◌, refl, sym, ◌∙◌, ap}
use mathlib.Core.List.{List, [], ◌∷◌, ◌++◌, map, append-nil, append_assoc}
use Prim.Native.Nat.{ℕ, zero, suc, ◌+◌, ◌*◌, ◌/◌, ◌%◌, ◌≤◌, ◌<◌}
use native.Mathlib.Omega.{arith}
use native.Mathlib.Numerals.{add-one}
use lib.ListN.{length, get_or, take, drop, set, replicate, length-append, length-set, length-map}
use lib.Seq.{sets-eq, take-suc, take_all, length-take-le, get_or-take, drop-drop}
use borrow.Rule.Slice.PartMut.{put_mid}
use native.Mathlib.Nat.{mul-le-mul_left, mul-suc}
use Rattle.letters.specs.Editions.{first_edition, most_functions}
use Rattle.letters.specs.declared.Header.{Header}
use Rattle.letters.specs.Packing.{split}
use Rattle.letters.specs.Putting.{put_word}
use Rattle.base.proofs.Theory.Choice.{by_test}
use Rattle.base.specs.Masks.{has}
use Rattle.traces.proofs.Theory.Units.{unit_bytes}
use Rattle.semantics.specs.PackedTables.{units, packed_row, second_written, pack_tables, row_bytes, word_bytes}
use Rattle.semantics.proofs.Theory.PackedTablesLaws.{units_length}
use Rattle.model_writer.specs.Inserted.{inserted}
use Rattle.model_writer.proofs.Theory.Inserted.{inserted_none, inserted_more, inserted_length}
use Rattle.model_writer.specs.Bytes.{counts_bytes, model_length, value_range, joined_of}
use Rattle.model_writer.specs.Bytes.{put_five, row_for, word_for, words_for, RowIn, StartsFit, RowsFit, tables_in, Writable}

pub units_append : (k : ℕ) (ns ms : List ℕ) → units k (ns ++ ms) ≡ units k ns ++ units k ms
unfolding units
units_append k [] ms = refl
units_append k (n ∷ ns) ms = ap (λ r. split (replicate k 8) n ++ r) (units_append k ns ms)
    ∙ sym (append_assoc (split (replicate k 8) n) (units k ns) (units k ms))

units_one : (k n : ℕ) → units k (n ∷ []) ≡ split (replicate k 8) n
unfolding units
units_one k n = append-nil (split (replicate k 8) n)

-- a word of two bytes, and one of five
pub word_inserted : (out : List ℕ) (at w : ℕ) → w < 65536 → at + 1 < length out → put_word out at w ≡ inserted at (units word_bytes (w ∷ [])) out
unfolding inserted
word_inserted out at w b h =
    ap (λ k. set (set out at (w / 256)) k (w % 256)) (add-one at) ∙ sets-eq (w / 256 ∷ w % 256 ∷ []) out at (omega arith)
    ∙ append_assoc (take at out) (w / 256 ∷ w % 256 ∷ []) (drop (at + 2) out)
    ∙ ap (λ (v : List ℕ). take at out ++ (v ++ drop (at + length v) out)) (sym (unit_bytes w b) ∙ sym (units_one word_bytes w))

-- the five bytes of a number
abbrev pub five_of : ℕ → List ℕ
five_of w = w / 4294967296 % 256 ∷ w / 16777216 % 256 ∷ w / 65536 % 256 ∷ w / 256 % 256 ∷ w % 256 ∷ []

five_laid : (out : List ℕ) (at w : ℕ) → at + 4 < length out → put_five out at w ≡ take at out ++ (five_of w ++ drop (at + 5) out)
five_laid out at w h =
    (λ k. set (set (set (set (set out at (w / 4294967296 % 256)) (one k) (w / 16777216 % 256)) (two k) (w / 65536 % 256)) (three k) (w / 256 % 256)) (four k)
    (w % 256))
    ∙ sets-eq (five_of w) out at (omega arith)
    ∙ append_assoc (take at out) (five_of w) (drop (at + 5) out)
  where
    one : at + 1 ≡ suc at
    one = omega arith

    two : at + 2 ≡ suc (suc at)
    two = omega arith

    three : at + 3 ≡ suc (suc (suc at))
    three = omega arith

    four : at + 4 ≡ suc (suc (suc (suc at)))
    four = omega arith

-- the last five of the eight bytes of a number, laid in at a place
pub five_put : (out bytes : List ℕ) (at w k : ℕ) → at + 4 < length out → k ≡ 5 → bytes ≡ five_of w → put_mid at k out bytes ≡ put_five out at w
five_put out bytes at w k h e g = (λ j. put_mid at (e j) out (g j)) ∙ ap (λ l. take at out ++ (five_of w ++ l)) (drop-drop 5 at out)
    ∙ sym (five_laid out at w h)

pub five_inserted : (out : List ℕ) (at w : ℕ) → at + 4 < length out → put_five out at w ≡ inserted at (units row_bytes (w ∷ [])) out
unfolding inserted
five_inserted out at w h = five_laid out at w h
    ∙ ap (λ (v : List ℕ). take at out ++ (v ++ drop (at + length v) out)) (bytes ∙ sym (units_one row_bytes w))
  where
    low : w % 256 ≡ w / 1 % 256
    low = omega arith

    bytes : five_of w ≡ split (8 ∷ 8 ∷ 8 ∷ 8 ∷ 8 ∷ []) w
    bytes = λ k. w / 4294967296 % 256 ∷ w / 16777216 % 256 ∷ w / 65536 % 256 ∷ w / 256 % 256 ∷ low k ∷ []

-- one more number of k bytes, in the loop that writes those of a list
pub units_turn : (k at i v : ℕ) (ns out now next : List ℕ) → i < length ns → at + k * length ns ≤ length out → now ≡ inserted at (units k (take i ns)) out
    → v ≡ get_or ns i 0
    → next ≡ inserted (at + k * i) (units k (v ∷ [])) now → next ≡ inserted at (units k (take (i + 1) ns)) out
units_turn k at i v ns out now next h l e q g =
    g ∙ (λ j. inserted (at + k * i) (units k (q j ∷ [])) (e j))
    ∙ inserted_more at (at + k * i) (units k (take i ns)) (units k (get_or ns i 0 ∷ [])) out (ap (λ n. at + n) (sym long))
    (omega (arith, long, units_length k (get_or ns i 0 ∷ []), mul-le-mul_left k h, mul-suc k i))
    ∙ ap (λ r. inserted at r out) (sym (units_append k (take i ns) (get_or ns i 0 ∷ []))
    ∙ ap (units k) (sym (take-suc ns i 0 h) ∙ ap (λ j. take j ns) (sym (add-one i))))
  where
    long : length (units k (take i ns)) ≡ k * i
    long = units_length k (take i ns) ∙ ap (λ n. k * n) (length-take-le i ns (omega arith))

pub word_is : (h : Header) (values function first second : List ℕ) (i s : ℕ) → s ≡ second_written h (get_or function i 0) (get_or values (get_or second i 0) 0)
    → joined_of (get_or function i 0) (get_or values (get_or first i 0) 0) s (get_or values i 0) ≡ word_for h values function first second i
unfolding word_for row_for packed_row second_written
word_is h values function first second i s e = rw (← e) (omega arith)

map_take_at : (f : ℕ → ℕ) (l : List ℕ) (r k : ℕ) → k < r → k < length l → get_or (map f (take r l)) k 0 ≡ f (get_or l k 0)
map_take_at f [] r k h g = absurd (omega arith)
map_take_at f (x ∷ l) zero k h g = absurd (omega arith)
map_take_at f (x ∷ l) (suc r) zero h g = refl
map_take_at f (x ∷ l) (suc r) (suc k) h g = map_take_at f l r k (omega arith) (omega arith)

map_twice : {A B C : Type 0} (g : B → C) (f : A → B) (l : List A) → map g (map f l) ≡ map (λ x. g (f x)) l
map_twice g f [] = refl
map_twice g f (x ∷ l) = ap (λ r. g (f x) ∷ r) (map_twice g f l)

-- ---- as the writers use them
module _ (h : Header) (values function first second rows : List ℕ) (r : ℕ) where
  pub words_length : r ≤ length rows → length (words_for h values function first second (take r rows)) ≡ r
  unfolding words_for
  words_length l = length-map (take r rows) (word_for h values function first second) ∙ length-take-le r rows l

  pub word-at : (k i w : ℕ) → k < r → k < length rows → i ≡ get_or rows k 0 → w ≡ word_for h values function first second i
      → w ≡ get_or (words_for h values function first second (take r rows)) k 0
  unfolding words_for
  word-at k i w a b e q = q ∙ ap (word_for h values function first second) e ∙ sym (map_take_at (word_for h values function first second) rows r k a b)

-- the loop that writes the numbers ns of k bytes each, after i of them
pub record UnitsDone (k at : ℕ) (ns out now : List ℕ) (i : ℕ) : Type 0 where
  pub most : i ≤ length ns
  pub long : length now ≡ length out
  pub so_far : now ≡ inserted at (units k (take i ns)) out

module _ {k at : ℕ} {ns out : List ℕ} where
  pub units_none : UnitsDone k at ns out out 0
  unfolding units
  units_none = record { most = omega arith; long = refl; so_far = inserted_none at out }

  pub units_more : {now next : List ℕ} {i v : ℕ} → UnitsDone k at ns out now i → i < length ns → at + k * length ns ≤ length out → length next ≡ length now
      → v ≡ get_or ns i 0
      → next ≡ inserted (at + k * i) (units k (v ∷ [])) now → UnitsDone k at ns out next (i + 1)
  units_more {now} {next} {i} {v} u h l e q g =
      record { most = omega arith; long = e ∙ u.long; so_far = units_turn k at i v ns out now next h l u.so_far q g }

  pub units_all : {now : List ℕ} {i : ℕ} → UnitsDone k at ns out now i → length ns ≤ i → now ≡ inserted at (units k ns) out
  units_all {now} {i} u h = u.so_far ∙ ap (λ l. inserted at (units k l) out) (take_all i ns h)

-- ---- as `row_word` uses them
second_small : (h : Header) (f b : ℕ) → b < value_range → second_written h f b < value_range
unfolding second_written
second_small h f b l = by_test (has h.binary f) (λ t. rw t l) (λ t. rw t (omega arith))

module _ (h : Header) (values function first second : List ℕ) (i a b f A s S C : ℕ) (ea : a ≡ get_or first i 0) (eb : b ≡ get_or second i 0)
    (ef : f ≡ get_or function i 0) (e_a : A ≡ get_or values a 0)
    (es : s ≡ second_written h (get_or function i 0) (get_or values b 0)) (e_s : S ≡ s) (e_c : C ≡ get_or values i 0) where
  pub word_of : joined_of f A S C ≡ word_for h values function first second i
  word_of = rw (ef, e_a, ea, e_s, e_c) (word_is h values function first second i s (es
      ∙ ap (λ k. second_written h (get_or function i 0) (get_or values k 0)) eb))

  pub fields_small : RowIn values function first second i → (f < most_functions) × (A < value_range) × (S < value_range) × (C < value_range)
  fields_small r = (
    rw ef r.function_below,
    rw (e_a, ea) r.first_below,
    rw (e_s, es, eb) (second_small h (get_or function i 0) (get_or values (get_or second i 0) 0) r.second_below),
    rw e_c r.result_below,
  )

-- ---- as the loops use them
module _ (values : List ℕ) (registers at : ℕ) (out : List ℕ) (f : StartsFit values registers (length out) at) where
  starts_length : length (take registers values) ≡ registers
  starts_length = length-take-le registers values (let a = f.long in let b = f.few in omega arith)

  pub starts_room : (now : List ℕ) (i : ℕ) → UnitsDone word_bytes at (take registers values) out now i → i < registers → at + word_bytes * i + 1 < length now
  starts_room now i u h = let a = u.long in let b = f.fits in omega arith

  pub starts_turn : (now next : List ℕ) (i : ℕ) → UnitsDone word_bytes at (take registers values) out now i → i < registers
      → next ≡ put_word now (at + word_bytes * i) (get_or values i 0)
      → UnitsDone word_bytes at (take registers values) out next (i + 1)
  starts_turn now next i u h e = units_more u (let a = starts_length in omega arith) (let a = starts_length in let b = f.fits in omega arith)
      (ap length e ∙ simp length-set) (sym (get_or-take registers values i 0 h))
      (e ∙ word_inserted now (at + word_bytes * i) (get_or values i 0) (let a = f.small i h in omega arith) (starts_room now i u h))

  pub starts_end : (now : List ℕ) (i : ℕ) → UnitsDone word_bytes at (take registers values) out now i → registers ≤ i
      → now ≡ inserted at (units word_bytes (take registers values)) out
  starts_end now i u h = units_all u (let a = starts_length in omega arith)

module _ (h : Header) (values function first second rows : List ℕ) (r at : ℕ) (out : List ℕ)
    (f : RowsFit values function first second rows r (length out) at) where
  rows_length : length (words_for h values function first second (take r rows)) ≡ r
  rows_length = words_length h values function first second rows r (let a = f.long in let b = f.few in omega arith)

  pub rows_room : (now : List ℕ) (k : ℕ) → UnitsDone row_bytes at (words_for h values function first second (take r rows)) out now k → k < r
      → at + row_bytes * k + 4 < length now
  rows_room now k u l = let a = u.long in let b = f.fits in omega arith

  pub rows_turn : (now next : List ℕ) (k i w : ℕ) → UnitsDone row_bytes at (words_for h values function first second (take r rows)) out now k → k < r
      → i ≡ get_or rows k 0 → w ≡ word_for h values function first second i
      → next ≡ put_five now (at + row_bytes * k) w → UnitsDone row_bytes at (words_for h values function first second (take r rows)) out next (k + 1)
  rows_turn now next k i w u l ei ew e = units_more u (let a = rows_length in omega arith) (let a = rows_length in let b = f.fits in omega arith)
      (ap length e ∙ simp length-set) (word-at h values function first second rows r k i w l (let a = f.long in let b = f.few in omega arith) ei ew)
      (e ∙ five_inserted now (at + row_bytes * k) w (rows_room now k u l))

  pub rows_end : (now : List ℕ) (k : ℕ) → UnitsDone row_bytes at (words_for h values function first second (take r rows)) out now k → r ≤ k
      → now ≡ inserted at (units row_bytes (words_for h values function first second (take r rows))) out
  rows_end now k u l = units_all u (let a = rows_length in omega arith)

-- the whole, part after part
pub whole : (h : Header) (values function first second rows : List ℕ) (count r : ℕ) (out o₁ o₂ o₃ o₄ : List ℕ)
    → Writable h values function first second rows count r (length out)
    → o₁ ≡ put_word out 0 count → o₂ ≡ put_word o₁ 2 r → o₃ ≡ inserted counts_bytes (units word_bytes (take h.registers values)) o₂
    → o₄ ≡ inserted (counts_bytes + word_bytes * h.registers) (units row_bytes (words_for h values function first second (take r rows))) o₃
    → o₄ ≡ inserted 0 (pack_tables first_edition h (tables_in h values function first second rows count r)) out
unfolding pack_tables tables_in words_for word_for
whole h values function first second rows count r out o₁ o₂ o₃ o₄ w e₁ e₂ e₃ e₄ = p₄ ∙ ap (λ l. inserted 0 l out) (λ k. head k ++ units row_bytes (tail k))
  where
    fits : model_length h r ≤ length out
    fits = w.fits

    A₁ : List ℕ
    A₁ = units word_bytes (count ∷ [])

    A₂ : List ℕ
    A₂ = units word_bytes (count ∷ []) ++ units word_bytes (r ∷ [])

    S : List ℕ
    S = units word_bytes (take h.registers values)

    W : List ℕ
    W = units row_bytes (words_for h values function first second (take r rows))

    l₁ : length A₁ ≡ 2
    l₁ = units_length word_bytes (count ∷ [])

    l₂ : length A₂ ≡ 4
    l₂ = let a = length-append (units word_bytes (count ∷ [])) (units word_bytes (r ∷ [])) in let b = units_length word_bytes (count ∷ []) in
        let c = units_length word_bytes (r ∷ []) in omega arith

    l_s : length S ≡ word_bytes * h.registers
    l_s = units_length word_bytes (take h.registers values)
        ∙ ap (λ n. word_bytes * n) (length-take-le h.registers values (let a = w.values_long in let b = w.few in omega arith))

    l₃ : length (A₂ ++ S) ≡ counts_bytes + word_bytes * h.registers
    l₃ = let a = length-append A₂ S in let b = l₂ in let c = l_s in omega arith

    l_w : length W ≡ row_bytes * r
    l_w = units_length row_bytes (words_for h values function first second (take r rows))
        ∙ ap (λ n. row_bytes * n) (words_length h values function first second rows r (let a = w.rows_long in let b = w.rows_few in omega arith))

    p₁ : o₁ ≡ inserted 0 A₁ out
    p₁ = e₁ ∙ word_inserted out 0 count (let a = w.count_small in omega arith) (let a = fits in omega arith)

    p₂ : o₂ ≡ inserted 0 A₂ out
    p₂ = e₂ ∙ word_inserted o₁ 2 r (let a = w.rows_few in omega arith)
        (let a = ap length p₁ ∙ inserted_length 0 A₁ out (let b = l₁ in let c = fits in omega arith) in let c = fits in omega arith)
        ∙ ap (inserted 2 (units word_bytes (r ∷ []))) p₁
        ∙ inserted_more 0 2 A₁ (units word_bytes (r ∷ [])) out (let b = l₁ in omega arith)
        (let b = l₁ in let c = units_length word_bytes (r ∷ []) in let d = fits in omega arith)

    p₃ : o₃ ≡ inserted 0 (A₂ ++ S) out
    p₃ = e₃ ∙ ap (inserted counts_bytes S) p₂ ∙ inserted_more 0 4 A₂ S out (let b = l₂ in omega arith) (let b = l₂ in
        let c = l_s in let d = fits in omega arith)

    p₄ : o₄ ≡ inserted 0 ((A₂ ++ S) ++ W) out
    p₄ = e₄ ∙ ap (inserted (counts_bytes + word_bytes * h.registers) W) p₃
        ∙ inserted_more 0 (counts_bytes + word_bytes * h.registers) (A₂ ++ S) W out (let b = l₃ in omega arith)
        (let b = l₃ in let c = l_w in let d = fits in omega arith)

    count_is : r ≡ length (map (row_for values function first second) (take r rows))
    count_is = sym (length-map (take r rows) (row_for values function first second)
        ∙ length-take-le r rows (let a = w.rows_long in let b = w.rows_few in omega arith))

    head : A₂ ++ S ≡ units word_bytes (count ∷ length (map (row_for values function first second) (take r rows)) ∷ take h.registers values)
    head = ap (λ l. l ++ S) (sym (units_append word_bytes (count ∷ []) (r ∷ []))) ∙ sym (units_append word_bytes (count ∷ r ∷ []) (take h.registers values))
        ∙ ap (λ n. units word_bytes (count ∷ n ∷ take h.registers values)) count_is

    tail : words_for h values function first second (take r rows) ≡ map (packed_row first_edition h) (map (row_for values function first second) (take r rows))
    tail = sym (map_twice (packed_row first_edition h) (row_for values function first second) (take r rows))
