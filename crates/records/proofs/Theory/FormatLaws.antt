-- The windows that a record of a format can hold, and what is read back of them.
use mathlib.Core.Path.{◌≡◌, refl, sym, ap, ◌∙◌, subst}
use mathlib.Core.Logic.{◌⊎◌, inl, inr}
use mathlib.Core.Bool.{Bool, true, false}
use mathlib.Core.List.{List, [], ◌∷◌, ◌++◌, map, append_assoc}
use Prim.Native.Nat.{ℕ, zero, suc, ◌+◌, ◌-◌, ◌*◌, ◌/◌, ◌%◌, ◌^◌, ◌≤◌, ◌<◌}
use native.Mathlib.Omega.{arith}
use native.Mathlib.Nat.{mod-lt, div-one, mul_comm}
use native.Mathlib.Numerals.{add-one}
use lib.Dec.{eqb}
use lib.ListN.{length, get_or, drop, replicate, length-append, length-replicate, length-map}
use lib.Seq.{drop_at, drop-drop, get_or-append-add}
use lib.Pow.{shr-shr, shr_lt}
use borrow.Author.Tests.{eq-eqb, ne_eqb, eqb-true}
use Rattle.base.proofs.Theory.Choice.{by_test}
use Rattle.base.specs.Masks.{bit}
use Rattle.base.specs.LeastAndSize.{least_in}
use Rattle.semantics.specs.PackedTables.{units}
use Rattle.semantics.specs.TablesRead.{units_in}
use Rattle.window.proofs.Theory.Places.{line_entry, along_entry, entry_below}
use Rattle.window.proofs.Theory.Table.{table_at, table_length, table_is}
use Rattle.window.specs.Counting.{counted_classes}
use Rattle.window.specs.declared.Window.{Window}
use Rattle.records.specs.Codes.{code_of, code_at, class_of_code, computed_of, assembled, gathered, scattered}
use Rattle.records.specs.Formats.{Format, number_bytes, pair_place, content_place, results_of_format, masks_bytes, encoded_bytes_of_format}
use Rattle.records.specs.Formats.{WidthsFit, flag, is_set, codes_of, code_bytes_in_format, content_of, encoded_in_format, record_in_format}
use Rattle.records.specs.Formats.{number_in, after_point}
use Rattle.records.specs.Formats.{after_class, after_unequal, after_marks, after_infeasible, parent_in, branch_in, point_in, codes_in, results_in_format}
use Rattle.records.specs.Formats.{ever_mask, ever_in_format, window_from, window_in_format}
use Rattle.traces.proofs.Theory.TraceLaws.{units_length}
use Rattle.records.proofs.Theory.Digits.{All<, units_back, digits_back, gathered_small, gathered_length}

pub all_of : (b : ℕ) (l : List ℕ) → ((k : ℕ) → k < length l → get_or l k 0 < b) → All< b l
all_of b [] h = tt
all_of b (x ∷ l) h = (h 0 (omega arith), all_of b l (λ k e. h (suc k) (omega arith)))

pub all_map : (l : List Bool) → All< 256 (map flag l)
unfolding flag
all_map [] = tt
all_map (true ∷ l) = (omega arith, all_map l)
all_map (false ∷ l) = (omega arith, all_map l)

flag_small : (b : Bool) → flag b < 256
unfolding flag
flag_small true = omega arith
flag_small false = omega arith

pub flag_back : (b : Bool) → is_set (flag b) ≡ b
unfolding is_set flag
flag_back true = refl
flag_back false = refl

pub flags_back : (l : List Bool) → map is_set (map flag l) ≡ l
flags_back [] = refl
flags_back (b ∷ l) = rw (flag_back b, flags_back l)

-- ---- one entry

module _ (n : ℕ) where
  code_small : (mask computed : ℕ) → computed < 2 → (mask ≡ 0) ⊎ (least_in n mask < n) → code_of n mask computed < 2 + n
  unfolding code_of
  code_small mask computed h (inl e) = rw (eq-eqb mask 0 e) (omega arith)
  code_small mask computed h (inr l) = by_test (eqb mask 0) (λ t. rw t (omega arith)) λ t. rw t (omega arith)

  low : (class : List ℕ) (k : ℕ) → k < 2 → get_or (0 ∷ 0 ∷ class) k 0 ≡ 0
  low class zero p = refl
  low class (suc zero) p = refl
  low class (suc (suc k)) p = absurd (omega arith)

  held_back : (class : List ℕ) (mask computed : ℕ) → computed < 2 → (mask ≡ 0) ⊎ ((least_in n mask < n) × (get_or class (least_in n mask) 0 ≡ mask))
      → class_of_code class (code_of n mask computed) ≡ mask
  unfolding class_of_code code_of
  held_back class mask computed c (inl e) = rw (eq-eqb mask 0 e) (low class computed c ∙ sym e)
  held_back class mask computed c (inr (l, e)) =
      by_test (eqb mask 0) (λ t. rw t (low class computed c ∙ sym (eqb-true mask 0 t)))
      λ t. rw t (get_or-append-add (0 ∷ 0 ∷ []) class (least_in n mask) 0 ∙ e)

  computed_back : (mask computed : ℕ) → computed < 2 → (mask ≡ 0) ⊎ (computed ≡ 1) → computed_of (code_of n mask computed) ≡ computed
  unfolding code_of computed_of
  computed_back mask zero h (inl e) = rw (eq-eqb mask 0 e)
  computed_back mask (suc zero) h (inl e) = rw (eq-eqb mask 0 e)
  computed_back mask (suc (suc k)) h o = absurd (omega arith)
  computed_back mask zero h (inr e) = absurd (omega arith)
  computed_back mask (suc zero) h (inr e) = by_test (eqb mask 0) (λ t. rw t) λ t. rw (t, ne_eqb (2 + least_in n mask) 0 (omega arith))

next : (m i : ℕ) → m / 2 ^ i / 2 ≡ m / 2 ^ suc i
next m i = shr-shr m i 1 ∙ ap (λ n. m / 2 ^ n) (add-one i)

bits_back : (m : ℕ) (f : ℕ → ℕ) (i k : ℕ) → m / 2 ^ i < 2 ^ k → ((j : ℕ) → i ≤ j → j < i + k → f j ≡ bit m j) → assembled f i k ≡ m / 2 ^ i
unfolding assembled
bits_back m f i zero h g = omega arith
bits_back m f i (suc k) h g =
    let l : m / 2 ^ suc i < 2 ^ k = rw (← next m i) (shr_lt {n = m / 2 ^ i} k 1 (rw add-one h)) in
    let e = bits_back m f (suc i) k l (λ j p q. g j (omega arith) (omega arith)) in
    let n = next m i in
    let z = g i (omega arith) (omega arith) in
    rw (e, z, ← n) (omega arith)

-- ---- a window

module _ (f : Format) where
  abbrev ρ : ℕ
  ρ = f.registers

  pub record StorableInFormat (w : Window) : Type 0 where
    pub classes : length w.class ≡ f.registers
    pub unequals : length w.unequal ≡ f.registers
    pub marks : length w.mark ≡ f.registers
    pub result_count : length w.result ≡ results_of_format f
    pub evers : length w.ever ≡ f.functions * f.registers
    pub class_masks : (k : ℕ) → get_or w.class k 0 < 2 ^ f.registers
    pub unequal_masks : (k : ℕ) → get_or w.unequal k 0 < 2 ^ f.registers
    pub lines : (j : ℕ) → get_or w.ever j 0 < 2 ^ f.registers
    pub named : (i : ℕ) → i < results_of_format f → (get_or w.result i 0 ≡ 0) ⊎
        ((least_in f.registers (get_or w.result i 0) < f.registers) ×
        (get_or w.class (least_in f.registers (get_or w.result i 0)) 0 ≡ get_or w.result i 0))
    pub computed : (i : ℕ) → i < results_of_format f → (get_or w.result i 0 ≡ 0) ⊎ (bit (get_or w.ever (i / f.registers) 0) (i % f.registers) ≡ 1)
    pub counted : w.classes ≡ counted_classes f.registers w.class

  module _ (sound : WidthsFit f) (point : ℕ) (w : Window) (s : StorableInFormat w) (rest : List ℕ) where
    -- numbers in their bytes, one part after the other
    mask_all : (l : List ℕ) → ((k : ℕ) → get_or l k 0 < 2 ^ f.registers) → All< (2 ^ (8 * f.mask_bytes)) l
    mask_all l h = all_of (2 ^ (8 * f.mask_bytes)) l (λ k _. subst (λ n. get_or l k 0 < 2 ^ n) (sym sound.masks) (h k))

    abbrev numbers : List ℕ
    numbers = gathered f.group f.code_bits f.groups (codes_of f w.result w.ever)

    -- the parts, each before what follows it
    abbrev s₅ : List ℕ
    s₅ = units f.group_bytes numbers ++ rest

    abbrev s₄ : List ℕ
    s₄ = units 1 (flag w.infeasible ∷ []) ++ s₅

    abbrev s₃ : List ℕ
    s₃ = units 1 (map flag w.mark) ++ s₄

    abbrev s₂ : List ℕ
    s₂ = units f.mask_bytes w.unequal ++ s₃

    abbrev s₁ : List ℕ
    s₁ = units f.mask_bytes w.class ++ s₂

    abbrev s₀ : List ℕ
    s₀ = units 2 (point ∷ []) ++ s₁

    laid : content_of f point w ++ rest ≡ s₀
    unfolding content_of code_bytes_in_format
    laid =
        let a = units 2 (point ∷ []) in
        let b = units f.mask_bytes w.class in
        let c = units f.mask_bytes w.unequal in
        let d = units 1 (map flag w.mark) in
        let e = units 1 (flag w.infeasible ∷ []) in
        let g = units f.group_bytes numbers in
        append_assoc a (b ++ (c ++ (d ++ (e ++ g)))) rest
        ∙ ap (λ l. a ++ l) (append_assoc b (c ++ (d ++ (e ++ g))) rest
        ∙ ap (λ l. b ++ l) (append_assoc c (d ++ (e ++ g)) rest
        ∙ ap (λ l. c ++ l) (append_assoc d (e ++ g) rest
        ∙ ap (λ l. d ++ l) (append_assoc e g rest))))

    behind : (k n : ℕ) (ns l : List ℕ) → length ns ≡ n → drop (k * n) (units k ns ++ l) ≡ l
    behind k n ns l e = drop_at (units k ns) l (k * n) (units_length k ns ∙ ap (λ m. k * m) e)

    at₁ : drop 2 s₀ ≡ s₁
    at₁ = behind 2 1 (point ∷ []) s₁ refl

    at₂ : drop (masks_bytes f) s₁ ≡ s₂
    at₂ = behind f.mask_bytes f.registers w.class s₂ s.classes

    at₃ : drop (masks_bytes f) s₂ ≡ s₃
    at₃ = behind f.mask_bytes f.registers w.unequal s₃ s.unequals

    at₄ : drop f.registers s₃ ≡ s₄
    at₄ = let e : 1 * f.registers ≡ f.registers = omega arith in subst (λ n. drop n s₃ ≡ s₄) e
        (behind 1 f.registers (map flag w.mark) s₄ (length-map w.mark flag ∙ s.marks))

    at₅ : drop 1 s₄ ≡ s₅
    at₅ = behind 1 1 (flag w.infeasible ∷ []) s₅ refl

    read : (k n : ℕ) (ns l : List ℕ) → length ns ≡ n → All< (2 ^ (8 * k)) ns → units_in k n (units k ns ++ l) ≡ ns
    read k n ns l e h = subst (λ m. units_in k m (units k ns ++ l) ≡ ns) e (units_back k ns l h)

    -- ---- the codes

    code-at : (i : ℕ) → i < results_of_format f → get_or (codes_of f w.result w.ever) i 0 ≡ code_at f.registers w.result w.ever i
    unfolding codes_of
    code-at i h = table_at (code_at f.registers w.result w.ever) (results_of_format f) i 0 h

    codes_length : length (codes_of f w.result w.ever) ≡ results_of_format f
    unfolding codes_of
    codes_length = table_length (code_at f.registers w.result w.ever) (results_of_format f)

    named_or : {A B : Type 0} (i : ℕ) → A ⊎ (B × (get_or w.class (least_in f.registers (get_or w.result i 0)) 0 ≡ get_or w.result i 0)) → A ⊎ B
    named_or i (inl a) = inl a
    named_or i (inr (b, _)) = inr b

    codes_small : All< (2 ^ f.code_bits) (codes_of f w.result w.ever)
    codes_small = all_of (2 ^ f.code_bits) (codes_of f w.result w.ever) (λ k h.
        let l : k < results_of_format f = omega (arith, codes_length) in
        let c = code_small f.registers (get_or w.result k 0) (bit (get_or w.ever (k / f.registers) 0) (k % f.registers)) (mod-lt _ (omega arith))
        (named_or k (s.named k l)) in
        let e = code-at k l in
        let n = sound.names in
        omega arith)

    groups_long : length (codes_of f w.result w.ever) ≡ f.groups * f.group
    groups_long = codes_length ∙ sym sound.counted ∙ mul_comm f.group f.groups

    codes_back : codes_in f (after_infeasible f s₀) ≡ codes_of f w.result w.ever
    unfolding codes_in
    codes_back =
        let small = subst (λ n. All< (2 ^ n) numbers) sound.grouped
        (gathered_small f.group f.code_bits f.groups (codes_of f w.result w.ever) groups_long codes_small) in
        let e : after_infeasible f s₀ ≡ s₅ = ap (λ l. drop 1 (drop f.registers (drop (masks_bytes f) (drop (masks_bytes f) l)))) at₁
        ∙ ap (λ l. drop 1 (drop f.registers (drop (masks_bytes f) l))) at₂ ∙ ap (λ l. drop 1 (drop f.registers l)) at₃ ∙ ap (drop 1) at₄ ∙ at₅ in
        ap (λ l. scattered f.group f.code_bits (units_in f.group_bytes f.groups l)) e
        ∙ ap (scattered f.group f.code_bits) (read f.group_bytes f.groups numbers rest
        (gathered_length f.group f.code_bits f.groups (codes_of f w.result w.ever)) small)
        ∙ digits_back f.group f.code_bits f.groups (codes_of f w.result w.ever) groups_long codes_small

    result_back : results_in_format f w.class (codes_of f w.result w.ever) ≡ w.result
    unfolding results_in_format
    result_back = sym (table_is (λ i. class_of_code w.class (get_or (codes_of f w.result w.ever) i 0)) (results_of_format f) w.result 0 s.result_count
        (λ i h. sym (ap (class_of_code w.class) (code-at i h) ∙ held_back f.registers w.class (get_or w.result i 0) _ (mod-lt _ (omega arith))
        (s.named i h))))

    ever_back : ever_in_format f (codes_of f w.result w.ever) ≡ w.ever
    unfolding ever_in_format ever_mask
    ever_back = sym (table_is (ever_mask f (codes_of f w.result w.ever)) (f.functions * f.registers) w.ever 0 s.evers
        (λ j h. sym (bits_back (get_or w.ever j 0) (λ b. computed_of (get_or (codes_of f w.result w.ever) (f.registers * j + b) 0)) 0 f.registers
        (rw div-one (s.lines j)) (λ b p q. at j b h (omega arith)) ∙ div-one (get_or w.ever j 0))))
      where
        at : (j b : ℕ) → j < f.functions * f.registers → b < f.registers → computed_of
            (get_or (codes_of f w.result w.ever) (f.registers * j + b) 0) ≡ bit (get_or w.ever j 0) b
        at j b h q =
            let k : f.registers * j + b < results_of_format f = entry_below f.registers (f.functions * f.registers) j b h q in
            ap computed_of (code-at (f.registers * j + b) k)
            ∙ computed_back f.registers (get_or w.result (f.registers * j + b) 0) _ (mod-lt _ (omega arith)) (s.computed (f.registers * j + b) k)
            ∙ rw (line_entry f.registers j b q, along_entry f.registers j b q)

    -- ---- all parts

    class_back : units_in f.mask_bytes f.registers (after_point f s₀) ≡ w.class
    class_back = ap (units_in f.mask_bytes f.registers) at₁ ∙ read f.mask_bytes f.registers w.class s₂ s.classes
        (mask_all w.class s.class_masks)

    unequal_back : units_in f.mask_bytes f.registers (after_class f s₀) ≡ w.unequal
    unequal_back = ap (λ l. units_in f.mask_bytes f.registers (drop (masks_bytes f) l)) at₁ ∙ ap (units_in f.mask_bytes f.registers) at₂
        ∙ read f.mask_bytes f.registers w.unequal s₃ s.unequals (mask_all w.unequal s.unequal_masks)

    mark_back : map is_set (units_in 1 f.registers (after_unequal f s₀)) ≡ w.mark
    mark_back = ap (λ l. map is_set (units_in 1 f.registers (drop (masks_bytes f) (drop (masks_bytes f) l)))) at₁
        ∙ ap (λ l. map is_set (units_in 1 f.registers (drop (masks_bytes f) l))) at₂ ∙ ap (λ l. map is_set (units_in 1 f.registers l)) at₃
        ∙ ap (map is_set) (read 1 f.registers (map flag w.mark) s₄ (length-map w.mark flag ∙ s.marks) (all_map w.mark)) ∙ flags_back w.mark

    infeasible_back : is_set (get_or (units_in 1 1 (after_marks f s₀)) 0 0) ≡ w.infeasible
    infeasible_back = ap (λ l. is_set (get_or (units_in 1 1 (drop f.registers (drop (masks_bytes f) (drop (masks_bytes f) l)))) 0 0)) at₁
        ∙ ap (λ l. is_set (get_or (units_in 1 1 (drop f.registers (drop (masks_bytes f) l))) 0 0)) at₂
        ∙ ap (λ l. is_set (get_or (units_in 1 1 (drop f.registers l)) 0 0)) at₃ ∙ ap (λ l. is_set (get_or (units_in 1 1 l) 0 0)) at₄
        ∙ ap (λ l. is_set (get_or l 0 0)) (read 1 1 (flag w.infeasible ∷ []) s₅ refl (flag_small w.infeasible, tt)) ∙ flag_back w.infeasible

    -- a window is read back as it was
    content_window : window_from f (content_of f point w ++ rest) ≡ w
    unfolding window_from
    content_window = rw (laid, class_back, unequal_back, codes_back, result_back, ever_back, mark_back, infeasible_back, ← s.counted)

    -- and so is a point
    content_point : point < 65536 → number_in number_bytes (content_of f point w ++ rest) ≡ point
    content_point h = ap (number_in number_bytes) laid ∙ ap (λ l. get_or l 0 0) (read 2 1 (point ∷ []) s₁ refl (h, tt))

  module _ (sound : WidthsFit f) (point : ℕ) (w : Window) (s : StorableInFormat w) where
    pub encoded_length : length (encoded_in_format f point w) ≡ encoded_bytes_of_format f
    unfolding encoded_in_format content_of code_bytes_in_format units
    encoded_length =
        simp (length-append, units_length)
        (rw (
          s.classes,
          s.unequals,
          length-map w.mark flag,
          s.marks,
          gathered_length f.group f.code_bits f.groups
              (codes_of f w.result w.ever),
        ) (omega arith))

    -- What is read where the pair stands.
    module _ (bytes rest : List ℕ) (e : drop pair_place bytes ≡ encoded_in_format f point w ++ rest) where
      content_at : drop content_place bytes ≡ content_of f point w ++ rest
      unfolding encoded_in_format units
      content_at = sym (drop-drop number_bytes pair_place bytes) ∙ ap (drop number_bytes) e

      pub window_back : window_in_format f bytes ≡ w
      unfolding window_in_format
      window_back = ap (window_from f) content_at ∙ content_window sound point w s rest

      pub point_back : point < 65536 → point_in bytes ≡ point
      unfolding point_in
      point_back h = ap (number_in number_bytes) content_at ∙ content_point sound point w s rest h

  -- Pairs are equal where their bytes are.
  pub encoded_injective : WidthsFit f → (p q : ℕ) (w v : Window) → p < 65536 → q < 65536 → StorableInFormat w → StorableInFormat v
      → encoded_in_format f p w ≡ encoded_in_format f q v
      → (p ≡ q) × (w ≡ v)
  encoded_injective sound p q w v a b s r e = (
    sym (point_back sound p w s (at (encoded_in_format f p w)) [] refl a) ∙ ap (λ l. point_in (at l)) e
        ∙ point_back sound q v r (at (encoded_in_format f q v)) [] refl b,
    sym (window_back sound p w s (at (encoded_in_format f p w)) [] refl) ∙ ap (λ l. window_in_format f (at l)) e
        ∙ window_back sound q v r (at (encoded_in_format f q v)) [] refl,
  )
    where
      at : List ℕ → List ℕ
      at pair = 0 ∷ 0 ∷ 0 ∷ (pair ++ [])

  -- ---- a record

  module _ (pair : List ℕ) (parent branch : ℕ) where
    pub record_length : WidthsFit f → length pair ≡ encoded_bytes_of_format f → length (record_in_format f pair parent branch) ≡ f.size
    unfolding record_in_format units
    record_length sound h = simp (length-append, length-replicate) (omega (arith, sound.fits))

    module _ (rest : List ℕ) where
      abbrev bytes : List ℕ
      bytes = record_in_format f pair parent branch ++ rest

      pub record_pair : drop pair_place bytes ≡ pair ++ (replicate (f.size - (pair_place + encoded_bytes_of_format f)) 0 ++ rest)
      unfolding record_in_format units
      record_pair = append_assoc pair (replicate (f.size - (pair_place + encoded_bytes_of_format f)) 0) rest

      pub parent_back : parent < 65536 → parent_in bytes ≡ parent
      unfolding parent_in record_in_format units units_in
      parent_back h = omega arith

      pub branch_back : branch < 256 → branch_in bytes ≡ branch
      unfolding branch_in record_in_format units units_in
      branch_back h = omega arith
