-- What is read of a record depends on its bytes only.
use mathlib.Core.Path.{◌≡◌, refl, sym, ap, ap₂, ◌∙◌}
use Prim.Native.Nat.{ℕ, zero, suc, ◌+◌, ◌*◌, ◌≤◌}
use native.Mathlib.Omega.{arith}
use native.Mathlib.Nat.{zero-add, suc-add, mul-suc}
use mathlib.Core.List.{List, [], ◌∷◌}
use lib.ListN.{get_or, take, drop, replicate}
use lib.Seq.{take-take, take-nil}
use Rattle.letters.specs.Packing.{join}
use Rattle.semantics.specs.TablesRead.{units_in}
use Rattle.records.specs.Formats.{Format, number_bytes, flag_bytes, branch_place, pair_place, content_place, masks_bytes, content_bytes_of_format}
use Rattle.records.specs.Formats.{encoded_bytes_of_format}
use Rattle.records.specs.Formats.{WidthsFit, number_in, parent_in, branch_in, point_in, codes_in, window_from, window_in_format}

-- Two lists with the same first n bytes.
abbrev pub SameFirstBytes : ℕ → List ℕ → List ℕ → Type 0
SameFirstBytes n a b = take n a ≡ take n b

pub drop_take : (d n : ℕ) (s : List ℕ) → drop d (take (d + n) s) ≡ take n (drop d s)
drop_take zero n s = ap (λ m. take m s) (zero-add n)
drop_take (suc d) n [] = rw (suc-add d n) (sym (take-nil n))
drop_take (suc d) n (x ∷ s) = rw (suc-add d n) (drop_take d n s)

pub agree_less : (m n : ℕ) (a b : List ℕ) → m ≤ n → SameFirstBytes n a b → SameFirstBytes m a b
agree_less m n a b h g = sym (take-take m n a h) ∙ ap (take m) g ∙ take-take m n b h

-- what stands behind the first d bytes
pub agree_drop : (d n : ℕ) (a b : List ℕ) → SameFirstBytes (d + n) a b → SameFirstBytes n (drop d a) (drop d b)
agree_drop d n a b g = sym (drop_take d n a) ∙ ap (drop d) g ∙ drop_take d n b

-- n numbers of k bytes each
pub units_agree : (k n m : ℕ) (a b : List ℕ) → k * n ≤ m → SameFirstBytes m a b → units_in k n a ≡ units_in k n b
unfolding units_in
units_agree k zero m a b h g = refl
units_agree k (suc n) m a b h g =
    let l : k + k * n ≤ m = omega (arith, mul-suc k n) in
    let e : SameFirstBytes (k + k * n) a b = agree_less (k + k * n) m a b l g in
    ap₂ (λ x r. x ∷ r) (ap (join (replicate k 8)) (agree_less k (k + k * n) a b (omega arith) e))
    (units_agree k n (k * n) (drop k a) (drop k b) (omega arith) (agree_drop k (k * n) a b e))

module _ (f : Format) (sound : WidthsFit f) (a b : List ℕ) (g : SameFirstBytes f.size a b) where
  -- the number of k bytes at a place
  number_agree : (k place : ℕ) → place + k ≤ f.size → number_in k (drop place a) ≡ number_in k (drop place b)
  number_agree k place h = ap (λ l. get_or l 0 0) (units_agree k 1 k (drop place a) (drop place b) (omega arith)
      (agree_drop place k a b (agree_less (place + k) f.size a b h g)))

  pub parent_agree : parent_in a ≡ parent_in b
  unfolding parent_in
  parent_agree = number_agree number_bytes 0 (omega (arith, sound.fits))

  pub branch_agree : branch_in a ≡ branch_in b
  unfolding branch_in
  branch_agree = number_agree flag_bytes branch_place (omega (arith, sound.fits))

  pub point_agree : point_in a ≡ point_in b
  unfolding point_in
  point_agree = number_agree number_bytes content_place (omega (arith, sound.fits))

  -- the pair's bytes
  pub pair_agree : SameFirstBytes (encoded_bytes_of_format f) (drop pair_place a) (drop pair_place b)
  pair_agree = agree_drop pair_place (encoded_bytes_of_format f) a b (agree_less (pair_place + encoded_bytes_of_format f) f.size a b sound.fits g)

  pub window_agree : window_in_format f a ≡ window_in_format f b
  unfolding window_in_format window_from codes_in
  window_agree =
      let s = drop content_place a in
      let t = drop content_place b in
      let rest₄ = f.group_bytes * f.groups in
      let rest₃ = flag_bytes + rest₄ in
      let rest₂ = f.registers + rest₃ in
      let rest₁ = masks_bytes f + rest₂ in
      let g₀ : SameFirstBytes (content_bytes_of_format f) s t = agree_drop content_place (content_bytes_of_format f) a b
      (agree_less (content_place + content_bytes_of_format f) f.size a b (omega (arith, sound.fits)) g) in
      let g₁ = agree_drop number_bytes (masks_bytes f + rest₁) s t g₀ in
      let g₂ = agree_drop (masks_bytes f) rest₁ _ _ g₁ in
      let g₃ = agree_drop (masks_bytes f) rest₂ _ _ g₂ in
      let g₄ = agree_drop f.registers rest₃ _ _ g₃ in
      let g₅ = agree_drop flag_bytes rest₄ _ _ g₄ in
      let class = units_agree f.mask_bytes f.registers (masks_bytes f + rest₁) _ _ (omega arith) g₁ in
      let unequal = units_agree f.mask_bytes f.registers (masks_bytes f + rest₂) _ _ (omega arith) g₂ in
      let marks = units_agree flag_bytes f.registers rest₂ _ _ (omega arith) g₃ in
      let infeasible = units_agree flag_bytes 1 rest₃ _ _ (omega arith) g₄ in
      let codes = units_agree f.group_bytes f.groups rest₄ _ _ (omega arith) g₅ in
      rw (class, unequal, marks, infeasible, codes)
