-- The windows that a record of the first edition can hold, and what is read back of them.
use mathlib.Core.Path.{◌≡◌, refl}
use Prim.Native.Nat.{ℕ, ◌<◌}
use native.Mathlib.Omega.{arith}
use mathlib.Core.List.{List, ◌++◌}
use lib.ListN.{length, drop}
use Rattle.window.specs.declared.Window.{Window}
use Rattle.records.specs.Formats.{WidthsFit, pair_place}
use Rattle.records.specs.Records.{first_format, encoded_bytes, encoded, point_in, window_in}
use Rattle.records.proofs.Theory.FormatLaws as laws
pub use Rattle.records.proofs.Theory.FormatLaws.{flag_back, flags_back}

pub first_sound : WidthsFit first_format
first_sound = record { masks = refl; names = omega arith; grouped = refl; counted = refl; fits = omega arith }

abbrev pub Storable : Window → Type 0
Storable = laws.StorableInFormat first_format

module _ (point : ℕ) (w : Window) (s : Storable w) where
  pub encoded_length : length (encoded point w) ≡ encoded_bytes
  encoded_length = laws.encoded_length first_format first_sound point w s

  -- What is read where the pair stands.
  module _ (bytes rest : List ℕ) (e : drop pair_place bytes ≡ encoded point w ++ rest) where
    pub window_back : window_in bytes ≡ w
    window_back = laws.window_back first_format first_sound point w s bytes rest e

    pub point_back : point < 65536 → point_in bytes ≡ point
    point_back h = laws.point_back first_format first_sound point w s bytes rest e h

-- Pairs are equal where their bytes are.
pub encoded_injective : (p q : ℕ) (w v : Window) → p < 65536 → q < 65536 → Storable w → Storable v → encoded p w ≡ encoded q v → (p ≡ q) × (w ≡ v)
encoded_injective = laws.encoded_injective first_format first_sound
