-- What the loop that writes a trace keeps.
use Rattle.std.specs.Prelude.{◌≡◌, ℕ, ◌+◌, ◌*◌, ◌/◌, ◌≤◌, List, drop}
use Rattle.letters.specs.declared.Header.{Header}
use Rattle.letters.specs.declared.Letter.{Letter}
use Rattle.letters.specs.Editions.{first_edition}
use Rattle.traces.specs.Traces.{bytes_of}
use Rattle.blocks.specs.declared.PointEntry.{PointEntry}
use Rattle.search.specs.Trails.{trail_to, trail_of}
use Rattle.search.specs.Tracing.{letter_words, last_letter}
use Rattle.search.specs.declared.Packed.{Packed}

-- The letters behind those up to pair j, of the execution that move number d ends, are written.
pub record Writing (h : Header) (points : List PointEntry) (table : List ℕ) (d : ℕ) (p : Packed) (j : ℕ) : Type 0 where
  pub below : j ≤ d / 2
  pub room : 2 * j + 2 ≤ p.start
  pub within : p.start ≤ last_letter
  pub rest : List Letter
  pub stands : drop p.start p.bytes ≡ bytes_of first_edition (letter_words h rest)
  pub trail : trail_to points table j j rest ≡ trail_of points table d
