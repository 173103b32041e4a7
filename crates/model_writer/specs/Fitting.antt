-- A model written where it fits the output.
use Rattle.std.specs.Prelude.{◌≡◌, Ok, Err, List, ℕ, ◌≤◌, ◌<◌, length}
use Rattle.letters.specs.Editions.{first_edition, most_registers}
use Rattle.letters.specs.declared.Header.{Header}
use Rattle.semantics.specs.PackedTables.{pack_tables}
use Rattle.closure.specs.Limits.{most_terms}
use Rattle.letters.specs.declared.reasons.Reason.TheVariants.{OutputTooSmall}
use Rattle.model_writer.specs.Inserted.{inserted}
use Rattle.model_writer.specs.Bytes.{model_length, Writable, tables_in}
use Rattle.model_writer.specs.Answer.{ShowResult}
use Rattle.model_writer.specs.declared.Shown.TheVariants as shown

-- What `put_model` asks: few rows, and what `write` asks where the model fits.
pub record Puttable (h : Header) (values function first second rows : List ℕ) (c r room : ℕ) : Type 0 where
  pub registers_few : h.registers ≤ most_registers
  pub rows_few : r ≤ most_terms
  pub writable : model_length h r ≤ room → Writable h values function first second rows c r room

-- The tables of the arrays are written to the front of the output, or refused by 6 where they do not fit it.
pub data Put (h : Header) (values function first second rows : List ℕ) (c r : ℕ) (out : List ℕ) : ShowResult → List ℕ → Type 0 where
  too_large : length out < model_length h r → Put h values function first second rows c r out (Err (record { reason = OutputTooSmall; place = 0 })) out
  fitting : {out' : List ℕ} → model_length h r ≤ length out
      → out' ≡ inserted 0 (pack_tables first_edition h (tables_in h values function first second rows c r)) out
      → Put h values function first second rows c r out (Ok (shown.Model (model_length h r))) out'
