-- What a verdict shows, read from the bytes of its answer: the execution as a packed trace, on fail its model directly behind it (SPEC 10.7).
use Rattle.std.specs.Prelude.{◌≡◌, Option, Some, None, Result, Ok, Err, ℕ, zero, suc, ◌+◌, ◌*◌, List, [], ◌∷◌, ◌++◌, leb, length, get_or, drop, take}
use Rattle.base.specs.Choice.{pick}
use Rattle.letters.specs.declared.Header.{Header}
use Rattle.letters.specs.declared.Letter.{Letter}
use Rattle.letters.specs.declared.Letter.TheVariants.{Copy}
use Rattle.letters.specs.Editions.{first_edition}
use Rattle.letters.specs.Answers.{on_answer}
use Rattle.traces.specs.ReadingParts.{letter_at}
use Rattle.semantics.specs.TablesRead.{read_tables}
use Rattle.text.specs.Names.{name_text}
use Rattle.report.specs.declared.ReportedRefusal.{ReportedRefusal}
use Rattle.report.specs.declared.ReportedVerdict.{ReportedVerdict}
use Rattle.report.specs.declared.ReportedVerdict.TheVariants.{Pass, Incoherent, Fail}
use Rattle.report.specs.Lines.{Names, Printed, report}
use Rattle.letters.specs.Packing.{join}
use Rattle.semantics.specs.PackedTables.{word_bytes, row_bytes}

-- The number that the two bytes of a word at `at` make, and the five of a row.
abbrev pub word_at : List ℕ → ℕ → ℕ
word_at s at = join (8 ∷ 8 ∷ []) (take word_bytes (drop at s))

abbrev pub row_in : List ℕ → ℕ → ℕ
row_in s at = join (8 ∷ 8 ∷ 8 ∷ 8 ∷ 8 ∷ []) (take row_bytes (drop at s))

-- How many numbers a word holds.
abbrev pub word_values : ℕ
word_values = 65536

-- The names that two arrays hold.
abbrev pub names_of : List ℕ → List ℕ → Names
names_of registers functions = record { register = λ r. name_text (get_or registers r 0); function = λ f. name_text (get_or functions f 0) }

-- Letter k, from 0, of the trace in s. What is no letter under h counts as the copy of register 0 to itself; packed traces have none such.
unfoldable pub letter_or_copy : Header → List ℕ → ℕ → Letter
letter_or_copy h s k = on_answer (letter_at first_edition h s k) (λ l. l) λ _ _. Copy 0 0

-- n letters from letter k on.
unfoldable pub letters_in : Header → List ℕ → ℕ → ℕ → List Letter
letters_in h s k zero = []
letters_in h s k (suc n) = letter_or_copy h s k ∷ letters_in h s (k + 1) n

-- Where the model begins, behind a header and n letters.
abbrev pub model_start : ℕ → ℕ
model_start n = first_edition.bytes * n + first_edition.bytes

-- What a report is of: a verdict, or a refusal by any number.
abbrev pub Reported : Type 0
Reported = Result ReportedVerdict ReportedRefusal

-- What is printed for a verdict whose answer is in s, or for a refusal.
unfoldable pub printed_of : Header → Reported → List ℕ → Printed
printed_of h (Ok (Pass pairs)) s = Printed.pass pairs
printed_of h (Ok (Incoherent pairs n)) s = Printed.incoherent pairs (letters_in h s 0 n)
printed_of h (Ok (Fail pairs n)) s = Printed.fail pairs (letters_in h s 0 n) (read_tables first_edition h (drop (model_start n) s))
printed_of h (Err r) s = Printed.refused r.number r.place

-- The report of a verdict whose answer is in s, or of a refusal.
unfoldable pub report_of : List ℕ → List ℕ → Header → Reported → List ℕ → List ℕ
report_of registers functions h verdict s = report (names_of registers functions) h (printed_of h verdict s)

-- A text that was to be written into a buffer: it stands in front and the bytes behind it stay, or there is no room and all bytes stay.
pub record WroteText (text entry exit : List ℕ) (answer : Option ℕ) : Type 0 where
  pub answered : answer ≡ pick (leb (length text) (length entry)) (λ _. Some (length text)) λ _. None
  pub bytes : exit ≡ pick (leb (length text) (length entry)) (λ _. text ++ drop (length text) entry) λ _. entry
