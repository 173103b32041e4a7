-- What the contracts say of the structs: the relations on arrays, at their fields.
use Rattle.std.specs.Prelude.{List, ℕ, suc, ◌≤◌, take}
use Rattle.letters.specs.declared.Header.{Header}
use Rattle.semantics.specs.Tables.{Tables}
use Rattle.closure.specs.Structs.{IndexedBy}
use Rattle.closure.specs.Arrays.{Formed}
use Rattle.closure.specs.declared.Index.{Index}
use Rattle.closure.specs.declared.Terms.{Terms}
use Rattle.model_writer.specs.Values.{Numberable}
use Rattle.model_writer.specs.Rows.{NewRow}
use Rattle.model_writer.specs.Listing.{Listable, ListedAll}
use Rattle.model_writer.specs.Bytes.{word_for, words_for, RowIn, StartsFit, RowsFit, Writable, tables_in}
use Rattle.model_writer.specs.Fitting.{Puttable, Put}
use Rattle.model_writer.specs.Stages.{SomeStateComputed, Modelled}
use Rattle.model_writer.specs.declared.Model.{Model}
use Rattle.model_writer.specs.Answer.{ShowResult}

abbrev pub NumberableTerms : Terms → List ℕ → Type 0
NumberableTerms t values = Numberable t.representative t.count values

-- Application i and those before it are formed, and the index has those before it.
abbrev pub RowBefore : Terms → Index → ℕ → Type 0
RowBefore t x i = Formed t.representative t.function t.first t.second t.registers (suc i) × (t.registers ≤ i) × IndexedBy t i x

abbrev pub NewRowIn : Terms → ℕ → Index → ℕ → Type 0
NewRowIn t i x b = NewRow t.representative t.function t.first t.second t.registers i x.head x.link b

abbrev pub ListableTerms : Terms → List ℕ → Type 0
ListableTerms t rows = Listable t.representative t.function t.first t.second t.registers t.count rows

abbrev pub ListedTerms : Terms → List ℕ → ℕ → Type 0
ListedTerms t rows r = ListedAll t.representative t.function t.first t.second t.registers t.count rows r

abbrev pub RowOf : Terms → List ℕ → ℕ → Type 0
RowOf t values i = RowIn values t.function t.first t.second i

abbrev pub word_of : Header → Terms → List ℕ → ℕ → ℕ
word_of h t values i = word_for h values t.function t.first t.second i

-- The numbers of all rows.
abbrev pub words_of : Header → Terms → Model → List ℕ
words_of h t m = words_for h m.values t.function t.first t.second (take m.rows_count m.rows)

abbrev pub StartsOf : Model → (registers room at : ℕ) → Type 0
StartsOf m registers room at = StartsFit m.values registers room at

abbrev pub RowsOf : Terms → Model → (room at : ℕ) → Type 0
RowsOf t m room at = RowsFit m.values t.function t.first t.second m.rows m.rows_count room at

abbrev pub tables_of_model : Header → Terms → Model → Tables
tables_of_model h t m = tables_in h m.values t.function t.first t.second m.rows m.count m.rows_count

abbrev pub WritableModel : Header → Terms → Model → (room : ℕ) → Type 0
WritableModel h t m room = Writable h m.values t.function t.first t.second m.rows m.count m.rows_count room

abbrev pub PuttableModel : Header → Terms → Model → (room : ℕ) → Type 0
PuttableModel h t m room = Puttable h m.values t.function t.first t.second m.rows m.count m.rows_count room

abbrev pub PutModel : Header → Terms → Model → (out : List ℕ) → ShowResult → List ℕ → Type 0
PutModel h t m out r out' = Put h m.values t.function t.first t.second m.rows m.count m.rows_count out r out'

abbrev pub ComputedTerms : Header → Terms → Type 0
ComputedTerms h t = SomeStateComputed h t.function t.first t.second t.representative t.count

abbrev pub ModelledTerms : Header → Terms → (out : List ℕ) → ShowResult → List ℕ → Type 0
ModelledTerms h t out r out' = Modelled h t.function t.first t.second t.representative t.count out r out'
