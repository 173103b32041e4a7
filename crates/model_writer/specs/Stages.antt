-- What the stages of an answer promise: the model that the engine's arrays hold, and the letters behind the first infeasible one.
use Rattle.std.specs.Prelude.{◌≡◌, Ok, Err, List, ℕ, length}
use Rattle.letters.specs.declared.Header.{Header}
use Rattle.letters.specs.declared.Letter.{Letter}
use Rattle.letters.specs.RefusalNumbers.{letter_malformed}
use Rattle.traces.specs.Reading.{TraceReading, trace}
use Rattle.semantics.specs.Terms.{State}
use Rattle.engine.specs.Engine.{Computed}
use Rattle.letters.specs.declared.reasons.Reason.TheVariants.{LetterMalformed}
use Rattle.model_writer.specs.declared.Shown.TheVariants as shown
use Rattle.model_writer.specs.Answer.{ShowResult, shown_answer, model_bytes, fitted, laid_in}

-- The arrays hold the computed terms and classes of some state with this header.
pub record SomeStateComputed (h : Header) (function first second representative : List ℕ) (n : ℕ) : Type 0 where
  pub state : State
  pub header : state.header ≡ h
  pub computed : Computed state function first second representative h.registers n

-- The model of any state that they hold is answered.
unfoldable pub Modelled : (h : Header) (function first second representative : List ℕ) (n : ℕ) (out : List ℕ) (r : ShowResult) (out' : List ℕ) → Type 0
Modelled h function first second representative n out r out' =
    (σ : State) → σ.header ≡ h → Computed σ function first second representative h.registers n
    → (shown_answer r ≡ fitted (model_bytes σ) (length out)) × (out' ≡ laid_in (model_bytes σ) out)

-- What is answered where letter k is the first infeasible one and the letters after it are read as x.
pub data Stopped (h : Header) (x : TraceReading) (k : ℕ) : ShowResult → Type 0 where
  well : (ls : List Letter) → x ≡ trace h ls → Stopped h x k (Ok (shown.Infeasible k))
  ill : (p : ℕ) → x ≡ TraceReading.refused letter_malformed p → Stopped h x k (Err (record { reason = LetterMalformed; place = p }))
