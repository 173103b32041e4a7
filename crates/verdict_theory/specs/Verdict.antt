-- The verdict on a macro (SPEC 10), and which data models it speaks of (SPEC 3.6).
-- Document 01: "A data model here is finite: a count of values, an initial value for each register, a total table for each function. A trace is
-- feasible if some model satisfies all its tests. [..] infinite models change nothing." An event and pass speak of feasible executions, and so
-- the definition below is read in two ways, by its first argument `Possible`, which says of a state that some data model satisfies its tests:
-- `Feasible` allows finite models only, as document 01 has it, and is a type of `Type 0`, as the contract of a function asks;
-- `FeasibleInSomeModel` allows every type of values, of any universe `Type ℓ`, and lies in `Type (ℓ + 1)`. That the second changes nothing is
-- proved for every ℓ: `Readings.anywhere`.
use Rattle.std.specs.Prelude.{◌≡◌, ◌⊎◌, ◌↔◌, ◌≢◌, List, ◌++◌, ℕ, ◌≤◌, ◌<◌, length, drop}
use Rattle.letters.specs.declared.Letter.{Letter}
use Rattle.semantics.specs.Terms.{Trace, begin, ◌▸◌, State, extend, state}
use Rattle.letters.specs.Editions.{Edition}
use Rattle.traces.specs.Traces.{packing}
use Rattle.semantics.specs.SameWindow.{SameWindow}
use Rattle.semantics.specs.Tables.{Tables}
use Rattle.semantics.specs.Numbering.{ShownModel}
use Rattle.semantics.specs.PackedTables.{pack_tables}
use Rattle.semantics.specs.Coherence.{Coherent}
use Rattle.macros.specs.Tree.{Block}
use Rattle.macros.specs.Executions.{Partial, Failing}
use Rattle.macros.specs.Order.{Path, Before}
use Rattle.macros.specs.Walk.{Place, at, stand}
use Rattle.macros.specs.Points.{size_block, run}
use Rattle.verdict_theory.specs.Count.{Count, More}
use Rattle.letters.specs.MacroRefusalNumbers.{table_too_small}
use Rattle.letters.specs.RefusalNumbers.{output_too_small}

-- An answer: a verdict, with the count of pairs and, unless it is pass, the count of letters; or a refusal, its number and its place (SPEC 10.7, 11.1).
pub data VerdictAnswer : Type 0 where
  pass : ℕ → VerdictAnswer
  fail : ℕ → ℕ → VerdictAnswer
  incoherent : ℕ → ℕ → VerdictAnswer
  refused : ℕ → ℕ → VerdictAnswer

abbrev pub IsPass : VerdictAnswer → Type 0
IsPass (pass k) = Unit {0}
IsPass (fail k l) = ⊥
IsPass (incoherent k l) = ⊥
IsPass (refused n p) = ⊥

-- "Table suffices? 14." "Answer fits the output? 6." (SPEC 11.3)
abbrev pub full : VerdictAnswer
full = refused table_too_small 0

abbrev pub unfit : VerdictAnswer
unfit = refused output_too_small 0

-- The two kinds of events (SPEC 10.3).
pub data Kind : Type 0 where
  breaking failing : Kind

-- The answer that shows an event of k pairs and l letters.
abbrev pub showing : Kind → ℕ → ℕ → VerdictAnswer
showing breaking k l = incoherent k l
showing failing k l = fail k l

-- "the execution as a packed trace, on fail its model after it" (SPEC 10.7): these are the bytes of the letters ls after a start, packed in an edition. All
-- tests of a failing execution hold in the model that is shown. Of a well-formed execution there is one such list of bytes only (`AnswerPacking.bytes-are`).
abbrev pub AnswerBytes : Edition → Trace → Kind → List Letter → List ℕ → Type 0
AnswerBytes e start breaking ls bytes = bytes ≡ packing e (state start).header ls
AnswerBytes e start failing ls bytes =
    (t : Tables) × ShownModel (state (extend start ls)) t × (bytes ≡ packing e (state start).header ls ++ pack_tables e (state start).header t)

-- The answer a with the bytes bs: they stand in front of what the output held there, or it is refused by 6, exactly where they do not fit.
-- "Refused calls write no output; bytes past a written answer stay." (SPEC 10.7, 11.5)
abbrev pub Delivered : List ℕ → VerdictAnswer → List ℕ → VerdictAnswer → List ℕ → Type 0
Delivered bs a output answer output' =
    ((length bs ≤ length output) × (answer ≡ a) × (output' ≡ bs ++ drop (length bs) output))
    ⊎ ((length output < length bs) × (answer ≡ unfit) × (output' ≡ output))

-- The last letter is the first incoherent one (SPEC 10.3).
abbrev pub Breaks : Trace → Type 0
Breaks (begin h) = ⊥
Breaks (ρ ▸ a) = Coherent ρ × ¬ Coherent (ρ ▸ a)

-- The executions of the macro m after the trace start.
module _ (start : Trace) (m : Block) where
  -- ρ is the partial execution that takes the path p.
  abbrev pub Takes : Path → Trace → Type 0
  Takes p ρ = (l : Place ℕ) × (run start m p ≡ stand l ρ)

  -- ρ comes before π: "shorter first, then by branch" (SPEC 10.1).
  pub record Precedes (ρ π : Trace) : Type 0 where
    pub path : Path
    pub other : Path
    pub takes : Takes path ρ
    pub other_takes : Takes other π
    pub before : Before path other

  -- "A pair is a point still to be performed and a window, as a partial execution leaves them." (SPEC 10.2)
  -- Only coherent ones are looked at: what stands behind an incoherent letter comes after an event, and is not counted (`CountedPairs.counted-any`).
  pub record Leaves (p : Path) : Type 0 where
    pub point : ℕ
    pub trace : Trace
    pub stands : run start m p ≡ stand (at point) trace
    pub due : point < size_block m
    pub coherent : Coherent trace

  -- Two executions leave the same pair: the same point, and the same window (SPEC 10.2).
  pub record SamePair (p q : Path) : Type 0 where
    pub point : ℕ
    pub trace : Trace
    pub other : Trace
    pub stands : run start m p ≡ stand (at point) trace
    pub other_stands : run start m q ≡ stand (at point) other
    pub windows : SameWindow (state trace) (state other)

  -- What kind of event it is. "A failing letter that is itself incoherent counts as incoherent." (SPEC 10.3)
  abbrev pub OfKind : Kind → Trace → Type 0
  OfKind breaking ρ = Partial start m ρ × Breaks ρ
  OfKind failing ρ = Failing start m ρ × Coherent ρ

-- The same executions. Possible σ: some data model satisfies the tests of the state σ.
module _ {ℓ} (Possible : State → Type ℓ) (start : Trace) (m : Block) where
  -- "An event is a partial execution whose last letter is the first incoherent one, or a feasible execution that ends at a failure:
  -- some data model reaches the false assertion, all the tests holding in it." (SPEC 10.3)
  pub data Event (ρ : Trace) : Type ℓ where
    breaks : Partial start m ρ → Breaks ρ → Event ρ
    fails : Failing start m ρ → Possible (state ρ) → Event ρ

  -- "The verdict is the first event, or pass." (SPEC 10.4) It comes before every other, which so has at least as many letters (`Shortest.first-shortest`).
  pub record FirstEvent (ρ : Trace) : Type ℓ where
    pub event : Event ρ
    pub least : (π : Trace) → Event π → (π ≡ ρ) ⊎ Precedes start m ρ π

  -- The event that takes the path p.
  abbrev pub EventAt : Path → Type ℓ
  EventAt p = (ρ : Trace) × Takes start m p ρ × Event ρ

  -- k is the count of pairs; the count passes n (SPEC 10.5, 10.6).
  abbrev pub PairCount : ℕ → Type ℓ
  PairCount k = Count Before (Leaves start m) (SamePair start m) EventAt k

  abbrev pub PairsPass : ℕ → Type ℓ
  PairsPass n = More Before (Leaves start m) (SamePair start m) EventAt n

  -- The first event has the letters ls after the start, and k is the count of pairs.
  pub record Shows (kind : Kind) (k : ℕ) (ls : List Letter) : Type ℓ where
    pub first_event : FirstEvent (extend start ls)
    pub of_kind : OfKind start m kind (extend start ls)
    pub count : PairCount k

  -- The verdict in an edition. The table holds n pairs. `output` is lent, and `output'` is what it holds afterwards (SPEC 10.4 to 10.7).
  pub record IsVerdict (e : Edition) (n : ℕ) (output : List ℕ) (answer : VerdictAnswer) (output' : List ℕ) : Type ℓ where
    -- "full is given exactly when it passes N" (SPEC 10.6)
    pub full_exactly : (answer ≡ full) ↔ PairsPass n
    pub full_output : answer ≡ full → output' ≡ output
    -- else pass is answered exactly if every execution, wherever it is broken off, is coherent so far, and no data model reaches a false assertion
    pub pass_exactly : answer ≢ full
        → IsPass answer ↔ (((ρ : Trace) → Partial start m ρ → Coherent ρ) × ((ρ : Trace) → Failing start m ρ → ¬ Possible (state ρ)))
    pub pass_count : (k : ℕ) → answer ≡ pass k → PairCount k × (output' ≡ output)
    -- else the first event is answered, or 6
    pub otherwise : answer ≢ full → ¬ IsPass answer
        → (kind : Kind) × (k : ℕ) × (ls : List Letter) × (bytes : List ℕ)
        × Shows kind k ls × AnswerBytes e start kind ls bytes × Delivered bytes (showing kind k (length ls)) output answer output'
