-- What the contracts say of the two structs: the relations on arrays, at their fields.
use Rattle.std.specs.Prelude.{◌≡◌, List, ℕ, ◌<◌, ◌≤◌, get_or}
use Rattle.letters.specs.Editions.{most_functions, most_letters}
use Rattle.closure.specs.Limits.{most_terms}
use Rattle.closure.specs.Numbering.{Closed}
use Rattle.closure.specs.Index.{Chains, CompleteIndex}
use Rattle.closure.specs.Arrays.{entry_at, Below, signature_at, Argument, Formed, Readable, Lowest, IndexedTerms, Underway, Propagated, Resumed, Merged}
use Rattle.closure.specs.declared.Terms.{Terms}
use Rattle.closure.specs.declared.Index.{Index}
use Rattle.closure.specs.declared.Tests.{Tests}

-- The same terms with other classes.
abbrev pub with_classes : Terms → List ℕ → Terms
with_classes t r = record { registers = t.registers; count = t.count; function = t.function; first = t.first; second = t.second; representative = r }

-- The signature of each application.
abbrev pub signatures : Terms → ℕ → ℕ
signatures t = signature_at t.representative t.function t.first t.second

-- Number i has a function, and arguments with classes.
abbrev pub Application : Terms → ℕ → Type 0
Application t i = (i < most_terms) × (get_or t.function i 0 < most_functions) × Argument t.representative (get_or t.first i 0)
    × Argument t.representative (get_or t.second i 0)

-- What a look-up asks of the first n terms.
abbrev pub ReadableTerms : Terms → ℕ → Type 0
ReadableTerms t n = Readable t.representative t.function t.first t.second t.registers n

abbrev pub LowestTerms : Terms → Type 0
LowestTerms t = Lowest t.representative t.first t.second t.count

-- The numbers are in range, and a representative is the lowest number of its class.
abbrev pub FormedTerms : Terms → Type 0
FormedTerms t = Formed t.representative t.function t.first t.second t.registers t.count

-- The classes are closed.
abbrev pub ClosedTerms : Terms → Type 0
ClosedTerms t = Closed (entry_at t.function) (entry_at t.first) (entry_at t.second) t.registers t.count (entry_at t.representative)

-- The index has the signatures of the first n terms.
abbrev pub IndexedBy : Terms → ℕ → Index → Type 0
IndexedBy t n x = IndexedTerms t.representative t.function t.first t.second t.registers n x.head x.link

abbrev pub ChainsOf : ℕ → Index → Type 0
ChainsOf n x = Chains n x.head x.link

abbrev pub CompleteFor : Terms → ℕ → Index → Type 0
CompleteFor t n x = CompleteIndex (signatures t) t.registers n x.head x.link

-- The index is cut to the applications before r, from which to go on; its links stay.
abbrev pub ResumedIndex : (registers i d : ℕ) → Index → ℕ → Index → Type 0
ResumedIndex registers i d x r y = Resumed registers i d x.head x.link r y.head × (y.link ≡ x.link)

-- Congruences of the classes that the terms had are propagated up to i.
abbrev pub UnderwayIn : List ℕ → Terms → Index → ℕ → Type 0
UnderwayIn before t x i = Underway before t.function t.first t.second t.registers t.count t.representative x.head x.link i

-- Some unions of congruent applications later, with the classes r, the classes are closed.
abbrev pub PropagatedTerms : Terms → List ℕ → Index → Type 0
PropagatedTerms t r x = Propagated t.representative t.function t.first t.second t.registers t.count r x.head x.link

-- The classes of x and y are one, and those that follow.
abbrev pub MergedTerms : Terms → (x y : ℕ) → List ℕ → Index → Type 0
MergedTerms t x y r i = Merged t.representative t.function t.first t.second t.registers t.count x y r i.head i.link

-- The tests' numbers are in range.
pub record TestsIn (t : Tests) : Type 0 where
  pub parted_few : t.parted ≤ t.count
  pub few : t.count ≤ most_letters
  pub lefts : Below most_terms t.count t.left
  pub rights : Below most_terms t.count t.right
