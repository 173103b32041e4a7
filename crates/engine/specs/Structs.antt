-- What the contracts say of the structs: the relations on arrays, at their fields.
use Rattle.std.specs.Prelude.{List, ℕ}
use Rattle.letters.specs.declared.Letter.{Letter}
use Rattle.closure.specs.declared.Index.{Index}
use Rattle.closure.specs.declared.Terms.{Terms}
use Rattle.closure.specs.declared.Tests.{Tests}
use Rattle.engine.specs.Engine.{Counts, Ready, LetterPerformed, Appliable, Applied, Computable, Computing, Equatable, TermsEquated, Notable, Noted}
use Rattle.engine.specs.declared.Progress.{Progress}

-- n terms, and the tests.
abbrev pub counts_of : ℕ → Tests → Counts
counts_of n u = record { terms = n; tests = u.count; parted = u.parted }

-- The same with another index.
abbrev pub with_index : Progress → Index → Progress
with_index p i = record { index = i; value = p.value; tests = p.tests }

-- The same, but so many of the tests are known to have their sides in different classes.
abbrev pub with_parted : Progress → ℕ → Progress
with_parted p m = record { index = p.index; value = p.value; tests = record { count = p.tests.count; parted = m; left = p.tests.left; right = p.tests.right } }

abbrev pub AppliableTo : Terms → Index → (f a b : ℕ) → Type 0
AppliableTo t i f a b = Appliable t.function t.first t.second t.representative i.head i.link t.registers t.count f a b

abbrev pub AppliedTo : Terms → Index → (f a b : ℕ) → Terms → Index → Type 0
AppliedTo t i f a b u j = Applied t.function t.first t.second t.representative i.head i.link t.registers t.count f a b
    u.function u.first u.second u.representative j.head j.link

abbrev pub ComputableIn : Terms → Progress → (x f y z : ℕ) → Type 0
ComputableIn t p x f y z = Computable t.function t.first t.second t.representative p.index.head p.index.link p.value t.registers
    (counts_of t.count p.tests) x f y z

abbrev pub ComputingIn : Terms → Progress → (x f y z : ℕ) → Terms → Progress → Type 0
ComputingIn t p x f y z u q = Computing t.function t.first t.second t.representative p.index.head p.index.link p.value t.registers (counts_of t.count p.tests)
    x f y z u.function u.first u.second u.representative q.index.head q.index.link q.value (counts_of u.count q.tests)

abbrev pub EquatableIn : Terms → Progress → (x y : ℕ) → Type 0
EquatableIn t p x y = Equatable t.function t.first t.second t.representative p.index.head p.index.link p.value t.registers (counts_of t.count p.tests) x y

abbrev pub EquatedIn : Terms → Progress → (x y : ℕ) → List ℕ → Progress → Type 0
EquatedIn t p x y r q = TermsEquated t.function t.first t.second t.representative p.value t.registers (counts_of t.count p.tests)
    x y r q.index.head q.index.link (counts_of t.count q.tests)

-- of any number of terms
abbrev pub NotableIn : Letter → Progress → Type 0
NotableIn letter p = (n : ℕ) → Notable letter (counts_of n p.tests)

abbrev pub NotedIn : Letter → Progress → Progress → Type 0
NotedIn letter p q = (n : ℕ) → Noted letter p.value p.tests.left p.tests.right (counts_of n p.tests) q.value q.tests.left q.tests.right (counts_of n q.tests)

abbrev pub ReadyFor : Letter → Terms → Progress → Type 0
ReadyFor letter t p = Ready letter t.function t.first t.second t.representative p.index.head p.index.link p.value p.tests.left p.tests.right t.registers
    (counts_of t.count p.tests)

abbrev pub PerformedIn : Letter → Terms → Progress → Terms → Progress → Type 0
PerformedIn letter t p u q = LetterPerformed letter t.function t.first t.second t.representative p.index.head p.index.link p.value p.tests.left p.tests.right
    t.registers (counts_of t.count p.tests) u.function u.first u.second u.representative q.index.head q.index.link q.value q.tests.left q.tests.right
    (counts_of u.count q.tests)
