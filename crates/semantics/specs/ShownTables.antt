-- The tables that are shown (SPEC 7.2, 7.3; document 01), computed: for the computed terms U, the oldest first, and the equal tests E.
use Rattle.std.specs.Prelude.{reverse, List, [], ◌∷◌, Bool, ℕ, zero, suc, length}
use Rattle.semantics.specs.Terms.{State, Term, con, app}
use Rattle.semantics.specs.Tables.{Tables, Row, lists, row_of}
use Rattle.semantics.specs.Decide.{alike}
use Rattle.semantics.specs.Firsts.{firsts_after, first_place}

-- The first computed term of each class of the closure of the whole, in order of computation.
unfoldable pub classes_of : List Term → List (Term × Term) → List Term
classes_of U E = firsts_after (alike U E) [] U

-- "Classes of computed terms get values 1, 2, .. by first computed term (initial constants in register order, then letter by letter)." (SPEC 7.2)
unfoldable pub class_value : List Term → List (Term × Term) → Term → ℕ
class_value U E t = first_place (alike U E t) 1 (classes_of U E)

-- The row of each computed application, in order of computation.
unfoldable pub applications : (Term → ℕ) → List Term → List Row
applications v [] = []
applications v (con r ∷ ts) = applications v ts
applications v (app f s t ∷ ts) = row_of v f s t ∷ applications v ts

-- The two rows have one function and one pair of arguments.
abbrev pub same_call : Row → Row → Bool
same_call r s = lists r.function r.first r.second s

-- "One row for each distinct application, in order of first computation." (SPEC 7.3)
unfoldable pub rows_of : List Term → List (Term × Term) → List Row
rows_of U E = firsts_after same_call [] (applications (class_value U E) U)

-- The values of the initial constants of n registers, from register k on.
unfoldable pub starts_from : (Term → ℕ) → ℕ → ℕ → List ℕ
starts_from v k zero = []
starts_from v k (suc n) = v (con k) ∷ starts_from v (suc k) n

-- The tables that are shown: n is the count of registers. Value 0 is counted.
unfoldable pub shown_tables : ℕ → List Term → List (Term × Term) → Tables
shown_tables n U E = record {
  count = suc (length (classes_of U E));
  starts = starts_from (class_value U E) 0 n;
  rows = rows_of U E;
}

-- The tables that are shown for a trace: of its computed terms, the oldest first, and its equal tests.
unfoldable pub tables_of : State → Tables
tables_of σ = shown_tables σ.header.registers (reverse σ.terms) σ.equals

-- The value of a term in them.
abbrev pub shown_value : State → Term → ℕ
shown_value σ t = class_value (reverse σ.terms) σ.equals t
