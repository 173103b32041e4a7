-- What the window says of a trace, register by register (SPEC 5.2, 5.6; document 01): "The window carries everything the next letter needs: the classes,
-- the known-unequal pairs of held classes, the held results, which applications to held classes were ever computed, which held classes have
-- above them a computed application with an argument or result that no register holds, and whether the trace is infeasible."
use Rattle.std.specs.Prelude.{◌⊎◌, ℕ, List}
use Rattle.semantics.specs.Terms.{◌∈◌, Term, app, State}
use Rattle.semantics.specs.Closure.{Closure, Equivalent, Held}
use Rattle.semantics.specs.Coherence.{Above}

module _ (U : List Term) (E : List (Term × Term)) where
  -- A computed application of f to arguments equal to y and z equals s.
  pub record Match (f : ℕ) (y z s : Term) : Type 0 where
    pub first : Term
    pub second : Term
    pub listed : app f first second ∈ U
    pub at_first : Closure U E first y
    pub at_second : Closure U E second z
    pub gives : Closure U E (app f first second) s

  -- One of the unequal tests D has joined terms equal to s and t, in either order.
  pub record Parted (D : List (Term × Term)) (s t : Term) : Type 0 where
    pub left : Term
    pub right : Term
    pub tested : ((left, right) ∈ D) ⊎ ((right, left) ∈ D)
    pub at_left : Closure U E left s
    pub at_right : Closure U E right t

  -- Above t there is a computed application whose result and arguments are not all held.
  pub record Exposed (H : Term → Type 0) (t : Term) : Type 0 where
    pub function : ℕ
    pub first : Term
    pub second : Term
    pub listed : app function first second ∈ U
    pub above : Above U E t first second
    pub unheld : ¬ (H (app function first second) × H first × H second)

-- "A class is a set of registers with equal values": registers r and s are in one class (SPEC 5.1, 5.2).
abbrev pub Same : State → ℕ → ℕ → Type 0
Same σ r s = Equivalent σ (σ.value r) (σ.value s)

-- "The known-unequal pairs of held classes (those an unequal test has joined, none inferred)": the classes of r and s are such a pair (SPEC 5.2).
abbrev pub Apart : State → ℕ → ℕ → Type 0
Apart σ r s = Parted σ.terms σ.equals σ.unequals (σ.value r) (σ.value s)

-- The held results: r holds the result of f at the classes of a and b (SPEC 5.2, 5.4).
abbrev pub Result : State → ℕ → ℕ → ℕ → ℕ → Type 0
Result σ f a b r = Match σ.terms σ.equals f (σ.value a) (σ.value b) (σ.value r)

-- The applications to held classes that were ever computed: f at the classes of a and b, whether or not a register holds the result (SPEC 5.2).
abbrev pub EverComputed : State → ℕ → ℕ → ℕ → Type 0
EverComputed σ f a b = (s : Term) × Match σ.terms σ.equals f (σ.value a) (σ.value b) s

-- The class of r has above it a computed application with an argument or result that no register holds (SPEC 5.2).
abbrev pub Marked : State → ℕ → Type 0
Marked σ r = Exposed σ.terms σ.equals (Held σ) (σ.value r)
