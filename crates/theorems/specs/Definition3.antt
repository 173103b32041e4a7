-- The paper's Definition 3: the term that is the value of a register after a trace (SPEC 3.2).
use Rattle.std.specs.Prelude.{◌≡◌, ◌≢◌, ℕ}
use Rattle.letters.specs.declared.Header.{Header}
use Rattle.letters.specs.declared.Letter.TheVariants.{Copy, Apply, Equal, Unequal}
use Rattle.semantics.specs.Terms.{Term, con, app, Trace, begin, ◌▸◌}

-- A function of one argument is applied to it twice, as in `Term`.
pub record Definition3 (value : Trace → ℕ → Term) : Type 0 where
  -- each register begins with a constant of its own
  pub begins : (h : Header) (r : ℕ) → value (begin h) r ≡ con r
  -- after `x := y` and `x := f(y,z)` x has this value, and every other register keeps its own
  pub copied : (ρ : Trace) (x y : ℕ) → value (ρ ▸ Copy x y) x ≡ value ρ y
  pub copy_keeps : (ρ : Trace) (x y r : ℕ) → r ≢ x → value (ρ ▸ Copy x y) r ≡ value ρ r
  pub applied : (ρ : Trace) (x f y z : ℕ) → value (ρ ▸ Apply x f y z) x ≡ app f (value ρ y) (value ρ z)
  pub apply_keeps : (ρ : Trace) (x f y z r : ℕ) → r ≢ x → value (ρ ▸ Apply x f y z) r ≡ value ρ r
  -- tests change no value
  pub equal_keeps : (ρ : Trace) (x y r : ℕ) → value (ρ ▸ Equal x y) r ≡ value ρ r
  pub unequal_keeps : (ρ : Trace) (x y r : ℕ) → value (ρ ▸ Unequal x y) r ≡ value ρ r
