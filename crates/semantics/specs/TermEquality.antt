-- Equality of terms as a test.
use Rattle.std.specs.Prelude.{Bool, false, ◌&&◌, eqb}
use Rattle.semantics.specs.Terms.{Term, con, app}

-- the two terms are the same
abbrev pub eqt : Term → Term → Bool
eqt (con m) (con n) = eqb m n
eqt (con m) (app g c d) = false
eqt (app f a b) (con n) = false
eqt (app f a b) (app g c d) = eqb f g && (eqt a c && eqt b d)
