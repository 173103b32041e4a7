-- The starred bench examples of document 01 and those of request 3 (SPEC 13.1), as one table that is proved through the definitions by one theorem.
use mathlib.Core.Path.{◌≡◌, refl, subst}
use mathlib.Core.Bool.{Bool, ◌&&◌}
use mathlib.Core.List.{List, [], ◌∷◌}
use Prim.Native.Nat.{ℕ}
use lib.Dec.{T, eqb, eqb→eq}
use Rattle.letters.specs.Editions.{first_edition}
use Rattle.letters.specs.declared.Header.{Header}
use Rattle.letters.specs.Coding.{fits_test, apply_test}
use Rattle.letters.specs.declared.Letter.TheVariants.{Copy, Apply, Equal, Unequal}
use Rattle.semantics.proofs.Theory.Booleans.{and_l, and_r}
use Rattle.semantics.proofs.Theory.Lists.{all_e}
use Rattle.semantics.specs.Terms.{◌∈◌, Trace, begin, ◌▸◌, state}
use Rattle.semantics.specs.Facts.{WellFormed}
use Rattle.semantics.specs.Models.{Feasible}
use Rattle.semantics.specs.Judgement.{FirstFailure}
use Rattle.semantics.specs.Firsts.{firsts_after, first_place}
use Rattle.semantics.specs.ShownTables.{shown_tables, starts_from, rows_of, applications, classes_of, class_value}
use Rattle.semantics.specs.ShownTables.{tables_of}
use Rattle.semantics.specs.PackedTables.{pack_tables, units, packed_row, second_written}
use Rattle.semantics.proofs.Theory.Judge.{formed, formed_e}
use Rattle.semantics.specs.Judgement.{Judgement}
use Rattle.semantics.specs.FirstLetters.{coherent_part, incoherent_letter, infeasible_letter, first_infeasible}
use Rattle.semantics.proofs.Theory.JudgementLaws.{judgement_is, first_infeasible_is}

-- A trace, the letters that a run names, the incoherent one and the infeasible one before it, and the letter at which the whole trace is
-- infeasible, which the whole-trace engine names; 0 for none.
pub record Example : Type 0 where
  pub trace : Trace
  pub incoherent : ℕ
  pub infeasible : ℕ
  pub whole : ℕ

-- A header of n registers and one function, of one argument or of two. In the table f and n are function 0.
abbrev pub one : ℕ → Trace
one n = begin (record { registers = n; functions = 1; binary = 0 })

abbrev pub two : ℕ → Trace
two n = begin (record { registers = n; functions = 1; binary = 1 })

-- z:=f(x), z:=x: f(x) is lost, so x and z are marked. Registers x y z are 0 1 2
abbrev pub repeated : Trace
repeated = one 3 ▸ Apply 2 0 0 0 ▸ Copy 2 0

pub table : List Example
table =
    -- header alone: coherent, feasible
    record { trace = one 1; incoherent = 0; infeasible = 0; whole = 0 }
    -- z:=f(x), z:=f(z), x=y: incoherent at 3. Registers x y z are 0 1 2
    ∷ record { trace = one 3 ▸ Apply 2 0 0 0 ▸ Apply 2 0 2 2 ▸ Equal 0 1; incoherent = 3; infeasible = 0; whole = 0 }
    -- y:=n(x), y:=n(y), x:=n(x): incoherent at 3. Registers x y are 0 1
    ∷ record { trace = one 2 ▸ Apply 1 0 0 0 ▸ Apply 1 0 1 1 ▸ Apply 0 0 0 0; incoherent = 3; infeasible = 0; whole = 0 }
    -- y:=x, x:=f(x), z:=f(y), x!=z: infeasible at 4. Registers x y z are 0 1 2
    ∷ record { trace = one 3 ▸ Copy 1 0 ▸ Apply 0 0 0 0 ▸ Apply 2 0 1 1 ▸ Unequal 0 2; incoherent = 0; infeasible = 4; whole = 4 }
    -- z:=f(a,w), w:=a, z:=a, a=b: incoherent at 4. Registers a b w z are 0 1 2 3
    ∷ record { trace = two 4 ▸ Apply 3 0 0 2 ▸ Copy 2 0 ▸ Copy 3 0 ▸ Equal 0 1; incoherent = 4; infeasible = 0; whole = 0 }
    -- u:=f(x,w), v:=f(y,w), w:=x, x=y: incoherent at 4. Registers u v w x y are 0 1 2 3 4
    ∷ record { trace = two 5 ▸ Apply 0 0 3 2 ▸ Apply 1 0 4 2 ▸ Copy 2 3 ▸ Equal 3 4; incoherent = 4; infeasible = 0; whole = 0 }
    -- without w:=x it is coherent
    ∷ record { trace = two 5 ▸ Apply 0 0 3 2 ▸ Apply 1 0 4 2 ▸ Equal 3 4; incoherent = 0; infeasible = 0; whole = 0 }
    -- and a following u!=v is infeasible at 4
    ∷ record { trace = two 5 ▸ Apply 0 0 3 2 ▸ Apply 1 0 4 2 ▸ Equal 3 4 ▸ Unequal 0 1; incoherent = 0; infeasible = 4; whole = 4 }
    -- y:=f(x), x=y, x:=f(x), x!=y: infeasible at 4. Registers x y are 0 1
    ∷ record { trace = one 2 ▸ Apply 1 0 0 0 ▸ Equal 0 1 ▸ Apply 0 0 0 0 ▸ Unequal 0 1; incoherent = 0; infeasible = 4; whole = 4 }
    -- v1:=f(v0) up to v7:=f(v6), v0=v1, v0!=v7: infeasible at 9. Registers v0 to v7 are 0 to 7
    ∷ record {
      trace = one 8 ▸ Apply 1 0 0 0 ▸ Apply 2 0 1 1 ▸ Apply 3 0 2 2 ▸ Apply 4 0 3 3 ▸ Apply 5 0 4 4 ▸ Apply 6 0 5 5 ▸ Apply 7 0 6 6 ▸ Equal 0 1 ▸ Unequal 0 7;
      incoherent = 0;
      infeasible = 9;
      whole = 9;
    }
    -- z:=f(x), z:=x, x=x: coherent, feasible, by request 3; document 01 has it incoherent at 3. Registers x z are 0 1
    ∷ record { trace = one 2 ▸ Apply 1 0 0 0 ▸ Copy 1 0 ▸ Equal 0 0; incoherent = 0; infeasible = 0; whole = 0 }
    -- x!=x: infeasible at 1. Register x is 0
    ∷ record { trace = one 1 ▸ Unequal 0 0; incoherent = 0; infeasible = 1; whole = 1 }
    -- request 3: z:=f(x), z:=x, y:=x, x=y: equal by a copy. Registers x y z are 0 1 2, here and below
    ∷ record { trace = repeated ▸ Copy 1 0 ▸ Equal 0 1; incoherent = 0; infeasible = 0; whole = 0 }
    -- z:=f(x), z:=x, x=y: the sides are not equal before
    ∷ record { trace = repeated ▸ Equal 0 1; incoherent = 3; infeasible = 0; whole = 0 }
    -- z:=f(x), z:=x, x=x, x=y: the mark stays
    ∷ record { trace = repeated ▸ Equal 0 0 ▸ Equal 0 1; incoherent = 4; infeasible = 0; whole = 0 }
    -- z:=f(x), z:=x, x=x, z:=f(x): memoizing stays
    ∷ record { trace = repeated ▸ Equal 0 0 ▸ Apply 2 0 0 0; incoherent = 4; infeasible = 0; whole = 0 }
    -- z:=f(x), z:=x, x=x, y:=x, y!=x: feasibility goes on
    ∷ record { trace = repeated ▸ Equal 0 0 ▸ Copy 1 0 ▸ Unequal 1 0; incoherent = 0; infeasible = 5; whole = 5 }
    -- u:=f(x), v:=f(y), x=y, w:=g(u), w:=x, u=v: equal by congruence. Registers x y u v w are 0 1 2 3 4, functions f g are 0 1
    ∷ record {
      trace = begin (record { registers = 5; functions = 2; binary = 0 }) ▸ Apply 2 0 0 0 ▸ Apply 3 0 1 1 ▸ Equal 0 1 ▸ Apply 4 1 2 2 ▸ Copy 4 0 ▸ Equal 2 3;
      incoherent = 0;
      infeasible = 0;
      whole = 0;
    }
    ∷ []

-- What the table says of an example: a run over it names these letters, and the whole-trace engine, which knows no coherence, names its own.
pub record ExampleHolds (e : Example) : Type 0 where
  pub well_formed : WellFormed e.trace
  pub run : Judgement e.trace e.incoherent e.infeasible
  pub engine : FirstFailure (λ ρ. Feasible (state ρ)) e.trace e.whole

abbrev letters : Example → Bool
letters e = eqb (infeasible_letter e.trace) e.infeasible && eqb (first_infeasible e.trace) e.whole

abbrev right : Example → Bool
right e = formed e.trace && (eqb (incoherent_letter e.trace) e.incoherent && letters e)

right_e : (e : Example) → T (right e) → ExampleHolds e
right_e e t =
    let i = eqb (incoherent_letter e.trace) e.incoherent in
    let j = eqb (infeasible_letter e.trace) e.infeasible in
    let k = eqb (first_infeasible e.trace) e.whole in
    let w = formed_e e.trace (and_l (formed e.trace) (i && (j && k)) t) in
    let u = and_r (formed e.trace) (i && (j && k)) t in
    let v = and_r i (j && k) u in
    record {
      well_formed = w;
      run =
          subst (λ n. Judgement e.trace n e.infeasible) (eqb→eq (incoherent_letter e.trace) e.incoherent (and_l i (j && k) u))
          (subst (Judgement e.trace (incoherent_letter e.trace)) (eqb→eq (infeasible_letter e.trace) e.infeasible (and_l j k v))
          (judgement_is e.trace w));
      engine =
          subst (FirstFailure (λ ρ. Feasible (state ρ)) e.trace) (eqb→eq (first_infeasible e.trace) e.whole (and_r j k v))
          (first_infeasible_is e.trace w);
    }

-- Every example is as the table says.
pub examples : (e : Example) → e ∈ table → ExampleHolds e
unfolding table incoherent_letter infeasible_letter first_infeasible coherent_part fits_test apply_test
examples e m = right_e e (all_e right {l = table} tt m)

-- The first line holds of every header.
pub header_alone : (h : Header) → Judgement (begin h) 0 0
unfolding incoherent_letter infeasible_letter coherent_part
header_alone h = judgement_is (begin h) tt

-- The tables that document 01 prints (SPEC 7.5). Registers raster corner sum duty are 0 to 3, functions cap add 0 and 1.
unfoldable pub printed : Trace
printed = begin (record { registers = 4; functions = 2; binary = 2 }) ▸ Apply 2 1 0 1 ▸ Apply 3 0 0 0 ▸ Apply 3 1 3 1 ▸ Apply 2 0 2 2 ▸ Unequal 3 2

pub printed_tables : tables_of (state printed) ≡ record {
  count = 9;
  starts = 1 ∷ 2 ∷ 3 ∷ 4 ∷ [];
  rows = record { function = 1; first = 1; second = 2; result = 5 }
      ∷ record { function = 0; first = 1; second = 1; result = 6 }
      ∷ record { function = 1; first = 6; second = 2; result = 7 }
      ∷ record { function = 0; first = 5; second = 5; result = 8 }
      ∷ [];
}
unfolding printed tables_of shown_tables starts_from rows_of applications classes_of class_value firsts_after first_place
printed_tables = refl

-- and their bytes
pub printed_bytes : pack_tables first_edition (state printed).header (tables_of (state printed)) ≡
    0 ∷ 9 ∷ 0 ∷ 4 ∷ 0 ∷ 1 ∷ 0 ∷ 2 ∷ 0 ∷ 3 ∷ 0 ∷ 4
    ∷ 64 ∷ 8 ∷ 2 ∷ 0 ∷ 160 ∷ 0 ∷ 8 ∷ 0 ∷ 0 ∷ 192 ∷ 64 ∷ 48 ∷ 2 ∷ 0 ∷ 224 ∷ 0 ∷ 40 ∷ 0 ∷ 1 ∷ 0 ∷ []
unfolding printed tables_of shown_tables starts_from rows_of applications classes_of class_value firsts_after first_place pack_tables units packed_row second_written
printed_bytes = refl
