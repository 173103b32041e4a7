-- The bytes of an answer, computed: "the execution as a packed trace, on fail its model after it" (SPEC 10.7; document 01).
use Rattle.std.specs.Prelude.{List, ◌++◌, ℕ}
use Rattle.letters.specs.declared.Letter.{Letter}
use Rattle.letters.specs.Editions.{Edition}
use Rattle.traces.specs.Traces.{packing}
use Rattle.semantics.specs.Terms.{Trace, extend, state}
use Rattle.semantics.specs.ShownTables.{tables_of}
use Rattle.semantics.specs.PackedTables.{pack_tables}
use Rattle.verdict_theory.specs.Verdict.{Kind, breaking, failing}

-- The letters ls after a start, packed in an edition.
unfoldable pub packed : Edition → Trace → Kind → List Letter → List ℕ
packed e start breaking ls = packing e (state start).header ls
packed e start failing ls = packing e (state start).header ls ++ pack_tables e (state start).header (tables_of (state (extend start ls)))
