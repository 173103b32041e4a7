use Rattle.std.proofs.Common.{◌^◌, ◌<◌, ◌∙◌, arith}
use Rattle.window.specs.Layout.{registers}
use Rattle.window.proofs.Theory.Table.{table_length, table_at, table_is}
use Rattle.window.specs.Adding.{part_of}
use Rattle.window.specs.Performing.{parted_of}
use Rattle.window.proofs.Theory.Rows.{bytes_are, row_parted, part_below}
use Rattle.window.proofs.parted.Goals as goal

pub returns : goal.returns
unfolding parted_of
returns c =
    let a = c.args in
    let one : a.one < 2 ^ registers = omega arith in
    let two : a.two < 2 ^ registers = omega arith in
    c.to_le_bytes.ensures ∙ bytes_are _ ∙ table_is _ registers _ 0 (table_length _ registers) (λ k h. table_at _ registers k 0 h
    ∙ rw (c.joined_rows.ensures.value, c.grid.ensures, c.grid-2.ensures)
    (row_parted registers a.unequal.now (part_of a.one a.two) (part_of a.two a.one) k c.joined_rows.ensures.small
    (part_below registers a.one a.two two) (part_below registers a.two a.one one) h))
