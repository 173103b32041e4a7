use Rattle.std.proofs.Common.{rules, arith, sym, Fits, w64}
use Rattle.text.proofs.Theory.Appending.{appended_same}
use Rattle.display_lines.proofs.Theory.PrintsLaws.{small_kept, header_there, lines_judged, lines_refused, refusal_few, all_printed}
use Rattle.display_lines.proofs.write_lines.Goals as goal

pub returns-then-lines-lt-MOST_BYTES : goal.returns-then-lines-lt-MOST_BYTES
returns-then-lines-lt-MOST_BYTES c =
    let a = c.args in (c.if-trace-gt-MOST_TRACE_BYTES.false, small_kept a.trace.now a.lines.now c.if-lines-lt-MOST_BYTES.true)

pub write_trace_lines-end-requires : goal.write_trace_lines-end-requires
write_trace_lines-end-requires c =
    let read = c.read_trace in
    (header_there c.args.trace.now read.result read.ensures _ _ c.in-Ok.is, c.if-trace-gt-MOST_TRACE_BYTES.false)

pub returns-in-Ok : goal.returns-in-Ok
returns-in-Ok c =
    let a = c.args in
    let read = c.read_trace in
    let put = c.write_trace_lines-end in
    let same = lines_judged a.trace.now read.result read.ensures _ _ c.in-Ok.is in (
      c.if-trace-gt-MOST_TRACE_BYTES.false,
      all_printed a.trace.now a.lines.now c.if-lines-lt-MOST_BYTES.false put.new.out put.result put.ensures.few (appended_same (sym same) put.ensures.appended),
    )

pub returns-in-Err : goal.returns-in-Err
returns-in-Err c =
    let a = c.args in
    let read = c.read_trace in
    let line = c.write_refused-end in
    let g : Fits w64 c.in-Err.refused.place = search rules in
    let few = refusal_few _ _ line.result (omega (arith, c.from.type_inv)) g.fits line.ensures in
    let same = lines_refused a.trace.now read.result read.ensures _ c.in-Err.is in (
      c.if-trace-gt-MOST_TRACE_BYTES.false,
      all_printed a.trace.now a.lines.now c.if-lines-lt-MOST_BYTES.false line.new.out line.result few
          (appended_same (sym same) (rw c.from.ensures at line.ensures)),
    )
