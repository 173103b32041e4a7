use Rattle.std.proofs.Common.{rules, ◌≡◌, ap, refl, ◌∙◌, Result, Ok, Err}
use Rattle.std.specs.Result.{result_unwrap_or}
use Rattle.letters.specs.declared.reasons.Reason.{Reason}
use Rattle.streaming.specs.declared.Monitor.{Monitor}
use Rattle.streaming.specs.Monitor.{started, idle_of}
use Rattle.text.specs.Appending.{Appended}
use Rattle.display_lines.specs.Display.{trace_lines}
use Rattle.display_lines.proofs.Theory.PrintsLaws.{trace_printed}
use Rattle.display_lines.proofs.write_trace_lines.Goals as goal

-- the monitor that a start leaves
monitor_of : (r : Result Monitor Reason) → result_unwrap_or r idle_of ≡ (started r).monitor
monitor_of (Ok m) = refl
monitor_of (Err e) = refl

pub returns-clause-appended : goal.returns-clause-appended
returns-clause-appended c =
    let m = c.unwrap_or-monitor.ensures ∙ ap (result_unwrap_or c.start.result) c.idle.ensures.value ∙ monitor_of c.start.result in
    let fresh = rw (c.new-writer.ensures.bytes, c.new-writer.ensures.place) at c.put_fresh_line.ensures.appended in
    let lines : Appended c.args.out.now 0 (trace_lines c.args.bytes.now) c.put_judged_lines.new.writer.out.now c.put_judged_lines.new.writer.at =
    trace_printed c.args.bytes.now _ c.word.ensures _ c.start.ensures.computed (rw m at fresh) (rw m at c.put_judged_lines.ensures.appended) in
    search rules
