use mathlib.Core.Path.{ap, ◌∙◌}
use Rattle.streaming.specs.Stream.{finished_of, pushed_all, judged_bytes}
use Rattle.streaming.proofs.Laws.{run_meets}
use borrow.Author.Rules.{rules}
use Rattle.streaming.proofs.byte_stream.judge_trace.Goals as goal

pub returns : goal.returns
unfolding judged_bytes
returns c =
    let e = c.finish.ensures.computed ∙ ap finished_of (c.push_all.ensures.computed ∙ ap (λ s. pushed_all s c.args.bytes.now)
    c.start-stream.ensures.computed) in
    (e, run_meets c.args.bytes.now _ (search rules) e)
