use Rattle.std.proofs.Common.{rules, arith, sym, ap, ◌∙◌, get_or}
use Rattle.index.proofs.Theory.IndexLaws.{looking_start, looking_turn, looking_hit, looking_end}
use Rattle.index.proofs.Index.is_listed.Goals as goal

pub loop-k-init : goal.loop-k-init
loop-k-init c =
    looking_start _ _ _ _ _ _ c.requires.indexed (search rules) (c.from-k.ensures ∙ ap (λ b. get_or c.args.self.now.head b 0) c.chain_of.ensures.value)

pub returns-then-is_at : goal.returns-then-is_at
returns-then-is_at c = looking_hit _ _ _ _ _ c.loop-k.invariant (sym c.is_at.ensures ∙ c.if-is_at.true)

pub loop-k-smaller : goal.loop-k-smaller
loop-k-smaller c =
    let h = c.requires.indexed.links c.loop-k.k (omega arith) in
    let e = c.from-k-in-loop-k.ensures in
    omega arith

pub loop-k-preserved : goal.loop-k-preserved
loop-k-preserved c =
    looking_turn _ _ _ _ _ _ _ c.requires.indexed c.loop-k.invariant (omega arith) (sym c.is_at.ensures ∙ c.if-is_at.false) c.from-k-in-loop-k.ensures

pub returns : goal.returns
returns c = c.is_at-2.ensures ∙ looking_end _ _ _ _ _ c.loop-k.invariant (omega arith)
