use Rattle.std.proofs.Common.{◌∙◌, ℕ, List, ◌-◌, ◌%◌, get_or, arith, refl, ap}
use native.Mathlib.Nat.{mod-lt}
use Rattle.closure.specs.Index.{without_last}
use Rattle.closure.specs.Limits.{signature_chains}
use Rattle.closure.proofs.Theory.Entering.{readable_at}
use Rattle.closure.proofs.Theory.Index.{undoing_start, undoing_turn, undoing_end}
use Rattle.closure.proofs.Index.undo.Goals as goal

pub loop-k-init : goal.loop-k-init
loop-k-init c = (refl, undoing_start _ _ _ _ c.requires.1 c.requires.4)

pub signature_at-chain-requires : goal.signature_at-chain-requires
signature_at-chain-requires c = readable_at _ c.requires.0 (let h = c.loop-k.auto.k in let t = c.loop-k-test.true in omega arith)

pub loop-k-preserved : goal.loop-k-preserved
loop-k-preserved c = (
  c.loop-k.invariant.0,
  undoing_turn _ _ _ _ _ _ c.requires.2 c.requires.0.some c.requires.3 _ _ _ _ _ c.loop-k.invariant.1 c.loop-k-test.true refl
      (ap (λ s. s % signature_chains) c.signature_at-chain.ensures) (mod-lt _ (omega arith))
      (c.without_last.ensures ∙ ap (λ (l : List ℕ). without_last (get_or c.loop-k.self.head (c.signature_at-chain.result % 1021) 0)
      (get_or l (c.loop-k.k - 1) 0)
      (c.loop-k.k - 1)) c.loop-k.invariant.0),
)

pub returns-clause-chains : goal.returns-clause-chains
returns-clause-chains c = undoing_end _ _ _ _ _ c.loop-k.invariant.1 c.loop-k-test.false
