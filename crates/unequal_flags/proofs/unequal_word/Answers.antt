use Rattle.std.proofs.Common.{arith, sym, subst}
use Rattle.window.specs.Layout.{registers}
use Rattle.unequal_flags.specs.Flags.{WordOfState}
use Rattle.unequal_flags.proofs.Theory.Words.{word_made}
use Rattle.unequal_flags.proofs.Theory.Exact.{word_exact}
use Rattle.unequal_flags.proofs.unequal_word.Goals as goal

pub returns-clause-value : goal.returns-clause-value
returns-clause-value c = word_made registers c.args.w _ _ (omega arith) c.named_rows.ensures c.joined_rows.ensures.value

pub returns-clause-means : goal.returns-clause-means
returns-clause-means c = λ σ v h. subst (WordOfState σ) (sym (word_made registers c.args.w _ _ (omega arith) c.named_rows.ensures c.joined_rows.ensures.value))
    (word_exact σ v c.args.w h)
