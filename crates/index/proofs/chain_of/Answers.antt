use Rattle.std.proofs.Common.{arith, ap, ◌%◌, ◌≡◌, ◌+◌, ◌*◌, get_or}
use Rattle.index.specs.Index.{chain_of, pair_chains}
use Rattle.index.proofs.chain_of.Goals as goal

pub returns-clause-value : goal.returns-clause-value
unfolding chain_of
returns-clause-value c =
    let p = c.args.pair.now in
    let e : c.from.result ≡ get_or p 1 0 + 256 * get_or p 0 0 = omega arith in
    ap (λ n. n % pair_chains) e
