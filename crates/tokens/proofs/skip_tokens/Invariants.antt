use Rattle.std.proofs.Common.{◌≡◌}
use Rattle.tokens.specs.Tokens.{place_behind}
use Rattle.tokens.proofs.skip_tokens.Given as goal

abbrev pub invariant-loop : goal.invariant-loop
invariant-loop l = l.at ≡ place_behind l.text l.from l.counter
