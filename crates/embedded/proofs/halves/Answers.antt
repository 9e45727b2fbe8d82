use Rattle.std.proofs.Common.{arith}
use Rattle.embedded.proofs.halves.Goals as goal
use Rattle.embedded.proofs.Laws.{halves_are}

pub returns : goal.returns
returns c = halves_are c.args.high c.args.low _ (omega arith)
