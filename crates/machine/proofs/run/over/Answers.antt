use Rattle.machine.proofs.run.over.Goals as goal
use Rattle.machine.proofs.Laws.{over_is}

-- src/run.rt:154:1
pub returns : goal.returns
returns c = search over_is
