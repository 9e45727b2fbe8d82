use Rattle.machine.proofs.run.behind.Goals as goal
use Rattle.machine.proofs.Laws.{behind_is}

-- src/run.rt:26:1
pub returns : goal.returns
returns c = search behind_is
