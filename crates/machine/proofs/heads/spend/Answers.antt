use Rattle.machine.proofs.heads.spend.Goals as goal
use Rattle.machine.proofs.Laws.{spend_is}

-- src/heads.rt:12:1
pub returns : goal.returns
returns c = search spend_is
