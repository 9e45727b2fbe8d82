use Rattle.machine.proofs.given.Goals as goal
use Rattle.machine.proofs.CallLaws.{given_is}

-- src/lib.rt:52:1
pub returns : goal.returns
returns c = search given_is
