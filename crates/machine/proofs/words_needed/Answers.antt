use Rattle.machine.proofs.words_needed.Goals as goal
use Rattle.machine.proofs.CallLaws.{needed_is}

-- src/lib.rt:44:1
pub returns : goal.returns
returns c = search needed_is
