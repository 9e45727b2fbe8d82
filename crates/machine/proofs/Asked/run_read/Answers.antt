use Rattle.machine.proofs.Asked.run_read.Goals as goal
use Rattle.machine.proofs.CallLaws.{part_run}

-- src/lib.rt:127:1
pub returns : goal.returns
returns c = search part_run
