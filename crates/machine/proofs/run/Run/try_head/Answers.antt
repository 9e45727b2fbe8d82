use Rattle.machine.proofs.run.Run.try_head.Goals as goal
use Rattle.machine.proofs.HeadLaws.{try_fits}

pub returns-in-Ok : goal.returns-in-Ok
returns-in-Ok c = search try_fits
