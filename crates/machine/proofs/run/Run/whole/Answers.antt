use Rattle.machine.proofs.run.Run.whole.Goals as goal
use Rattle.machine.proofs.Laws.{running_again, running_end, running_start}

pub loop-turn-init : goal.loop-turn-init
loop-turn-init c = running_start _ _ _ _ _ _ _ _ _ c.start.ensures

pub loop-turn-preserved : goal.loop-turn-preserved
loop-turn-preserved c = search running_again

pub returns-in-Over : goal.returns-in-Over
returns-in-Over c = search running_end
