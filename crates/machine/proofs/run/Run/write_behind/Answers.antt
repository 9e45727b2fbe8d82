use Rattle.machine.proofs.run.Run.write_behind.Goals as goal
use Rattle.machine.proofs.Laws.{writes_behind}

-- src/run.rt:36:1
pub returns : goal.returns
returns c = search writes_behind
