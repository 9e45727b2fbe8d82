use Rattle.machine.proofs.run.Run.try_heads.Given as goal
use Rattle.machine.proofs.HeadLaws.{Trying}
use Rattle.machine.proofs.Laws.{units_left}

abbrev pub invariant-loop-m : goal.invariant-loop-m
invariant-loop-m l = Trying l.self.file.now l.self.given l.self.budget l.initial.m l.initial.x l.initial.w l.m l.x l.w

abbrev pub decreases-loop-m : goal.decreases-loop-m
decreases-loop-m l = units_left l.self.budget l.m
