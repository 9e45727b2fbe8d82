use Rattle.machine.proofs.run.Run.whole.Given as goal
use Rattle.machine.proofs.Laws.{Running, left}

abbrev pub invariant-loop-turn : goal.invariant-loop-turn
invariant-loop-turn l = Running l.self.file.now l.self.given l.self.budget l.self.wanted l.initial.turn.due l.initial.turn.written l.initial.w l.initial.out l.turn.due l.turn.written l.w l.out

abbrev pub decreases-loop-turn : goal.decreases-loop-turn
decreases-loop-turn l = left l.self.budget l.turn.due
