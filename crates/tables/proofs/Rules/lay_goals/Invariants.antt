use Rattle.tables.proofs.Rules.lay_goals.Given as goal
use Rattle.tables.proofs.Walks.{GoingGoals}

abbrev pub invariant-loop : goal.invariant-loop
invariant-loop l = GoingGoals l.self.file.now l.initial.w l.self.predicates l.p l.n l.counter l.at l.w
