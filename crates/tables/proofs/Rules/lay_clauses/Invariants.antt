use Rattle.tables.proofs.Rules.lay_clauses.Given as goal
use Rattle.tables.proofs.Walks.{GoingClauses}

abbrev pub invariant-loop-k : goal.invariant-loop-k
invariant-loop-k l = GoingClauses l.self.file.now l.initial.w l.self.predicates l.p l.table l.n l.k l.at l.w
