use Rattle.tables.proofs.link_clauses.Given as goal
use Rattle.tables.proofs.Linking.{Linking}

abbrev pub invariant-loop-k : goal.invariant-loop-k
invariant-loop-k l = Linking l.first l.table l.n l.initial.w l.k l.w
