use Rattle.tables.proofs.Rules.lay_clauses.Goals as goal
use Rattle.tables.proofs.Walks.{clauses_again, clauses_can, clauses_end, clauses_number}

pub two_bytes-requires : goal.two_bytes-requires
two_bytes-requires c = search clauses_number

pub lay_clause-at-requires : goal.lay_clause-at-requires
lay_clause-at-requires c = search clauses_can

pub loop-k-preserved : goal.loop-k-preserved
loop-k-preserved c = search clauses_again

pub returns : goal.returns
returns c = search clauses_end
