use Rattle.tables.proofs.Rules.lay_clause.Goals as goal
use Rattle.tables.proofs.Walks.{clause_body, clause_end}

pub lay_goals-requires : goal.lay_goals-requires
lay_goals-requires c = search clause_body

pub returns : goal.returns
returns c = search clause_end
