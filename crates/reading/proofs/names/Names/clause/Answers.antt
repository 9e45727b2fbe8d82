use Rattle.std.proofs.Common.{rules}
use Rattle.reading.proofs.StepLaws.{passed_on}
use Rattle.reading.proofs.ClauseLaws.{clause_lost, clause_many, clause_here, clause_inside}
use Rattle.reading.proofs.names.Names.clause.Goals as goal

pub returns-in_err-after : goal.returns-in_err-after
returns-in_err-after c = search (rules, passed_on, clause_lost)

pub returns-then-too_many : goal.returns-then-too_many
returns-then-too_many c = search (rules, clause_many)

pub returns : goal.returns
returns c = search (rules, clause_here)

pub numbered-requires : goal.numbered-requires
numbered-requires c = search (rules, clause_inside)
