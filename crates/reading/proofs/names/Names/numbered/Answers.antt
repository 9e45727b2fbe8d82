use Rattle.std.proofs.Common.{rules}
use Rattle.reading.proofs.StepLaws.{passed_on}
use Rattle.reading.proofs.ClauseLaws.{clause_over, clause_unknown, clause_refused, clause_body}
use Rattle.reading.proofs.names.Names.numbered.Goals as goal

pub returns-then-not-in_range : goal.returns-then-not-in_range
returns-then-not-in_range c = search (rules, clause_over)

pub returns-in_err-arity : goal.returns-in_err-arity
returns-in_err-arity c = search (rules, passed_on, clause_unknown)

pub returns-in_err-head : goal.returns-in_err-head
returns-in_err-head c = search (rules, passed_on, clause_refused)

pub returns : goal.returns
returns c = search (rules, clause_body)
