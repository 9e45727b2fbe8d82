use Rattle.std.proofs.Common.{rules}
use Rattle.reading.proofs.StepLaws.{passed_on}
use Rattle.reading.proofs.ClauseLaws.{last_refused, query_refused, query_ending, query_inside}
use Rattle.reading.proofs.names.Names.query.Goals as goal

pub returns-in_err-after : goal.returns-in_err-after
returns-in_err-after c = search (rules, passed_on, last_refused)

pub returns-in_err-asked : goal.returns-in_err-asked
returns-in_err-asked c = search (rules, passed_on, query_refused)

pub returns : goal.returns
returns c = search (rules, query_ending)

pub asked-requires : goal.asked-requires
asked-requires c = search (rules, query_inside)
