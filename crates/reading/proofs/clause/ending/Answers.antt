use Rattle.std.proofs.Common.{rules}
use Rattle.reading.proofs.StepLaws.{passed_on}
use Rattle.reading.proofs.ClauseLaws.{ending_refused, ending_more, ending_good}
use Rattle.reading.proofs.clause.ending.Goals as goal

pub returns-in_err-after : goal.returns-in_err-after
returns-in_err-after c = search (rules, passed_on, ending_refused)

pub returns-then-after-file : goal.returns-then-after-file
returns-then-after-file c = search (rules, ending_more)

pub returns : goal.returns
returns c = search (rules, ending_good)
