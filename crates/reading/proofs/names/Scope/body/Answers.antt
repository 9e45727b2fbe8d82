use Rattle.std.proofs.Common.{rules}
use Rattle.reading.proofs.StepLaws.{passed_on}
use Rattle.reading.proofs.ClauseLaws.{body_refused, body_unused, body_good}
use Rattle.reading.proofs.names.Scope.body.Goals as goal

pub returns-in_err-reached : goal.returns-in_err-reached
returns-in_err-reached c = search (rules, passed_on, body_refused)

pub returns-then-reached-self : goal.returns-then-reached-self
returns-then-reached-self c = search (rules, body_unused)

pub returns : goal.returns
returns c = search (rules, body_good)
