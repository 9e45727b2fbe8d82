use Rattle.std.proofs.Common.{rules}
use Rattle.reading.proofs.StepLaws.{passed_on}
use Rattle.reading.proofs.ClauseLaws.{goal_refused, goal_cut, goal_unknown, goal_called, called_inside}
use Rattle.reading.proofs.names.Scope.goal.Goals as goal

pub returns-in_err-after : goal.returns-in_err-after
returns-in_err-after c = search (rules, passed_on, goal_refused)

pub returns-then-stands : goal.returns-then-stands
returns-then-stands c = search (rules, goal_cut)

pub returns-in_err-arity : goal.returns-in_err-arity
returns-in_err-arity c = search (rules, passed_on, goal_unknown)

pub returns : goal.returns
returns c = search (rules, goal_called)

pub predicate_arity-requires : goal.predicate_arity-requires
predicate_arity-requires c = search (rules, called_inside)
