use Rattle.std.proofs.Common.{rules, tests}
use Rattle.meaning.specs.If.{when◌then◌else◌}
use Rattle.meaning.specs.Reading.{variable}
use Rattle.reading.specs.Steps.{step}
use Rattle.reading.proofs.names.Scope.variable.Goals as goal

pub returns-then-self-x : goal.returns-then-self-x
unfolding step variable when◌then◌else◌
returns-then-self-x c = search (rules, tests)

pub returns-then-x-from : goal.returns-then-x-from
unfolding step variable when◌then◌else◌
returns-then-x-from c = search (rules, tests)

pub returns : goal.returns
unfolding step variable when◌then◌else◌
returns c = search (rules, tests)
