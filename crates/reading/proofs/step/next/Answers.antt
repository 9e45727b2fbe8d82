use Rattle.std.proofs.Common.{rules}
use Rattle.meaning.specs.If.{when◌then◌else◌}
use Rattle.meaning.specs.Reading.{next, byte}
use Rattle.reading.specs.Steps.{step, any, either}
use Rattle.reading.proofs.step.next.Goals as goal

pub returns-in_err-kind : goal.returns-in_err-kind
unfolding step next when◌then◌else◌ either byte
returns-in_err-kind c = search rules

pub whole-requires-clause-kind_value : goal.whole-requires-clause-kind_value
unfolding byte
whole-requires-clause-kind_value c = search rules

pub returns-then-stands : goal.returns-then-stands
unfolding step next when◌then◌else◌ any either byte
returns-then-stands c = search rules

pub whole-requires-then-stands-2-clause-kind_value : goal.whole-requires-then-stands-2-clause-kind_value
unfolding byte
whole-requires-then-stands-2-clause-kind_value c = search rules

pub returns-then-stands-2 : goal.returns-then-stands-2
unfolding step next when◌then◌else◌ any either byte
returns-then-stands-2 c = search rules

pub returns : goal.returns
unfolding step next when◌then◌else◌ either byte
returns c = search rules
