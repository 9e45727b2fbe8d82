use Rattle.std.proofs.Common.{rules}
use Rattle.meaning.specs.If.{when◌then◌else◌}
use Rattle.meaning.specs.Reading.{next}
use Rattle.reading.specs.Steps.{step, any}
use Rattle.reading.proofs.step.whole.Goals as goal

pub returns-then-file-at : goal.returns-then-file-at
unfolding step next when◌then◌else◌ any
returns-then-file-at c = search rules

pub returns : goal.returns
unfolding step next when◌then◌else◌ any
returns c = search rules
