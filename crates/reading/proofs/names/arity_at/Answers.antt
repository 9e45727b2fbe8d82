use Rattle.std.proofs.Common.{rules}
use Rattle.meaning.specs.If.{when◌then◌else◌}
use Rattle.reading.specs.Arities.{arity}
use Rattle.reading.proofs.TermLaws.{arities_length, arities_at}
use Rattle.reading.proofs.names.arity_at.Goals as goal

pub returns-then-count-number : goal.returns-then-count-number
unfolding arity when◌then◌else◌
returns-then-count-number c = search (rules, arities_length, arities_at)

pub returns : goal.returns
unfolding arity when◌then◌else◌
returns c = search (rules, arities_length, arities_at)
