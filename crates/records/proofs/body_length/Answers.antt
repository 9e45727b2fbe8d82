use Rattle.meaning.specs.Kinds.{body_lengths}
use Rattle.std.proofs.Common.{refl}
use Rattle.records.proofs.Laws.{within, beyond}
use Rattle.records.proofs.body_length.Goals as goal

pub returns-then-k-lt14-clause-body : goal.returns-then-k-lt14-clause-body
unfolding body_lengths
returns-then-k-lt14-clause-body c = (within _ _ c.from-k.ensures _ refl _ c.from.ensures).0

pub returns-else-k-lt14-clause-body : goal.returns-else-k-lt14-clause-body
unfolding body_lengths
returns-else-k-lt14-clause-body c = (beyond _ _ c.from-k.ensures c.if-k-lt14.false).0
