use Rattle.std.proofs.Common.{rules}
use Rattle.reading.proofs.EachLaws.{each_goals}
use Rattle.reading.proofs.names.Scope.goals.Goals as goal

pub returns : goal.returns
returns c = each_goals _ _ (λ h x p. search rules) c.each.ensures
