use Rattle.std.proofs.Common.{arith, length-take, length-drop}
use Rattle.tables.proofs.clear_predicates.Goals as goal
use Rattle.tables.proofs.Linking.{filled}

pub returns : goal.returns
returns c = filled _ _ _ _ _ _ c.requires (omega arith) (simp (length-take, length-drop) (omega arith)) (c.fill.ensures.after (λ y e. e))
