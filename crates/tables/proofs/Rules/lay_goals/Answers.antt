use Rattle.tables.proofs.Rules.lay_goals.Goals as goal
use Rattle.tables.proofs.Walks.{goals_again, goals_can, goals_end}

pub lay_goal-at-requires : goal.lay_goal-at-requires
lay_goal-at-requires c = search goals_can

pub loop-preserved : goal.loop-preserved
loop-preserved c = search goals_again

pub returns : goal.returns
returns c = search goals_end
