use Rattle.tables.proofs.Rules.lay_goal.Goals as goal
use Rattle.tables.proofs.Walks.{goal_arguments, goal_call, goal_cut}

pub returns-then-self-p : goal.returns-then-self-p
returns-then-self-p c = search goal_cut

pub lay_arguments-requires : goal.lay_arguments-requires
lay_arguments-requires c = search goal_arguments

pub returns : goal.returns
returns c = search goal_call
