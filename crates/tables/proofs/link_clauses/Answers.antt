use Rattle.tables.proofs.link_clauses.Goals as goal
use Rattle.tables.proofs.Linking.{link_again, link_end}

pub loop-k-preserved : goal.loop-k-preserved
loop-k-preserved c = search link_again

pub returns : goal.returns
returns c = search link_end
