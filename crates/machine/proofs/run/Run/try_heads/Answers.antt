use Rattle.std.proofs.Common.{rules}
use Rattle.machine.proofs.run.Run.try_heads.Goals as goal
use Rattle.machine.proofs.HeadLaws.{heads_again, heads_less, heads_start}

pub loop-m-smaller : goal.loop-m-smaller
loop-m-smaller c = search heads_less

pub loop-m-preserved : goal.loop-m-preserved
loop-m-preserved c = search heads_again

pub loop-m-init : goal.loop-m-init
loop-m-init c = search (heads_start, rules)
