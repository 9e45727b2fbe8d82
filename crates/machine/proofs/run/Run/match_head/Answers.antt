use Rattle.machine.proofs.run.Run.match_head.Goals as goal
use Rattle.machine.proofs.HeadLaws.{head_leads, head_whole}

-- src/heads.rt:48:9
pub returns-then-m-eq0 : goal.returns-then-m-eq0
returns-then-m-eq0 c = search head_whole

-- src/heads.rt:42:1
pub returns : goal.returns
returns c = search head_leads
