use Rattle.std.proofs.Common.{◌<◌, ◌≤◌, arith}
use Rattle.search.proofs.back.Goals as goal
use Rattle.search.proofs.Laws.{back_again, back_less, back_none, back_retry}

pub returns-in-Some : goal.returns-in-Some
returns-in-Some c = let some : 0 < c.loop-c.c = omega arith in search back_retry

pub loop-c-smaller : goal.loop-c-smaller
loop-c-smaller c = let some : 0 < c.loop-c.c = omega arith in search back_less

pub loop-c-preserved : goal.loop-c-preserved
loop-c-preserved c = let some : 0 < c.loop-c.c = omega arith in search back_again

pub returns : goal.returns
returns c = let none : c.loop-c.c ≤ 0 = omega arith in search back_none
