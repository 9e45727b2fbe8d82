use Rattle.embedded.proofs.told.tell.Goals as goal
use Rattle.embedded.proofs.CallLaws.{refused_told, ended_told}

pub returns-in-Err : goal.returns-in-Err
returns-in-Err c = refused_told _ _ _ _ _ c.in-Err.is c.from.ensures c.put_all.ensures

pub returns-in-Ok : goal.returns-in-Ok
returns-in-Ok c = ended_told _ _ _ _ _ c.in-Ok.is c.from-in-Ok.ensures c.put_all-in-Ok.ensures
