use Rattle.std.proofs.lemmas.Result.{err_from_is_err_and}
use Rattle.machine.proofs.Asked.read_on.Goals as goal
use Rattle.machine.proofs.CallLaws.{read_refuses}

pub returns-in_err-c : goal.returns-in_err-c
returns-in_err-c c = let p = err_from_is_err_and c.from_residual.result c.from_residual.ensures.1 in rw (p.1, p.2) (read_refuses _ _ _ _ _ _ c.requires _ c.check.ensures.verdict _ c.in_err-c.was)
