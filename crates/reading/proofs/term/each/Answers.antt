use Rattle.std.proofs.Common.{arith}
use Rattle.std.proofs.lemmas.Result.{err_from_is_err_and}
use Rattle.reading.proofs.EachLaws.{each_end, each_more, each_stopped}
use Rattle.reading.proofs.term.each.Goals as goal

pub returns-in_err-here : goal.returns-in_err-here
returns-in_err-here g c =
    let p = err_from_is_err_and c.from_residual.result c.from_residual.ensures.1 in
    rw (p.1, p.2) (each_stopped _ c.args.n c.loop.counter _ _ c.loop.invariant (omega arith) c.in_err-here.ensures)

pub loop-preserved : goal.loop-preserved
loop-preserved g c = each_more _ c.args.n c.loop.counter _ _ c.loop.invariant (omega arith) c.in_ok-here.ensures

pub returns : goal.returns
returns g c = each_end _ c.args.n c.loop.counter _ _ c.loop.invariant (omega arith)
