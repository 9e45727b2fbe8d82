use Rattle.std.proofs.Common.{rules, arith}
use Rattle.std.proofs.lemmas.Result.{err_from_is_err_and}
use Rattle.reading.proofs.RowLaws.{row_end, row_more, row_stopped, stands_inside}
use Rattle.reading.proofs.row.read_row.Goals as goal

pub returns-in_err-at : goal.returns-in_err-at
returns-in_err-at g c =
    let p = err_from_is_err_and c.from_residual.result c.from_residual.ensures.1 in
    rw (p.1, p.2) (row_stopped _ _ _ _ _ _ c.loop-kind.invariant.so_far (search rules) c.in_err-at.ensures)

pub loop-kind-smaller : goal.loop-kind-smaller
loop-kind-smaller g c =
    omega (arith, stands_inside c.args.file.now c.loop-kind.at c.args.kind (search rules), c.requires.onward _ _ c.in_ok-at.ensures)

pub loop-kind-preserved : goal.loop-kind-preserved
loop-kind-preserved g c =
    record {
      fits = omega (arith, c.requires.onward _ _ c.in_ok-at.ensures);
      so_far = row_more _ _ _ _ _ _ c.loop-kind.invariant.so_far (search rules) c.in_ok-at.ensures;
    }

pub returns : goal.returns
returns g c = row_end _ _ _ _ _ _ c.loop-kind.invariant.so_far (search rules)
