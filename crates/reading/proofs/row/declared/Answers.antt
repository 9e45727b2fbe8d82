use Rattle.std.proofs.Common.{rules, ◌+◌, ◌<◌, length}
use Rattle.reading.proofs.StepLaws.{passed_on}
use Rattle.reading.proofs.RowLaws.{declared_refused, declared_bad, declared_good, declared_inside}
use Rattle.reading.proofs.row.declared.Goals as goal

pub returns-in_err-after : goal.returns-in_err-after
returns-in_err-after c = search (rules, passed_on, declared_refused)

pub returns-then-limit-before : goal.returns-then-limit-before
returns-then-limit-before c = search (rules, declared_bad)

pub returns : goal.returns
returns c = search (rules, declared_good)

pub overflow_add-at : goal.overflow_add-at
overflow_add-at c = let i : c.args.before.at + 1 < length c.args.file.now = search (rules, declared_inside) in search rules

pub byte-requires : goal.byte-requires
byte-requires c = search (rules, declared_inside)
