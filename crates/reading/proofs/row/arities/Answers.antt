use Rattle.std.proofs.Common.{rules}
use Rattle.records.specs.Numbers.{number}
use Rattle.reading.proofs.RowLaws.{counted_row, declared_onward, counted_body}
use Rattle.reading.proofs.row.arities.Goals as goal

pub read_row-requires-clause-onward : goal.read_row-requires-clause-onward
read_row-requires-clause-onward c =
    λ before t p. declared_onward c.args.file.now (number c.args.kind) c.args.limit before.records before.at {t = t} (search rules)

pub returns : goal.returns
returns c = counted_row _ _ _ _ _ (λ before x p. search rules) c.requires c.read_row.ensures

pub read_row-requires-clause-callable : goal.read_row-requires-clause-callable
read_row-requires-clause-callable c = let b = counted_body c.requires in search rules
