use Rattle.std.proofs.Common.{rules}
use Rattle.reading.specs.Arities.{functions_of, predicates_of}
use Rattle.reading.proofs.RowLaws.{clause_onward, clauses_row}
use Rattle.reading.proofs.names.Names.clauses.Goals as goal

pub read_row-requires-clause-onward : goal.read_row-requires-clause-onward
read_row-requires-clause-onward c =
    λ before t p.
    let n = c.args.self.now in
    clause_onward n.file.now (functions_of n.file.now n.functions) (predicates_of n.file.now n.functions n.predicates) before.records before.at {t = t} (search rules)

pub returns : goal.returns
returns c = clauses_row _ _ _ _ (λ before x p. search rules) c.requires c.read_row.ensures
