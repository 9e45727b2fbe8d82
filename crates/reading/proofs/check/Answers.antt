use Rattle.std.proofs.Common.{rules}
use Rattle.reading.specs.Told.{is_told}
use Rattle.reading.proofs.StepLaws.{passed_on}
use Rattle.reading.proofs.FileLaws.{functions_start, predicates_from, query_good, query_refused}
use Rattle.reading.proofs.check.Goals as goal

pub arities-requires : goal.arities-requires
arities-requires c = functions_start c.args.file.now

pub arities-requires-2 : goal.arities-requires-2
arities-requires-2 c = search (rules, predicates_from)

pub returns-in_err-query-clause-verdict : goal.returns-in_err-query-clause-verdict
returns-in_err-query-clause-verdict c = search (rules, passed_on, query_refused)

pub returns-in_err-query-clause-told : goal.returns-in_err-query-clause-told
returns-in_err-query-clause-told c = is_told _ _ (returns-in_err-query-clause-verdict c)

pub returns-clause-verdict : goal.returns-clause-verdict
returns-clause-verdict c = search (rules, query_good)

pub returns-clause-told : goal.returns-clause-told
returns-clause-told c = is_told _ _ (returns-clause-verdict c)

pub returns-in_err-functions-clause-told : goal.returns-in_err-functions-clause-told
returns-in_err-functions-clause-told c = is_told c.args.file.now c.from_residual.result (search rules)

pub returns-in_err-predicates-clause-told : goal.returns-in_err-predicates-clause-told
returns-in_err-predicates-clause-told c = is_told c.args.file.now c.from_residual-in_err-predicates.result (search rules)

pub returns-in_err-clauses-clause-told : goal.returns-in_err-clauses-clause-told
returns-in_err-clauses-clause-told c = is_told c.args.file.now c.from_residual-in_err-clauses.result (search rules)
