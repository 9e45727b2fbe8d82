use Rattle.std.proofs.Common.{rules}
use Rattle.reading.proofs.ClauseLaws.{query_over, query_body}
use Rattle.reading.proofs.names.Names.asked.Goals as goal

pub returns-then-not-in_range : goal.returns-then-not-in_range
returns-then-not-in_range c = search (rules, query_over)

pub returns : goal.returns
returns c = search (rules, query_body)
