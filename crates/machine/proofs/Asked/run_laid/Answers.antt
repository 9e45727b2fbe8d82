use Rattle.machine.proofs.Asked.run_laid.Goals as goal
use Rattle.machine.proofs.CallLaws.{can_lay, few_cells, few_predicates, few_steps, run_is_good}

-- src/lib.rt:102:9
pub lay-query-requires : goal.lay-query-requires
lay-query-requires c = search can_lay

-- src/lib.rt:103:9
pub given-g-requires-clause-predicates_bound : goal.given-g-requires-clause-predicates_bound
given-g-requires-clause-predicates_bound c = search few_predicates

-- src/lib.rt:103:9
pub given-g-requires-clause-cells_bound : goal.given-g-requires-clause-cells_bound
given-g-requires-clause-cells_bound c = search few_cells

-- src/lib.rt:103:9
pub given-g-requires-clause-steps_bound : goal.given-g-requires-clause-steps_bound
given-g-requires-clause-steps_bound c = search few_steps

-- src/lib.rt:90:1
pub returns : goal.returns
returns c = search run_is_good
