use Rattle.tables.proofs.lay.Goals as goal
use Rattle.tables.proofs.Lays.{lay_can_clauses, lay_can_goals, lay_can_link, lay_clear, lay_end, lay_query}

pub clear_predicates-requires : goal.clear_predicates-requires
clear_predicates-requires c = search lay_clear

pub lay_clauses-query-requires : goal.lay_clauses-query-requires
lay_clauses-query-requires c = search lay_can_clauses

pub bounds-file-query : goal.bounds-file-query
bounds-file-query c = lay_query _ _ _ _ _ c.requires _ _ _ c.lay_clauses-query.ensures

pub lay_goals-requires : goal.lay_goals-requires
lay_goals-requires c =
    lay_can_goals _ _ _ _ _ c.requires _ _ _ c.lay_clauses-query.ensures c.clear_predicates.auto.w c.lay_clauses-query.auto.w

pub link_clauses-requires : goal.link_clauses-requires
link_clauses-requires c =
    lay_can_link _ _ _ _ _ c.requires _ _ _ c.lay_clauses-query.ensures _ _ c.lay_goals.ensures c.clear_predicates.ensures

pub returns : goal.returns
returns c = search lay_end
