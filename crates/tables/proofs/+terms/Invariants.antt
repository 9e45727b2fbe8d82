use Rattle.std.proofs.Common.{◌+◌, ◌*◌}
use Rattle.tables.proofs.+terms.Given as goal
use Rattle.tables.proofs.Walks.{GoingTerms}

abbrev pub decreases-lay_arguments : goal.decreases-lay_arguments
decreases-lay_arguments l = 3 * l.levels + 2

abbrev pub decreases-lay_term : goal.decreases-lay_term
decreases-lay_term l = 3 * l.levels

abbrev pub decreases-lay_terms : goal.decreases-lay_terms
decreases-lay_terms l = 3 * l.levels + 1

abbrev pub invariant-lay_terms-loop : goal.invariant-lay_terms-loop
invariant-lay_terms-loop l = GoingTerms l.file l.initial.w l.p l.n l.levels l.counter l.at l.w
