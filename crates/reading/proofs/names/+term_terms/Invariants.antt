use Rattle.std.proofs.Common.{◌+◌, ◌*◌}
use Rattle.reading.proofs.names.+term_terms.Given as goal

abbrev pub decreases-Scope::term : goal.decreases-Scope::term
decreases-Scope::term l = 3 * l.levels

abbrev pub decreases-Scope::terms : goal.decreases-Scope::terms
decreases-Scope::terms l = 3 * l.levels + 2

abbrev pub decreases-Scope::terms-each : goal.decreases-Scope::terms-each
decreases-Scope::terms-each l = 3 * l.levels + 1
