use Rattle.std.proofs.Common.{◌-◌}
use Rattle.reading.specs.Each.{Each}
use Rattle.reading.proofs.term.each.Given as goal

abbrev pub invariant-loop : goal.invariant-loop
invariant-loop g l = (r : _) → Each (goal.F-post g l.one) (l.n - l.counter) l.here r → Each (goal.F-post g l.one) l.n l.fn.from r
