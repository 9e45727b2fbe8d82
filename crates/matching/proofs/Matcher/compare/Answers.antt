use Rattle.std.proofs.Common.{arith, ◌∙◌, sym, rules}
use Rattle.matching.specs.Matching.{head_free, mentioned}
use Rattle.matching.proofs.Laws.{fresh_cell, goal_takes, two_cells}
use Rattle.matching.proofs.Matcher.compare.Goals as goal

pub returns-else-eq : goal.returns-else-eq
returns-else-eq c = two_cells c.bind_unchecked.ensures.value c.bind_unchecked.ensures.w_after c.in-Unbound-Unbound.is-0 c.in-Unbound-Unbound.is-1 (sym c.eq.ensures ∙ c.if-eq.false)

pub returns-in-Unbound-Function : goal.returns-in-Unbound-Function
returns-in-Unbound-Function c = goal_takes c.in-Unbound-Function.is-0 c.in-Unbound-Function.is-1 c.bind_checked.ensures (omega arith)

pub returns-then-at-y : goal.returns-then-at-y
returns-then-at-y c = search (fresh_cell, rules)

pub returns-else-at-y : goal.returns-else-at-y
returns-else-at-y c = search (head_free, mentioned, rules)
