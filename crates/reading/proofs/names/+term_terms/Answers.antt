use Rattle.std.proofs.Common.{rules}
use Rattle.reading.proofs.StepLaws.{passed_on}
use Rattle.reading.proofs.TermLaws.{term_refused, term_deep, term_variable, term_unknown, term_applied, variable_inside, applied_inside}
use Rattle.reading.proofs.EachLaws.{each_terms}
use Rattle.reading.proofs.names.+term_terms.Goals as goal

pub Scope::term-returns-in_err-after : goal.Scope::term-returns-in_err-after
Scope::term-returns-in_err-after t c = search (rules, passed_on, term_refused)

pub Scope::term-returns-in_err-deeper : goal.Scope::term-returns-in_err-deeper
Scope::term-returns-in_err-deeper t c = search (rules, passed_on, term_deep)

pub Scope::term-returns-then-stands : goal.Scope::term-returns-then-stands
Scope::term-returns-then-stands t c = search (rules, term_variable)

pub Scope::term-returns-in_err-arity : goal.Scope::term-returns-in_err-arity
Scope::term-returns-in_err-arity t c = search (rules, passed_on, term_unknown)

pub Scope::term-returns : goal.Scope::term-returns
Scope::term-returns t c = search (rules, term_applied)

pub Scope::terms-returns : goal.Scope::terms-returns
Scope::terms-returns t c = each_terms _ _ (λ h x p. search rules) c.each.ensures

pub Scope::term-variable-requires : goal.Scope::term-variable-requires
Scope::term-variable-requires t c = search (rules, variable_inside)

pub Scope::term-function_arity-requires : goal.Scope::term-function_arity-requires
Scope::term-function_arity-requires t c = search (rules, applied_inside)
