use Rattle.std.proofs.Common.{rules, arith, ◌<◌, ◌≡◌, get_or}
use Rattle.tables.proofs.+terms.Goals as goal
use Rattle.tables.proofs.Walks.{arguments_end, arguments_terms, term_application, term_arguments, term_deep, term_variable, terms_again, terms_can, terms_end}

pub lay_arguments-lay_terms-end-requires : goal.lay_arguments-lay_terms-end-requires
lay_arguments-lay_terms-end-requires t c = search (arguments_terms, rules)

pub lay_arguments-returns : goal.lay_arguments-returns
lay_arguments-returns t c = search arguments_end

pub lay_term-returns-then-file-p : goal.lay_term-returns-then-file-p
lay_term-returns-then-file-p t c =
    let k : get_or c.args.file.now c.args.p 0 ≡ 4 = search rules in
    term_variable c.args.file.now c.args.w.now c.args.p c.args.levels c.requires _ (omega arith) k

pub lay_term-overflow_sub-levels : goal.lay_term-overflow_sub-levels
lay_term-overflow_sub-levels t c = search term_deep

pub lay_term-lay_arguments-requires : goal.lay_term-lay_arguments-requires
lay_term-lay_arguments-requires t c =
    let deep : 0 < c.args.levels = search term_deep in (omega arith, search term_arguments)

pub lay_term-returns : goal.lay_term-returns
lay_term-returns t c = search term_application

pub lay_terms-lay_term-at-requires : goal.lay_terms-lay_term-at-requires
lay_terms-lay_term-at-requires t c = search (terms_can, rules)

pub lay_terms-loop-preserved : goal.lay_terms-loop-preserved
lay_terms-loop-preserved t c = search terms_again

pub lay_terms-returns : goal.lay_terms-returns
lay_terms-returns t c = search terms_end
