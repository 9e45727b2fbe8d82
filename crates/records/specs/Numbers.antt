-- The number of a kind.
-- Assumes nothing.
use Rattle.std.specs.Prelude.{ℕ}
use Rattle.meaning.specs.Kinds.{a_function, a_predicate, a_clause, a_variable, an_application, a_goal, a_cut, a_query, the_end, an_answer, an_answer_variable, a_step, the_answer_end}
use Rattle.records.specs.declared.Kind.{Kind}
use Rattle.records.specs.declared.Kind.TheVariants.{Function, Predicate, Clause, Variable, Application, Goal, Cut, Query, End, Answer, AnswerVariable, Step, AnswerEnd}

abbrev pub number : Kind → ℕ
number Function = a_function
number Predicate = a_predicate
number Clause = a_clause
number Variable = a_variable
number Application = an_application
number Goal = a_goal
number Cut = a_cut
number Query = a_query
number End = the_end
number Answer = an_answer
number AnswerVariable = an_answer_variable
number Step = a_step
number AnswerEnd = the_answer_end
