-- The kinds of records with their body lengths, and the limits of a rule file. Each number stands here once.
-- Assumes nothing.
use Rattle.std.specs.Prelude.{ℕ, List, [], ◌∷◌, get_or}

-- "A table of kinds gives each body length": the body bytes of each kind, from 0 on, which is no kind
unfoldable pub body_lengths : List ℕ
body_lengths = 0 ∷ 1 ∷ 1 ∷ 4 ∷ 1 ∷ 2 ∷ 2 ∷ 0 ∷ 2 ∷ 0 ∷ 4 ∷ 2 ∷ 2 ∷ 0 ∷ []

unfoldable pub body_length : ℕ → ℕ
body_length kind = get_or body_lengths kind 0

-- the kinds
abbrev pub a_function : ℕ
a_function = 0x01

abbrev pub a_predicate : ℕ
a_predicate = 0x02

abbrev pub a_clause : ℕ
a_clause = 0x03

abbrev pub a_variable : ℕ
a_variable = 0x04

abbrev pub an_application : ℕ
an_application = 0x05

abbrev pub a_goal : ℕ
a_goal = 0x06

abbrev pub a_cut : ℕ
a_cut = 0x07

abbrev pub a_query : ℕ
a_query = 0x08

abbrev pub the_end : ℕ
the_end = 0x09

abbrev pub an_answer : ℕ
an_answer = 0x0A

abbrev pub an_answer_variable : ℕ
an_answer_variable = 0x0B

abbrev pub a_step : ℕ
a_step = 0x0C

abbrev pub the_answer_end : ℕ
the_answer_end = 0x0D

-- the limits: bytes of a file; functions; predicates; arguments of a function or predicate; goals of a clause or query; levels of a term, an argument itself being level 1
abbrev pub file_limit : ℕ
file_limit = 60_000

abbrev pub function_limit : ℕ
function_limit = 1_024

abbrev pub predicate_limit : ℕ
predicate_limit = 1_024

abbrev pub arity_limit : ℕ
arity_limit = 8

abbrev pub goal_limit : ℕ
goal_limit = 16

abbrev pub level_limit : ℕ
level_limit = 32

-- the limits of a rule set: clauses; variables of a clause or query
pub record RuleLimits : Type 0 where
  pub clauses : ℕ
  pub variables : ℕ

-- document 01's
abbrev pub earlier_limits : RuleLimits
earlier_limits = record { clauses = 4_096; variables = 32 }

-- those of 2026-01, which hold today
abbrev pub todays_limits : RuleLimits
todays_limits = record { clauses = 8_192; variables = 64 }

abbrev pub clause_limit : ℕ
clause_limit = todays_limits.clauses

abbrev pub variable_limit : ℕ
variable_limit = todays_limits.variables
