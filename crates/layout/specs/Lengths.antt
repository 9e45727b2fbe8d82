-- How many bytes of a rule file each part of the rules takes, and the places that follow from it.
-- Assumes nothing.
use Rattle.std.specs.Prelude.{ℕ, ◌+◌, ◌*◌, List, [], ◌∷◌, length, take}
use Rattle.meaning.specs.Terms.{Term, var, app, Terms, []ₜ, ◌∷ₜ◌}
use Rattle.meaning.specs.Rules.{Goal, call, cut, Clause, Rules}

unfoldable mutual
  pub term_length : Term → ℕ
  term_length (var x) = 2
  term_length (app f ts) = 3 + terms_length ts

  pub terms_length : Terms → ℕ
  terms_length []ₜ = 0
  terms_length (t ∷ₜ ts) = term_length t + terms_length ts

unfoldable pub goal_length : Goal → ℕ
goal_length (call g) = 3 + terms_length g.arguments
goal_length cut = 1

unfoldable pub goals_length : List Goal → ℕ
goals_length [] = 0
goals_length (g ∷ gs) = goal_length g + goals_length gs

unfoldable pub head_length : Clause → ℕ
head_length c = 5 + terms_length c.head.arguments

unfoldable pub clause_length : Clause → ℕ
clause_length c = head_length c + goals_length c.body

unfoldable pub clauses_length : List Clause → ℕ
clauses_length [] = 0
clauses_length (c ∷ cs) = clause_length c + clauses_length cs

-- the record of clause k stands after all functions, predicates and the clauses before it; the query's after all clauses
unfoldable pub clause_place : Rules → ℕ → ℕ
clause_place R k = 2 * length R.functions + 2 * length R.predicates + clauses_length (take k R.clauses)

unfoldable pub query_place : Rules → ℕ
query_place R = clause_place R (length R.clauses)
