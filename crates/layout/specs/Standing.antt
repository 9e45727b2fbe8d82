-- What stands where in a good file.
-- Assumes nothing.
use Rattle.std.specs.Prelude.{ℕ, ◌+◌, ◌*◌, ◌≤◌, ◌<◌, ◌≡◌, ◌≢◌, List, [], ◌∷◌, length}
use Rattle.std.proofs.Math.Option.{some}
use Rattle.std.proofs.Math.ListN.{get_elem?}
use Rattle.meaning.specs.Terms.{Term, var, app, Terms, []ₜ, ◌∷ₜ◌}
use Rattle.meaning.specs.Kinds.{a_clause, a_variable, an_application, a_goal, a_cut, a_query}
use Rattle.meaning.specs.Rules.{Goal, call, cut, Clause, Rules}
use Rattle.meaning.specs.Reading.{byte, two_bytes}
use Rattle.layout.specs.Lengths.{term_length, goal_length, goals_length, head_length, clause_length, clause_place, query_place}

module _ (file : List ℕ) where
  -- the term stands at the place p
  abbrev mutual
    pub StandsTerm : ℕ → Term → Type 0
    StandsTerm p (var x) = (byte file p ≡ a_variable) × (byte file (p + 1) ≡ x)
    StandsTerm p (app f ts) = (byte file p ≡ an_application) × (two_bytes file (p + 1) ≡ f) × StandsTerms (p + 3) ts

    pub StandsTerms : ℕ → Terms → Type 0
    StandsTerms p []ₜ = Unit {0}
    StandsTerms p (t ∷ₜ ts) = StandsTerm p t × StandsTerms (p + term_length t) ts

  -- the goal stands at p
  abbrev pub StandsGoal : ℕ → Goal → Type 0
  StandsGoal p (call g) = (byte file p ≡ a_goal) × (two_bytes file (p + 1) ≡ g.predicate) × StandsTerms (p + 3) g.arguments
  StandsGoal p cut = byte file p ≡ a_cut

  -- the goals stand at p, one after another, and then a record that is no goal
  abbrev pub StandsGoals : ℕ → List Goal → Type 0
  StandsGoals p [] = (byte file p ≢ a_goal) × (byte file p ≢ a_cut)
  StandsGoals p (g ∷ gs) = StandsGoal p g × StandsGoals (p + goal_length g) gs

  -- the clause stands at p
  pub record StandsClause (p : ℕ) (c : Clause) : Type 0 where
    pub kind : byte file p ≡ a_clause
    pub predicate : two_bytes file (p + 1) ≡ c.head.predicate
    pub variables : byte file (p + 3) ≡ c.variables
    pub goals : byte file (p + 4) ≡ length c.body
    pub head : StandsTerms (p + 5) c.head.arguments
    pub body : StandsGoals (p + head_length c) c.body
    pub ends : p + clause_length c ≤ length file

  -- the rules stand in the file: arities by number, each clause at its place, the query
  pub record StandsRules (R : Rules) : Type 0 where
    pub functions : (f a : ℕ) → get_elem? R.functions f ≡ some a → byte file (2 * f + 1) ≡ a
    pub predicates : (q a : ℕ) → get_elem? R.predicates q ≡ some a → byte file (2 * length R.functions + 2 * q + 1) ≡ a
    pub clauses : (k : ℕ) (c : Clause) → get_elem? R.clauses k ≡ some c → StandsClause (clause_place R k) c
    pub query_kind : byte file (query_place R) ≡ a_query
    pub query_variables : byte file (query_place R + 1) ≡ R.variables
    pub query_goals : byte file (query_place R + 2) ≡ length R.query
    pub query : StandsGoals (query_place R + 3) R.query
    pub ends : query_place R + 3 + goals_length R.query < length file
