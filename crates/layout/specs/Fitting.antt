-- What the rules of a good file keep to: every application and call has as many arguments as its function or predicate, every variable
-- is declared, and levels and variables are within their limits.
-- Assumes nothing.
use Rattle.std.specs.Prelude.{ℕ, suc, max, ◌≤◌, ◌<◌, ◌≡◌, List, [], ◌∷◌}
use Rattle.std.proofs.Math.Option.{some}
use Rattle.std.proofs.Math.ListN.{get_elem?}
use Rattle.meaning.specs.Terms.{Term, var, app, Terms, []ₜ, ◌∷ₜ◌, count}
use Rattle.meaning.specs.Kinds.{variable_limit, level_limit}
use Rattle.meaning.specs.Rules.{Call, Goal, call, cut, Clause, Rules}

-- the levels of a term, itself being level 1; of terms, the most
unfoldable mutual
  pub depth : Term → ℕ
  depth (var x) = 1
  depth (app f ts) = suc (depths ts)

  pub depths : Terms → ℕ
  depths []ₜ = 0
  depths (t ∷ₜ ts) = max (depth t) (depths ts)

-- over the functions with these arities, with so many variables declared
module _ (functions : List ℕ) (declared : ℕ) where
  abbrev mutual
    pub FitsTerm : Term → Type 0
    FitsTerm (var x) = x < declared
    FitsTerm (app f ts) = (get_elem? functions f ≡ some (count ts)) × FitsTerms ts

    pub FitsTerms : Terms → Type 0
    FitsTerms []ₜ = Unit {0}
    FitsTerms (t ∷ₜ ts) = FitsTerm t × FitsTerms ts

-- over the functions and predicates with these arities
module _ (functions predicates : List ℕ) where
  pub record FitsCall (declared : ℕ) (g : Call) : Type 0 where
    pub arity : get_elem? predicates g.predicate ≡ some (count g.arguments)
    pub terms : FitsTerms functions declared g.arguments
    pub levels : depths g.arguments ≤ level_limit

  abbrev pub FitsGoal : ℕ → Goal → Type 0
  FitsGoal declared (call g) = FitsCall declared g
  FitsGoal declared cut = Unit {0}

  abbrev pub FitsGoals : ℕ → List Goal → Type 0
  FitsGoals declared [] = Unit {0}
  FitsGoals declared (g ∷ gs) = FitsGoal declared g × FitsGoals declared gs

  pub record FitsClause (c : Clause) : Type 0 where
    pub variables : c.variables ≤ variable_limit
    pub head : FitsCall c.variables c.head
    pub body : FitsGoals c.variables c.body

pub record FitsRules (R : Rules) : Type 0 where
  pub clauses : (k : ℕ) (c : Clause) → get_elem? R.clauses k ≡ some c → FitsClause R.functions R.predicates c
  pub variables : R.variables ≤ variable_limit
  pub query : FitsGoals R.functions R.predicates R.variables R.query
