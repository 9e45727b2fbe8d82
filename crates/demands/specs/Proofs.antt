-- What the rules prove, over values alone: nothing here knows of a search, a store or unification.
-- Assumes nothing.
use Rattle.std.specs.Prelude.{ℕ, ◌<◌, ◌≡◌, ◌⊎◌, List, [], ◌∷◌, ◌++◌}
use Rattle.std.proofs.Math.Option.{some}
use Rattle.std.proofs.Math.ListN.{get_elem?}
use Rattle.meaning.specs.Terms.{Term, var, app, Terms, []ₜ, ◌∷ₜ◌, count, insts, row}
use Rattle.meaning.specs.Rules.{Call, Goal, call, cut, Clause, Rules}

-- something holds of each member of a list, of some member
abbrev pub Each : {A : Type 0} → (A → Type 0) → List A → Type 0
Each P [] = Unit {0}
Each P (a ∷ rest) = P a × Each P rest

abbrev pub Some : {A : Type 0} → (A → Type 0) → List A → Type 0
Some P [] = ⊥
Some P (a ∷ rest) = P a ⊎ Some P rest

-- every function of the term is of the file, with as many arguments as its arity says, and every variable satisfies P
abbrev mutual
  pub Well : List ℕ → (ℕ → Type 0) → Term → Type 0
  Well functions P (var x) = P x
  Well functions P (app f ts) = (get_elem? functions f ≡ some (count ts)) × Wells functions P ts

  pub Wells : List ℕ → (ℕ → Type 0) → Terms → Type 0
  Wells functions P []ₜ = Unit {0}
  Wells functions P (t ∷ₜ ts) = Well functions P t × Wells functions P ts

-- "a value is a finite term over the file's functions that may itself hold variables"
abbrev pub Value : Rules → Term → Type 0
Value R t = Well R.functions (λ x. Unit {0}) t

-- values for variables
abbrev pub Values : Rules → (ℕ → Term) → Type 0
Values R θ = (x : ℕ) → Value R (θ x)

-- the goals with the cuts left out
abbrev pub calls : List Goal → List Call
calls [] = []
calls (call g ∷ gs) = g ∷ calls gs
calls (cut ∷ gs) = calls gs

-- a call with values for its variables, and a list of calls
abbrev pub at_values : (ℕ → Term) → Call → Call
at_values θ g = record { predicate = g.predicate; arguments = insts θ g.arguments }

abbrev pub all_at : (ℕ → Term) → List Call → List Call
all_at θ [] = []
all_at θ (g ∷ gs) = at_values θ g ∷ all_at θ gs

-- The clauses with these numbers prove these calls: each clause in turn, with some values for its variables, has the first call left
-- as its head, and its body takes the place of that call, until none is left
abbrev pub Proves : Rules → List ℕ → List Call → Type 0
Proves R [] [] = Unit {0}
Proves R [] (g ∷ gs) = ⊥
Proves R (k ∷ ks) [] = ⊥
Proves R (k ∷ ks) (g ∷ gs) = (c : Clause) × (θ : ℕ → Term) × (get_elem? R.clauses k ≡ some c) × Values R θ
    × (g ≡ at_values θ c.head) × Proves R ks (all_at θ (calls c.body) ++ gs)

-- the values that the proof ks allows for the query's variables
abbrev pub Allows : Rules → List ℕ → (ℕ → Term) → Type 0
Allows R ks θ = Values R θ × Proves R ks (all_at θ (calls R.query))

-- ks is a proof of the query: it allows some values
abbrev pub IsProof : Rules → List ℕ → Type 0
IsProof R ks = (θ : ℕ → Term) × Allows R ks θ

-- the values θ of the query's variables are an instance of these terms: their variables stand for some values
abbrev pub Matches : Rules → (ℕ → Term) → Terms → Type 0
Matches R θ ts = (τ : ℕ → Term) × Values R τ × (row R.variables θ ≡ insts τ ts)

-- ks comes before ls in the dictionary
abbrev pub Before : List ℕ → List ℕ → Type 0
Before [] [] = ⊥
Before [] (l ∷ ls) = Unit {0}
Before (k ∷ ks) [] = ⊥
Before (k ∷ ks) (l ∷ ls) = (k < l) ⊎ ((k ≡ l) × Before ks ls)

-- ---- well_formed rules
-- a call has as many arguments as its predicate's arity says, over the file's functions and the variables below n
pub record WellCall (R : Rules) (n : ℕ) (g : Call) : Type 0 where
  pub arity : get_elem? R.predicates g.predicate ≡ some (count g.arguments)
  pub terms : Wells R.functions (λ x. x < n) g.arguments

pub record WellClause (R : Rules) (c : Clause) : Type 0 where
  pub head : WellCall R c.variables c.head
  pub body : Each (WellCall R c.variables) (calls c.body)

pub record WellFormed (R : Rules) : Type 0 where
  pub clauses : Each (WellClause R) R.clauses
  pub query : Each (WellCall R R.variables) (calls R.query)

-- ---- rules without cut
abbrev pub NoCut : List Goal → Type 0
NoCut [] = Unit {0}
NoCut (call g ∷ gs) = NoCut gs
NoCut (cut ∷ gs) = ⊥

pub record Uncut (R : Rules) : Type 0 where
  pub clauses : Each (λ c. NoCut c.body) R.clauses
  pub query : NoCut R.query
