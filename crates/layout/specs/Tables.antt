-- The tables of a run. For each place where a term or a goal stands: the place after it. For each clause's place: that of its body.
-- For each predicate its first clause, for each clause its place and the next clause of its predicate: numbers from 1, where 0 is none.
-- Assumes nothing.
use Rattle.std.specs.Prelude.{ℕ, suc, ◌+◌, ◌≡◌, List, [], ◌∷◌, length}
use Rattle.std.proofs.Math.Option.{some}
use Rattle.std.proofs.Math.ListN.{get_elem?}
use Rattle.meaning.specs.Terms.{Term, var, app, Terms, []ₜ, ◌∷ₜ◌}
use Rattle.meaning.specs.Rules.{Goal, call, cut, Clause, Rules}
use Rattle.meaning.specs.Moves.{Numbered, clauses_of}
use Rattle.layout.specs.Lengths.{term_length, goal_length, head_length, clause_place, query_place}
use Rattle.layout.specs.Regions.{after_at, first_at, place_at, next_at, word}

module _ (w : List ℕ) where
  abbrev mutual
    pub AfterTerm : ℕ → Term → Type 0
    AfterTerm p (var x) = word w (after_at p) ≡ p + 2
    AfterTerm p (app f ts) = (word w (after_at p) ≡ p + term_length (app f ts)) × AfterTerms (p + 3) ts

    pub AfterTerms : ℕ → Terms → Type 0
    AfterTerms p []ₜ = Unit {0}
    AfterTerms p (t ∷ₜ ts) = AfterTerm p t × AfterTerms (p + term_length t) ts

  abbrev pub AfterGoal : ℕ → Goal → Type 0
  AfterGoal p (call g) = (word w (after_at p) ≡ p + goal_length (call g)) × AfterTerms (p + 3) g.arguments
  AfterGoal p cut = Unit {0}

  abbrev pub AfterGoals : ℕ → List Goal → Type 0
  AfterGoals p [] = Unit {0}
  AfterGoals p (g ∷ gs) = AfterGoal p g × AfterGoals (p + goal_length g) gs

  pub record AfterClause (p : ℕ) (c : Clause) : Type 0 where
    pub body_place : word w (after_at p) ≡ p + head_length c
    pub head : AfterTerms (p + 5) c.head.arguments
    pub body : AfterGoals (p + head_length c) c.body

  -- the word says the clauses ks: 0 for none, else the first one's number and 1, and that clause's next word says the others
  module _ (F q : ℕ) (R : Rules) where
    abbrev pub Chain : ℕ → List Numbered → Type 0
    Chain v [] = v ≡ 0
    Chain v (k ∷ ks) = (v ≡ suc k.number) × (word w (place_at F q k.number) ≡ clause_place R k.number) × Chain (word w (next_at F q k.number)) ks

-- the tables of the rules R in the words w, for a file of F bytes
pub record Tabled (F : ℕ) (R : Rules) (w : List ℕ) : Type 0 where
  pub clauses : (k : ℕ) (c : Clause) → get_elem? R.clauses k ≡ some c → AfterClause w (clause_place R k) c
  pub query : AfterGoals w (query_place R + 3) R.query
  pub chains : (q a : ℕ) → get_elem? R.predicates q ≡ some a → Chain w F (length R.predicates) R (word w (first_at F q)) (clauses_of q 0 R.clauses)
