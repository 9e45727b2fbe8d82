-- The tables as they are laid out: which words are set to what, one after another. The words start at `first` for the predicates and at
-- `table` for the clauses, two words each.
-- Assumes nothing.
use Rattle.std.specs.Prelude.{ℕ, zero, suc, ◌+◌, ◌*◌, List, [], ◌∷◌, length, set}
use Rattle.meaning.specs.Terms.{Term, var, app, Terms, []ₜ, ◌∷ₜ◌}
use Rattle.meaning.specs.Rules.{Goal, call, cut, Clause, Rules}
use Rattle.layout.specs.Lengths.{term_length, terms_length, goal_length, head_length, clause_length, query_place}
use Rattle.layout.specs.Regions.{after_at, word}

-- a term at its place, and the terms in it; then the place after it
unfoldable mutual
  pub lay_term : Term → ℕ → List ℕ → List ℕ
  lay_term (var x) p w = set w (after_at p) (p + 2)
  lay_term (app f ts) p w = set (lay_terms ts (p + 3) w) (after_at p) (p + 3 + terms_length ts)

  pub lay_terms : Terms → ℕ → List ℕ → List ℕ
  lay_terms []ₜ p w = w
  lay_terms (t ∷ₜ ts) p w = lay_terms ts (p + term_length t) (lay_term t p w)

-- arguments from the place s on, and then, for the record at p that they belong to, the place after them
unfoldable pub lay_arguments : Terms → ℕ → ℕ → List ℕ → List ℕ
lay_arguments ts p s w = set (lay_terms ts s w) (after_at p) (s + terms_length ts)

unfoldable pub lay_goal : Goal → ℕ → List ℕ → List ℕ
lay_goal (call g) p w = lay_arguments g.arguments p (p + 3) w
lay_goal cut p w = w

unfoldable pub lay_goals : List Goal → ℕ → List ℕ → List ℕ
lay_goals [] p w = w
lay_goals (g ∷ gs) p w = lay_goals gs (p + goal_length g) (lay_goal g p w)

unfoldable pub lay_clause : Clause → ℕ → List ℕ → List ℕ
lay_clause c p w = lay_goals c.body (p + head_length c) (lay_arguments c.head.arguments p (p + 5) w)

-- the words of the clause k: its place, and its predicate, until the clauses are linked
unfoldable pub enter : ℕ → ℕ → ℕ → ℕ → List ℕ → List ℕ
enter table k p q w = set (set w (table + 2 * k) p) (table + 2 * k + 1) q

-- the clauses from number k on, from the place p on
unfoldable pub lay_clauses : ℕ → ℕ → List Clause → ℕ → List ℕ → List ℕ
lay_clauses table k [] p w = w
lay_clauses table k (c ∷ cs) p w = lay_clauses table (suc k) cs (p + clause_length c) (lay_clause c p (enter table k p c.head.predicate w))

-- n predicates with no clause yet
unfoldable pub clear : ℕ → ℕ → List ℕ → List ℕ
clear first zero w = w
clear first (suc n) w = set (clear first n w) (first + n) 0

-- the clause k goes in front of the clauses of its predicate
unfoldable pub link : ℕ → ℕ → ℕ → List ℕ → List ℕ
link first table k w =
    set (set w (table + 2 * k + 1) (word w (first + word w (table + 2 * k + 1)))) (first + word w (table + 2 * k + 1)) (k + 1)

-- the clauses below n, from the last to the first
unfoldable pub links : ℕ → ℕ → ℕ → List ℕ → List ℕ
links first table zero w = w
links first table (suc k) w = links first table k (link first table k w)

-- where the words of the predicates start, and those of the clauses, for a file of F bytes with q predicates
abbrev pub firsts_start : ℕ → ℕ
firsts_start F = 64 + F

abbrev pub table_start : ℕ → ℕ → ℕ
table_start F q = 64 + F + q

-- the place of the first clause, if there is one
abbrev pub clauses_start : Rules → ℕ
clauses_start R = 2 * length R.functions + 2 * length R.predicates

-- what stands in the words before the clauses are linked
unfoldable pub laid_out : ℕ → Rules → List ℕ → List ℕ
laid_out F R w =
    lay_goals R.query (query_place R + 3)
    (lay_clauses (table_start F (length R.predicates)) 0 R.clauses (clauses_start R) (clear (firsts_start F) (length R.predicates) w))

-- the tables of the rules R for a file of F bytes
unfoldable pub laid : ℕ → Rules → List ℕ → List ℕ
laid F R w = links (firsts_start F) (table_start F (length R.predicates)) (length R.clauses) (laid_out F R w)
