-- What the readers of the code answer: the definition's readers, without the value that was read.
-- Assumes nothing.
use Rattle.std.specs.Prelude.{ℕ, ◌+◌, Bool, true, ◌&&◌, ◌||◌, List, leb, ltb, eqb, Result, Ok, Err}
use Rattle.meaning.specs.Kinds.{a_clause, a_query, arity_limit, clause_limit, variable_limit, goal_limit, todays_limits}
use Rattle.meaning.specs.Rules.{Goal, Clause, Rules}
use Rattle.meaning.specs.Reading.{Read, refused, read, Reader, ◌>>=◌, ◌>>◌, give, need, goals, all_seen, end_due}
use Rattle.meaning.specs.Reading.{byte, next, goal, clause, query, no_more}
use Rattle.meaning.specs.declared.Refusal.{Refusal}
use Rattle.reading.specs.Verdict.{refusal}
use Rattle.reading.specs.declared.step.Reached.{Reached}

-- a refusal, or the variables that have appeared and the next place
unfoldable pub step : {A : Type 0} → Read A → Result Reached Refusal
step (refused n p) = Err (refusal n p)
step (read a seen at) = Ok (record { seen = seen; at = at })

-- any kind is due, one of two, or one
unfoldable pub any : ℕ → Bool
any kind = true

unfoldable pub either : ℕ → ℕ → ℕ → Bool
either one other kind = eqb kind one || eqb kind other

abbrev pub only : ℕ → ℕ → Bool
only kind = either kind kind

-- so many variables and goals are allowed in a clause or query
unfoldable pub in_range : ℕ → ℕ → Bool
in_range variables n = leb variables variable_limit && leb n goal_limit

module _ (file : List ℕ) where
  -- a function or a predicate, after so many of its kind
  unfoldable pub declared : ℕ → ℕ → ℕ → Reader (Unit {0})
  declared kind limit before = do
    p ← next file (only kind)
    need (ltb before limit && leb (byte file (p + 1)) arity_limit) 6 p

  -- the goals of the clause or query whose record stands at p; then all its variables have appeared
  unfoldable pub body : List ℕ → List ℕ → ℕ → ℕ → ℕ → Reader (List Goal)
  body functions predicates declared n p = do
    gs ← goals (goal file functions predicates declared) n
    all_seen declared p
    give gs

  -- the clause or query whose record stands at p, by today's limits
  abbrev pub numbered : List ℕ → List ℕ → ℕ → Reader Clause
  numbered = clause file todays_limits

  abbrev pub asked : List ℕ → List ℕ → List Clause → ℕ → Reader Rules
  asked = query file todays_limits

  -- a clause, after so many
  unfoldable pub clause_after : List ℕ → List ℕ → ℕ → Reader Clause
  clause_after functions predicates before = do
    p ← next file (only a_clause)
    need (ltb before clause_limit) 6 p
    numbered functions predicates p

  -- the end record, and nothing after it
  unfoldable pub ending : Reader (Unit {0})
  ending = do
    next file end_due
    no_more file

  -- the query, where only it may stand, and the end of the file
  unfoldable pub last : List ℕ → List ℕ → List Clause → Reader Rules
  last functions predicates clauses = do
    p ← next file (only a_query)
    R ← asked functions predicates clauses p
    next file end_due
    no_more file
    give R
