-- What a good rule file says.
-- Assumes nothing.
use Rattle.std.specs.Prelude.{ℕ, List}
use Rattle.meaning.specs.Terms.{Terms}

-- a predicate with its arguments: the head of a clause, or a predicate goal
pub record Call : Type 0 where
  pub predicate : ℕ
  pub arguments : Terms

-- a goal of a body; a cut is counted as one
pub data Goal : Type 0 where
  call : Call → Goal
  cut : Goal

-- its variables are those below the declared number
pub record Clause : Type 0 where
  pub variables : ℕ
  pub head : Call
  pub body : List Goal

-- Functions and predicates are given by their arities. All three are numbered from 0 in file order: a number is an index.
pub record Rules : Type 0 where
  pub functions : List ℕ
  pub predicates : List ℕ
  pub clauses : List Clause
  pub variables : ℕ
  pub query : List Goal
