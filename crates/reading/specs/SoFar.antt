-- What was read so far at the top level: going on from here gives the file's verdict.
-- Assumes nothing.
use Rattle.std.specs.Prelude.{ℕ, ◌+◌, ◌*◌, ◌≤◌, ◌<◌, ◌≡◌, List, length, Result, Ok, Err}
use Rattle.meaning.specs.Kinds.{a_function, a_predicate, function_limit, predicate_limit, clause_limit, todays_limits}
use Rattle.meaning.specs.Rules.{Clause}
use Rattle.meaning.specs.Reading.{byte, items, parse}
use Rattle.reading.specs.Verdict.{verdict}
use Rattle.reading.specs.Arities.{functions_of, predicates_of}
use Rattle.meaning.specs.declared.Refusal.{Refusal}
use Rattle.reading.specs.declared.row.Row.{Row}

-- So many functions, predicates and clauses are read, and `at` is the next place. No kind before `kind` can be due here.
pub record SoFar (file : List ℕ) (kind functions predicates clauses at : ℕ) : Type 0 where
  pub latest : ℕ
  pub read : List Clause
  pub more : ℕ
  pub low : latest ≤ kind
  pub shut : latest ≤ byte file at → byte file at < kind → ⊥
  pub many : length read ≡ clauses
  pub few : clauses ≤ clause_limit
  pub enough : length file ≤ at + more
  pub rest : verdict (items file todays_limits more latest (functions_of file functions) (predicates_of file functions predicates) read 0 at) ≡ verdict (parse file)

-- so many records of two bytes are read by the place `at`
pub record Pairs (file : List ℕ) (limit start n at : ℕ) : Type 0 where
  pub few : n ≤ limit
  pub place : at ≡ start + 2 * n
  pub inside : at ≤ length file

-- so many functions, or predicates after so many functions, are read
pub data Counted (file : List ℕ) : ℕ → ℕ → ℕ → ℕ → ℕ → Type 0 where
  of_functions : {n at : ℕ} → Pairs file function_limit 0 n at → SoFar file a_function n 0 0 at → Counted file a_function function_limit 0 n at
  of_predicates : {functions n at : ℕ} → functions ≤ function_limit → Pairs file predicate_limit (2 * functions) n at → SoFar file a_predicate functions n 0 at
      → Counted file a_predicate predicate_limit functions n at

-- a row of records of one kind: a refusal is the file's; else so many are read, and no more of them stands here
abbrev pub Rowed : (file : List ℕ) (kind : ℕ) (P : ℕ → ℕ → Type 0) → Result Row Refusal → Type 0
Rowed file kind P (Err e) = Err e ≡ verdict (parse file)
Rowed file kind P (Ok row) = P row.records row.at × (byte file row.at ≡ kind → ⊥)
