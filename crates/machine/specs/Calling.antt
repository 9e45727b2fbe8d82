-- What the whole call does, for every input: what the definition says.
-- Assumes nothing.
use Rattle.std.specs.Prelude.{ℕ, ◌≤◌, ◌≡◌, Bool, true, List, length, Ok}
use Rattle.meaning.specs.Kinds.{file_limit}
use Rattle.meaning.specs.Editions.{todays}
use Rattle.meaning.specs.Moves.{Limits as LimitsDefined}
use Rattle.meaning.specs.Reading.{parse}
use Rattle.meaning.specs.Call.{Result, result, run_read, in_range, needed, output_after, scratch_after}
use Rattle.meaning.specs.Outcome.{Outcome, says, to_say}
use Rattle.meaning.specs.declared.Place.{Place}
use Rattle.search.specs.declared.Limits.{Limits}
use Rattle.search.specs.declared.Given.{Given}
use Rattle.reading.specs.declared.Counts.{Counts}
use Rattle.reading.specs.Verdict.{verdict}
use Rattle.simulation.specs.Rep.{layout_of}

-- ---- the promise
-- the run limits, as the definition has them
abbrev pub limits_of : Limits → LimitsDefined
limits_of l = record { cells = l.cells; steps = l.steps; work = l.work }

-- the result that the definition gives
abbrev pub result_of : List ℕ → Limits → ℕ → ℕ → List ℕ → List ℕ → Result
result_of file l budget wanted w o = result file (limits_of l) budget wanted (length w) (length o)

-- the whole call: what it says, and what is in scratch and in the output after it
pub record Called (file : List ℕ) (l : Limits) (budget wanted : ℕ) (w o : List ℕ) (r : Outcome) (v q : List ℕ) : Type 0 where
  pub outcome : says r ≡ to_say (result_of file l budget wanted w o)
  pub words : v ≡ scratch_after (result_of file l budget wanted w o) (needed (length file) (limits_of l)) w
  pub bytes : q ≡ output_after (result_of file l budget wanted w o) o

-- ---- between the parts of the call
abbrev pub allowed : Limits → Bool
allowed l = in_range (limits_of l)

-- what a run is given, with F bytes of file
unfoldable pub given_of : ℕ → Limits → ℕ → ℕ → Place → Given
given_of F l functions predicates query = record { lay = layout_of F predicates l.cells l.steps; limits = l; functions = functions; query = query }

-- what has been tested before the file is read
pub record Tested (file : List ℕ) (l : Limits) (w : List ℕ) : Type 0 where
  pub in_limits : allowed l ≡ true
  pub short : length file ≤ file_limit
  pub enough : needed (length file) (limits_of l) ≤ length w

-- a good file can be run
pub record Can (file : List ℕ) (l : Limits) (c : Counts) (w : List ℕ) : Type 0 where
  pub tested : Tested file l w
  pub good : verdict (parse file) ≡ Ok c

-- a good file is run: what the run says, and the output after it
pub record RunsGood (file : List ℕ) (l : Limits) (budget wanted : ℕ) (o : List ℕ) (r : Outcome) (q : List ℕ) : Type 0 where
  pub outcome : says r ≡ to_say (run_read todays (parse file) (limits_of l) budget wanted (length o))
  pub bytes : q ≡ output_after (run_read todays (parse file) (limits_of l) budget wanted (length o)) o
