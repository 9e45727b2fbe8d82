-- A whole answer: measured with no byte written, and written where it fits.
-- Assumes nothing.
use Rattle.std.specs.Prelude.{ℕ, ◌+◌, ◌*◌, ◌≤◌, ◌<◌, true, false, List, Result, Ok, Err, length}
use Rattle.meaning.specs.Answers.{Fit, fits, stops}
use Rattle.meaning.specs.Outcome.{end_number}
use Rattle.meaning.specs.declared.End.{End}
use Rattle.meaning.specs.declared.End.TheVariants.{Output}
use Rattle.cells.specs.declared.Layout.{Layout}
use Rattle.answers.specs.declared.Stopped.{Stopped}
use Rattle.answers.specs.declared.Tally.{Tally}
use Rattle.answers.specs.Written.{answer_size, step_size, end_size, first_put, last_put}
use Rattle.answers.specs.Values.{forgotten, Values, none_yet}

-- how far a pass was, where it went through and where it stopped
unfoldable pub reached : Result Tally Stopped → Tally
reached (Ok t) = t
reached (Err e) = e.tally

-- the answer is written: its first record, the values, and the records behind them, as far as the values came
pub data Writes (file : List ℕ) (lay : Layout) (limit variables steps hops free : ℕ) (w o : List ℕ) : List ℕ → List ℕ → Type 0 where
  records : {r : Result Tally Stopped} {v p : List ℕ} → Values file lay limit true hops variables 0 none_yet w (first_put free steps o) r v p
      → Writes file lay limit variables steps hops free w o v (last_put steps lay v (reached r).size p)

-- the values are measured, once no variable has a number
abbrev pub Measures : List ℕ → Layout → ℕ → ℕ → ℕ → ℕ → List ℕ → List ℕ → Result Tally Stopped → List ℕ → List ℕ → Type 0
Measures file lay limit variables cells hops w o r v p = Values file lay limit false hops variables 0 none_yet (forgotten cells lay w) o r v p

-- the size of the records behind the values
abbrev pub last_size : ℕ → ℕ
last_size steps = step_size * steps + end_size

-- an answer whose values are measured: the records behind them pass the room, or it is written
pub data Finishes (file : List ℕ) (lay : Layout) (limit variables steps hops : ℕ) (t : Tally) (w o : List ℕ) : Result ℕ End → List ℕ → List ℕ → Type 0 where
  last_full : length o < t.size + last_size steps → Finishes file lay limit variables steps hops t w o (Err Output) w o
  whole : {v p : List ℕ} → t.size + last_size steps ≤ length o → Writes file lay limit variables steps hops t.free w o v p
      → Finishes file lay limit variables steps hops t w o (Ok (t.size + last_size steps)) v p

-- the answer: its first record passes the room, or it is measured, and its writing stops in the values or it finishes. So many bytes are
-- written, or it comes to an end
pub data Answers (file : List ℕ) (lay : Layout) (limit variables cells steps hops : ℕ) (w o : List ℕ) : Result ℕ End → List ℕ → List ℕ → Type 0 where
  first_full : length o < answer_size → Answers file lay limit variables cells steps hops w o (Err Output) w o
  values_stopped : {e : Stopped} {v p : List ℕ} → answer_size ≤ length o → Measures file lay limit variables cells hops w o (Err e) v p
      → Answers file lay limit variables cells steps hops w o (Err e.end) v p
  measured : {t : Tally} {v p u q : List ℕ} {r : Result ℕ End} → answer_size ≤ length o → Measures file lay limit variables cells hops w o (Ok t) v p
      → Finishes file lay limit variables steps hops t v p r u q → Answers file lay limit variables cells steps hops w o r u q

-- what it comes to by document 01's numbers: it fits, or its writing stops with this end
unfoldable pub fit_of : Result ℕ End → Fit
fit_of (Ok n) = fits
fit_of (Err e) = stops (end_number e)
