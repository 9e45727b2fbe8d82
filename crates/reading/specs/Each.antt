-- Calls one after another, by what each may answer.
-- Assumes nothing.
use Rattle.std.specs.Prelude.{ℕ, ◌+◌, ◌≡◌, List, Result, Ok, Err}
use Rattle.std.proofs.Common.{zero, suc}
use Rattle.meaning.specs.Reading.{byte}
use Rattle.meaning.specs.declared.Refusal.{Refusal}
use Rattle.reading.specs.declared.row.Row.{Row}
use Rattle.reading.specs.declared.step.Reached.{Reached}

-- so many calls, one after another, each from where the one before it came to: a refusal ends them
pub data Each (one : Reached → Result Reached Refusal → Type 0) : ℕ → Reached → Result Reached Refusal → Type 0 where
  all_done : {t : Reached} → Each one zero t (Ok t)
  stopped : {n : ℕ} {t : Reached} {e : Refusal} → one t (Err e) → Each one (suc n) t (Err e)
  onward : {n : ℕ} {t u : Reached} {r : Result Reached Refusal} → one t (Ok u) → Each one n u r → Each one (suc n) t r

-- a row of records of a kind after so many, as long as one stands there: a refusal ends it, else no more of them stands at its end
pub data RowOf (one : Row → Result Reached Refusal → Type 0) (file : List ℕ) (kind : ℕ) : Row → Result Row Refusal → Type 0 where
  no_more : {before : Row} → (byte file before.at ≡ kind → ⊥) → RowOf one file kind before (Ok before)
  refused_there : {before : Row} {e : Refusal} → byte file before.at ≡ kind → one before (Err e) → RowOf one file kind before (Err e)
  one_more : {before : Row} {t : Reached} {r : Result Row Refusal} → byte file before.at ≡ kind → one before (Ok t)
      → RowOf one file kind (record { records = before.records + 1; at = t.at }) r → RowOf one file kind before r
