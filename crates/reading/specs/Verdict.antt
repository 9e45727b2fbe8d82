-- What a check of a file answers: the definition's refusal, or how many functions, predicates and clauses were read.
-- Assumes nothing.
use Rattle.std.specs.Prelude.{ℕ, ◌≡◌, List, length, Result, Ok, Err}
use Rattle.std.proofs.Common.{sym, ◌∙◌}
use Rattle.meaning.specs.Rules.{Rules}
use Rattle.meaning.specs.Reading.{Read, refused, read, parse}
use Rattle.meaning.specs.declared.Place.{Place}
use Rattle.meaning.specs.Outcome.{fault_of, fault_number}
use Rattle.meaning.specs.declared.Refusal.{Refusal}
use Rattle.reading.specs.declared.Counts.{Counts}

abbrev pub place : ℕ → Place
place p = record { 0 = p }

-- the refusal by document 01's number and a place
abbrev pub refusal : ℕ → ℕ → Refusal
refusal n p = record { fault = fault_of n; place = place p }

abbrev pub counted : ℕ → ℕ → ℕ → Counts
counted functions predicates clauses = record { functions = functions; predicates = predicates; clauses = clauses }

unfoldable pub verdict : Read Rules → Result Counts Refusal
verdict (refused n p) = Err (refusal n p)
verdict (read R seen at) = Ok (counted (length R.functions) (length R.predicates) (length R.clauses))

-- what is told: of a file that the definition refuses, its number and its place
abbrev pub Told : Read Rules → Result Counts Refusal → Type 0
Told (refused n p) r = (e : Refusal) × (r ≡ Err e) × (fault_number e.fault ≡ n) × (e.place.0 ≡ p)
Told (read R seen at) r = Unit {0}

-- there is one answer for every file
pub one_answer : (file : List ℕ) (r s : Result Counts Refusal) → r ≡ verdict (parse file) → s ≡ verdict (parse file) → r ≡ s
one_answer file r s p q = p ∙ sym q
