-- Document 01's number and values for each case of what the code answers.
-- Assumes nothing.
use Rattle.std.specs.Prelude.{ℕ, eqb, if◌then◌else◌, length, Ok, Err, Result as ResultOf}
use Rattle.meaning.specs.declared.Fault.{Fault}
use Rattle.meaning.specs.declared.Fault.TheVariants.{Limits, Length, Scratch, Short, Kind, Number, Variable, Level, AfterEnd}
use Rattle.meaning.specs.declared.Refusal.{Refusal}
use Rattle.meaning.specs.declared.Ended.{Ended}
use Rattle.meaning.specs.declared.Totals.{Totals}
use Rattle.meaning.specs.declared.Place.{Place}
use Rattle.meaning.specs.declared.End.{End}
use Rattle.meaning.specs.declared.End.TheVariants.{NoMore, Wanted, Budget, Cells, Steps, Work, Output}
use Rattle.meaning.specs.Call.{Result, refusal, end}

unfoldable pub fault_number : Fault → ℕ
fault_number Limits = 1
fault_number Length = 2
fault_number Scratch = 3
fault_number Short = 4
fault_number Kind = 5
fault_number Number = 6
fault_number Variable = 7
fault_number Level = 8
fault_number AfterEnd = 9

-- the fault with a number from 1 to 9
abbrev pub fault_of : ℕ → Fault
fault_of n =
    if eqb n 1 then Limits else (if eqb n 2 then Length else (if eqb n 3 then Scratch else (if eqb n 4 then Short else
    (if eqb n 5 then Kind else (if eqb n 6 then Number else (if eqb n 7 then Variable else (if eqb n 8 then Level else AfterEnd)))))))

unfoldable pub end_number : End → ℕ
end_number NoMore = 20
end_number Wanted = 21
end_number Budget = 22
end_number Cells = 23
end_number Steps = 24
end_number Work = 25
end_number Output = 26

-- a refusal's number and place, or an end's number, answers, units and bytes
pub data Said : Type 0 where
  refused_as : ℕ → ℕ → Said
  ended_as : ℕ → ℕ → ℕ → ℕ → Said

-- what an outcome says, and what a result has it say
abbrev pub Outcome : Type 0
Outcome = ResultOf Ended Refusal

abbrev pub refused_with : Fault → Place → Outcome
refused_with f p = Err (record { fault = f; place = p })

abbrev pub ended_with : End → Totals → Outcome
ended_with e t = Ok (record { end = e; totals = t })

unfoldable pub says : Outcome → Said
says (Err r) = refused_as (fault_number r.fault) r.place.0
says (Ok e) = ended_as (end_number e.end) e.totals.answers e.totals.units e.totals.bytes

unfoldable pub to_say : Result → Said
to_say (refusal n p) = refused_as n p
to_say (end e n u b) = ended_as e n u (length b)
