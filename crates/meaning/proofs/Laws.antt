-- The numbers of faults and ends are those of document 01.
-- Assumes nothing.
use Prim.Native.Nat.{◌+◌}
use mathlib.Core.Path.{◌≡◌, refl}
use denote.Enum.Declared.{tag_of}
use Rattle.meaning.specs.Outcome.{fault_number, end_number}
use Rattle.meaning.specs.declared.Fault.{Fault}
use Rattle.meaning.specs.declared.Fault.TheVariants.{Limits, Length, Scratch, Short, Kind, Number, Variable, Level, AfterEnd}
use Rattle.meaning.specs.declared.End.{End}
use Rattle.meaning.specs.declared.End.TheVariants.{NoMore, Wanted, Budget, Cells, Steps, Work, Output}
use Rattle.meaning.specs.contracts.Fault.{the_type as fault_type}
use Rattle.meaning.specs.contracts.End.{the_type as end_type}

pub fault_tag : (f : Fault) → tag_of fault_type f + 1 ≡ fault_number f
unfolding fault_number
fault_tag Limits = refl
fault_tag Length = refl
fault_tag Scratch = refl
fault_tag Short = refl
fault_tag Kind = refl
fault_tag Number = refl
fault_tag Variable = refl
fault_tag Level = refl
fault_tag AfterEnd = refl

pub end_tag : (e : End) → tag_of end_type e + 20 ≡ end_number e
unfolding end_number
end_tag NoMore = refl
end_tag Wanted = refl
end_tag Budget = refl
end_tag Cells = refl
end_tag Steps = refl
end_tag Work = refl
end_tag Output = refl
