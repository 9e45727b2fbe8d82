use Rattle.std.proofs.Common.{List, ℕ, Result}
use Rattle.answers.specs.declared.Stopped.{Stopped}
use Rattle.answers.specs.declared.Tally.{Tally}
use Rattle.answers.specs.Values.{Values, none_yet}
use Rattle.answers.specs.contracts.Derivation.values.{WRITE-type}
use Rattle.answers.proofs.Derivation.values.Given as goal

-- what is left to write comes to the same
abbrev pub invariant-loop-x : goal.invariant-loop-x
invariant-loop-x g l =
    let Values_of : ℕ → Tally → List ℕ → List ℕ → Result Tally Stopped → List ℕ → List ℕ → Type 0 =
    Values l.self.file.now l.self.lay l.self.limit (WRITE-type (denote.Param.number g.row.WRITE)) l.self.hops l.self.variables in
    (r : Result Tally Stopped) (v p : List ℕ) → Values_of l.x l.t l.w l.out r v p → Values_of 0 none_yet l.initial.w l.initial.out r v p
