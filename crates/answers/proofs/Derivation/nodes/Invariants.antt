use Rattle.std.proofs.Common.{◌-◌, List, length, ℕ, Result}
use Rattle.answers.specs.declared.Stopped.{Stopped}
use Rattle.answers.specs.declared.Tally.{Tally}
use Rattle.answers.specs.Values.{Nodes}
use Rattle.answers.specs.contracts.Derivation.nodes.{WRITE-type}
use Rattle.answers.proofs.Derivation.nodes.Given as goal

-- what is left to write comes to the same
abbrev pub invariant-loop-due : goal.invariant-loop-due
invariant-loop-due g l =
    let Nodes_of : Tally → List ℕ → List ℕ → Result Tally Stopped → List ℕ → List ℕ → Type 0 =
    Nodes l.self.file.now l.self.lay l.self.limit (WRITE-type (denote.Param.number g.row.WRITE)) l.self.hops in
    (r : Result Tally Stopped) (v p : List ℕ) → Nodes_of l.t l.w l.out r v p → Nodes_of l.initial.t l.initial.w l.initial.out r v p

-- each record takes of the room
abbrev pub decreases-loop-due : goal.decreases-loop-due
decreases-loop-due g l = length l.out - l.t.size
