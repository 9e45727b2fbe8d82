use Rattle.std.proofs.Common.{ℕ, List, ◌-◌}
use Rattle.std.specs.Prelude.{Option}
use Rattle.cells.specs.Cells.{Scan}
use Rattle.cells.proofs.InnerCheck.scan_from.Given as goal

abbrev pub invariant-loop-p : goal.invariant-loop-p
invariant-loop-p l = (r : Option ℕ) (u : List ℕ) → Scan l.self.file.now l.self.lay l.self.stamp l.self.x.0 l.h.base.0 l.end l.p l.n l.w r u
    → Scan l.self.file.now l.self.lay l.self.stamp l.self.x.0 l.h.base.0 l.end l.initial.p l.initial.n l.initial.w r u

abbrev pub decreases-loop-p : goal.decreases-loop-p
decreases-loop-p l = l.end - l.p
