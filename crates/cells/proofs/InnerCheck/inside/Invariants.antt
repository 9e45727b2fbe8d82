use Rattle.std.proofs.Common.{ℕ, List, Bool}
use Rattle.cells.specs.Cells.{Looks}
use Rattle.cells.proofs.InnerCheck.inside.Given as goal

abbrev pub invariant-loop-i : goal.invariant-loop-i
invariant-loop-i l = (r : Bool) (u : List ℕ) → Looks l.self.file.now l.self.lay l.self.stamp l.bound l.self.x.0 l.i l.listed l.w r u → Looks l.self.file.now l.self.lay l.self.stamp l.bound l.self.x.0 0 l.initial.listed l.initial.w r u
