use Rattle.std.proofs.Common.{◌≡◌}
use Rattle.cells.specs.Cells.{freed}
use Rattle.cells.proofs.clear.Given as goal

abbrev pub invariant-loop-i : goal.invariant-loop-i
invariant-loop-i l = freed l.i l.from l.lay l.w ≡ freed l.count l.from l.lay l.initial.w
