use Rattle.std.proofs.Common.{◌≡◌}
use Rattle.cells.specs.Cells.{undone}
use Rattle.cells.proofs.undo.Given as goal

abbrev pub invariant-loop-t : goal.invariant-loop-t
invariant-loop-t l = undone l.t l.mark l.lay l.w ≡ undone l.trail l.mark l.lay l.initial.w
