use Rattle.std.proofs.Common.{◌≡◌, ◌-◌}
use Rattle.cells.specs.Cells.{followed}
use Rattle.cells.proofs.follow.Given as goal

abbrev pub invariant-loop : goal.invariant-loop
invariant-loop l = followed (l.hops - l.counter) l.file l.w l.lay l.at ≡ followed l.hops l.file l.w l.lay l.initial.at
