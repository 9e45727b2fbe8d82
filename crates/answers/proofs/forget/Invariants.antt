use Rattle.std.proofs.Common.{◌≡◌}
use Rattle.answers.specs.Values.{forgotten}
use Rattle.answers.proofs.forget.Given as goal

abbrev pub invariant-loop-x : goal.invariant-loop-x
invariant-loop-x l = forgotten l.x l.lay l.w ≡ forgotten l.cells l.lay l.initial.w
