use Rattle.std.proofs.Common.{◌≡◌, ◌-◌}
use Rattle.answers.specs.Written.{steps_put}
use Rattle.answers.proofs.put_steps.Given as goal

abbrev pub invariant-loop-i : goal.invariant-loop-i
invariant-loop-i l = steps_put (l.steps - l.i) l.i l.lay l.w l.at l.out ≡ steps_put l.steps 0 l.lay l.w l.at l.initial.out
