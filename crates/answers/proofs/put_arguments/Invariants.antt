use Rattle.std.proofs.Common.{◌≡◌}
use Rattle.answers.specs.Values.{arguments_put}
use Rattle.answers.proofs.put_arguments.Given as goal

abbrev pub invariant-loop-i : goal.invariant-loop-i
invariant-loop-i l = arguments_put l.i l.due l.base.0 l.p.0 l.lay l.w ≡ arguments_put l.arity l.due l.base.0 l.initial.p.0 l.lay l.initial.w
