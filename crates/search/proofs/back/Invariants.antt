use Rattle.search.proofs.back.Given as goal
use Rattle.search.proofs.Laws.{Backing}

abbrev pub invariant-loop-c : goal.invariant-loop-c
invariant-loop-c l = Backing l.lay l.m l.initial.trail l.initial.c l.initial.w l.trail l.c l.w

abbrev pub decreases-loop-c : goal.decreases-loop-c
decreases-loop-c l = l.c
