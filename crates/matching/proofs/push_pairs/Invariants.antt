use Rattle.std.proofs.Common.{◌≡◌}
use Rattle.matching.specs.Matching.{pushed}
use Rattle.matching.proofs.push_pairs.Given as goal

abbrev pub invariant-loop-i : goal.invariant-loop-i
invariant-loop-i l = pushed l.i l.work l.lay l.goal l.head l.w ≡ pushed l.n l.work l.lay l.fn.g l.fn.h l.initial.w
