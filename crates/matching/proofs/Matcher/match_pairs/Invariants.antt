use Rattle.std.proofs.Common.{◌≤◌, List, ℕ, max}
use Rattle.matching.specs.Matching.{MatchesPairs}
use Rattle.matching.specs.declared.Matched.{Matched}
use Rattle.matching.proofs.Matcher.match_pairs.Given as goal

abbrev pub invariant-loop-unit : goal.invariant-loop-unit
invariant-loop-unit l = record {
  rest : (r : Matched) (u : List ℕ) → MatchesPairs l.self.file.now l.self.lay l.self.limit l.budget l.self.cells l.pairs.trail l.pairs.work l.pairs.fresh l.unit l.w r u
      → MatchesPairs l.self.file.now l.self.lay l.self.limit l.budget l.self.cells l.fn.first.trail l.fn.first.work l.fn.first.fresh l.spent l.initial.w r u;
  no_further : l.unit ≤ max l.spent l.budget;
}
