use Rattle.std.proofs.Common.{rules, arith, ◌<◌, ◌≤◌, length}
use Rattle.embedded.proofs.embedded.Goals as goal
use Rattle.embedded.proofs.CallLaws.{embed_long, embed_runs}

pub returns-then-too_long : goal.returns-then-too_long
returns-then-too_long c = let h : 4_000 < length c.args.file.now = omega (arith, c.if-too_long.true) in search (embed_long, rules)

pub returns : goal.returns
returns c = let h : length c.args.file.now ≤ 4_000 = omega (arith, c.if-too_long.false) in search (embed_runs, rules)
