use Rattle.std.proofs.Common.{◌-◌, ◌≤◌, length}
use Rattle.reading.specs.Each.{RowOf}
use Rattle.records.specs.Numbers.{number}
use Rattle.reading.proofs.row.read_row.Given as goal

abbrev pub invariant-loop-kind : goal.invariant-loop-kind
invariant-loop-kind g l =
    record {
      fits : l.records ≤ l.at;
      so_far : (r : _) → RowOf (goal.F-post g l.one) l.file (number l.kind) (record { records = l.records; at = l.at }) r
          → RowOf (goal.F-post g l.one) l.file (number l.kind) (record { records = 0; at = l.start }) r;
    }

abbrev pub decreases-loop-kind : goal.decreases-loop-kind
decreases-loop-kind g l = length l.file - l.at
