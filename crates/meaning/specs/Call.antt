-- The whole call: its result, and what it leaves in the output and in scratch, for every input.
-- Assumes nothing.
use Rattle.std.specs.Prelude.{ℕ, ◌+◌, ◌*◌, Bool, ◌&&◌, not, List, ◌++◌, leb, ltb, length, drop, replicate}
use Rattle.meaning.specs.If.{when◌then◌else◌}
use Rattle.meaning.specs.Kinds.{file_limit}
use Rattle.meaning.specs.Editions.{Edition, todays}
use Rattle.meaning.specs.Rules.{Rules}
use Rattle.meaning.specs.Reading.{Read, refused, read, parse_within}
use Rattle.meaning.specs.Answers.{output}
use Rattle.meaning.specs.Moves.{Limits, Done, run, start_keeping}

-- "an end number, answers written, units spent, bytes written; for a refusal, its number and place"
pub data Result : Type 0 where
  refusal : ℕ → ℕ → Result
  end : ℕ → ℕ → ℕ → List ℕ → Result

-- "cells C and steps S 1 to 60,000; work W 8 to 60,000"
unfoldable pub in_range : Limits → Bool
in_range L =
    leb 1 L.cells && leb L.cells 60_000 && leb 1 L.steps && leb L.steps 60_000 && leb 8 L.work && leb L.work 60_000

-- "scratch needs 64 + 2F + 4C + 8S + 4W words"
unfoldable pub needed : ℕ → Limits → ℕ
needed F L = 64 + 2 * F + 4 * L.cells + 8 * L.steps + 4 * L.work

unfoldable pub ending : ℕ × Done → Result
ending r = end r.0 (length r.1.listed) r.1.units (output r.1.listed)

-- a file that was read is run, by the rules of an edition
unfoldable pub run_read : Edition → Read Rules → Limits → ℕ → ℕ → ℕ → Result
run_read E (refused n p) L budget wanted room = refusal n p
run_read E (read R seen at) L budget wanted room = ending (run R L wanted room budget (start_keeping R L wanted room E.query_keeps))

-- "1, 2, 3 are tested in that order, place 0. Then the file is read forward"
unfoldable pub result_by : Edition → List ℕ → Limits → ℕ → ℕ → ℕ → ℕ → Result
result_by E file L budget wanted scratch room =
    let good : Result = run_read E (parse_within file E.limits) L budget wanted room in
    when not (in_range L) then refusal 1 0 else
    when ltb file_limit (length file) then refusal 2 0 else
    when ltb scratch (needed (length file) L) then refusal 3 0 else
    good

-- by today's rules
abbrev pub result : List ℕ → Limits → ℕ → ℕ → ℕ → ℕ → Result
result = result_by todays

-- "output beyond the bytes written is unchanged"; a refusal leaves it as it was
unfoldable pub output_after : Result → List ℕ → List ℕ
output_after (refusal n p) out = out
output_after (end e n u b) out = b ++ drop (length b) out

-- "After an end the needed scratch words are zero and the rest unchanged"; a refusal leaves it as it was
unfoldable pub scratch_after : Result → ℕ → List ℕ → List ℕ
scratch_after (refusal n p) words scratch = scratch
scratch_after (end e n u b) words scratch = replicate words 0 ++ drop words scratch
