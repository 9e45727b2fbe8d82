use Rattle.embedded.proofs.pegplanet_run.Goals as goal
use Rattle.embedded.proofs.CallLaws.{embed_all, embed_some, room_part}

-- src/lib.rt:108:52
pub slice_bounds-embedded-end-then-out-gt4000000000 : goal.slice_bounds-embedded-end-then-out-gt4000000000
slice_bounds-embedded-end-then-out-gt4000000000 c = search room_part

-- src/lib.rt:108:9
pub returns-then-out-gt4000000000 : goal.returns-then-out-gt4000000000
returns-then-out-gt4000000000 c = search embed_some

-- src/lib.rt:103:1
pub returns : goal.returns
returns c = search embed_all
