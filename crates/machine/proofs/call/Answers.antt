use Rattle.machine.proofs.call.Goals as goal
use Rattle.machine.proofs.CallLaws.{call_limits, call_long, call_scratch}

pub returns-then-not-in_limits : goal.returns-then-not-in_limits
returns-then-not-in_limits c = search call_limits

pub returns-then-file-gt-FILE_LIMIT : goal.returns-then-file-gt-FILE_LIMIT
returns-then-file-gt-FILE_LIMIT c = search call_long

pub returns-then-w-words_needed : goal.returns-then-w-words_needed
returns-then-w-words_needed c = search call_scratch
