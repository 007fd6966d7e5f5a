-- Each turn goes on to a later record, and puts what it puts into the one room.
use Rattle.std.proofs.Common.{length, ◌-◌, ◌≡◌}
use Rattle.test_replay.proofs.replay.compare.Given as goal

abbrev pub invariant-loop-at : goal.invariant-loop-at
invariant-loop-at g l = l.report.room.ghost_name ≡ l.fn.report.room.ghost_name

abbrev pub decreases-loop-at : goal.decreases-loop-at
decreases-loop-at g l = length l.list - l.at
