use Rattle.std.proofs.Common.{◌≤◌, length, max}
use Rattle.test_replay.proofs.Reading.{Unread}
use Rattle.test_replay.proofs.list.number_in.Given as goal

-- What is read so far, and the digits that are left behind it, have the value of all. A number past the list's end has none.
abbrev pub invariant-loop-at : goal.invariant-loop-at
invariant-loop-at l = (l.at ≤ max l.fn.from (length l.list)) × Unread l.radix l.list l.fn.from l.value l.at
