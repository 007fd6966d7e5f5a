use Rattle.std.proofs.Common.{◌≡◌, ◌+◌, drop}
use Rattle.test_replay.specs.List.{through_empty, next_record}
use Rattle.test_replay.proofs.list.next_record.Given as goal

-- What is left up to the end of the empty line ends where all does.
abbrev pub invariant-loop-at : goal.invariant-loop-at
invariant-loop-at l = l.at + through_empty l.last (drop l.at l.list) ≡ next_record l.list l.fn.from
