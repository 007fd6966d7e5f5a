use Rattle.std.proofs.Common.{◌≡◌, length}
use Rattle.test_replay.proofs.Lines.{Left}
use Rattle.test_replay.proofs.list.line_at.Given as goal

-- What is left of the line makes of the room, whose length stays, what is promised.
abbrev pub invariant-loop-place : goal.invariant-loop-place
invariant-loop-place l = (length l.room ≡ length l.fn.room) × (l.end ≡ l.last) × Left l.list l.fn.from l.fn.room l.room l.place l.at
