use Rattle.std.proofs.Common.{length, ◌≤◌}
use Rattle.test_vectors.proofs.pieces.put_repeated.Given as goal

abbrev pub invariant-loop : goal.invariant-loop
invariant-loop g l = l.end ≤ length l.room
