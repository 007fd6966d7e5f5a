use Rattle.std.proofs.Common.{length, ◌-◌}
use Rattle.text_lexical.specs.Names.{present}
use Rattle.image_passes.proofs.Scanning.{Scanning}
use Rattle.image_passes.proofs.first_pass.read_on.Given as goal

-- Reading on from the cursor comes to what it comes to from the first one.
abbrev pub invariant-loop-length : goal.invariant-loop-length
invariant-loop-length l = Scanning present l.source l.fn.from l.cursor

abbrev pub decreases-loop-length : goal.decreases-loop-length
decreases-loop-length l = length l.source - l.cursor.at
