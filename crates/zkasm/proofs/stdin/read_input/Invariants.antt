use Rattle.std.proofs.Common.{◌+◌, ◌-◌, ◌≡◌, length}
use Rattle.std.specs.Io.KnownBytes.{Consumes}
use Rattle.zkasm.specs.Stdin.{input_room}
use Rattle.zkasm.specs.Promised.{Received}
use Rattle.zkasm.specs.declared.stdin.Step.TheVariants.{Again}
use Rattle.zkasm.proofs.stdin.read_input.Given as goal

-- The bytes that came so far are the first that the input had left, and stand at the front of the buffer.
abbrev pub invariant-loop-more : goal.invariant-loop-more
invariant-loop-more g l =
    (input_room ≡ length l.piece) × ((r : Received l.initial.input l.input (Again l.filled l.tries)) × Consumes (g.R.Read.remaining l.initial.reader) (g.R.Read.remaining l.reader) r.came)

-- After each turn there is less room, or there are fewer tries.
abbrev pub decreases-loop-more : goal.decreases-loop-more
decreases-loop-more g l = input_room - l.filled + l.tries
