-- The loop's invariant: what is left of the run is the run's rest, and the blocks that are left stand there.
use Rattle.std.proofs.Common.{◌≡◌, ◌+◌, drop}
use Rattle.text_lexical.specs.Bytes.{run}
use Rattle.text_lexical.proofs.Strings.{BlocksFrom}
use Rattle.text_lexical.proofs.bytes.run_end_by_blocks.Given as goal

abbrev pub invariant-loop-block : goal.invariant-loop-block
invariant-loop-block g l =
    BlocksFrom g.row.N l.text l.i (drop l.block-index l.block-items) × (l.i + run g.C.Class.has (drop l.i l.text) ≡ l.at + run g.C.Class.has (drop l.at l.text))
