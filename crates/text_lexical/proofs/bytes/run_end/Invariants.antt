-- The loop's invariant: what is left of the run is the run's rest.
use Rattle.std.proofs.Common.{◌≡◌, ◌+◌, drop}
use Rattle.text_lexical.specs.Bytes.{run}
use Rattle.text_lexical.proofs.bytes.run_end.Given as goal

abbrev pub invariant-loop-i : goal.invariant-loop-i
invariant-loop-i g l = l.i + run g.C.Class.has (drop l.i l.text) ≡ l.at + run g.C.Class.has (drop l.at l.text)
