-- The loop's invariant: whether every byte passed is of the class.
use Rattle.std.proofs.Common.{◌≡◌, take}
use Rattle.text_lexical.specs.Bytes.{every}
use Rattle.text_lexical.proofs.bytes.Class.has_all.Given as goal

abbrev pub invariant-loop-b : goal.invariant-loop-b
invariant-loop-b g l = l.all ≡ every g.Self.Class.has (take l.b-index l.block)
