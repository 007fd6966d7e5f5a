-- The loop's invariant: the digits passed, whose value does not fit.
use Rattle.std.specs.Prelude.{None}
use Rattle.text_lexical.proofs.Values.{Passed}
use Rattle.text_lexical.proofs.number.too_large.Given as goal

abbrev pub invariant-loop-end : goal.invariant-loop-end
invariant-loop-end l = Passed l.radix l.text l.begin None l.end
