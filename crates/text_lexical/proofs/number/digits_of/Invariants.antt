-- The loop's invariant: the digits passed, and the value of them all, which fits.
use Rattle.std.specs.Prelude.{Some}
use Rattle.text_lexical.proofs.Values.{Passed}
use Rattle.text_lexical.proofs.number.digits_of.Given as goal

abbrev pub invariant-loop-end : goal.invariant-loop-end
invariant-loop-end l = Passed l.radix l.text l.begin (Some l.value) l.end
