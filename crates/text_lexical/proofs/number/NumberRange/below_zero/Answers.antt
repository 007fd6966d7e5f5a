-- `text_lexical::number::NumberRange::below_zero` meets its contract.
use Rattle.std.proofs.Common.{arith}
use borrow.Author.Tests.{not-true, not-false}
use Rattle.text_lexical.specs.Promised.{below_zero}
use Rattle.text_lexical.proofs.Numbers.{twice}
use Rattle.text_lexical.proofs.number.NumberRange.below_zero.Goals as goal

pub returns-then-not-self : goal.returns-then-not-self
unfolding below_zero
returns-then-not-self c = rw (not-true c.args.self.signed c.if-not-self.true)

pub returns : goal.returns
unfolding below_zero
returns c = rw (not-false c.args.self.signed c.if-not-self.false) (omega (arith, c.from.ensures, c.size.ensures, twice c.args.self.width c.requires.some_bits))
