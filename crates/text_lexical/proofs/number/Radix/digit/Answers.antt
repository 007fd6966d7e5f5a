-- `text_lexical::number::Radix::digit` meets its contract.
use Rattle.std.proofs.Common.{arith}
use Rattle.text_lexical.proofs.Values.{library-digit}
use Rattle.text_lexical.proofs.number.Radix.digit.Goals as goal

pub returns : goal.returns
returns c = library-digit c.args.self c.args.b (omega arith) _ (rw (c.from.ensures, c.base.ensures) at c.to_digit.ensures.value)
