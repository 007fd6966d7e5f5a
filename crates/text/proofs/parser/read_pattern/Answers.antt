-- `text::parser::read_pattern` meets its contract.
use Rattle.std.proofs.Common.{arith, ◌^◌}
use borrow.Author.Tests.{lt-ltb, le-ltb}
use Rattle.text.specs.Values.{read_pattern}
use Rattle.refusal.specs.Refusals.{refusals}
use Rattle.text.proofs.parser.read_pattern.Goals as goal

pub returns-then-from-bits : goal.returns-then-from-bits
unfolding read_pattern refusals
returns-then-from-bits c = rw (read_pattern, le-ltb c.args.bits (2 ^ c.args.range.width) (omega (arith, c.size.ensures, c.from.ensures, c.if-from-bits.true)))

pub returns : goal.returns
unfolding read_pattern
returns c = rw (read_pattern, lt-ltb c.args.bits (2 ^ c.args.range.width) (omega (arith, c.size.ensures, c.from.ensures, c.if-from-bits.false)))
