-- `text::lexer::prefixed` meets its contract.
use Rattle.std.proofs.Common.{arith, ◌+◌}
use Rattle.text_lexical.specs.Names.{present}
use Rattle.text.proofs.NameSets.{present-naming}
use Rattle.text.proofs.Fronts.{digits_are, prefix-alone, prefix-found, prefix-wide}
use Rattle.text.proofs.lexer.prefixed.Goals as goal

pub decimal-requires : goal.decimal-requires
decimal-requires c =
    prefix-alone present present-naming c.args.text.now c.args.at c.args.radix c.digits_at-digits.result c.requires
    (digits_are c.args.radix c.args.text.now (c.args.at + 2) c.digits_at-digits.result (omega arith) c.digits_at-digits.ensures) c.if-digits-begin.true

pub returns-in-Some : goal.returns-in-Some
returns-in-Some c =
    rw (c.found.ensures, c.pattern.ensures)
    (prefix-found present present-naming c.args.text.now c.args.at c.args.radix c.digits_at-digits.result c.requires
    (digits_are c.args.radix c.args.text.now (c.args.at + 2) c.digits_at-digits.result (omega arith) c.digits_at-digits.ensures) c.if-digits-begin.false c.in-Some.magnitude c.in-Some.is)

pub returns-in-None : goal.returns-in-None
returns-in-None c =
    prefix-wide present present-naming c.args.text.now c.args.at c.args.radix c.digits_at-digits.result c.requires
    (digits_are c.args.radix c.args.text.now (c.args.at + 2) c.digits_at-digits.result (omega arith) c.digits_at-digits.ensures) c.if-digits-begin.false c.in-None.is
