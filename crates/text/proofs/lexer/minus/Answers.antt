-- `text::lexer::minus` meets its contract.
use Rattle.std.proofs.Common.{arith, ◌+◌}
use Rattle.text_lexical.specs.declared.number.Radix.TheVariants.{Decimal}
use Rattle.text_lexical.specs.Names.{present}
use Rattle.text.proofs.NameSets.{present-naming}
use Rattle.text.proofs.Fronts.{digits_are, minus-alone, minus-found, minus-wide, minus-over}
use Rattle.text.proofs.lexer.minus.Goals as goal

pub returns-then-digits-begin : goal.returns-then-digits-begin
returns-then-digits-begin c =
    minus-alone present present-naming c.args.text.now c.args.at c.digits_at-digits.result c.requires.in_text c.requires.minus_here
    (digits_are Decimal c.args.text.now (c.args.at + 1) c.digits_at-digits.result (omega arith) c.digits_at-digits.ensures) c.if-digits-begin.true

pub returns-in-Some : goal.returns-in-Some
returns-in-Some c =
    rw c.found.ensures
    (minus-found present present-naming c.args.text.now c.args.at c.digits_at-digits.result c.requires.in_text c.requires.minus_here
    (digits_are Decimal c.args.text.now (c.args.at + 1) c.digits_at-digits.result (omega arith) c.digits_at-digits.ensures) c.if-digits-begin.false c.in-Some.magnitude c.in-Some.is (omega arith))

pub returns-in_default : goal.returns-in_default
returns-in_default c =
    minus-over present present-naming c.args.text.now c.args.at c.digits_at-digits.result c.requires.in_text c.requires.minus_here
    (digits_are Decimal c.args.text.now (c.args.at + 1) c.digits_at-digits.result (omega arith) c.digits_at-digits.ensures) c.if-digits-begin.false c.in-Some.magnitude c.in-Some.is (omega arith)

pub returns-in_default-2 : goal.returns-in_default-2
returns-in_default-2 c =
    minus-wide present present-naming c.args.text.now c.args.at c.digits_at-digits.result c.requires.in_text c.requires.minus_here
    (digits_are Decimal c.args.text.now (c.args.at + 1) c.digits_at-digits.result (omega arith) c.digits_at-digits.ensures) c.if-digits-begin.false c.in_default.is
