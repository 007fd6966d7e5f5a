-- `text::lexer::decimal` meets its contract.
use Rattle.std.proofs.Common.{arith}
use Rattle.text_lexical.specs.declared.number.Radix.TheVariants.{Decimal}
use Rattle.text_lexical.specs.Names.{present}
use Rattle.text.proofs.NameSets.{present-naming}
use Rattle.text.proofs.Fronts.{digits_are, decimal-found, decimal-wide, decimal-over}
use Rattle.text.proofs.lexer.decimal.Goals as goal

pub returns-in-Some : goal.returns-in-Some
returns-in-Some c =
    rw c.found.ensures
    (decimal-found present present-naming c.args.text.now c.args.at c.digits_at-digits.result c.requires
    (digits_are Decimal c.args.text.now c.args.at c.digits_at-digits.result (omega arith) c.digits_at-digits.ensures) c.in-Some.magnitude c.in-Some.is (omega arith))

pub returns-in_default : goal.returns-in_default
returns-in_default c =
    decimal-over present present-naming c.args.text.now c.args.at c.digits_at-digits.result c.requires
    (digits_are Decimal c.args.text.now c.args.at c.digits_at-digits.result (omega arith) c.digits_at-digits.ensures) c.in-Some.magnitude c.in-Some.is (omega arith)

pub returns-in_default-2 : goal.returns-in_default-2
returns-in_default-2 c =
    decimal-wide present present-naming c.args.text.now c.args.at c.digits_at-digits.result c.requires
    (digits_are Decimal c.args.text.now c.args.at c.digits_at-digits.result (omega arith) c.digits_at-digits.ensures) c.in_default.is
