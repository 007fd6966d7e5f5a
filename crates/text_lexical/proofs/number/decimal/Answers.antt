-- `text_lexical::number::decimal` meets its contract.
use Rattle.std.proofs.Common.{arith, sym, ◌∙◌}
use Rattle.text_lexical.proofs.Values.{decimal-some}
use Rattle.text_lexical.proofs.number.decimal.Goals as goal

pub overflow_cast-result : goal.overflow_cast-result
overflow_cast-result c = let (l, h, e) = decimal-some c.args.b c.in_ok-digit.digit (sym c.in_ok-digit.was ∙ c.digit.ensures) in omega arith
