-- `text::parser::extract_number` meets its contract.
use Rattle.std.proofs.Common.{sym, ap, ◌∙◌}
use Rattle.text_lexical.specs.Numbers.{minus}
use Rattle.text_lexical.specs.Promised.{whole_meant, whole_for, range_meant}
use Rattle.text_lexical.proofs.Numbers.{whole-meant}
use Rattle.text.specs.Values.{read_number, read_decimal}
use Rattle.text.specs.Promised.{extract_for}
use Rattle.text.proofs.parser.extract_number.Goals as goal

pub read_decimal-requires-in-Negative-clause-settled : goal.read_decimal-requires-in-Negative-clause-settled
read_decimal-requires-in-Negative-clause-settled c =
    c.minus.ensures ∙ ap whole_for (sym (ap whole_meant c.minus.ensures ∙ whole-meant (minus c.in-Negative.magnitude)))

pub returns-in-Negative : goal.returns-in-Negative
unfolding read_number
returns-in-Negative c =
    rw c.in-Negative.is
    (c.read_decimal-in-Negative.ensures
    ∙ ap (λ z. extract_for (read_decimal (range_meant c.args.range) z)) (ap whole_meant c.minus.ensures ∙ whole-meant (minus c.in-Negative.magnitude)))
