-- `text_lexical::number::Whole::residue` meets its contract.
use Rattle.std.proofs.Common.{suc, ◌∙◌, sym}
use Rattle.text_lexical.specs.Promised.{whole_meant}
use Rattle.text_lexical.proofs.Numbers.{remainder-negative, remainder-other, negative-some, reduced}
use Rattle.text_lexical.proofs.number.Whole.residue.Goals as goal

pub overflow_sub-magnitude : goal.overflow_sub-magnitude
overflow_sub-magnitude c = rw c.magnitude.ensures (negative-some (whole_meant c.args.self) (sym c.is_negative.ensures ∙ c.if-is_negative.true))

pub returns-then-is_negative : goal.returns-then-is_negative
returns-then-is_negative c =
    reduced (suc c.args.most) _ _
    (rw (c.wrapped.ensures, c.magnitude.ensures) (sym (remainder-negative c.args.most (whole_meant c.args.self) (sym c.is_negative.ensures ∙ c.if-is_negative.true))))

pub returns : goal.returns
returns c =
    reduced (suc c.args.most) _ _
    (rw (c.wrapped-2.ensures, c.magnitude-2.ensures) (sym (remainder-other c.args.most (whole_meant c.args.self) (sym c.is_negative.ensures ∙ c.if-is_negative.false))))
