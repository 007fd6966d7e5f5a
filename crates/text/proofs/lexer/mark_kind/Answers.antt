-- `text::lexer::mark_kind` meets its contract.
use Rattle.std.proofs.Common.{arith, refl}
use Rattle.text_lexical.specs.Bytes.{mark}
use Rattle.text.specs.Tokens.{mark_token}
use Rattle.text.specs.Promised.{mark_kind}
use Rattle.text.proofs.Marks.{mark-no}
use Rattle.text.proofs.lexer.mark_kind.Goals as goal

pub returns-in-44 : goal.returns-in-44
unfolding mark_kind mark mark_token
returns-in-44 c = rw c.in-44.is refl

pub returns-in-58 : goal.returns-in-58
unfolding mark_kind mark mark_token
returns-in-58 c = rw c.in-58.is refl

pub returns-in-40 : goal.returns-in-40
unfolding mark_kind mark mark_token
returns-in-40 c = rw c.in-40.is refl

pub returns-in-41 : goal.returns-in-41
unfolding mark_kind mark mark_token
returns-in-41 c = rw c.in-41.is refl

pub returns-in_default : goal.returns-in_default
unfolding mark_kind
returns-in_default c = rw (mark_kind, mark-no c.args.byte (λ e. omega arith) (λ e. omega arith) (λ e. omega arith) (λ e. omega arith))
