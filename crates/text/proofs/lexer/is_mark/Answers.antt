-- `text::lexer::is_mark` meets its contract.
use Rattle.std.proofs.Common.{ap, ◌∙◌}
use Rattle.std.specs.Prelude.{Some}
use Rattle.std.specs.Prelude.{Option as Maybe}
use Rattle.std.specs.Option.{option_eq}
use Rattle.text.specs.declared.lexer.Kind.{Kind}
use Rattle.text.specs.contracts.lexer.KindPartialEq.TheImpl.{eq-value}
use Rattle.text.proofs.Marks.{same-mark}
use Rattle.text.proofs.lexer.is_mark.Goals as goal

pub returns : goal.returns
returns c = c.eq.ensures ∙ ap (λ (x : Maybe Kind). option_eq eq-value.it x (Some c.args.kind)) c.mark_kind.ensures ∙ same-mark c.args.kind c.args.byte
