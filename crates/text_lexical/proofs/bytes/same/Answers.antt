-- `text_lexical::bytes::same` meets its contract.
use Rattle.std.proofs.Common.{◌∙◌}
use Rattle.text_lexical.proofs.Strings.{pointwise-same}
use Rattle.text_lexical.proofs.bytes.same.Goals as goal

pub returns : goal.returns
returns c = c.eq.ensures ∙ pointwise-same _ _
