-- `image_line::bytes`: a line's bytes give a mark as they promise.
use mathlib.Core.Path.{refl}
use native.Mathlib.Omega.{arith}
use Rattle.text_lexical.specs.Names.{present}
use Rattle.text.proofs.NameSets.{present-naming}
use Rattle.image_line.proofs.Places.{mark-reads}
use Rattle.image_line.proofs.Operands.{token-taken}
use Rattle.image_line.proofs.bytes.BytesOperandSource.mark.Goals as goal

pub returns : goal.returns
returns c =
    let s = c.args.self.now in
    let (k, m, r) = mark-reads present present-naming s.text.now s.at c.past_blanks-at.result c.past_blanks-at.ensures (omega (arith, c.if-self-at.false)) c.args.mark c.requires
    c.if-self-at-2.false in
    token-taken refl k m r
