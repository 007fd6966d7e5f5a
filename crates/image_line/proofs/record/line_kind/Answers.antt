use native.Mathlib.Omega.{arith}
use Rattle.text_lexical.specs.Bytes.{bytes}
use Rattle.image_line.proofs.Records.{kind_directive}
use Rattle.image_line.proofs.record.line_kind.Goals as goal

pub returns-then-same : goal.returns-then-same
unfolding bytes
returns-then-same c = rw c.if-same.true at (kind_directive c.requires (omega (arith, c.if-line-eq0.false)) c.in-Directive.is (rw c.spelling.ensures at c.same.ensures))

pub returns-else-same : goal.returns-else-same
unfolding bytes
returns-else-same c = rw c.if-same.false at (kind_directive c.requires (omega (arith, c.if-line-eq0.false)) c.in-Directive.is (rw c.spelling.ensures at c.same.ensures))
