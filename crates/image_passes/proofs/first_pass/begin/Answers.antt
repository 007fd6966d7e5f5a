use Rattle.std.proofs.Common.{◌≡◌, ap, ◌∙◌, length, take}
use native.Mathlib.Omega.{arith}
use Rattle.text_lexical.specs.Bytes.{ascii, run}
use Rattle.text.specs.Lines.{lines}
use Rattle.image_passes.proofs.Answers.{begins-high, begins-first}
use Rattle.image_passes.proofs.first_pass.begin.Goals as goal

pub returns-then-clean-source : goal.returns-then-clean-source
returns-then-clean-source c =
    let s = c.args.source.now in
    let clean : c.ascii_end-clean.result ≡ run ascii s = c.ascii_end-clean.ensures ∙ omega arith in
    begins-high s (rw (← clean) c.if-clean-source.true) (c.line_number.ensures ∙ ap (λ n. length (lines (take n s))) clean)

pub returns : goal.returns
returns c =
    let s = c.args.source.now in
    let clean : c.ascii_end-clean.result ≡ run ascii s = c.ascii_end-clean.ensures ∙ omega arith in
    begins-first s c.begin.result c.begin.ensures (rw (← clean) c.if-clean-source.false)
