-- `image_passes::first_pass::line_number` meets its contract.
use Rattle.std.proofs.Common.{◌+◌, ◌∙◌, ap, take, take_all}
use Rattle.std.specs.Prelude.{not, count_by}
use Rattle.text_lexical.specs.Bytes.{inside}
use Rattle.image_passes.proofs.Passes.{lines_count}
use Rattle.image_passes.proofs.first_pass.line_number.Goals as goal

pub returns : goal.returns
returns c =
    let u = take c.args.place c.args.source.now in
    let k = c.loop-byte in
    k.invariant ∙ ap (λ v. 1 + count_by (λ b. not (inside b)) v) (take_all k.byte-index u c.loop-byte-test.false) ∙ lines_count u
