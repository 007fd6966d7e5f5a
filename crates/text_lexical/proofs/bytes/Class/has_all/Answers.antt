-- `text_lexical::bytes::Class::has_all` meets its contract.
use Rattle.std.proofs.Common.{◌<◌, ◌∙◌, sym, refl, arith, add-one, length}
use Rattle.std.proofs.Math.Seq.{take_all}
use Rattle.text_lexical.specs.Bytes.{every}
use Rattle.text_lexical.proofs.Strings.{every-yes, every-no}
use Rattle.text_lexical.proofs.bytes.Class.has_all.Goals as goal
use Rattle.text_lexical.proofs.bytes.Class.has_all.Goals.{then-not-has, else-not-has}

pub loop-b-init : goal.loop-b-init
unfolding every
loop-b-init g c = refl

pub loop-b-preserved : goal.loop-b-preserved
loop-b-preserved g c =
    let has = g.Self.Class.has in
    let s = c.args.block.now in
    let j = c.loop-b.b-index in
    let l : j < length s = omega arith in
    rw (add-one j)
    (elim c.if-not-has.branch [
      | then-not-has w ↦ w.all-is ∙ sym (every-no has s j l (sym c.has.ensures ∙ w.if-not-has.true))
      | else-not-has w ↦ w.all-is ∙ c.loop-b.invariant ∙ sym (every-yes has s j l (sym c.has.ensures ∙ w.if-not-has.false))
    ])

pub returns : goal.returns
returns g c = rw (take_all c.loop-b.b-index c.args.block.now (omega arith)) at c.loop-b.invariant
