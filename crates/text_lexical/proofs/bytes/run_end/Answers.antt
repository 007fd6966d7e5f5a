-- `text_lexical::bytes::run_end` meets its contract.
use Rattle.std.proofs.Common.{◌∙◌, sym, arith, add-one}
use Rattle.text_lexical.proofs.Strings.{run-yes, run-no, run_end}
use Rattle.text_lexical.proofs.bytes.run_end.Goals as goal

pub loop-i-preserved : goal.loop-i-preserved
loop-i-preserved g c =
    let y = run-yes g.C.Class.has c.args.text.now c.loop-i.i (omega arith) (sym c.has.ensures ∙ c.if-not-has.false) in
    rw (add-one c.loop-i.i) (omega (arith, c.loop-i.invariant, y))

pub returns-then-not-has : goal.returns-then-not-has
returns-then-not-has g c =
    omega (arith, c.loop-i.invariant, run-no g.C.Class.has c.args.text.now c.loop-i.i (omega arith) (sym c.has.ensures ∙ c.if-not-has.true))

pub returns : goal.returns
returns g c = omega (arith, c.loop-i.invariant, run_end g.C.Class.has c.args.text.now c.loop-i.i (omega arith))
