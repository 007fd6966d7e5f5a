-- `text_lexical::bytes::run_end_by_blocks` meets its contract.
use Rattle.std.proofs.Common.{◌≡◌, ◌-◌, ◌∙◌, sym, refl, arith, true, take, drop, length, length-drop}
use Rattle.std.proofs.Math.Seq.{take_all}
use Rattle.text_lexical.specs.Bytes.{every}
use Rattle.text_lexical.proofs.Strings.{run-block, blocks-begin, blocks-next}
use Rattle.text_lexical.proofs.bytes.run_end_by_blocks.Goals as goal

pub loop-block-init : goal.loop-block-init
loop-block-init g c =
    let s = c.args.text.now in
    let at = c.args.at in
    let w : take (length s - at) (drop at s) ≡ drop at s = take_all (length s - at) (drop at s) (omega (arith, length-drop at s)) in
    (blocks-begin g.row.N s at _ _ c.requires.in_text w c.as_chunks.ensures.front c.as_chunks.ensures.front_len, refl)

pub loop-block-preserved : goal.loop-block-preserved
loop-block-preserved g c =
    let s = c.args.text.now in
    let i = c.loop-block.i in
    let (block-is, in_text, rest) = blocks-next g.row.N s i c.as_chunks.result.0.now c.loop-block.block-index c.block-item.result c.loop-block.invariant.0 c.loop-block-test.true in
    let b : every g.C.Class.has (take g.row.N (drop i s)) ≡ true = rw (c.block-item.is ∙ block-is) at (sym c.has_all.ensures ∙ c.if-not-has_all.false) in
    (rest, omega (arith, c.loop-block.invariant.1, run-block g.C.Class.has g.row.N s i in_text b))

pub overflow_add-i : goal.overflow_add-i
overflow_add-i g c =
    omega (arith, (blocks-next g.row.N c.args.text.now c.loop-block.i c.as_chunks.result.0.now c.loop-block.block-index c.block-item.result c.loop-block.invariant.0 c.loop-block-test.true).1)

pub run_end-requires : goal.run_end-requires
run_end-requires g c = omega (arith, c.loop-block.invariant.0.in_text)

pub returns : goal.returns
returns g c = c.run_end.ensures ∙ c.loop-block.invariant.1
