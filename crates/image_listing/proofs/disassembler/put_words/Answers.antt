use Rattle.refusal.specs.Refusals.{number_of}
use Rattle.text_writer.proofs.Sinks.{left-fits, left-next}
use Rattle.instruction.specs.Promised.{instruction_meant}
use Rattle.image.specs.Listing.{refusal}
use Rattle.image_listing.proofs.Texts.{puts-all, first-faulty, line-left, puts-next}
use Rattle.image_listing.proofs.disassembler.put_words.Goals as goal

pub returns-in-Err : goal.returns-in-Err
unfolding refusal
returns-in-Err g c =
    let L = g.met.S.Sink.laws in
    first-faulty c.args.code.now c.as_chunks.ensures.front L c.loop-index.invariant
    c.loop-index-test.true c.from_le_bytes.ensures (number_of c.in-Err.refusal) c.in-Err.ensures.means

pub put_instruction-requires : goal.put_instruction-requires
put_instruction-requires g c =
    let L = g.met.S.Sink.laws in
    let line = line-left c.args.code.now c.as_chunks.ensures.front L c.loop-index.invariant c.loop-index-test.true c.from_le_bytes.ensures in
    left-fits L _ (line (instruction_meant c.in-Ok.instruction) c.in-Ok.ensures.means)

pub put_line_end-requires : goal.put_line_end-requires
put_line_end-requires g c =
    let L = g.met.S.Sink.laws in
    let line = line-left c.args.code.now c.as_chunks.ensures.front L c.loop-index.invariant c.loop-index-test.true c.from_le_bytes.ensures in
    left-fits L _ (left-next L c.put_instruction.ensures (line (instruction_meant c.in-Ok.instruction) c.in-Ok.ensures.means))

pub loop-index-preserved : goal.loop-index-preserved
loop-index-preserved g c =
    let L = g.met.S.Sink.laws in
    puts-next c.args.code.now c.as_chunks.ensures.front L c.loop-index.invariant
    c.loop-index-test.true c.from_le_bytes.ensures (instruction_meant c.in-Ok.instruction) c.in-Ok.ensures.means c.put_instruction.ensures c.put_line_end.ensures

pub returns : goal.returns
returns g c =
    let L = g.met.S.Sink.laws in
    puts-all c.args.code.now c.as_chunks.ensures.front L c.loop-index.invariant c.loop-index-test.false
