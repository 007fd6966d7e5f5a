use Rattle.std.proofs.Common.{refl, arith}
use Rattle.text_writer.specs.Laws.{written_byte}
use Rattle.text_writer.proofs.sink.WriterSink.put.Goals as goal

pub returns : goal.returns
returns c =
    let w = c.args.self.now in
    record { written = written_byte w.out.now w.at c.args.byte (omega (arith, c.requires)); same_buffer = refl }
