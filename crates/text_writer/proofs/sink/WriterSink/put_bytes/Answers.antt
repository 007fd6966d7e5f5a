use mathlib.Core.Path.{refl}
use Rattle.text_writer.proofs.Writing.{written-copied}
use Rattle.text_writer.proofs.sink.WriterSink.put_bytes.Goals as goal

pub returns : goal.returns
returns c =
    let w = c.args.self.now in
    let k = c.copy_from_slice in
    record { written = written-copied w.out.now w.at c.args.bytes.now k.new.self k.ensures.after; same_buffer = refl }
