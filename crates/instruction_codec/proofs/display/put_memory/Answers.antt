use Rattle.instruction_codec.proofs.Pieces.{memory-text}
use Rattle.text_writer.proofs.Sinks.{put_three}
use Rattle.instruction_codec.proofs.display.put_memory.Goals as goal

pub put_start-requires : goal.put_start-requires
put_start-requires g c = (put_three g.met.S.Sink.laws (memory-text c.args.mnemonic c.args.register c.args.base c.args.number) c.requires).first

pub put_number-requires : goal.put_number-requires
put_number-requires g c = (put_three g.met.S.Sink.laws (memory-text c.args.mnemonic c.args.register c.args.base c.args.number) c.requires).second c.put_start.ensures

pub put_base-requires : goal.put_base-requires
put_base-requires g c = (put_three g.met.S.Sink.laws (memory-text c.args.mnemonic c.args.register c.args.base c.args.number) c.requires).third c.put_start.ensures c.put_number.ensures

pub returns : goal.returns
returns g c = (put_three g.met.S.Sink.laws (memory-text c.args.mnemonic c.args.register c.args.base c.args.number) c.requires).taken c.put_start.ensures c.put_number.ensures c.put_base.ensures
