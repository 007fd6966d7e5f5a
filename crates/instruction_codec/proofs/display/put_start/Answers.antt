use Rattle.instruction_codec.proofs.Pieces.{start-text}
use Rattle.text_writer.proofs.Sinks.{put_three}
use Rattle.instruction_codec.proofs.display.put_start.Goals as goal

pub put_mnemonic-requires : goal.put_mnemonic-requires
put_mnemonic-requires g c = (put_three g.met.S.Sink.laws (start-text c.args.mnemonic c.args.first) c.requires).first

pub put-requires : goal.put-requires
put-requires g c = (put_three g.met.S.Sink.laws (start-text c.args.mnemonic c.args.first) c.requires).second c.put_mnemonic.ensures

pub put_next-requires : goal.put_next-requires
put_next-requires g c = (put_three g.met.S.Sink.laws (start-text c.args.mnemonic c.args.first) c.requires).third c.put_mnemonic.ensures c.put.ensures

pub returns : goal.returns
returns g c = (put_three g.met.S.Sink.laws (start-text c.args.mnemonic c.args.first) c.requires).taken c.put_mnemonic.ensures c.put.ensures c.put_next.ensures
