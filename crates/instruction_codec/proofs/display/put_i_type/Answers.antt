use Rattle.instruction_codec.proofs.Pieces.{i-type-text}
use Rattle.text_writer.proofs.Sinks.{put_three}
use Rattle.instruction_codec.proofs.display.put_i_type.Goals as goal

pub put_start-requires : goal.put_start-requires
put_start-requires g c = (put_three g.met.S.Sink.laws (i-type-text c.args.mnemonic c.args.first c.args.second c.args.number) c.requires).first

pub put_next-requires : goal.put_next-requires
put_next-requires g c = (put_three g.met.S.Sink.laws (i-type-text c.args.mnemonic c.args.first c.args.second c.args.number) c.requires).second c.put_start.ensures

pub put_number-requires : goal.put_number-requires
put_number-requires g c = (put_three g.met.S.Sink.laws (i-type-text c.args.mnemonic c.args.first c.args.second c.args.number) c.requires).third c.put_start.ensures c.put_next.ensures

pub returns : goal.returns
returns g c = (put_three g.met.S.Sink.laws (i-type-text c.args.mnemonic c.args.first c.args.second c.args.number) c.requires).taken c.put_start.ensures c.put_next.ensures c.put_number.ensures
