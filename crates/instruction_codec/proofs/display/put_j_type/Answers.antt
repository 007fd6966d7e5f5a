use Rattle.instruction_codec.proofs.Pieces.{j-type-text}
use Rattle.text_writer.proofs.Sinks.{put_two}
use Rattle.instruction_codec.proofs.display.put_j_type.Goals as goal

pub put_start-requires : goal.put_start-requires
put_start-requires g c = (put_two g.met.S.Sink.laws (j-type-text c.args.mnemonic c.args.rd c.args.offset) c.requires).first

pub put_number-requires : goal.put_number-requires
put_number-requires g c = (put_two g.met.S.Sink.laws (j-type-text c.args.mnemonic c.args.rd c.args.offset) c.requires).second c.put_start.ensures

pub returns : goal.returns
returns g c = (put_two g.met.S.Sink.laws (j-type-text c.args.mnemonic c.args.rd c.args.offset) c.requires).taken c.put_start.ensures c.put_number.ensures
