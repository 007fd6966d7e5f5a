use Rattle.instruction_codec.proofs.Pieces.{next-text}
use Rattle.text_writer.proofs.Sinks.{put_two}
use Rattle.instruction_codec.proofs.display.put_next.Goals as goal

pub put_register-requires : goal.put_register-requires
put_register-requires g c = (put_two g.met.S.Sink.laws (next-text c.args.register) c.requires).first

pub put_bytes-requires : goal.put_bytes-requires
put_bytes-requires g c = (put_two g.met.S.Sink.laws (next-text c.args.register) c.requires).second c.put_register.ensures

pub returns : goal.returns
returns g c = (put_two g.met.S.Sink.laws (next-text c.args.register) c.requires).taken c.put_register.ensures c.put_bytes.ensures
