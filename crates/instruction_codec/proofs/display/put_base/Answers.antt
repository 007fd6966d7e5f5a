use Rattle.instruction_codec.proofs.Pieces.{base-text}
use Rattle.text_writer.proofs.Sinks.{put_three}
use Rattle.instruction_codec.proofs.display.put_base.Goals as goal

pub put-requires : goal.put-requires
put-requires g c = (put_three g.met.S.Sink.laws (base-text c.args.register) c.requires).first

pub put_register-requires : goal.put_register-requires
put_register-requires g c = (put_three g.met.S.Sink.laws (base-text c.args.register) c.requires).second c.put.ensures

pub put-requires-2 : goal.put-requires-2
put-requires-2 g c = (put_three g.met.S.Sink.laws (base-text c.args.register) c.requires).third c.put.ensures c.put_register.ensures

pub returns : goal.returns
returns g c = (put_three g.met.S.Sink.laws (base-text c.args.register) c.requires).taken c.put.ensures c.put_register.ensures c.put-2.ensures
