use Rattle.instruction_codec.proofs.Pieces.{r-type-text}
use Rattle.text_writer.proofs.Sinks.{put_three}
use Rattle.instruction_codec.proofs.display.put_r_type.Goals as goal

pub put_start-requires : goal.put_start-requires
put_start-requires g c = (put_three g.met.S.Sink.laws (r-type-text c.args.mnemonic c.args.rd c.args.rs1 c.args.rs2) c.requires).first

pub put_next-requires : goal.put_next-requires
put_next-requires g c = (put_three g.met.S.Sink.laws (r-type-text c.args.mnemonic c.args.rd c.args.rs1 c.args.rs2) c.requires).second c.put_start.ensures

pub put_register-requires : goal.put_register-requires
put_register-requires g c = (put_three g.met.S.Sink.laws (r-type-text c.args.mnemonic c.args.rd c.args.rs1 c.args.rs2) c.requires).third c.put_start.ensures c.put_next.ensures

pub returns : goal.returns
returns g c = (put_three g.met.S.Sink.laws (r-type-text c.args.mnemonic c.args.rd c.args.rs1 c.args.rs2) c.requires).taken c.put_start.ensures c.put_next.ensures c.put_register.ensures
