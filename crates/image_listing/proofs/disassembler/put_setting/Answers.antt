use mathlib.Core.Path.{refl}
use Rattle.text_writer.proofs.Sinks.{put_three}
use Rattle.image_listing.proofs.Texts.{setting-line}
use Rattle.image_listing.proofs.disassembler.put_setting.Goals as goal

pub put_bytes-requires : goal.put_bytes-requires
put_bytes-requires g c = (put_three g.met.S.Sink.laws (setting-line c.args.front.now c.args.value _ refl) c.requires).first

pub put_decimal-requires : goal.put_decimal-requires
put_decimal-requires g c = (put_three g.met.S.Sink.laws (setting-line c.args.front.now c.args.value _ c.from.ensures) c.requires).second c.put_bytes.ensures

pub put_line_end-requires : goal.put_line_end-requires
put_line_end-requires g c = (put_three g.met.S.Sink.laws (setting-line c.args.front.now c.args.value _ c.from.ensures) c.requires).third c.put_bytes.ensures c.put_decimal.ensures

pub returns : goal.returns
returns g c = (put_three g.met.S.Sink.laws (setting-line c.args.front.now c.args.value _ c.from.ensures) c.requires).taken c.put_bytes.ensures c.put_decimal.ensures c.put_line_end.ensures
