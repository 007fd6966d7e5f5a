use Rattle.text_writer.proofs.Sinks.{put_two}
use Rattle.image.specs.Promised.{settings_meant}
use Rattle.image_listing.proofs.Texts.{all-lines, puts-words}
use Rattle.image_listing.proofs.disassembler.put_text.Goals as goal

pub put_settings-requires : goal.put_settings-requires
put_settings-requires g c = (put_two g.met.S.Sink.laws (all-lines (settings_meant c.args.config) _) c.requires).first

pub put_words-requires : goal.put_words-requires
put_words-requires g c = (put_two g.met.S.Sink.laws (all-lines (settings_meant c.args.config) _) c.requires).second c.put_settings.ensures

pub returns : goal.returns
returns g c = puts-words _ c.put_words.result ((put_two g.met.S.Sink.laws (all-lines (settings_meant c.args.config) _) c.requires).taken c.put_settings.ensures) c.put_words.ensures
