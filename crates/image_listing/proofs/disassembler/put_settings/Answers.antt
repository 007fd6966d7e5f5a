use Rattle.text_lexical.specs.Bytes.{bytes}
use Rattle.image.specs.Settings.{settings}
use Rattle.image.specs.Promised.{settings_meant}
use Rattle.image_listing.proofs.Texts.{settings-lines}
use Rattle.text_writer.proofs.Sinks.{put_three}
use Rattle.image_listing.proofs.disassembler.put_settings.Goals as goal

pub put_setting-requires : goal.put_setting-requires
unfolding bytes settings
put_setting-requires g c = (put_three g.met.S.Sink.laws (settings-lines (settings_meant c.args.config)) c.requires).first

pub put_setting-requires-2 : goal.put_setting-requires-2
unfolding bytes settings
put_setting-requires-2 g c = (put_three g.met.S.Sink.laws (settings-lines (settings_meant c.args.config)) c.requires).second c.put_setting.ensures

pub put_setting-requires-3 : goal.put_setting-requires-3
unfolding bytes settings
put_setting-requires-3 g c = (put_three g.met.S.Sink.laws (settings-lines (settings_meant c.args.config)) c.requires).third c.put_setting.ensures c.put_setting-2.ensures

pub returns : goal.returns
unfolding bytes settings
returns g c = (put_three g.met.S.Sink.laws (settings-lines (settings_meant c.args.config)) c.requires).taken c.put_setting.ensures c.put_setting-2.ensures c.put_setting-3.ensures
