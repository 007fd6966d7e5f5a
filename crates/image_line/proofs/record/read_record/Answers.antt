use mathlib.Core.Logic.{inl, inr}
use Rattle.text.proofs.NameSets.{present-naming}
use Rattle.image_line.proofs.Records.{recorded, line_bad, line_empty, line_ignored, line_config, line_plain, line_labelled}
use Rattle.image_line.proofs.record.read_record.Goals as goal

pub line_kind-requires : goal.line_kind-requires
line_kind-requires c = recorded present-naming c.args.start c.in-Ok.ensures

pub read_config-effect-requires : goal.read_config-effect-requires
read_config-effect-requires c = recorded present-naming c.args.start c.in-Ok.ensures

pub after_label-effect-requires-clause-recorded : goal.after_label-effect-requires-clause-recorded
after_label-effect-requires-clause-recorded c = recorded present-naming c.args.start c.in-Ok.ensures

pub read_instruction-effect-requires-clause-recorded : goal.read_instruction-effect-requires-clause-recorded
read_instruction-effect-requires-clause-recorded c = recorded present-naming c.args.start c.in-Ok.ensures

pub returns-in-Err : goal.returns-in-Err
returns-in-Err c = line_bad present-naming c.requires c.in-Err.ensures

pub returns-in-Empty : goal.returns-in-Empty
returns-in-Empty c =
    elim c.in-Empty.is [
      | inl e ↦ line_empty present-naming c.requires c.in-Ok.ensures (rw e at c.line_kind.ensures)
      | inr e ↦ line_ignored present-naming c.requires c.in-Ok.ensures (rw e at c.line_kind.ensures)
    ]

pub returns-in-Config : goal.returns-in-Config
returns-in-Config c = line_config present-naming c.requires c.in-Ok.ensures (rw c.in-Config.is at c.line_kind.ensures) c.read_config-effect.ensures

pub returns-in-Label : goal.returns-in-Label
returns-in-Label c = line_labelled present-naming c.requires c.in-Ok.ensures (rw c.in-Label.is at c.line_kind.ensures) c.after_label-effect.ensures

pub returns-in-Plain : goal.returns-in-Plain
returns-in-Plain c = line_plain present-naming c.requires c.in-Ok.ensures (rw c.in-Plain.is at c.line_kind.ensures) c.read_instruction-effect.ensures
