-- `image_line::record::read_instruction` meets its contract.
use Rattle.image_line.proofs.Labels.{effect_coded}
use Rattle.image_line.proofs.record.read_instruction.Goals as goal

pub returns : goal.returns
returns c = effect_coded c.args.source.now c.args.line.now c.requires.recorded.kept.places c.args.at c.requires.place_in_range c.in_ok-draft.ensures
